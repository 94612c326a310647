-- A step as a run of turns.
use Rattle.std.proofs.Common.{◌≡◌, ℕ, zero, suc, ◌+◌, Option, Some, None, arith, refl, ap, subst, ◌∙◌}
use Rattle.emp_dict.specs.Dictionary.{Dictionary, exchanged}
use Rattle.emp_step.specs.declared.outcome.Outcome.{Outcome}
use Rattle.emp_step.specs.Steps.{Look, over, turn, End, ended, too_wide, spent, Stepped, stepped, with_none, with_more, by_pivot, repeated}
use Rattle.emp_turns.specs.Loop.{after, then_on}

module _ (look : Dictionary → Look) where
  pub repeated_over : (n : ℕ) (d : Dictionary) (o : Outcome) → look d ≡ over o → repeated look n d ≡ stepped (ended o) d n
  repeated_over zero d o e = ap (with_none d) e
  repeated_over (suc n) d o e = ap (with_more (repeated look n) n d) e

  pub repeated_spent : (d : Dictionary) (r j : ℕ) → look d ≡ turn r j → repeated look 0 d ≡ stepped spent d 0
  repeated_spent d r j e = ap (with_none d) e

  pub repeated_wide : (n : ℕ) (d : Dictionary) (r j : ℕ) → look d ≡ turn r j → exchanged d r j ≡ None → repeated look (suc n) d ≡ stepped too_wide d n
  repeated_wide n d r j e w = ap (with_more (repeated look n) n d) e ∙ ap (by_pivot (repeated look n) n d) w

  pub repeated_more : (n : ℕ) (d f : Dictionary) (r j : ℕ) → look d ≡ turn r j → exchanged d r j ≡ Some f → repeated look (suc n) d ≡ repeated look n f
  repeated_more n d f r j e w = ap (with_more (repeated look n) n d) e ∙ ap (by_pivot (repeated look n) n d) w

-- the dictionary after the turn that a look names, where there is one
abbrev pub by_look : Dictionary → Look → Option Dictionary
by_look d (over o) = None
by_look d (turn r j) = exchanged d r j

abbrev pub next : (Dictionary → Look) → Dictionary → Option Dictionary
next look d = by_look d (look d)

-- why a step ended where it did
pub record Asked (look : Dictionary → Look) (d : Dictionary) : Type 0 where
  pub row : ℕ
  pub column : ℕ
  pub is : look d ≡ turn row column

abbrev pub Why : (Dictionary → Look) → End → Dictionary → ℕ → ℕ → ℕ → Type 0
Why look (ended o) d m left n = (look d ≡ over o) × (m + left ≡ n)
Why look too_wide d m left n = Asked look d × (next look d ≡ None) × (m + 1 + left ≡ n)
Why look spent d m left n = Asked look d × (left ≡ 0) × (m ≡ n)

-- a step made m turns, and then ended
pub record Ran (look : Dictionary → Look) (n : ℕ) (d : Dictionary) (s : Stepped) : Type 0 where
  pub turns : ℕ
  pub path : after (next look) turns d ≡ Some s.dictionary
  pub why : Why look s.end s.dictionary turns s.left n

pub ran : (look : Dictionary → Look) (n : ℕ) (d : Dictionary) → Ran look n d (repeated look n d)
ran look zero d = go (look d) refl
  where
    go : (l : Look) → look d ≡ l → Ran look 0 d (with_none d l)
    go (over o) e = record { turns = 0; path = refl; why = (e, refl) }
    go (turn r j) e = record { turns = 0; path = refl; why = (record { row = r; column = j; is = e }, refl, refl) }
ran look (suc n) d = go (look d) refl (λ f. ran look n f)
  where
    more : (e : Dictionary) → next look d ≡ Some e → (s : Stepped) → Ran look n e s → Ran look (suc n) d s
    more e q s t = record { turns = suc t.turns; path = ap (then_on (after (next look) t.turns)) q ∙ t.path; why = why s.end t.why }
      where
        why : (x : End) → Why look x s.dictionary t.turns s.left n → Why look x s.dictionary (suc t.turns) s.left (suc n)
        why (ended o) w = (w.0, let c = w.1 in omega arith)
        why too_wide w = (w.0, w.1, let c = w.2 in omega arith)
        why spent w = (w.0, w.1, let c = w.2 in omega arith)

    by : (r j : ℕ) → look d ≡ turn r j → (o : Option Dictionary) → exchanged d r j ≡ o → ((f : Dictionary) → Ran look n f (repeated look n f)) → Ran look (suc n) d (by_pivot (repeated look n) n d o)
    by r j e None w rest = record { turns = 0; path = refl; why = (record { row = r; column = j; is = e }, ap (by_look d) e ∙ w, omega arith) }
    by r j e (Some f) w rest = more f (ap (by_look d) e ∙ w) (repeated look n f) (rest f)

    go : (l : Look) → look d ≡ l → ((f : Dictionary) → Ran look n f (repeated look n f)) → Ran look (suc n) d (with_more (repeated look n) n d l)
    go (over o) e rest = record { turns = 0; path = refl; why = (e, omega arith) }
    go (turn r j) e rest = by r j e (exchanged d r j) refl rest

-- what each turn keeps, the step keeps
pub kept : (P : Dictionary → Type 0) (look : Dictionary → Look) → ((d e : Dictionary) → P d → next look d ≡ Some e → P e) → (m : ℕ) (d e : Dictionary) → P d → after (next look) m d ≡ Some e → P e
kept P look one zero d e p h = let same : d ≡ e = cc in subst (λ x. P x) same p
kept P look one (suc m) d e p h = go (next look d) refl h (λ f q k. kept P look one m f e q k)
  where
    go : (o : Option Dictionary) → next look d ≡ o → then_on (after (next look) m) o ≡ Some e → ((f : Dictionary) → P f → after (next look) m f ≡ Some e → P e) → P e
    go None q h rest = absurd (cc)
    go (Some f) q h rest = rest f (one d f p q) h
