-- The place at which lexemes stop beginning a grammatical text: the machine finds it, and it is one.
use Rattle.std.proofs.Common.{◌≡◌, ◌<◌, ◌≤◌, ◌+◌, ℕ, Bool, true, false, cond, List, [], ◌∷◌, ◌++◌, Option, Some, None, inl, inr, refl, sym, ap, subst, ◌∙◌, take, drop, get_or, length, append_assoc, append-nil}
use Rattle.std.proofs.lemmas.List.{take_more, take_all, take-append-drop, drop_more}
use Rattle.emp_ast.specs.declared.tree.Place.{Place}
use Rattle.gms_grammar.specs.declared.kind.Kind.{Kind}
use Rattle.gms_grammar.specs.declared.fault.ModelFault.TheVariants.{Syntax}
use Rattle.gms_grammar.specs.declared.lexeme.Lexeme.{Lexeme}
use Rattle.gms_grammar.specs.declared.item.Item.{Item}
use Rattle.gms_grammar.specs.declared.symbol.Symbol.{Symbol}
use Rattle.gms_grammar.specs.declared.symbol.Symbol.TheVariants.{File}
use Rattle.gms_grammar.specs.Grammar.{Statement, IsFileOf}
use Rattle.gms_grammar.specs.Items.{items_of}
use Rattle.gms_grammar.specs.Syntax.{BeginsText, IsWrongAt}
use Rattle.gms_grammar.specs.Steps.{AreItems, RefusesLexemes}
use Rattle.gms_grammar.specs.Machine.{State, run, run_from, step, is_over, Steps}
use Rattle.gms_grammar.proofs.Writing.{runs}
use Rattle.gms_grammar.proofs.Complete.{file_read}
use Rattle.gms_grammar.proofs.Completing.{Settled, completes, settled_step}
use Rattle.gms_grammar.proofs.Agree.{reading, accepted, none_some, refused}

module _ (kind : Kind) where
  -- the machine has taken the lexemes and stands there
  pub record Reached (before : List Lexeme) (s : List Symbol) (out : List Item) : Type 0 where
    pub settled : Settled s
    pub goes_on : (rest : List Lexeme) → reading kind (before ++ rest) ≡ run s out rest

  pub reached_start : Reached [] (File kind ∷ []) []
  reached_start = record { settled = refl; goes_on = λ rest. refl }

  pub reached_more : (before : List Lexeme) (s r : List Symbol) (out o : List Item) (t : Lexeme) → Reached before s out → step s out t ≡ Some (record { stack = r; out = o }) → Reached (before ++ t ∷ []) r o
  reached_more before s r out o t h e = record {
    settled = settled_step s out t r o h.settled e;
    goes_on = λ rest. ap (reading kind) (append_assoc before (t ∷ []) rest) ∙ h.goes_on (t ∷ rest) ∙ ap (λ q. run_from q rest) e;
  }

  pub reached_begins : (before : List Lexeme) (s : List Symbol) (out : List Item) → Reached before s out → BeginsText kind before
  reached_begins before s out h =
      let e = completes s h.settled in
      let a = accepted kind (before ++ (e.first ∷ e.more)) (out ++ e.written) (h.goes_on (e.first ∷ e.more) ∙ runs out e.writes) in
      record { rest = e.first ∷ e.more; statements = a.statements; file = a.file }

  reached_stops : (before : List Lexeme) (s : List Symbol) (out : List Item) (t : Lexeme) → Reached before s out → step s out t ≡ None → BeginsText kind (before ++ t ∷ []) → ⊥
  reached_stops before s out t h e b =
      let same : (before ++ t ∷ []) ++ b.rest ≡ before ++ (t ∷ b.rest) = append_assoc before (t ∷ []) b.rest in
      let file : IsFileOf kind (before ++ (t ∷ b.rest)) b.statements = subst (λ ts. IsFileOf kind ts b.statements) same b.file in
      none_some (items_of b.statements) (reading kind (before ++ (t ∷ b.rest))) (h.goes_on (t ∷ b.rest) ∙ ap (λ q. run_from q b.rest) e) (runs [] (file_read file))

  -- ---- the loop
  pub reached_step : (ts : List Lexeme) (i : ℕ) (s r : List Symbol) (out o : List Item) (t : Lexeme) → i < length ts → t ≡ get_or ts i t → Reached (take i ts) s out → Steps (step s out t) r o true → Reached (take (i + 1) ts) r o
  reached_step ts i s r out o t l e h k = subst (λ b. Reached b r o) (sym (take_more ts i t l ∙ ap (λ x. take i ts ++ x ∷ []) (sym e))) (reached_more (take i ts) s r out o t h k)

  pub lexeme_refused : (ts : List Lexeme) (end : Place) (i : ℕ) (s : List Symbol) (out : List Item) (t : Lexeme) → i < length ts → t ≡ get_or ts i t → Reached (take i ts) s out → step s out t ≡ None → RefusesLexemes kind ts end (Syntax t.place)
  lexeme_refused ts end i s out t l e h none = inr (
    t.place,
    refl,
    inl record {
      before = take i ts;
      here = t;
      rest = drop (i + 1) ts;
      is = sym (take-append-drop i ts) ∙ ap (λ xs. take i ts ++ xs) (drop_more ts i t l ∙ ap (λ x. x ∷ drop (i + 1) ts) (sym e));
      begins = reached_begins (take i ts) s out h;
      stops = reached_stops (take i ts) s out t h none;
      place = refl;
    },
  )

  reached_end : (ts : List Lexeme) (i : ℕ) (s : List Symbol) (out : List Item) → length ts ≤ i → Reached (take i ts) s out → Reached ts s out
  reached_end ts i s out l h = subst (λ b. Reached b s out) (take_all i ts l) h

  over_is : (ts : List Lexeme) (s : List Symbol) (out : List Item) (b : Bool) → Reached ts s out → is_over s ≡ b → reading kind ts ≡ cond b (Some out) None
  over_is ts s out b h e = ap (reading kind) (sym (append-nil ts)) ∙ h.goes_on [] ∙ ap (λ b. cond b (Some out) None) e

  pub end_accepted : (ts : List Lexeme) (i : ℕ) (s : List Symbol) (out : List Item) → length ts ≤ i → Reached (take i ts) s out → is_over s ≡ true → AreItems kind ts out
  end_accepted ts i s out l h e = accepted kind ts out (over_is ts s out true (reached_end ts i s out l h) e)

  unfinished : (ts : List Lexeme) (end : Place) (s : List Symbol) (out : List Item) → Reached ts s out → is_over s ≡ false → IsWrongAt kind ts end end
  unfinished ts end s out h e = inr record { begins = reached_begins ts s out h; none = refused kind ts (over_is ts s out false h e); place = refl }

  pub end_refused : (ts : List Lexeme) (end : Place) (i : ℕ) (s : List Symbol) (out : List Item) → length ts ≤ i → Reached (take i ts) s out → is_over s ≡ false → RefusesLexemes kind ts end (Syntax end)
  end_refused ts end i s out l h e = inr (end, refl, unfinished ts end s out (reached_end ts i s out l h) e)

  -- ---- there is one place, and none where the lexemes are a grammatical text
  pub begins_front : (xs ys : List Lexeme) → BeginsText kind (xs ++ ys) → BeginsText kind xs
  begins_front xs ys b = record { rest = ys ++ b.rest; statements = b.statements; file = subst (λ ts. IsFileOf kind ts b.statements) (append_assoc xs ys b.rest) b.file }

  -- how two parts of one list lie
  data Lies (xs : List Lexeme) (a : Lexeme) (ys : List Lexeme) (b : Lexeme) : Type 0 where
    same : a ≡ b → Lies xs a ys b
    longer : (zs : List Lexeme) → ys ≡ xs ++ a ∷ zs → Lies xs a ys b
    shorter : (zs : List Lexeme) → xs ≡ ys ++ b ∷ zs → Lies xs a ys b

  heads : (a b : Lexeme) (us vs : List Lexeme) → a ∷ us ≡ b ∷ vs → a ≡ b
  heads a b us vs e = cc

  tails : (a b : Lexeme) (us vs : List Lexeme) → a ∷ us ≡ b ∷ vs → us ≡ vs
  tails a b us vs e = cc

  lies : (xs : List Lexeme) (a : Lexeme) (us ys : List Lexeme) (b : Lexeme) (vs : List Lexeme) → xs ++ a ∷ us ≡ ys ++ b ∷ vs → Lies xs a ys b
  lies [] a us [] b vs e = same (heads a b us vs e)
  lies [] a us (y ∷ ys) b vs e = longer ys (ap (λ z. z ∷ ys) (sym (heads a y us (ys ++ b ∷ vs) e)))
  lies (x ∷ xs) a us [] b vs e = shorter xs (ap (λ z. z ∷ xs) (heads x b (xs ++ a ∷ us) vs e))
  lies (x ∷ xs) a us (y ∷ ys) b vs e = go (lies xs a us ys b vs (tails x y (xs ++ a ∷ us) (ys ++ b ∷ vs) e))
    where
      first : x ≡ y
      first = heads x y (xs ++ a ∷ us) (ys ++ b ∷ vs) e

      go : Lies xs a ys b → Lies (x ∷ xs) a (y ∷ ys) b
      go (same h) = same h
      go (longer zs h) = longer zs (λ i. sym first i ∷ h i)
      go (shorter zs h) = shorter zs (λ i. first i ∷ h i)

  no_longer : (xs : List Lexeme) (a : Lexeme) (zs ys : List Lexeme) → (BeginsText kind (xs ++ a ∷ []) → ⊥) → BeginsText kind ys → ys ≡ xs ++ a ∷ zs → ⊥
  no_longer xs a zs ys stops begins e = stops (begins_front (xs ++ a ∷ []) zs (subst (BeginsText kind) (e ∙ sym (append_assoc xs (a ∷ []) zs)) begins))

  pub one_place : (ts : List Lexeme) (end p q : Place) → IsWrongAt kind ts end p → IsWrongAt kind ts end q → p ≡ q
  one_place ts end p q (inl a) (inl b) = go (lies a.before a.here a.rest b.before b.here b.rest (sym a.is ∙ b.is))
    where
      go : Lies a.before a.here b.before b.here → p ≡ q
      go (same h) = a.place ∙ ap (λ t. t.place) h ∙ sym b.place
      go (longer zs h) = absurd (no_longer a.before a.here zs b.before a.stops b.begins h)
      go (shorter zs h) = absurd (no_longer b.before b.here zs a.before b.stops a.begins h)
  one_place ts end p q (inl a) (inr b) = absurd (no_longer a.before a.here a.rest ts a.stops b.begins a.is)
  one_place ts end p q (inr a) (inl b) = absurd (no_longer b.before b.here b.rest ts b.stops a.begins b.is)
  one_place ts end p q (inr a) (inr b) = a.place ∙ sym b.place

  pub not_wrong : (ts : List Lexeme) (ss : List Statement) (end p : Place) → IsFileOf kind ts ss → IsWrongAt kind ts end p → ⊥
  not_wrong ts ss end p f (inl a) =
      no_longer a.before a.here a.rest ts a.stops (record { rest = []; statements = ss; file = subst (λ us. IsFileOf kind us ss) (sym (append-nil ts)) f }) a.is
  not_wrong ts ss end p f (inr a) = a.none ss f

  -- ---- and one of the two is there
  pub data Judged (ts : List Lexeme) (end : Place) : Type 0 where
    right : (items : List Item) → AreItems kind ts items → Judged ts end
    wrong : (p : Place) → IsWrongAt kind ts end p → Judged ts end

  judge_from : (before rest : List Lexeme) (end : Place) (s : List Symbol) (out : List Item) → Reached before s out → Judged (before ++ rest) end
  judge_from before [] end s out h = go (is_over s) refl
    where
      whole : Reached (before ++ []) s out
      whole = subst (λ b. Reached b s out) (sym (append-nil before)) h

      go : (b : Bool) → is_over s ≡ b → Judged (before ++ []) end
      go true e = right out (accepted kind (before ++ []) out (over_is (before ++ []) s out true whole e))
      go false e = wrong end (unfinished (before ++ []) end s out whole e)
  judge_from before (t ∷ rest) end s out h = go (step s out t) refl (λ r o k. judge_from (before ++ t ∷ []) rest end r o k)
    where
      go : (q : Option State) → step s out t ≡ q → ((r : List Symbol) (o : List Item) → Reached (before ++ t ∷ []) r o → Judged ((before ++ t ∷ []) ++ rest) end) → Judged (before ++ t ∷ rest) end
      go None e more = wrong t.place (inl record {
        before = before;
        here = t;
        rest = rest;
        is = refl;
        begins = reached_begins before s out h;
        stops = reached_stops before s out t h e;
        place = refl;
      })
      go (Some q) e more = subst (λ ts. Judged ts end) (append_assoc before (t ∷ []) rest) (more q.stack q.out (reached_more before s q.stack out q.out t h e))

  pub judge : (ts : List Lexeme) (end : Place) → Judged ts end
  judge ts end = judge_from [] ts end (File kind ∷ []) [] reached_start

pub ruleset parsing = (reached_start, reached_step)
