-- Lexemes have one first fault, and none where they stand for an annotation.
use Rattle.std.proofs.Common.{◌≡◌, append-nil, Bool, true, false, cond, List, [], ◌∷◌, ◌++◌, Option, Some, None, refl, sym, ap, ◌∙◌}
use Rattle.emp_ast.specs.declared.tree.Place.{Place}
use Rattle.emp_ast.specs.declared.annot.Annot.{Annot}
use Rattle.info_read.specs.declared.lexeme.Sort.{Sort}
use Rattle.info_read.specs.declared.lexeme.Sort.TheVariants.{Variable, Equation, Unknown}
use Rattle.info_read.specs.declared.lexeme.Lexeme.{Lexeme}
use Rattle.info_read.specs.declared.fault.InfoFault.{InfoFault}
use Rattle.info_read.specs.declared.fault.InfoFault.TheVariants.{Syntax, Unknown as UnknownName, WrongKind}
use Rattle.info_read.specs.declared.stage.Stage.{Stage}
use Rattle.info_read.specs.declared.draft.Draft.{Draft}
use Rattle.info_read.specs.Grammar.{Stands}
use Rattle.info_read.specs.Faults.{Begins, IsKnown, IsName, TakesName, IsMisfit, HasFault, ends, unknown, wrong_kind, misplaced}
use Rattle.info_read.specs.Machine.{takes_name, closed, step, start_draft, run, then, named_fault, fault_by, fault_at, is_whole}
use Rattle.info_read.proofs.Runs.{joined, onward, one}
use Rattle.info_read.proofs.Agree.{accepted, accepts, begun, no_takes, takes}

module _ (end : Place) where
  -- the fault at which the machine stops
  abbrev fault_after : Option Draft → (Draft → Option InfoFault) → Stage → Lexeme → Option InfoFault
  fault_after None rest s t = Some (fault_at s t)
  fault_after (Some e) rest s t = rest e

  abbrev pub first_fault : Draft → List Lexeme → Option InfoFault
  first_fault d [] = cond (is_whole d) None (Some (Syntax end))
  first_fault d (t ∷ ts) = fault_after (step d t.sort) (λ e. first_fault e ts) d.stage t

  later_by : (d e : Draft) (t : Lexeme) (ts us : List Lexeme) (o : Option Draft) → ((f : Draft) → run f ts ≡ Some e → first_fault f (ts ++ us) ≡ first_fault e us) → then o (λ f. run f ts) ≡ Some e → fault_after o (λ f. first_fault f (ts ++ us)) d.stage t ≡ first_fault e us
  later_by d e t ts us None rest h = cc
  later_by d e t ts us (Some f) rest h = rest f h

  same_draft : (d e : Draft) → Some d ≡ Some e → d ≡ e
  same_draft d e h = cc

  later : (e : Draft) (us ts : List Lexeme) (d : Draft) → run d ts ≡ Some e → first_fault d (ts ++ us) ≡ first_fault e us
  later e us [] d h = ap (λ x. first_fault x us) (same_draft d e h)
  later e us (t ∷ ts) d h = later_by d e t ts us (step d t.sort) (later e us ts) h

  later_end : (d : Draft) (ts : List Lexeme) (b : Bool) → run start_draft ts ≡ Some d → is_whole d ≡ b → first_fault start_draft ts ≡ cond b None (Some (Syntax end))
  later_end d ts b h w = ap (first_fault start_draft) (sym (append-nil ts)) ∙ (later d [] ts start_draft h ∙ ap (λ b. cond b None (Some (Syntax end))) w)

  pub none_stands : (ts : List Lexeme) (a : Annot) → Stands ts a → first_fault start_draft ts ≡ None
  none_stands ts a h = let r = accepts ts a h in later_end r.end ts true r.runs r.whole

  -- where lexemes begin an annotation the machine has taken them
  record Taken (ts : List Lexeme) : Type 0 where
    draft : Draft
    runs : run start_draft ts ≡ Some draft

  taken_by : (ts more : List Lexeme) (d : Draft) (o : Option Draft) → run start_draft ts ≡ o → then o (λ e. run e more) ≡ Some d → Taken ts
  taken_by ts more d None h k = cc
  taken_by ts more d (Some e) h k = record { draft = e; runs = h }

  taken : (ts : List Lexeme) → Begins ts → Taken ts
  taken ts b =
      let r = accepts (ts ++ b.0) b.1 b.2 in
      taken_by ts b.0 r.end (run start_draft ts) refl (sym (joined ts b.0 start_draft) ∙ r.runs)

  not_true : (b : Bool) → (b ≡ true → ⊥) → b ≡ false
  not_true true n = absurd (n refl)
  not_true false n = refl

  not_false : (b : Bool) → (b ≡ false → ⊥) → b ≡ true
  not_false true n = refl
  not_false false n = absurd (n refl)

  no_step : (d : Draft) (before : List Lexeme) (t : Lexeme) (o : Option Draft) → run start_draft before ≡ Some d → step d t.sort ≡ o → (Begins (before ++ t ∷ []) → ⊥) → step d t.sort ≡ None
  no_step d before t None h s n = s
  no_step d before t (Some e) h s n = absurd (n (begun (before ++ t ∷ []) e (onward start_draft d (Some e) before (t ∷ []) h (one d (Some e) t t.sort refl s))))

  module _ (ts before : List Lexeme) (t : Lexeme) (m : IsMisfit ts before t) where
    stop : Draft
    stop = (taken before m.begins).draft

    stop_runs : run start_draft before ≡ Some stop
    unfolding stop taken
    stop_runs = (taken before m.begins).runs

    at_misfit : first_fault start_draft ts ≡ Some (fault_at stop.stage t)
    at_misfit =
        let s : step stop t.sort ≡ None = no_step stop before t (step stop t.sort) stop_runs refl m.stops in
        ap (first_fault start_draft) m.is ∙ (later stop (t ∷ m.after) before start_draft stop_runs ∙ ap (λ o. fault_after o (λ e. first_fault e m.after) stop.stage t) s)

    takes_one : TakesName before → takes_name stop.stage ≡ true
    takes_one k = not_false (takes_name stop.stage) (λ n. no_takes before stop stop_runs n k)

    takes_none : (TakesName before → ⊥) → takes_name stop.stage ≡ false
    takes_none n = not_true (takes_name stop.stage) (λ k. n (takes before stop stop_runs k))

    known_fault : (q : Sort) → IsKnown q → takes_name stop.stage ≡ true → fault_by stop.stage t.place q ≡ WrongKind t.place
    known_fault (Variable v) k e = ap (λ b. named_fault b (WrongKind t.place) t.place) e
    known_fault (Equation v) k e = ap (λ b. named_fault b (WrongKind t.place) t.place) e
    known_fault q k e = absurd k

    misplaced_fault : (q : Sort) → (IsName q → TakesName before → ⊥) → fault_by stop.stage t.place q ≡ Syntax t.place
    misplaced_fault (Variable v) n = ap (λ b. named_fault b (WrongKind t.place) t.place) (takes_none (n tt))
    misplaced_fault (Equation v) n = ap (λ b. named_fault b (WrongKind t.place) t.place) (takes_none (n tt))
    misplaced_fault Unknown n = ap (λ b. named_fault b (UnknownName t.place) t.place) (takes_none (n tt))
    misplaced_fault q n = refl

  pub fault_first : (ts : List Lexeme) (f : InfoFault) → HasFault ts end f → first_fault start_draft ts ≡ Some f
  fault_first ts f (ends b n) =
      let r = taken ts b in
      later_end r.draft ts false r.runs (not_true (is_whole r.draft) (λ w. n (closed r.draft) (accepted ts r.draft r.runs w)))
  fault_first ts f (unknown before t m q k) =
      at_misfit ts before t m ∙ ap Some (ap (fault_by (stop ts before t m).stage t.place) q ∙ ap (λ b. named_fault b (UnknownName t.place) t.place) (takes_one ts before t m k))
  fault_first ts f (wrong_kind before t m q k) = at_misfit ts before t m ∙ ap Some (known_fault ts before t m t.sort q (takes_one ts before t m k))
  fault_first ts f (misplaced before t m n) = at_misfit ts before t m ∙ ap Some (misplaced_fault ts before t m t.sort n)

  same_fault : (f g : InfoFault) → Some f ≡ Some g → f ≡ g
  same_fault f g h = cc

  pub one_fault : (ts : List Lexeme) (f g : InfoFault) → HasFault ts end f → HasFault ts end g → f ≡ g
  one_fault ts f g h k = same_fault f g (sym (fault_first ts f h) ∙ fault_first ts g k)

  none_some : (o : Option InfoFault) (f : InfoFault) → o ≡ None → o ≡ Some f → ⊥
  none_some o f h k = cc

  pub not_both : (ts : List Lexeme) (a : Annot) (f : InfoFault) → Stands ts a → HasFault ts end f → ⊥
  not_both ts a f h k = none_some (first_fault start_draft ts) f (none_stands ts a h) (fault_first ts f k)
