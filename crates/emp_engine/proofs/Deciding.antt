-- What `solve` answers over an accepted pair.
use Rattle.std.proofs.Common.{◌≡◌, ◌≢◌, ℕ, ◌⊎◌, inl, inr, true, List, refl, sym, ap, ◌∙◌}
use Rattle.emp_desk.specs.Desk.{Contents}
use Rattle.emp_ast.specs.declared.model.Model.{Model}
use Rattle.emp_ast.specs.declared.annot.Annot.{Annot}
use Rattle.emp_command.specs.declared.words.Verb.TheVariants.{Solve, Check, Print, Migrate}
use Rattle.emp_command.specs.Words.{Asked}
use Rattle.emp_command.specs.Course.{Outcome}
use Rattle.emp_poly.specs.declared.tree.PolyFault.TheVariants as PolyWords
use Rattle.emp_walk.specs.declared.fault.WalkFault.{WalkFault}
use Rattle.emp_walk.specs.declared.fault.WalkFault.TheVariants as WalkWords
use Rattle.emp_cert.specs.declared.cert.Found.{Found}
use Rattle.emp_cert.specs.declared.cert.Verdict.{Verdict}
use Rattle.emp_cert.specs.declared.cert.Verdict.TheVariants.{Point, Missing, Best, Unbounded}
use Rattle.emp_solution.specs.declared.state.Stated.{Stated}
use Rattle.emp_solution.specs.declared.state.StateFault.{StateFault}
use Rattle.emp_solution.specs.declared.state.StateFault.TheVariants as StateWords
use Rattle.emp_accepted.specs.Accepted.{IsAcceptedPair}
use Rattle.emp_accepted.specs.Laws.{IsWideFault}
use Rattle.emp_accepted.proofs.Faults.{accepted_are_stated, accepted_break_none}
use Rattle.emp_outcome_laws.proofs.Answering.{one_answer}
use Rattle.emp_outcomes.specs.Outcomes.{state_status, IsNamedFault, Refuses, bad_owner, unstated, walk_status, ReportOf, Solves, refused, unfinished, unfilled, too_long, answered}
use Rattle.emp_answers.specs.Answers.{Does, prints, solves, checks, migrates}
use Rattle.emp_engine.specs.Run.{IsSolve, IsDone, is_decision, IsDecided}
use Rattle.emp_engine.proofs.Verbs.{solve_verb}
use Rattle.emp_engine.proofs.Headline.{not_verbs, print_not, check_not, migrate_not}

wide_status : (f : StateFault) → IsNamedFault f → IsWideFault f → state_status f ≡ 19
wide_status (StateWords.Poly (PolyWords.Degree p)) n w = absurd w
wide_status (StateWords.Poly (PolyWords.DivideByVariable p)) n w = absurd w
wide_status (StateWords.Poly (PolyWords.DivideByZero p)) n w = absurd w
wide_status (StateWords.Poly (PolyWords.Wide p)) n w = refl
wide_status (StateWords.Poly PolyWords.NoMemory) n w = absurd n
wide_status (StateWords.Quadratic e u v) n w = absurd w
wide_status (StateWords.LeaderNotLinear u v) n w = absurd w
wide_status (StateWords.NotConvex b k) n w = absurd w
wide_status (StateWords.WideCurve b k) n w = refl
wide_status StateWords.TooLarge n w = absurd w
wide_status (StateWords.WideRow k) n w = refl
wide_status StateWords.NoMemory n w = absurd n

module _ (m : Model) (a : Annot) (pair : IsAcceptedPair m a) where
  refuses_wide : (o : Outcome) → Refuses m a o → o.status ≡ 19
  refuses_wide o (bad_owner f n b) = absurd (accepted_break_none m a f n pair b)
  refuses_wide o (unstated f n k g) = wide_status f n (accepted_are_stated m a f pair g)

  decides : (s t : ℕ) → t ≡ s → is_decision s ≡ true → is_decision t ≡ true
  decides s t e h = ap is_decision e ∙ h

  walk_decides : (f : WalkFault) → f ≢ WalkWords.NoMemory → is_decision (walk_status f) ≡ true
  walk_decides (WalkWords.Wide node pivot) n = refl
  walk_decides (WalkWords.Spent limit) n = refl
  walk_decides WalkWords.NoMemory n = absurd (n refl)

  report_decides : (s : Stated) (f : Found) (v : Verdict) (t : ℕ × List ℕ) → ReportOf m a s f v t → is_decision t.0 ≡ true
  report_decides s f (Point fs) t h = decides 0 t.0 (ap (λ r. r.0) h.is) refl
  report_decides s f (Missing tree) t h = decides 1 t.0 (ap (λ r. r.0) h) refl
  report_decides s f (Best fs tree) t h = decides 0 t.0 (ap (λ r. r.0) h.is) refl
  report_decides s f (Unbounded fs gs) t h = decides 2 t.0 (ap (λ r. r.0) h.is) refl

  solves_decides : (r : Asked) (o : Outcome) → Solves m a r o → is_decision o.status ≡ true
  solves_decides r o (refused p h) = decides 19 p.status (refuses_wide p h) refl
  solves_decides r o (unfinished s f n i g) = walk_decides f n
  solves_decides r o (unfilled s f w i g u) = refl
  solves_decides r o (too_long s f t i g k l) = refl
  solves_decides r o (answered s f t i g k l) = report_decides s f f.cert.verdict t k

  solves_of : (r : Asked) (rest : List (List ℕ)) (o : Outcome) → Does m a r rest o → r.verb ≡ Solve → Solves m a r o
  solves_of r rest o (prints t v c) w = absurd (print_not (not_verbs r.verb Print Solve v w))
  solves_of r rest o (solves p v h) w = h
  solves_of r rest o (checks ct p v h) w = absurd (check_not (not_verbs r.verb Check Solve v w))
  solves_of r rest o (migrates ct name p v n h) w = absurd (migrate_not (not_verbs r.verb Migrate Solve v w))

  pub is_decided : (words : List (List ℕ)) (x y : Contents) (end : ℕ) → IsSolve words → IsDone words m a x y end → IsDecided words m a x y end
  is_decided words x y end s d =
      let h = solves_of d.request _ d.outcome d.does (solve_verb words d.request s d.asked) in
      record {
        request = d.request;
        asked = d.asked;
        outcome = d.outcome;
        solves = h;
        only = λ o k. one_answer m a d.request o d.outcome k h;
        refused = λ r. sym d.is ∙ refuses_wide d.outcome r;
        is = d.is;
        decision = decides d.outcome.status end (sym d.is) (solves_decides d.request d.outcome h);
        between = d.between;
        stored = d.stored;
        said = d.said;
      }

  pub either_decided : (words : List (List ℕ)) (x y : Contents) (end : ℕ) → IsSolve words → (end ≡ 21) ⊎ IsDone words m a x y end → (end ≡ 21) ⊎ IsDecided words m a x y end
  either_decided words x y end s (inl e) = inl e
  either_decided words x y end s (inr d) = inr (is_decided words x y end s d)
