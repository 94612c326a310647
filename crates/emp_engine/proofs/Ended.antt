-- The clauses of `run`, from how a call ends.
use Rattle.std.proofs.Common.{◌≡◌, ◌⊎◌, ℕ, true, List, Option, refl, ap, ◌∙◌}
use Rattle.emp_desk.specs.Desk.{Place, Contents, Told}
use Rattle.emp_command.specs.Words.{IsPlain}
use Rattle.emp_command.specs.Course.{Runs}
use Rattle.emp_command.proofs.Telling.{told_map}
use Rattle.emp_engine.specs.Run.{IsAnswer, IsSolve, IsPrint, IsCheck, IsMigrate, IsMake, SaysPoint, ShowsNone, SaysRay, ShowsAccepted, ShowsMigrated, SaysCanonical, ShowsModelFault, ShowsInfoFault, ShowsOwnFault, ShowsNotConvex, ShowsMarket, ShowsCause, is_caused, IsAnswered, IsReachable, Completes, IsComplete, MakesWhole, DoesWhole, DecidesWhole, TestsWhole, MovesWhole, OwnWhole, is_refusal, SaysRefusal, KeepsOthers, NothingRose}
use Rattle.emp_engine.specs.Ends.{Ends}
use Rattle.emp_engine.proofs.Answered.{answered_now, runs_completed, runs_whole, keeps_others}
use Rattle.emp_engine.proofs.Headline.{says_point, shows_none, says_ray}
use Rattle.emp_engine.proofs.Verbs.{solve_verb, print_verb, check_verb, migrate_verb, make_verb}
use Rattle.emp_engine.proofs.Clauses.{says_canonical, shows_accepted, shows_migrated, shows_model_fault, shows_info_fault, shows_own_fault, shows_not_convex}
use Rattle.emp_engine.proofs.Whole.{either_done}
use Rattle.emp_engine.proofs.Selling.{shows_market, either_made}
use Rattle.emp_engine.proofs.Refused.{says_refusal}
use Rattle.emp_engine.proofs.Deciding.{either_decided}
use Rattle.emp_engine.proofs.Tested.{either_tested, either_moved}
use Rattle.emp_engine.proofs.Owned.{either_passes}

module _ (words : List (List ℕ)) (f0 f1 : Place → ℕ) (t0 t1 : Option Contents) (end : ℕ) (ends : Ends words f0 f1 t0 t1 end) where
  abbrev RunsNow : Contents → Contents → Type 0
  RunsNow x y = Runs IsAnswer words f0 f1 x y end

  -- what was answered over the texts tells it
  by_answer : (R : Contents → Contents → Type 0) → is_caused end ≡ true → ((x y : Contents) → IsAnswered words x y end → R x y) → Told R t0 t1
  by_answer R ok h = told_map RunsNow R (λ x y r. h x y (answered_now words f0 f1 x y end ok r)) t0 t1 ends.course

  caused : (s : ℕ) → end ≡ s → is_caused s ≡ true → is_caused end ≡ true
  caused s e ok = ap is_caused e ∙ ok

  pub ends_solved : IsSolve words → end ≡ 0 → Told (SaysPoint words) t0 t1
  ends_solved s e = by_answer (SaysPoint words) (caused 0 e refl) (λ x y n. says_point words x y end n (solve_verb words n.request s n.asked) e)

  pub ends_none : end ≡ 1 → Told (ShowsNone words) t0 t1
  ends_none e = by_answer (ShowsNone words) (caused 1 e refl) (λ x y n. shows_none words x y end n e)

  pub ends_ray : end ≡ 2 → Told (SaysRay words) t0 t1
  ends_ray e = by_answer (SaysRay words) (caused 2 e refl) (λ x y n. says_ray words x y end n e)

  pub ends_accepted : IsCheck words → end ≡ 0 → Told (ShowsAccepted words) t0 t1
  ends_accepted s e = by_answer (ShowsAccepted words) (caused 0 e refl) (λ x y n. shows_accepted words x y end n (check_verb words n.request s n.asked) e)

  pub ends_migrated : IsMigrate words → end ≡ 0 → Told (ShowsMigrated words) t0 t1
  ends_migrated s e = by_answer (ShowsMigrated words) (caused 0 e refl) (λ x y n. shows_migrated words x y end n (migrate_verb words n.request s n.asked) e)

  pub ends_canonical : IsPrint words → end ≡ 0 → Told (SaysCanonical words) t0 t1
  ends_canonical s e = by_answer (SaysCanonical words) (caused 0 e refl) (λ x y n. says_canonical words x y end n (print_verb words n.request s n.asked) e)

  pub ends_model_fault : end ≡ 14 → Told (ShowsModelFault words) t0 t1
  ends_model_fault e = by_answer (ShowsModelFault words) (caused 14 e refl) (λ x y n. shows_model_fault words x y end n e)

  pub ends_info_fault : end ≡ 15 → Told (ShowsInfoFault words) t0 t1
  ends_info_fault e = by_answer (ShowsInfoFault words) (caused 15 e refl) (λ x y n. shows_info_fault words x y end n e)

  pub ends_own_fault : end ≡ 16 → Told (ShowsOwnFault words) t0 t1
  ends_own_fault e = by_answer (ShowsOwnFault words) (caused 16 e refl) (λ x y n. shows_own_fault words x y end n e)

  pub ends_not_convex : end ≡ 18 → Told (ShowsNotConvex words) t0 t1
  ends_not_convex e = by_answer (ShowsNotConvex words) (caused 18 e refl) (λ x y n. shows_not_convex words x y end n e)

  pub ends_market : IsMake words → end ≡ 0 → Told (ShowsMarket words) t0 t1
  ends_market s e = by_answer (ShowsMarket words) (caused 0 e refl) (λ x y n. shows_market words x y end n (make_verb words n.request s n.asked) e)

  pub ends_caused : is_caused end ≡ true → Told (ShowsCause end words) t0 t1
  ends_caused ok = by_answer (ShowsCause end words) ok (λ x y n. n)

  pub ends_files : Told (KeepsOthers words) t0 t1
  ends_files = told_map RunsNow (KeepsOthers words) (λ x y r. keeps_others words f0 f1 x y end r) t0 t1 ends.course

  pub ends_refused : is_refusal end ≡ true → Told (SaysRefusal end words) t0 t1
  ends_refused ok = told_map RunsNow (SaysRefusal end words) (λ x y r. says_refusal words f0 f1 x y end ok r) t0 t1 ends.course

  pub ends_completed : Told (Completes words end) t0 t1
  ends_completed = told_map RunsNow (Completes words end) (λ x y r plain reach. runs_completed words f0 f1 x y plain reach end r) t0 t1 ends.course

  pub ends_tested : Told (TestsWhole words end) t0 t1
  ends_tested = told_map RunsNow (TestsWhole words end) (λ x y r checks h plain reach. either_tested words x checks h y end (runs_completed words f0 f1 x y plain reach end r)) t0 t1 ends.course

  pub ends_moved : Told (MovesWhole words end) t0 t1
  ends_moved = told_map RunsNow (MovesWhole words end) (λ x y r moves h name d o u plain reach. either_moved words x moves h name d o u y end (runs_completed words f0 f1 x y plain reach end r)) t0 t1 ends.course

  module _ (quiet : NothingRose words f0 f1) where
    -- what was answered, where memory sufficed
    whole_now : (x y : Contents) → IsPlain words → IsReachable words x → RunsNow x y → (end ≡ 21) ⊎ IsAnswered words x y end
    whole_now x y plain reach r = runs_whole words f0 f1 x y plain reach end (λ e. quiet.loaded (ends.unread e)) (λ e. quiet.written (ends.unwritten e)) r

    pub ends_whole : Told (IsComplete words end) t0 t1
    ends_whole = told_map RunsNow (IsComplete words end) (λ x y r plain reach. whole_now x y plain reach r) t0 t1 ends.course

    pub ends_made : Told (MakesWhole words end) t0 t1
    ends_made = told_map RunsNow (MakesWhole words end) (λ x y r make plain reach. either_made words x y end make (whole_now x y plain reach r)) t0 t1 ends.course

    pub ends_done : Told (DoesWhole words end) t0 t1
    ends_done = told_map RunsNow (DoesWhole words end) (λ x y r m a plain reach names. either_done words x y end m a names (whole_now x y plain reach r)) t0 t1 ends.course

    pub ends_decided : Told (DecidesWhole words end) t0 t1
    ends_decided = told_map RunsNow (DecidesWhole words end) (λ x y r solves m a pair plain reach names. either_decided m a pair words x y end solves (either_done words x y end m a names (whole_now x y plain reach r))) t0 t1 ends.course

    pub ends_own : Told (OwnWhole words end) t0 t1
    ends_own = told_map RunsNow (OwnWhole words end) (λ x y r checks own plain reach. either_passes words x checks own y end (whole_now x y plain reach r)) t0 t1 ends.course
