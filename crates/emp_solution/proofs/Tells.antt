-- What a verdict that is shown of the row system tells of the file.
use Rattle.std.proofs.Common.{◌≡◌, ℤ, Bool, true, false, Option, Some, None, refl, sym, subst}
use Rattle.std.proofs.lemmas.Option.{none-some}
use Rattle.emp_ast.specs.declared.model.Model.{Model}
use Rattle.emp_ast.specs.declared.annot.Annot.{Annot}
use Rattle.emp_rows.specs.declared.affine.Affine.{Affine}
use Rattle.emp_rows.specs.declared.system.RowSystem.{RowSystem}
use Rattle.emp_cert.specs.declared.cert.Verdict.{Verdict}
use Rattle.emp_cert.specs.declared.cert.Verdict.TheVariants.{Point as PointVerdict, Missing, Best, Unbounded}
use Rattle.emp_cert.specs.Verdicts.{VerdictHolds, VerdictShown}
use Rattle.emp_cert.proofs.Shown.{shown_holds}
use Rattle.emp_split.specs.Games.{Leader, Game}
use Rattle.emp_quantities.specs.Over.{IsObjectiveOver}
use Rattle.emp_problem.specs.GameOf.{LeadsAs}
use Rattle.emp_problem.specs.Class.{SolvesBy}
use Rattle.emp_verdict.specs.Laws.{HasRows}
use Rattle.emp_verdict.proofs.Meaning.{file_is_game}
use Rattle.emp_verdict.proofs.Verdicts.{points_solve, missing_have_none, best_are_best}
use Rattle.emp_verdict.proofs.Rays.{rays_are_rays}
use Rattle.emp_solution.specs.Tells.{VerdictTells}
use Rattle.emp_solution.specs.Laws.{StatedTells}
use Rattle.emp_solution.proofs.Rows.{stated_has_rows}

-- the system has an objective exactly where the file has a leader
none_leads : (n : ℤ) (m : Model) (a : Annot) (g : Game) (b : Bool) (o : Option Affine) (l : Option Leader) → IsObjectiveOver n g o l → LeadsAs n m a b l → o ≡ None → b ≡ false
none_leads n m a g false o l over leads none = refl
none_leads n m a g true None None over leads none = absurd leads
none_leads n m a g true None (Some l) over leads none = absurd over
none_leads n m a g true (Some r) l over leads none = absurd (none-some r (sym none))

one_leads : (n : ℤ) (m : Model) (a : Annot) (g : Game) (b : Bool) (o : Option Affine) (l : Option Leader) (r : Affine) → IsObjectiveOver n g o l → LeadsAs n m a b l → o ≡ Some r → b ≡ true
one_leads n m a g true o l r over leads some = refl
one_leads n m a g false None l r over leads some = absurd (none-some r some)
one_leads n m a g false (Some q) None r over leads some = absurd over
one_leads n m a g false (Some q) (Some l) r over leads some = absurd leads

module _ (m : Model) (a : Annot) (s : RowSystem) (rows : HasRows m a s) where
  pub is_equilibrium : s.objective ≡ None → a.bilevel ≡ false
  is_equilibrium none = none_leads rows.times m a rows.game a.bilevel s.objective rows.game.leader rows.system.objective rows.is.leads none

  pub is_bilevel : (r : Affine) → s.objective ≡ Some r → a.bilevel ≡ true
  is_bilevel r some = one_leads rows.times m a rows.game a.bilevel s.objective rows.game.leader r rows.system.objective rows.is.leads some

  pub tells : (v : Verdict) → VerdictShown s v → VerdictHolds s v → VerdictTells m a v
  tells (PointVerdict fs) shown holds = λ q p at file. subst (λ (b : Bool). SolvesBy b m a p) (is_equilibrium shown.0) (points_solve file_is_game m a s p q rows (holds q at) file)
  tells (Missing t) shown holds = λ p. missing_have_none file_is_game m a s p rows holds
  tells (Best fs t) shown holds = λ q p at file. let k = holds q at in best_are_best file_is_game m a s p q rows (is_bilevel shown.0 shown.1) k.0 k.1 file
  tells (Unbounded fs gs) shown holds = λ q d p v at step file fits same. rays_are_rays file_is_game m a s p v q d rows (is_bilevel shown.0 shown.1) (holds q d at step) file fits same

pub stated_tells : StatedTells
stated_tells m a s v h shown = tells m a s.system (stated_has_rows m a s h) v shown (shown_holds s.system v shown)
