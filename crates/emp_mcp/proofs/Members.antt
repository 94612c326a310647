-- The laws of the step from a complementarity model to its file.
use Rattle.std.proofs.Common.{◌≡◌, List, length, sym, ap, subst, ◌∙◌}
use Rattle.std.specs.Prelude.{slice_index_or}
use Rattle.std.proofs.lemmas.List.{length-map}
use Rattle.emp_num.specs.Point.{Point}
use Rattle.emp_num.specs.SamePoint.{SamePoint}
use Rattle.emp_num.proofs.SamePoints.{same_itself}
use Rattle.emp_ast.specs.declared.model.Model.{Model}
use Rattle.emp_ast.specs.declared.annot.Annot.{Annot}
use Rattle.emp_ast.specs.Rivals.{Fits}
use Rattle.emp_ast.specs.Equilibrium.{IsEquilibrium}
use Rattle.emp_mcp.specs.Complementary.{Match}
use Rattle.emp_mcp.specs.Target.{problem_variables, no_variable, IsTarget}
use Rattle.emp_mcp.specs.Members.{FitsMcp, SolvesMcp, IsMcp}
use Rattle.emp_mcp.proofs.Targets as Targets
use Rattle.emp_mcp.proofs.Targets.{showing}

target_length : (m : Model) (ms : List Match) (t : Model) → IsTarget m ms t → length t.variables ≡ length (problem_variables m ms)
target_length m ms t h = ap length h.variables ∙ length-map (problem_variables m ms) (λ v. slice_index_or m.variables v no_variable)

pub keeps : (m : Model) (ms : List Match) (t : Model) (a : Annot) (p : Point) → IsMcp m ms t a → Fits t p → FitsMcp m ms p
keeps m ms t a p w h = h ∙ target_length m ms t w.target

pub sound : (m : Model) (ms : List Match) (t : Model) (a : Annot) (p : Point) → IsMcp m ms t a → IsEquilibrium t a p → SolvesMcp m ms p
sound m ms t a p w h = record {
  fits = keeps m ms t a p w h.fits;
  complementary = λ q s. Targets.sound m ms t p q w.matches w.target s (subst (λ b. IsEquilibrium t b p) w.annot h);
}

pub lifts : (m : Model) (ms : List Match) (t : Model) (a : Annot) (p : Point) → IsMcp m ms t a → SolvesMcp m ms p → (q : Point) × IsEquilibrium t a q × SamePoint q p
lifts m ms t a p w h =
    let q = showing m ms p h.fits in
    (p, subst (λ b. IsEquilibrium t b p) (sym w.annot) (Targets.lifts m ms t p q.0 w.matches w.target q.1 (h.complementary q.0 q.1)), same_itself p)
