-- The first coordinate whose fold is wide on the way back to a file, as a statement.
use Rattle.std.specs.Prelude.{◌≡◌, ◌↔◌, ℕ, List, Some}
use Rattle.emp_num.specs.Point.{Point, StandsFor}
use Rattle.emp_num.specs.declared.frac.Frac.{Frac}
use Rattle.emp_ast.specs.declared.model.Model.{Model}
use Rattle.emp_ast.specs.declared.annot.Annot.{Annot}
use Rattle.emp_problem.specs.declared.problem.AgentProblem.{AgentProblem}
use Rattle.emp_subst.specs.Fill.{IsFirstWide, spread}
use Rattle.emp_layers.proofs.Wides.{wide_at}

-- at a point that a list of fractions stands for it is the first defined objective, in order of declaration, whose fold has a wide
-- call at these fractions
abbrev pub WideIsFirst : Type 0
WideIsFirst = (m : Model) (a : Annot) (pr : AgentProblem) (p : Point) (fs : List Frac) → StandsFor fs p → (w : ℕ) → (wide_at m a pr p ≡ Some w) ↔ IsFirstWide m a pr (spread m a fs) w
