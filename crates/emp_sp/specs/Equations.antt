-- When a point with the outcomes meets an equation.
use Rattle.std.specs.Prelude.{◌↔◌, length}
use Rattle.emp_algebra.specs.Vector.{cell}
use Rattle.emp_num.specs.Point.{Point}
use Rattle.emp_ast.specs.declared.model.Equation.{Equation}
use Rattle.emp_ast.specs.Expression.{expression_of}
use Rattle.emp_ast.specs.Meets.{MeetsEquation}
use Rattle.emp_form.specs.Form.{top_at}
use Rattle.emp_form.specs.Expansion.{form, IsPolynomial}
use Rattle.emp_game.specs.Solved.{IsObeyed}
use Rattle.emp_agents.specs.Given.{difference}
use Rattle.emp_sp.specs.Outcomes.{Outcomes, HasRandomFactors, put, HasOutcomes}

-- both sides are polynomials
abbrev pub Expands : Equation → Type 0
Expands q = IsPolynomial (expression_of q.left.nodes) × IsPolynomial (expression_of q.right.nodes)

-- a point with the outcomes meets the equation exactly where the affine polynomial stands so to 0
abbrev pub EquationsKeepOutcomes : Type 0
EquationsKeepOutcomes = (o : Outcomes) (q : Equation) (p : Point) → Expands q → HasRandomFactors o (form (difference q)) → HasOutcomes o p → MeetsEquation p q ↔ IsObeyed q.relation (top_at (length p.nums) p.den (cell p.nums) (put (length p.nums) o (form (difference q))))
