-- The equations of a scenario as affine conditions.
use Rattle.std.specs.Prelude.{◌≡◌, ◌↔◌, ℕ, ◌≤◌, ℤ, pos, ◌*ℤ◌, false, cond, nat_eq, List, [], ◌∷◌, length, slice_get, Some}
use Rattle.emp_algebra.specs.Vector.{cell}
use Rattle.emp_num.specs.Point.{Point}
use Rattle.emp_ast.specs.declared.model.Equation.{Equation}
use Rattle.emp_ast.specs.declared.model.Variable.{Variable}
use Rattle.emp_ast.specs.declared.model.Model.{Model}
use Rattle.emp_ast.specs.Meets.{MeetsEquation, MeetsBounds}
use Rattle.emp_ast.specs.Parties.{leader, EachDefinition, EachConstraint}
use Rattle.emp_ast.specs.Rivals.{IsFeasible}
use Rattle.emp_form.specs.Form.{top_at}
use Rattle.emp_form.specs.Expansion.{form}
use Rattle.emp_game.specs.Solved.{IsObeyed}
use Rattle.emp_agents.specs.Given.{difference}
use Rattle.emp_sp.specs.declared.annot.Random.{Random}
use Rattle.emp_sp.specs.declared.annot.RandomAnnot.{RandomAnnot}
use Rattle.emp_sp.specs.Outcomes.{Outcomes, put}
use Rattle.emp_sp.specs.Equations.{Expands}
use Rattle.emp_sp.specs.Plans.{alone, Scenario, scenarios, is_random, ShowsScenario}
use Rattle.emp_sp.specs.Commons.{common, common_positive}

-- the outcome of a variable over the product of all denominators
abbrev pub outcome_at : List Random → Scenario → ℕ → ℤ
outcome_at [] s w = pos 0
outcome_at (r ∷ rs) [] w = pos 0
outcome_at (r ∷ rs) (o ∷ os) w = cond (nat_eq r.var.at w) (o.1.num *ℤ common os) (o.1.den *ℤ outcome_at rs os w)

abbrev pub outcomes : RandomAnnot → Scenario → Outcomes
outcomes a s = record { is_random = is_random a; den = common s; nums = outcome_at a.randoms s; positive = common_positive s }

-- both sides of each equation are polynomials, and each product has a random factor
pub record IsRandomClass (m : Model) (a : RandomAnnot) : Type 0 where
  pub expanded : (e : ℕ) (c : Equation) → slice_get m.equations e ≡ Some c → Expands c
  pub factors : (e : ℕ) (c : Equation) → slice_get m.equations e ≡ Some c → (i j : ℕ) → i ≤ j → is_random a i ≡ false → is_random a j ≡ false → (form (difference c)).square i j ≡ pos 0

pub record SceneHolds (m : Model) (a : RandomAnnot) (s : Scenario) (q : Point) : Type 0 where
  pub bounds : (v : ℕ) (x : Variable) → slice_get m.variables v ≡ Some x → MeetsBounds q v x
  pub definition : EachDefinition m alone leader (λ e c. MeetsEquation q c)
  pub rows : EachConstraint m alone leader (λ e c. IsObeyed c.relation (top_at (length q.nums) q.den (cell q.nums) (put (length q.nums) (outcomes a s) (form (difference c)))))

-- the point of a scenario is feasible exactly where it meets the bounds, the definition and the affine conditions
abbrev pub ScenesAreRows : Type 0
ScenesAreRows = (m : Model) (a : RandomAnnot) (p : Point) (k : ℕ) (s : Scenario) (q : Point) → IsRandomClass m a → slice_get (scenarios a.randoms) k ≡ Some s → ShowsScenario m a p k s q → IsFeasible m alone leader q ↔ SceneHolds m a s q
