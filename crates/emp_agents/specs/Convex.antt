-- The second derivatives of an agent's objective by its counted variables, and that they tell in which of them it is convex.
use Rattle.std.specs.Prelude.{◌≡◌, ◌↔◌, ℕ, ◌<◌, ◌≤◌, ℤ, neg_ℤ, true, List, map, length, slice_index_or, Option, Some, None, Result, Ok, Err}
use Rattle.emp_num.specs.declared.frac.Frac.{Frac}
use Rattle.emp_ast.specs.declared.model.Sense.{Sense}
use Rattle.emp_ast.specs.declared.model.Sense.TheVariants.{Min, Max}
use Rattle.emp_ast.specs.declared.model.Model.{Model}
use Rattle.emp_ast.specs.declared.annot.Annot.{Annot}
use Rattle.emp_ast.specs.Parties.{block, objective, names_variable}
use Rattle.emp_ast.specs.Convex.{counted, IsConvexUpTo, IsConvex}
use Rattle.emp_form.specs.Partial.{second_at}
use Rattle.emp_ldl.specs.Whole.{IsSemidefinite}
use Rattle.emp_ldl.specs.Form.{IsMatrix, entries}
use Rattle.emp_ldl.specs.Laws.{Over}
use Rattle.emp_ldl.specs.Convex.{ConvexGives}
use Rattle.emp_ldl.specs.declared.squares.Squares.{Squares}
use Rattle.emp_ldl.specs.declared.squares.Curve.{Curve}
use Rattle.emp_ldl.specs.declared.squares.Curve.TheVariants.{Not, Wide, NoMemory}
use Rattle.emp_agents.specs.Given.{given_form, HasPolynomials}

-- the numbers of the counted variables, in their order
abbrev pub counted_numbers : Model → Annot → ℕ → List ℕ
counted_numbers m a k = map (λ v. v.at) (counted m a k)

abbrev pub by_sense : Sense → ℤ → ℤ
by_sense Min z = z
by_sense Max z = neg_ℤ z

abbrev pub for_objective : Option (Sense × ℕ) → ℤ → ℤ
for_objective (Some w) z = by_sense w.0 z
for_objective None z = z

-- the second derivative by counted variables number i and j, over the form's den; for `max` its opposite
abbrev pub agent_curvature : Model → Annot → ℕ → ℕ → ℕ → ℤ
agent_curvature m a k i j =
    for_objective (objective m a (block k)) (second_at (given_form m a (block k)).square (slice_index_or (counted_numbers m a k) i 0) (slice_index_or (counted_numbers m a k) j 0))

-- block k is an agent; the sides of the equation that defines its objective are polynomials; and its counted variables are
-- variables of the model
pub record IsAgent (m : Model) (a : Annot) (k : ℕ) : Type 0 where
  pub goal : Sense × ℕ
  pub is : objective m a (block k) ≡ Some goal
  pub polynomials : HasPolynomials m a (block k)
  pub within : (v : ℕ) → names_variable (counted m a k) v ≡ true → v < length m.variables

-- ---- the laws
-- an agent is convex in its first n counted variables, and in all of them, exactly where the leading block of side n, and the
-- whole matrix, is positive semidefinite
pub record CurvatureIsConvex : Type 0 where
  pub up_to : (m : Model) (a : Annot) (k n : ℕ) → IsAgent m a k → n ≤ length (counted m a k) → IsConvexUpTo m a k n ↔ IsSemidefinite (agent_curvature m a k) n
  pub whole : (m : Model) (a : Annot) (k : ℕ) → IsAgent m a k → IsConvex m a k ↔ IsSemidefinite (agent_curvature m a k) (length (counted m a k))

-- what the answer of `convex` on the second derivatives says
abbrev pub CurveTells : Model → Annot → ℕ → Result Squares Curve → Type 0
CurveTells m a k (Ok s) = IsConvex m a k
CurveTells m a k (Err (Not n)) = (IsConvexUpTo m a k n → ⊥) × ((h : ℕ) → h < n → IsConvexUpTo m a k h)
CurveTells m a k (Err (Wide n)) = (h : ℕ) → h < n → IsConvexUpTo m a k h
CurveTells m a k (Err NoMemory) = Unit {0}

-- where the fractions of the matrix are the second derivatives over w, which is above 0
abbrev pub ConvexTells : Type 0
ConvexTells = (m : Model) (a : Annot) (k : ℕ) (cells : List Frac) (w : ℤ) → IsAgent m a k → IsMatrix (length (counted m a k)) cells → Over (entries (length (counted m a k)) cells) (agent_curvature m a k) w (length (counted m a k)) → (r : Result Squares Curve) → ConvexGives (entries (length (counted m a k)) cells) (length (counted m a k)) r → CurveTells m a k r
