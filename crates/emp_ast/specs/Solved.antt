-- When a block is solved at a point: no rival is better for an agent; for a variational inequality no rival lies against its function.
use Rattle.std.specs.Prelude.{ℕ, ◌*ℤ◌, ◌<ℤ◌, List, [], ◌∷◌, slice_get, Option, Some, None, option_map}
use Rattle.emp_num.specs.Ratio.{Ratio, nought, plus, minus, times, AtMostRatio}
use Rattle.emp_num.specs.Point.{Point, coordinate}
use Rattle.emp_ast.specs.declared.tree.VarId.{VarId}
use Rattle.emp_ast.specs.declared.tree.EquId.{EquId}
use Rattle.emp_ast.specs.declared.model.Equation.{Equation}
use Rattle.emp_ast.specs.declared.model.Sense.{Sense}
use Rattle.emp_ast.specs.declared.model.Sense.TheVariants.{Min, Max}
use Rattle.emp_ast.specs.declared.model.Model.{Model}
use Rattle.emp_ast.specs.declared.annot.Block.{Block}
use Rattle.emp_ast.specs.declared.annot.Block.TheVariants.{Agent, Vi}
use Rattle.emp_ast.specs.declared.annot.Annot.{Annot}
use Rattle.emp_ast.specs.Value.{tree_value, both}
use Rattle.emp_ast.specs.Parties.{block}
use Rattle.emp_ast.specs.Rivals.{IsRival, IsFeasible}

-- ---- better: smaller for `min`, larger for `max`
abbrev pub IsSmaller : Ratio → Ratio → Type 0
IsSmaller x y = (x.top *ℤ y.bottom) <ℤ (y.top *ℤ x.bottom)

-- x is better than y
abbrev pub IsBetter : Sense → Ratio → Ratio → Type 0
IsBetter Min x y = IsSmaller x y
IsBetter Max x y = IsSmaller y x

-- ---- the function of a pair
-- left minus right at the point, where both sides have values
abbrev pub sides_gap : Point → Equation → Option Ratio
sides_gap p q = both (λ x y. Some (minus x y)) (tree_value p q.left) (tree_value p q.right)

abbrev pub gap_by : Point → Option Equation → Option Ratio
gap_by p (Some q) = sides_gap p q
gap_by p None = None

-- left minus right of the equation of number e, whatever its relation
abbrev pub gap : Model → Point → ℕ → Option Ratio
gap m p e = gap_by p (slice_get m.equations e)

-- the sum, over the pairs, of the pair's function at p times a weight of its variable; a variable with function zero adds nothing
abbrev pub flow : Model → Point → (ℕ → Ratio) → List (EquId × VarId) → Option Ratio
flow m p weight [] = Some nought
flow m p weight (q ∷ qs) = both (λ x y. Some (plus x y)) (option_map (λ f. times f (weight q.1.at)) (gap m p q.0.at)) (flow m p weight qs)

abbrev pub IsAtLeastZero : Option Ratio → Type 0
IsAtLeastZero (Some x) = AtMostRatio nought x
IsAtLeastZero None = ⊥

-- the step from p to r
abbrev pub step_to : Point → Point → ℕ → Ratio
step_to p r v = minus (coordinate r v) (coordinate p v)

-- ---- solved
-- no rival has a better objective; for each rival r the sum of F(p) times (r - p) is at least 0
abbrev pub NoRivalIsBetter : Model → Annot → ℕ → Option Block → Point → Type 0
NoRivalIsBetter m a k (Some (Agent sense w vars equs)) p = (r : Point) → IsRival m a (block k) p r → IsBetter sense (coordinate r w.at) (coordinate p w.at) → ⊥
NoRivalIsBetter m a k (Some (Vi zeros pairs equs)) p = (r : Point) → IsRival m a (block k) p r → IsAtLeastZero (flow m p (step_to p r) pairs)
NoRivalIsBetter m a k None p = ⊥

-- block k is solved at p: p meets its bounds, definition and constraints, and no rival is better
pub record IsSolved (m : Model) (a : Annot) (k : ℕ) (p : Point) : Type 0 where
  pub feasible : IsFeasible m a (block k) p
  pub best : NoRivalIsBetter m a k (slice_get a.blocks k) p
