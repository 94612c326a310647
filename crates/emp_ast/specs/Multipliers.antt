-- Multipliers of a block at a point.
use Rattle.std.specs.Prelude.{◌≡◌, ◌⊎◌, ℕ, pos, ◌<ℤ◌, List, [], ◌∷◌, slice_get, Option, Some, None, option_map}
use Rattle.emp_num.specs.Ratio.{Ratio, nought, negated, plus, minus, times, AtMostRatio}
use Rattle.emp_num.specs.Point.{Point, coordinate}
use Rattle.emp_ast.specs.declared.tree.EquId.{EquId}
use Rattle.emp_ast.specs.declared.model.Relation.{Relation}
use Rattle.emp_ast.specs.declared.model.Relation.TheVariants.{Equal, AtLeast, AtMost, Nothing}
use Rattle.emp_ast.specs.declared.model.Sense.TheVariants.{Min, Max}
use Rattle.emp_ast.specs.declared.model.Model.{Model}
use Rattle.emp_ast.specs.declared.annot.Block.{Block}
use Rattle.emp_ast.specs.declared.annot.Block.TheVariants.{Agent, Vi}
use Rattle.emp_ast.specs.declared.annot.Annot.{Annot}
use Rattle.emp_ast.specs.Value.{both}
use Rattle.emp_ast.specs.Meets.{IfBoth}
use Rattle.emp_ast.specs.Parties.{block, constraints, EachConstraint}
use Rattle.emp_ast.specs.Rivals.{IsDeviation}
use Rattle.emp_ast.specs.Solved.{sides_gap, gap, flow}

-- at least 0 for `=G=`, at most 0 for `=L=`, free for `=E=` and 0 for `=N=`
abbrev pub HasSign : Relation → Ratio → Type 0
HasSign Equal u = Unit {0}
HasSign AtLeast u = AtMostRatio nought u
HasSign AtMost u = AtMostRatio u nought
HasSign Nothing u = u.top ≡ pos 0

-- the slack of the sides has a value, and it or the multiplier is 0
abbrev pub AreComplementary : Option Ratio → Ratio → Type 0
AreComplementary (Some slack) u = (slack.top ≡ pos 0) ⊎ (u.top ≡ pos 0)
AreComplementary None u = ⊥

-- a fraction with the sign of the relation, complementary to the slack
pub record IsMultiplier (relation : Relation) (slack : Option Ratio) (u : Ratio) : Type 0 where
  pub fraction : pos 0 <ℤ u.bottom
  pub sign : HasSign relation u
  pub complementary : AreComplementary slack u

-- the block's objective at q, negated for `max`; for a variational inequality the sum of F(p) times the coordinates of q
abbrev pub purpose : Model → Option Block → Point → Point → Option Ratio
purpose m (Some (Agent Min w vars equs)) p q = Some (coordinate q w.at)
purpose m (Some (Agent Max w vars equs)) p q = Some (negated (coordinate q w.at))
purpose m (Some (Vi zeros pairs equs)) p q = flow m p (λ v. coordinate q v) pairs
purpose m None p q = None

-- the sum of multiplier times (left - right) at q
abbrev pub charge : Model → (ℕ → Ratio) → Point → List EquId → Option Ratio
charge m u q [] = Some nought
charge m u q (e ∷ es) = both (λ x y. Some (plus x y)) (option_map (λ g. times (u e.at) g) (gap m q e.at)) (charge m u q es)

-- the purpose minus the sum of multiplier times (left - right) over the constraints
abbrev pub lagrangian : Model → Annot → ℕ → (ℕ → Ratio) → Point → Point → Option Ratio
lagrangian m a k u p q = both (λ x y. Some (minus x y)) (purpose m (slice_get a.blocks k) p q) (charge m u q (constraints m a (block k)))

-- u has a multiplier for each constraint of block k, by the equation's number; p is a deviation of itself, and with the
-- multipliers it is least among its deviations
pub record AreMultipliers (m : Model) (a : Annot) (k : ℕ) (p : Point) (u : ℕ → Ratio) : Type 0 where
  pub among : IsDeviation m a (block k) p p
  pub each : EachConstraint m a (block k) (λ e q. IsMultiplier q.relation (sides_gap p q) (u e))
  pub least : (r : Point) → IsDeviation m a (block k) p r → IfBoth AtMostRatio (lagrangian m a k u p p) (lagrangian m a k u p r)
