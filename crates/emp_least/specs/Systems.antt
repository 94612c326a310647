-- The two systems of a piece: the steps down without end, and the least points with their multipliers.
use Rattle.std.specs.Prelude.{◌≡◌, ◌⊎◌, ℕ, ◌<◌, ℤ, pos, ◌+ℤ◌, ◌*ℤ◌, ◌<ℤ◌, List, [], ◌∷◌, ◌++◌, length}
use Rattle.emp_algebra.specs.Vector.{dot, scale, add_rows}
use Rattle.emp_algebra.specs.Deciding.{Kind, Zero, Nonneg, Weighted, value_times, Meets}
use Rattle.emp_systems.specs.Systems.{MetSomewhere}
use Rattle.emp_systems.specs.Steps.{Quadratic, IsBelow}
use Rattle.emp_systems.specs.Multipliers.{IsWithin, IsLeast}
use Rattle.emp_game.specs.Conditions.{AreComplementary}
use Rattle.emp_least.specs.Least.{IsConvex, Keeps}
use Rattle.emp_least.specs.Rows.{slope, level}

-- ---- the ray system, at the step vs over d. The quadratic's numbers are those of the goal times `over`
pub record SolvesRay (over : ℤ) (n : ℕ) (q : Quadratic) (ws : List Weighted) (d : ℤ) (vs : List ℤ) : Type 0 where
  pub count : length vs ≡ n
  pub keeps : Keeps ws vs
  pub flat : (k : ℕ) → k < n → dot (slope q.square k) vs ≡ pos 0
  pub falls : over *ℤ d +ℤ dot q.linear vs ≡ pos 0

-- ---- the optimum system, at the coordinates xs and the multipliers us over d
-- a quantity that is to be 0 is 0; of another and its multiplier neither is negative and one is 0
abbrev pub MemberHolds : Kind → ℤ → ℤ → Type 0
MemberHolds Zero v u = v ≡ pos 0
MemberHolds Nonneg v u = AreComplementary u v

abbrev pub MembersHold : List Weighted → ℤ → List ℤ → List ℤ → Type 0
MembersHold [] d xs us = us ≡ []
MembersHold (w ∷ ws) d xs [] = ⊥
MembersHold (w ∷ ws) d xs (u ∷ us) = MemberHolds w.kind (value_times w.constant w.cells d xs) u × MembersHold ws d xs us

pub record SolvesOptimum (n : ℕ) (q : Quadratic) (ws : List Weighted) (d : ℤ) (xs us : List ℤ) : Type 0 where
  pub count : length xs ≡ n
  pub levels : (k : ℕ) → k < n → value_times (level n q ws k).constant (level n q ws k).cells d (xs ++ us) ≡ pos 0
  pub members : MembersHold ws d xs us

-- ---- points of them
pub record RaySomewhere (over : ℤ) (n : ℕ) (q : Quadratic) (ws : List Weighted) : Type 0 where
  pub den : ℤ
  pub nums : List ℤ
  pub positive : pos 0 <ℤ den
  pub solves : SolvesRay over n q ws den nums

pub record OptimumSomewhere (n : ℕ) (q : Quadratic) (ws : List Weighted) : Type 0 where
  pub den : ℤ
  pub nums : List ℤ
  pub multipliers : List ℤ
  pub positive : pos 0 <ℤ den
  pub solves : SolvesOptimum n q ws den nums multipliers

-- ---- the laws
-- one of the two systems has a point, wherever some point meets the quantities
abbrev pub RayOrOptimum : Type 0
RayOrOptimum = (over : ℤ) (n : ℕ) (q : Quadratic) (ws : List Weighted) → pos 0 <ℤ over → IsWithin n q ws → IsConvex q.square → MetSomewhere n ws → RaySomewhere over n q ws ⊎ OptimumSomewhere n q ws

-- a point of the optimum system meets the quantities, and none that meets them has a smaller value
abbrev pub OptimumIsLeast : Type 0
OptimumIsLeast = (n : ℕ) (q : Quadratic) (ws : List Weighted) (d : ℤ) (xs us : List ℤ) → IsWithin n q ws → IsConvex q.square → pos 0 <ℤ d → SolvesOptimum n q ws d xs us → Meets ws d xs × IsLeast n q ws d xs

-- each least point is one of the optimum system, with all numbers times one number above 0
abbrev pub LeastIsOptimum : Type 0
LeastIsOptimum = (n : ℕ) (q : Quadratic) (ws : List Weighted) (d : ℤ) (xs : List ℤ) → IsWithin n q ws → pos 0 <ℤ d → length xs ≡ n → Meets ws d xs → IsLeast n q ws d xs
    → (h : ℤ) × (pos 0 <ℤ h) × ((us : List ℤ) × SolvesOptimum n q ws (h *ℤ d) (scale h xs) us)

-- a point of the ray system is a step that may be gone from each point that meets the quantities, as often as wanted, and each time the value falls
abbrev pub RayFalls : Type 0
RayFalls = (over : ℤ) (n : ℕ) (q : Quadratic) (ws : List Weighted) (d : ℤ) (vs : List ℤ) → pos 0 <ℤ over → IsWithin n q ws → pos 0 <ℤ d → SolvesRay over n q ws d vs → (e : ℤ) (ys : List ℤ) → pos 0 <ℤ e → length ys ≡ n → Meets ws e ys
    → (pos 0 <ℤ (d *ℤ e)) × (length (add_rows (scale d ys) (scale e vs)) ≡ n) × Meets ws (d *ℤ e) (add_rows (scale d ys) (scale e vs)) × IsBelow q (d *ℤ e) (add_rows (scale d ys) (scale e vs)) e ys
