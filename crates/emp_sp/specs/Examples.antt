-- A small model with a random bound: its scenarios and plans, what they are worth, best plans and rays.
use Rattle.std.specs.Prelude.{◌≡◌, ℤ, pos, negsuc, refl, [], ◌∷◌}
use native.Mathlib.Nat.{eq-one_of_dvd-one, dvd-sub}
use Rattle.std.proofs.Common.{arith}
use Rattle.std.proofs.lemmas.Int.{ints}
use Rattle.emp_num.specs.declared.frac.Frac.{Frac}
use Rattle.emp_num.specs.Ratio.{ratio, SameRatio}
use Rattle.emp_num.specs.Point.{Point}
use Rattle.emp_num.specs.Whole.{whole, below_limit}
use Rattle.emp_ast.specs.declared.model.Relation.TheVariants.{Equal, AtMost}
use Rattle.emp_ast.specs.declared.model.Equation.{Equation}
use Rattle.emp_ast.specs.declared.model.Sense.{Sense}
use Rattle.emp_ast.specs.declared.model.Sense.TheVariants.{Min, Max}
use Rattle.emp_ast.specs.declared.model.Model.{Model}
use Rattle.emp_ast.specs.Expression.{variable}
use Rattle.emp_examples.specs.Small.{equation, numeral, free, var, equ, model, with_goal, whole_point}
use Rattle.emp_sp.specs.declared.annot.Random.{Random}
use Rattle.emp_sp.specs.declared.annot.RandomAnnot.{RandomAnnot}
use Rattle.emp_sp.specs.Plans.{Scenario, scenarios, chance, plan_size, place, IsFeasiblePlan, HasWorth, IsBestPlan, IsPlanRay}

abbrev pub third : Frac
third = record { num = pos 1; den = pos 3; positive = omega (arith, ints); num_narrow = below_limit 1 refl; den_narrow = below_limit 3 refl; lowest = λ k h l. eq-one_of_dvd-one h }

abbrev pub two_thirds : Frac
two_thirds = record { num = pos 2; den = pos 3; positive = omega (arith, ints); num_narrow = below_limit 2 refl; den_narrow = below_limit 3 refl; lowest = λ k h l. eq-one_of_dvd-one (dvd-sub k l h) }

-- ---- the variables are z, x, y, d; z is y, x is at most 4, and y is at most x and at most d. d is 2 with probability 1/3 and 6
-- with probability 2/3, and y and its two bounds are of the second stage
abbrev pub z_is_y : Equation
z_is_y = equation (variable 0) Equal (variable 2)

abbrev pub x_to_four : Equation
x_to_four = equation (variable 1) AtMost (numeral 4)

abbrev pub y_to_x : Equation
y_to_x = equation (variable 2) AtMost (variable 1)

abbrev pub y_to_d : Equation
y_to_d = equation (variable 2) AtMost (variable 3)

abbrev pub staged : Sense → Model
staged sense = with_goal sense 0 (model (free ∷ free ∷ free ∷ free ∷ []) (z_is_y ∷ x_to_four ∷ y_to_x ∷ y_to_d ∷ []))

abbrev pub bound : Random
bound = record { var = var 3; outcomes = (third, whole 2) ∷ (two_thirds, whole 6) ∷ [] }

abbrev pub drawn : RandomAnnot
drawn = record { randoms = bound ∷ []; vars = var 2 ∷ []; equs = equ 2 ∷ equ 3 ∷ [] }

abbrev pub dry : Scenario
dry = (third, whole 2) ∷ []

abbrev pub wet : Scenario
wet = (two_thirds, whole 6) ∷ []

-- x, and y in the first and in the second scenario
abbrev pub plan : ℤ → ℤ → ℤ → Point
plan x y w = whole_point (x ∷ y ∷ w ∷ [])

pub record ExamplesOfScenarios : Type 0 where
  -- the first variable varies slowest
  pub order : (a b c d : Frac × Frac) → scenarios (record { var = var 0; outcomes = a ∷ b ∷ [] } ∷ record { var = var 1; outcomes = c ∷ d ∷ [] } ∷ []) ≡ (a ∷ c ∷ []) ∷ (a ∷ d ∷ []) ∷ (b ∷ c ∷ []) ∷ (b ∷ d ∷ []) ∷ []
  pub product_of_chances : SameRatio (chance ((third, whole 2) ∷ (two_thirds, whole 6) ∷ [])) (ratio (pos 2) (pos 9))
  pub size : plan_size (staged Max) drawn ≡ 3
  pub first_in_both : place (staged Max) drawn 1 1 ≡ place (staged Max) drawn 0 1
  pub second_in_first : place (staged Max) drawn 0 2 ≡ 1
  pub second_in_second : place (staged Max) drawn 1 2 ≡ 2

pub record ExamplesOfPlans : Type 0 where
  pub feasible : IsFeasiblePlan (staged Max) drawn (plan (pos 4) (pos 2) (pos 4))
  -- x is above 4; y is above d in the first scenario; y is above x in the second; a number is missing
  pub over_first : IsFeasiblePlan (staged Max) drawn (plan (pos 5) (pos 2) (pos 4)) → ⊥
  pub over_drawn : IsFeasiblePlan (staged Max) drawn (plan (pos 4) (pos 3) (pos 4)) → ⊥
  pub over_stage : IsFeasiblePlan (staged Max) drawn (plan (pos 4) (pos 2) (pos 5)) → ⊥
  pub one_short : IsFeasiblePlan (staged Max) drawn (whole_point (pos 4 ∷ pos 2 ∷ [])) → ⊥
  -- 2 times 1/3 and 4 times 2/3; not the first alone, and not the sum without probabilities
  pub worth : HasWorth (staged Max) drawn 0 (plan (pos 4) (pos 2) (pos 4)) (ratio (pos 10) (pos 3))
  pub first_alone : HasWorth (staged Max) drawn 0 (plan (pos 4) (pos 2) (pos 4)) (ratio (pos 2) (pos 3)) → ⊥
  pub without_chances : HasWorth (staged Max) drawn 0 (plan (pos 4) (pos 2) (pos 4)) (ratio (pos 6) (pos 1)) → ⊥
  pub best : IsBestPlan (staged Max) drawn (plan (pos 4) (pos 2) (pos 4))
  pub not_best : IsBestPlan (staged Max) drawn (plan (pos 4) (pos 2) (pos 3)) → ⊥

pub record ExamplesOfPlanRays : Type 0 where
  -- z is to be least, and y falls in both scenarios
  pub falls : IsPlanRay (staged Min) drawn (plan (pos 0) (pos 0) (pos 0)) (plan (pos 0) (negsuc 0) (negsuc 0))
  -- z is to be greatest; y is above x after a step in the first scenario; nothing moves
  pub worse : IsPlanRay (staged Max) drawn (plan (pos 0) (pos 0) (pos 0)) (plan (pos 0) (negsuc 0) (negsuc 0)) → ⊥
  pub leaves : IsPlanRay (staged Min) drawn (plan (pos 0) (pos 0) (pos 0)) (plan (negsuc 0) (pos 0) (negsuc 0)) → ⊥
  pub stands : IsPlanRay (staged Min) drawn (plan (pos 0) (pos 0) (pos 0)) (plan (pos 0) (pos 0) (pos 0)) → ⊥
