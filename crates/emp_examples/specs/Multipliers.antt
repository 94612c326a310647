-- Multipliers of small models, the prices that hold them, and their signs.
use Rattle.std.specs.Prelude.{ℕ, ℤ, pos, negsuc, [], ◌∷◌}
use Rattle.emp_num.specs.Ratio.{Ratio, ratio}
use Rattle.emp_ast.specs.declared.model.Relation.TheVariants.{Equal, AtLeast, AtMost, Nothing}
use Rattle.emp_ast.specs.declared.model.Sense.TheVariants.{Min, Max}
use Rattle.emp_ast.specs.declared.model.Equation.{Equation}
use Rattle.emp_ast.specs.declared.model.Model.{Model}
use Rattle.emp_ast.specs.declared.annot.Block.TheVariants.{Agent}
use Rattle.emp_ast.specs.declared.annot.Annot.{Annot}
use Rattle.emp_ast.specs.Expression.{variable}
use Rattle.emp_ast.specs.Multipliers.{AreMultipliers}
use Rattle.emp_ast.specs.Parties.{block}
use Rattle.emp_ast.specs.Rivals.{IsRival}
use Rattle.emp_ast.specs.Equilibrium.{ArePrices, IsEquilibrium}
use Rattle.emp_examples.specs.Small.{sum, product, numeral, no_number, equation, free, var, equ, model, equilibrium, with_duals, whole_point}
use Rattle.emp_examples.specs.Parties.{free_pair, square, c_is_square, x_from_one, min_c}
use Rattle.emp_examples.specs.Rivals.{bowl_equation}

abbrev pub all_are : ℤ → ℕ → Ratio
all_are u e = ratio u (pos 1)

-- ---- `min c x d k` with d.. c =e= x*x, and k another equation in each
abbrev pub bound : Equation → Model
bound k = model free_pair (c_is_square ∷ k ∷ [])

abbrev pub bound_by : Annot
bound_by = equilibrium (min_c (equ 0 ∷ equ 1 ∷ []) ∷ [])

-- k.. x =n= 0, and k.. 1/0 =n= x
abbrev pub x_as_it_is : Equation
x_as_it_is = equation (variable 1) Nothing (numeral 0)

abbrev pub no_slack : Equation
no_slack = equation no_number Nothing (variable 1)

-- the same with a dual variable p of k
abbrev pub priced : Model
priced = model (free ∷ free ∷ free ∷ []) (c_is_square ∷ x_from_one ∷ [])

abbrev pub priced_by : Annot
priced_by = with_duals ((var 2, equ 1) ∷ []) bound_by

-- `min c x d k min e y f l dualvar p k q l`: two such agents, each with a dual variable
abbrev pub two_priced : Model
two_priced = model (free ∷ free ∷ free ∷ free ∷ free ∷ free ∷ []) (c_is_square ∷ x_from_one ∷ equation (variable 2) Equal (product (variable 3) (variable 3)) ∷ equation (variable 3) AtLeast (numeral 1) ∷ [])

abbrev pub two_priced_by : Annot
two_priced_by = with_duals ((var 4, equ 1) ∷ (var 5, equ 3) ∷ []) (equilibrium (min_c (equ 0 ∷ equ 1 ∷ []) ∷ Agent Min (var 2) (var 3 ∷ []) (equ 2 ∷ equ 3 ∷ []) ∷ []))

pub record ExamplesOfMultipliers : Type 0 where
  -- k.. x =g= 1 at x = 1
  pub two : AreMultipliers (bound x_from_one) bound_by 0 (whole_point (pos 1 ∷ pos 1 ∷ [])) (all_are (pos 2))
  pub wrong_sign : AreMultipliers (bound x_from_one) bound_by 0 (whole_point (pos 1 ∷ pos 1 ∷ [])) (all_are (negsuc 1)) → ⊥
  pub not_least : AreMultipliers (bound x_from_one) bound_by 0 (whole_point (pos 1 ∷ pos 1 ∷ [])) (all_are (pos 1)) → ⊥
  pub no_fraction : AreMultipliers (bound x_from_one) bound_by 0 (whole_point (pos 1 ∷ pos 1 ∷ [])) (λ e. ratio (pos 0) (pos 0)) → ⊥
  -- x = 2 with k slack
  pub with_slack : AreMultipliers (bound x_from_one) bound_by 0 (whole_point (pos 4 ∷ pos 2 ∷ [])) (all_are (pos 4)) → ⊥
  -- c is not the value of x*x
  pub not_among : AreMultipliers (bound x_from_one) bound_by 0 (whole_point (pos 0 ∷ pos 1 ∷ [])) (all_are (pos 2)) → ⊥
  -- of an `=n=` equation 0 alone is a multiplier
  pub none_of_nothing : AreMultipliers (bound x_as_it_is) bound_by 0 (whole_point (pos 0 ∷ pos 0 ∷ [])) (all_are (pos 0))
  pub one_of_nothing : AreMultipliers (bound x_as_it_is) bound_by 0 (whole_point (pos 0 ∷ pos 0 ∷ [])) (all_are (pos 1)) → ⊥
  -- a slack without a value
  pub no_value : AreMultipliers (bound no_slack) bound_by 0 (whole_point (pos 0 ∷ pos 0 ∷ [])) (all_are (pos 0)) → ⊥
  -- c = 1, x = 1 and p = 2, -2, 1
  pub priced_two : IsEquilibrium priced priced_by (whole_point (pos 1 ∷ pos 1 ∷ pos 2 ∷ []))
  -- p stands while the agent moves
  pub priced_stands : IsRival priced priced_by (block 0) (whole_point (pos 1 ∷ pos 1 ∷ pos 2 ∷ [])) (whole_point (pos 4 ∷ pos 2 ∷ pos 3 ∷ [])) → ⊥
  -- each block's dual variable holds the multiplier of its equation
  pub both_priced : ArePrices two_priced two_priced_by (whole_point (pos 1 ∷ pos 1 ∷ pos 1 ∷ pos 1 ∷ pos 2 ∷ pos 3 ∷ [])) (λ k. all_are (pos 2)) → ⊥
  pub priced_wrong_sign : IsEquilibrium priced priced_by (whole_point (pos 1 ∷ pos 1 ∷ negsuc 1 ∷ [])) → ⊥
  pub priced_not_least : IsEquilibrium priced priced_by (whole_point (pos 1 ∷ pos 1 ∷ pos 1 ∷ [])) → ⊥

-- ---- signs: `max c x d k` with d.. c + x*x =e= 0 and k.. x =g= 1, and `min c x d k` with d.. c =e= x*x - 2*x and k.. x =l= 0
abbrev pub cap_equation : Equation
cap_equation = equation (sum (variable 0) square) Equal (numeral 0)

abbrev pub capped : Model
capped = model free_pair (cap_equation ∷ x_from_one ∷ [])

abbrev pub capped_by : Annot
capped_by = equilibrium (Agent Max (var 0) (var 1 ∷ []) (equ 0 ∷ equ 1 ∷ []) ∷ [])

abbrev pub x_to_zero : Equation
x_to_zero = equation (variable 1) AtMost (numeral 0)

abbrev pub stopped : Model
stopped = model free_pair (bowl_equation ∷ x_to_zero ∷ [])

-- two constraints k.. x =g= 1 of `min c x d k k` with d.. c =e= x*x
abbrev pub bound_twice : Model
bound_twice = model free_pair (c_is_square ∷ x_from_one ∷ x_from_one ∷ [])

abbrev pub bound_twice_by : Annot
bound_twice_by = equilibrium (min_c (equ 0 ∷ equ 1 ∷ equ 2 ∷ []) ∷ [])

pub record ExamplesOfSigns : Type 0 where
  pub greatest_two : AreMultipliers capped capped_by 0 (whole_point (negsuc 0 ∷ pos 1 ∷ [])) (all_are (pos 2))
  pub greatest_wrong_sign : AreMultipliers capped capped_by 0 (whole_point (negsuc 0 ∷ pos 1 ∷ [])) (all_are (negsuc 1)) → ⊥
  pub at_most_below_zero : AreMultipliers stopped bound_by 0 (whole_point (pos 0 ∷ pos 0 ∷ [])) (all_are (negsuc 1))
  -- x =e= 0: of an equality each sign may be
  pub equal_below_zero : AreMultipliers (model free_pair (bowl_equation ∷ equation (variable 1) Equal (numeral 0) ∷ [])) bound_by 0 (whole_point (pos 0 ∷ pos 0 ∷ [])) (all_are (negsuc 1))
  -- the sign alone is wrong: 2 of x =l= 1, -2 of 1 =g= x and 2 of x =n= 1, with which x = 1 is least and not slack
  pub sign_of_at_most : AreMultipliers (bound (equation (variable 1) AtMost (numeral 1))) bound_by 0 (whole_point (pos 1 ∷ pos 1 ∷ [])) (all_are (pos 2)) → ⊥
  pub sign_of_at_least : AreMultipliers (bound (equation (numeral 1) AtLeast (variable 1))) bound_by 0 (whole_point (pos 1 ∷ pos 1 ∷ [])) (all_are (negsuc 1)) → ⊥
  pub sign_of_nothing : AreMultipliers (bound (equation (variable 1) Nothing (numeral 1))) bound_by 0 (whole_point (pos 1 ∷ pos 1 ∷ [])) (all_are (pos 2)) → ⊥
  -- the sum goes over all constraints
  pub one_each : AreMultipliers bound_twice bound_twice_by 0 (whole_point (pos 1 ∷ pos 1 ∷ [])) (all_are (pos 1))
  pub at_most_wrong_sign : AreMultipliers stopped bound_by 0 (whole_point (pos 0 ∷ pos 0 ∷ [])) (all_are (pos 2)) → ⊥
