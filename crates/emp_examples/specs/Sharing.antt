-- An equation that two blocks list: with one multiplier for both and without, and with a dual variable.
use Rattle.std.specs.Prelude.{ℕ, pos, negsuc, List, [], ◌∷◌}
use Rattle.emp_ast.specs.declared.tree.EquId.{EquId}
use Rattle.emp_ast.specs.declared.model.Relation.TheVariants.{Equal, AtLeast, AtMost, Nothing}
use Rattle.emp_ast.specs.declared.model.Sense.TheVariants.{Min}
use Rattle.emp_ast.specs.declared.model.Equation.{Equation}
use Rattle.emp_ast.specs.declared.model.Model.{Model}
use Rattle.emp_ast.specs.declared.annot.Block.TheVariants.{Agent, Vi}
use Rattle.emp_ast.specs.declared.annot.Annot.{Annot}
use Rattle.emp_ast.specs.Expression.{variable, power}
use Rattle.emp_ast.specs.Multipliers.{AreMultipliers}
use Rattle.emp_ast.specs.Equilibrium.{IsEquilibrium}
use Rattle.emp_examples.specs.Small.{sum, difference, product, numeral, equation, free, var, equ, model, equilibrium, with_duals, with_visols, whole_point}
use Rattle.emp_examples.specs.Parties.{free_pair}
use Rattle.emp_examples.specs.Multipliers.{all_are}

-- ---- `vi f x k` and `vi g y k` with f.. x =n= 0, g.. 2*y =n= 0 and k.. x + y =g= 3
abbrev pub shared_sum : Equation
shared_sum = equation (sum (variable 0) (variable 1)) AtLeast (numeral 3)

abbrev pub sharing : Model
sharing = model free_pair (equation (variable 0) Nothing (numeral 0) ∷ equation (product (numeral 2) (variable 1)) Nothing (numeral 0) ∷ shared_sum ∷ [])

-- annotated with these equations under `visol`
abbrev pub sharing_by : List EquId → Annot
sharing_by visols = with_visols visols (equilibrium (Vi [] ((equ 0, var 0) ∷ []) (equ 2 ∷ []) ∷ Vi [] ((equ 1, var 1) ∷ []) (equ 2 ∷ []) ∷ []))

pub record ExamplesOfSharing : Type 0 where
  -- without `visol` the blocks may have different multipliers
  pub apart : IsEquilibrium sharing (sharing_by []) (whole_point (pos 1 ∷ pos 2 ∷ []))
  pub first_has_one : AreMultipliers sharing (sharing_by []) 0 (whole_point (pos 1 ∷ pos 2 ∷ [])) (all_are (pos 1))
  pub second_has_four : AreMultipliers sharing (sharing_by []) 1 (whole_point (pos 1 ∷ pos 2 ∷ [])) (all_are (pos 4))
  -- with it they have one
  pub no_common_one : IsEquilibrium sharing (sharing_by (equ 2 ∷ [])) (whole_point (pos 1 ∷ pos 2 ∷ [])) → ⊥
  pub common_two : IsEquilibrium sharing (sharing_by (equ 2 ∷ [])) (whole_point (pos 2 ∷ pos 1 ∷ []))

-- ---- two agents under one sum: the variables are a, b, x, y and u, and the annotation is
-- `equilibrium min a x da s min b y db s visol s dualvar u s`
-- v.. with the objective w: w =e= sqr(v - 2)
abbrev pub shifted_square : ℕ → ℕ → Equation
shifted_square w v = equation (variable w) Equal (power (difference (variable v) (numeral 2)) 2)

-- s.. x + y =l= 2
abbrev pub sum_to_two : Equation
sum_to_two = equation (sum (variable 2) (variable 3)) AtMost (numeral 2)

abbrev pub rationed : Model
rationed = model (free ∷ free ∷ free ∷ free ∷ free ∷ []) (shifted_square 0 2 ∷ shifted_square 1 3 ∷ sum_to_two ∷ [])

abbrev pub rationed_by : Annot
rationed_by = with_duals ((var 4, equ 2) ∷ []) (with_visols (equ 2 ∷ []) (equilibrium (Agent Min (var 0) (var 2 ∷ []) (equ 0 ∷ equ 2 ∷ []) ∷ Agent Min (var 1) (var 3 ∷ []) (equ 1 ∷ equ 2 ∷ []) ∷ [])))

pub record ExamplesOfRations : Type 0 where
  -- a = 1, b = 1, x = 1, y = 1, u = -2
  pub even : IsEquilibrium rationed rationed_by (whole_point (pos 1 ∷ pos 1 ∷ pos 1 ∷ pos 1 ∷ negsuc 1 ∷ []))
  pub wrong_sign : IsEquilibrium rationed rationed_by (whole_point (pos 1 ∷ pos 1 ∷ pos 1 ∷ pos 1 ∷ pos 2 ∷ [])) → ⊥
  -- x = 0 and y = 1 leave the sum slack, and a = 4 can be less
  pub slack : IsEquilibrium rationed rationed_by (whole_point (pos 4 ∷ pos 1 ∷ pos 0 ∷ pos 1 ∷ pos 0 ∷ [])) → ⊥
