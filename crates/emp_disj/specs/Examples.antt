-- A small model with two disjunctions: admissible points, the best of them, and rays.
use Rattle.std.specs.Prelude.{◌≡◌, pos, negsuc, true, false, List, [], ◌∷◌}
use Rattle.emp_ast.specs.declared.tree.EquId.{EquId}
use Rattle.emp_ast.specs.declared.model.Relation.TheVariants.{Equal, AtLeast, AtMost}
use Rattle.emp_ast.specs.declared.model.Equation.{Equation}
use Rattle.emp_ast.specs.declared.model.Sense.TheVariants.{Min}
use Rattle.emp_ast.specs.declared.model.Variable.{Variable}
use Rattle.emp_ast.specs.declared.model.Model.{Model}
use Rattle.emp_ast.specs.Expression.{variable}
use Rattle.emp_ast.specs.Parties.{is_defined}
use Rattle.emp_examples.specs.Small.{sum, equation, numeral, free, from, equ, model, with_goal, whole_point}
use Rattle.emp_disj.specs.Choice.{IsChoice, apart, IsBestChoice, IsChoiceRay}

-- ---- the variables are z, x, y; z is x + y and is to be least; one of x =g= 4 and y =g= 3 is to hold, and one of x =l= 1 and
-- y =l= 2
abbrev pub z_is_sum : Equation
z_is_sum = equation (variable 0) Equal (sum (variable 1) (variable 2))

abbrev pub x_from_four : Equation
x_from_four = equation (variable 1) AtLeast (numeral 4)

abbrev pub y_from_three : Equation
y_from_three = equation (variable 2) AtLeast (numeral 3)

abbrev pub x_to_one : Equation
x_to_one = equation (variable 1) AtMost (numeral 1)

abbrev pub y_to_two : Equation
y_to_two = equation (variable 2) AtMost (numeral 2)

-- x and y with these bounds
abbrev pub picked : Variable → Variable → Model
picked x y = with_goal Min 0 (model (free ∷ x ∷ y ∷ []) (z_is_sum ∷ x_from_four ∷ y_from_three ∷ x_to_one ∷ y_to_two ∷ []))

abbrev pub either : List (List EquId)
either = (equ 1 ∷ equ 2 ∷ []) ∷ (equ 3 ∷ equ 4 ∷ []) ∷ []

pub record ExamplesOfChoices : Type 0 where
  -- x.lo = 0 and y.lo = 0; the second terms first, and then the other way
  pub by_y : IsChoice (picked (from 0) (from 0)) either (whole_point (pos 3 ∷ pos 0 ∷ pos 3 ∷ []))
  pub by_x : IsChoice (picked (from 0) (from 0)) either (whole_point (pos 4 ∷ pos 4 ∷ pos 0 ∷ []))
  -- no term of the first disjunction is met, none of the second; y is below its bound; z is another number
  pub none_of_first : IsChoice (picked (from 0) (from 0)) either (whole_point (pos 0 ∷ pos 0 ∷ pos 0 ∷ [])) → ⊥
  pub none_of_second : IsChoice (picked (from 0) (from 0)) either (whole_point (pos 7 ∷ pos 4 ∷ pos 3 ∷ [])) → ⊥
  pub below_bound : IsChoice (picked (from 0) (from 0)) either (whole_point (pos 3 ∷ pos 4 ∷ negsuc 0 ∷ [])) → ⊥
  pub off_equation : IsChoice (picked (from 0) (from 0)) either (whole_point (pos 2 ∷ pos 0 ∷ pos 3 ∷ [])) → ⊥
  pub best_by_y : IsBestChoice (picked (from 0) (from 0)) either (whole_point (pos 3 ∷ pos 0 ∷ pos 3 ∷ []))
  pub not_best_by_x : IsBestChoice (picked (from 0) (from 0)) either (whole_point (pos 4 ∷ pos 4 ∷ pos 0 ∷ [])) → ⊥
  -- a term defines no objective
  pub defines : is_defined (picked free free) (apart either) 0 ≡ true
  pub term_defines_none : is_defined (picked free free) (apart ((equ 0 ∷ equ 1 ∷ []) ∷ [])) 0 ≡ false

pub record ExamplesOfChoiceRays : Type 0 where
  -- x is free, and falls
  pub falls : IsChoiceRay (picked free (from 0)) either (whole_point (pos 3 ∷ pos 0 ∷ pos 3 ∷ [])) (whole_point (pos 0 ∷ negsuc 0 ∷ pos 0 ∷ []))
  -- x rises, and z with it; y falls, and no term of the first disjunction is met after a step
  pub rises : IsChoiceRay (picked free (from 0)) either (whole_point (pos 3 ∷ pos 0 ∷ pos 3 ∷ [])) (whole_point (pos 0 ∷ pos 1 ∷ pos 0 ∷ [])) → ⊥
  pub leaves : IsChoiceRay (picked free free) either (whole_point (pos 3 ∷ pos 0 ∷ pos 3 ∷ [])) (whole_point (pos 0 ∷ pos 0 ∷ negsuc 0 ∷ [])) → ⊥
