-- Who owns which variables, who has which equations, which equation defines an objective, and which are constraints.
use Rattle.std.specs.Prelude.{◌≡◌, Bool, true, false, List, [], ◌∷◌, Some, None}
use Rattle.emp_ast.specs.declared.tree.EquId.{EquId}
use Rattle.emp_ast.specs.declared.model.Relation.TheVariants.{Equal, AtLeast, AtMost, Nothing}
use Rattle.emp_ast.specs.declared.model.Equation.{Equation}
use Rattle.emp_ast.specs.declared.model.Sense.TheVariants.{Min, Max}
use Rattle.emp_ast.specs.declared.model.Variable.{Variable}
use Rattle.emp_ast.specs.declared.model.Model.{Model}
use Rattle.emp_ast.specs.declared.annot.Block.{Block}
use Rattle.emp_ast.specs.declared.annot.Block.TheVariants.{Agent, Vi}
use Rattle.emp_ast.specs.declared.annot.Annot.{Annot}
use Rattle.emp_ast.specs.Expression.{Expression, variable, negated, power}
use Rattle.emp_ast.specs.Parties.{leader, block, owns, equations, objective, defines, is_constraint, constraints, is_defined}
use Rattle.emp_ast.specs.Convex.{counted}
use Rattle.emp_examples.specs.Small.{sum, difference, product, quotient, numeral, equation, free, from, up_to, var, equ, model, equilibrium, with_duals, with_implicits, bilevel, with_goal}

-- ---- parties: the variables are z, c, x, y, s, t, u; the annotation is `bilevel s min c x d vi y g t k dualvar u k`, with
-- z the objective of the solve statement; the equations are d, k, g and h, of which h is in no block
abbrev pub d_equation : Equation
d_equation = equation (variable 1) Equal (product (variable 2) (variable 2))

abbrev pub seven : Model
seven = with_goal Min 0 (model (free ∷ free ∷ free ∷ free ∷ free ∷ free ∷ free ∷ []) (d_equation ∷ equation (variable 5) AtLeast (numeral 1) ∷ equation (variable 5) Nothing (numeral 0) ∷ equation (variable 0) Equal (variable 4) ∷ []))

abbrev pub two_blocks : List Block
two_blocks = Agent Min (var 1) (var 2 ∷ []) (equ 0 ∷ []) ∷ Vi (var 3 ∷ []) ((equ 2, var 5) ∷ []) (equ 1 ∷ []) ∷ []

abbrev pub seven_by : Annot
seven_by = with_duals ((var 6, equ 1) ∷ []) (bilevel (var 4 ∷ []) two_blocks)

pub record ExamplesOfParties : Type 0 where
  -- an agent owns its objective and what it lists
  pub own_objective : owns seven seven_by (block 0) 1 ≡ true
  pub own_listed : owns seven seven_by (block 0) 2 ≡ true
  pub not_own : owns seven seven_by (block 0) 3 ≡ false
  -- a variational inequality owns its variables with function zero and those of its pairs
  pub own_zero : owns seven seven_by (block 1) 3 ≡ true
  pub own_paired : owns seven seven_by (block 1) 5 ≡ true
  pub not_paired : owns seven seven_by (block 1) 2 ≡ false
  -- the leader owns the solve objective and what is listed after `bilevel`, and no dual variable
  pub leader_goal : owns seven seven_by leader 0 ≡ true
  pub leader_listed : owns seven seven_by leader 4 ≡ true
  pub not_leader_dual : owns seven seven_by leader 6 ≡ false
  pub not_leader_own : owns seven seven_by leader 3 ≡ false
  -- without the list and the blocks it owns what is in no block
  pub leader_left : owns seven (with_duals ((var 6, equ 1) ∷ []) (bilevel [] [])) leader 3 ≡ true
  pub dual_not_left : owns seven (with_duals ((var 6, equ 1) ∷ []) (bilevel [] [])) leader 6 ≡ false
  -- a block that is not there owns nothing and has no equation
  pub no_block : owns seven seven_by (block 2) 1 ≡ false
  pub no_block_equations : equations seven seven_by (block 2) ≡ []
  -- the functions first, then the constraints; the leader has what no block has
  pub listed_equations : equations seven seven_by (block 1) ≡ equ 2 ∷ equ 1 ∷ []
  pub leader_equations : equations seven seven_by leader ≡ equ 3 ∷ []
  pub function_is_none : constraints seven seven_by (block 1) ≡ equ 1 ∷ []
  pub definition_is_none : constraints seven seven_by (block 0) ≡ []
  -- c and z are defined, and the others are not; z is so only in a bilevel file
  pub defined_c : is_defined seven seven_by 1 ≡ true
  pub defined_z : is_defined seven seven_by 0 ≡ true
  pub not_defined_x : is_defined seven seven_by 2 ≡ false
  pub no_leader : is_defined seven (equilibrium two_blocks) 0 ≡ false
  -- the counted variables of the agent: x alone, and c first where no equation defines it
  pub counted_x : counted seven seven_by 0 ≡ var 2 ∷ []
  pub counted_both : counted seven (equilibrium (Agent Min (var 1) (var 2 ∷ []) [] ∷ [])) 0 ≡ var 1 ∷ var 2 ∷ []
  -- `min` or `max` with its variable, and none for a variational inequality
  pub objective_c : objective seven seven_by (block 0) ≡ Some (Min, 1)
  pub no_objective : objective seven seven_by (block 1) ≡ None
  pub leader_least : objective seven seven_by leader ≡ Some (Min, 0)
  pub leader_greatest : objective (with_goal Max 0 seven) seven_by leader ≡ Some (Max, 0)

-- ---- implicit variables: the variables are a, b, x, y, v, and the annotation is
-- `equilibrium implicit v e min a x v da min b y v db` with da.. a =e= sqr(x) + v, db.. b =e= y and e.. v =e= x + y
abbrev pub implied : Model
implied = model (free ∷ free ∷ free ∷ free ∷ free ∷ []) (equation (variable 0) Equal (sum (power (variable 2) 2) (variable 4)) ∷ equation (variable 1) Equal (variable 3) ∷ equation (variable 4) Equal (sum (variable 2) (variable 3)) ∷ [])

abbrev pub implied_by : Annot
implied_by = with_implicits ((var 4, equ 2) ∷ []) (equilibrium (Agent Min (var 0) (var 2 ∷ var 4 ∷ []) (equ 0 ∷ []) ∷ Agent Min (var 1) (var 3 ∷ var 4 ∷ []) (equ 1 ∷ []) ∷ []))

-- `equilibrium implicit x d min c x` with d.. c =e= x
abbrev pub defined_implicit : Annot → Bool
defined_implicit a = defines (model (free ∷ free ∷ []) (equation (variable 0) Equal (variable 1) ∷ [])) a (block 0) 0

pub record ExamplesOfImplicits : Type 0 where
  -- each block that lists v owns it, and has e as a constraint after its own equations
  pub first_owns : owns implied implied_by (block 0) 4 ≡ true
  pub second_owns : owns implied implied_by (block 1) 4 ≡ true
  pub first_not_other : owns implied implied_by (block 0) 3 ≡ false
  pub first_has : equations implied implied_by (block 0) ≡ equ 0 ∷ equ 2 ∷ []
  pub second_has : equations implied implied_by (block 1) ≡ equ 1 ∷ equ 2 ∷ []
  -- a block that does not list v has not e
  pub other_has_not : equations implied (with_implicits ((var 4, equ 2) ∷ []) (equilibrium (Agent Min (var 0) (var 2 ∷ var 4 ∷ []) (equ 0 ∷ []) ∷ Agent Min (var 1) (var 3 ∷ []) (equ 1 ∷ []) ∷ []))) (block 1) ≡ equ 1 ∷ []
  pub first_constraint : constraints implied implied_by (block 0) ≡ equ 2 ∷ []
  pub not_left : equations implied implied_by leader ≡ []
  -- without `implicit` the equation is in no block
  pub left : equations implied (with_implicits [] implied_by) leader ≡ equ 2 ∷ []
  -- the equation of an implicit variable defines no objective, and listed by the block it does
  pub implicit_defines_none : defined_implicit (with_implicits ((var 1, equ 0) ∷ []) (equilibrium (Agent Min (var 0) (var 1 ∷ []) [] ∷ []))) ≡ false
  pub listed_defines : defined_implicit (equilibrium (Agent Min (var 0) (var 1 ∷ []) (equ 0 ∷ []) ∷ [])) ≡ true

-- ---- definitions: the variables are c and x, and the block is `min c x` with equations
abbrev pub free_pair : List Variable
free_pair = free ∷ free ∷ []

abbrev pub square : Expression
square = product (variable 1) (variable 1)

-- d.. c =e= x*x
abbrev pub c_is_square : Equation
c_is_square = equation (variable 0) Equal square

-- k.. x =g= 1
abbrev pub x_from_one : Equation
x_from_one = equation (variable 1) AtLeast (numeral 1)

abbrev pub min_c : List EquId → Block
min_c equs = Agent Min (var 0) (var 1 ∷ []) equs

-- equation 0 defines c in the model of these variables and equations, annotated by `min c x d`
abbrev pub defines_c : List Variable → List Equation → Bool
defines_c variables equations = defines (model variables equations) (equilibrium (min_c (equ 0 ∷ []) ∷ [])) (block 0) 0

abbrev pub defines_by_one : Equation → Bool
defines_by_one q = defines_c free_pair (q ∷ [])

pub record ExamplesOfDefinitions : Type 0 where
  pub square_defines : defines_by_one c_is_square ≡ true
  -- x*x - c =e= 0, 0 =e= x*x - c and -(x - c) =e= 1
  pub taken_defines : defines_by_one (equation (difference square (variable 0)) Equal (numeral 0)) ≡ true
  pub on_the_right : defines_by_one (equation (numeral 0) Equal (difference square (variable 0))) ≡ true
  pub negated_defines : defines_by_one (equation (negated (difference (variable 1) (variable 0))) Equal (numeral 1)) ≡ true
  -- c*x =e= 1, c/2 =e= x, 2/c =e= x, c**1 =e= x
  pub under_product : defines_by_one (equation (product (variable 0) (variable 1)) Equal (numeral 1)) ≡ false
  pub under_quotient : defines_by_one (equation (quotient (variable 0) (numeral 2)) Equal (variable 1)) ≡ false
  pub under_divisor : defines_by_one (equation (quotient (numeral 2) (variable 0)) Equal (variable 1)) ≡ false
  pub under_power : defines_by_one (equation (power (variable 0) 1) Equal (variable 1)) ≡ false
  -- c =g= x*x, c =l= x*x and c =n= x*x
  pub no_equality : defines_by_one (equation (variable 0) AtLeast square) ≡ false
  pub no_lower_equality : defines_by_one (equation (variable 0) AtMost square) ≡ false
  pub no_relation : defines_by_one (equation (variable 0) Nothing square) ≡ false
  -- c =e= x + c, and c on the left and on the right of a second equation, also under a power
  pub twice : defines_by_one (equation (variable 0) Equal (sum (variable 1) (variable 0))) ≡ false
  pub elsewhere : defines_c free_pair (c_is_square ∷ equation (variable 0) AtLeast (numeral 0) ∷ []) ≡ false
  pub right_elsewhere : defines_c free_pair (c_is_square ∷ equation (variable 1) AtLeast (variable 0) ∷ []) ≡ false
  pub power_elsewhere : defines_c free_pair (c_is_square ∷ equation (variable 1) AtLeast (power (variable 0) 2) ∷ []) ≡ false
  pub negated_elsewhere : defines_c free_pair (c_is_square ∷ equation (negated (variable 0)) AtLeast (numeral 0) ∷ []) ≡ false
  pub x_elsewhere : defines_c free_pair (c_is_square ∷ x_from_one ∷ []) ≡ true
  -- c.up = 2 and c.lo = 0
  pub bounded_above : defines_c (up_to 2 ∷ free ∷ []) (c_is_square ∷ []) ≡ false
  pub bounded_below : defines_c (from 0 ∷ free ∷ []) (c_is_square ∷ []) ≡ false
  -- c a dual variable
  pub dual : defines (model free_pair (c_is_square ∷ [])) (with_duals ((var 0, equ 0) ∷ []) (equilibrium (min_c (equ 0 ∷ []) ∷ []))) (block 0) 0 ≡ false
  -- d listed by a second block, by none, or by a second block alone
  pub listed_twice : defines (model free_pair (c_is_square ∷ [])) (equilibrium (min_c (equ 0 ∷ []) ∷ Vi (var 1 ∷ []) [] (equ 0 ∷ []) ∷ [])) (block 0) 0 ≡ false
  pub not_listed : defines (model free_pair (c_is_square ∷ [])) (equilibrium (min_c [] ∷ [])) (block 0) 0 ≡ false
  pub other_has : defines (model free_pair (c_is_square ∷ [])) (equilibrium (min_c [] ∷ Vi (var 1 ∷ []) [] (equ 0 ∷ []) ∷ [])) (block 0) 0 ≡ false
  -- an equation that is not there, and a block that is not there
  pub no_equation : defines (model free_pair (c_is_square ∷ [])) (equilibrium (min_c (equ 1 ∷ []) ∷ [])) (block 0) 1 ≡ false
  pub no_block : defines (model free_pair (c_is_square ∷ [])) (equilibrium (min_c (equ 0 ∷ []) ∷ [])) (block 1) 0 ≡ false
  -- the leader's objective is defined by an equation of the leader's, and by none that a block has
  pub leader_defines : defines (with_goal Max 0 (model free_pair (c_is_square ∷ []))) (bilevel [] []) leader 0 ≡ true
  pub block_has : defines (with_goal Max 0 (model free_pair (c_is_square ∷ []))) (bilevel [] (Vi (var 1 ∷ []) [] (equ 0 ∷ []) ∷ [])) leader 0 ≡ false
  -- of `min c x d k` the equation k is a constraint and d is none; k is none where it is not listed
  pub definition_is_none : is_constraint (model free_pair (c_is_square ∷ x_from_one ∷ [])) (equilibrium (min_c (equ 0 ∷ equ 1 ∷ []) ∷ [])) (block 0) 0 ≡ false
  pub other_is_one : is_constraint (model free_pair (c_is_square ∷ x_from_one ∷ [])) (equilibrium (min_c (equ 0 ∷ equ 1 ∷ []) ∷ [])) (block 0) 1 ≡ true
  pub not_listed_is_none : is_constraint (model free_pair (c_is_square ∷ x_from_one ∷ [])) (equilibrium (min_c (equ 0 ∷ []) ∷ [])) (block 0) 1 ≡ false
