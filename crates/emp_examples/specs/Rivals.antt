-- Given values, rivals, variational inequalities and agents of small models.
use Rattle.std.specs.Prelude.{pos, negsuc, [], ◌∷◌}
use Rattle.emp_num.specs.Ratio.{ratio}
use Rattle.emp_num.specs.Point.{Point}
use Rattle.emp_ast.specs.declared.model.Relation.TheVariants.{Equal, AtLeast, Nothing}
use Rattle.emp_ast.specs.declared.model.Sense.{Sense}
use Rattle.emp_ast.specs.declared.model.Sense.TheVariants.{Min, Max}
use Rattle.emp_ast.specs.declared.model.Equation.{Equation}
use Rattle.emp_ast.specs.declared.model.Variable.{Variable}
use Rattle.emp_ast.specs.declared.model.Model.{Model}
use Rattle.emp_ast.specs.declared.annot.Block.TheVariants.{Agent, Vi}
use Rattle.emp_ast.specs.declared.annot.Annot.{Annot}
use Rattle.emp_ast.specs.Expression.{variable, negated}
use Rattle.emp_ast.specs.Parties.{block}
use Rattle.emp_ast.specs.Rivals.{IsGiven, IsRival}
use Rattle.emp_ast.specs.Solved.{IsSolved}
use Rattle.emp_ast.specs.Equilibrium.{IsEquilibrium}
use Rattle.emp_examples.specs.Small.{sum, difference, product, quotient, numeral, equation, free, from, up_to, var, equ, model, equilibrium, whole_point}
use Rattle.emp_examples.specs.Values.{line}
use Rattle.emp_examples.specs.Parties.{free_pair, square, c_is_square, x_from_one, min_c}

-- ---- given values at c = 7 and x = 3: by d.. c =e= x*x, and where d is c =g= x*x, so that nothing defines c
abbrev pub defined : Model
defined = model free_pair (c_is_square ∷ [])

abbrev pub not_defined : Model
not_defined = model free_pair (equation (variable 0) AtLeast square ∷ [])

abbrev pub one_agent : Annot
one_agent = equilibrium (min_c (equ 0 ∷ []) ∷ [])

abbrev pub seven_three : Point
seven_three = whole_point (pos 7 ∷ pos 3 ∷ [])

pub record ExamplesOfGivenValues : Type 0 where
  pub nine : IsGiven defined one_agent (block 0) seven_three (ratio (pos 9) (pos 1))
  pub not_its_own : IsGiven defined one_agent (block 0) seven_three (ratio (pos 7) (pos 1)) → ⊥
  pub no_fraction : IsGiven defined one_agent (block 0) seven_three (ratio (pos 0) (pos 0)) → ⊥
  pub its_own : IsGiven not_defined one_agent (block 0) seven_three (ratio (pos 7) (pos 1))
  pub not_nine : IsGiven not_defined one_agent (block 0) seven_three (ratio (pos 9) (pos 1)) → ⊥
  pub no_fraction_of_its_own : IsGiven not_defined one_agent (block 0) seven_three (ratio (pos 0) (pos 0)) → ⊥
  -- a block that is not there has no given value
  pub no_block : IsGiven defined one_agent (block 1) seven_three (ratio (pos 9) (pos 1)) → ⊥

-- ---- rivals: `min c x d k` with d.. c =e= x*x and k.. x =g= 1, and a third variable, o
abbrev pub held : Model
held = model (free ∷ free ∷ free ∷ []) (c_is_square ∷ x_from_one ∷ [])

abbrev pub held_by : Annot
held_by = equilibrium (min_c (equ 0 ∷ equ 1 ∷ []) ∷ [])

pub record ExamplesOfRivals : Type 0 where
  -- of c = 1, x = 1, o = 5
  pub at_two : IsRival held held_by (block 0) (whole_point (pos 1 ∷ pos 1 ∷ pos 5 ∷ [])) (whole_point (pos 4 ∷ pos 2 ∷ pos 5 ∷ []))
  -- o moves
  pub moves_another : IsRival held held_by (block 0) (whole_point (pos 1 ∷ pos 1 ∷ pos 5 ∷ [])) (whole_point (pos 4 ∷ pos 2 ∷ pos 6 ∷ [])) → ⊥
  -- x = 0 breaks k
  pub breaks_constraint : IsRival held held_by (block 0) (whole_point (pos 1 ∷ pos 1 ∷ pos 5 ∷ [])) (whole_point (pos 0 ∷ pos 0 ∷ pos 5 ∷ [])) → ⊥
  -- c = 5 with x = 2 breaks d
  pub breaks_definition : IsRival held held_by (block 0) (whole_point (pos 1 ∷ pos 1 ∷ pos 5 ∷ [])) (whole_point (pos 5 ∷ pos 2 ∷ pos 5 ∷ [])) → ⊥
  -- too few coordinates
  pub too_short : IsRival held held_by (block 0) (whole_point (pos 1 ∷ pos 1 ∷ pos 0 ∷ [])) (whole_point (pos 4 ∷ pos 2 ∷ [])) → ⊥

-- ---- variational inequalities: `vi f x` with f.. 2*x - 4 =n= 0
abbrev pub sloped : Variable → Model
sloped x = model (x ∷ []) (equation line Nothing (numeral 0) ∷ [])

abbrev pub sloped_by : Annot
sloped_by = equilibrium (Vi [] ((equ 0, var 0) ∷ []) [] ∷ [])

-- `vi f x` with f.. 1/x =n= 0
abbrev pub divided : Model
divided = model (free ∷ []) (equation (quotient (numeral 1) (variable 0)) Nothing (numeral 0) ∷ [])

-- `vi x` with x.up = 2
abbrev pub idle : Model
idle = model (up_to 2 ∷ []) []

abbrev pub idle_by : Annot
idle_by = equilibrium (Vi (var 0 ∷ []) [] [] ∷ [])

-- `vi f x` with f.. -x =n= 0
abbrev pub falling : Model
falling = model (free ∷ []) (equation (negated (variable 0)) Nothing (numeral 0) ∷ [])

-- `vi f x g y` with f.. x =n= 0, g.. y + 1 =n= 0 and y.lo = 0
abbrev pub paired : Model
paired = model (free ∷ from 0 ∷ []) (equation (variable 0) Nothing (numeral 0) ∷ equation (sum (variable 1) (numeral 1)) Nothing (numeral 0) ∷ [])

abbrev pub paired_by : Annot
paired_by = equilibrium (Vi [] ((equ 0, var 0) ∷ (equ 1, var 1) ∷ []) [] ∷ [])

pub record ExamplesOfInequalities : Type 0 where
  pub at_two : IsEquilibrium (sloped free) sloped_by (whole_point (pos 2 ∷ []))
  pub not_at_one : IsEquilibrium (sloped free) sloped_by (whole_point (pos 1 ∷ [])) → ⊥
  pub not_at_three : IsEquilibrium (sloped free) sloped_by (whole_point (pos 3 ∷ [])) → ⊥
  -- x.lo = 3
  pub at_bound : IsEquilibrium (sloped (from 3)) sloped_by (whole_point (pos 3 ∷ []))
  pub not_below_bound : IsEquilibrium (sloped (from 3)) sloped_by (whole_point (pos 2 ∷ [])) → ⊥
  pub not_above_bound : IsEquilibrium (sloped (from 3)) sloped_by (whole_point (pos 4 ∷ [])) → ⊥
  -- the function has no value at x = 0
  pub no_value : IsSolved divided sloped_by 0 (whole_point (pos 0 ∷ [])) → ⊥
  -- with function zero each point within the bounds is solved, and none outside
  pub idle_at_one : IsSolved idle idle_by 0 (whole_point (pos 1 ∷ []))
  pub idle_at_three : IsSolved idle idle_by 0 (whole_point (pos 3 ∷ [])) → ⊥
  -- the function is taken at the point, and not at the rival: -x is 0 at 0, and against each step elsewhere
  pub falling_at_zero : IsSolved falling sloped_by 0 (whole_point (pos 0 ∷ []))
  pub falling_not_at_one : IsSolved falling sloped_by 0 (whole_point (pos 1 ∷ [])) → ⊥
  -- the sum goes over all pairs
  pub paired_at_zero : IsSolved paired paired_by 0 (whole_point (pos 0 ∷ pos 0 ∷ []))
  pub paired_not_at_one : IsSolved paired paired_by 0 (whole_point (pos 0 ∷ pos 1 ∷ [])) → ⊥

-- ---- agents: `min c x d` or `max c x d` with d.. c =e= x*x - 2*x, and with d.. c =e= 2*x - x*x
abbrev pub bowl_equation : Equation
bowl_equation = equation (variable 0) Equal (difference square (product (numeral 2) (variable 1)))

abbrev pub hill_equation : Equation
hill_equation = equation (variable 0) Equal (difference (product (numeral 2) (variable 1)) square)

abbrev pub curved : Equation → Model
curved q = model free_pair (q ∷ [])

abbrev pub curved_by : Sense → Annot
curved_by sense = equilibrium (Agent sense (var 0) (var 1 ∷ []) (equ 0 ∷ []) ∷ [])

pub record ExamplesOfAgents : Type 0 where
  pub least_at_one : IsSolved (curved bowl_equation) (curved_by Min) 0 (whole_point (negsuc 0 ∷ pos 1 ∷ []))
  pub not_least_at_zero : IsSolved (curved bowl_equation) (curved_by Min) 0 (whole_point (pos 0 ∷ pos 0 ∷ [])) → ⊥
  -- c is not the value of x*x - 2*x
  pub not_off_definition : IsSolved (curved bowl_equation) (curved_by Min) 0 (whole_point (negsuc 1 ∷ pos 1 ∷ [])) → ⊥
  pub not_greatest_at_one : IsSolved (curved bowl_equation) (curved_by Max) 0 (whole_point (negsuc 0 ∷ pos 1 ∷ [])) → ⊥
  pub greatest_at_one : IsSolved (curved hill_equation) (curved_by Max) 0 (whole_point (pos 1 ∷ pos 1 ∷ []))
  pub not_greatest_at_zero : IsSolved (curved hill_equation) (curved_by Max) 0 (whole_point (pos 0 ∷ pos 0 ∷ [])) → ⊥
  -- a block that is not there is solved nowhere
  pub no_block : IsSolved (curved bowl_equation) (curved_by Min) 1 (whole_point (negsuc 0 ∷ pos 1 ∷ [])) → ⊥
