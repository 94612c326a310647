-- Values of expressions and lists of nodes, equations and bounds: x is variable 0.
use Rattle.std.specs.Prelude.{◌≡◌, pos, negsuc, true, false, [], ◌∷◌, Some, None}
use Rattle.emp_num.specs.Ratio.{ratio}
use Rattle.emp_num.specs.Whole.{whole}
use Rattle.emp_ast.specs.declared.tree.Node.TheVariants.{Number, Var, Neg, Sub, Mul}
use Rattle.emp_ast.specs.declared.model.Relation.TheVariants.{Equal, AtLeast, AtMost, Nothing}
use Rattle.emp_ast.specs.Expression.{Expression, variable, negated, power, expression_of, is_postorder}
use Rattle.emp_ast.specs.Value.{value}
use Rattle.emp_ast.specs.Meets.{MeetsEquation, IsBelow, MeetsBounds}
use Rattle.emp_examples.specs.Small.{difference, product, quotient, numeral, no_number, equation, up_to, from, var, whole_point}

-- 2*x - 4
abbrev pub line : Expression
line = difference (product (numeral 2) (variable 0)) (numeral 4)

pub record ExamplesOfValues : Type 0 where
  -- the nodes 2, x, *, 4, - stand for 2*x - 4; a node that names itself, two roots and no root are no expression
  pub nodes : expression_of (Number (whole 2) ∷ Var (var 0) ∷ Mul 0 1 ∷ Number (whole 4) ∷ Sub 2 3 ∷ []) ≡ line
  pub in_order : is_postorder (Number (whole 2) ∷ Var (var 0) ∷ Mul 0 1 ∷ Number (whole 4) ∷ Sub 2 3 ∷ []) ≡ true
  pub other_order : is_postorder (Number (whole 2) ∷ Var (var 0) ∷ Mul 1 0 ∷ Number (whole 4) ∷ Sub 2 3 ∷ []) ≡ false
  pub itself : is_postorder (Var (var 0) ∷ Neg 1 ∷ []) ≡ false
  pub two_roots : is_postorder (Var (var 0) ∷ Var (var 0) ∷ []) ≡ false
  pub no_root : is_postorder [] ≡ false
  -- at x = 3
  pub line_value : value (whole_point (pos 3 ∷ [])) line ≡ Some (ratio (pos 2) (pos 1))
  pub opposite : value (whole_point (pos 3 ∷ [])) (negated (variable 0)) ≡ Some (ratio (negsuc 2) (pos 1))
  -- 1/(x - 3), 1/(x - 5) and 0*(1/0)
  pub quotient_by_zero : value (whole_point (pos 3 ∷ [])) (quotient (numeral 1) (difference (variable 0) (numeral 3))) ≡ None
  pub quotient_below_zero : value (whole_point (pos 3 ∷ [])) (quotient (numeral 1) (difference (variable 0) (numeral 5))) ≡ Some (ratio (negsuc 0) (pos 2))
  pub product_of_none : value (whole_point (pos 3 ∷ [])) (product (numeral 0) no_number) ≡ None
  -- x**0 and x**2
  pub power_zero : value (whole_point (pos 3 ∷ [])) (power (variable 0) 0) ≡ Some (ratio (pos 1) (pos 1))
  pub power_two : value (whole_point (pos 3 ∷ [])) (power (variable 0) 2) ≡ Some (ratio (pos 9) (pos 1))
  -- x =g= 2, x =l= 2 and x =e= 2
  pub meets_at_three : MeetsEquation (whole_point (pos 3 ∷ [])) (equation (variable 0) AtLeast (numeral 2))
  pub at_most_meets_at_one : MeetsEquation (whole_point (pos 1 ∷ [])) (equation (variable 0) AtMost (numeral 2))
  pub misses_at_one : MeetsEquation (whole_point (pos 1 ∷ [])) (equation (variable 0) AtLeast (numeral 2)) → ⊥
  pub at_most_misses_at_three : MeetsEquation (whole_point (pos 3 ∷ [])) (equation (variable 0) AtMost (numeral 2)) → ⊥
  pub equal_misses_at_three : MeetsEquation (whole_point (pos 3 ∷ [])) (equation (variable 0) Equal (numeral 2)) → ⊥
  -- 1/0 =e= 1/0 is met by no point, and 1/0 =n= x by each
  pub right_without_value : MeetsEquation (whole_point (pos 3 ∷ [])) (equation (variable 0) Equal no_number) → ⊥
  pub none_meets_nothing : MeetsEquation (whole_point (pos 3 ∷ [])) (equation no_number Equal no_number) → ⊥
  pub each_meets : MeetsEquation (whole_point (pos 3 ∷ [])) (equation no_number Nothing (variable 0))
  -- -x =l= 0
  pub opposite_meets : MeetsEquation (whole_point (pos 3 ∷ [])) (equation (negated (variable 0)) AtMost (numeral 0))
  -- x.up = 2 at 2, at 3 and at 5/2; x.lo = 3 at 3 and at 2
  pub bound_at_two : MeetsBounds (whole_point (pos 2 ∷ [])) 0 (up_to 2)
  pub bound_at_three : MeetsBounds (whole_point (pos 3 ∷ [])) 0 (up_to 2) → ⊥
  pub bound_at_halves : IsBelow (ratio (pos 5) (pos 2)) (up_to 2).high → ⊥
  pub from_three : MeetsBounds (whole_point (pos 3 ∷ [])) 0 (from 3)
  pub not_below : MeetsBounds (whole_point (pos 2 ∷ [])) 0 (from 3) → ⊥
