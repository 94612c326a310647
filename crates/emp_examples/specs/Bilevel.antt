-- Bilevel points and rays, and convex agents, of small models.
use Rattle.std.specs.Prelude.{pos, negsuc, [], ◌∷◌}
use Rattle.emp_ast.specs.declared.model.Relation.TheVariants.{Equal, Nothing}
use Rattle.emp_ast.specs.declared.model.Sense.TheVariants.{Min, Max}
use Rattle.emp_ast.specs.declared.model.Equation.{Equation}
use Rattle.emp_ast.specs.declared.model.Variable.{Variable}
use Rattle.emp_ast.specs.declared.model.Model.{Model}
use Rattle.emp_ast.specs.declared.annot.Block.TheVariants.{Agent, Vi}
use Rattle.emp_ast.specs.declared.annot.Annot.{Annot}
use Rattle.emp_num.specs.Ratio.{ratio}
use Rattle.emp_ast.specs.Expression.{variable}
use Rattle.emp_ast.specs.Bilevel.{IsAdmissible, IsBetterForLeader, IsBest, IsAfterSteps, IsRay}
use Rattle.emp_ast.specs.Convex.{Bends, IsConvexUpTo, IsConvex}
use Rattle.emp_examples.specs.Small.{difference, equation, numeral, free, from, var, equ, model, with_goal, bilevel, whole_point}
use Rattle.emp_examples.specs.Parties.{c_is_square}
use Rattle.emp_examples.specs.Rivals.{curved, curved_by}

-- ---- the variables are z, y, x; the annotation is `bilevel y vi f x`, z is to be least, e.. z =e= y and f.. x - y =n= 0
abbrev pub z_is_y : Equation
z_is_y = equation (variable 0) Equal (variable 1)

abbrev pub x_to_y : Equation
x_to_y = equation (difference (variable 2) (variable 1)) Nothing (numeral 0)

abbrev pub led : Variable → Model
led y = with_goal Min 0 (model (free ∷ y ∷ free ∷ []) (z_is_y ∷ x_to_y ∷ []))

abbrev pub led_by : Annot
led_by = bilevel (var 1 ∷ []) (Vi [] ((equ 1, var 2) ∷ []) [] ∷ [])

pub record ExamplesOfBilevel : Type 0 where
  -- y.lo = 0
  pub at_one : IsAdmissible (led (from 0)) led_by (whole_point (pos 1 ∷ pos 1 ∷ pos 1 ∷ []))
  -- y is below its bound, e does not hold, the block is not solved
  pub below_bound : IsAdmissible (led (from 0)) led_by (whole_point (negsuc 0 ∷ negsuc 0 ∷ negsuc 0 ∷ [])) → ⊥
  pub off_equation : IsAdmissible (led (from 0)) led_by (whole_point (pos 0 ∷ pos 1 ∷ pos 1 ∷ [])) → ⊥
  pub not_solved : IsAdmissible (led (from 0)) led_by (whole_point (pos 1 ∷ pos 1 ∷ pos 0 ∷ [])) → ⊥
  pub best_at_zero : IsBest (led (from 0)) led_by (whole_point (pos 0 ∷ pos 0 ∷ pos 0 ∷ []))
  pub not_best_at_one : IsBest (led (from 0)) led_by (whole_point (pos 1 ∷ pos 1 ∷ pos 1 ∷ [])) → ⊥
  -- nothing admissible is better than z = -1, but it breaks e
  pub not_best_off_equation : IsBest (led (from 0)) led_by (whole_point (negsuc 0 ∷ pos 0 ∷ pos 0 ∷ [])) → ⊥
  -- for `max` the greater is better
  pub greater : IsBetterForLeader (with_goal Max 0 (model (free ∷ []) [])) led_by (whole_point (pos 1 ∷ [])) (whole_point (pos 0 ∷ []))
  -- without an objective no point is better
  pub no_objective : IsBetterForLeader (model (free ∷ []) []) led_by (whole_point (pos 0 ∷ [])) (whole_point (pos 1 ∷ [])) → ⊥

-- the variables are z, y, w; the annotation is `bilevel y min w d`, with e.. z =e= y and d.. w =e= y
abbrev pub lending : Model
lending = with_goal Min 0 (model (free ∷ free ∷ free ∷ []) (z_is_y ∷ equation (variable 2) Equal (variable 1) ∷ []))

abbrev pub lending_by : Annot
lending_by = bilevel (var 1 ∷ []) (Agent Min (var 2) [] (equ 1 ∷ []) ∷ [])

pub record ExamplesOfRays : Type 0 where
  pub falls : IsRay (led free) led_by (whole_point (pos 0 ∷ pos 0 ∷ pos 0 ∷ [])) (whole_point (pos 0 ∷ negsuc 0 ∷ negsuc 0 ∷ []))
  -- z rises
  pub rises : IsRay (led free) led_by (whole_point (pos 0 ∷ pos 0 ∷ pos 0 ∷ [])) (whole_point (pos 0 ∷ pos 1 ∷ pos 1 ∷ [])) → ⊥
  -- the block is not solved after the step
  pub leaves : IsRay (led free) led_by (whole_point (pos 0 ∷ pos 0 ∷ pos 0 ∷ [])) (whole_point (pos 0 ∷ negsuc 0 ∷ pos 0 ∷ [])) → ⊥
  -- z stays
  pub stays : IsRay (led free) led_by (whole_point (pos 0 ∷ pos 0 ∷ pos 0 ∷ [])) (whole_point (pos 0 ∷ pos 0 ∷ pos 0 ∷ [])) → ⊥
  -- z is not y at the start
  pub starts_off : IsRay (led free) led_by (whole_point (pos 1 ∷ pos 0 ∷ pos 0 ∷ [])) (whole_point (pos 0 ∷ negsuc 0 ∷ negsuc 0 ∷ [])) → ⊥
  -- a follower's objective w takes what its definition gives, whatever its step
  pub takes_given : IsAfterSteps lending lending_by (whole_point (pos 0 ∷ pos 0 ∷ pos 0 ∷ [])) (whole_point (pos 5 ∷ pos 1 ∷ pos 5 ∷ [])) 2 (whole_point (pos 2 ∷ pos 2 ∷ pos 2 ∷ []))
  pub not_by_step : IsAfterSteps lending lending_by (whole_point (pos 0 ∷ pos 0 ∷ pos 0 ∷ [])) (whole_point (pos 0 ∷ pos 1 ∷ pos 0 ∷ [])) 2 (whole_point (pos 2 ∷ pos 2 ∷ pos 0 ∷ [])) → ⊥
  -- y.lo = 0
  pub bounded : IsRay (led (from 0)) led_by (whole_point (pos 0 ∷ pos 0 ∷ pos 0 ∷ [])) (whole_point (pos 0 ∷ negsuc 0 ∷ negsuc 0 ∷ [])) → ⊥

-- ---- `min c x d` or `max c x d` with d.. c =e= x*x
pub record ExamplesOfConvexity : Type 0 where
  pub square : IsConvex (curved c_is_square) (curved_by Min) 0
  pub not_for_max : IsConvex (curved c_is_square) (curved_by Max) 0 → ⊥
  -- counted from 1: x is the first
  pub not_up_to_one : IsConvexUpTo (curved c_is_square) (curved_by Max) 0 1 → ⊥
  -- 0 in the middle of -1 and -1, and of 1 and 1
  pub bends_down : Bends Max (ratio (pos 0) (pos 1)) (ratio (negsuc 0) (pos 1)) (ratio (negsuc 0) (pos 1))
  pub bends_up : Bends Max (ratio (pos 0) (pos 1)) (ratio (pos 1) (pos 1)) (ratio (pos 1) (pos 1)) → ⊥
  -- in no variable at all each agent is convex
  pub in_none : IsConvexUpTo (curved c_is_square) (curved_by Max) 0 0
