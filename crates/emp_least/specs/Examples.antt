-- Small quadratics on small systems: what the definitions accept and refuse.
use Rattle.std.specs.Prelude.{ℤ, pos, negsuc, List, [], ◌∷◌}
use Rattle.emp_algebra.specs.Deciding.{Zero, Nonneg, Weighted}
use Rattle.emp_systems.specs.Steps.{Quadratic}
use Rattle.emp_systems.specs.Multipliers.{IsLeast}
use Rattle.emp_least.specs.Least.{IsConvex, Way, LeastPoint}
use Rattle.emp_least.specs.Systems.{SolvesRay, SolvesOptimum}

-- `constant + cells` of the coordinates, to be at least 0
abbrev pub above : ℤ → List ℤ → Weighted
above c r = record { factor = pos 0; kind = Nonneg; constant = c; cells = r }

-- to be 0
abbrev pub held : ℤ → List ℤ → Weighted
held c r = record { factor = pos 0; kind = Zero; constant = c; cells = r }

-- x*x - 2*x
abbrev pub bowl : Quadratic
bowl = record { constant = pos 0; linear = negsuc 1 ∷ []; square = (pos 1 ∷ []) ∷ [] }

-- x + y*y
abbrev pub valley : Quadratic
valley = record { constant = pos 0; linear = pos 1 ∷ []; square = (pos 0 ∷ []) ∷ (pos 0 ∷ pos 1 ∷ []) ∷ [] }

-- x is at least 2, is at most 2, is 2
abbrev pub from_two : List Weighted
from_two = above (negsuc 1) (pos 1 ∷ []) ∷ []

abbrev pub to_two : List Weighted
to_two = above (pos 2) (negsuc 0 ∷ []) ∷ []

abbrev pub at_two : List Weighted
at_two = held (pos 2) (negsuc 0 ∷ []) ∷ []

-- x is at least 2, and at most 0
abbrev pub nowhere : List Weighted
nowhere = above (negsuc 1) (pos 1 ∷ []) ∷ above (pos 0) (negsuc 0 ∷ []) ∷ []

-- x is at least 0
abbrev pub from_zero : List Weighted
from_zero = above (pos 0) (pos 1 ∷ []) ∷ []

pub record ExamplesOfLeastPoints : Type 0 where
  pub square_is_convex : IsConvex ((pos 1 ∷ []) ∷ [])
  -- -(x*x), and x*y
  pub negated_is_not : IsConvex ((negsuc 0 ∷ []) ∷ []) → ⊥
  pub product_is_not : IsConvex ((pos 0 ∷ pos 1 ∷ []) ∷ []) → ⊥
  -- the bowl has a least point, and no way down without end
  pub bowl_has_least : LeastPoint 1 bowl from_two
  pub bowl_has_no_way : Way 1 bowl [] → ⊥
  pub least_at_two : IsLeast 1 bowl from_two (pos 1) (pos 2 ∷ [])
  pub not_at_three : IsLeast 1 bowl from_two (pos 1) (pos 3 ∷ []) → ⊥
  -- where no point meets the quantities none is least
  pub nowhere_has_none : LeastPoint 1 bowl nowhere → ⊥
  -- the valley has a way, and no least point, unless x is at least 0
  pub valley_has_way : Way 2 valley []
  pub valley_has_no_least : LeastPoint 2 valley [] → ⊥
  pub bounded_has_no_way : Way 2 valley from_zero → ⊥

pub record ExamplesOfTwoSystems : Type 0 where
  pub ray : SolvesRay (pos 1) 2 valley [] (pos 1) (negsuc 0 ∷ pos 0 ∷ [])
  -- the value rises; the square is not flat; x is to be at least 0; a coordinate is missing; the linear part is to fall by 2
  pub rises : SolvesRay (pos 1) 2 valley [] (pos 1) (pos 1 ∷ pos 0 ∷ []) → ⊥
  pub not_flat : SolvesRay (pos 1) 2 valley [] (pos 1) (negsuc 0 ∷ pos 1 ∷ []) → ⊥
  pub leaves : SolvesRay (pos 1) 2 valley from_zero (pos 1) (negsuc 0 ∷ pos 0 ∷ []) → ⊥
  pub one_short : SolvesRay (pos 1) 2 valley [] (pos 1) (negsuc 0 ∷ []) → ⊥
  pub over_two : SolvesRay (pos 2) 2 valley [] (pos 1) (negsuc 0 ∷ pos 0 ∷ []) → ⊥
  -- the derivative 2*x - 2 is the multiplier times the cell
  pub optimum : SolvesOptimum 1 bowl from_two (pos 1) (pos 2 ∷ []) (pos 2 ∷ [])
  pub free_of_bound : SolvesOptimum 1 bowl to_two (pos 1) (pos 1 ∷ []) (pos 0 ∷ [])
  pub any_sign : SolvesOptimum 1 bowl at_two (pos 1) (pos 2 ∷ []) (negsuc 1 ∷ [])
  -- the quantity is negative; it and its multiplier are above 0; the derivative is another; the multiplier is negative, or is not there
  pub below : SolvesOptimum 1 bowl from_two (pos 1) (pos 1 ∷ []) (pos 0 ∷ []) → ⊥
  pub slack : SolvesOptimum 1 bowl from_two (pos 1) (pos 3 ∷ []) (pos 4 ∷ []) → ⊥
  pub not_level : SolvesOptimum 1 bowl from_two (pos 1) (pos 2 ∷ []) (pos 1 ∷ []) → ⊥
  pub wrong_sign : SolvesOptimum 1 bowl to_two (pos 1) (pos 2 ∷ []) (negsuc 1 ∷ []) → ⊥
  pub no_multiplier : SolvesOptimum 1 bowl from_two (pos 1) (pos 1 ∷ []) [] → ⊥
