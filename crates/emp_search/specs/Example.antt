-- Worked searches, trees and rays. All quantities are to be at least 0.
use Rattle.std.specs.Prelude.{◌≡◌, ℕ, ℤ, pos, negsuc, true, List, [], ◌∷◌, map, Option, Some, None}
use Rattle.emp_num.specs.Whole.{one_above_zero}
use Rattle.emp_num.specs.Point.{Point}
use Rattle.emp_rows.specs.declared.affine.Affine.{Affine}
use Rattle.emp_rows.specs.declared.system.Kind.TheVariants.{Nonneg}
use Rattle.emp_rows.specs.declared.system.RowSystem.{RowSystem}
use Rattle.emp_cert.specs.declared.tree.Node.TheVariants.{Branch, Farkas, Bound}
use Rattle.emp_cert.specs.Deciders.{split, refutes, ShowsNone}
use Rattle.emp_cert.specs.Verdicts.{IsRowRay}
use Rattle.emp_line.specs.declared.line.Line.{Line}
use Rattle.emp_dict.specs.declared.label.Label.TheVariants.{Base, Quantity, Objective}
use Rattle.emp_dict.specs.declared.label.Mark.TheVariants.{Required, Fixed}
use Rattle.emp_dict.specs.Dictionary.{Dictionary}
use Rattle.emp_search.specs.Search.{ray, Searched, closed, found, wide_at, out_of_units, search_of}

abbrev pub row : ℤ → List ℤ → Affine
row n cells = record { cells = cells; constant = n }

-- the system has these base variables, quantities, pairs and this objective
pub record Reads (s : RowSystem) (base : ℕ) (quantities : List Affine) (pairs : List (ℕ × ℕ)) (objective : Option Affine) : Type 0 where
  pub bases : s.base ≡ base
  pub rows : s.quantities ≡ quantities
  pub sorts : s.kinds ≡ map (λ q. Nonneg) quantities
  pub links : s.pairs ≡ pairs
  pub goal : s.objective ≡ objective

-- ---- systems
-- x - y - 3, y, -1 - u, x - y and -u, with the pairs (3, 2) and (5, 4): there is no row point
abbrev pub apart_rows : List Affine
apart_rows = row (negsuc 2) (pos 1 ∷ negsuc 0 ∷ pos 0 ∷ []) ∷ row (pos 0) (pos 0 ∷ pos 1 ∷ pos 0 ∷ []) ∷ row (negsuc 0) (pos 0 ∷ pos 0 ∷ negsuc 0 ∷ []) ∷ row (pos 0) (pos 1 ∷ negsuc 0 ∷ pos 0 ∷ []) ∷ row (pos 0) (pos 0 ∷ pos 0 ∷ negsuc 0 ∷ []) ∷ []

abbrev pub IsApart : RowSystem → Type 0
IsApart s = Reads s 3 apart_rows ((3, 2) ∷ (5, 4) ∷ []) None

-- x, y, 1 - x and 1 - y with the pair (1, 2), and -2x - y is to be least
abbrev pub box_rows : List Affine
box_rows = row (pos 0) (pos 1 ∷ pos 0 ∷ []) ∷ row (pos 0) (pos 0 ∷ pos 1 ∷ []) ∷ row (pos 1) (negsuc 0 ∷ pos 0 ∷ []) ∷ row (pos 1) (pos 0 ∷ negsuc 0 ∷ []) ∷ []

abbrev pub box_goal : Option Affine
box_goal = Some (row (pos 0) (negsuc 1 ∷ negsuc 0 ∷ []))

abbrev pub IsBox : RowSystem → Type 0
IsBox s = Reads s 2 box_rows ((1, 2) ∷ []) box_goal

-- x and y with the pair (1, 2), and -x is to be least
abbrev pub open_rows : List Affine
open_rows = row (pos 0) (pos 1 ∷ pos 0 ∷ []) ∷ row (pos 0) (pos 0 ∷ pos 1 ∷ []) ∷ []

abbrev pub open_goal : Option Affine
open_goal = Some (row (pos 0) (negsuc 0 ∷ pos 0 ∷ []))

abbrev pub IsOpen : RowSystem → Type 0
IsOpen s = Reads s 2 open_rows ((1, 2) ∷ []) open_goal

-- x and 2x with the pair (1, 2), and -x is to be least
abbrev pub tied_rows : List Affine
tied_rows = row (pos 0) (pos 1 ∷ []) ∷ row (pos 0) (pos 2 ∷ []) ∷ []

abbrev pub tied_goal : Option Affine
tied_goal = Some (row (pos 0) (negsuc 0 ∷ []))

abbrev pub IsTied : RowSystem → Type 0
IsTied s = Reads s 1 tied_rows ((1, 2) ∷ []) tied_goal

-- x - 1, and two rows of y with numbers of which the product is wide
abbrev pub steep_rows : List Affine
steep_rows = row (negsuc 0) (pos 1 ∷ pos 0 ∷ []) ∷ row (negsuc 0) (pos 0 ∷ pos 1000000000000000000000000 ∷ []) ∷ row (pos 1000000000000000000000000) (pos 0 ∷ pos 1000000000000000000000001 ∷ []) ∷ []

abbrev pub IsSteep : RowSystem → Type 0
IsSteep s = Reads s 2 steep_rows [] None

-- ---- dictionaries
abbrev pub line : ℤ → ℤ → List ℤ → Line
line d n cells = record { denom = d; constant = n; cells = cells }

-- of the open system at its start: x, y and the objective
abbrev pub open_way : Dictionary
open_way = record {
  lines = line (pos 1) (pos 0) (pos 1 ∷ pos 0 ∷ []) ∷ line (pos 1) (pos 0) (pos 0 ∷ pos 1 ∷ []) ∷ line (pos 1) (pos 0) (negsuc 0 ∷ pos 0 ∷ []) ∷ [];
  rows = Quantity 1 ∷ Quantity 2 ∷ Objective ∷ [];
  columns = Base 1 ∷ Base 2 ∷ [];
  marks = Required ∷ Required ∷ [];
}

-- of the box at x = 1 and y = 0, over the quantities 1 - x and y
abbrev pub right_corner : Dictionary
right_corner = record {
  lines = line (pos 1) (pos 1) (negsuc 0 ∷ pos 0 ∷ []) ∷ line (pos 1) (pos 1) (pos 0 ∷ negsuc 0 ∷ []) ∷ line (pos 1) (pos 1) (negsuc 0 ∷ pos 0 ∷ []) ∷ line (pos 1) (pos 0) (pos 0 ∷ pos 1 ∷ []) ∷ line (pos 1) (negsuc 1) (pos 2 ∷ negsuc 0 ∷ []) ∷ [];
  rows = Quantity 1 ∷ Quantity 4 ∷ Base 1 ∷ Base 2 ∷ Objective ∷ [];
  columns = Quantity 3 ∷ Quantity 2 ∷ [];
  marks = Required ∷ Fixed ∷ Required ∷ Required ∷ [];
}

-- of the tied system at x = 0, over x itself
abbrev pub at_zero : Dictionary
at_zero = record {
  lines = line (pos 1) (pos 0) (pos 1 ∷ []) ∷ line (pos 1) (pos 0) (pos 2 ∷ []) ∷ line (pos 1) (pos 0) (negsuc 0 ∷ []) ∷ [];
  rows = Base 1 ∷ Quantity 2 ∷ Objective ∷ [];
  columns = Quantity 1 ∷ [];
  marks = Fixed ∷ Required ∷ [];
}

-- ---- rows that decide
-- the third of the quantities that are apart less the fifth is -1, and the first less the fourth is -3
abbrev pub third_less_fifth : List ℤ
third_less_fifth = pos 0 ∷ pos 0 ∷ pos 1 ∷ pos 0 ∷ negsuc 0 ∷ []

abbrev pub first_less_fourth : List ℤ
first_less_fourth = pos 1 ∷ pos 0 ∷ pos 0 ∷ negsuc 0 ∷ pos 0 ∷ []

-- ---- what the searches end with
abbrev pub apart_end : ℕ → Searched
apart_end left = closed (record { written = Branch 2 ∷ Farkas third_less_fifth ∷ Farkas first_less_fourth ∷ []; best = None; left = left; nodes = 3 })

abbrev pub box_end : Searched
box_end = closed (record { written = Branch 1 ∷ Bound (pos 1) (negsuc 1 ∷ pos 0 ∷ pos 0 ∷ pos 1 ∷ []) ∷ Bound (pos 1) (pos 0 ∷ negsuc 0 ∷ pos 2 ∷ pos 0 ∷ []) ∷ []; best = Some right_corner; left = 2; nodes = 3 })

abbrev pub open_end : Searched
open_end = found (ray open_way 0 true) (record { written = []; best = None; left = 8; nodes = 1 })

abbrev pub tied_end : Searched
tied_end = closed (record { written = Branch 1 ∷ Bound (pos 1) (negsuc 0 ∷ pos 0 ∷ []) ∷ Bound (pos 2) (pos 0 ∷ negsuc 0 ∷ []) ∷ []; best = Some at_zero; left = 4; nodes = 3 })

pub record ExampleSearches : Type 0 where
  -- there is no row point: after the pivots at the root pair 2 is split, and the child in which its first member is 0 comes first
  pub none : (s : RowSystem) → IsApart s → search_of s 20 ≡ apart_end 15
  -- with the units that it takes, and with one less
  pub enough : (s : RowSystem) → IsApart s → search_of s 5 ≡ apart_end 0
  pub spent : (s : RowSystem) → IsApart s → search_of s 4 ≡ out_of_units
  -- the first child ends with -1, and the second betters it with -2
  pub better : (s : RowSystem) → IsBox s → search_of s 9 ≡ box_end
  -- x moves the objective without end, and y stays 0
  pub endless : (s : RowSystem) → IsOpen s → search_of s 9 ≡ open_end
  -- where both members of the pair move, it is split; the second child is no better than the first, which stays the incumbent
  pub tied : (s : RowSystem) → IsTied s → search_of s 9 ≡ tied_end
  -- the second pivot of the whole search is wide, at the first node
  pub wide : (s : RowSystem) → IsSteep s → search_of s 9 ≡ wide_at 1 2

-- the point with these numbers over 1
abbrev pub whole_point : List ℤ → Point
whole_point nums = record { den = pos 1; nums = nums; positive = one_above_zero }

pub record ExampleTrees : Type 0 where
  pub shows : (s : RowSystem) → IsApart s → ShowsNone s [] (split 2 (refutes third_less_fifth) (refutes first_less_fourth))
  -- the children in the other order, and the row of the first child for both
  pub turned : (s : RowSystem) → IsApart s → ShowsNone s [] (split 2 (refutes first_less_fourth) (refutes third_less_fifth)) → ⊥
  pub first_twice : (s : RowSystem) → IsApart s → ShowsNone s [] (split 2 (refutes third_less_fifth) (refutes third_less_fifth)) → ⊥
  -- the pair split once more, and a pair that is not there
  pub split_twice : (s : RowSystem) → IsApart s → ShowsNone s [] (split 2 (split 2 (refutes third_less_fifth) (refutes third_less_fifth)) (refutes first_less_fourth)) → ⊥
  pub no_pair : (s : RowSystem) → IsApart s → ShowsNone s [] (split 3 (refutes third_less_fifth) (refutes first_less_fourth)) → ⊥
  -- without a branch no negative factor is allowed
  pub unsplit : (s : RowSystem) → IsApart s → ShowsNone s [] (refutes third_less_fifth) → ⊥

pub record ExampleRays : Type 0 where
  -- along x, and not along y, where the objective stays, nor back along x
  pub along : (s : RowSystem) → IsOpen s → IsRowRay s (whole_point (pos 0 ∷ pos 0 ∷ [])) (whole_point (pos 1 ∷ pos 0 ∷ []))
  pub level : (s : RowSystem) → IsOpen s → IsRowRay s (whole_point (pos 0 ∷ pos 0 ∷ [])) (whole_point (pos 0 ∷ pos 1 ∷ [])) → ⊥
  pub below : (s : RowSystem) → IsOpen s → IsRowRay s (whole_point (pos 0 ∷ pos 0 ∷ [])) (whole_point (negsuc 0 ∷ pos 0 ∷ [])) → ⊥
  -- both members of the pair move
  pub breaks : (s : RowSystem) → IsTied s → IsRowRay s (whole_point (pos 0 ∷ [])) (whole_point (pos 1 ∷ [])) → ⊥
  -- it starts at no row point, as x and y are both 1
  pub starts_off : (s : RowSystem) → IsOpen s → IsRowRay s (whole_point (pos 1 ∷ pos 1 ∷ [])) (whole_point (pos 1 ∷ pos 0 ∷ [])) → ⊥
