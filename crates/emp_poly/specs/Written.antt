-- The written fold of the value of a polynomial at a list of fractions.
use Rattle.std.specs.Prelude.{ℕ, ◌<◌, List, [], ◌∷◌, slice_index_or}
use Rattle.emp_num.specs.Whole.{whole}
use Rattle.emp_num.specs.declared.frac.Frac.{Frac}
use Rattle.emp_ast.specs.declared.tree.VarId.{VarId}
use Rattle.emp_form.specs.Calls.{Formula, given, added, multiplied}
use Rattle.emp_poly.specs.declared.quad.Quad.{Quad}

-- the coordinate of variable k
abbrev pub entry : List Frac → ℕ → Frac
entry xs k = slice_index_or xs k (whole 0)

-- coefficient times coordinate, added
abbrev pub linear_term : Formula → VarId × Frac → List Frac → Formula
linear_term s t xs = added s (multiplied (given t.1) (given (entry xs t.0.at)))

abbrev pub linear_from : Formula → List (VarId × Frac) → List Frac → Formula
linear_from s [] xs = s
linear_from s (t ∷ ts) xs = linear_from (linear_term s t xs) ts xs

-- coefficient times the product of the two coordinates, added
abbrev pub square_term : Formula → VarId × VarId × Frac → List Frac → Formula
square_term s t xs = added s (multiplied (given t.2) (multiplied (given (entry xs t.0.at)) (given (entry xs t.1.at))))

abbrev pub square_from : Formula → List (VarId × VarId × Frac) → List Frac → Formula
square_from s [] xs = s
square_from s (t ∷ ts) xs = square_from (square_term s t xs) ts xs

-- from the constant, the linear terms in order of variables, then the quadratic ones in order of pairs
abbrev pub written_value : Quad → List Frac → Formula
written_value q xs = square_from (linear_from (given q.constant) q.linear xs) q.square xs

-- ---- each variable has a coordinate
abbrev pub LinearWithin : ℕ → List (VarId × Frac) → Type 0
LinearWithin n [] = Unit {0}
LinearWithin n (t ∷ ts) = (t.0.at < n) × LinearWithin n ts

abbrev pub SquareWithin : ℕ → List (VarId × VarId × Frac) → Type 0
SquareWithin n [] = Unit {0}
SquareWithin n (t ∷ ts) = (t.0.at < n) × (t.1.at < n) × SquareWithin n ts

pub record IsWithin (n : ℕ) (q : Quad) : Type 0 where
  pub linear : LinearWithin n q.linear
  pub square : SquareWithin n q.square
