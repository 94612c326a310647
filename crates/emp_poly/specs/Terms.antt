-- Terms in strictly rising order, none with coefficient 0.
use Rattle.std.specs.Prelude.{ℕ, ◌+◌, zero, suc, ℤ, pos, negsuc, Bool, true, false, ◌&&◌, ◌||◌, not, nat_eq, nat_lt, List, [], ◌∷◌}
use Rattle.emp_num.specs.declared.frac.Frac.{Frac}
use Rattle.emp_ast.specs.declared.tree.VarId.{VarId}

abbrev pub is_not_zero : ℤ → Bool
is_not_zero (pos zero) = false
is_not_zero (pos (suc n)) = true
is_not_zero (negsuc n) = true

-- each variable has at least the number `least`, and a greater one than the variable before it
abbrev pub is_linear_from : ℕ → List (VarId × Frac) → Bool
is_linear_from least [] = true
is_linear_from least (t ∷ ts) = not (nat_lt t.0.at least) && (is_not_zero t.1.num && is_linear_from (t.0.at + 1) ts)

abbrev pub is_linear : List (VarId × Frac) → Bool
is_linear ts = is_linear_from 0 ts

-- variables u and v, of which u is not after v, come at or after the pair i, j
abbrev pub comes_from : ℕ → ℕ → ℕ → ℕ → Bool
comes_from i j u v = not (nat_lt v u) && (nat_lt i u || (nat_eq i u && not (nat_lt v j)))

-- each pair comes at or after the pair i, j, and after the pair before it
abbrev pub is_square_from : ℕ → ℕ → List (VarId × VarId × Frac) → Bool
is_square_from i j [] = true
is_square_from i j (t ∷ ts) = comes_from i j t.0.at t.1.at && (is_not_zero t.2.num && is_square_from t.0.at (t.1.at + 1) ts)

abbrev pub is_square : List (VarId × VarId × Frac) → Bool
is_square ts = is_square_from 0 0 ts
