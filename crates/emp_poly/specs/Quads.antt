-- The coefficients and the value of a polynomial.
use Rattle.std.specs.Prelude.{ℕ, ◌≤◌, pos, ◌<ℤ◌, ◌&&◌, cond, nat_eq, List, [], ◌∷◌}
use Rattle.emp_num.specs.FracSpec.{IsQuotient}
use Rattle.emp_num.specs.Ratio.{Ratio, ratio, plus, times}
use Rattle.emp_num.specs.Point.{Point, coordinate}
use Rattle.emp_num.specs.Whole.{whole}
use Rattle.emp_num.specs.declared.frac.Frac.{Frac}
use Rattle.emp_ast.specs.declared.tree.VarId.{VarId}
use Rattle.emp_form.specs.Form.{Form}
use Rattle.emp_expand.specs.Stands.{IsSmall}
use Rattle.emp_poly.specs.declared.quad.Quad.{Quad}
use Rattle.emp_poly.specs.declared.quad.Lin.{Lin}

-- ---- coefficients: 0 where there is no term
abbrev pub linear_at : List (VarId × Frac) → ℕ → Frac
linear_at [] k = whole 0
linear_at (t ∷ ts) k = cond (nat_eq t.0.at k) t.1 (linear_at ts k)

abbrev pub square_at : List (VarId × VarId × Frac) → ℕ → ℕ → Frac
square_at [] i j = whole 0
square_at (t ∷ ts) i j = cond (nat_eq t.0.at i && nat_eq t.1.at j) t.2 (square_at ts i j)

-- ---- values
abbrev pub as_ratio : Frac → Ratio
as_ratio f = ratio f.num f.den

-- coefficient times coordinate, summed
abbrev pub linear_value : Point → List (VarId × Frac) → Ratio
linear_value p [] = ratio (pos 0) (pos 1)
linear_value p (t ∷ ts) = plus (times (as_ratio t.1) (coordinate p t.0.at)) (linear_value p ts)

-- coefficient times the product of two coordinates, summed
abbrev pub square_value : Point → List (VarId × VarId × Frac) → Ratio
square_value p [] = ratio (pos 0) (pos 1)
square_value p (t ∷ ts) = plus (times (as_ratio t.2) (times (coordinate p t.0.at) (coordinate p t.1.at))) (square_value p ts)

-- the value is the constant plus the linear part plus the quadratic part
abbrev pub quad_value : Point → Quad → Ratio
quad_value p q = plus (as_ratio q.constant) (plus (linear_value p q.linear) (square_value p q.square))

abbrev pub lin_value : Point → Lin → Ratio
lin_value p l = plus (as_ratio l.constant) (linear_value p l.linear)

-- ---- the polynomial has the coefficients of a form
pub record HasForm (q : Quad) (f : Form) : Type 0 where
  pub den : pos 0 <ℤ f.den
  pub constant : IsQuotient q.constant f.constant f.den
  pub linear : (i : ℕ) → IsQuotient (linear_at q.linear i) (f.linear i) f.den
  pub square : (i j : ℕ) → i ≤ j → IsQuotient (square_at q.square i j) (f.square i j) f.den

-- ---- coefficients with numbers below 2^62
pub record IsSmallQuad (q : Quad) : Type 0 where
  pub constant : IsSmall q.constant
  pub linear : (i : ℕ) → IsSmall (linear_at q.linear i)
  pub square : (i j : ℕ) → i ≤ j → IsSmall (square_at q.square i j)
