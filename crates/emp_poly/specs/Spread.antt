-- The coefficients of a polynomial by their products of variables, and the differences of two of them. This serves proofs; no
-- meaning cites it.
use Rattle.std.specs.Prelude.{◌≡◌, ◌≢◌, ℕ, pos, ◌*ℤ◌, ◌-ℤ◌, ◌&&◌, cond, nat_eq, List, [], ◌∷◌, Option, Some, None}
use Rattle.emp_num.specs.FracSpec.{IsQuotient}
use Rattle.emp_num.specs.declared.frac.Frac.{Frac}
use Rattle.emp_ast.specs.declared.tree.VarId.{VarId}
use Rattle.emp_form.specs.Form.{Monomial}
use Rattle.emp_expand.specs.Factors.{factor, or_zero, fractions}
use Rattle.emp_expand.specs.declared.coefficients.Coefficients.{Coefficients}
use Rattle.emp_expand.specs.Stands.{IsSmall}
use Rattle.emp_poly.specs.declared.quad.Quad.{Quad}

-- the number is there where it is not 0
abbrev pub IsAt : Option Frac → Frac → Type 0
IsAt None x = x.num ≡ pos 0
IsAt (Some v) x = (v ≡ x) × (x.num ≢ pos 0)

-- the coefficient of the first term, else another one
abbrev pub linear_or : List (VarId × Frac) → ℕ → Option Frac → Option Frac
linear_or [] i o = o
linear_or (t ∷ ts) i o = cond (nat_eq t.0.at i) (Some t.1) (linear_or ts i o)

abbrev pub square_or : List (VarId × VarId × Frac) → ℕ → ℕ → Option Frac → Option Frac
square_or [] i j o = o
square_or (t ∷ ts) i j o = cond (nat_eq t.0.at i && nat_eq t.1.at j) (Some t.2) (square_or ts i j o)

-- ---- parts that are put in
pub record PutsConstant (x : Frac) (o n : Coefficients) : Type 0 where
  pub here : IsAt (factor n (None, None)) x
  pub others : (k : Monomial) → k ≢ (None, None) → factor n k ≡ factor o k

pub record PutsLinear (ts : List (VarId × Frac)) (o n : Coefficients) : Type 0 where
  pub here : (i : ℕ) → factor n (None, Some i) ≡ linear_or ts i (factor o (None, Some i))
  pub others : (k : Monomial) → ((i : ℕ) → k ≢ (None, Some i)) → factor n k ≡ factor o k

pub record PutsSquare (ts : List (VarId × VarId × Frac)) (o n : Coefficients) : Type 0 where
  pub here : (i j : ℕ) → factor n (Some i, Some j) ≡ square_or ts i j (factor o (Some i, Some j))
  pub others : (k : Monomial) → ((i j : ℕ) → k ≢ (Some i, Some j)) → factor n k ≡ factor o k

pub record AreCoefficients (q : Quad) (c : Coefficients) : Type 0 where
  pub constant : IsAt (factor c (None, None)) q.constant
  pub linear : (i : ℕ) → factor c (None, Some i) ≡ linear_or q.linear i None
  pub square : (i j : ℕ) → factor c (Some i, Some j) ≡ square_or q.square i j None
  pub none : (i : ℕ) → factor c (Some i, None) ≡ None

-- ---- differences
abbrev pub AreSmall : Coefficients → Type 0
AreSmall c = (k : Monomial) → IsSmall (fractions c k)

-- x less y, none where it is 0
pub record IsLess (x y : Frac) (r : Option Frac) : Type 0 where
  pub number : Frac
  pub is : IsQuotient number (x.num *ℤ y.den -ℤ y.num *ℤ x.den) (x.den *ℤ y.den)
  pub at : IsAt r number

abbrev pub LessAt : Option Frac → Option Frac → Option Frac → Type 0
LessAt o None r = r ≡ o
LessAt o (Some y) r = IsLess (or_zero o) y r

abbrev pub TakesAway : Coefficients → Coefficients → Coefficients → Type 0
TakesAway a b r = (k : Monomial) → LessAt (factor a k) (factor b k) (factor r k)
