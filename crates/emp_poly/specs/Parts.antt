-- How a polynomial is collected from its coefficients. This serves proofs; no meaning cites it.
use Rattle.std.specs.Prelude.{◌≡◌, ◌≢◌, ℕ, pos, ◌<ℤ◌, false, nat_lt, List, [], ◌∷◌, ◌++◌, Option, Some, None}
use Rattle.emp_num.specs.declared.frac.Frac.{Frac}
use Rattle.emp_ast.specs.declared.tree.VarId.{VarId}
use Rattle.emp_form.specs.Form.{Form, Monomial}
use Rattle.emp_form.specs.Wide.{Fractions, HasFractions}
use Rattle.emp_expand.specs.Factors.{factor, fractions}
use Rattle.emp_expand.specs.Stands.{Stands}
use Rattle.emp_expand.specs.declared.coefficients.Coefficients.{Coefficients}
use Rattle.emp_poly.specs.Quads.{HasForm, IsSmallQuad}
use Rattle.emp_poly.specs.declared.quad.Quad.{Quad}
use Rattle.emp_poly.specs.declared.collect.Parts.{Parts}

-- a product of variables that a coefficient can belong to
abbrev pub IsKey : Option ℕ → Option ℕ → Type 0
IsKey None v = Unit {0}
IsKey (Some i) None = ⊥
IsKey (Some i) (Some j) = nat_lt j i ≡ false

abbrev pub variable : ℕ → VarId
variable k = record { at = k }

-- ---- the terms at some products of variables, in order
abbrev pub linear_more : Option ℕ → Option ℕ → Frac → List (VarId × Frac) → List (VarId × Frac)
linear_more None None x ts = ts
linear_more None (Some i) x ts = (variable i, x) ∷ ts
linear_more (Some i) v x ts = ts

abbrev pub linear_part : Fractions → List Monomial → List (VarId × Frac)
linear_part a [] = []
linear_part a (k ∷ ks) = linear_more k.0 k.1 (a k) (linear_part a ks)

abbrev pub square_more : Option ℕ → Option ℕ → Frac → List (VarId × VarId × Frac) → List (VarId × VarId × Frac)
square_more None v x ts = ts
square_more (Some i) None x ts = ts
square_more (Some i) (Some j) x ts = (variable i, variable j, x) ∷ ts

abbrev pub square_part : Fractions → List Monomial → List (VarId × VarId × Frac)
square_part a [] = []
square_part a (k ∷ ks) = square_more k.0 k.1 (a k) (square_part a ks)

-- one more coefficient at the end
pub record Takes (u v : Option ℕ) (x : Frac) (o n : Parts) : Type 0 where
  pub linear : n.linear ≡ o.linear ++ linear_more u v x []
  pub square : n.square ≡ o.square ++ square_more u v x []

pub record Collected (a : Fractions) (ks : List Monomial) (parts : Parts) : Type 0 where
  pub linear : parts.linear ≡ linear_part a ks
  pub square : parts.square ≡ square_part a ks

-- the coefficients are those of the form, none of those that are there is 0, and their numbers may be large
pub record StandsLoosely (c : Coefficients) (f : Form) : Type 0 where
  pub den : pos 0 <ℤ f.den
  pub values : HasFractions (fractions c) f
  pub some : (k : Monomial) (x : Frac) → factor c k ≡ Some x → x.num ≢ pos 0

-- the polynomial has each form that the coefficients stand for
pub record Collects (c : Coefficients) (q : Quad) : Type 0 where
  pub form : (f : Form) → StandsLoosely c f → HasForm q f
  pub small : (f : Form) → Stands c f → IsSmallQuad q
