-- The laws that the layers above cite, as statements.
use Rattle.std.specs.Prelude.{◌≡◌, ℕ, ◌≤◌, pos, ◌*ℤ◌, ◌<ℤ◌}
use Rattle.emp_num.specs.Ratio.{SameRatio}
use Rattle.emp_num.specs.Point.{Point}
use Rattle.emp_form.specs.Form.{Form, form_value}
use Rattle.emp_poly.specs.Quads.{linear_at, square_at, quad_value, HasForm}
use Rattle.emp_poly.specs.declared.quad.Quad.{Quad}

-- each polynomial has a form, and the value of each form that it has
pub record QuadsHaveForms : Type 0 where
  pub some : (q : Quad) → (f : Form) × HasForm q f
  pub value : (p : Point) (q : Quad) (f : Form) → HasForm q f → SameRatio (quad_value p q) (form_value p f)

-- the coefficients of two forms are the same ratios
pub record SameCoefficients (f g : Form) : Type 0 where
  pub constant : f.constant *ℤ g.den ≡ g.constant *ℤ f.den
  pub linear : (i : ℕ) → f.linear i *ℤ g.den ≡ g.linear i *ℤ f.den
  pub square : (i j : ℕ) → i ≤ j → f.square i j *ℤ g.den ≡ g.square i j *ℤ f.den

-- the coefficients of two polynomials are the same
pub record SameQuads (q r : Quad) : Type 0 where
  pub constant : q.constant ≡ r.constant
  pub linear : (i : ℕ) → linear_at q.linear i ≡ linear_at r.linear i
  pub square : (i j : ℕ) → i ≤ j → square_at q.square i j ≡ square_at r.square i j

-- what has the same value at every point has the same coefficients
pub record ValuesTellCoefficients : Type 0 where
  pub forms : (f g : Form) → pos 0 <ℤ f.den → pos 0 <ℤ g.den → ((p : Point) → SameRatio (form_value p f) (form_value p g)) → SameCoefficients f g
  pub quads : (q r : Quad) → ((p : Point) → SameRatio (quad_value p q) (quad_value p r)) → SameQuads q r
