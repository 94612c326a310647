-- The derivative of a polynomial by a variable.
use Rattle.std.specs.Prelude.{ℕ, ℤ, pos, ◌<ℤ◌, ◌*ℤ◌, cond, nat_eq, nat_lt, List, [], ◌∷◌, ◌++◌, Result, Ok, Err}
use Rattle.emp_num.specs.FracSpec.{IsQuotient, MultipliesWide}
use Rattle.emp_num.specs.Whole.{whole}
use Rattle.emp_num.specs.declared.frac.Frac.{Frac}
use Rattle.emp_ast.specs.declared.tree.VarId.{VarId}
use Rattle.emp_form.specs.Form.{Form}
use Rattle.emp_poly.specs.Quads.{linear_at, square_at, HasForm}
use Rattle.emp_poly.specs.declared.quad.Quad.{Quad}
use Rattle.emp_poly.specs.declared.quad.Lin.{Lin}
use Rattle.emp_poly.specs.declared.gradient.PartFault.{PartFault}
use Rattle.emp_poly.specs.declared.gradient.PartFault.TheVariants.{Wide, NoMemory}

-- ---- of a form: the derivative by variable v has the constant b_v, twice q_vv at v, and q_iv or q_vi at every other i
abbrev pub partial_at : Form → ℕ → ℕ → ℤ
partial_at f v i = cond (nat_eq i v) (pos 2 *ℤ f.square v v) (cond (nat_lt i v) (f.square i v) (f.square v i))

abbrev pub partial_form : ℕ → Form → Form
partial_form v f = record { den = f.den; constant = f.linear v; linear = partial_at f v; square = λ i j. pos 0 }

-- the linear polynomial has the coefficients of a form
pub record LinHasForm (l : Lin) (f : Form) : Type 0 where
  pub den : pos 0 <ℤ f.den
  pub constant : IsQuotient l.constant f.constant f.den
  pub linear : (i : ℕ) → IsQuotient (linear_at l.linear i) (f.linear i) f.den

-- twice the coefficient of the variable's square is wide
abbrev pub DoubleIsWide : Quad → ℕ → Type 0
DoubleIsWide q v = MultipliesWide (whole 2) (square_at q.square v v)

pub record IsGradient (q : Quad) (v : ℕ) (l : Lin) : Type 0 where
  pub partial : (f : Form) → HasForm q f → LinHasForm l (partial_form v f)
  pub narrow : DoubleIsWide q v → ⊥

abbrev pub GradientGives : Quad → ℕ → Result Lin PartFault → Type 0
GradientGives q v (Ok l) = IsGradient q v l
GradientGives q v (Err Wide) = DoubleIsWide q v
GradientGives q v (Err NoMemory) = Unit {0}

-- ---- how it is found; this serves proofs
-- the derivative of one quadratic term, where it has the variable; `d` is twice the coefficient of the variable's square
abbrev pub derived_one : ℕ → Frac → VarId × VarId × Frac → List (VarId × Frac)
derived_one v d t = cond (nat_eq t.0.at v) ((t.1, cond (nat_eq t.1.at v) d t.2) ∷ []) (cond (nat_eq t.1.at v) ((t.0, t.2) ∷ []) [])

abbrev pub derived : ℕ → Frac → List (VarId × VarId × Frac) → List (VarId × Frac)
derived v d [] = []
derived v d (t ∷ ts) = derived_one v d t ++ derived v d ts
