-- The difference of two polynomials.
use Rattle.emp_ast.specs.declared.tree.Operator.TheVariants.{Minus}
use Rattle.emp_form.specs.Form.{Form}
use Rattle.emp_form.specs.Expansion.{joined_form}
use Rattle.emp_poly.specs.Quads.{HasForm}
use Rattle.emp_poly.specs.declared.quad.Quad.{Quad}

-- it has the form of the one less the form of the other
abbrev pub IsDifference : Quad → Quad → Quad → Type 0
IsDifference a b d = (f g : Form) → HasForm a f → HasForm b g → HasForm d (joined_form Minus f g)
