use Rattle.emp_poly.proofs.QuadForms.{quad_form, has_quad_form, quad_is_form}
use Rattle.emp_poly.proofs.laws.quads_have_forms.Goals as goal

pub returns : goal.returns
returns c = record { some = λ q. (quad_form q, has_quad_form q); value = quad_is_form }
