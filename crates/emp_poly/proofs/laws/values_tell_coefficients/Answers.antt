use Rattle.emp_poly.proofs.Telling.{forms_are_same, quads_are_same}
use Rattle.emp_poly.proofs.laws.values_tell_coefficients.Goals as goal

pub returns : goal.returns
returns c = record { forms = λ f g p q h. forms_are_same f g h; quads = quads_are_same }
