use Rattle.std.proofs.Common.{pos}
use Rattle.emp_form.specs.Form.{form_of}
use Rattle.emp_expand.proofs.Powering.{node_power_zero, one_number}
use Rattle.emp_expand.proofs.powers.unit.Goals as goal

pub returns : goal.returns
returns c = λ f. node_power_zero f c.constant-one.result c.node_result.result c.node_result.ensures (c.constant-one.ensures (form_of (pos 1) (pos 1)) (one_number c.reduced.result c.reduced.ensures))
