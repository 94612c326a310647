use Rattle.std.proofs.Common.{arith, ap, ◌∙◌}
use Rattle.emp_algebra.specs.Vector.{cell}
use Rattle.emp_cert_text.proofs.Nodes.{branch_range}
use Rattle.emp_cert_text.proofs.lines.branch_in.Goals as goal

pub returns-in-Ok-clause-err : goal.returns-in-Ok-clause-err
returns-in-Ok-clause-err c = λ second q. branch_range c.args.rest.now c.in-Ok.numbers c.args.pairs second q (omega arith) c.in-Ok.ensures (λ k l m e. c.in-None.ensures k l m (ap (λ x. cell x 0) c.as_slice.ensures ∙ e))
