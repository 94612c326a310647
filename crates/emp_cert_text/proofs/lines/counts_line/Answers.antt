use Rattle.std.proofs.Common.{◌∙◌}
use Rattle.emp_cert_text.proofs.Heads.{sizes_range, sizes_fault}
use Rattle.emp_cert_text.proofs.lines.counts_line.Goals as goal

pub returns-in-Ok-clause-err : goal.returns-in-Ok-clause-err
returns-in-Ok-clause-err c = sizes_range c.args.text.now c.in-Some.rest.now c.in-Ok.numbers c.in-Some.ensures c.in-Ok.ensures (λ b q p k e. c.in-None.ensures b q p k (c.as_slice.ensures ∙ e))

pub returns-clause-err : goal.returns-clause-err
returns-clause-err c = sizes_fault c.args.text.now c.in-Some.rest.now c.in-Err.fault c.in-Some.ensures c.in-Err.ensures
