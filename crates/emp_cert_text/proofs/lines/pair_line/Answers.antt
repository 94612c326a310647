use Rattle.std.proofs.Common.{arith, ◌∙◌}
use Rattle.emp_cert_text.proofs.Heads.{pair_range, pair_fault}
use Rattle.emp_cert_text.proofs.lines.pair_line.Goals as goal

pub returns-in-Ok-clause-err : goal.returns-in-Ok-clause-err
returns-in-Ok-clause-err c = pair_range c.args.quantities c.args.text.now c.in-Some.rest.now c.in-Ok.numbers (omega arith) c.in-Some.ensures c.in-Ok.ensures (λ a b i j e. c.in-None.ensures a b i j (c.as_slice.ensures ∙ e))

pub returns-clause-err : goal.returns-clause-err
returns-clause-err c = pair_fault c.args.quantities c.args.text.now c.in-Some.rest.now c.in-Err.fault (omega arith) c.in-Some.ensures c.in-Err.ensures
