use Rattle.std.proofs.Common.{arith}
use Rattle.emp_cert_text.proofs.Numbers.{below_both}
use Rattle.emp_cert_text.proofs.words.is_below.Goals as goal

pub returns-then-head-eq45-2 : goal.returns-then-head-eq45-2
returns-then-head-eq45-2 c =
    below_both c.args.a.now c.args.b.now c.behind.result.now c.behind-then-head-eq45-2.result.now c.is_less.result
    (omega arith) (omega arith) c.behind.ensures c.behind-then-head-eq45-2.ensures c.is_less.ensures
