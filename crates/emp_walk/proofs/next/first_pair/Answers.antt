use Rattle.std.proofs.Common.{arith}
use Rattle.emp_rows.proofs.Pairs.{few_pairs}
use Rattle.emp_walk.proofs.next.first_pair.Goals as goal

pub overflow_cast-result : goal.overflow_cast-result
overflow_cast-result c = omega (arith, few_pairs c.args.system.now)

pub overflow_add-result : goal.overflow_add-result
overflow_add-result c = omega (arith, few_pairs c.args.system.now)
