use Rattle.emp_expand.proofs.Standing.{step_gives}
use Rattle.emp_expand.proofs.sums.step.Goals as goal

pub returns : goal.returns
returns c = step_gives c.args.minus c.args.left c.or_zero.result c.args.right c.in_ok-value.value c.finished.result c.or_zero.ensures c.in_ok-value.ensures c.finished.ensures
