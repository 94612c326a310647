use Rattle.emp_poly.proofs.Lessening.{never_wide}
use Rattle.emp_poly.proofs.difference.less.Goals as goal

pub unreachable-requires : goal.unreachable-requires
unreachable-requires c = never_wide c.args.left c.args.right c.requires.left c.requires.right c.in-Err.ensures
