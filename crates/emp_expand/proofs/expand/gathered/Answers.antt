use Rattle.emp_expand.proofs.Gathering.{sum_ok, sum_err}
use Rattle.emp_expand.proofs.expand.gathered.Goals as goal

pub returns-in-Ok : goal.returns-in-Ok
returns-in-Ok c = sum_ok c.args.minus c.args.left c.args.right c.gather.new.self c.in-Ok.ensures

pub returns-in-Err : goal.returns-in-Err
returns-in-Err c = sum_err c.args.minus c.args.left c.args.right c.gather.new.self c.in-Err.fault c.of_part.result c.in-Err.ensures c.of_part.ensures
