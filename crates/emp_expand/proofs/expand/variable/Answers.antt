use Rattle.emp_expand.proofs.Leaves.{variable_gives}
use Rattle.emp_expand.proofs.expand.variable.Goals as goal

pub returns : goal.returns
returns c = variable_gives c.new-all.result c.put.new.self c.args.at c.reduced-one.result c.reduced-one.ensures c.new-all.ensures c.in-Ok.ensures.here c.in-Ok.ensures.others
