use Rattle.emp_expand.proofs.Leaves.{negated_gives}
use Rattle.emp_expand.proofs.expand.negated.Goals as goal

pub returns : goal.returns
returns c = negated_gives c.new.result c.args.operand c.gathered.result c.new.ensures c.gathered.ensures
