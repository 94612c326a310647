use Rattle.emp_expand.proofs.Leaves.{number_gives}
use Rattle.emp_expand.proofs.expand.number.Goals as goal

pub returns : goal.returns
returns c = number_gives c.args.value c.constant-found.result c.node_result.result c.node_result.ensures c.constant-found.ensures
