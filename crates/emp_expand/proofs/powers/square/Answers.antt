use Rattle.emp_expand.proofs.Powering.{node_square}
use Rattle.emp_expand.proofs.powers.square.Goals as goal

pub returns : goal.returns
returns c = node_square c.args.base.now c.times-all.result c.node_result.result c.requires c.times-all.ensures c.node_result.ensures
