use Rattle.std.proofs.Common.{◌/◌, ◌%◌, length}
use Rattle.emp_share.specs.Share.{variable_at, IsSecond}
use Rattle.emp_share.proofs.Cells.{one_longer, one_more}
use Rattle.emp_share.proofs.share.cells_of.Goals as goal

pub loop-k-preserved : goal.loop-k-preserved
loop-k-preserved c = (
  one_longer c.loop-k.cells c.push.new.self c.second.result c.loop-k.k c.in_ok-push.ensures.ok c.loop-k.invariant.0,
  one_more (λ i f. IsSecond c.args.quad.now (variable_at c.args.own.now (i / length c.args.doubles.now)) (variable_at c.args.own.now (i % length c.args.doubles.now)) f) c.loop-k.cells c.push.new.self c.second.result c.loop-k.k c.in_ok-push.ensures.ok c.loop-k.invariant.0 c.loop-k.invariant.1 c.second.ensures,
)
