use Rattle.std.proofs.Common.{◌-◌, arith}
use Rattle.emp_poly.proofs.Spreading.{puts_square_more}
use Rattle.emp_poly.proofs.spread.put_square.Goals as goal

pub loop-left-preserved : goal.loop-left-preserved
loop-left-preserved c = record {
  within = omega arith;
  puts = puts_square_more c.args.terms.now c.loop-left.left (c.loop-left.left - 1) c.index-terms-left.result c.args.all.now c.loop-left.all c.put.new.self (omega arith) (omega arith) c.index-terms-left.is c.loop-left.invariant.puts c.in_ok-put.ensures.here c.in_ok-put.ensures.others;
}
