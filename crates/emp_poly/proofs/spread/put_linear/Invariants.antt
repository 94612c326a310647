use Rattle.std.proofs.Common.{drop, ◌≤◌, length}
use Rattle.emp_poly.specs.Spread.{PutsLinear}
use Rattle.emp_poly.proofs.spread.put_linear.Given as goal

abbrev pub invariant-loop-left : goal.invariant-loop-left
invariant-loop-left l = record {
  within : l.left ≤ length l.terms;
  puts : PutsLinear (drop l.left l.terms) l.fn.all l.all;
}

abbrev pub decreases-loop-left : goal.decreases-loop-left
decreases-loop-left l = l.left
