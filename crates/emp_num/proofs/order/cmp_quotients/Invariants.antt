use Rattle.std.proofs.Common.{◌+◌, ◌*◌, ◌<◌}
use Rattle.std.specs.declared.cmp.Ordering.{Ordering}
use Rattle.emp_num.specs.Orders.{IsCountOrder}
use Rattle.emp_num.proofs.order.cmp_quotients.Given as goal

abbrev pub invariant-parts : goal.invariant-parts
invariant-parts l = record {
  bottom : 0 < l.bottom;
  other_bottom : 0 < l.other_bottom;
  orders : (o : Ordering) → IsCountOrder o (l.top * l.other_bottom) (l.other_top * l.bottom) → IsCountOrder o (l.fn.a * l.fn.d) (l.fn.c * l.fn.b);
}

abbrev pub decreases-parts : goal.decreases-parts
decreases-parts l = l.bottom + l.other_bottom
