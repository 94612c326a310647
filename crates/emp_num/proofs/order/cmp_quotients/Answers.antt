use Rattle.std.proofs.Common.{arith}
use Rattle.std.specs.declared.cmp.Ordering.TheVariants.{Less, Equal, Greater}
use Rattle.emp_num.proofs.Quotients.{whole_less, rests_none, rest_less, rests_swap, rests_fall}
use Rattle.emp_num.proofs.order.cmp_quotients.Goals as goal

pub returns-then-part-other_part : goal.returns-then-part-other_part
returns-then-part-other_part c = c.parts.invariant.orders Less (whole_less c.parts.top c.parts.bottom c.parts.other_top c.parts.other_bottom c.parts.invariant.bottom c.parts.invariant.other_bottom (omega arith))

pub returns-then-other_part-part : goal.returns-then-other_part-part
returns-then-other_part-part c = c.parts.invariant.orders Greater (whole_less c.parts.other_top c.parts.other_bottom c.parts.top c.parts.bottom c.parts.invariant.other_bottom c.parts.invariant.bottom (omega arith))

pub returns-then-other_rest-eq0 : goal.returns-then-other_rest-eq0
returns-then-other_rest-eq0 c = c.parts.invariant.orders Equal (rests_none c.parts.top c.parts.bottom c.parts.other_top c.parts.other_bottom (omega arith) (omega arith) (omega arith))

pub returns-then-rest-eq0 : goal.returns-then-rest-eq0
returns-then-rest-eq0 c = c.parts.invariant.orders Less (rest_less c.parts.top c.parts.bottom c.parts.other_top c.parts.other_bottom c.parts.invariant.bottom (omega arith) (omega arith) (omega arith))

pub returns-then-other_rest-eq0-2 : goal.returns-then-other_rest-eq0-2
returns-then-other_rest-eq0-2 c = c.parts.invariant.orders Greater (rest_less c.parts.other_top c.parts.other_bottom c.parts.top c.parts.bottom c.parts.invariant.other_bottom (omega arith) (omega arith) (omega arith))

pub parts-preserved : goal.parts-preserved
parts-preserved c = record {
  bottom = omega arith;
  other_bottom = omega arith;
  orders = λ o h. c.parts.invariant.orders o (rests_swap o c.parts.top c.parts.bottom c.parts.other_top c.parts.other_bottom (omega arith) h);
}

pub parts-smaller : goal.parts-smaller
parts-smaller c = rests_fall c.parts.top c.parts.bottom c.parts.other_top c.parts.other_bottom c.parts.invariant.bottom c.parts.invariant.other_bottom
