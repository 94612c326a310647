use Rattle.std.proofs.Common.{take}
use Rattle.emp_subst.proofs.Flows.{PairsOn}
use Rattle.emp_subst.proofs.parts.put_flows.Given as goal

abbrev pub invariant-loop-at : goal.invariant-loop-at
invariant-loop-at l = PairsOn l.differences (take l.at l.pairs) l.fn.list l.list
