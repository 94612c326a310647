use Rattle.std.proofs.Common.{take}
use Rattle.emp_subst.proofs.Flows.{ZerosOn}
use Rattle.emp_subst.proofs.parts.put_zeros.Given as goal

abbrev pub invariant-loop : goal.invariant-loop
invariant-loop l = ZerosOn (take l.counter l.zeros) l.fn.list l.list
