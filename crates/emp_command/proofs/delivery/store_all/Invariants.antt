use Rattle.std.proofs.Common.{map, take}
use Rattle.emp_desk.specs.Desk.{Told, NoneFalls}
use Rattle.emp_command.specs.Course.{StoresAll}
use Rattle.emp_command.specs.Deliveries.{stored_of}
use Rattle.emp_command.proofs.delivery.store_all.Given as goal

abbrev pub invariant-loop-at : goal.invariant-loop-at
invariant-loop-at g l = record {
  stored : Told (StoresAll (map stored_of (take l.at l.files))) (g.D.Desk.tells l.fn.desk) (g.D.Desk.tells l.desk);
  none_falls : NoneFalls (g.D.Desk.faults l.fn.desk) (g.D.Desk.faults l.desk);
}
