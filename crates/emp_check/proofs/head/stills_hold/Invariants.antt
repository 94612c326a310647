use Rattle.std.proofs.Common.{◌≡◌, drop}
use Rattle.emp_check.specs.Heads.{stills_hold}
use Rattle.emp_check.proofs.head.stills_hold.Given as goal

abbrev pub invariant-loop-at : goal.invariant-loop-at
invariant-loop-at l = stills_hold l.system l.point l.step (drop l.at l.system.pairs) ≡ stills_hold l.system l.point l.step l.system.pairs
