use Rattle.std.proofs.Common.{◌≡◌, drop}
use Rattle.gms_read.specs.Rules.{crossing_from}
use Rattle.gms_read.proofs.finish.crossing_fault.Given as goal

abbrev pub invariant-loop-at : goal.invariant-loop-at
invariant-loop-at l = crossing_from l.at (drop l.at l.variables) ≡ crossing_from 0 l.variables
