use Rattle.std.proofs.Common.{◌≡◌, drop}
use Rattle.gms_read.specs.Rules.{undefined_from}
use Rattle.gms_read.proofs.finish.undefined_fault.Given as goal

abbrev pub invariant-loop-at : goal.invariant-loop-at
invariant-loop-at l = undefined_from l.at (drop l.at l.equations) ≡ undefined_from 0 l.equations
