use Rattle.std.proofs.Common.{◌≡◌}
use Rattle.emp_dict.specs.Dictionary.{bases_from}
use Rattle.emp_dict.proofs.start.bases.Given as goal

abbrev pub invariant-loop-at : goal.invariant-loop-at
invariant-loop-at l = l.out ≡ bases_from 1 l.at
