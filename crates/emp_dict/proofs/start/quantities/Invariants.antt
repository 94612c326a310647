use Rattle.std.proofs.Common.{◌≡◌}
use Rattle.emp_dict.specs.Dictionary.{quantities_from}
use Rattle.emp_dict.proofs.start.quantities.Given as goal

abbrev pub invariant-loop-at : goal.invariant-loop-at
invariant-loop-at l = l.out ≡ quantities_from 1 l.at
