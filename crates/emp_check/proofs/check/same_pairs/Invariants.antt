use Rattle.std.proofs.Common.{◌≡◌, drop}
use Rattle.emp_check.specs.Checks.{same_pairs}
use Rattle.emp_check.proofs.check.same_pairs.Given as goal

abbrev pub invariant-loop-at : goal.invariant-loop-at
invariant-loop-at l = same_pairs (drop l.at l.links) (drop l.at l.pairs) ≡ same_pairs l.links l.pairs
