use Rattle.std.proofs.Common.{◌≡◌, drop}
use Rattle.emp_cert.specs.Paths.{is_split}
use Rattle.emp_check.proofs.nodes.is_split.Given as goal

abbrev pub invariant-loop-at : goal.invariant-loop-at
invariant-loop-at l = is_split (drop l.at l.trail) l.pair ≡ is_split l.trail l.pair
