use Rattle.std.proofs.Common.{◌≡◌, ◌++◌, drop}
use Rattle.emp_kkt.specs.Making.{bases_of}
use Rattle.emp_kkt.proofs.cells.block_bases.Given as goal

abbrev pub invariant-loop-at : goal.invariant-loop-at
invariant-loop-at l = l.out ++ bases_of l.problem l.block (drop l.at l.part.rules) ≡ bases_of l.problem l.block l.part.rules
