use Rattle.std.proofs.Common.{take}
use Rattle.emp_problem.specs.ProblemOf.{AreBlocksFor}
use Rattle.emp_subst.proofs.parts.block_parts.Given as goal

abbrev pub invariant-loop-at : goal.invariant-loop-at
invariant-loop-at l = AreBlocksFor l.model l.annot 0 (take l.at l.annot.blocks) l.list
