use Rattle.std.proofs.Common.{◌≡◌, false}
use Rattle.emp_ast.specs.Parties.{some_block_defines}
use Rattle.emp_subst.proofs.fill.block_of.Given as goal

abbrev pub invariant-loop-at : goal.invariant-loop-at
invariant-loop-at l = some_block_defines l.model l.annot l.v.at l.at ≡ false
