use Rattle.std.specs.Prelude.{◌≡◌, take}
use Rattle.emp_ast.proofs.annot.copy_blocks.Given as goal

abbrev pub invariant-loop-at : goal.invariant-loop-at
invariant-loop-at l = l.copies ≡ take l.at l.blocks
