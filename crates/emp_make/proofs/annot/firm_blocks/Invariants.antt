use Rattle.std.proofs.Common.{◌≡◌}
use Rattle.emp_make.specs.Parts.{firm_blocks}
use Rattle.emp_make.proofs.annot.firm_blocks.Given as goal

abbrev pub invariant-loop-firm : goal.invariant-loop-firm
invariant-loop-firm l = l.blocks ≡ firm_blocks l.firms l.firm
