use Rattle.std.specs.Prelude.{◌≡◌, false, take}
use Rattle.std.specs.List.{list_any}
use Rattle.emp_ast.specs.Parties.{names_variable, block_variables}
use Rattle.emp_owner.proofs.owners.block_of.Given as goal

abbrev pub invariant-loop-at : goal.invariant-loop-at
invariant-loop-at l = list_any (λ b. names_variable (block_variables b) l.v.at) (take l.at l.annot.blocks) ≡ false
