use Rattle.std.specs.Prelude.{◌≡◌, take}
use Rattle.emp_ast.proofs.model.copy_variables.Given as goal

abbrev pub invariant-loop-at : goal.invariant-loop-at
invariant-loop-at l = l.copies ≡ take l.at l.variables
