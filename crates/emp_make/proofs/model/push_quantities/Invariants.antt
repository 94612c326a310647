use Rattle.std.proofs.Common.{◌≡◌, ◌++◌}
use Rattle.emp_make.specs.Parts.{quantity_variables}
use Rattle.emp_make.proofs.model.push_quantities.Given as goal

abbrev pub invariant-loop-firm : goal.invariant-loop-firm
invariant-loop-firm l = l.variables ≡ l.fn.variables ++ quantity_variables l.seed l.firm
