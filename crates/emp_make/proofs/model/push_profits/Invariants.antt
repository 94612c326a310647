use Rattle.std.proofs.Common.{◌≡◌, ◌++◌}
use Rattle.emp_make.specs.Parts.{profit_variables}
use Rattle.emp_make.proofs.model.push_profits.Given as goal

abbrev pub invariant-loop-firm : goal.invariant-loop-firm
invariant-loop-firm l = l.variables ≡ l.fn.variables ++ profit_variables l.firm
