use Rattle.emp_make.specs.Parts.{AreProfitEquations}
use Rattle.emp_make.proofs.model.equations.Given as goal

abbrev pub invariant-loop-firm : goal.invariant-loop-firm
invariant-loop-firm l = AreProfitEquations l.seed l.firms l.firm l.equations
