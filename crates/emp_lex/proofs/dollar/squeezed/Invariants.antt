use Rattle.std.proofs.Common.{◌≡◌, ◌++◌, false, drop}
use Rattle.emp_lex.specs.DollarLines.{squeezed}
use Rattle.emp_lex.proofs.dollar.squeezed.Given as goal

abbrev pub invariant-loop-b : goal.invariant-loop-b
invariant-loop-b l = squeezed false l.line ≡ l.out.items ++ squeezed l.after (drop l.b-index l.line)
