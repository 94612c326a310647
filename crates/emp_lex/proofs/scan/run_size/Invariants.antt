use Rattle.std.proofs.Common.{◌≡◌, ◌+◌, drop}
use Rattle.emp_lex.specs.Bytes.{run_size}
use Rattle.emp_lex.proofs.scan.run_size.Given as goal

abbrev pub invariant-loop-i : goal.invariant-loop-i
invariant-loop-i l = run_size l.class l.text ≡ l.i + run_size l.class (drop l.i l.text)
