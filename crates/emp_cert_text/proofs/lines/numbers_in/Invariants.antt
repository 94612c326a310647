use Rattle.std.specs.Fmt.{signed_decimal}
use Rattle.emp_num.specs.Exact.{IsNarrow}
use Rattle.emp_cert_text.specs.Lines.{IsWhole}
use Rattle.emp_cert_text.proofs.Spaced.{Reading}
use Rattle.emp_cert_text.proofs.lines.numbers_in.Given as goal

abbrev pub invariant-loop-done : goal.invariant-loop-done
invariant-loop-done l = Reading signed_decimal IsNarrow IsWhole l.count l._done l.text l.rest l.out l.outside
