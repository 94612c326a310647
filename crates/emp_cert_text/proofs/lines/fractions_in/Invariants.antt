use Rattle.emp_numeral.specs.FracText.{fraction_text}
use Rattle.emp_cert_text.specs.Words.{IsFraction}
use Rattle.emp_cert_text.proofs.Spaced.{AnyFrac, Reading}
use Rattle.emp_cert_text.proofs.lines.fractions_in.Given as goal

abbrev pub invariant-loop-done : goal.invariant-loop-done
invariant-loop-done l = Reading fraction_text AnyFrac IsFraction l.count l._done l.text l.rest l.out l.outside
