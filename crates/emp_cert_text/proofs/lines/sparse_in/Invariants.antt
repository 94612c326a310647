use Rattle.std.proofs.Common.{length}
use Rattle.emp_cert_text.proofs.Factors.{FactorReading}
use Rattle.emp_cert_text.proofs.lines.sparse_in.Given as goal

abbrev pub invariant-loop-before : goal.invariant-loop-before
invariant-loop-before l = FactorReading l.count l.text l.rest l.before l.out l.outside

abbrev pub decreases-loop-before : goal.decreases-loop-before
decreases-loop-before l = length l.rest
