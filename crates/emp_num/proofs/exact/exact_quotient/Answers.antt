use mir.Syntax.{w128}
use Rattle.std.proofs.lemmas.Int.{quot_is, quot_fits}
use Rattle.emp_num.proofs.Gcds.{quot_exact}
use Rattle.emp_num.proofs.exact.exact_quotient.Goals as goal

pub returns-clause-value : goal.returns-clause-value
returns-clause-value c =
    rw (quot_is w128 c.args.a c.args.divisor c.ranges.a c.ranges.divisor (quot_fits w128 c.args.a c.args.divisor c.ranges.a c.requires.positive))
    (quot_exact c.args.a c.args.divisor c.requires.divides)
