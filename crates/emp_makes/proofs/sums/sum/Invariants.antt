use Rattle.std.proofs.Common.{Ok}
use Rattle.emp_form.specs.Calls.{Runs}
use Rattle.emp_makes.specs.Makes.{sum_from}
use Rattle.emp_makes.proofs.sums.sum.Given as goal

abbrev pub invariant-loop-k : goal.invariant-loop-k
invariant-loop-k l = Runs (sum_from l.values l.first l.k) (Ok l.sum)
