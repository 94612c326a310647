use Rattle.std.proofs.Common.{take, Ok}
use Rattle.emp_form.specs.Calls.{Formula, Runs}
use Rattle.emp_poly.specs.Written.{linear_from}
use Rattle.emp_poly.proofs.value.with_linear.Given as goal

abbrev pub invariant-loop-k : goal.invariant-loop-k
invariant-loop-k l = (s : Formula) → Runs s (Ok l.fn.start) → Runs (linear_from s (take l.k l.terms) l.point) (Ok l.sum)
