use Rattle.std.proofs.Common.{take, Ok}
use Rattle.emp_form.specs.Calls.{Formula, Runs}
use Rattle.emp_poly.specs.Written.{square_from}
use Rattle.emp_poly.proofs.value.with_square.Given as goal

abbrev pub invariant-loop-k : goal.invariant-loop-k
invariant-loop-k l = (s : Formula) → Runs s (Ok l.fn.start) → Runs (square_from s (take l.k l.terms) l.point) (Ok l.sum)
