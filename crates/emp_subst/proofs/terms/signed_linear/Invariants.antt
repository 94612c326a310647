use Rattle.std.proofs.Common.{take}
use Rattle.emp_subst.specs.Stages.{sign_of, LinearTimes}
use Rattle.emp_subst.proofs.terms.signed_linear.Given as goal

abbrev pub invariant-loop-at : goal.invariant-loop-at
invariant-loop-at l = LinearTimes (sign_of l.negate) (take l.at l.terms) l.list
