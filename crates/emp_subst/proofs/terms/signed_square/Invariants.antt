use Rattle.std.proofs.Common.{take}
use Rattle.emp_subst.specs.Stages.{sign_of, SquareTimes}
use Rattle.emp_subst.proofs.terms.signed_square.Given as goal

abbrev pub invariant-loop-at : goal.invariant-loop-at
invariant-loop-at l = SquareTimes (sign_of l.negate) (take l.at l.terms) l.list
