use Rattle.std.proofs.Common.{◌≤◌, take}
use Rattle.emp_poly.specs.Written.{SquareWithin}
use Rattle.emp_subst.proofs.fill.square_reach.Given as goal

abbrev pub invariant-loop-k : goal.invariant-loop-k
invariant-loop-k l = SquareWithin l.reach (take l.k l.terms) × (l.least ≤ l.reach)
