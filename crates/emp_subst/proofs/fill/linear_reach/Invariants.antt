use Rattle.std.proofs.Common.{◌≤◌, take}
use Rattle.emp_poly.specs.Written.{LinearWithin}
use Rattle.emp_subst.proofs.fill.linear_reach.Given as goal

abbrev pub invariant-loop-k : goal.invariant-loop-k
invariant-loop-k l = LinearWithin l.reach (take l.k l.terms) × (l.least ≤ l.reach)
