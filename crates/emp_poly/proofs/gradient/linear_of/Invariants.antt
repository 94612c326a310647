use Rattle.std.proofs.Common.{◌≡◌, drop}
use Rattle.emp_poly.specs.Quads.{linear_at}
use Rattle.emp_poly.proofs.gradient.linear_of.Given as goal

abbrev pub invariant-loop-k : goal.invariant-loop-k
invariant-loop-k l = linear_at (drop l.k l.terms) l.of.at ≡ linear_at l.terms l.of.at
