use Rattle.std.proofs.Common.{◌≡◌, drop}
use Rattle.emp_poly.specs.Quads.{square_at}
use Rattle.emp_poly.proofs.gradient.square_of.Given as goal

abbrev pub invariant-loop-k : goal.invariant-loop-k
invariant-loop-k l = square_at (drop l.k l.terms) l.of.at l.of.at ≡ square_at l.terms l.of.at l.of.at
