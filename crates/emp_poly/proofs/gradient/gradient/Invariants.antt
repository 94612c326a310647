use Rattle.std.proofs.Common.{◌≡◌, take}
use Rattle.emp_poly.specs.Gradient.{derived}
use Rattle.emp_poly.proofs.gradient.gradient.Given as goal

abbrev pub invariant-loop-k : goal.invariant-loop-k
invariant-loop-k l = l.linear ≡ derived l.var.at l.double (take l.k l.quad.square)
