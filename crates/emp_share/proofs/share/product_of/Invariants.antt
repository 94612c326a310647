use Rattle.std.proofs.Common.{◌≡◌, drop}
use Rattle.emp_poly.specs.Quads.{square_at}
use Rattle.emp_share.proofs.share.product_of.Given as goal

abbrev pub invariant-loop-k : goal.invariant-loop-k
invariant-loop-k l = square_at (drop l.k l.terms) l.u.at l.v.at ≡ square_at l.terms l.u.at l.v.at
