use Rattle.std.proofs.Common.{◌≡◌, drop}
use Rattle.emp_poly.specs.Quads.{square_at}
use Rattle.emp_kkt.proofs.cells.product_of.Given as goal

abbrev pub invariant-loop-at : goal.invariant-loop-at
invariant-loop-at l = square_at (drop l.at l.terms) l.first l.second ≡ square_at l.terms l.first l.second
