use Rattle.std.proofs.Common.{subst, sym}
use Rattle.emp_line.specs.Place.{Rises}
use Rattle.emp_line.proofs.Spread.{rising}
use Rattle.emp_line.proofs.row.Row.cell.Goals as goal

pub place_of-at-requires : goal.place_of-at-requires
place_of-at-requires c = subst Rises (sym c.as_slice-cells.ensures) (rising c.self.inside.cells.width c.self.inside.cells.items c.self.invariant)
