use Rattle.std.proofs.Common.{ℕ, ◌<◌, List, length, get_or, subst, sym}
use Rattle.emp_line.specs.declared.cells.Cell.{Cell}
use Rattle.emp_line.specs.Sparse.{no_cell}
use Rattle.emp_line.specs.Place.{MarksCells}
use Rattle.emp_line.proofs.Tables.{row_columns, row_places, row_marked}
use Rattle.emp_line.proofs.row.Row.mark.Goals as goal

pub mark_cells-requires-clause-columns : goal.mark_cells-requires-clause-columns
mark_cells-requires-clause-columns c =
    subst (λ (ls : List Cell). (i : ℕ) → i < length ls → (get_or ls i no_cell).column < length c.args.index.now) (sym c.as_slice.ensures)
    (row_columns c.args.self.now c.self.inside.denom c.self.inside.constant c.self.inside.cells.width c.args.at c.self.inside.cells.items c.args.index.now c.self.view_is c.self.invariant c.requires)

pub mark_cells-requires-clause-places : goal.mark_cells-requires-clause-places
mark_cells-requires-clause-places c = row_places c.args.self.now c.args.at c.args.index.now c.requires

pub returns : goal.returns
returns c =
    row_marked c.args.self.now c.self.inside.denom c.self.inside.constant c.self.inside.cells.width c.args.at c.self.inside.cells.items c.args.value c.args.index.now c.mark_cells.new.index c.self.view_is c.self.invariant c.requires
    (subst (λ ls. MarksCells ls c.args.at c.args.value c.args.index.now c.mark_cells.new.index) c.as_slice.ensures c.mark_cells.ensures)
