use Rattle.std.proofs.Common.{◌∙◌, ap}
use Rattle.emp_line.specs.Sparse.{pairs, pairs_wide}
use Rattle.emp_line.specs.Place.{factors_of}
use Rattle.emp_line.proofs.Rows.{row_is, wide_line}
use Rattle.emp_line.proofs.row.Row.cells_are_wide.Goals as goal

pub returns : goal.returns
returns c =
    let f = factors_of c.args.multipliers in
    let own = row_is c.args.self.now c.self.inside.denom c.self.inside.constant c.self.inside.cells.width c.self.inside.cells.items c.self.view_is in
    let other = row_is c.args.pivot.now c.pivot.inside.denom c.pivot.inside.constant c.pivot.inside.cells.width c.pivot.inside.cells.items c.pivot.view_is in
    c.pairs_are_wide.ensures
    ∙ (ap (λ ls. pairs_wide f (pairs c.args.column ls c.as_slice-2.result.now)) c.as_slice.ensures
    ∙ (ap (λ ls. pairs_wide f (pairs c.args.column c.self.inside.cells.items ls)) c.as_slice-2.ensures
    ∙ wide_line f c.args.column c.args.self.now c.args.pivot.now c.self.inside.cells.width c.pivot.inside.cells.width c.self.inside.cells.items c.pivot.inside.cells.items own other c.self.invariant c.pivot.invariant c.requires.width c.requires.column))
