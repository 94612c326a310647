use Rattle.std.proofs.Common.{◌∙◌, ap}
use Rattle.emp_num.specs.Gcd.{content_from}
use Rattle.emp_line.specs.Sparse.{numbers}
use Rattle.emp_line.proofs.Rows.{row_is, row_content}
use Rattle.emp_line.proofs.row.Row.content.Goals as goal

pub returns : goal.returns
returns c =
    let own = row_is c.args.self.now c.self.inside.denom c.self.inside.constant c.self.inside.cells.width c.self.inside.cells.items c.self.view_is in
    c.content_within.ensures
    ∙ (ap (λ ls. content_from c.args.seed (numbers ls)) c.as_slice.ensures ∙ row_content c.args.seed c.args.self.now c.self.inside.cells.width c.self.inside.cells.items own c.self.invariant)
