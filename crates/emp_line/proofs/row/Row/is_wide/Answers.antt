use Rattle.emp_line.proofs.Rows.{small_still}
use Rattle.emp_line.proofs.row.Row.is_wide.Goals as goal

pub returns-then-is_small : goal.returns-then-is_small
returns-then-is_small c = small_still c.args.pivot.now c.args.self.now c.args.column c.requires.column (c.requires.small c.if-small.true) (c.is_small.ensures c.if-is_small.true)
