use Rattle.std.proofs.Common.{ap, ◌∙◌}
use Rattle.emp_rows.specs.Values.{holds}
use Rattle.emp_rows.proofs.Holding.{gives}
use Rattle.emp_rows.proofs.point.holds.Goals as goal

pub returns : goal.returns
returns c = gives c.args.system.now c.args.point.now c.requires.width c.all_hold.result (c.all_hold.ensures ∙ ap (λ fs. holds c.args.system.now fs) c.as_slice.ensures)
