use Rattle.std.proofs.Common.{ap, ◌∙◌}
use Rattle.emp_num.specs.Whole.{whole}
use Rattle.emp_make.specs.Markets.{cap}
use Rattle.emp_make.proofs.Made.{same_variable}
use Rattle.emp_make.proofs.model.quantity_variable.Goals as goal

pub returns : goal.returns
returns c =
    same_variable _ _ c.whole-low.result (whole 0) c.whole-high.result (whole (cap c.args.seed c.args.firm)) c.in_ok-name.ensures c.whole-low.ensures (c.whole-high.ensures ∙ ap (λ n. whole n) c.cap.ensures)
