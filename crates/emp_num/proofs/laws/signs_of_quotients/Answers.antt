use Rattle.emp_num.proofs.FracOrder.{not_below, above, below, none}
use Rattle.emp_num.proofs.laws.signs_of_quotients.Goals as goal

pub returns : goal.returns
returns c = record { not_below = not_below; above = above; below = below; none = none }
