use Rattle.emp_num.proofs.FracOrder.{total, goes_on, both_ways, one_answer}
use Rattle.emp_num.proofs.laws.order_is_total.Goals as goal

pub returns : goal.returns
returns c = record { total = total; goes_on = goes_on; same = both_ways; one_answer = one_answer }
