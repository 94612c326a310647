use Rattle.emp_num.proofs.FracOrder.{sum_sign, sum_above, product_sign, product_above, product_below}
use Rattle.emp_num.proofs.laws.signs_of_results.Goals as goal

pub returns : goal.returns
returns c = record { sum = sum_sign; sum_above = sum_above; product = product_sign; product_above = product_above; product_below = product_below }
