use Rattle.emp_algebra.proofs.Order.{mul_le_right, mul_lt_right, cancel_right}
use Rattle.emp_algebra.proofs.order_keeps_products.Goals as goal

pub returns : goal.returns
returns c = record { at_most = mul_le_right; below = mul_lt_right; cancels = cancel_right }
