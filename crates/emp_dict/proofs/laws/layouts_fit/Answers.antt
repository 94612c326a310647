use Rattle.emp_dict.proofs.Layouts.{layout_is}
use Rattle.emp_dict.proofs.Solutions.{exchange_is_pivot}
use Rattle.emp_dict.proofs.laws.layouts_fit.Goals as goal

pub returns : goal.returns
returns c = record { layout = layout_is; pivot = exchange_is_pivot }
