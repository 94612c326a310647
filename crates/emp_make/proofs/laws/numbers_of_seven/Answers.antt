use Rattle.std.proofs.Common.{refl}
use Rattle.emp_make.proofs.laws.numbers_of_seven.Goals as goal

pub returns : goal.returns
returns c = record { demands = (refl, refl, refl); costs = (refl, refl, refl); caps = (refl, refl, refl) }
