use Rattle.emp_layers.proofs.Backs.{wide_gives, given_wide}
use Rattle.emp_chain.proofs.laws.wide_is_first.Goals as goal

pub returns : goal.returns
returns c = λ m a pr p fs stands w. (λ e. given_wide m a pr p fs stands w e, λ h. wide_gives m a pr p fs stands w h)
