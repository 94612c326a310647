use Rattle.emp_duopoly.proofs.Equilibria.{markets_have_equilibria as law}
use Rattle.emp_duopoly.proofs.markets_have_equilibria.Goals as goal

pub returns : goal.returns
returns c = law
