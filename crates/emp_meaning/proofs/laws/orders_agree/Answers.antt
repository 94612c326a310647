use Rattle.emp_meaning.proofs.Assembly as Assembly
use Rattle.emp_meaning.proofs.laws.orders_agree.Goals as goal

pub returns : goal.returns
returns c = Assembly.orders_agree
