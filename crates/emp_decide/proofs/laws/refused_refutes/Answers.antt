use Rattle.emp_decide.proofs.Decides as Decides
use Rattle.emp_decide.proofs.laws.refused_refutes.Goals as goal

pub returns : goal.returns
returns c = Decides.refused_refutes
