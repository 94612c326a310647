use Rattle.emp_meaning.proofs.Assembly as Assembly
use Rattle.emp_meaning.proofs.laws.coordinates_fill.Goals as goal

pub returns : goal.returns
returns c = Assembly.coordinates_fill
