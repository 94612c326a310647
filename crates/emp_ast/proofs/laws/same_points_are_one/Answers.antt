use Rattle.emp_ast.proofs.SameWords.{same_points_are_one as law}
use Rattle.emp_ast.proofs.laws.same_points_are_one.Goals as goal

pub returns : goal.returns
returns c = law
