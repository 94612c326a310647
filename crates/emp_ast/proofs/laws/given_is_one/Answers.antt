use Rattle.emp_ast.proofs.Given.{given_is_one as law}
use Rattle.emp_ast.proofs.laws.given_is_one.Goals as goal

pub returns : goal.returns
returns c = law
