use Rattle.emp_ast.proofs.Defines.{defines_is_sentence as law}
use Rattle.emp_ast.proofs.laws.defines_is_sentence.Goals as goal

pub returns : goal.returns
returns c = law
