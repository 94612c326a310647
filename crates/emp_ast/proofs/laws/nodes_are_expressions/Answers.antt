use Rattle.emp_ast.proofs.Nodes.{nodes_are_expressions as law}
use Rattle.emp_ast.proofs.laws.nodes_are_expressions.Goals as goal

pub returns : goal.returns
returns c = law
