use Rattle.std.proofs.Common.{sym}
use Rattle.emp_ast.proofs.Trees.{tree_from_is}
use Rattle.emp_ast.proofs.tree.Tree.of.Goals as goal

pub returns-then-len : goal.returns-then-len
returns-then-len c = sym (tree_from_is _)
