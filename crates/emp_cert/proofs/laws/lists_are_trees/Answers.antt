use Rattle.emp_cert.proofs.Forests.{some_tree, whole_tree}
use Rattle.emp_cert.proofs.laws.lists_are_trees.Goals as goal

pub returns : goal.returns
returns c = record { some = some_tree; whole = whole_tree }
