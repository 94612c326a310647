use Rattle.std.proofs.Common.{◌≡◌, ◌++◌, take, map}
use Rattle.std.specs.Prelude.{filter}
use Rattle.emp_ast.specs.Parties.{names_variable, block_variables}
use Rattle.emp_subst.proofs.rules.put_tied.Given as goal

abbrev pub invariant-loop-at : goal.invariant-loop-at
invariant-loop-at l = l.list ≡ l.fn.list ++ map (λ i. i.1) (filter (λ i. names_variable (block_variables l.block) i.0.at) (take l.at l.annot.implicits))
