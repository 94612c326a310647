use Rattle.std.proofs.Common.{◌≡◌, take}
use Rattle.emp_ast.specs.Parties.{all_equations}
use Rattle.emp_subst.proofs.Constraints.{leaders}
use Rattle.emp_subst.proofs.rules.leader_constraints.Given as goal

abbrev pub invariant-loop-at : goal.invariant-loop-at
invariant-loop-at l = l.list ≡ leaders l.model l.annot (take l.at (all_equations 0 l.model.equations))
