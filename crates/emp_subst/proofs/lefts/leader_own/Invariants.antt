use Rattle.std.proofs.Common.{◌≡◌, take, map}
use Rattle.std.specs.Prelude.{filter}
use Rattle.emp_ast.specs.Parties.{owns, leader}
use Rattle.emp_subst.proofs.lefts.leader_own.Given as goal

abbrev pub invariant-loop-at : goal.invariant-loop-at
invariant-loop-at l = l.list ≡ map (λ x. x.variable) (filter (λ x. owns l.model l.annot leader x.variable.at) (take l.at l.variables))
