use Rattle.std.proofs.Common.{◌≡◌, take}
use Rattle.std.specs.Prelude.{filter, not}
use Rattle.emp_subst.specs.Stages.{is_solved}
use Rattle.emp_subst.proofs.lefts.left_of.Given as goal

abbrev pub invariant-loop-at : goal.invariant-loop-at
invariant-loop-at l = l.list ≡ filter (λ v. not (is_solved l.block l.definition v.at)) (take l.at l.variables)
