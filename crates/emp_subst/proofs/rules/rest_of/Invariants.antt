use Rattle.std.proofs.Common.{◌≡◌, take}
use Rattle.std.specs.Prelude.{filter}
use Rattle.emp_subst.specs.Stages.{is_rest}
use Rattle.emp_subst.proofs.rules.rest_of.Given as goal

abbrev pub invariant-loop-at : goal.invariant-loop-at
invariant-loop-at l = l.list ≡ filter (λ e. is_rest l.block l.definition e.at) (take l.at l.equations)
