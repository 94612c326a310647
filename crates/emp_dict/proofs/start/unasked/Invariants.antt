use Rattle.std.proofs.Common.{◌≡◌, replicate}
use Rattle.emp_dict.specs.declared.label.Mark.TheVariants.{Unasked}
use Rattle.emp_dict.proofs.start.unasked.Given as goal

abbrev pub invariant-loop-at : goal.invariant-loop-at
invariant-loop-at l = l.out ≡ replicate l.at Unasked
