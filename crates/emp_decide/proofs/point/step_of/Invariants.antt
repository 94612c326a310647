use Rattle.std.proofs.Common.{◌+◌}
use Rattle.emp_dict.specs.declared.label.Label.TheVariants.{Base}
use Rattle.emp_dict.specs.Dicts.{dictionary_of}
use Rattle.emp_decide.specs.Reads.{rate_of}
use Rattle.emp_decide.proofs.Reading.{Read}
use Rattle.emp_decide.proofs.point.step_of.Given as goal

abbrev pub invariant-loop-at : goal.invariant-loop-at
invariant-loop-at l = Read l.at (λ b. rate_of (dictionary_of l.dict) l.column l.up (Base (b + 1))) l.out
