use Rattle.std.specs.Prelude.{take}
use Rattle.emp_owner.specs.Finding.{TellsTied}
use Rattle.emp_owner.proofs.tied.tied_variables.Given as goal

abbrev pub invariant-loop-at : goal.invariant-loop-at
invariant-loop-at l = TellsTied (take l.at l.annot.implicits) l.e.at l.tied
