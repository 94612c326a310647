use Rattle.std.proofs.Common.{take}
use Rattle.emp_expand.specs.Factors.{fractions}
use Rattle.emp_poly.specs.Parts.{Collected}
use Rattle.emp_poly.proofs.collect.parts_of.Given as goal

abbrev pub invariant-loop-at : goal.invariant-loop-at
invariant-loop-at l = Collected (fractions l.all) (take l.at l.listed) l.parts
