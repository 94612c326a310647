use Rattle.std.proofs.Common.{take}
use Rattle.emp_form.specs.Form.{Monomial}
use Rattle.emp_expand.specs.Factors.{factor}
use Rattle.emp_expand.specs.Joins.{FilledAt}
use Rattle.emp_expand.proofs.products.filled.Given as goal

abbrev pub invariant-loop-at : goal.invariant-loop-at
invariant-loop-at l = (q : Monomial) → FilledAt l.over l.left l.right (take l.at l.listed) q (factor l.all q)
