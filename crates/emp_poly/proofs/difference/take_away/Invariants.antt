use Rattle.emp_form.specs.Form.{Monomial}
use Rattle.emp_expand.specs.Factors.{factor, count}
use Rattle.emp_expand.proofs.Moving.{Moved}
use Rattle.emp_poly.specs.Spread.{LessAt}
use Rattle.emp_poly.proofs.difference.take_away.Given as goal

abbrev pub invariant-loop-at : goal.invariant-loop-at
invariant-loop-at l = (q : Monomial) → Moved LessAt (factor l.fn.all q) (factor l.fn.other q) (factor l.all q) (factor l.rest q)

abbrev pub decreases-loop-at : goal.decreases-loop-at
decreases-loop-at l = count l.rest
