use Rattle.emp_form.specs.Form.{Monomial}
use Rattle.emp_expand.specs.Factors.{factor, count}
use Rattle.emp_expand.specs.Steps.{StepAt}
use Rattle.emp_expand.proofs.Moving.{Moved}
use Rattle.emp_expand.proofs.coefficients.Coefficients.gather.Given as goal

abbrev pub invariant-loop-at : goal.invariant-loop-at
invariant-loop-at l = (q : Monomial) → Moved (StepAt l.minus) (factor l.fn.self q) (factor l.fn.other q) (factor l.self q) (factor l.rest q)

abbrev pub decreases-loop-at : goal.decreases-loop-at
decreases-loop-at l = count l.rest
