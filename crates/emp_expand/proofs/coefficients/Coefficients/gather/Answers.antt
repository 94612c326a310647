use Rattle.std.proofs.Common.{Some, sym, subst, subst₂}
use Rattle.emp_expand.specs.Factors.{factor}
use Rattle.emp_expand.specs.Steps.{StepAt, StepIsWide}
use Rattle.emp_expand.proofs.Moving.{moved_more, moved_wide}
use Rattle.emp_expand.proofs.coefficients.Coefficients.gather.Goals as goal

pub loop-at-preserved : goal.loop-at-preserved
loop-at-preserved c =
    moved_more (StepAt c.args.minus) (factor c.args.self.now) (factor c.args.other) (factor c.loop-at.self) (factor c.loop-at.rest) (factor c.set.new.self) (factor c.pop.new.self) c.in-Some.at c.in-Some.value c.loop-at.invariant c.in-Some.ensures.was c.in-Some.ensures.gone c.in-Some.ensures.others c.in-Ok-set.ensures.others
    (subst₂ (λ o r. StepAt c.args.minus o (Some c.in-Some.value) r) c.get.ensures (sym c.in-Ok-set.ensures.here) c.in-Ok.ensures)

pub returns-in_default-step : goal.returns-in_default-step
returns-in_default-step c =
    moved_wide (StepAt c.args.minus) (StepIsWide c.args.minus) (factor c.args.self.now) (factor c.args.other) (factor c.loop-at.self) (factor c.loop-at.rest) c.in-Some.at c.in-Some.value c.loop-at.invariant c.in-Some.ensures.was
    (subst (λ o. StepIsWide c.args.minus o (Some c.in-Some.value)) c.get.ensures c.in_default-step.ensures)
