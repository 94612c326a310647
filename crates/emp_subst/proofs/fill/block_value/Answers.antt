use Rattle.emp_subst.proofs.Turning.{turns_goal}
use Rattle.emp_subst.proofs.fill.block_value.Goals as goal

pub returns : goal.returns
returns c =
    λ q e. turns_goal c.args.sense c.args.part.now.purpose q c.in-Goal.quad c.args.values.now c.in_ok-value-in-Goal.value c.turned.result e c.in-Goal.is c.in_ok-value-in-Goal.ensures c.turned.ensures
