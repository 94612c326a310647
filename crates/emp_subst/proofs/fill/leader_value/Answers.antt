use Rattle.emp_subst.proofs.Turning.{turns_lin}
use Rattle.emp_subst.proofs.fill.leader_value.Goals as goal

pub returns : goal.returns
returns c =
    turns_lin c.args.sense c.in_ok-quad.quad c.args.part.now.goal c.args.values.now c.in_ok-value.value c.turned.result c.in_ok-quad.ensures.constant c.in_ok-quad.ensures.linear c.in_ok-quad.ensures.square c.in_ok-value.ensures c.turned.ensures
