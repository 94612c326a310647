use Rattle.std.proofs.Common.{◌∙◌}
use Rattle.emp_subst.proofs.Filled.{fills}
use Rattle.emp_subst.proofs.fill.fill.Goals as goal

pub returns : goal.returns
returns c =
    fills c.args.model.now c.args.annot.now c.args.problem.now c.args.values.now c.as_slice.result.now c.values_of.result c.requires.class c.requires.problem c.requires.values (c.as_slice.ensures ∙ c.in_ok-point.ensures) c.values_of.ensures
