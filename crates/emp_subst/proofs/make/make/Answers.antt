use Rattle.emp_subst.proofs.Made.{class_file}
use Rattle.emp_subst.proofs.make.make.Goals as goal

pub returns : goal.returns
returns c =
    (c.in_ok-differences.ensures.0, class_file c.args.model.now c.args.annot.now c.requires.kept c.requires.fits c.requires.goal c.in_ok-differences.ensures.0 c.in_default.ensures c.in_ok-leader.ensures.1, record { variables = c.in_ok-variables.ensures; leads = c.in_ok-leader.ensures.0; blocks = c.in_ok-blocks.ensures; duals = c.in_ok-duals.ensures; visols = c.in_ok-visols.ensures })
