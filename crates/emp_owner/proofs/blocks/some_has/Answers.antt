use Rattle.std.proofs.Common.{◌∙◌}
use Rattle.emp_owner.proofs.Tying.{some_has_is}
use Rattle.emp_owner.proofs.blocks.some_has.Goals as goal

pub returns : goal.returns
returns c = c.some_has_by.ensures ∙ some_has_is c.tied_variables.result c.args.annot.now c.args.e.at c.tied_variables.ensures
