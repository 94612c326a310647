use Rattle.std.proofs.Common.{refl}
use Rattle.emp_subst.proofs.Constraints.{is_rule}
use Rattle.emp_subst.proofs.rules.rule_of.Goals as goal

pub returns : goal.returns
returns c = is_rule c.args.model.now c.args.differences.now c.args.e _ c.index-differences-e.result c.get.result.now c.requires.differences c.requires.within c.index-differences-e.is c.get.ensures refl refl c.in_ok-row.ensures
