use Rattle.std.proofs.Common.{◌∙◌}
use Rattle.emp_subst.proofs.LeftLists.{own_is}
use Rattle.emp_subst.proofs.parts.block_part.Goals as goal

pub returns : goal.returns
returns c =
    λ k at d. record { own = c.in_ok-own.ensures ∙ own_is c.args.model.now c.args.annot.now k c.args.block.now c.args.definition at d; purpose = c.in_ok-purpose.ensures c.args.model.now c.args.annot.now k c.requires.differences at d; rules = c.in_ok-rules.ensures k at d }
