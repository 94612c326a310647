use Rattle.std.proofs.Common.{◌∙◌}
use Rattle.emp_expand.proofs.Filling.{over_gives}
use Rattle.emp_expand.proofs.products.over.Goals as goal

pub returns : goal.returns
returns c =
    over_gives c.args.left.now c.args.right.now c.as_slice.result.now c.filled.result (c.as_slice.ensures.value ∙ c.in-Ok.ensures.all) c.requires c.filled.ensures
