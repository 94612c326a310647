use Rattle.std.proofs.Common.{sym, subst}
use Rattle.emp_expand.specs.Joins.{Covers}
use Rattle.emp_expand.proofs.Filling.{times_gives}
use Rattle.emp_expand.proofs.products.times.Goals as goal

pub returns : goal.returns
returns c =
    times_gives c.args.left.now c.args.right.now c.as_slice.result.now c.filled.result (subst (λ ks. Covers c.args.left.now c.args.right.now ks) (sym c.as_slice.ensures.value) c.in-Ok.ensures) c.filled.ensures
