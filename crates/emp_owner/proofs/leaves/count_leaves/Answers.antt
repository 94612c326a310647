use Rattle.std.proofs.Common.{arith, length, get_or, ap, ◌∙◌}
use Rattle.emp_owner.proofs.NodeLeaves.{counts_more}
use Rattle.emp_owner.proofs.leaves.count_leaves.Goals as goal

pub loop-equation-preserved : goal.loop-equation-preserved
loop-equation-preserved c =
    let m = c.args.model.now in
    let i = c.loop-equation.equation-index in
    let e = c.equation-item.result in
    let list = c.as_slice-equation-items.ensures in
    counts_more (length m.variables) m.equations i e c.loop-equation.counts c.count_equation.new.counts (omega (arith, ap length list)) (c.equation-item.is ∙ ap (λ l. get_or l i e) list) c.loop-equation.invariant c.count_equation.ensures
