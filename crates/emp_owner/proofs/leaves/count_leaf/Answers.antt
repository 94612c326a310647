use Rattle.std.proofs.Common.{◌+◌, ◌<◌, min, ◌∷◌, [], arith, subst, sym, ap, ◌∙◌, length}
use Rattle.std.proofs.lemmas.List.{get_or_default}
use Rattle.emp_ast.specs.declared.tree.Node.TheVariants.{Var}
use Rattle.emp_owner.specs.NodeLeaves.{HasCounted, node_leaves}
use Rattle.emp_owner.proofs.NodeLeaves.{counted_leaf, counted_past}
use Rattle.emp_owner.proofs.leaves.count_leaf.Goals as goal

pub returns-then-at-len : goal.returns-then-at-len
returns-then-at-len c =
    let xs = c.args.counts.now in
    let v = c.args.v in
    let n = c.capped_sum-more.result in
    let within : v.at < length xs = omega arith in
    subst (λ ys. HasCounted xs ys (λ w. node_leaves w (Var v ∷ []))) (sym c.set.ensures)
    (counted_leaf xs v n within (c.capped_sum-more.ensures ∙ ap (λ k. min (k + 1) 2) (c.get.ensures ∙ get_or_default xs v.at c.get.result.now 0 within)))

pub returns-else-at-len : goal.returns-else-at-len
returns-else-at-len c = counted_past c.args.counts.now c.args.v (omega arith)
