use Rattle.std.proofs.Common.{◌++◌, sym, ap₂, ◌∙◌}
use Rattle.emp_expand.proofs.Filling.{covers}
use Rattle.emp_expand.proofs.products.listed.Goals as goal

pub returns : goal.returns
returns c =
    covers c.args.left.now c.args.right.now c.as_slice-3.result.now c.as_slice-4.result.now c.extend_from_slice.new.self.items c.with_pairs.new.out.items (c.as_slice-3.ensures.value ∙ c.in_ok-firsts.ensures.all) (c.as_slice-4.ensures.value ∙ c.in_ok-others.ensures.all)
    (c.in_ok-extend_from_slice.ensures.items ∙ ap₂ (λ x y. x ++ y) (c.in_ok-out.ensures.items ∙ (c.as_slice.ensures.value ∙ sym c.as_slice-3.ensures.value)) (c.as_slice-2.ensures.value ∙ sym c.as_slice-4.ensures.value)) c.in_ok-with_pairs.ensures
