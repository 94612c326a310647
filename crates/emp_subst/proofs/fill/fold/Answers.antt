use Rattle.std.proofs.Common.{length, refl, sym, ap, subst, ◌∙◌}
use Rattle.emp_form.specs.Calls.{Gives, HasWideCall}
use Rattle.emp_poly.specs.Written.{entry, IsWithin}
use Rattle.emp_subst.proofs.Folding.{written_same, is_within}
use Rattle.emp_subst.proofs.fill.fold.Goals as goal

pub at-requires : goal.at-requires
at-requires c =
    record { within = subst (λ ps. IsWithin (length ps) c.args.quad.now) (sym c.as_slice-3.ensures) (is_within c.args.quad.now (length c.in_ok-point.point) c.linear_reach.result c.square_reach-reach.result c.as_slice-2.result.now c.as_slice.result.now c.as_slice-2.ensures c.as_slice.ensures c.linear_reach.ensures.reach c.square_reach-reach.ensures.reach c.square_reach-reach.ensures.least c.in_ok-point.ensures.0) }

pub returns-in-Ok : goal.returns-in-Ok
returns-in-Ok c =
    subst (λ f. Gives f c.in-Ok.value × (HasWideCall f → ⊥)) (written_same c.args.quad.now c.as_slice-3.result.now c.args.values.now (λ k. ap (λ ps. entry ps k) c.as_slice-3.ensures ∙ c.in_ok-point.ensures.1 k)) c.in-Ok.ensures.fold

pub returns : goal.returns
returns c =
    (refl, subst (λ f. HasWideCall f) (written_same c.args.quad.now c.as_slice-3.result.now c.args.values.now (λ k. ap (λ ps. entry ps k) c.as_slice-3.ensures ∙ c.in_ok-point.ensures.1 k)) c.in-Err.ensures.fold)
