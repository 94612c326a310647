use Rattle.std.proofs.Common.{sym, subst, ◌∙◌}
use Rattle.std.specs.List.Sorted.{IsStrictlySortedBy}
use Rattle.emp_expand.specs.Factors.{monomial_cmp}
use Rattle.emp_poly.proofs.Gatherings.{parts_linear, parts_square, parts_collect}
use Rattle.emp_poly.proofs.collect.collected.Goals as goal

pub quad_of-quad-requires-clause-linear : goal.quad_of-quad-requires-clause-linear
quad_of-quad-requires-clause-linear c =
    parts_linear c.args.all.now c.as_slice.result.now c.in_ok-parts.parts c.requires (c.as_slice.ensures.value ∙ c.in_ok-listed.ensures.all) (subst (λ ks. IsStrictlySortedBy monomial_cmp ks) (sym c.as_slice.ensures.value) c.in_ok-listed.ensures.rising) c.in_ok-parts.ensures

pub quad_of-quad-requires-clause-square : goal.quad_of-quad-requires-clause-square
quad_of-quad-requires-clause-square c =
    parts_square c.args.all.now c.as_slice.result.now c.in_ok-parts.parts c.requires (c.as_slice.ensures.value ∙ c.in_ok-listed.ensures.all) (subst (λ ks. IsStrictlySortedBy monomial_cmp ks) (sym c.as_slice.ensures.value) c.in_ok-listed.ensures.rising) c.in_ok-parts.ensures

pub returns : goal.returns
returns c =
    parts_collect c.args.all.now c.as_slice.result.now c.in_ok-parts.parts c.quad_of-quad.result (c.as_slice.ensures.value ∙ c.in_ok-listed.ensures.all) c.in_ok-parts.ensures (c.quad_of-quad.ensures.constant ∙ c.fraction.ensures) c.quad_of-quad.ensures.linear c.quad_of-quad.ensures.square
