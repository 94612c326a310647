use Rattle.std.proofs.Common.{List, Err, take, length, arith, sym, ap, ap₂, subst, ◌∙◌}
use Rattle.std.proofs.lemmas.List.{length-take-le}
use Rattle.emp_num.specs.declared.frac.Frac.{Frac}
use Rattle.emp_subst.specs.Fill.{FillGives}
use Rattle.emp_disj_step.proofs.Backing.{reaches, filled, wide_named}
use Rattle.emp_disj_step.proofs.disj.DisjReform.back.Goals as goal

pub slice_bounds-values-end : goal.slice_bounds-values-end
slice_bounds-values-end c =
    let s = c.args.self.now in
    let reach = reaches s.source.model.now s.source.disjunctions.now s.annot.now s.owned.now s.problem.now s.target.system.now c.requires.whole c.args.point.now (omega (arith, c.requires.fits.stood_for.count, c.requires.fits.fitting)) in
    let same = ap length c.as_slice.ensures in
    sym (length-take-le c.len-count.result c.as_slice.result.now (omega (arith, reach, same, c.len-count.ensures)))

pub fill-requires-clause-values : goal.fill-requires-clause-values
fill-requires-clause-values c =
    let s = c.args.self.now in
    let reach = reaches s.source.model.now s.source.disjunctions.now s.annot.now s.owned.now s.problem.now s.target.system.now c.requires.whole c.args.point.now (omega (arith, c.requires.fits.stood_for.count, c.requires.fits.fitting)) in
    let same = ap length c.as_slice.ensures in
    length-take-le c.len-count.result c.as_slice.result.now (omega (arith, reach, same, c.len-count.ensures)) ∙ c.len-count.ensures

pub returns-in-Ok : goal.returns-in-Ok
returns-in-Ok c = λ p stands.
    let s = c.args.self.now in
    filled s.source.model.now s.source.disjunctions.now s.annot.now s.owned.now s.problem.now s.target.system.now c.requires.whole c.args.point.now (omega (arith, c.requires.fits.stood_for.count, c.requires.fits.fitting)) p stands (take c.len-count.result c.as_slice.result.now) c.in-Ok.values
    (ap₂ (λ n (xs : List Frac). take n xs) c.len-count.ensures c.as_slice.ensures)
    c.in-Ok.ensures

pub returns-in-Err-Wide : goal.returns-in-Err-Wide
returns-in-Err-Wide c = λ p stands.
    let s = c.args.self.now in
    wide_named s.source.model.now s.source.disjunctions.now s.annot.now s.owned.now s.problem.now s.target.system.now c.requires.whole c.args.point.now (omega (arith, c.requires.fits.stood_for.count, c.requires.fits.fitting)) p stands (take c.len-count.result c.as_slice.result.now) c.in-Err-Wide.v.at
    (ap₂ (λ n (xs : List Frac). take n xs) c.len-count.ensures c.as_slice.ensures)
    (subst (λ e. FillGives s.source.model.now s.annot.now s.problem.now (take c.len-count.result c.as_slice.result.now) (Err e)) c.in-Err-Wide.field-0-is c.in-Err-Wide.ensures)
