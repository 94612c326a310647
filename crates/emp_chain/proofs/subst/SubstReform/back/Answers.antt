use Rattle.std.proofs.Common.{List, Err, ◌∙◌, sym, subst}
use Rattle.emp_num.specs.declared.frac.Frac.{Frac}
use Rattle.emp_subst.specs.Fill.{IsFilling, IsFirstWide, FillGives, spread}
use Rattle.emp_layers.specs.Layers.{FitsProblem}
use Rattle.emp_layers.proofs.Backs.{filling_is_image, wide_gives}
use Rattle.emp_chain.proofs.subst.SubstReform.back.Goals as goal

pub returns-in-Ok : goal.returns-in-Ok
returns-in-Ok c = λ p stands.
    let s = c.args.self.now in
    let fits : FitsProblem s.target.problem.now p = stands.count ∙ (sym c.requires.fits.stood_for.count ∙ c.requires.fits.fitting) in
    filling_is_image s.source.model.now s.source.annot.now s.target.problem.now c.requires.whole.files p fits c.args.point.now.values stands c.in-Ok.values
    (subst (λ (vs : List Frac). IsFilling s.source.model.now s.source.annot.now s.target.problem.now vs c.in-Ok.values) c.as_slice-values.ensures c.in-Ok.ensures)

pub returns-in-Err-Wide : goal.returns-in-Err-Wide
returns-in-Err-Wide c = λ p stands.
    let s = c.args.self.now in
    wide_gives s.source.model.now s.source.annot.now s.target.problem.now p c.args.point.now.values stands c.in-Err-Wide.v.at
    (subst (λ (vs : List Frac). IsFirstWide s.source.model.now s.source.annot.now s.target.problem.now (spread s.source.model.now s.source.annot.now vs) c.in-Err-Wide.v.at) c.as_slice-values.ensures
    (subst (λ e. FillGives s.source.model.now s.source.annot.now s.target.problem.now c.as_slice-values.result.now (Err e)) c.in-Err-Wide.field-0-is c.in-Err-Wide.ensures))
