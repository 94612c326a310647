use Rattle.std.proofs.Common.{arith, refl, sym, ◌∙◌}
use Rattle.emp_subst.proofs.LeftLists.{lefts_keep, lefts_pass, left_is}
use Rattle.emp_subst.proofs.lefts.left_variables.Goals.{then-not-is_defined+in_ok-push, else-not-is_defined}
use Rattle.emp_subst.proofs.lefts.left_variables.Goals as goal

pub loop-at-preserved : goal.loop-at-preserved
loop-at-preserved c =
    let m = c.args.model.now in
    let a = c.args.annot.now in
    let n = c.loop-at.at in
    elim c.if-not-is_defined.branch [ then-not-is_defined+in_ok-push w ↦ w.list-is ∙ (w.in_ok-push.ensures.ok ∙ lefts_keep m a c.loop-at.list n _ (omega arith) (sym c.is_defined.ensures ∙ w.if-not-is_defined.true) (left_is m n (record { at = n }) w.get-variable.result.now (omega arith) refl w.get-variable.ensures) c.loop-at.invariant) | else-not-is_defined w ↦ w.list-is ∙ lefts_pass m a c.loop-at.list n (omega arith) (sym c.is_defined.ensures ∙ w.if-not-is_defined.false) c.loop-at.invariant ]
