use Rattle.std.proofs.Common.{arith, refl, sym, ◌∙◌}
use Rattle.emp_subst.proofs.Constraints.{leaders_keep, leaders_pass}
use Rattle.emp_subst.proofs.rules.leader_constraints.Goals.{then-leader_constrains+in_ok-push, else-leader_constrains}
use Rattle.emp_subst.proofs.rules.leader_constraints.Goals as goal

pub loop-at-preserved : goal.loop-at-preserved
loop-at-preserved c =
    let m = c.args.model.now in
    let a = c.args.annot.now in
    let n = c.loop-at.at in
    elim c.if-leader_constrains.branch [ then-leader_constrains+in_ok-push w ↦ w.list-is ∙ (w.in_ok-push.ensures.ok ∙ leaders_keep m a c.loop-at.list n (record { at = n }) (omega arith) refl (sym c.leader_constrains.ensures ∙ w.if-leader_constrains.true) c.loop-at.invariant) | else-leader_constrains w ↦ w.list-is ∙ leaders_pass m a c.loop-at.list n (record { at = n }) (omega arith) refl (sym c.leader_constrains.ensures ∙ w.if-leader_constrains.false) c.loop-at.invariant ]
