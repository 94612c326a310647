use Rattle.std.proofs.Common.{◌≡◌, ◌+◌, [], ◌∷◌, ◌++◌, drop, arith, sym, ap, subst, ◌∙◌}
use Rattle.emp_subst.specs.Fill.{spread_from, spread}
use Rattle.emp_subst.proofs.Spreading.{spread_zero, spread_value, spread_done}
use Rattle.emp_subst.proofs.fill.spread.Goals.{then-is_defined+in_ok-push, else-is_defined+in_ok-push-2}
use Rattle.emp_subst.proofs.fill.spread.Goals as goal

pub loop-at-preserved : goal.loop-at-preserved
loop-at-preserved c =
    let m = c.args.model.now in
    let a = c.args.annot.now in
    let n = c.loop-at.at in
    let vs = c.args.values.now in
    let few = c.loop-at.invariant.1 in
    elim c.if-is_defined.branch [ then-is_defined+in_ok-push w ↦ (subst (λ k. c.if-is_defined.list ++ spread_from m a vs (n + 1) k (drop (n + 1) m.variables) ≡ spread m a vs) (sym w.next-is) (spread_zero m a vs c.loop-at.list c.if-is_defined.list n c.loop-at.next (omega arith) (sym c.is_defined.ensures ∙ w.if-is_defined.true) (w.list-is ∙ (w.in_ok-push.ensures.ok ∙ ap (λ z. c.loop-at.list ++ z ∷ []) w.zero.ensures)) c.loop-at.invariant.0), omega (arith, w.next-is, few)) | else-is_defined+in_ok-push-2 w ↦ (subst (λ k. c.if-is_defined.list ++ spread_from m a vs (n + 1) k (drop (n + 1) m.variables) ≡ spread m a vs) (sym w.next-is) (spread_value m a vs c.loop-at.list c.if-is_defined.list n c.loop-at.next (omega arith) (sym c.is_defined.ensures ∙ w.if-is_defined.false) (w.list-is ∙ (w.in_ok-push-2.ensures.ok ∙ ap (λ z. c.loop-at.list ++ z ∷ []) w.entry.ensures)) c.loop-at.invariant.0), omega (arith, w.next-is, few)) ]

pub returns : goal.returns
returns c = spread_done c.args.model.now c.args.annot.now c.args.values.now c.loop-at.list c.loop-at.at c.loop-at.next (omega arith) c.loop-at.invariant.0
