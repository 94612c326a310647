use Rattle.std.proofs.Common.{◌++◌, ◌∷◌, [], sym, ap₂, ◌∙◌}
use Rattle.gms_matches.proofs.Items.{shown_none, shown_some}
use Rattle.gms_matches.proofs.shown.shown.Goals as goal
use Rattle.gms_matches.proofs.shown.shown.Goals.{in-Some+in_ok-pair_in+in_ok-push, in_default}

pub loop-item-preserved : goal.loop-item-preserved
loop-item-preserved c = elim c.match-match_in.branch [
  | in-Some+in_ok-pair_in+in_ok-push w ↦
      w.pairs-is ∙ (w.in_ok-push.ensures.ok ∙ (ap₂ (λ xs q. xs ++ q ∷ []) c.loop-item.invariant w.in_ok-pair_in.ensures
      ∙ sym (shown_some c.args.text.now c.args.draft.now c.args.items.now c.loop-item.item-index c.item-item.result w.in-Some.names c.loop-item-test.true c.item-item.is (sym w.in-Some.ensures))))
  | in_default w ↦
      w.pairs-is ∙ (c.loop-item.invariant
      ∙ sym (shown_none c.args.text.now c.args.draft.now c.args.items.now c.loop-item.item-index c.item-item.result c.loop-item-test.true c.item-item.is (sym w.in_default.ensures)))
]
