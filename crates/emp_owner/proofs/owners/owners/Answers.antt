use Rattle.std.proofs.Common.{◌≡◌, ℕ, length, [], ◌∷◌, ◌++◌, arith, sym, ap, subst, Some, length-append}
use Rattle.std.specs.Prelude.{slice_get}
use Rattle.emp_owner.specs.declared.owned.Owner.{Owner}
use Rattle.emp_owner.specs.Settled.{IsOwner}
use Rattle.emp_owner.proofs.Lists.{each_pushed}
use Rattle.emp_owner.proofs.owners.owners.Goals as goal

pub loop-at-preserved : goal.loop-at-preserved
loop-at-preserved c =
    let m = c.args.model.now in
    let a = c.args.annot.now in
    let w = c.owner.result in
    let list = c.loop-at.list in
    let one : IsOwner m a (length list) w = subst (λ k. IsOwner m a k w) (sym c.loop-at.invariant.count) c.owner.ensures in
    let pushed = each_pushed (λ k o. IsOwner m a k o) list w c.loop-at.invariant.each one in
    let new : c.push.new.self ≡ list ++ w ∷ [] = c.in_ok-push.ensures.ok in
    record {
      count = omega (arith, ap length new, length-append list (w ∷ []), c.loop-at.invariant.count);
      each = subst (λ l. (k : ℕ) (o : Owner) → slice_get l k ≡ Some o → IsOwner m a k o) (sym new) pushed;
    }
