use Rattle.std.proofs.Common.{◌≡◌, ℕ, Bool, nat_eq, length, [], ◌∷◌, ◌++◌, arith, sym, ap, subst, Some, length-append}
use Rattle.std.specs.Prelude.{slice_get}
use Rattle.emp_ast.specs.Parties.{holders}
use Rattle.emp_owner.proofs.Lists.{each_pushed}
use Rattle.emp_owner.proofs.definitions.alone_table.Goals as goal

pub loop-at-preserved : goal.loop-at-preserved
loop-at-preserved c =
    let a = c.args.annot.now in
    let b = c.one_has.result in
    let list = c.loop-at.list in
    let one : b ≡ nat_eq (holders a (length list)) 1 = subst (λ k. b ≡ nat_eq (holders a k) 1) (sym c.loop-at.invariant.count) c.one_has.ensures in
    let pushed = each_pushed (λ k x. x ≡ nat_eq (holders a k) 1) list b c.loop-at.invariant.each one in
    let new : c.push.new.self ≡ list ++ b ∷ [] = c.in_ok-push.ensures.ok in
    record {
      count = omega (arith, ap length new, length-append list (b ∷ []), c.loop-at.invariant.count);
      each = subst (λ l. (k : ℕ) (x : Bool) → slice_get l k ≡ Some x → x ≡ nat_eq (holders a k) 1) (sym new) pushed;
    }
