use Rattle.std.proofs.Common.{◌≡◌, ℕ, length, [], ◌∷◌, ◌++◌, arith, sym, ap, subst, Option, Some, length-append}
use Rattle.std.specs.Prelude.{slice_get}
use Rattle.emp_ast.specs.declared.tree.EquId.{EquId}
use Rattle.emp_ast.specs.Parties.{block}
use Rattle.emp_owner.specs.Settled.{IsDefinition}
use Rattle.emp_owner.proofs.Lists.{get_is, each_pushed}
use Rattle.emp_owner.proofs.Defining.{definition_at}
use Rattle.emp_owner.proofs.definitions.block_definitions.Goals as goal

pub loop-at-preserved : goal.loop-at-preserved
loop-at-preserved c =
    let m = c.args.model.now in
    let a = c.args.annot.now in
    let b = c.get.result.now in
    let d = c.in_ok-block_definition.field-0 in
    let list = c.loop-at.list in
    let here : slice_get a.blocks c.loop-at.at ≡ Some b = get_is a.blocks c.loop-at.at b (omega arith) c.get.ensures in
    let one : IsDefinition m a (block (length list)) d = subst (λ k. IsDefinition m a (block k) d) (sym c.loop-at.invariant.count) (definition_at m a c.loop-at.at b d here c.in_ok-block_definition.ensures) in
    let pushed = each_pushed (λ k e. IsDefinition m a (block k) e) list d c.loop-at.invariant.each one in
    let new : c.push.new.self ≡ list ++ d ∷ [] = c.in_ok-push.ensures.ok in
    record {
      count = omega (arith, ap length new, length-append list (d ∷ []), c.loop-at.invariant.count);
      each = subst (λ l. (k : ℕ) (e : Option EquId) → slice_get l k ≡ Some e → IsDefinition m a (block k) e) (sym new) pushed;
    }
