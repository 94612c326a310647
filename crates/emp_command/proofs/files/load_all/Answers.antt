use Rattle.std.proofs.Common.{◌<◌, [], ◌∷◌, ◌++◌, length, string_bytes, ap, subst, sym, ◌∙◌, arith}
use Rattle.std.proofs.lemmas.List.{length-append}
use Rattle.emp_command.specs.declared.refusal.Refusal.TheVariants.{NoMemory}
use Rattle.emp_command.specs.Refusals.{TextsFit}
use Rattle.emp_command.proofs.Texts.{one_unloaded, one_more, one_fits, kept_on, held_as}
use Rattle.emp_command.proofs.files.load_all.Goals as goal

pub returns-in-Err-push-clause-refused : goal.returns-in-Err-push-clause-refused
returns-in-Err-push-clause-refused g c =
    let below : c.loop-at.at < length c.args.names.now = omega arith in
    one_unloaded string_bytes c.args.names.now c.loop-at.at _ below c.index-names-at.is _ _ _ c.loop-at.invariant.keeps _ _ _ c.loop-at.invariant.none_falls _ _ NoMemory c.as_str.ensures.value c.loop-at.invariant.texts c.load.ensures.keeps tt

pub loop-at-preserved : goal.loop-at-preserved
loop-at-preserved g c =
    let below : c.loop-at.at < length c.args.names.now = omega arith in
    let eq = (c.in-Ok-push.ensures.ok ∙ ap (λ b. c.loop-at.texts ++ b ∷ []) c.of.ensures) in
    let joined = length-append c.loop-at.texts (c.in-Ok.bytes.items ∷ []) in
    record {
      texts = held_as _ _ _ _ _ eq (one_more string_bytes c.args.names.now c.loop-at.at _ below c.index-names-at.is _ _ _ c.loop-at.invariant.keeps _ _ _ c.as_str.ensures.value c.loop-at.invariant.texts c.in-Ok.ensures.bytes);
      count = let long = ap (λ v. length v) eq in let before = c.loop-at.invariant.count in omega arith;
      short = subst (TextsFit 1) (sym eq) (one_fits c.loop-at.at c.loop-at.texts c.in-Ok.bytes.items c.loop-at.invariant.count c.loop-at.invariant.short c.in-Ok.ensures.short);
      keeps = kept_on _ _ _ c.loop-at.invariant.keeps c.load.ensures.keeps;
      none_falls = λ at. let a = c.loop-at.invariant.none_falls at in let b = c.load.ensures.none_falls at in omega arith;
    }
