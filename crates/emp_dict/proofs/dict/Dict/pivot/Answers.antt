use Rattle.std.proofs.Common.{◌≡◌, set, get_or, ap, sym, subst₂, ◌∙◌}
use Rattle.std.proofs.lemmas.List.{get_or_read}
use Rattle.emp_dict.specs.declared.label.Label.TheVariants.{Objective}
use Rattle.emp_dict.specs.Dictionary.{IsSound}
use Rattle.emp_dict.specs.Dicts.{dictionary_of}
use Rattle.emp_dict.proofs.Labels.{label_read}
use Rattle.emp_dict.proofs.Soundness.{exchange_sound}
use Rattle.emp_dict.proofs.dict.Dict.pivot.Goals as goal

pub invariant_of-self-2 : goal.invariant_of-self-2
invariant_of-self-2 c =
    let d = dictionary_of c.args.self.now in
    let rows : c.set.new.self ≡ set c.args.self.now.rows c.args.row (get_or c.args.self.now.columns c.args.column Objective) = c.set.ensures ∙ ap (λ w. set c.args.self.now.rows c.args.row w) (get_or_read c.args.self.now.columns c.args.column c.swap_in.new.value c.requires.column c.swap_in.ensures.outside Objective) in
    let columns : c.swap_in.new.self ≡ set c.args.self.now.columns c.args.column (get_or c.args.self.now.rows c.args.row Objective) = c.swap_in.ensures.inside ∙ ap (λ w. set c.args.self.now.columns c.args.column w) (label_read c.args.self.now.rows c.as_slice.result.now _ c.args.row c.requires.row c.as_slice.ensures) in
    record {
      sound = subst₂ (λ rs cs. IsSound (record { lines = c.pivot.new.self; rows = rs; columns = cs; marks = c.args.self.now.marks })) (sym rows) (sym columns) (exchange_sound d c.args.row c.args.column c.pivot.new.self c.args.self.now.sound c.requires.row c.requires.column c.requires.quantity c.requires.nonzero c.in_ok-pivot.ensures);
    }
