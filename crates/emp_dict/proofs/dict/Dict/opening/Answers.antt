use mir.Syntax.{w128}
use Rattle.std.proofs.Common.{◌≡◌, pos, of_z, sym, ap, ap₂, ◌∙◌}
use Rattle.emp_dict.specs.Dictionary.{cell_at}
use Rattle.emp_dict.specs.Dicts.{dictionary_of}
use Rattle.emp_dict.specs.Chosen.{index_in, mark_by_index}
use Rattle.emp_dict.specs.Places.{freedom_of, way_for}
use Rattle.emp_dict.proofs.Choosing.{opening_is}
use Rattle.emp_dict.proofs.dict.Dict.opening.Goals as goal

pub returns : goal.returns
returns c =
    let d = dictionary_of c.args.self.now in
    let freedom = c.freedom-freedom.ensures ∙ ap (λ w. freedom_of (mark_by_index d (index_in d w))) c.column_label.ensures in
    c.way_for.ensures ∙ (ap₂ way_for freedom c.helps_up.ensures ∙ sym (opening_is d c.args.aim c.args.column (λ e. let z : c.cell.result ≡ pos 0 = c.cell.ensures ∙ (ap (λ k. cell_at d k c.args.column) c.aimed_row.ensures ∙ e) in c.if-cell-eq0.false (ap (of_z w128) z))))
