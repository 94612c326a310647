-- Required quantities by rows and by labels.
use Rattle.std.proofs.Common.{◌≡◌, ℕ, ◌<◌, pos, ◌≤ℤ◌, length, sym, ap, subst, ◌∙◌}
use Rattle.emp_turns.specs.Choice.{IsFeasible}
use Rattle.emp_turns.specs.Layout.{table_of}
use Rattle.emp_turns.proofs.Layouts.{Place, row_is, row_place, constant_is}
use Rattle.emp_dict.specs.declared.label.Label.TheVariants.{Quantity}
use Rattle.emp_dict.specs.declared.label.Mark.TheVariants.{Required}
use Rattle.emp_dict.specs.Dictionary.{Dictionary, IsSound, line_at, row_label, mark_at}
use Rattle.emp_dict.specs.Chosen.{labels, layout_of, index_in, turn_mark, mark_by_index}
use Rattle.emp_step.proofs.Given.{layout_sound}
use Rattle.emp_step.proofs.Marks.{mark_quantity, required_label}

abbrev pub RequiredHold : Dictionary → Type 0
RequiredHold d = (i k : ℕ) → i < length d.rows → row_label d i ≡ Quantity k → mark_at d k ≡ Required → pos 0 ≤ℤ (line_at d i).constant

module _ (d : Dictionary) (s : IsSound d) where
  pub feasible_to : RequiredHold d → IsFeasible (labels d) (mark_by_index d) (table_of (layout_of d))
  feasible_to h v below here asked =
      let l = layout_sound d s in
      let p : Place (length d.rows) (layout_of d).row_label v = row_place (labels d) (layout_of d) l v here in
      let m = required_label d (row_label d p.at) (s.row_labels p.at p.below) (ap (mark_by_index d) p.is ∙ asked) in
      subst (λ z. pos 0 ≤ℤ z) (sym (constant_is (labels d) (layout_of d) l p.at p.below) ∙ ap (λ u. (table_of (layout_of d)).constant u) p.is) (h p.at m.number p.below m.label m.mark)

  pub feasible_from : IsFeasible (labels d) (mark_by_index d) (table_of (layout_of d)) → RequiredHold d
  feasible_from f i k below label asked =
      let l = layout_sound d s in
      subst (λ z. pos 0 ≤ℤ z) (constant_is (labels d) (layout_of d) l i below) (f (index_in d (row_label d i)) (l.row_below i below) (row_is (labels d) (layout_of d) l i below) (ap (λ w. mark_by_index d (index_in d w)) label ∙ (mark_quantity d k ∙ ap turn_mark asked)))
