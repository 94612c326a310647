use Rattle.std.proofs.Common.{sym, ◌∙◌}
use Rattle.emp_dict.specs.declared.label.Label.TheVariants.{Quantity}
use Rattle.emp_dict.specs.Dicts.{dictionary_of}
use Rattle.emp_step.proofs.Labels.{row_found}
use Rattle.emp_face.proofs.look.fix_look.Goals as goal

pub fix_row-requires : goal.fix_row-requires
fix_row-requires c = (row_found (dictionary_of c.args.dict.now) (Quantity c.args.k) c.in-Some.row (sym c.row_of.ensures ∙ c.in-Some.is)).below
