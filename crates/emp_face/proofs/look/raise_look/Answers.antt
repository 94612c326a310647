use Rattle.std.proofs.Common.{sym, ◌∙◌}
use Rattle.emp_dict.specs.declared.label.Label.TheVariants.{Quantity}
use Rattle.emp_dict.specs.Dicts.{dictionary_of}
use Rattle.emp_step.proofs.Labels.{row_found}
use Rattle.emp_face.proofs.look.raise_look.Goals as goal

pub raise_row-requires : goal.raise_row-requires
raise_row-requires c = (row_found (dictionary_of c.args.dict.now) (Quantity c.args.k) c.in-Some.row (sym c.row_of.ensures ∙ c.in-Some.is)).below
