use Rattle.std.proofs.Common.{sym, ◌∙◌}
use Rattle.emp_dict.specs.declared.label.Label.TheVariants.{Quantity}
use Rattle.emp_dict.specs.Dicts.{dictionary_of}
use Rattle.emp_step.proofs.Labels.{row_found}
use Rattle.emp_walk.proofs.next.stands_above.Goals as goal

pub constant-requires : goal.constant-requires
constant-requires c = (row_found (dictionary_of c.args.dict.now) (Quantity c.args.k) c.in-Some.row (sym c.row_of.ensures ∙ c.in-Some.is)).below
