use Rattle.std.proofs.Common.{sym, ◌∙◌}
use Rattle.emp_dict.specs.declared.label.Label.TheVariants.{Quantity}
use Rattle.emp_dict.specs.Dicts.{dictionary_of}
use Rattle.emp_step.proofs.Labels.{row_found}
use Rattle.emp_walk.proofs.next.is_still.Goals as goal

pub constant-requires : goal.constant-requires
constant-requires c = (row_found (dictionary_of c.args.dict.now) (Quantity c.args.k) c.in-Some.row (sym c.row_of.ensures ∙ c.in-Some.is)).below

pub cell-requires-clause-row : goal.cell-requires-clause-row
cell-requires-clause-row c = (row_found (dictionary_of c.args.dict.now) (Quantity c.args.k) c.in-Some.row (sym c.row_of.ensures ∙ c.in-Some.is)).below
