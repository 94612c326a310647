use Rattle.std.proofs.Common.{nat_eq, ap, ◌∙◌}
use Rattle.emp_owner.proofs.Tying.{holders_is}
use Rattle.emp_owner.proofs.blocks.one_has.Goals as goal

pub returns : goal.returns
returns c = ap (λ n. nat_eq n 1) (c.holders_by.ensures ∙ holders_is c.tied_variables.result c.args.annot.now c.args.e.at c.tied_variables.ensures)
