use Rattle.std.proofs.Common.{not, sym, ap, ◌&&◌, ◌∙◌}
use Rattle.emp_ast.specs.Parties.{some_block_has}
use Rattle.emp_subst.proofs.Defined.{leader_constrains_is}
use Rattle.emp_subst.proofs.rules.leader_constrains.Goals as goal

pub returns-then-not-is_entry : goal.returns-then-not-is_entry
returns-then-not-is_entry c =
    ap not c.some_has.ensures ∙ (ap (λ x. not x && not (some_block_has c.args.annot.now c.args.e.at)) (sym c.if-not-is_entry.true ∙ c.is_entry.ensures) ∙ leader_constrains_is c.args.model.now c.args.annot.now c.args.definition c.args.e.at c.requires.definition c.requires.within)
