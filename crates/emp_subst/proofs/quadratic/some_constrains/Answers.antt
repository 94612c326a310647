use Rattle.std.proofs.Common.{arith, sym, ◌∙◌}
use Rattle.emp_owner.proofs.Defining.{constrains_at}
use Rattle.emp_subst.proofs.Defined.{some_constrains}
use Rattle.emp_subst.proofs.quadratic.some_constrains.Goals as goal

pub returns-then-constrains : goal.returns-then-constrains
returns-then-constrains c =
    let m = c.args.model.now in
    let a = c.args.annot.now in
    sym (some_constrains m a c.args.e.at c.loop-at.at _ (omega arith) (sym (c.constrains.ensures ∙ constrains_at m a c.args.defined.now c.loop-at.at c.get.result.now c.get-in-loop-at.result.now c.args.e.at c.requires.defined (omega arith) c.get.ensures c.get-in-loop-at.ensures) ∙ c.if-constrains.true))
