use Rattle.std.proofs.Common.{arith, sym, ◌∙◌}
use Rattle.emp_subst.proofs.Defined.{some_defines, solved_at}
use Rattle.emp_subst.proofs.lefts.some_solved.Goals as goal

pub returns-then-is_solved : goal.returns-then-is_solved
returns-then-is_solved c =
    let m = c.args.model.now in
    let a = c.args.annot.now in
    sym (some_defines m a c.args.v.at c.loop-at.at _ (omega arith) (sym (c.is_solved.ensures ∙ solved_at m a c.args.defined.now c.loop-at.at c.get.result.now c.get-in-loop-at.result.now c.args.v.at c.requires.defined (omega arith) c.get.ensures c.get-in-loop-at.ensures) ∙ c.if-is_solved.true))
