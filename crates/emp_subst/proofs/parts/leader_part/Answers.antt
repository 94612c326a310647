use Rattle.std.proofs.Common.{refl}
use Rattle.std.proofs.lemmas.Result.{err_from_is_err_and}
use Rattle.emp_subst.proofs.Defined.{leader_definition}
use Rattle.emp_subst.proofs.BlockLists.{leader_fault}
use Rattle.emp_subst.proofs.parts.leader_part.Goals as goal

pub returns-in_err-goal : goal.returns-in_err-goal
returns-in_err-goal c =
    let p = err_from_is_err_and c.from_residual.result c.from_residual.ensures.1 in
    rw (p.1, p.2) (leader_fault c.args.model.now c.args.annot.now c.in_err-goal.field-0.0 c.if-not-annot.false (c.in_err-goal.ensures c.args.model.now c.args.annot.now refl c.requires.differences (leader_definition c.args.model.now c.args.annot.now c.args.definition c.requires.definition c.if-not-annot.false)))
