use Rattle.std.proofs.Common.{length, subst}
use Rattle.emp_owner.proofs.Lists.{if_ok, get_is}
use Rattle.emp_subst.specs.Stages.{EntryFits}
use Rattle.emp_subst.proofs.goals.given.Goals as goal

pub returns-in-Some : goal.returns-in-Some
returns-in-Some c =
    let ds = c.args.differences.now in
    if_ok _ _ c.solved.result (λ q h. rw c.in-Some.is (c.index-differences-e.result, get_is ds c.in-Some.e.at c.index-differences-e.result (subst (EntryFits (length ds)) c.in-Some.is c.requires.within) c.index-differences-e.is, h)) c.solved.ensures
