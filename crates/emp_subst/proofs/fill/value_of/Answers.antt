use Rattle.std.proofs.Common.{arith}
use Rattle.emp_owner.proofs.Lists.{get_is}
use Rattle.emp_subst.proofs.Turning.{part_count, has_goal, block_gives}
use Rattle.emp_subst.proofs.fill.value_of.Goals as goal

pub get-requires : goal.get-requires
get-requires c =
    let count = part_count c.args.model.now c.args.annot.now c.args.problem.now c.requires.problem in
    omega (arith, count, c.in-Some.ensures.0)

pub block_value-requires : goal.block_value-requires
block_value-requires c =
    let m = c.args.model.now in
    let a = c.args.annot.now in
    let pr = c.args.problem.now in
    let count = part_count m a pr c.requires.problem in
    record { goal = has_goal m a pr c.in-Some.at c.args.v.at c.in-Some.sense c.get.result.now c.requires.problem c.in-Some.ensures.1.0 (get_is pr.blocks c.in-Some.at c.get.result.now (omega (arith, count, c.in-Some.ensures.0)) c.get.ensures) }

pub returns-in-Some : goal.returns-in-Some
returns-in-Some c =
    let m = c.args.model.now in
    let a = c.args.annot.now in
    let pr = c.args.problem.now in
    let count = part_count m a pr c.requires.problem in
    block_gives m a pr c.args.values.now c.args.v c.in-Some.at c.in-Some.sense c.get.result.now c.block_value.result c.requires.class c.requires.problem c.in-Some.ensures.0 c.in-Some.ensures.1 (get_is pr.blocks c.in-Some.at c.get.result.now (omega (arith, count, c.in-Some.ensures.0)) c.get.ensures) c.block_value.ensures
