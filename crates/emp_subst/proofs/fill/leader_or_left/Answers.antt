use Rattle.emp_subst.proofs.Turning.{left_undefined, left_unled, leader_gives}
use Rattle.emp_subst.proofs.fill.leader_or_left.Goals as goal

pub returns-in_default : goal.returns-in_default
returns-in_default c =
    left_undefined c.args.model.now c.args.annot.now c.args.problem.now c.args.values.now c.args.v.at c.entry-left.result c.requires.problem c.requires.none c.in_default.ensures c.entry-left.ensures

pub returns : goal.returns
returns c =
    leader_gives c.args.model.now c.args.annot.now c.args.problem.now c.args.values.now c.args.v c.in-Some.sense c.in-Some-leader.part c.leader_value.result c.requires.problem c.requires.none c.in-Some.ensures.0 c.in-Some.ensures.1 c.in-Some-leader.is c.leader_value.ensures

pub returns-in_default-leader : goal.returns-in_default-leader
returns-in_default-leader c =
    left_unled c.args.model.now c.args.annot.now c.args.problem.now c.args.values.now c.args.v.at c.entry-left.result c.requires.problem c.requires.none c.in_default-leader.is c.entry-left.ensures
