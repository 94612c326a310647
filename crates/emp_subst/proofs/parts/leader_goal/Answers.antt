use Rattle.std.proofs.Common.{ap, ◌∙◌}
use Rattle.emp_ast.specs.Parties.{leader, goal_objective}
use Rattle.emp_agents.specs.Given.{given_form}
use Rattle.emp_problem.specs.Left.{goal_form}
use Rattle.emp_subst.proofs.Givens.{gives}
use Rattle.emp_subst.proofs.BlockLists.{goal_has}
use Rattle.emp_subst.proofs.parts.leader_goal.Goals as goal

pub returns-in-Some-first_square : goal.returns-in-Some-first_square
returns-in-Some-first_square c =
    λ m a is are d. c.in-Some-first_square.ensures.some (given_form m a leader) (gives m a leader (c.in-Some.sense, c.in-Some.w.at) c.args.differences.now c.args.definition c.in_ok-given.given (ap goal_objective (is ∙ c.in-Some.is)) are d c.in_ok-given.ensures)

pub returns : goal.returns
returns c =
    λ m a is are d.
    let goal = ap goal_objective (is ∙ c.in-Some.is) in
    (c.in_ok-lin.ensures (goal_form m a leader) (goal_has m a leader c.in-Some.sense c.in-Some.w.at c.args.differences.now c.args.definition c.in_ok-given.given c.in_ok-goal.goal goal are d c.in_ok-given.ensures c.in_ok-goal.ensures), c.in_default-first_square.ensures.none (given_form m a leader) (gives m a leader (c.in-Some.sense, c.in-Some.w.at) c.args.differences.now c.args.definition c.in_ok-given.given goal are d c.in_ok-given.ensures))
