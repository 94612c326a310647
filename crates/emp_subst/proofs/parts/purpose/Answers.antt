use Rattle.std.proofs.Common.{ap, ◌∙◌, Some}
use Rattle.emp_ast.specs.Parties.{block}
use Rattle.emp_subst.proofs.BlockLists.{goal_has, agent_objective}
use Rattle.emp_subst.proofs.parts.purpose.Goals as goal

pub returns-in_ok-goal-in-Agent : goal.returns-in_ok-goal-in-Agent
returns-in_ok-goal-in-Agent c =
    λ m a k are at d. rw c.in-Agent.is (goal_has m a (block k) c.in-Agent.sense c.in-Agent.objective.at c.args.differences.now c.args.definition c.in_ok-given-in-Agent.given c.in_ok-goal-in-Agent.goal (agent_objective m a k c.in-Agent.sense c.in-Agent.objective c.in-Agent.vars c.in-Agent.equs (at ∙ ap Some c.in-Agent.is)) are d c.in_ok-given-in-Agent.ensures c.in_ok-goal-in-Agent.ensures)
