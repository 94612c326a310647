use Rattle.std.proofs.Common.{◌+◌, sym, ap, ap₂, ◌∙◌}
use Rattle.emp_ast.specs.Parties.{block_variables}
use Rattle.emp_owner.specs.Rules.{variable_times, is_twice}
use Rattle.emp_owner.proofs.Lists.{agent_owns_times, vi_owns_times}
use Rattle.emp_owner.proofs.blocks.owns_twice.Goals as goal

pub returns-in-Agent : goal.returns-in-Agent
returns-in-Agent c =
    c.is_twice.ensures
    ∙ (ap₂ (λ x y. is_twice (x + y)) c.once.ensures c.variable_times.ensures
    ∙ (ap is_twice (sym (agent_owns_times c.in-Agent.objective c.in-Agent.vars c.args.v.at)) ∙ ap (λ b. is_twice (variable_times c.args.v.at (block_variables b))) (sym c.in-Agent.is)))

pub returns-in-Vi : goal.returns-in-Vi
returns-in-Vi c =
    c.is_twice-in-Vi.ensures
    ∙ (ap₂ (λ x y. is_twice (x + y)) c.variable_times-in-Vi.ensures c.paired_times.ensures
    ∙ (ap is_twice (sym (vi_owns_times c.in-Vi.zeros c.in-Vi.pairs c.args.v.at)) ∙ ap (λ b. is_twice (variable_times c.args.v.at (block_variables b))) (sym c.in-Vi.is)))
