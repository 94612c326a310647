use Rattle.std.proofs.Common.{◌+◌, min, sym, ap, ap₂, ◌∙◌}
use Rattle.emp_ast.specs.Parties.{listed_equations}
use Rattle.emp_owner.specs.Rules.{equation_times}
use Rattle.emp_owner.proofs.Lists.{vi_lists_times}
use Rattle.emp_owner.proofs.blocks.times_listed.Goals as goal

pub returns-in-Vi : goal.returns-in-Vi
returns-in-Vi c =
    c.capped_sum.ensures
    ∙ (ap₂ (λ x y. min (x + y) 2) c.function_times.ensures c.equation_times-in-Vi.ensures
    ∙ (ap (λ n. min n 2) (sym (vi_lists_times c.in-Vi.pairs c.in-Vi.equs c.args.e.at)) ∙ ap (λ b. min (equation_times c.args.e.at (listed_equations b)) 2) (sym c.in-Vi.is)))
