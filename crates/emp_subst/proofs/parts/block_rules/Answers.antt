use Rattle.std.proofs.Common.{subst, ◌∙◌}
use Rattle.emp_problem.specs.ProblemOf.{AreRulesFor}
use Rattle.emp_owner.proofs.Lists.{if_ok}
use Rattle.emp_subst.proofs.Constraints.{rest_fit, block_rest}
use Rattle.emp_subst.proofs.parts.block_rules.Goals as goal

pub rules_of-requires-clause-within : goal.rules_of-requires-clause-within
rules_of-requires-clause-within c = rest_fit c.args.model.now c.args.annot.now c.args.block.now c.args.definition c.in_ok-equations.equations c.requires.fits c.requires.block c.in_ok-equations.ensures

pub returns : goal.returns
returns c =
    let m = c.args.model.now in
    let a = c.args.annot.now in
    if_ok _ _ c.rules_of.result (λ list h k at d. subst (λ es. AreRulesFor m es list) (c.in_ok-equations.ensures ∙ block_rest m a k c.args.block.now c.args.definition at d) h) c.rules_of.ensures
