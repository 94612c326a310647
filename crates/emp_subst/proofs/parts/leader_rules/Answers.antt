use Rattle.emp_subst.proofs.Constraints.{leader_fit}
use Rattle.emp_subst.proofs.parts.leader_rules.Goals as goal

pub rules_of-requires-clause-within : goal.rules_of-requires-clause-within
rules_of-requires-clause-within c = leader_fit c.args.model.now c.args.annot.now c.in_ok-equations.equations c.in_ok-equations.ensures
