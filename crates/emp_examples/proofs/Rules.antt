-- The examples of the rules of ownership.
use Rattle.std.proofs.Common.{refl}
use Rattle.emp_examples.specs.Rules.{ExamplesOfRules}

pub examples_of_rules : ExamplesOfRules
examples_of_rules = record {
  leads = refl;
  leads_not = refl;
  no_leader = refl;
  dual_owned = refl;
  dual_unowned = refl;
  leader_owned = refl;
  owned_once = refl;
  own_and_dual = refl;
  in_two = refl;
  in_one_twice = refl;
  objective_listed = refl;
  implicit_in_two = refl;
  two_pairs = refl;
  goal_listed = refl;
  goal_listed_twice = refl;
  goal_in_block = refl;
  goal_without_leader = refl;
  listed_once = refl;
  listed_by_two = refl;
  listed_twice = refl;
  function_listed = refl;
  implicit_listed = refl;
  left = refl;
  tied = refl;
  to_leader = refl;
  upper_function = refl;
  lower_function = refl;
  of_constraint = refl;
  of_definition = refl;
  of_function = refl;
  shared = refl;
  solved_together = refl;
  two_duals = refl;
  one_dual = refl;
  low_implied = refl;
  low_above = refl;
  high_of_lower = refl;
  high_implied = refl;
  low_of_upper = refl;
  low_of_equality = refl;
  plain_use = refl;
  not_listed = refl;
  implicit_objective = refl;
  implicit_paired = refl;
  no_tie = refl;
  tie = refl;
  two_equations = refl;
  two_implicits = refl;
  low_of_nothing = refl;
  high_of_nothing = refl;
  implicit_leader = refl;
  implicit_dual = refl;
}
