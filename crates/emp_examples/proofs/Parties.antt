-- The examples of parties, implicit variables and definitions.
use Rattle.std.proofs.Common.{refl}
use Rattle.emp_examples.specs.Parties.{ExamplesOfParties, ExamplesOfImplicits, ExamplesOfDefinitions}

pub examples_of_parties : ExamplesOfParties
examples_of_parties = record {
  own_objective = refl;
  own_listed = refl;
  not_own = refl;
  own_zero = refl;
  own_paired = refl;
  not_paired = refl;
  leader_goal = refl;
  leader_listed = refl;
  not_leader_dual = refl;
  not_leader_own = refl;
  leader_left = refl;
  dual_not_left = refl;
  no_block = refl;
  no_block_equations = refl;
  listed_equations = refl;
  leader_equations = refl;
  function_is_none = refl;
  definition_is_none = refl;
  defined_c = refl;
  defined_z = refl;
  not_defined_x = refl;
  no_leader = refl;
  counted_x = refl;
  counted_both = refl;
  objective_c = refl;
  no_objective = refl;
  leader_least = refl;
  leader_greatest = refl;
}

pub examples_of_implicits : ExamplesOfImplicits
examples_of_implicits = record {
  first_owns = refl;
  second_owns = refl;
  first_not_other = refl;
  first_has = refl;
  second_has = refl;
  other_has_not = refl;
  first_constraint = refl;
  not_left = refl;
  left = refl;
  implicit_defines_none = refl;
  listed_defines = refl;
}

pub examples_of_definitions : ExamplesOfDefinitions
examples_of_definitions = record {
  square_defines = refl;
  taken_defines = refl;
  on_the_right = refl;
  negated_defines = refl;
  under_product = refl;
  under_quotient = refl;
  under_divisor = refl;
  under_power = refl;
  no_equality = refl;
  no_lower_equality = refl;
  no_relation = refl;
  twice = refl;
  elsewhere = refl;
  right_elsewhere = refl;
  power_elsewhere = refl;
  negated_elsewhere = refl;
  x_elsewhere = refl;
  bounded_above = refl;
  bounded_below = refl;
  dual = refl;
  listed_twice = refl;
  not_listed = refl;
  other_has = refl;
  no_equation = refl;
  no_block = refl;
  leader_defines = refl;
  block_has = refl;
  definition_is_none = refl;
  other_is_one = refl;
  not_listed_is_none = refl;
}
