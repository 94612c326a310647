-- The examples of values.
use Rattle.std.proofs.Common.{arith, refl}
use Rattle.std.proofs.lemmas.Int.{ints}
use Rattle.emp_examples.specs.Values.{ExamplesOfValues}

pub examples_of_values : ExamplesOfValues
examples_of_values = record {
  nodes = refl;
  in_order = refl;
  other_order = refl;
  itself = refl;
  two_roots = refl;
  no_root = refl;
  line_value = refl;
  opposite = refl;
  quotient_by_zero = refl;
  quotient_below_zero = refl;
  product_of_none = refl;
  power_zero = refl;
  power_two = refl;
  meets_at_three = omega (arith, ints);
  at_most_meets_at_one = omega (arith, ints);
  misses_at_one = λ h. omega (arith, ints);
  at_most_misses_at_three = λ h. omega (arith, ints);
  equal_misses_at_three = λ h. omega (arith, ints);
  right_without_value = λ h. h;
  none_meets_nothing = λ h. h;
  each_meets = tt;
  opposite_meets = omega (arith, ints);
  bound_at_two = (tt, omega (arith, ints));
  bound_at_three = λ h. let l = h.1 in omega (arith, ints);
  bound_at_halves = λ h. omega (arith, ints);
  from_three = (omega (arith, ints), tt);
  not_below = λ h. let l = h.0 in omega (arith, ints);
}
