-- The examples.
use Rattle.std.proofs.Common.{◌≡◌, ◌⊎◌, inl, inr, ℤ, pos, [], ◌∷◌, arith, refl}
use Rattle.std.proofs.lemmas.Int.{ints}
use Rattle.emp_num.specs.Whole.{whole}
use Rattle.emp_game.specs.Solved.{value_at}
use Rattle.emp_conditions.specs.Rows.{variable, high_row, SolvesRows}
use Rattle.emp_conditions.specs.Examples.{ExamplesOfRows, bounded}

pub examples : ExamplesOfRows
examples = record {
  multiplier_two = record { count = refl; hold = (refl, ((omega (arith, ints), omega (arith, ints), inr refl), tt)) };
  multiplier_one = λ h. let e = h.hold.0 in omega (arith, ints);
  outside = λ h. let e = h.hold.1.0.1 in omega (arith, ints);
  at_upper_end = record { count = refl; hold = ((omega (arith, ints), omega (arith, ints), inl refl), ((omega (arith, ints), omega (arith, ints), inr refl), tt)) };
  at_lower_end = λ z h. lower z h;
  two_numbers = refl;
  one_number = refl;
  one_place = refl;
  numbers = refl;
}
  where
    lower : (z : ℤ) → SolvesRows bounded (pos 1) (pos 0 ∷ (z ∷ [])) → ⊥
    lower z h = go h.hold.1.0.2
      where
        go : (value_at (variable 1) (pos 1) (pos 0 ∷ (z ∷ [])) ≡ pos 0) ⊎ (value_at (high_row 0 (whole 5)) (pos 1) (pos 0 ∷ (z ∷ [])) ≡ pos 0) → ⊥
        go (inl e) = let a = h.hold.0.0 in omega (arith, ints, a, e)
        go (inr e) = omega (arith, ints, e)
