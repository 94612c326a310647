-- The examples of the signs of multipliers.
use Rattle.std.proofs.Common.{◌≡◌, inl, ℤ, pos, negsuc, neg_ℤ, ◌+ℤ◌, ◌-ℤ◌, ◌*ℤ◌, ◌<ℤ◌, ◌≤ℤ◌, true, false, [], ◌∷◌, arith, refl}
use Rattle.std.proofs.lemmas.Int.{ints}
use Rattle.emp_algebra.proofs.Laws.{mul_nonneg, mul_pos}
use Rattle.emp_algebra.proofs.Order.{linear, square_nonneg}
use Rattle.emp_algebra.proofs.Ring.{var, lit, neg, ◌⊕◌, ◌⊖◌, ◌⊗◌, by_ring}
use Rattle.emp_algebra.specs.Vector.{cell}
use Rattle.emp_num.specs.Ratio.{SameRatio}
use Rattle.emp_num.specs.Point.{coordinate}
use Rattle.emp_ast.specs.Meets.{MeetsEquation, MeetsBounds}
use Rattle.emp_ast.specs.Parties.{block, owns, defines, is_constraint}
use Rattle.emp_ast.specs.Rivals.{IsDeviation}
use Rattle.emp_ast.specs.Solved.{sides_gap}
use Rattle.emp_ast.specs.Multipliers.{IsMultiplier}
use Rattle.emp_ast.specs.declared.model.Relation.TheVariants.{Equal}
use Rattle.emp_ast.specs.Expression.{variable}
use Rattle.emp_examples.specs.Small.{free, model, equation, numeral, whole_point}
use Rattle.emp_examples.specs.Parties.{x_from_one, c_is_square, free_pair}
use Rattle.emp_examples.specs.Rivals.{bowl_equation}
use Rattle.emp_examples.specs.Multipliers.{ExamplesOfSigns, all_are, bound_by, cap_equation, capped, capped_by, x_to_zero, stopped, bound_twice, bound_twice_by}
use Rattle.emp_examples.proofs.Short.{each_of_two, each_of_three, below_two, le_by}
use Rattle.emp_examples.proofs.Multipliers.{least_two}

-- ---- signs
opposite : (c x d : ℤ) → (c *ℤ (d *ℤ d) +ℤ x *ℤ x *ℤ d) *ℤ pos 1 ≡ pos 0 *ℤ (d *ℤ (d *ℤ d)) → neg_ℤ c *ℤ (d *ℤ d) ≡ x *ℤ x *ℤ d
opposite c x d h =
    let e : neg_ℤ c *ℤ (d *ℤ d) ≡ neg_ℤ (c *ℤ (d *ℤ d)) = by_ring (c ∷ d ∷ []) (neg (var 0) ⊗ (var 1 ⊗ var 1)) (neg (var 0 ⊗ (var 1 ⊗ var 1))) refl in
    let f : (c *ℤ (d *ℤ d) +ℤ x *ℤ x *ℤ d) *ℤ pos 1 ≡ c *ℤ (d *ℤ d) +ℤ x *ℤ x *ℤ d = by_ring (c ∷ x ∷ d ∷ []) ((var 0 ⊗ (var 2 ⊗ var 2) ⊕ var 1 ⊗ var 1 ⊗ var 2) ⊗ lit (pos 1)) (var 0 ⊗ (var 2 ⊗ var 2) ⊕ var 1 ⊗ var 1 ⊗ var 2) refl in
    let g : pos 0 *ℤ (d *ℤ (d *ℤ d)) ≡ pos 0 = by_ring (d ∷ []) (lit (pos 0) ⊗ (var 0 ⊗ (var 0 ⊗ var 0))) (lit (pos 0)) refl in
    omega (arith, linear)

-- c + 2*x is at least 0 where c = x*x - 2*x
least_stopped : (c x d : ℤ) → pos 0 <ℤ d → c *ℤ (d *ℤ d *ℤ (pos 1 *ℤ d)) ≡ (x *ℤ x *ℤ (pos 1 *ℤ d) +ℤ neg_ℤ (pos 2 *ℤ x) *ℤ (d *ℤ d)) *ℤ d → (pos 0 *ℤ (d *ℤ (pos 1 *ℤ (d *ℤ pos 1) *ℤ pos 1))) ≤ℤ ((c *ℤ (pos 1 *ℤ (d *ℤ pos 1) *ℤ pos 1) +ℤ neg_ℤ (negsuc 1 *ℤ (x *ℤ pos 1 +ℤ pos 0 *ℤ d) *ℤ pos 1 +ℤ pos 0 *ℤ (pos 1 *ℤ (d *ℤ pos 1))) *ℤ d) *ℤ pos 1)
least_stopped c x d up h =
    le_by (pos 2 *ℤ x *ℤ d *ℤ d *ℤ d) (d *ℤ d *ℤ (x *ℤ x)) (d *ℤ d) (mul_pos d d up up) h
    (by_ring (c ∷ x ∷ d ∷ [])
    ((var 0 ⊗ (lit (pos 1) ⊗ (var 2 ⊗ lit (pos 1)) ⊗ lit (pos 1)) ⊕ neg (lit (negsuc 1) ⊗ (var 1 ⊗ lit (pos 1) ⊕ lit (pos 0) ⊗ var 2) ⊗ lit (pos 1) ⊕ lit (pos 0) ⊗ (lit (pos 1) ⊗ (var 2 ⊗ lit (pos 1)))) ⊗ var 2) ⊗ lit (pos 1) ⊗ (var 2 ⊗ var 2))
    (var 0 ⊗ (var 2 ⊗ var 2 ⊗ (lit (pos 1) ⊗ var 2)) ⊕ lit (pos 2) ⊗ var 1 ⊗ var 2 ⊗ var 2 ⊗ var 2)
    refl)
    (by_ring (x ∷ d ∷ [])
    ((var 0 ⊗ var 0 ⊗ (lit (pos 1) ⊗ var 1) ⊕ neg (lit (pos 2) ⊗ var 0) ⊗ (var 1 ⊗ var 1)) ⊗ var 1 ⊕ lit (pos 2) ⊗ var 0 ⊗ var 1 ⊗ var 1 ⊗ var 1)
    (lit (pos 0) ⊗ (var 1 ⊗ (lit (pos 1) ⊗ (var 1 ⊗ lit (pos 1)) ⊗ lit (pos 1))) ⊗ (var 1 ⊗ var 1) ⊕ var 1 ⊗ var 1 ⊗ (var 0 ⊗ var 0))
    refl)
    (mul_nonneg (d *ℤ d) (x *ℤ x) (square_nonneg d) (square_nonneg x))

capped_itself : IsDeviation capped capped_by (block 0) (whole_point (negsuc 0 ∷ pos 1 ∷ [])) (whole_point (negsuc 0 ∷ pos 1 ∷ []))
capped_itself = let p = whole_point (negsuc 0 ∷ pos 1 ∷ []) in record {
  fits = refl;
  others = below_two (λ v. owns capped capped_by (block 0) v ≡ false → SameRatio (coordinate p v) (coordinate p v)) (λ own. cc) (λ own. cc);
  bounds = each_of_two (λ v x. owns capped capped_by (block 0) v ≡ true → MeetsBounds p v x) free free (λ own. (tt, tt)) (λ own. (tt, tt));
  definition = each_of_two (λ e q. defines capped capped_by (block 0) e ≡ true → MeetsEquation p q) cap_equation x_from_one (λ h. refl) (λ h. cc);
}

stopped_itself : IsDeviation stopped bound_by (block 0) (whole_point (pos 0 ∷ pos 0 ∷ [])) (whole_point (pos 0 ∷ pos 0 ∷ []))
stopped_itself = let p = whole_point (pos 0 ∷ pos 0 ∷ []) in record {
  fits = refl;
  others = below_two (λ v. owns stopped bound_by (block 0) v ≡ false → SameRatio (coordinate p v) (coordinate p v)) (λ own. cc) (λ own. cc);
  bounds = each_of_two (λ v x. owns stopped bound_by (block 0) v ≡ true → MeetsBounds p v x) free free (λ own. (tt, tt)) (λ own. (tt, tt));
  definition = each_of_two (λ e q. defines stopped bound_by (block 0) e ≡ true → MeetsEquation p q) bowl_equation x_to_zero (λ h. refl) (λ h. cc);
}

-- c - 1*(x - 1) - 1*(x - 1) is at least 1 where c = x*x
least_each : (c x d : ℤ) → pos 0 <ℤ d → c *ℤ (d *ℤ d) ≡ x *ℤ x *ℤ d → (pos 1 *ℤ (d *ℤ (pos 1 *ℤ (d *ℤ pos 1) *ℤ (pos 1 *ℤ (d *ℤ pos 1) *ℤ pos 1)))) ≤ℤ ((c *ℤ (pos 1 *ℤ (d *ℤ pos 1) *ℤ (pos 1 *ℤ (d *ℤ pos 1) *ℤ pos 1)) +ℤ neg_ℤ (pos 1 *ℤ (x *ℤ pos 1 +ℤ negsuc 0 *ℤ d) *ℤ (pos 1 *ℤ (d *ℤ pos 1) *ℤ pos 1) +ℤ (pos 1 *ℤ (x *ℤ pos 1 +ℤ negsuc 0 *ℤ d) *ℤ pos 1 +ℤ pos 0 *ℤ (pos 1 *ℤ (d *ℤ pos 1))) *ℤ (pos 1 *ℤ (d *ℤ pos 1))) *ℤ d) *ℤ pos 1)
least_each c x d up h =
    le_by (neg_ℤ (pos 2 *ℤ (x -ℤ d)) *ℤ (d *ℤ d)) (d *ℤ ((x -ℤ d) *ℤ (x -ℤ d))) (pos 1) (omega (arith, ints)) h
    (by_ring (c ∷ x ∷ d ∷ [])
    ((var 0 ⊗ (lit (pos 1) ⊗ (var 2 ⊗ lit (pos 1)) ⊗ (lit (pos 1) ⊗ (var 2 ⊗ lit (pos 1)) ⊗ lit (pos 1))) ⊕ neg (lit (pos 1) ⊗ (var 1 ⊗ lit (pos 1) ⊕ lit (negsuc 0) ⊗ var 2) ⊗ (lit (pos 1) ⊗ (var 2 ⊗ lit (pos 1)) ⊗ lit (pos 1)) ⊕ (lit (pos 1) ⊗ (var 1 ⊗ lit (pos 1) ⊕ lit (negsuc 0) ⊗ var 2) ⊗ lit (pos 1) ⊕ lit (pos 0) ⊗ (lit (pos 1) ⊗ (var 2 ⊗ lit (pos 1)))) ⊗ (lit (pos 1) ⊗ (var 2 ⊗ lit (pos 1)))) ⊗ var 2) ⊗ lit (pos 1) ⊗ lit (pos 1))
    (var 0 ⊗ (var 2 ⊗ var 2) ⊕ neg (lit (pos 2) ⊗ (var 1 ⊖ var 2)) ⊗ (var 2 ⊗ var 2))
    refl)
    (by_ring (x ∷ d ∷ [])
    (var 0 ⊗ var 0 ⊗ var 1 ⊕ neg (lit (pos 2) ⊗ (var 0 ⊖ var 1)) ⊗ (var 1 ⊗ var 1))
    (lit (pos 1) ⊗ (var 1 ⊗ (lit (pos 1) ⊗ (var 1 ⊗ lit (pos 1)) ⊗ (lit (pos 1) ⊗ (var 1 ⊗ lit (pos 1)) ⊗ lit (pos 1)))) ⊗ lit (pos 1) ⊕ var 1 ⊗ ((var 0 ⊖ var 1) ⊗ (var 0 ⊖ var 1)))
    refl)
    (mul_nonneg d ((x -ℤ d) *ℤ (x -ℤ d)) (omega (arith, ints)) (square_nonneg (x -ℤ d)))

bowl_itself : IsDeviation (model free_pair (bowl_equation ∷ equation (variable 1) Equal (numeral 0) ∷ [])) bound_by (block 0) (whole_point (pos 0 ∷ pos 0 ∷ [])) (whole_point (pos 0 ∷ pos 0 ∷ []))
bowl_itself = let p = whole_point (pos 0 ∷ pos 0 ∷ []) in let q0 = equation (variable 1) Equal (numeral 0) in let m = model free_pair (bowl_equation ∷ q0 ∷ []) in record {
  fits = refl;
  others = below_two (λ v. owns m bound_by (block 0) v ≡ false → SameRatio (coordinate p v) (coordinate p v)) (λ own. cc) (λ own. cc);
  bounds = each_of_two (λ v x. owns m bound_by (block 0) v ≡ true → MeetsBounds p v x) free free (λ own. (tt, tt)) (λ own. (tt, tt));
  definition = each_of_two (λ e q. defines m bound_by (block 0) e ≡ true → MeetsEquation p q) bowl_equation q0 (λ h. refl) (λ h. cc);
}

twice_itself : IsDeviation bound_twice bound_twice_by (block 0) (whole_point (pos 1 ∷ pos 1 ∷ [])) (whole_point (pos 1 ∷ pos 1 ∷ []))
twice_itself = let p = whole_point (pos 1 ∷ pos 1 ∷ []) in record {
  fits = refl;
  others = below_two (λ v. owns bound_twice bound_twice_by (block 0) v ≡ false → SameRatio (coordinate p v) (coordinate p v)) (λ own. cc) (λ own. cc);
  bounds = each_of_two (λ v x. owns bound_twice bound_twice_by (block 0) v ≡ true → MeetsBounds p v x) free free (λ own. (tt, tt)) (λ own. (tt, tt));
  definition = each_of_three (λ e q. defines bound_twice bound_twice_by (block 0) e ≡ true → MeetsEquation p q) c_is_square x_from_one x_from_one (λ h. refl) (λ h. cc) (λ h. cc);
}

pub examples_of_signs : ExamplesOfSigns
examples_of_signs = record {
  greatest_two = let p = whole_point (negsuc 0 ∷ pos 1 ∷ []) in record {
    among = capped_itself;
    each = each_of_two (λ e q. is_constraint capped capped_by (block 0) e ≡ true → IsMultiplier q.relation (sides_gap p q) (all_are (pos 2) e)) cap_equation x_from_one (λ h. cc) (λ h. record { fraction = omega (arith, ints); sign = omega (arith, ints); complementary = inl refl });
    least = λ r h. least_two (neg_ℤ (cell r.nums 0)) (cell r.nums 1) r.den r.positive (opposite (cell r.nums 0) (cell r.nums 1) r.den (h.definition 0 cap_equation refl refl));
  };
  greatest_wrong_sign = λ h. let l = (h.each 1 x_from_one refl refl).sign in absurd l.le;
  at_most_below_zero = let p = whole_point (pos 0 ∷ pos 0 ∷ []) in record {
    among = stopped_itself;
    each = each_of_two (λ e q. is_constraint stopped bound_by (block 0) e ≡ true → IsMultiplier q.relation (sides_gap p q) (all_are (negsuc 1) e)) bowl_equation x_to_zero (λ h. cc) (λ h. record { fraction = omega (arith, ints); sign = omega (arith, ints); complementary = inl refl });
    least = λ r h. least_stopped (cell r.nums 0) (cell r.nums 1) r.den r.positive (h.definition 0 bowl_equation refl refl);
  };
  equal_below_zero = let p = whole_point (pos 0 ∷ pos 0 ∷ []) in let q0 = equation (variable 1) Equal (numeral 0) in let m = model free_pair (bowl_equation ∷ q0 ∷ []) in record {
    among = bowl_itself;
    each = each_of_two (λ e q. is_constraint m bound_by (block 0) e ≡ true → IsMultiplier q.relation (sides_gap p q) (all_are (negsuc 1) e)) bowl_equation q0 (λ h. cc) (λ h. record { fraction = omega (arith, ints); sign = tt; complementary = inl refl });
    least = λ r h. least_stopped (cell r.nums 0) (cell r.nums 1) r.den r.positive (h.definition 0 bowl_equation refl refl);
  };
  sign_of_at_most = λ h. let l = (h.each 1 _ refl refl).sign in omega (arith, ints);
  sign_of_at_least = λ h. let l = (h.each 1 _ refl refl).sign in omega (arith, ints);
  sign_of_nothing = λ h. let l = (h.each 1 _ refl refl).sign in omega (arith, ints);
  one_each = let p = whole_point (pos 1 ∷ pos 1 ∷ []) in record {
    among = twice_itself;
    each = each_of_three (λ e q. is_constraint bound_twice bound_twice_by (block 0) e ≡ true → IsMultiplier q.relation (sides_gap p q) (all_are (pos 1) e)) c_is_square x_from_one x_from_one (λ h. cc) (λ h. record { fraction = omega (arith, ints); sign = omega (arith, ints); complementary = inl refl }) (λ h. record { fraction = omega (arith, ints); sign = omega (arith, ints); complementary = inl refl });
    least = λ r h. least_each (cell r.nums 0) (cell r.nums 1) r.den r.positive (h.definition 0 c_is_square refl refl);
  };
  at_most_wrong_sign = λ h. let l = (h.each 1 x_to_zero refl refl).sign in omega (arith, ints);
}
