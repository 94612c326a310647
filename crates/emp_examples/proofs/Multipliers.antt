-- The examples of multipliers.
use Rattle.std.proofs.Common.{◌≡◌, ◌⊎◌, inl, inr, ℤ, pos, negsuc, neg_ℤ, ◌+ℤ◌, ◌-ℤ◌, ◌*ℤ◌, ◌<ℤ◌, ◌≤ℤ◌, true, false, List, [], ◌∷◌, arith, refl, ap}
use Rattle.std.proofs.lemmas.Int.{ints}
use Rattle.emp_algebra.proofs.Laws.{mul_nonneg, mul_pos}
use Rattle.emp_algebra.proofs.Order.{linear, square_nonneg}
use Rattle.emp_algebra.proofs.Ring.{var, lit, neg, ◌⊕◌, ◌⊖◌, ◌⊗◌, by_ring}
use Rattle.emp_algebra.specs.Vector.{cell}
use Rattle.emp_num.specs.Ratio.{ratio, SameRatio}
use Rattle.emp_num.specs.Point.{Point, coordinate}
use Rattle.emp_ast.specs.declared.model.Equation.{Equation}
use Rattle.emp_ast.specs.Meets.{MeetsEquation, MeetsBounds}
use Rattle.emp_ast.specs.Parties.{block, owns, defines, is_constraint}
use Rattle.emp_ast.specs.Rivals.{Fits, IsDeviation}
use Rattle.emp_ast.specs.Solved.{sides_gap, IsSolved}
use Rattle.emp_ast.specs.Multipliers.{IsMultiplier, AreMultipliers}
use Rattle.emp_ast.specs.Equilibrium.{is_priced}
use Rattle.emp_ast.proofs.Fractions.{from_nought}
use Rattle.emp_examples.specs.Small.{free, equ, var as variable_of, whole_point}
use Rattle.emp_examples.specs.Parties.{c_is_square, x_from_one}
use Rattle.emp_examples.specs.Multipliers.{ExamplesOfMultipliers, all_are, bound, bound_by, x_as_it_is, no_slack, priced, priced_by}
use Rattle.emp_examples.proofs.Short.{each_of_one, each_of_two, each_of_three, below_one, below_two, below_three, le_by, below_not_above}

-- c - 2*(x - 1) is at least 1 where c = x*x
pub least_two : (c x d : ℤ) → pos 0 <ℤ d → c *ℤ (d *ℤ d) ≡ x *ℤ x *ℤ d → (pos 1 *ℤ (d *ℤ (pos 1 *ℤ (d *ℤ pos 1) *ℤ pos 1))) ≤ℤ ((c *ℤ (pos 1 *ℤ (d *ℤ pos 1) *ℤ pos 1) +ℤ neg_ℤ (pos 2 *ℤ (x *ℤ pos 1 +ℤ negsuc 0 *ℤ d) *ℤ pos 1 +ℤ pos 0 *ℤ (pos 1 *ℤ (d *ℤ pos 1))) *ℤ d) *ℤ pos 1)
least_two c x d up h =
    le_by (neg_ℤ (pos 2 *ℤ (x -ℤ d)) *ℤ (d *ℤ d)) (d *ℤ ((x -ℤ d) *ℤ (x -ℤ d))) d up h
    (by_ring (c ∷ x ∷ d ∷ [])
    ((var 0 ⊗ (lit (pos 1) ⊗ (var 2 ⊗ lit (pos 1)) ⊗ lit (pos 1)) ⊕ neg (lit (pos 2) ⊗ (var 1 ⊗ lit (pos 1) ⊕ lit (negsuc 0) ⊗ var 2) ⊗ lit (pos 1) ⊕ lit (pos 0) ⊗ (lit (pos 1) ⊗ (var 2 ⊗ lit (pos 1)))) ⊗ var 2) ⊗ lit (pos 1) ⊗ var 2)
    (var 0 ⊗ (var 2 ⊗ var 2) ⊕ neg (lit (pos 2) ⊗ (var 1 ⊖ var 2)) ⊗ (var 2 ⊗ var 2))
    refl)
    (by_ring (x ∷ d ∷ [])
    (var 0 ⊗ var 0 ⊗ var 1 ⊕ neg (lit (pos 2) ⊗ (var 0 ⊖ var 1)) ⊗ (var 1 ⊗ var 1))
    (lit (pos 1) ⊗ (var 1 ⊗ (lit (pos 1) ⊗ (var 1 ⊗ lit (pos 1)) ⊗ lit (pos 1))) ⊗ var 1 ⊕ var 1 ⊗ ((var 0 ⊖ var 1) ⊗ (var 0 ⊖ var 1)))
    refl)
    (mul_nonneg d ((x -ℤ d) *ℤ (x -ℤ d)) (omega (arith, ints)) (square_nonneg (x -ℤ d)))

-- c - 0*(x - 0) is at least 0 where c = x*x
least_zero : (c x d : ℤ) → pos 0 <ℤ d → c *ℤ (d *ℤ d) ≡ x *ℤ x *ℤ d → (pos 0 *ℤ (d *ℤ (pos 1 *ℤ (d *ℤ pos 1) *ℤ pos 1))) ≤ℤ ((c *ℤ (pos 1 *ℤ (d *ℤ pos 1) *ℤ pos 1) +ℤ neg_ℤ (pos 0 *ℤ (x *ℤ pos 1 +ℤ pos 0 *ℤ d) *ℤ pos 1 +ℤ pos 0 *ℤ (pos 1 *ℤ (d *ℤ pos 1))) *ℤ d) *ℤ pos 1)
least_zero c x d up h =
    le_by (pos 0) (d *ℤ (x *ℤ x)) d up h
    (by_ring (c ∷ x ∷ d ∷ [])
    ((var 0 ⊗ (lit (pos 1) ⊗ (var 2 ⊗ lit (pos 1)) ⊗ lit (pos 1)) ⊕ neg (lit (pos 0) ⊗ (var 1 ⊗ lit (pos 1) ⊕ lit (pos 0) ⊗ var 2) ⊗ lit (pos 1) ⊕ lit (pos 0) ⊗ (lit (pos 1) ⊗ (var 2 ⊗ lit (pos 1)))) ⊗ var 2) ⊗ lit (pos 1) ⊗ var 2)
    (var 0 ⊗ (var 2 ⊗ var 2) ⊕ lit (pos 0))
    refl)
    (by_ring (x ∷ d ∷ [])
    (var 0 ⊗ var 0 ⊗ var 1 ⊕ lit (pos 0))
    (lit (pos 0) ⊗ (var 1 ⊗ (lit (pos 1) ⊗ (var 1 ⊗ lit (pos 1)) ⊗ lit (pos 1))) ⊗ var 1 ⊕ var 1 ⊗ (var 0 ⊗ var 0))
    refl)
    (mul_nonneg d (x *ℤ x) (omega (arith, ints)) (square_nonneg x))

-- c is at least 1 where c = x*x and x is at least 1
least_held : (c x d : ℤ) → pos 0 <ℤ d → c *ℤ (d *ℤ d) ≡ x *ℤ x *ℤ d → (pos 1 *ℤ d) ≤ℤ (x *ℤ pos 1) → (pos 1 *ℤ d) ≤ℤ (c *ℤ pos 1)
least_held c x d up h above =
    le_by (pos 0) (d *ℤ ((x -ℤ d) *ℤ (x +ℤ d))) (d *ℤ d) (mul_pos d d up up) h
    (by_ring (c ∷ d ∷ []) (var 0 ⊗ lit (pos 1) ⊗ (var 1 ⊗ var 1)) (var 0 ⊗ (var 1 ⊗ var 1) ⊕ lit (pos 0)) refl)
    (by_ring (x ∷ d ∷ []) (var 0 ⊗ var 0 ⊗ var 1 ⊕ lit (pos 0)) (lit (pos 1) ⊗ var 1 ⊗ (var 1 ⊗ var 1) ⊕ var 1 ⊗ ((var 0 ⊖ var 1) ⊗ (var 0 ⊕ var 1))) refl)
    (mul_nonneg d ((x -ℤ d) *ℤ (x +ℤ d)) (omega (arith, ints)) (mul_nonneg (x -ℤ d) (x +ℤ d) (omega (arith, ints)) (omega (arith, ints))))

four_above_zero : pos 0 <ℤ pos 4
four_above_zero = omega (arith, ints)

-- x = 1/2 with its c, and further coordinates
half : List ℤ → Point
half rest = record { den = pos 4; nums = pos 1 ∷ pos 2 ∷ rest; positive = four_above_zero }

not_both : (pos 1 ≡ pos 0) ⊎ (pos 4 ≡ pos 0) → ⊥
not_both (inl e) = omega (arith, ints)
not_both (inr e) = omega (arith, ints)

-- ---- the points that an agent with another equation k reaches
pub bound_deviation : (k : Equation) → defines (bound k) bound_by (block 0) 0 ≡ true → defines (bound k) bound_by (block 0) 1 ≡ false → (p r : Point) → Fits (bound k) r → MeetsEquation r c_is_square → IsDeviation (bound k) bound_by (block 0) p r
bound_deviation k is isnt p r fits d = record {
  fits = fits;
  others = below_two (λ v. owns (bound k) bound_by (block 0) v ≡ false → SameRatio (coordinate r v) (coordinate p v)) (λ own. cc) (λ own. cc);
  bounds = each_of_two (λ v x. owns (bound k) bound_by (block 0) v ≡ true → MeetsBounds r v x) free free (λ own. (tt, tt)) (λ own. (tt, tt));
  definition = each_of_two (λ e q. defines (bound k) bound_by (block 0) e ≡ true → MeetsEquation r q) c_is_square k (λ h. d) (λ h. cc);
}

priced_deviation : (p r : Point) → Fits priced r → SameRatio (coordinate r 2) (coordinate p 2) → MeetsEquation r c_is_square → IsDeviation priced priced_by (block 0) p r
priced_deviation p r fits same d = record {
  fits = fits;
  others = below_three (λ v. owns priced priced_by (block 0) v ≡ false → SameRatio (coordinate r v) (coordinate p v)) (λ own. cc) (λ own. cc) (λ own. same);
  bounds = each_of_three (λ v x. owns priced priced_by (block 0) v ≡ true → MeetsBounds r v x) free free free (λ own. (tt, tt)) (λ own. (tt, tt)) (λ own. (tt, tt));
  definition = each_of_two (λ e q. defines priced priced_by (block 0) e ≡ true → MeetsEquation r q) c_is_square x_from_one (λ h. d) (λ h. cc);
}

priced_multipliers : AreMultipliers priced priced_by 0 (whole_point (pos 1 ∷ pos 1 ∷ pos 2 ∷ [])) (all_are (pos 2))
priced_multipliers = let p = whole_point (pos 1 ∷ pos 1 ∷ pos 2 ∷ []) in record {
  among = priced_deviation p p refl refl refl;
  each = each_of_two (λ e q. is_constraint priced priced_by (block 0) e ≡ true → IsMultiplier q.relation (sides_gap p q) (all_are (pos 2) e)) c_is_square x_from_one (λ h. cc) (λ h. record { fraction = omega (arith, ints); sign = omega (arith, ints); complementary = inl refl });
  least = λ r h. least_two (cell r.nums 0) (cell r.nums 1) r.den r.positive (h.definition 0 c_is_square refl refl);
}

-- t over b is not -2
not_below_zero : (t b : ℤ) → pos 0 ≤ℤ t → pos 0 <ℤ b → t *ℤ pos 1 ≡ negsuc 1 *ℤ b → ⊥
not_below_zero t b h k e = omega (arith, ints)

absurd_by : {l r a b : ℤ} (s : ℤ) → l ≤ℤ r → a ≡ b → l +ℤ a ≡ r +ℤ s +ℤ b → pos 0 <ℤ s → ⊥
absurd_by {l} {r} {a} {b} s h same e up = omega (arith, linear)

-- with t over b = 1 the value 1/4 - (t/b)*(1/2 - 1) is below 1
not_least_at_one : (t b : ℤ) → pos 0 <ℤ b → t *ℤ pos 1 ≡ pos 1 *ℤ b → ((pos 1 *ℤ (b *ℤ pos 1 *ℤ pos 1) +ℤ neg_ℤ (t *ℤ pos 0 *ℤ pos 1 +ℤ pos 0 *ℤ (b *ℤ pos 1)) *ℤ pos 1) *ℤ (pos 4 *ℤ (b *ℤ pos 4 *ℤ pos 1))) ≤ℤ ((pos 1 *ℤ (b *ℤ pos 4 *ℤ pos 1) +ℤ neg_ℤ (t *ℤ negsuc 1 *ℤ pos 1 +ℤ pos 0 *ℤ (b *ℤ pos 4)) *ℤ pos 4) *ℤ (pos 1 *ℤ (b *ℤ pos 1 *ℤ pos 1))) → ⊥
not_least_at_one t b up same h =
    absurd_by (pos 4 *ℤ (b *ℤ b)) h (ap (λ z. pos 8 *ℤ b *ℤ z) same)
    (by_ring (t ∷ b ∷ [])
    ((lit (pos 1) ⊗ (var 1 ⊗ lit (pos 1) ⊗ lit (pos 1)) ⊕ neg (var 0 ⊗ lit (pos 0) ⊗ lit (pos 1) ⊕ lit (pos 0) ⊗ (var 1 ⊗ lit (pos 1))) ⊗ lit (pos 1)) ⊗ (lit (pos 4) ⊗ (var 1 ⊗ lit (pos 4) ⊗ lit (pos 1))) ⊕ lit (pos 8) ⊗ var 1 ⊗ (var 0 ⊗ lit (pos 1)))
    ((lit (pos 1) ⊗ (var 1 ⊗ lit (pos 4) ⊗ lit (pos 1)) ⊕ neg (var 0 ⊗ lit (negsuc 1) ⊗ lit (pos 1) ⊕ lit (pos 0) ⊗ (var 1 ⊗ lit (pos 4))) ⊗ lit (pos 4)) ⊗ (lit (pos 1) ⊗ (var 1 ⊗ lit (pos 1) ⊗ lit (pos 1))) ⊕ lit (pos 4) ⊗ (var 1 ⊗ var 1) ⊕ lit (pos 8) ⊗ var 1 ⊗ (lit (pos 1) ⊗ var 1))
    refl)
    (mul_pos (pos 4) (b *ℤ b) four_above_zero (mul_pos b b up up))

pub examples_of_multipliers : ExamplesOfMultipliers
unfolding half
examples_of_multipliers = record {
  two = let p = whole_point (pos 1 ∷ pos 1 ∷ []) in record {
    among = bound_deviation x_from_one refl refl p p refl refl;
    each = each_of_two (λ e q. is_constraint (bound x_from_one) bound_by (block 0) e ≡ true → IsMultiplier q.relation (sides_gap p q) (all_are (pos 2) e)) c_is_square x_from_one (λ h. cc) (λ h. record { fraction = omega (arith, ints); sign = omega (arith, ints); complementary = inl refl });
    least = λ r h. least_two (cell r.nums 0) (cell r.nums 1) r.den r.positive (h.definition 0 c_is_square refl refl);
  };
  wrong_sign = λ h. let l = (h.each 1 x_from_one refl refl).sign in absurd l.le;
  not_least = λ h. let l = h.least (half []) (bound_deviation x_from_one refl refl (whole_point (pos 1 ∷ pos 1 ∷ [])) (half []) refl refl) in omega (arith, ints);
  no_fraction = λ h. let l = (h.each 1 x_from_one refl refl).fraction in omega (arith, ints);
  with_slack = λ h. not_both (h.each 1 x_from_one refl refl).complementary;
  not_among = λ h. let l = h.among.definition 0 c_is_square refl refl in omega (arith, ints);
  none_of_nothing = let p = whole_point (pos 0 ∷ pos 0 ∷ []) in record {
    among = bound_deviation x_as_it_is refl refl p p refl refl;
    each = each_of_two (λ e q. is_constraint (bound x_as_it_is) bound_by (block 0) e ≡ true → IsMultiplier q.relation (sides_gap p q) (all_are (pos 0) e)) c_is_square x_as_it_is (λ h. cc) (λ h. record { fraction = omega (arith, ints); sign = refl; complementary = inl refl });
    least = λ r h. least_zero (cell r.nums 0) (cell r.nums 1) r.den r.positive (h.definition 0 c_is_square refl refl);
  };
  one_of_nothing = λ h. let l = (h.each 1 x_as_it_is refl refl).sign in omega (arith, ints);
  no_value = λ h. (h.each 1 no_slack refl refl).complementary;
  priced_two = let p = whole_point (pos 1 ∷ pos 1 ∷ pos 2 ∷ []) in record {
    fits = refl;
    solved = below_one (λ k. IsSolved priced priced_by k p) (record {
      feasible = record {
        deviation = priced_deviation p p refl refl refl;
        constraints = each_of_two (λ e q. is_constraint priced priced_by (block 0) e ≡ true → MeetsEquation p q) c_is_square x_from_one (λ h. cc) (λ h. omega (arith, ints));
      };
      best = λ r h better. below_not_above (pos 1 *ℤ r.den) (cell r.nums 0 *ℤ pos 1) (least_held (cell r.nums 0) (cell r.nums 1) r.den r.positive (h.deviation.definition 0 c_is_square refl refl) (h.constraints 1 x_from_one refl refl)) better;
    });
    choice = λ k. all_are (pos 2);
    prices = record {
      multipliers = below_one (λ k. is_priced priced priced_by k ≡ true → AreMultipliers priced priced_by k p (all_are (pos 2))) (λ h. priced_multipliers);
      duals = λ k i d within at h. each_of_one (λ i d. SameRatio (ratio (pos 2) (pos 1)) (coordinate p d.0.at)) (variable_of 2, equ 1) refl i d at;
      shared = λ j k e at_j at_k named h l. cc;
    };
  };
  priced_stands = λ h. let l = h.deviation.others 2 (omega arith) refl in omega (arith, ints);
  both_priced = λ h. let l = h.duals 1 1 (variable_of 5, equ 3) (omega arith) refl refl in omega (arith, ints);
  priced_wrong_sign = λ h.
      let u = (h.prices.multipliers 0 (omega arith) refl).each 1 x_from_one refl refl in
      not_below_zero (h.choice 0 1).top (h.choice 0 1).bottom ((from_nought (h.choice 0 1)).0 u.sign) u.fraction (h.prices.duals 0 0 (variable_of 2, equ 1) (omega arith) refl refl);
  priced_not_least = λ h.
      let m = h.prices.multipliers 0 (omega arith) refl in
      let u = m.each 1 x_from_one refl refl in
      not_least_at_one (h.choice 0 1).top (h.choice 0 1).bottom u.fraction (h.prices.duals 0 0 (variable_of 2, equ 1) (omega arith) refl refl)
      (m.least (half (pos 4 ∷ [])) (priced_deviation (whole_point (pos 1 ∷ pos 1 ∷ pos 1 ∷ [])) (half (pos 4 ∷ [])) refl refl refl));
}
