-- The examples of bilevel points and rays.
use Rattle.std.proofs.Common.{◌≡◌, ℕ, ◌+◌, ℤ, pos, negsuc, neg_ℤ, ◌+ℤ◌, ◌-ℤ◌, ◌*ℤ◌, ◌<ℤ◌, ◌≤ℤ◌, true, false, [], ◌∷◌, arith, refl, ap, ◌∙◌}
use Rattle.std.proofs.lemmas.Int.{ints}
use Rattle.emp_algebra.proofs.Laws.{mul_pos}
use Rattle.emp_algebra.proofs.Order.{linear, cancel_right}
use Rattle.emp_algebra.proofs.Ring.{var, lit, neg, ◌⊕◌, ◌⊖◌, ◌⊗◌, by_ring}
use Rattle.emp_algebra.specs.Vector.{cell}
use Rattle.emp_num.specs.Ratio.{ratio, plus, minus, times, SameRatio}
use Rattle.emp_num.specs.Point.{Point, coordinate}
use Rattle.emp_ast.specs.declared.model.Variable.{Variable}
use Rattle.emp_ast.specs.Meets.{MeetsEquation, MeetsBounds}
use Rattle.emp_ast.specs.Parties.{leader, block, owns, defines, is_constraint, is_defined, EachDefinition}
use Rattle.emp_ast.specs.Rivals.{Fits, IsRival}
use Rattle.emp_ast.specs.Solved.{IsSolved}
use Rattle.emp_ast.specs.Multipliers.{AreMultipliers}
use Rattle.emp_ast.specs.Equilibrium.{is_priced}
use Rattle.emp_ast.specs.Bilevel.{IsAdmissible, IsAfterSteps}
use Rattle.emp_examples.specs.Small.{free, from, whole_point}
use Rattle.emp_examples.specs.Bilevel.{ExamplesOfBilevel, ExamplesOfRays, z_is_y, x_to_y, led, led_by, lending, lending_by}
use Rattle.emp_examples.proofs.Short.{each_of_two, each_of_three, below_one, below_three, from_zero}

-- ---- points of the model
follower_rival : (y : Variable) (p r : Point) → Fits (led y) r → SameRatio (coordinate r 0) (coordinate p 0) → SameRatio (coordinate r 1) (coordinate p 1) → IsRival (led y) led_by (block 0) p r
follower_rival y p r fits z_same y_same = record {
  deviation = record {
    fits = fits;
    others = below_three (λ v. owns (led y) led_by (block 0) v ≡ false → SameRatio (coordinate r v) (coordinate p v)) (λ own. z_same) (λ own. y_same) (λ own. cc);
    bounds = each_of_three (λ v x. owns (led y) led_by (block 0) v ≡ true → MeetsBounds r v x) free y free (λ own. cc) (λ own. cc) (λ own. (tt, tt));
    definition = λ e q at h. cc;
  };
  constraints = each_of_two (λ e q. is_constraint (led y) led_by (block 0) e ≡ true → MeetsEquation r q) z_is_y x_to_y (λ h. cc) (λ h. cc);
}

leads : (y : Variable) (p : Point) → Fits (led y) p → MeetsBounds p 1 y → MeetsEquation p z_is_y → IsRival (led y) led_by leader p p
leads y p fits b d = record {
  deviation = record {
    fits = fits;
    others = below_three (λ v. owns (led y) led_by leader v ≡ false → SameRatio (coordinate p v) (coordinate p v)) (λ own. refl) (λ own. refl) (λ own. refl);
    bounds = each_of_three (λ v x. owns (led y) led_by leader v ≡ true → MeetsBounds p v x) free y free (λ own. (tt, tt)) (λ own. b) (λ own. cc);
    definition = each_of_two (λ e q. defines (led y) led_by leader e ≡ true → MeetsEquation p q) z_is_y x_to_y (λ h. d) (λ h. cc);
  };
  constraints = each_of_two (λ e q. is_constraint (led y) led_by leader e ≡ true → MeetsEquation p q) z_is_y x_to_y (λ h. cc) (λ h. cc);
}

-- where x is y the function is 0
no_flow : (x y d w b : ℤ) → x *ℤ d ≡ y *ℤ d → pos 0 ≤ℤ (((x *ℤ d +ℤ neg_ℤ y *ℤ d) *ℤ pos 1 +ℤ pos 0 *ℤ (d *ℤ d)) *ℤ w *ℤ pos 1 +ℤ pos 0 *ℤ b)
no_flow x y d w b h =
    let e : ((x *ℤ d +ℤ neg_ℤ y *ℤ d) *ℤ pos 1 +ℤ pos 0 *ℤ (d *ℤ d)) *ℤ w *ℤ pos 1 +ℤ pos 0 *ℤ b ≡ (x *ℤ d -ℤ y *ℤ d) *ℤ w = by_ring (x ∷ y ∷ d ∷ w ∷ b ∷ []) (((var 0 ⊗ var 2 ⊕ neg (var 1) ⊗ var 2) ⊗ lit (pos 1) ⊕ lit (pos 0) ⊗ (var 2 ⊗ var 2)) ⊗ var 3 ⊗ lit (pos 1) ⊕ lit (pos 0) ⊗ var 4) ((var 0 ⊗ var 2 ⊖ var 1 ⊗ var 2) ⊗ var 3) refl in
    let f : (x *ℤ d -ℤ y *ℤ d) *ℤ w ≡ (y *ℤ d -ℤ y *ℤ d) *ℤ w = ap (λ z. (z -ℤ y *ℤ d) *ℤ w) h in
    let g : (y *ℤ d -ℤ y *ℤ d) *ℤ w ≡ pos 0 = by_ring (y ∷ d ∷ w ∷ []) ((var 0 ⊗ var 1 ⊖ var 0 ⊗ var 1) ⊗ var 2) (lit (pos 0)) refl in
    omega (arith, linear)

follows : (y : Variable) (p : Point) → Fits (led y) p → SameRatio (coordinate p 2) (coordinate p 1) → IsSolved (led y) led_by 0 p
follows y p fits h = record {
  feasible = follower_rival y p p fits refl refl;
  best = λ r rival. from_zero _ (p.den *ℤ p.den *ℤ pos 1 *ℤ (r.den *ℤ p.den) *ℤ pos 1) (no_flow (cell p.nums 2) (cell p.nums 1) p.den (minus (coordinate r 2) (coordinate p 2)).top (p.den *ℤ p.den *ℤ pos 1 *ℤ (r.den *ℤ p.den)) h);
}

pub admissible : (y : Variable) (p : Point) → Fits (led y) p → MeetsBounds p 1 y → MeetsEquation p z_is_y → SameRatio (coordinate p 2) (coordinate p 1) → IsAdmissible (led y) led_by p
admissible y p fits b d h = record {
  leads = leads y p fits b d;
  follows = record {
    fits = fits;
    solved = below_one (λ k. IsSolved (led y) led_by k p) (follows y p fits h);
    choice = λ k e. ratio (pos 0) (pos 1);
    prices = record {
      multipliers = below_one (λ k. is_priced (led y) led_by k ≡ true → AreMultipliers (led y) led_by k p (λ e. ratio (pos 0) (pos 1))) (λ l. cc);
      duals = λ k i c within at l. cc;
      shared = λ j k e at_j at_k named l n. cc;
    };
  };
}

-- z is not below 0 where it is y, and y is not
not_below : (z y d : ℤ) → pos 0 <ℤ d → z *ℤ d ≡ y *ℤ d → (pos 0 *ℤ d) ≤ℤ (y *ℤ pos 1) → (z *ℤ pos 1) <ℤ (pos 0 *ℤ d) → ⊥
not_below z y d up h low below = let same : z ≡ y = cancel_right z y d h up in omega (arith, ints)

pub examples_of_bilevel : ExamplesOfBilevel
examples_of_bilevel = record {
  at_one = admissible (from 0) (whole_point (pos 1 ∷ pos 1 ∷ pos 1 ∷ [])) refl (omega (arith, ints), tt) refl refl;
  below_bound = λ h. let l = (h.leads.deviation.bounds 1 (from 0) refl refl).0 in absurd l.le;
  off_equation = λ h. let l = h.leads.deviation.definition 0 z_is_y refl refl in omega (arith, ints);
  not_solved = λ h.
      let p = whole_point (pos 1 ∷ pos 1 ∷ pos 0 ∷ []) in
      let r = whole_point (pos 1 ∷ pos 1 ∷ pos 1 ∷ []) in
      let l = (h.follows.solved 0 (omega arith)).best r (follower_rival (from 0) p r refl refl refl) in
      absurd l.le;
  best_at_zero = record {
    admissible = admissible (from 0) (whole_point (pos 0 ∷ pos 0 ∷ pos 0 ∷ [])) refl (omega (arith, ints), tt) refl refl;
    best = λ q h better. not_below (cell q.nums 0) (cell q.nums 1) q.den q.positive (h.leads.deviation.definition 0 z_is_y refl refl) (h.leads.deviation.bounds 1 (from 0) refl refl).0 better;
  };
  not_best_at_one = λ h. h.best (whole_point (pos 0 ∷ pos 0 ∷ pos 0 ∷ [])) (admissible (from 0) (whole_point (pos 0 ∷ pos 0 ∷ pos 0 ∷ [])) refl (omega (arith, ints), tt) refl refl) (omega (arith, ints));
  not_best_off_equation = λ h. let l = h.admissible.leads.deviation.definition 0 z_is_y refl refl in omega (arith, ints);
  greater = omega (arith, ints);
  no_objective = λ h. h;
}

-- ---- rays
origin : Point
origin = whole_point (pos 0 ∷ pos 0 ∷ pos 0 ∷ [])

-- after t steps the variables that no equation defines have moved, and z is y
after : (y : Variable) (v : Point) (t : ℕ) (q : Point) → Fits (led y) q → MeetsEquation q z_is_y → SameRatio (coordinate q 1) (plus (coordinate origin 1) (times (ratio (pos t) (pos 1)) (coordinate v 1))) → SameRatio (coordinate q 2) (plus (coordinate origin 2) (times (ratio (pos t) (pos 1)) (coordinate v 2))) → IsAfterSteps (led y) led_by origin v t q
after y v t q fits d one two = record {
  fits = fits;
  moved = below_three (λ x. is_defined (led y) led_by x ≡ false → SameRatio (coordinate q x) (plus (coordinate origin x) (times (ratio (pos t) (pos 1)) (coordinate v x)))) (λ h. cc) (λ h. one) (λ h. two);
  definitions = record {
    blocks = below_one (λ k. EachDefinition (led y) led_by (block k) (λ e c. MeetsEquation q c)) (λ e c at h. cc);
    leads = λ b. each_of_two (λ e c. defines (led y) led_by leader e ≡ true → MeetsEquation q c) z_is_y x_to_y (λ h. d) (λ h. cc);
  };
}

fallen : ℕ → Point
fallen t = whole_point (neg_ℤ (pos t) ∷ neg_ℤ (pos t) ∷ neg_ℤ (pos t) ∷ [])

fallen_moves : (t : ℤ) → neg_ℤ t *ℤ pos 1 ≡ (pos 0 *ℤ pos 1 +ℤ t *ℤ negsuc 0 *ℤ pos 1) *ℤ pos 1
fallen_moves t = by_ring (t ∷ []) (neg (var 0) ⊗ lit (pos 1)) ((lit (pos 0) ⊗ lit (pos 1) ⊕ var 0 ⊗ lit (negsuc 0) ⊗ lit (pos 1)) ⊗ lit (pos 1)) refl

same_moves : (a b c d : ℤ) → a *ℤ pos 1 ≡ c → b *ℤ pos 1 ≡ c → a *ℤ d ≡ b *ℤ d
same_moves a b c d h k = let same : a ≡ b = omega (arith, ints) in ap (λ z. z *ℤ d) same

-- z and y are -s and, one step on, -s - 1
falls_more : (z y d w x e s r : ℤ) → pos 0 <ℤ d → pos 0 <ℤ e → z *ℤ d ≡ y *ℤ d → w *ℤ e ≡ x *ℤ e → y *ℤ pos 1 ≡ (pos 0 *ℤ pos 1 +ℤ s *ℤ negsuc 0 *ℤ pos 1) *ℤ d → x *ℤ pos 1 ≡ (pos 0 *ℤ pos 1 +ℤ r *ℤ negsuc 0 *ℤ pos 1) *ℤ e → r ≡ s +ℤ pos 1 → (w *ℤ d) <ℤ (z *ℤ e)
falls_more z y d w x e s r up_d up_e h k m n more =
    let zy : z ≡ y = cancel_right z y d h up_d in
    let wx : w ≡ x = cancel_right w x e k up_e in
    let z_is : z *ℤ e ≡ neg_ℤ (s *ℤ d *ℤ e) = ap (λ u. u *ℤ e) zy ∙ (by_ring (y ∷ e ∷ []) (var 0 ⊗ var 1) (var 0 ⊗ lit (pos 1) ⊗ var 1) refl ∙ (ap (λ u. u *ℤ e) m ∙ by_ring (s ∷ d ∷ e ∷ []) ((lit (pos 0) ⊗ lit (pos 1) ⊕ var 0 ⊗ lit (negsuc 0) ⊗ lit (pos 1)) ⊗ var 1 ⊗ var 2) (neg (var 0 ⊗ var 1 ⊗ var 2)) refl)) in
    let w_is : w *ℤ d ≡ neg_ℤ (s *ℤ d *ℤ e +ℤ d *ℤ e) = ap (λ u. u *ℤ d) wx ∙ (by_ring (x ∷ d ∷ []) (var 0 ⊗ var 1) (var 0 ⊗ lit (pos 1) ⊗ var 1) refl ∙ (ap (λ u. u *ℤ d) n ∙ (ap (λ u. (pos 0 *ℤ pos 1 +ℤ u *ℤ negsuc 0 *ℤ pos 1) *ℤ e *ℤ d) more ∙ by_ring (s ∷ d ∷ e ∷ []) ((lit (pos 0) ⊗ lit (pos 1) ⊕ (var 0 ⊕ lit (pos 1)) ⊗ lit (negsuc 0) ⊗ lit (pos 1)) ⊗ var 2 ⊗ var 1) (neg (var 0 ⊗ var 1 ⊗ var 2 ⊕ var 1 ⊗ var 2)) refl))) in
    omega (arith, linear, mul_pos d e up_d up_e)

pub examples_of_rays : ExamplesOfRays
unfolding origin fallen
examples_of_rays = record {
  falls =
      let v = whole_point (pos 0 ∷ negsuc 0 ∷ negsuc 0 ∷ []) in
      record {
        start = admissible free origin refl (tt, tt) refl refl;
        after = λ t. (fallen t, after free v t (fallen t) refl refl (fallen_moves (pos t)) (fallen_moves (pos t)));
        admissible = λ t q h. admissible free q h.fits (tt, tt) (h.definitions.leads refl 0 z_is_y refl refl) (same_moves (cell q.nums 2) (cell q.nums 1) _ q.den (h.moved 2 (omega arith) refl) (h.moved 1 (omega arith) refl));
        improves = λ t q r h k. falls_more (cell q.nums 0) (cell q.nums 1) q.den (cell r.nums 0) (cell r.nums 1) r.den (pos t) (pos (t + 1)) q.positive r.positive (h.definitions.leads refl 0 z_is_y refl refl) (k.definitions.leads refl 0 z_is_y refl refl) (h.moved 1 (omega arith) refl) (k.moved 1 (omega arith) refl) (omega (arith, ints));
      };
  rises = λ h.
      let v = whole_point (pos 0 ∷ pos 1 ∷ pos 1 ∷ []) in
      let q = whole_point (pos 1 ∷ pos 1 ∷ pos 1 ∷ []) in
      let l = h.improves 0 origin q (after free v 0 origin refl refl refl refl) (after free v 1 q refl refl refl refl) in
      omega (arith, ints);
  leaves = λ h.
      let v = whole_point (pos 0 ∷ negsuc 0 ∷ pos 0 ∷ []) in
      let q = whole_point (negsuc 0 ∷ negsuc 0 ∷ pos 0 ∷ []) in
      let r = whole_point (negsuc 0 ∷ negsuc 0 ∷ negsuc 0 ∷ []) in
      let l = ((h.admissible 1 q (after free v 1 q refl refl refl refl)).follows.solved 0 (omega arith)).best r (follower_rival free q r refl refl refl) in
      absurd l.le;
  stays = λ h. let l = h.improves 0 origin origin (after free origin 0 origin refl refl refl refl) (after free origin 1 origin refl refl refl refl) in omega (arith, ints);
  starts_off = λ h. let l = h.start.leads.deviation.definition 0 z_is_y refl refl in omega (arith, ints);
  takes_given =
      let p = whole_point (pos 0 ∷ pos 0 ∷ pos 0 ∷ []) in
      let v = whole_point (pos 5 ∷ pos 1 ∷ pos 5 ∷ []) in
      let q = whole_point (pos 2 ∷ pos 2 ∷ pos 2 ∷ []) in
      record {
        fits = refl;
        moved = below_three (λ x. is_defined lending lending_by x ≡ false → SameRatio (coordinate q x) (plus (coordinate p x) (times (ratio (pos 2) (pos 1)) (coordinate v x)))) (λ h. cc) (λ h. refl) (λ h. cc);
        definitions = record {
          blocks = below_one (λ k. EachDefinition lending lending_by (block k) (λ e c. MeetsEquation q c)) (each_of_two (λ e c. defines lending lending_by (block 0) e ≡ true → MeetsEquation q c) z_is_y _ (λ h. cc) (λ h. refl));
          leads = λ b. each_of_two (λ e c. defines lending lending_by leader e ≡ true → MeetsEquation q c) z_is_y _ (λ h. refl) (λ h. cc);
        };
      };
  not_by_step = λ h. let l = h.definitions.blocks 0 (omega arith) 1 _ refl refl in omega (arith, ints);
  bounded = λ h.
      let v = whole_point (pos 0 ∷ negsuc 0 ∷ negsuc 0 ∷ []) in
      let q = whole_point (negsuc 0 ∷ negsuc 0 ∷ negsuc 0 ∷ []) in
      let l = ((h.admissible 1 q (after (from 0) v 1 q refl refl refl refl)).leads.deviation.bounds 1 (from 0) refl refl).0 in
      absurd l.le;
}
