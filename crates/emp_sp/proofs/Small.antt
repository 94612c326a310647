-- The examples of scenarios, plans and rays.
use Rattle.std.proofs.Common.{◌≡◌, ℕ, zero, suc, ◌+◌, ◌<◌, ℤ, pos, negsuc, neg_ℤ, ◌+ℤ◌, ◌*ℤ◌, ◌≤ℤ◌, ◌<ℤ◌, true, false, [], ◌∷◌, length, Some, arith, refl, sym, ap, subst, ◌∙◌}
use Rattle.std.specs.List.{slice_get}
use Rattle.std.proofs.lemmas.Int.{ints}
use Rattle.emp_algebra.proofs.Laws.{mul_nonneg}
use Rattle.emp_algebra.proofs.Order.{linear, mul_le_right, le_cancel_right}
use Rattle.emp_algebra.proofs.Ring.{var, lit, neg, ◌⊕◌, ◌⊗◌, by_ring}
use Rattle.emp_algebra.specs.Vector.{cell}
use Rattle.emp_num.specs.declared.frac.Frac.{Frac}
use Rattle.emp_num.specs.Ratio.{Ratio, ratio, plus, times, SameRatio, AtMostRatio}
use Rattle.emp_num.specs.Point.{Point, coordinate}
use Rattle.emp_num.specs.Whole.{whole}
use Rattle.emp_ast.specs.declared.model.Equation.{Equation}
use Rattle.emp_ast.specs.declared.model.Sense.{Sense}
use Rattle.emp_ast.specs.declared.model.Sense.TheVariants.{Min, Max}
use Rattle.emp_ast.specs.Meets.{MeetsEquation, MeetsBounds}
use Rattle.emp_ast.specs.Parties.{leader, owns, is_goal, defines, is_constraint}
use Rattle.emp_ast.specs.Rivals.{IsFeasible}
use Rattle.emp_ast.specs.Solved.{IsSmaller}
use Rattle.emp_ast.specs.SameLaws.{SameFraction}
use Rattle.emp_ast.proofs.Fractions.{fraction_itself, fraction_back, fraction_on, fraction_plus, fraction_times, at_most_same, smaller_same}
use Rattle.emp_examples.specs.Small.{free}
use Rattle.emp_examples.proofs.Short.{each_of_one, each_of_two, each_of_three, below_three}
use Rattle.emp_sp.specs.Plans.{alone, Scenario, chance, is_random, place, ShowsScenario, IsFeasiblePlan, HasWorth, IsBetterPlan, IsPlanAfter}
use Rattle.emp_sp.specs.Examples.{third, two_thirds, z_is_y, x_to_four, y_to_x, y_to_d, staged, bound, drawn, dry, wet, plan, ExamplesOfScenarios, ExamplesOfPlans, ExamplesOfPlanRays}

each_of_four : {A : Type 0} (P : ℕ → A → Type 0) (a b c d : A) → P 0 a → P 1 b → P 2 c → P 3 d → (k : ℕ) (x : A) → slice_get (a ∷ b ∷ c ∷ d ∷ []) k ≡ Some x → P k x
each_of_four P a b c d h i j l zero x e = each_of_one P a h zero x e
each_of_four P a b c d h i j l (suc k) x e = each_of_three (λ k x. P (suc k) x) b c d i j l k x e

below_four : (P : ℕ → Type 0) → P 0 → P 1 → P 2 → P 3 → (v : ℕ) → v < 4 → P v
below_four P h i j l zero m = h
below_four P h i j l (suc v) m = below_three (λ v. P (suc v)) i j l v (omega arith)

-- ---- what a plan of three numbers is to meet
record IsWithin (r : Point) : Type 0 where
  count : length r.nums ≡ 3
  four : AtMostRatio (coordinate r 0) (ratio (pos 4) (pos 1))
  first : AtMostRatio (coordinate r 1) (coordinate r 0)
  second : AtMostRatio (coordinate r 2) (coordinate r 0)
  two : AtMostRatio (coordinate r 1) (ratio (pos 2) (pos 1))
  six : AtMostRatio (coordinate r 2) (ratio (pos 6) (pos 1))

-- the point of a scenario, with this outcome
abbrev scene : Point → ℕ → ℤ → Point
scene r k o = record { den = r.den; nums = cell r.nums (suc k) ∷ cell r.nums 0 ∷ cell r.nums (suc k) ∷ (o *ℤ r.den) ∷ []; positive = r.positive }

drawn_is : (r : Point) (o : ℤ) → SameRatio (ratio (o *ℤ r.den) r.den) (ratio o (pos 1))
drawn_is r o = by_ring (o ∷ r.den ∷ []) (var 0 ⊗ var 1 ⊗ lit (pos 1)) (var 0 ⊗ var 1) refl

scene_meets : (s : Sense) (r : Point) (k : ℕ) (o : ℤ) → AtMostRatio (coordinate r 0) (ratio (pos 4) (pos 1)) → AtMostRatio (coordinate r (suc k)) (coordinate r 0) → AtMostRatio (coordinate r (suc k)) (ratio o (pos 1)) → IsFeasible (staged s) alone leader (scene r k o)
scene_meets s r k o four high low =
    let q = scene r k o in
    record {
      deviation = record {
        fits = refl;
        others = λ v l own. refl;
        bounds = each_of_four (λ v x. owns (staged s) alone leader v ≡ true → MeetsBounds q v x) free free free free (λ own. (tt, tt)) (λ own. (tt, tt)) (λ own. (tt, tt)) (λ own. (tt, tt));
        definition = each_of_four (λ e c. defines (staged s) alone leader e ≡ true → MeetsEquation q c) z_is_y x_to_four y_to_x y_to_d (λ h. refl) (λ h. cc) (λ h. cc) (λ h. cc);
      };
      constraints = each_of_four (λ e c. is_constraint (staged s) alone leader e ≡ true → MeetsEquation q c) z_is_y x_to_four y_to_x y_to_d (λ h. cc) (λ h. four) (λ h. high)
          (λ h. mul_le_right (cell r.nums (suc k)) (o *ℤ r.den) r.den (let e : cell r.nums (suc k) *ℤ pos 1 ≡ cell r.nums (suc k) = by_ring (cell r.nums (suc k) ∷ []) (var 0 ⊗ lit (pos 1)) (var 0) refl in omega (arith, linear, low, e)) (let p = r.positive in omega (arith, linear, p)));
    }

shows_dry : (s : Sense) (r : Point) → ShowsScenario (staged s) drawn r 0 dry (scene r 0 (pos 2))
shows_dry s r = record {
  fits = refl;
  decided = below_four (λ v. is_random drawn v ≡ false → is_goal (staged s) v ≡ false → SameRatio (coordinate (scene r 0 (pos 2)) v) (coordinate r (place (staged s) drawn 0 v))) (λ h l. cc) (λ h l. refl) (λ h l. refl) (λ h l. cc);
  drawn = λ i x o at on. each_of_one (λ i x. (o : Frac × Frac) → slice_get dry i ≡ Some o → SameRatio (coordinate (scene r 0 (pos 2)) x.var.at) (ratio o.1.num o.1.den)) bound
      (λ o on. each_of_one (λ i (o : Frac × Frac). SameRatio (coordinate (scene r 0 (pos 2)) 3) (ratio o.1.num o.1.den)) (third, whole 2) (drawn_is r (pos 2)) 0 o on) i x at o on;
}

shows_wet : (s : Sense) (r : Point) → ShowsScenario (staged s) drawn r 1 wet (scene r 1 (pos 6))
shows_wet s r = record {
  fits = refl;
  decided = below_four (λ v. is_random drawn v ≡ false → is_goal (staged s) v ≡ false → SameRatio (coordinate (scene r 1 (pos 6)) v) (coordinate r (place (staged s) drawn 1 v))) (λ h l. cc) (λ h l. refl) (λ h l. refl) (λ h l. cc);
  drawn = λ i x o at on. each_of_one (λ i x. (o : Frac × Frac) → slice_get wet i ≡ Some o → SameRatio (coordinate (scene r 1 (pos 6)) x.var.at) (ratio o.1.num o.1.den)) bound
      (λ o on. each_of_one (λ i (o : Frac × Frac). SameRatio (coordinate (scene r 1 (pos 6)) 3) (ratio o.1.num o.1.den)) (two_thirds, whole 6) (drawn_is r (pos 6)) 0 o on) i x at o on;
}

feasible : (s : Sense) (r : Point) → IsWithin r → IsFeasiblePlan (staged s) drawn r
feasible s r w = record {
  count = w.count;
  each = each_of_two (λ k c. (q : Point) × ShowsScenario (staged s) drawn r k c q × IsFeasible (staged s) alone leader q) dry wet
      (scene r 0 (pos 2), shows_dry s r, scene_meets s r 0 (pos 2) w.four w.first w.two)
      (scene r 1 (pos 6), shows_wet s r, scene_meets s r 1 (pos 6) w.four w.second w.six);
}

shown : (s : Sense) (r q : Point) (k : ℕ) (c : Scenario) (v : ℕ) → ShowsScenario (staged s) drawn r k c q → v < 4 → is_random drawn v ≡ false → is_goal (staged s) v ≡ false → SameFraction (coordinate q v) (coordinate r (place (staged s) drawn k v))
shown s r q k c v h l a b = record { left = q.positive; right = r.positive; same = h.decided v l a b }

within : (s : Sense) (r : Point) → IsFeasiblePlan (staged s) drawn r → IsWithin r
within s r h = go (h.each 0 dry refl) (h.each 1 wet refl)
  where
    go : (q : Point) × ShowsScenario (staged s) drawn r 0 dry q × IsFeasible (staged s) alone leader q → (q : Point) × ShowsScenario (staged s) drawn r 1 wet q × IsFeasible (staged s) alone leader q → IsWithin r
    go (p, a, f) (q, b, g) =
        let x : SameFraction (coordinate p 1) (coordinate r 0) = shown s r p 0 dry 1 a (omega arith) refl refl in
        let y : SameFraction (coordinate p 2) (coordinate r 1) = shown s r p 0 dry 2 a (omega arith) refl refl in
        let z : SameFraction (coordinate q 1) (coordinate r 0) = shown s r q 1 wet 1 b (omega arith) refl refl in
        let w : SameFraction (coordinate q 2) (coordinate r 2) = shown s r q 1 wet 2 b (omega arith) refl refl in
        let d : SameFraction (coordinate p 3) (ratio (pos 2) (pos 1)) = record { left = p.positive; right = omega (arith, ints); same = a.drawn 0 bound (third, whole 2) refl refl } in
        let e : SameFraction (coordinate q 3) (ratio (pos 6) (pos 1)) = record { left = q.positive; right = omega (arith, ints); same = b.drawn 0 bound (two_thirds, whole 6) refl refl } in
        let four : SameFraction (ratio (pos 4) (pos 1)) (ratio (pos 4) (pos 1)) = fraction_itself (ratio (pos 4) (pos 1)) (omega (arith, ints)) in
        record {
          count = h.count;
          four = at_most_same (coordinate p 1) (coordinate r 0) (ratio (pos 4) (pos 1)) (ratio (pos 4) (pos 1)) x four (f.constraints 1 x_to_four refl refl);
          first = at_most_same (coordinate p 2) (coordinate r 1) (coordinate p 1) (coordinate r 0) y x (f.constraints 2 y_to_x refl refl);
          second = at_most_same (coordinate q 2) (coordinate r 2) (coordinate q 1) (coordinate r 0) w z (g.constraints 2 y_to_x refl refl);
          two = at_most_same (coordinate p 2) (coordinate r 1) (coordinate p 3) (ratio (pos 2) (pos 1)) y d (f.constraints 3 y_to_d refl refl);
          six = at_most_same (coordinate q 2) (coordinate r 2) (coordinate q 3) (ratio (pos 6) (pos 1)) w e (g.constraints 3 y_to_d refl refl);
        }

-- ---- what it is worth
abbrev mean : Ratio → Ratio → Ratio
mean y w = plus (times (chance dry) y) (plus (times (chance wet) w) (ratio (pos 0) (pos 1)))

same_mean : (x y z w : Ratio) → SameFraction x y → SameFraction z w → SameFraction (mean x z) (mean y w)
same_mean x y z w h k =
    let none : SameFraction (ratio (pos 0) (pos 1)) (ratio (pos 0) (pos 1)) = fraction_itself (ratio (pos 0) (pos 1)) (omega (arith, ints)) in
    let one : SameFraction (chance dry) (chance dry) = fraction_itself (chance dry) (omega (arith, ints)) in
    let two : SameFraction (chance wet) (chance wet) = fraction_itself (chance wet) (omega (arith, ints)) in
    fraction_plus (times (chance dry) x) (times (chance dry) y) (plus (times (chance wet) z) (ratio (pos 0) (pos 1))) (plus (times (chance wet) w) (ratio (pos 0) (pos 1)))
    (fraction_times (chance dry) (chance dry) x y one h)
    (fraction_plus (times (chance wet) z) (times (chance wet) w) (ratio (pos 0) (pos 1)) (ratio (pos 0) (pos 1)) (fraction_times (chance wet) (chance wet) z w two k) none)

abbrev worth_of : Point → Ratio
worth_of r = mean (coordinate r 1) (coordinate r 2)

abbrev scenes : Point → ℕ → Point
scenes r zero = scene r 0 (pos 2)
scenes r (suc k) = scene r 1 (pos 6)

has_worth : (s : Sense) (r : Point) (x : Ratio) → pos 0 <ℤ x.bottom → SameRatio x (worth_of r) → HasWorth (staged s) drawn 0 r x
has_worth s r x up same = record {
  points = scenes r;
  shown = each_of_two (λ k c. ShowsScenario (staged s) drawn r k c (scenes r k)) dry wet (shows_dry s r) (shows_wet s r);
  given = each_of_two (λ k c. (e : ℕ) (q : Equation) → slice_get (staged s).equations e ≡ Some q → defines (staged s) alone leader e ≡ true → MeetsEquation (scenes r k) q) dry wet (meets 0) (meets 1);
  fraction = up;
  worth = same;
}
  where
    meets : (k : ℕ) (e : ℕ) (q : Equation) → slice_get (staged s).equations e ≡ Some q → defines (staged s) alone leader e ≡ true → MeetsEquation (scenes r k) q
    meets zero = each_of_four (λ e c. defines (staged s) alone leader e ≡ true → MeetsEquation (scenes r 0) c) z_is_y x_to_four y_to_x y_to_d (λ h. refl) (λ h. cc) (λ h. cc) (λ h. cc)
    meets (suc k) = each_of_four (λ e c. defines (staged s) alone leader e ≡ true → MeetsEquation (scenes r (suc k)) c) z_is_y x_to_four y_to_x y_to_d (λ h. refl) (λ h. cc) (λ h. cc) (λ h. cc)

worth_is : (s : Sense) (r : Point) (x : Ratio) → HasWorth (staged s) drawn 0 r x → SameFraction x (worth_of r)
worth_is s r x h =
    let p = h.points 0 in
    let q = h.points 1 in
    let a : SameFraction (coordinate p 0) (coordinate p 2) = record { left = p.positive; right = p.positive; same = h.given 0 dry refl 0 z_is_y refl refl } in
    let b : SameFraction (coordinate q 0) (coordinate q 2) = record { left = q.positive; right = q.positive; same = h.given 1 wet refl 0 z_is_y refl refl } in
    let c : SameFraction (coordinate p 2) (coordinate r 1) = shown s r p 0 dry 2 (h.shown 0 dry refl) (omega arith) refl refl in
    let d : SameFraction (coordinate q 2) (coordinate r 2) = shown s r q 1 wet 2 (h.shown 1 wet refl) (omega arith) refl refl in
    let all = same_mean (coordinate p 0) (coordinate r 1) (coordinate q 0) (coordinate r 2) (fraction_on (coordinate p 0) (coordinate p 2) (coordinate r 1) a c) (fraction_on (coordinate q 0) (coordinate q 2) (coordinate r 2) b d) in
    fraction_on x (mean (coordinate p 0) (coordinate q 0)) (worth_of r) (record { left = h.fraction; right = all.left; same = h.worth }) all

-- p is better than q, so its worth is
better_falls : (p q : Point) → IsBetterPlan (staged Min) drawn p q → IsSmaller (worth_of p) (worth_of q)
better_falls p q (x, y, a, b, better) = smaller_same x (worth_of p) y (worth_of q) (worth_is Min p x a) (worth_is Min q y b) better

better_rises : (p q : Point) → IsBetterPlan (staged Max) drawn p q → IsSmaller (worth_of q) (worth_of p)
better_rises p q (x, y, a, b, better) = smaller_same y (worth_of q) x (worth_of p) (worth_is Max q y b) (worth_is Max p x a) better

best_within : IsWithin (plan (pos 4) (pos 2) (pos 4))
best_within = record { count = refl; four = omega (arith, ints); first = omega (arith, ints); second = omega (arith, ints); two = omega (arith, ints); six = omega (arith, ints) }

-- no plan is worth more than 10/3
at_most_best : (x y w d : ℤ) → pos 0 <ℤ d → (x *ℤ pos 1) ≤ℤ (pos 4 *ℤ d) → (w *ℤ d) ≤ℤ (x *ℤ d) → (y *ℤ pos 1) ≤ℤ (pos 2 *ℤ d) → IsSmaller (worth_of (plan (pos 4) (pos 2) (pos 4))) (mean (ratio y d) (ratio w d)) → ⊥
at_most_best x y w d up four second two more =
    let w_x : w ≤ℤ x = le_cancel_right w x d second up in
    let x_is : x *ℤ pos 1 ≡ x = by_ring (x ∷ []) (var 0 ⊗ lit (pos 1)) (var 0) refl in
    let y_is : y *ℤ pos 1 ≡ y = by_ring (y ∷ []) (var 0 ⊗ lit (pos 1)) (var 0) refl in
    let four_d : pos 4 *ℤ d ≡ d +ℤ d +ℤ d +ℤ d = by_ring (d ∷ []) (lit (pos 4) ⊗ var 0) (var 0 ⊕ var 0 ⊕ var 0 ⊕ var 0) refl in
    let two_d : pos 2 *ℤ d ≡ d +ℤ d = by_ring (d ∷ []) (lit (pos 2) ⊗ var 0) (var 0 ⊕ var 0) refl in
    let ten_d : d *ℤ pos 10 ≡ d +ℤ d +ℤ d +ℤ d +ℤ d +ℤ d +ℤ d +ℤ d +ℤ d +ℤ d = by_ring (d ∷ []) (var 0 ⊗ lit (pos 10)) (var 0 ⊕ var 0 ⊕ var 0 ⊕ var 0 ⊕ var 0 ⊕ var 0 ⊕ var 0 ⊕ var 0 ⊕ var 0 ⊕ var 0) refl in
    let sum : (y +ℤ w +ℤ w) ≤ℤ (d *ℤ pos 10) = omega (arith, linear, w_x, x_is, y_is, four_d, two_d, ten_d, four, two) in
    let up27 : pos 0 ≤ℤ (d *ℤ pos 27) = mul_nonneg d (pos 27) (omega (arith, linear, up)) (omega (arith, ints)) in
    let all : ((y +ℤ w +ℤ w) *ℤ (d *ℤ pos 27)) ≤ℤ (d *ℤ pos 10 *ℤ (d *ℤ pos 27)) = mul_le_right (y +ℤ w +ℤ w) (d *ℤ pos 10) (d *ℤ pos 27) sum up27 in
    let right : (pos 1 *ℤ y *ℤ (pos 3 *ℤ d *ℤ pos 1) +ℤ (pos 2 *ℤ w *ℤ pos 1 +ℤ pos 0 *ℤ (pos 3 *ℤ d)) *ℤ (pos 3 *ℤ d)) *ℤ pos 9 ≡ (y +ℤ w +ℤ w) *ℤ (d *ℤ pos 27) =
    by_ring (y ∷ w ∷ d ∷ []) ((lit (pos 1) ⊗ var 0 ⊗ (lit (pos 3) ⊗ var 2 ⊗ lit (pos 1)) ⊕ (lit (pos 2) ⊗ var 1 ⊗ lit (pos 1) ⊕ lit (pos 0) ⊗ (lit (pos 3) ⊗ var 2)) ⊗ (lit (pos 3) ⊗ var 2)) ⊗ lit (pos 9)) ((var 0 ⊕ var 1 ⊕ var 1) ⊗ (var 2 ⊗ lit (pos 27))) refl in
    let left : pos 30 *ℤ (pos 3 *ℤ d *ℤ (pos 3 *ℤ d *ℤ pos 1)) ≡ d *ℤ pos 10 *ℤ (d *ℤ pos 27) = by_ring (d ∷ []) (lit (pos 30) ⊗ (lit (pos 3) ⊗ var 0 ⊗ (lit (pos 3) ⊗ var 0 ⊗ lit (pos 1)))) (var 0 ⊗ lit (pos 10) ⊗ (var 0 ⊗ lit (pos 27))) refl in
    let less : (pos 30 *ℤ (pos 3 *ℤ d *ℤ (pos 3 *ℤ d *ℤ pos 1))) <ℤ ((pos 1 *ℤ y *ℤ (pos 3 *ℤ d *ℤ pos 1) +ℤ (pos 2 *ℤ w *ℤ pos 1 +ℤ pos 0 *ℤ (pos 3 *ℤ d)) *ℤ (pos 3 *ℤ d)) *ℤ pos 9) = more in
    omega (arith, linear, all, right, left, less)

pub examples_of_scenarios : ExamplesOfScenarios
examples_of_scenarios = record { order = λ a b c d. refl; product_of_chances = refl; size = refl; first_in_both = refl; second_in_first = refl; second_in_second = refl }

pub examples_of_plans : ExamplesOfPlans
examples_of_plans = record {
  feasible = feasible Max (plan (pos 4) (pos 2) (pos 4)) best_within;
  over_first = λ h. let l = (within Max (plan (pos 5) (pos 2) (pos 4)) h).four in omega (arith, ints);
  over_drawn = λ h. let l = (within Max (plan (pos 4) (pos 3) (pos 4)) h).two in omega (arith, ints);
  over_stage = λ h. let l = (within Max (plan (pos 4) (pos 2) (pos 5)) h).second in omega (arith, ints);
  one_short = λ h. let c : 2 ≡ 3 = h.count in omega arith;
  worth = has_worth Max (plan (pos 4) (pos 2) (pos 4)) (ratio (pos 10) (pos 3)) (omega (arith, ints)) refl;
  first_alone = λ h. let e = (worth_is Max (plan (pos 4) (pos 2) (pos 4)) (ratio (pos 2) (pos 3)) h).same in omega (arith, ints);
  without_chances = λ h. let e = (worth_is Max (plan (pos 4) (pos 2) (pos 4)) (ratio (pos 6) (pos 1)) h).same in omega (arith, ints);
  best = record {
    feasible = feasible Max (plan (pos 4) (pos 2) (pos 4)) best_within;
    best = λ q h better. let w = within Max q h in at_most_best (cell q.nums 0) (cell q.nums 1) (cell q.nums 2) q.den q.positive w.four w.second w.two (better_rises q (plan (pos 4) (pos 2) (pos 4)) better);
  };
  not_best = λ h. h.best (plan (pos 4) (pos 2) (pos 4)) (feasible Max (plan (pos 4) (pos 2) (pos 4)) best_within)
      (worth_of (plan (pos 4) (pos 2) (pos 4)), worth_of (plan (pos 4) (pos 2) (pos 3)), has_worth Max (plan (pos 4) (pos 2) (pos 4)) (worth_of (plan (pos 4) (pos 2) (pos 4))) (omega (arith, ints)) refl, has_worth Max (plan (pos 4) (pos 2) (pos 3)) (worth_of (plan (pos 4) (pos 2) (pos 3))) (omega (arith, ints)) refl, omega (arith, ints));
}

-- ---- steps
abbrev still : Point
still = plan (pos 0) (pos 0) (pos 0)

abbrev falling : Point
falling = plan (pos 0) (negsuc 0) (negsuc 0)

-- after t steps a coordinate that does not move is 0, and one that falls is -t
stands_at : (r : Point) (x t : ℤ) → x *ℤ pos 1 ≡ (pos 0 *ℤ pos 1 +ℤ t *ℤ pos 0 *ℤ pos 1) *ℤ r.den → x ≡ pos 0
stands_at r x t h = by_ring (x ∷ []) (var 0) (var 0 ⊗ lit (pos 1)) refl ∙ (h ∙ by_ring (t ∷ r.den ∷ []) ((lit (pos 0) ⊗ lit (pos 1) ⊕ var 0 ⊗ lit (pos 0) ⊗ lit (pos 1)) ⊗ var 1) (lit (pos 0)) refl)

falls_to : (r : Point) (x t : ℤ) → x *ℤ pos 1 ≡ (pos 0 *ℤ pos 1 +ℤ t *ℤ negsuc 0 *ℤ pos 1) *ℤ r.den → x ≡ neg_ℤ (t *ℤ r.den)
falls_to r x t h = by_ring (x ∷ []) (var 0) (var 0 ⊗ lit (pos 1)) refl ∙ (h ∙ by_ring (t ∷ r.den ∷ []) ((lit (pos 0) ⊗ lit (pos 1) ⊕ var 0 ⊗ lit (negsuc 0) ⊗ lit (pos 1)) ⊗ var 1) (neg (var 0 ⊗ var 1)) refl)

fallen_within : (t : ℕ) (r : Point) → IsPlanAfter (staged Min) drawn still falling t r → IsWithin r
fallen_within t r h =
    let x : cell r.nums 0 ≡ pos 0 = stands_at r (cell r.nums 0) (pos t) (h.moved 0 (omega arith)) in
    let y : cell r.nums 1 ≡ neg_ℤ (pos t *ℤ r.den) = falls_to r (cell r.nums 1) (pos t) (h.moved 1 (omega arith)) in
    let w : cell r.nums 2 ≡ neg_ℤ (pos t *ℤ r.den) = falls_to r (cell r.nums 2) (pos t) (h.moved 2 (omega arith)) in
    let p = r.positive in
    let d : pos 0 ≤ℤ r.den = omega (arith, linear, p) in
    let td = mul_nonneg (pos t) r.den (omega (arith, ints)) d in
    let low : (neg_ℤ (pos t *ℤ r.den) *ℤ r.den) ≤ℤ (pos 0 *ℤ r.den) = mul_le_right (neg_ℤ (pos t *ℤ r.den)) (pos 0) r.den (omega (arith, linear, td)) d in
    let one : neg_ℤ (pos t *ℤ r.den) *ℤ pos 1 ≡ neg_ℤ (pos t *ℤ r.den) = by_ring (pos t ∷ r.den ∷ []) (neg (var 0 ⊗ var 1) ⊗ lit (pos 1)) (neg (var 0 ⊗ var 1)) refl in
    let two : pos 2 *ℤ r.den ≡ r.den +ℤ r.den = by_ring (r.den ∷ []) (lit (pos 2) ⊗ var 0) (var 0 ⊕ var 0) refl in
    let six : pos 6 *ℤ r.den ≡ r.den +ℤ r.den +ℤ r.den +ℤ r.den +ℤ r.den +ℤ r.den = by_ring (r.den ∷ []) (lit (pos 6) ⊗ var 0) (var 0 ⊕ var 0 ⊕ var 0 ⊕ var 0 ⊕ var 0 ⊕ var 0) refl in
    record {
      count = h.count;
      four = subst (λ z. (z *ℤ pos 1) ≤ℤ (pos 4 *ℤ r.den)) (sym x) (mul_nonneg (pos 4) r.den (omega (arith, ints)) d);
      first = subst (λ z. (cell r.nums 1 *ℤ r.den) ≤ℤ (z *ℤ r.den)) (sym x) (subst (λ z. (z *ℤ r.den) ≤ℤ (pos 0 *ℤ r.den)) (sym y) low);
      second = subst (λ z. (cell r.nums 2 *ℤ r.den) ≤ℤ (z *ℤ r.den)) (sym x) (subst (λ z. (z *ℤ r.den) ≤ℤ (pos 0 *ℤ r.den)) (sym w) low);
      two = subst (λ z. (z *ℤ pos 1) ≤ℤ (pos 2 *ℤ r.den)) (sym y) (omega (arith, linear, one, two, d, td));
      six = subst (λ z. (z *ℤ pos 1) ≤ℤ (pos 6 *ℤ r.den)) (sym w) (omega (arith, linear, one, six, d, td));
    }

fallen_worth : (t : ℕ) (r : Point) → IsPlanAfter (staged Min) drawn still falling t r → SameFraction (worth_of r) (mean (ratio (neg_ℤ (pos t)) (pos 1)) (ratio (neg_ℤ (pos t)) (pos 1)))
fallen_worth t r h = same_mean (coordinate r 1) (ratio (neg_ℤ (pos t)) (pos 1)) (coordinate r 2) (ratio (neg_ℤ (pos t)) (pos 1)) (one (cell r.nums 1) (h.moved 1 (omega arith))) (one (cell r.nums 2) (h.moved 2 (omega arith)))
  where
    one : (x : ℤ) → x *ℤ pos 1 ≡ (pos 0 *ℤ pos 1 +ℤ pos t *ℤ negsuc 0 *ℤ pos 1) *ℤ r.den → SameFraction (ratio x r.den) (ratio (neg_ℤ (pos t)) (pos 1))
    one x e = record { left = r.positive; right = omega (arith, ints); same = e ∙ by_ring (pos t ∷ r.den ∷ []) ((lit (pos 0) ⊗ lit (pos 1) ⊕ var 0 ⊗ lit (negsuc 0) ⊗ lit (pos 1)) ⊗ var 1) (neg (var 0) ⊗ var 1) refl }

mean_falls : (s t : ℤ) → t ≡ s +ℤ pos 1 → IsSmaller (mean (ratio (neg_ℤ t) (pos 1)) (ratio (neg_ℤ t) (pos 1))) (mean (ratio (neg_ℤ s) (pos 1)) (ratio (neg_ℤ s) (pos 1)))
mean_falls s t e =
    let top : (u : ℤ) → (pos 1 *ℤ neg_ℤ u *ℤ pos 3 +ℤ (pos 2 *ℤ neg_ℤ u *ℤ pos 1 +ℤ pos 0 *ℤ pos 3) *ℤ pos 3) *ℤ pos 9 ≡ neg_ℤ (u *ℤ pos 81) =
    λ u. by_ring (u ∷ []) ((lit (pos 1) ⊗ neg (var 0) ⊗ lit (pos 3) ⊕ (lit (pos 2) ⊗ neg (var 0) ⊗ lit (pos 1) ⊕ lit (pos 0) ⊗ lit (pos 3)) ⊗ lit (pos 3)) ⊗ lit (pos 9)) (neg (var 0 ⊗ lit (pos 81))) refl in
    let more : t *ℤ pos 81 ≡ s *ℤ pos 81 +ℤ pos 81 = ap (λ z. z *ℤ pos 81) e ∙ by_ring (s ∷ []) ((var 0 ⊕ lit (pos 1)) ⊗ lit (pos 81)) (var 0 ⊗ lit (pos 81) ⊕ lit (pos 81)) refl in
    let at_t = top t in
    let at_s = top s in
    let less : ((pos 1 *ℤ neg_ℤ t *ℤ pos 3 +ℤ (pos 2 *ℤ neg_ℤ t *ℤ pos 1 +ℤ pos 0 *ℤ pos 3) *ℤ pos 3) *ℤ pos 9) <ℤ ((pos 1 *ℤ neg_ℤ s *ℤ pos 3 +ℤ (pos 2 *ℤ neg_ℤ s *ℤ pos 1 +ℤ pos 0 *ℤ pos 3) *ℤ pos 3) *ℤ pos 9) = omega (arith, linear, more, at_t, at_s) in
    less

improves : (t : ℕ) (r q : Point) → IsPlanAfter (staged Min) drawn still falling t r → IsPlanAfter (staged Min) drawn still falling (t + 1) q → IsBetterPlan (staged Min) drawn q r
improves t r q h k =
    let a = fallen_worth t r h in
    let b = fallen_worth (t + 1) q k in (
      worth_of q,
      worth_of r,
      has_worth Min q (worth_of q) b.left refl,
      has_worth Min r (worth_of r) a.left refl,
      smaller_same (mean (ratio (neg_ℤ (pos (t + 1))) (pos 1)) (ratio (neg_ℤ (pos (t + 1))) (pos 1))) (worth_of q) (mean (ratio (neg_ℤ (pos t)) (pos 1)) (ratio (neg_ℤ (pos t)) (pos 1))) (worth_of r) (fraction_back (worth_of q) (mean (ratio (neg_ℤ (pos (t + 1))) (pos 1)) (ratio (neg_ℤ (pos (t + 1))) (pos 1))) b) (fraction_back (worth_of r) (mean (ratio (neg_ℤ (pos t)) (pos 1)) (ratio (neg_ℤ (pos t)) (pos 1))) a) (mean_falls (pos t) (pos (t + 1)) (omega (arith, ints))),
    )

-- a plan of three whole numbers after one step, or none
after_none : (s : Sense) (v : Point) → IsPlanAfter (staged s) drawn still v 0 still
after_none s v = record { count = refl; moved = below_three (λ j. SameRatio (coordinate still j) (plus (coordinate still j) (times (ratio (pos 0) (pos 1)) (coordinate v j)))) (none (cell v.nums 0) v.den) (none (cell v.nums 1) v.den) (none (cell v.nums 2) v.den) }
  where
    none : (x d : ℤ) → pos 0 *ℤ (pos 1 *ℤ (pos 1 *ℤ d)) ≡ (pos 0 *ℤ (pos 1 *ℤ d) +ℤ pos 0 *ℤ x *ℤ pos 1) *ℤ pos 1
    none x d = by_ring (x ∷ d ∷ []) (lit (pos 0) ⊗ (lit (pos 1) ⊗ (lit (pos 1) ⊗ var 1))) ((lit (pos 0) ⊗ (lit (pos 1) ⊗ var 1) ⊕ lit (pos 0) ⊗ var 0 ⊗ lit (pos 1)) ⊗ lit (pos 1)) refl

after_one : (s : Sense) (x y w : ℤ) → IsPlanAfter (staged s) drawn still (plan x y w) 1 (plan x y w)
after_one s x y w = record { count = refl; moved = below_three (λ j. SameRatio (coordinate (plan x y w) j) (plus (coordinate still j) (times (ratio (pos 1) (pos 1)) (coordinate (plan x y w) j)))) (one x) (one y) (one w) }
  where
    one : (x : ℤ) → x *ℤ pos 1 ≡ (pos 0 *ℤ pos 1 +ℤ pos 1 *ℤ x *ℤ pos 1) *ℤ pos 1
    one x = by_ring (x ∷ []) (var 0 ⊗ lit (pos 1)) ((lit (pos 0) ⊗ lit (pos 1) ⊕ lit (pos 1) ⊗ var 0 ⊗ lit (pos 1)) ⊗ lit (pos 1)) refl

still_within : IsWithin still
still_within = record { count = refl; four = omega (arith, ints); first = omega (arith, ints); second = omega (arith, ints); two = omega (arith, ints); six = omega (arith, ints) }

pub examples_of_plan_rays : ExamplesOfPlanRays
examples_of_plan_rays = record {
  falls = record { start = feasible Min still still_within; feasible = λ t r h. feasible Min r (fallen_within t r h); improves = improves };
  worse = λ h. let l = better_rises falling still (h.improves 0 still falling (after_none Max falling) (after_one Max (pos 0) (negsuc 0) (negsuc 0))) in omega (arith, ints);
  leaves = λ h. let l = (within Min (plan (negsuc 0) (pos 0) (negsuc 0)) (h.feasible 1 (plan (negsuc 0) (pos 0) (negsuc 0)) (after_one Min (negsuc 0) (pos 0) (negsuc 0)))).first in omega (arith, ints);
  stands = λ h. let l = better_falls still still (h.improves 0 still still (after_none Min still) (after_one Min (pos 0) (pos 0) (pos 0))) in omega (arith, ints);
}
