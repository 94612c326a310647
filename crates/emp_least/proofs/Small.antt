-- The examples of least points and of the two systems.
use Rattle.std.proofs.Common.{◌≡◌, ◌⊎◌, inl, inr, ℕ, zero, suc, ◌<◌, ◌≤◌, ℤ, pos, negsuc, ◌+ℤ◌, ◌-ℤ◌, ◌*ℤ◌, ◌≤ℤ◌, ◌<ℤ◌, List, [], ◌∷◌, length, arith, refl, subst}
use Rattle.std.proofs.lemmas.List.Elements.{All-nil, All-cons, All-head, All-tail}
use Rattle.std.proofs.lemmas.Int.{ints}
use Rattle.emp_algebra.proofs.Ring.{var, lit, ◌⊕◌, ◌⊖◌, ◌⊗◌, by_ring}
use Rattle.emp_algebra.proofs.Order.{linear, square_nonneg}
use Rattle.emp_algebra.proofs.Vectors.{dot-scale}
use Rattle.emp_algebra.specs.Vector.{cell, dot, scale, add_rows}
use Rattle.emp_algebra.specs.Deciding.{Weighted, value_times, IsOfKind, Meets}
use Rattle.emp_systems.specs.Steps.{products, combined, IsBelow}
use Rattle.emp_systems.specs.Multipliers.{IsWithin, IsLeast}
use Rattle.emp_least.specs.Least.{IsConvex, LeastPoint}
use Rattle.emp_least.specs.Rows.{slope, level}
use Rattle.emp_least.specs.Systems.{SolvesRay, SolvesOptimum}
use Rattle.emp_least.specs.Examples.{above, bowl, valley, from_two, nowhere, to_two, at_two, ExamplesOfLeastPoints, ExamplesOfTwoSystems}
use Rattle.emp_least.proofs.TwoSystems.{ray_is_flat, ray_falls, optimum_least}

abbrev Within : ℕ → List ℤ → Type 0
Within n r = length r ≤ n

abbrev Short : ℕ → Weighted → Type 0
Short n w = length w.cells ≤ n

square_is_convex : IsConvex ((pos 1 ∷ []) ∷ [])
square_is_convex [] = omega (arith, ints)
square_is_convex (x ∷ xs) = subst (λ z. pos 0 ≤ℤ z) (by_ring (x ∷ []) (var 0 ⊗ var 0) (var 0 ⊗ (lit (pos 1) ⊗ var 0 ⊕ lit (pos 0)) ⊕ lit (pos 0)) refl) (square_nonneg x)

-- the derivative is 0 in the first coordinate alone
bowl_is_flat_at : (x : ℤ) → (pos 1 *ℤ x +ℤ pos 0) +ℤ x *ℤ pos 1 ≡ pos 0 → (negsuc 1 *ℤ x +ℤ pos 0) <ℤ pos 0 → ⊥
bowl_is_flat_at x h falls =
    let e : (pos 1 *ℤ x +ℤ pos 0) +ℤ x *ℤ pos 1 ≡ x +ℤ x = by_ring (x ∷ []) (lit (pos 1) ⊗ var 0 ⊕ lit (pos 0) ⊕ var 0 ⊗ lit (pos 1)) (var 0 ⊕ var 0) refl in
    let f : negsuc 1 *ℤ x +ℤ pos 0 ≡ pos 0 -ℤ x -ℤ x = by_ring (x ∷ []) (lit (negsuc 1) ⊗ var 0 ⊕ lit (pos 0)) (lit (pos 0) ⊖ var 0 ⊖ var 0) refl in
    omega (arith, linear, h, falls, e, f)

bowl_has_no_way : (vs : List ℤ) → ((k : ℕ) → cell (products bowl.square vs) k +ℤ cell (combined bowl.square vs) k ≡ pos 0) → dot bowl.linear vs <ℤ pos 0 → ⊥
bowl_has_no_way [] flat falls = omega (arith, ints)
bowl_has_no_way (x ∷ []) flat falls = bowl_is_flat_at x (flat 0) falls
bowl_has_no_way (x ∷ (y ∷ vs)) flat falls = bowl_is_flat_at x (flat 0) falls

bowl_within : (c : ℤ) (a : ℤ) → IsWithin 1 bowl (above c (a ∷ []) ∷ [])
bowl_within c a = record {
  linear = omega arith;
  rows = omega arith;
  cells = All-cons (Within 1) (pos 1 ∷ []) [] (omega arith) (All-nil (Within 1));
  quantities = All-cons (Short 1) (above c (a ∷ [])) [] (omega arith) (All-nil (Short 1));
}

valley_within : IsWithin 2 valley []
valley_within = record {
  linear = omega arith;
  rows = omega arith;
  cells = All-cons (Within 2) (pos 0 ∷ []) ((pos 0 ∷ pos 1 ∷ []) ∷ []) (omega arith) (All-cons (Within 2) (pos 0 ∷ pos 1 ∷ []) [] (omega arith) (All-nil (Within 2)));
  quantities = All-nil (Short 2);
}

below_one : (P : ℕ → Type 0) → P 0 → (k : ℕ) → k < 1 → P k
below_one P h zero l = h
below_one P h (suc k) l = absurd (omega arith)

below_two : (P : ℕ → Type 0) → P 0 → P 1 → (k : ℕ) → k < 2 → P k
below_two P h i zero l = h
below_two P h i (suc zero) l = i
below_two P h i (suc (suc k)) l = absurd (omega arith)

-- ---- the two systems
ray : SolvesRay (pos 1) 2 valley [] (pos 1) (negsuc 0 ∷ pos 0 ∷ [])
ray = record {
  count = refl;
  keeps = All-nil (λ w. IsOfKind w.kind (dot w.cells (negsuc 0 ∷ pos 0 ∷ [])));
  flat = below_two (λ k. dot (slope valley.square k) (negsuc 0 ∷ pos 0 ∷ []) ≡ pos 0) refl refl;
  falls = refl;
}

optimum : SolvesOptimum 1 bowl from_two (pos 1) (pos 2 ∷ []) (pos 2 ∷ [])
optimum = record {
  count = refl;
  levels = below_one (λ k. value_times (level 1 bowl from_two k).constant (level 1 bowl from_two k).cells (pos 1) (pos 2 ∷ (pos 2 ∷ [])) ≡ pos 0) refl;
  members = ((omega (arith, ints), omega (arith, ints), inr refl), refl);
}

free_of_bound : SolvesOptimum 1 bowl to_two (pos 1) (pos 1 ∷ []) (pos 0 ∷ [])
free_of_bound = record {
  count = refl;
  levels = below_one (λ k. value_times (level 1 bowl to_two k).constant (level 1 bowl to_two k).cells (pos 1) (pos 1 ∷ (pos 0 ∷ [])) ≡ pos 0) refl;
  members = ((omega (arith, ints), omega (arith, ints), inl refl), refl);
}

any_sign : SolvesOptimum 1 bowl at_two (pos 1) (pos 2 ∷ []) (negsuc 1 ∷ [])
any_sign = record {
  count = refl;
  levels = below_one (λ k. value_times (level 1 bowl at_two k).constant (level 1 bowl at_two k).cells (pos 1) (pos 2 ∷ (negsuc 1 ∷ [])) ≡ pos 0) refl;
  members = (refl, refl);
}

neither : (pos 4 ≡ pos 0) ⊎ (pos 1 ≡ pos 0) → ⊥
neither (inl e) = omega (arith, ints)
neither (inr e) = omega (arith, ints)

pub examples_of_two_systems : ExamplesOfTwoSystems
examples_of_two_systems = record {
  ray = ray;
  rises = λ s. let f : pos 2 ≡ pos 0 = s.falls in omega (arith, ints);
  not_flat = λ s. let f : pos 2 ≡ pos 0 = s.flat 1 (omega arith) in omega (arith, ints);
  leaves = λ s. let f : pos 0 ≤ℤ negsuc 0 = All-head (λ w. IsOfKind w.kind (dot w.cells (negsuc 0 ∷ pos 0 ∷ []))) (above (pos 0) (pos 1 ∷ [])) [] s.keeps in omega (arith, ints);
  one_short = λ s. let c : 1 ≡ 2 = s.count in omega arith;
  over_two = λ s. let f : pos 1 ≡ pos 0 = s.falls in omega (arith, ints);
  optimum = optimum;
  free_of_bound = free_of_bound;
  any_sign = any_sign;
  below = λ s. let f : pos 0 ≤ℤ negsuc 0 = s.members.0.1 in omega (arith, ints);
  slack = λ s. neither s.members.0.2;
  not_level = λ s. let f : pos 1 ≡ pos 0 = s.levels 0 (omega arith) in omega (arith, ints);
  wrong_sign = λ s. let f : pos 0 ≤ℤ negsuc 1 = s.members.0.0 in omega (arith, ints);
  no_multiplier = λ s. absurd s.members;
}

-- ---- least points and ways
least_at_two : IsLeast 1 bowl from_two (pos 1) (pos 2 ∷ [])
least_at_two = (optimum_least 1 bowl from_two (pos 1) (pos 2 ∷ []) (pos 2 ∷ []) (bowl_within (negsuc 1) (pos 1)) square_is_convex (omega (arith, ints)) optimum).1

meets_two : Meets from_two (pos 1) (pos 2 ∷ [])
meets_two = (optimum_least 1 bowl from_two (pos 1) (pos 2 ∷ []) (pos 2 ∷ []) (bowl_within (negsuc 1) (pos 1)) square_is_convex (omega (arith, ints)) optimum).0

valley_falls : LeastPoint 2 valley [] → ⊥
valley_falls l = go (ray_falls (pos 1) 2 valley [] (pos 1) (negsuc 0 ∷ pos 0 ∷ []) (omega (arith, ints)) valley_within (omega (arith, ints)) ray l.den l.nums l.positive l.count l.meets)
  where
    go : (pos 0 <ℤ (pos 1 *ℤ l.den)) × (length (add_rows (scale (pos 1) l.nums) (scale l.den (negsuc 0 ∷ pos 0 ∷ []))) ≡ 2) × Meets [] (pos 1 *ℤ l.den) (add_rows (scale (pos 1) l.nums) (scale l.den (negsuc 0 ∷ pos 0 ∷ []))) × IsBelow valley (pos 1 *ℤ l.den) (add_rows (scale (pos 1) l.nums) (scale l.den (negsuc 0 ∷ pos 0 ∷ []))) l.den l.nums → ⊥
    go (p, c, m, b) = let most = l.least (pos 1 *ℤ l.den) (add_rows (scale (pos 1) l.nums) (scale l.den (negsuc 0 ∷ pos 0 ∷ []))) p c m in omega (arith, linear, most, b)

nowhere_met : (d : ℤ) (xs : List ℤ) → pos 0 <ℤ d → Meets nowhere d xs → ⊥
nowhere_met d xs p m =
    let up : pos 0 ≤ℤ (negsuc 1 *ℤ d +ℤ dot (pos 1 ∷ []) xs) = All-head (λ w. IsOfKind w.kind (value_times w.constant w.cells d xs)) (above (negsuc 1) (pos 1 ∷ [])) (above (pos 0) (negsuc 0 ∷ []) ∷ []) m in
    let down : pos 0 ≤ℤ (pos 0 *ℤ d +ℤ dot (negsuc 0 ∷ []) xs) = All-head (λ w. IsOfKind w.kind (value_times w.constant w.cells d xs)) (above (pos 0) (negsuc 0 ∷ [])) [] (All-tail (λ w. IsOfKind w.kind (value_times w.constant w.cells d xs)) (above (negsuc 1) (pos 1 ∷ [])) (above (pos 0) (negsuc 0 ∷ []) ∷ []) m) in
    let turned : dot (negsuc 0 ∷ []) xs ≡ negsuc 0 *ℤ dot (pos 1 ∷ []) xs = dot-scale (negsuc 0) (pos 1 ∷ []) xs in
    let sum : (negsuc 1 *ℤ d +ℤ dot (pos 1 ∷ []) xs) +ℤ (pos 0 *ℤ d +ℤ negsuc 0 *ℤ dot (pos 1 ∷ []) xs) ≡ pos 0 -ℤ d -ℤ d = by_ring (d ∷ dot (pos 1 ∷ []) xs ∷ []) (lit (negsuc 1) ⊗ var 0 ⊕ var 1 ⊕ (lit (pos 0) ⊗ var 0 ⊕ lit (negsuc 0) ⊗ var 1)) (lit (pos 0) ⊖ var 0 ⊖ var 0) refl in
    omega (arith, linear, p, up, down, turned, sum)

pub examples_of_least_points : ExamplesOfLeastPoints
examples_of_least_points = record {
  square_is_convex = square_is_convex;
  negated_is_not = λ c. let f : pos 0 ≤ℤ negsuc 0 = c (pos 1 ∷ []) in omega (arith, ints);
  product_is_not = λ c. let f : pos 0 ≤ℤ negsuc 0 = c (pos 1 ∷ negsuc 0 ∷ []) in omega (arith, ints);
  bowl_has_least = record { den = pos 1; nums = pos 2 ∷ []; positive = omega (arith, ints); count = refl; meets = meets_two; least = least_at_two };
  bowl_has_no_way = λ v. bowl_has_no_way v.step v.flat v.falls;
  least_at_two = least_at_two;
  not_at_three = λ l. let f : pos 3 ≤ℤ pos 0 = l (pos 1) (pos 2 ∷ []) (omega (arith, ints)) refl meets_two in omega (arith, ints);
  nowhere_has_none = λ l. nowhere_met l.den l.nums l.positive l.meets;
  valley_has_way = record { step = negsuc 0 ∷ pos 0 ∷ []; count = refl; keeps = All-nil (λ w. IsOfKind w.kind (dot w.cells (negsuc 0 ∷ pos 0 ∷ []))); flat = ray_is_flat (pos 1) 2 valley [] (pos 1) (negsuc 0 ∷ pos 0 ∷ []) valley_within ray; falls = omega (arith, ints) };
  valley_has_no_least = valley_falls;
  bounded_has_no_way = λ v. let k : pos 0 ≤ℤ dot (pos 1 ∷ []) v.step = All-head (λ w. IsOfKind w.kind (dot w.cells v.step)) (above (pos 0) (pos 1 ∷ [])) [] v.keeps in let f = v.falls in omega (arith, linear, k, f);
}
