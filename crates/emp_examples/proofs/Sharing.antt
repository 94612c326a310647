-- The examples of an equation that two blocks list.
use Rattle.std.proofs.Common.{◌≡◌, ℕ, ◌<◌, inl, ℤ, pos, negsuc, neg_ℤ, ◌+ℤ◌, ◌-ℤ◌, ◌*ℤ◌, ◌<ℤ◌, ◌≤ℤ◌, true, false, List, [], ◌∷◌, Some, arith, refl, ap, ◌∙◌}
use Rattle.std.specs.List.{slice_get}
use Rattle.std.proofs.lemmas.Int.{ints}
use lib.IntN.{+ℤ_comm}
use Rattle.emp_algebra.proofs.Laws.{mul_nonneg, mul_pos}
use Rattle.emp_algebra.proofs.Order.{linear, le_cancel_right, mul_le_right}
use Rattle.emp_algebra.proofs.Ring.{var, lit, neg, ◌⊕◌, ◌⊖◌, ◌⊗◌, by_ring}
use Rattle.emp_algebra.specs.Vector.{cell}
use Rattle.emp_num.specs.Ratio.{ratio, SameRatio}
use Rattle.emp_num.specs.Point.{Point, coordinate}
use Rattle.emp_ast.specs.declared.tree.EquId.{EquId}
use Rattle.emp_ast.specs.declared.model.Equation.{Equation}
use Rattle.emp_ast.specs.Meets.{MeetsEquation, MeetsBounds}
use Rattle.emp_ast.specs.Parties.{block, owns, is_constraint}
use Rattle.emp_ast.specs.Rivals.{Fits, IsDeviation}
use Rattle.emp_ast.specs.Solved.{IsSolved, sides_gap}
use Rattle.emp_ast.specs.Multipliers.{IsMultiplier, AreMultipliers}
use Rattle.emp_ast.specs.Equilibrium.{is_priced, IsEquilibrium}
use Rattle.emp_examples.specs.Small.{free, equ, whole_point}
use Rattle.emp_examples.specs.Multipliers.{all_are}
use Rattle.emp_examples.specs.Sharing.{ExamplesOfSharing, shared_sum, sharing, sharing_by}
use Rattle.emp_examples.proofs.Short.{each_of_two, each_of_three, below_two, le_by, from_zero}

-- ---- the sum of the coordinates where the other one is o
total : (r s o d : ℤ) → s *ℤ pos 1 ≡ o *ℤ d → r *ℤ d +ℤ s *ℤ d ≡ r *ℤ d +ℤ o *ℤ d *ℤ d
total r s o d h = let e : s ≡ o *ℤ d = by_ring (s ∷ []) (var 0) (var 0 ⊗ lit (pos 1)) refl ∙ h in ap (λ z. r *ℤ d +ℤ z *ℤ d) e

-- at least 3 in all is at least n of one's own
own_up : (n o r t d : ℤ) → pos 0 <ℤ d → n +ℤ o ≡ pos 3 → t ≡ r *ℤ d +ℤ o *ℤ d *ℤ d → (pos 3 *ℤ (d *ℤ d)) ≤ℤ (t *ℤ pos 1) → (n *ℤ d) ≤ℤ r
own_up n o r t d up parts e h =
    let three : n *ℤ d *ℤ d +ℤ o *ℤ d *ℤ d ≡ pos 3 *ℤ (d *ℤ d) = by_ring (n ∷ o ∷ d ∷ []) (var 0 ⊗ var 2 ⊗ var 2 ⊕ var 1 ⊗ var 2 ⊗ var 2) ((var 0 ⊕ var 1) ⊗ (var 2 ⊗ var 2)) refl ∙ ap (λ z. z *ℤ (d *ℤ d)) parts in
    let one : t *ℤ pos 1 ≡ t = by_ring (t ∷ []) (var 0 ⊗ lit (pos 1)) (var 0) refl in
    le_cancel_right (n *ℤ d) r d (omega (arith, linear)) up

-- a function f at least 0 times a move up
flow_up : (f r m d b : ℤ) → pos 0 ≤ℤ f → pos 0 ≤ℤ (r *ℤ pos 1 +ℤ m *ℤ d) → pos 0 ≤ℤ (f *ℤ (r *ℤ pos 1 +ℤ m *ℤ d) *ℤ pos 1 +ℤ pos 0 *ℤ b)
flow_up f r m d b h k =
    let e : f *ℤ (r *ℤ pos 1 +ℤ m *ℤ d) *ℤ pos 1 +ℤ pos 0 *ℤ b ≡ f *ℤ (r *ℤ pos 1 +ℤ m *ℤ d) = by_ring (f ∷ r ∷ m ∷ d ∷ b ∷ []) (var 0 ⊗ (var 1 ⊗ lit (pos 1) ⊕ var 2 ⊗ var 3) ⊗ lit (pos 1) ⊕ lit (pos 0) ⊗ var 4) (var 0 ⊗ (var 1 ⊗ lit (pos 1) ⊕ var 2 ⊗ var 3)) refl in
    omega (arith, linear, mul_nonneg f (r *ℤ pos 1 +ℤ m *ℤ d) h k)

-- where the multiplier is the function, u, the lagrangian is u*(3 - o) at each free point
level : (u o r t d : ℤ) → t ≡ r *ℤ d +ℤ o *ℤ d *ℤ d → (u *ℤ (pos 3 -ℤ o) *ℤ (pos 1 *ℤ d *ℤ pos 1 *ℤ (pos 1 *ℤ (d *ℤ d *ℤ pos 1) *ℤ pos 1))) ≤ℤ (((u *ℤ r *ℤ pos 1 +ℤ pos 0 *ℤ (pos 1 *ℤ d)) *ℤ (pos 1 *ℤ (d *ℤ d *ℤ pos 1) *ℤ pos 1) +ℤ neg_ℤ (u *ℤ (t *ℤ pos 1 +ℤ negsuc 2 *ℤ (d *ℤ d)) *ℤ pos 1 +ℤ pos 0 *ℤ (pos 1 *ℤ (d *ℤ d *ℤ pos 1))) *ℤ (pos 1 *ℤ d *ℤ pos 1)) *ℤ pos 1)
level u o r t d e =
    le_by (u *ℤ r *ℤ d *ℤ d +ℤ pos 3 *ℤ u *ℤ d *ℤ d *ℤ d) (pos 0) (pos 1) (omega (arith, ints)) (ap (λ z. neg_ℤ u *ℤ d *ℤ z) e)
    (by_ring (u ∷ r ∷ t ∷ d ∷ [])
    (((var 0 ⊗ var 1 ⊗ lit (pos 1) ⊕ lit (pos 0) ⊗ (lit (pos 1) ⊗ var 3)) ⊗ (lit (pos 1) ⊗ (var 3 ⊗ var 3 ⊗ lit (pos 1)) ⊗ lit (pos 1)) ⊕ neg (var 0 ⊗ (var 2 ⊗ lit (pos 1) ⊕ lit (negsuc 2) ⊗ (var 3 ⊗ var 3)) ⊗ lit (pos 1) ⊕ lit (pos 0) ⊗ (lit (pos 1) ⊗ (var 3 ⊗ var 3 ⊗ lit (pos 1)))) ⊗ (lit (pos 1) ⊗ var 3 ⊗ lit (pos 1))) ⊗ lit (pos 1) ⊗ lit (pos 1))
    (neg (var 0) ⊗ var 3 ⊗ var 2 ⊕ (var 0 ⊗ var 1 ⊗ var 3 ⊗ var 3 ⊕ lit (pos 3) ⊗ var 0 ⊗ var 3 ⊗ var 3 ⊗ var 3))
    refl)
    (by_ring (u ∷ o ∷ r ∷ d ∷ [])
    (neg (var 0) ⊗ var 3 ⊗ (var 2 ⊗ var 3 ⊕ var 1 ⊗ var 3 ⊗ var 3) ⊕ (var 0 ⊗ var 2 ⊗ var 3 ⊗ var 3 ⊕ lit (pos 3) ⊗ var 0 ⊗ var 3 ⊗ var 3 ⊗ var 3))
    (var 0 ⊗ (lit (pos 3) ⊖ var 1) ⊗ (lit (pos 1) ⊗ var 3 ⊗ lit (pos 1) ⊗ (lit (pos 1) ⊗ (var 3 ⊗ var 3 ⊗ lit (pos 1)) ⊗ lit (pos 1))) ⊗ lit (pos 1) ⊕ lit (pos 0))
    refl)
    (omega (arith, ints))

-- ---- free points and rivals
first_deviation : (vs : List EquId) (p r : Point) → Fits sharing r → SameRatio (coordinate r 1) (coordinate p 1) → IsDeviation sharing (sharing_by vs) (block 0) p r
first_deviation vs p r fits same = record {
  fits = fits;
  others = below_two (λ v. owns sharing (sharing_by vs) (block 0) v ≡ false → SameRatio (coordinate r v) (coordinate p v)) (λ own. cc) (λ own. same);
  bounds = each_of_two (λ v x. owns sharing (sharing_by vs) (block 0) v ≡ true → MeetsBounds r v x) free free (λ own. (tt, tt)) (λ own. (tt, tt));
  definition = λ e q at h. cc;
}

second_deviation : (vs : List EquId) (p r : Point) → Fits sharing r → SameRatio (coordinate r 0) (coordinate p 0) → IsDeviation sharing (sharing_by vs) (block 1) p r
second_deviation vs p r fits same = record {
  fits = fits;
  others = below_two (λ v. owns sharing (sharing_by vs) (block 1) v ≡ false → SameRatio (coordinate r v) (coordinate p v)) (λ own. same) (λ own. cc);
  bounds = each_of_two (λ v x. owns sharing (sharing_by vs) (block 1) v ≡ true → MeetsBounds r v x) free free (λ own. (tt, tt)) (λ own. (tt, tt));
  definition = λ e q at h. cc;
}

-- what holds of k holds of each constraint
of_first : (vs : List EquId) (P : ℕ → Equation → Type 0) → P 2 shared_sum → (e : ℕ) (q : Equation) → slice_get sharing.equations e ≡ Some q → is_constraint sharing (sharing_by vs) (block 0) e ≡ true → P e q
of_first vs P h = each_of_three (λ e q. is_constraint sharing (sharing_by vs) (block 0) e ≡ true → P e q) _ _ shared_sum (λ l. cc) (λ l. cc) (λ l. h)

of_second : (vs : List EquId) (P : ℕ → Equation → Type 0) → P 2 shared_sum → (e : ℕ) (q : Equation) → slice_get sharing.equations e ≡ Some q → is_constraint sharing (sharing_by vs) (block 1) e ≡ true → P e q
of_second vs P h = each_of_three (λ e q. is_constraint sharing (sharing_by vs) (block 1) e ≡ true → P e q) _ _ shared_sum (λ l. cc) (λ l. cc) (λ l. h)

-- ---- the two points
left_point : Point
left_point = whole_point (pos 1 ∷ pos 2 ∷ [])

right_point : Point
right_point = whole_point (pos 2 ∷ pos 1 ∷ [])

left_solved : (vs : List EquId) (k : ℕ) → k < 2 → IsSolved sharing (sharing_by vs) k left_point
unfolding left_point
left_solved vs = let p = left_point in below_two (λ k. IsSolved sharing (sharing_by vs) k p)
    (record {
      feasible = record { deviation = first_deviation vs p p refl refl; constraints = of_first vs (λ e q. MeetsEquation p q) (omega (arith, ints)) };
      best = λ r h.
          let x = cell r.nums 0 in
          let y = cell r.nums 1 in
          let low : (pos 1 *ℤ r.den) ≤ℤ x = own_up (pos 1) (pos 2) x (x *ℤ r.den +ℤ y *ℤ r.den) r.den r.positive refl (total x y (pos 2) r.den (h.deviation.others 1 (omega arith) refl)) (h.constraints 2 shared_sum refl refl) in
          from_zero _ (pos 1 *ℤ (r.den *ℤ pos 1) *ℤ pos 1) (flow_up (pos 1) x (negsuc 0) r.den (pos 1 *ℤ (r.den *ℤ pos 1)) (omega (arith, ints)) (omega (arith, ints)));
    })
    (record {
      feasible = record { deviation = second_deviation vs p p refl refl; constraints = of_second vs (λ e q. MeetsEquation p q) (omega (arith, ints)) };
      best = λ r h.
          let x = cell r.nums 0 in
          let y = cell r.nums 1 in
          let low : (pos 2 *ℤ r.den) ≤ℤ y = own_up (pos 2) (pos 1) y (x *ℤ r.den +ℤ y *ℤ r.den) r.den r.positive refl (+ℤ_comm (x *ℤ r.den) (y *ℤ r.den) ∙ total y x (pos 1) r.den (h.deviation.others 0 (omega arith) refl)) (h.constraints 2 shared_sum refl refl) in
          from_zero _ (pos 1 *ℤ (r.den *ℤ pos 1) *ℤ pos 1) (flow_up (pos 4) y (negsuc 1) r.den (pos 1 *ℤ (r.den *ℤ pos 1)) (omega (arith, ints)) (omega (arith, ints)));
    })

right_solved : (vs : List EquId) (k : ℕ) → k < 2 → IsSolved sharing (sharing_by vs) k right_point
unfolding right_point
right_solved vs = let p = right_point in below_two (λ k. IsSolved sharing (sharing_by vs) k p)
    (record {
      feasible = record { deviation = first_deviation vs p p refl refl; constraints = of_first vs (λ e q. MeetsEquation p q) (omega (arith, ints)) };
      best = λ r h.
          let x = cell r.nums 0 in
          let y = cell r.nums 1 in
          let low : (pos 2 *ℤ r.den) ≤ℤ x = own_up (pos 2) (pos 1) x (x *ℤ r.den +ℤ y *ℤ r.den) r.den r.positive refl (total x y (pos 1) r.den (h.deviation.others 1 (omega arith) refl)) (h.constraints 2 shared_sum refl refl) in
          from_zero _ (pos 1 *ℤ (r.den *ℤ pos 1) *ℤ pos 1) (flow_up (pos 2) x (negsuc 1) r.den (pos 1 *ℤ (r.den *ℤ pos 1)) (omega (arith, ints)) (omega (arith, ints)));
    })
    (record {
      feasible = record { deviation = second_deviation vs p p refl refl; constraints = of_second vs (λ e q. MeetsEquation p q) (omega (arith, ints)) };
      best = λ r h.
          let x = cell r.nums 0 in
          let y = cell r.nums 1 in
          let low : (pos 1 *ℤ r.den) ≤ℤ y = own_up (pos 1) (pos 2) y (x *ℤ r.den +ℤ y *ℤ r.den) r.den r.positive refl (+ℤ_comm (x *ℤ r.den) (y *ℤ r.den) ∙ total y x (pos 2) r.den (h.deviation.others 0 (omega arith) refl)) (h.constraints 2 shared_sum refl refl) in
          from_zero _ (pos 1 *ℤ (r.den *ℤ pos 1) *ℤ pos 1) (flow_up (pos 2) y (negsuc 0) r.den (pos 1 *ℤ (r.den *ℤ pos 1)) (omega (arith, ints)) (omega (arith, ints)));
    })

-- ---- multipliers
first_multipliers : (vs : List EquId) → AreMultipliers sharing (sharing_by vs) 0 left_point (all_are (pos 1))
unfolding left_point
first_multipliers vs = record {
  among = first_deviation vs left_point left_point refl refl;
  each = of_first vs (λ e q. IsMultiplier q.relation (sides_gap left_point q) (all_are (pos 1) e)) (record { fraction = omega (arith, ints); sign = omega (arith, ints); complementary = inl refl });
  least = λ r h. level (pos 1) (pos 2) (cell r.nums 0) (cell r.nums 0 *ℤ r.den +ℤ cell r.nums 1 *ℤ r.den) r.den (total (cell r.nums 0) (cell r.nums 1) (pos 2) r.den (h.others 1 (omega arith) refl));
}

second_multipliers : (vs : List EquId) → AreMultipliers sharing (sharing_by vs) 1 left_point (all_are (pos 4))
unfolding left_point
second_multipliers vs = record {
  among = second_deviation vs left_point left_point refl refl;
  each = of_second vs (λ e q. IsMultiplier q.relation (sides_gap left_point q) (all_are (pos 4) e)) (record { fraction = omega (arith, ints); sign = omega (arith, ints); complementary = inl refl });
  least = λ r h. level (pos 4) (pos 1) (cell r.nums 1) (cell r.nums 0 *ℤ r.den +ℤ cell r.nums 1 *ℤ r.den) r.den (+ℤ_comm (cell r.nums 0 *ℤ r.den) (cell r.nums 1 *ℤ r.den) ∙ total (cell r.nums 1) (cell r.nums 0) (pos 1) r.den (h.others 0 (omega arith) refl));
}

common_multipliers : (vs : List EquId) (k : ℕ) → k < 2 → AreMultipliers sharing (sharing_by vs) k right_point (all_are (pos 2))
unfolding right_point
common_multipliers vs = below_two (λ k. AreMultipliers sharing (sharing_by vs) k right_point (all_are (pos 2)))
    (record {
      among = first_deviation vs right_point right_point refl refl;
      each = of_first vs (λ e q. IsMultiplier q.relation (sides_gap right_point q) (all_are (pos 2) e)) (record { fraction = omega (arith, ints); sign = omega (arith, ints); complementary = inl refl });
      least = λ r h. level (pos 2) (pos 1) (cell r.nums 0) (cell r.nums 0 *ℤ r.den +ℤ cell r.nums 1 *ℤ r.den) r.den (total (cell r.nums 0) (cell r.nums 1) (pos 1) r.den (h.others 1 (omega arith) refl));
    })
    (record {
      among = second_deviation vs right_point right_point refl refl;
      each = of_second vs (λ e q. IsMultiplier q.relation (sides_gap right_point q) (all_are (pos 2) e)) (record { fraction = omega (arith, ints); sign = omega (arith, ints); complementary = inl refl });
      least = λ r h. level (pos 2) (pos 2) (cell r.nums 1) (cell r.nums 0 *ℤ r.den +ℤ cell r.nums 1 *ℤ r.den) r.den (+ℤ_comm (cell r.nums 0 *ℤ r.den) (cell r.nums 1 *ℤ r.den) ∙ total (cell r.nums 1) (cell r.nums 0) (pos 2) r.den (h.others 0 (omega arith) refl));
    })

-- ---- no common multiplier
shift_by : {l r : ℤ} (lower upper k : ℤ) → l ≤ℤ r → l ≡ lower +ℤ k → r ≡ upper +ℤ k → lower ≤ℤ upper
shift_by lower upper k h e f = omega (arith, linear)

-- what a free point with purpose b and gap g says of a multiplier t over n that leaves p, with purpose a and gap 0, least
bound_of : (a b g t n : ℤ) → pos 0 <ℤ n → ((a *ℤ (n *ℤ pos 1 *ℤ pos 1) +ℤ neg_ℤ (t *ℤ pos 0 *ℤ pos 1 +ℤ pos 0 *ℤ (n *ℤ pos 1)) *ℤ pos 1) *ℤ (pos 1 *ℤ (n *ℤ pos 1 *ℤ pos 1))) ≤ℤ ((b *ℤ (n *ℤ pos 1 *ℤ pos 1) +ℤ neg_ℤ (t *ℤ g *ℤ pos 1 +ℤ pos 0 *ℤ (n *ℤ pos 1)) *ℤ pos 1) *ℤ (pos 1 *ℤ (n *ℤ pos 1 *ℤ pos 1))) → (t *ℤ g) ≤ℤ ((b -ℤ a) *ℤ n)
bound_of a b g t n up h =
    le_cancel_right (t *ℤ g) ((b -ℤ a) *ℤ n) n
    (shift_by (t *ℤ g *ℤ n) ((b -ℤ a) *ℤ n *ℤ n) (a *ℤ n *ℤ n -ℤ t *ℤ g *ℤ n) h
    (by_ring (a ∷ g ∷ t ∷ n ∷ [])
    ((var 0 ⊗ (var 3 ⊗ lit (pos 1) ⊗ lit (pos 1)) ⊕ neg (var 2 ⊗ lit (pos 0) ⊗ lit (pos 1) ⊕ lit (pos 0) ⊗ (var 3 ⊗ lit (pos 1))) ⊗ lit (pos 1)) ⊗ (lit (pos 1) ⊗ (var 3 ⊗ lit (pos 1) ⊗ lit (pos 1))))
    (var 2 ⊗ var 1 ⊗ var 3 ⊕ (var 0 ⊗ var 3 ⊗ var 3 ⊖ var 2 ⊗ var 1 ⊗ var 3))
    refl)
    (by_ring (a ∷ b ∷ g ∷ t ∷ n ∷ [])
    ((var 1 ⊗ (var 4 ⊗ lit (pos 1) ⊗ lit (pos 1)) ⊕ neg (var 3 ⊗ var 2 ⊗ lit (pos 1) ⊕ lit (pos 0) ⊗ (var 4 ⊗ lit (pos 1))) ⊗ lit (pos 1)) ⊗ (lit (pos 1) ⊗ (var 4 ⊗ lit (pos 1) ⊗ lit (pos 1))))
    ((var 1 ⊖ var 0) ⊗ var 4 ⊗ var 4 ⊕ (var 0 ⊗ var 4 ⊗ var 4 ⊖ var 3 ⊗ var 2 ⊗ var 4))
    refl))
    up

-- a number at most 1 is none at least 4
not_same : (s m t n : ℤ) → pos 0 <ℤ m → pos 0 <ℤ n → (s *ℤ pos 1) ≤ℤ (pos 1 *ℤ m) → (t *ℤ negsuc 0) ≤ℤ (negsuc 3 *ℤ n) → s *ℤ n ≡ t *ℤ m → ⊥
not_same s m t n up_m up_n small large same =
    let a : (s *ℤ n) ≤ℤ (m *ℤ n) = mul_le_right s m n (omega (arith, ints)) (omega (arith, ints)) in
    let b : (pos 4 *ℤ n *ℤ m) ≤ℤ (t *ℤ m) = mul_le_right (pos 4 *ℤ n) t m (omega (arith, ints)) (omega (arith, ints)) in
    let e : pos 4 *ℤ n *ℤ m ≡ m *ℤ n +ℤ m *ℤ n +ℤ m *ℤ n +ℤ m *ℤ n = by_ring (m ∷ n ∷ []) (lit (pos 4) ⊗ var 1 ⊗ var 0) (var 0 ⊗ var 1 ⊕ var 0 ⊗ var 1 ⊕ var 0 ⊗ var 1 ⊕ var 0 ⊗ var 1) refl in
    omega (arith, linear, mul_pos m n up_m up_n)

no_common : IsEquilibrium sharing (sharing_by (equ 2 ∷ [])) left_point → ⊥
unfolding left_point
no_common h =
    let vs = equ 2 ∷ [] in
    let s = h.choice 0 2 in
    let t = h.choice 1 2 in
    let first = h.prices.multipliers 0 (omega arith) refl in
    let second = h.prices.multipliers 1 (omega arith) refl in
    let s_up = (first.each 2 shared_sum refl refl).fraction in
    let t_up = (second.each 2 shared_sum refl refl).fraction in
    let small = bound_of (pos 1) (pos 2) (pos 1) s.top s.bottom s_up (first.least (whole_point (pos 2 ∷ pos 2 ∷ [])) (first_deviation vs left_point (whole_point (pos 2 ∷ pos 2 ∷ [])) refl refl)) in
    let large = bound_of (pos 8) (pos 4) (negsuc 0) t.top t.bottom t_up (second.least (whole_point (pos 1 ∷ pos 1 ∷ [])) (second_deviation vs left_point (whole_point (pos 1 ∷ pos 1 ∷ [])) refl refl)) in
    not_same s.top s.bottom t.top t.bottom s_up t_up small large (h.prices.shared 0 1 2 (omega arith) (omega arith) refl refl refl)

pub examples_of_sharing : ExamplesOfSharing
unfolding left_point right_point
examples_of_sharing = record {
  apart = record {
    fits = refl;
    solved = left_solved [];
    choice = λ k e. ratio (pos 0) (pos 1);
    prices = record {
      multipliers = below_two (λ k. is_priced sharing (sharing_by []) k ≡ true → AreMultipliers sharing (sharing_by []) k left_point (λ e. ratio (pos 0) (pos 1))) (λ h. cc) (λ h. cc);
      duals = λ k i d within at h. cc;
      shared = λ j k e at_j at_k named h l. cc;
    };
  };
  first_has_one = first_multipliers [];
  second_has_four = second_multipliers [];
  no_common_one = no_common;
  common_two = record {
    fits = refl;
    solved = right_solved (equ 2 ∷ []);
    choice = λ k. all_are (pos 2);
    prices = record {
      multipliers = λ k within priced. common_multipliers (equ 2 ∷ []) k within;
      duals = λ k i d within at h. cc;
      shared = λ j k e at_j at_k named h l. refl;
    };
  };
}
