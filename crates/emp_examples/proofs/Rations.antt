-- The examples of two agents under one sum.
use Rattle.std.proofs.Common.{◌≡◌, ℕ, ◌<◌, inl, ℤ, pos, negsuc, neg_ℤ, ◌+ℤ◌, ◌-ℤ◌, ◌*ℤ◌, ◌<ℤ◌, ◌≤ℤ◌, true, false, [], ◌∷◌, Some, arith, refl, ap, ap₂, ◌∙◌}
use Rattle.std.specs.List.{slice_get}
use Rattle.std.proofs.lemmas.Int.{ints}
use lib.IntN.{+ℤ_comm}
use Rattle.emp_algebra.proofs.Laws.{mul_nonneg, mul_pos}
use Rattle.emp_algebra.proofs.Order.{linear, square_nonneg, le_cancel_right}
use Rattle.emp_algebra.proofs.Ring.{var, lit, neg, ◌⊕◌, ◌⊖◌, ◌⊗◌, by_ring}
use Rattle.emp_algebra.specs.Vector.{cell}
use Rattle.emp_num.specs.Ratio.{ratio, SameRatio}
use Rattle.emp_num.specs.Point.{Point, coordinate}
use Rattle.emp_ast.specs.declared.model.Equation.{Equation}
use Rattle.emp_ast.specs.declared.model.Variable.{Variable}
use Rattle.emp_ast.specs.Meets.{MeetsEquation, MeetsBounds}
use Rattle.emp_ast.specs.Parties.{block, owns, defines, is_constraint}
use Rattle.emp_ast.specs.Rivals.{Fits, IsDeviation}
use Rattle.emp_ast.specs.Solved.{IsSolved, sides_gap}
use Rattle.emp_ast.specs.Multipliers.{IsMultiplier, AreMultipliers}
use Rattle.emp_ast.proofs.Fractions.{to_nought}
use Rattle.emp_examples.specs.Small.{free, equ, var as variable_of, whole_point}
use Rattle.emp_examples.specs.Multipliers.{all_are}
use Rattle.emp_examples.specs.Sharing.{ExamplesOfRations, shifted_square, sum_to_two, rationed, rationed_by}
use Rattle.emp_examples.proofs.Short.{each_of_one, each_of_three, each_of_five, below_two, below_five, le_by, below_not_above}

no_bounds : (k : ℕ) (r : Point) (v : ℕ) (x : Variable) → slice_get rationed.variables v ≡ Some x → owns rationed rationed_by (block k) v ≡ true → MeetsBounds r v x
no_bounds k r = each_of_five (λ v x. owns rationed rationed_by (block k) v ≡ true → MeetsBounds r v x) free free free free free (λ own. (tt, tt)) (λ own. (tt, tt)) (λ own. (tt, tt)) (λ own. (tt, tt)) (λ own. (tt, tt))

even_point : Point
even_point = whole_point (pos 1 ∷ pos 1 ∷ pos 1 ∷ pos 1 ∷ negsuc 1 ∷ [])

-- an agent's least value of w where w = (v - 2)^2 and v is at most 1
least_a : (w v d : ℤ) → pos 0 <ℤ d → w *ℤ (d *ℤ pos 1 *ℤ (d *ℤ pos 1 *ℤ pos 1)) ≡ (v *ℤ pos 1 +ℤ negsuc 1 *ℤ d) *ℤ ((v *ℤ pos 1 +ℤ negsuc 1 *ℤ d) *ℤ pos 1) *ℤ d → v ≤ℤ d → (pos 1 *ℤ d) ≤ℤ (w *ℤ pos 1)
least_a w v d up h below =
    le_by (pos 0) (d *ℤ ((d -ℤ v) *ℤ (d +ℤ d +ℤ d -ℤ v))) (d *ℤ d) (mul_pos d d up up) h
    (by_ring (w ∷ d ∷ []) (var 0 ⊗ lit (pos 1) ⊗ (var 1 ⊗ var 1)) (var 0 ⊗ (var 1 ⊗ lit (pos 1) ⊗ (var 1 ⊗ lit (pos 1) ⊗ lit (pos 1))) ⊕ lit (pos 0)) refl)
    (by_ring (v ∷ d ∷ [])
    ((var 0 ⊗ lit (pos 1) ⊕ lit (negsuc 1) ⊗ var 1) ⊗ ((var 0 ⊗ lit (pos 1) ⊕ lit (negsuc 1) ⊗ var 1) ⊗ lit (pos 1)) ⊗ var 1 ⊕ lit (pos 0))
    (lit (pos 1) ⊗ var 1 ⊗ (var 1 ⊗ var 1) ⊕ var 1 ⊗ ((var 1 ⊖ var 0) ⊗ (var 1 ⊕ var 1 ⊕ var 1 ⊖ var 0)))
    refl)
    (mul_nonneg d ((d -ℤ v) *ℤ (d +ℤ d +ℤ d -ℤ v)) (omega (arith, ints)) (mul_nonneg (d -ℤ v) (d +ℤ d +ℤ d -ℤ v) (omega (arith, ints)) (omega (arith, ints))))

-- v is at most 1 where it and 1 are at most 2
at_most_one : (v o t d : ℤ) → pos 0 <ℤ d → o *ℤ pos 1 ≡ pos 1 *ℤ d → t ≡ v *ℤ d +ℤ o *ℤ d → (t *ℤ pos 1) ≤ℤ (pos 2 *ℤ (d *ℤ d)) → v ≤ℤ d
at_most_one v o t d up h e below =
    let same : o *ℤ d ≡ d *ℤ d = ap (λ z. z *ℤ d) (omega (arith, ints)) in
    let one : t *ℤ pos 1 ≡ t = by_ring (t ∷ []) (var 0 ⊗ lit (pos 1)) (var 0) refl in
    let two : pos 2 *ℤ (d *ℤ d) ≡ d *ℤ d +ℤ d *ℤ d = by_ring (d ∷ []) (lit (pos 2) ⊗ (var 0 ⊗ var 0)) (var 0 ⊗ var 0 ⊕ var 0 ⊗ var 0) refl in
    le_cancel_right v d d (omega (arith, linear)) up

-- w + 2*(v + 1 - 2) is at least 1 where w = (v - 2)^2
least_price : (w v o t d : ℤ) → w *ℤ (d *ℤ pos 1 *ℤ (d *ℤ pos 1 *ℤ pos 1)) ≡ (v *ℤ pos 1 +ℤ negsuc 1 *ℤ d) *ℤ ((v *ℤ pos 1 +ℤ negsuc 1 *ℤ d) *ℤ pos 1) *ℤ d → o *ℤ pos 1 ≡ pos 1 *ℤ d → t ≡ v *ℤ d +ℤ o *ℤ d → pos 0 <ℤ d → (pos 1 *ℤ (d *ℤ (pos 1 *ℤ (d *ℤ d *ℤ pos 1) *ℤ pos 1))) ≤ℤ ((w *ℤ (pos 1 *ℤ (d *ℤ d *ℤ pos 1) *ℤ pos 1) +ℤ neg_ℤ (negsuc 1 *ℤ (t *ℤ pos 1 +ℤ negsuc 1 *ℤ (d *ℤ d)) *ℤ pos 1 +ℤ pos 0 *ℤ (pos 1 *ℤ (d *ℤ d *ℤ pos 1))) *ℤ d) *ℤ pos 1)
least_price w v o t d h k e up =
    let same : o *ℤ d ≡ d *ℤ d = ap (λ z. z *ℤ d) (omega (arith, ints)) in
    le_by (negsuc 3 *ℤ (d *ℤ d *ℤ d)) (d *ℤ ((v -ℤ d) *ℤ (v -ℤ d))) (pos 1) (omega (arith, ints))
    (ap₂ (λ y z. y +ℤ pos 2 *ℤ d *ℤ z) h (e ∙ ap (λ z. v *ℤ d +ℤ z) same))
    (by_ring (w ∷ t ∷ d ∷ [])
    ((var 0 ⊗ (lit (pos 1) ⊗ (var 2 ⊗ var 2 ⊗ lit (pos 1)) ⊗ lit (pos 1)) ⊕ neg (lit (negsuc 1) ⊗ (var 1 ⊗ lit (pos 1) ⊕ lit (negsuc 1) ⊗ (var 2 ⊗ var 2)) ⊗ lit (pos 1) ⊕ lit (pos 0) ⊗ (lit (pos 1) ⊗ (var 2 ⊗ var 2 ⊗ lit (pos 1)))) ⊗ var 2) ⊗ lit (pos 1) ⊗ lit (pos 1))
    (var 0 ⊗ (var 2 ⊗ lit (pos 1) ⊗ (var 2 ⊗ lit (pos 1) ⊗ lit (pos 1))) ⊕ lit (pos 2) ⊗ var 2 ⊗ var 1 ⊕ lit (negsuc 3) ⊗ (var 2 ⊗ var 2 ⊗ var 2))
    refl)
    (by_ring (v ∷ d ∷ [])
    ((var 0 ⊗ lit (pos 1) ⊕ lit (negsuc 1) ⊗ var 1) ⊗ ((var 0 ⊗ lit (pos 1) ⊕ lit (negsuc 1) ⊗ var 1) ⊗ lit (pos 1)) ⊗ var 1 ⊕ lit (pos 2) ⊗ var 1 ⊗ (var 0 ⊗ var 1 ⊕ var 1 ⊗ var 1) ⊕ lit (negsuc 3) ⊗ (var 1 ⊗ var 1 ⊗ var 1))
    (lit (pos 1) ⊗ (var 1 ⊗ (lit (pos 1) ⊗ (var 1 ⊗ var 1 ⊗ lit (pos 1)) ⊗ lit (pos 1))) ⊗ lit (pos 1) ⊕ var 1 ⊗ ((var 0 ⊖ var 1) ⊗ (var 0 ⊖ var 1)))
    refl)
    (mul_nonneg d ((v -ℤ d) *ℤ (v -ℤ d)) (omega (arith, ints)) (square_nonneg (v -ℤ d)))

a_deviation : (p r : Point) → Fits rationed r → SameRatio (coordinate r 1) (coordinate p 1) → SameRatio (coordinate r 3) (coordinate p 3) → SameRatio (coordinate r 4) (coordinate p 4) → MeetsEquation r (shifted_square 0 2) → IsDeviation rationed rationed_by (block 0) p r
a_deviation p r fits b y u d = record {
  fits = fits;
  others = below_five (λ v. owns rationed rationed_by (block 0) v ≡ false → SameRatio (coordinate r v) (coordinate p v)) (λ own. cc) (λ own. b) (λ own. cc) (λ own. y) (λ own. u);
  bounds = no_bounds 0 r;
  definition = each_of_three (λ e q. defines rationed rationed_by (block 0) e ≡ true → MeetsEquation r q) (shifted_square 0 2) (shifted_square 1 3) sum_to_two (λ h. d) (λ h. cc) (λ h. cc);
}

b_deviation : (p r : Point) → Fits rationed r → SameRatio (coordinate r 0) (coordinate p 0) → SameRatio (coordinate r 2) (coordinate p 2) → SameRatio (coordinate r 4) (coordinate p 4) → MeetsEquation r (shifted_square 1 3) → IsDeviation rationed rationed_by (block 1) p r
b_deviation p r fits a x u d = record {
  fits = fits;
  others = below_five (λ v. owns rationed rationed_by (block 1) v ≡ false → SameRatio (coordinate r v) (coordinate p v)) (λ own. a) (λ own. cc) (λ own. x) (λ own. cc) (λ own. u);
  bounds = no_bounds 1 r;
  definition = each_of_three (λ e q. defines rationed rationed_by (block 1) e ≡ true → MeetsEquation r q) (shifted_square 0 2) (shifted_square 1 3) sum_to_two (λ h. cc) (λ h. d) (λ h. cc);
}

of_a : (P : ℕ → Equation → Type 0) → P 2 sum_to_two → (e : ℕ) (q : Equation) → slice_get rationed.equations e ≡ Some q → is_constraint rationed rationed_by (block 0) e ≡ true → P e q
of_a P h = each_of_three (λ e q. is_constraint rationed rationed_by (block 0) e ≡ true → P e q) (shifted_square 0 2) (shifted_square 1 3) sum_to_two (λ l. cc) (λ l. cc) (λ l. h)

of_b : (P : ℕ → Equation → Type 0) → P 2 sum_to_two → (e : ℕ) (q : Equation) → slice_get rationed.equations e ≡ Some q → is_constraint rationed rationed_by (block 1) e ≡ true → P e q
of_b P h = each_of_three (λ e q. is_constraint rationed rationed_by (block 1) e ≡ true → P e q) (shifted_square 0 2) (shifted_square 1 3) sum_to_two (λ l. cc) (λ l. cc) (λ l. h)

even_solved : (k : ℕ) → k < 2 → IsSolved rationed rationed_by k even_point
unfolding even_point
even_solved = let p = even_point in below_two (λ k. IsSolved rationed rationed_by k p)
    (record {
      feasible = record { deviation = a_deviation p p refl refl refl refl refl; constraints = of_a (λ e q. MeetsEquation p q) (omega (arith, ints)) };
      best = λ r h better.
          let x = cell r.nums 2 in
          let y = cell r.nums 3 in
          let t = x *ℤ r.den +ℤ y *ℤ r.den in
          below_not_above (pos 1 *ℤ r.den) (cell r.nums 0 *ℤ pos 1) (least_a (cell r.nums 0) x r.den r.positive (h.deviation.definition 0 (shifted_square 0 2) refl refl) (at_most_one x y t r.den r.positive (h.deviation.others 3 (omega arith) refl) refl (h.constraints 2 sum_to_two refl refl))) better;
    })
    (record {
      feasible = record { deviation = b_deviation p p refl refl refl refl refl; constraints = of_b (λ e q. MeetsEquation p q) (omega (arith, ints)) };
      best = λ r h better.
          let x = cell r.nums 2 in
          let y = cell r.nums 3 in
          let t = x *ℤ r.den +ℤ y *ℤ r.den in
          below_not_above (pos 1 *ℤ r.den) (cell r.nums 1 *ℤ pos 1) (least_a (cell r.nums 1) y r.den r.positive (h.deviation.definition 1 (shifted_square 1 3) refl refl) (at_most_one y x t r.den r.positive (h.deviation.others 2 (omega arith) refl) (+ℤ_comm (x *ℤ r.den) (y *ℤ r.den)) (h.constraints 2 sum_to_two refl refl))) better;
    })

even_multipliers : (k : ℕ) → k < 2 → AreMultipliers rationed rationed_by k even_point (all_are (negsuc 1))
unfolding even_point
even_multipliers = let p = even_point in below_two (λ k. AreMultipliers rationed rationed_by k p (all_are (negsuc 1)))
    (record {
      among = a_deviation p p refl refl refl refl refl;
      each = of_a (λ e q. IsMultiplier q.relation (sides_gap p q) (all_are (negsuc 1) e)) (record { fraction = omega (arith, ints); sign = omega (arith, ints); complementary = inl refl });
      least = λ r h.
          let x = cell r.nums 2 in
          let y = cell r.nums 3 in
          least_price (cell r.nums 0) x y (x *ℤ r.den +ℤ y *ℤ r.den) r.den (h.definition 0 (shifted_square 0 2) refl refl) (h.others 3 (omega arith) refl) refl r.positive;
    })
    (record {
      among = b_deviation p p refl refl refl refl refl;
      each = of_b (λ e q. IsMultiplier q.relation (sides_gap p q) (all_are (negsuc 1) e)) (record { fraction = omega (arith, ints); sign = omega (arith, ints); complementary = inl refl });
      least = λ r h.
          let x = cell r.nums 2 in
          let y = cell r.nums 3 in
          least_price (cell r.nums 1) y x (x *ℤ r.den +ℤ y *ℤ r.den) r.den (h.definition 1 (shifted_square 1 3) refl refl) (h.others 2 (omega arith) refl) (+ℤ_comm (x *ℤ r.den) (y *ℤ r.den)) r.positive;
    })

not_above_zero : (t b : ℤ) → t ≤ℤ pos 0 → pos 0 <ℤ b → t *ℤ pos 1 ≡ pos 2 *ℤ b → ⊥
not_above_zero t b h k e = omega (arith, ints)

pub examples_of_rations : ExamplesOfRations
unfolding even_point
examples_of_rations = record {
  even = record {
    fits = refl;
    solved = even_solved;
    choice = λ k. all_are (negsuc 1);
    prices = record {
      multipliers = λ k within priced. even_multipliers k within;
      duals = λ k i d within at h. each_of_one (λ i d. SameRatio (ratio (negsuc 1) (pos 1)) (coordinate even_point d.0.at)) (variable_of 4, equ 2) refl i d at;
      shared = λ j k e at_j at_k named h l. refl;
    };
  };
  wrong_sign = λ h.
      let u = (h.prices.multipliers 0 (omega arith) refl).each 2 sum_to_two refl refl in
      not_above_zero (h.choice 0 2).top (h.choice 0 2).bottom ((to_nought (h.choice 0 2)).0 u.sign) u.fraction (h.prices.duals 0 0 (variable_of 4, equ 2) (omega arith) refl refl);
  slack = λ h.
      let p = whole_point (pos 4 ∷ pos 1 ∷ pos 0 ∷ pos 1 ∷ pos 0 ∷ []) in
      let r = whole_point (pos 1 ∷ pos 1 ∷ pos 1 ∷ pos 1 ∷ pos 0 ∷ []) in
      (h.solved 0 (omega arith)).best r (record { deviation = a_deviation p r refl refl refl refl refl; constraints = of_a (λ e q. MeetsEquation r q) (omega (arith, ints)) }) (omega (arith, ints));
}
