-- The examples of disjunctions.
use Rattle.std.proofs.Common.{◌≡◌, ◌⊎◌, inl, inr, ℕ, ◌+◌, ℤ, pos, negsuc, neg_ℤ, ◌+ℤ◌, ◌-ℤ◌, ◌*ℤ◌, ◌≤ℤ◌, ◌<ℤ◌, true, false, [], ◌∷◌, length, Some, arith, refl, sym, ap, ap₂, subst, ◌∙◌}
use Rattle.std.specs.List.{slice_get}
use Rattle.std.proofs.lemmas.Int.{ints}
use Rattle.std.proofs.lemmas.List.Elements.{All-nil, All-cons, All-head, All-tail}
use Rattle.std.proofs.lemmas.Option.{same_Some}
use Rattle.emp_algebra.proofs.Laws.{mul_nonneg, mul_pos}
use Rattle.emp_algebra.proofs.Order.{linear, cancel_right}
use Rattle.emp_algebra.proofs.Ring.{var, lit, neg, ◌⊕◌, ◌⊖◌, ◌⊗◌, by_ring}
use Rattle.emp_algebra.specs.Vector.{cell}
use Rattle.emp_num.specs.Ratio.{ratio, plus, times, SameRatio}
use Rattle.emp_num.specs.Point.{Point, coordinate}
use Rattle.emp_ast.specs.declared.model.Equation.{Equation}
use Rattle.emp_ast.specs.declared.model.Variable.{Variable}
use Rattle.emp_ast.specs.declared.model.Model.{Model}
use Rattle.emp_ast.specs.Meets.{MeetsEquation, MeetsBounds}
use Rattle.emp_ast.specs.Parties.{leader, block, names_equation, defines, is_defined, EachDefinition}
use Rattle.emp_ast.specs.Bilevel.{IsAfterSteps}
use Rattle.emp_examples.specs.Small.{free, from, equ, whole_point}
use Rattle.emp_examples.proofs.Short.{each_of_three, each_of_five, below_one, below_three}
use Rattle.emp_disj.specs.Choice.{terms, MeetsOne, IsChoice, apart}
use Rattle.emp_disj.specs.Examples.{z_is_sum, x_from_four, y_from_three, x_to_one, y_to_two, picked, either, ExamplesOfChoices, ExamplesOfChoiceRays}

-- ---- of two terms one is met
into_terms : (m : Model) (p : Point) (e f : ℕ) (a b : Equation) → slice_get m.equations e ≡ Some a → slice_get m.equations f ≡ Some b → MeetsEquation p a ⊎ MeetsEquation p b → MeetsOne m p (equ e ∷ equ f ∷ [])
into_terms m p e f a b h k (inl c) = inl (a, h, c)
into_terms m p e f a b h k (inr c) = inr (inl (b, k, c))

out_of_terms : (m : Model) (p : Point) (e f : ℕ) (a b : Equation) → slice_get m.equations e ≡ Some a → slice_get m.equations f ≡ Some b → MeetsOne m p (equ e ∷ equ f ∷ []) → MeetsEquation p a ⊎ MeetsEquation p b
out_of_terms m p e f a b h k (inl (q, at, c)) = inl (subst (λ x. MeetsEquation p x) (same_Some q a (sym at ∙ h)) c)
out_of_terms m p e f a b h k (inr (inl (q, at, c))) = inr (subst (λ x. MeetsEquation p x) (same_Some q b (sym at ∙ k)) c)
out_of_terms m p e f a b h k (inr (inr c)) = absurd c

admissible : (x y : Variable) (p : Point) → length p.nums ≡ 3 → MeetsBounds p 1 x → MeetsBounds p 2 y → MeetsEquation p z_is_sum → MeetsEquation p x_from_four ⊎ MeetsEquation p y_from_three → MeetsEquation p x_to_one ⊎ MeetsEquation p y_to_two → IsChoice (picked x y) either p
admissible x y p fits in_x in_y d one two = record {
  fits = fits;
  bounds = each_of_three (λ v w. MeetsBounds p v w) free x y (tt, tt) in_x in_y;
  others = each_of_five (λ e q. names_equation (terms either) e ≡ false → MeetsEquation p q) z_is_sum x_from_four y_from_three x_to_one y_to_two (λ h. d) (λ h. cc) (λ h. cc) (λ h. cc) (λ h. cc);
  chosen = All-cons (MeetsOne (picked x y) p) (equ 1 ∷ equ 2 ∷ []) ((equ 3 ∷ equ 4 ∷ []) ∷ []) (into_terms (picked x y) p 1 2 x_from_four y_from_three refl refl one)
      (All-cons (MeetsOne (picked x y) p) (equ 3 ∷ equ 4 ∷ []) [] (into_terms (picked x y) p 3 4 x_to_one y_to_two refl refl two) (All-nil (MeetsOne (picked x y) p)));
}

first_terms : (x y : Variable) (p : Point) → IsChoice (picked x y) either p → MeetsEquation p x_from_four ⊎ MeetsEquation p y_from_three
first_terms x y p h = out_of_terms (picked x y) p 1 2 x_from_four y_from_three refl refl (All-head (MeetsOne (picked x y) p) (equ 1 ∷ equ 2 ∷ []) ((equ 3 ∷ equ 4 ∷ []) ∷ []) h.chosen)

second_terms : (x y : Variable) (p : Point) → IsChoice (picked x y) either p → MeetsEquation p x_to_one ⊎ MeetsEquation p y_to_two
second_terms x y p h =
    out_of_terms (picked x y) p 3 4 x_to_one y_to_two refl refl (All-head (MeetsOne (picked x y) p) (equ 3 ∷ equ 4 ∷ []) [] (All-tail (MeetsOne (picked x y) p) (equ 1 ∷ equ 2 ∷ []) ((equ 3 ∷ equ 4 ∷ []) ∷ []) h.chosen))

at_y : IsChoice (picked (from 0) (from 0)) either (whole_point (pos 3 ∷ pos 0 ∷ pos 3 ∷ []))
at_y = admissible (from 0) (from 0) (whole_point (pos 3 ∷ pos 0 ∷ pos 3 ∷ [])) refl (omega (arith, ints), tt) (omega (arith, ints), tt) refl (inr (omega (arith, ints))) (inl (omega (arith, ints)))

-- z is x + y
sum_is : (z x y d : ℤ) → pos 0 <ℤ d → z *ℤ (d *ℤ d) ≡ (x *ℤ d +ℤ y *ℤ d) *ℤ d → z ≡ x +ℤ y
sum_is z x y d up h = cancel_right z (x +ℤ y) (d *ℤ d) (h ∙ by_ring (x ∷ y ∷ d ∷ []) ((var 0 ⊗ var 2 ⊕ var 1 ⊗ var 2) ⊗ var 2) ((var 0 ⊕ var 1) ⊗ (var 2 ⊗ var 2)) refl) (mul_pos d d up up)

not_below_three : (z x y d : ℤ) → pos 0 <ℤ d → z *ℤ (d *ℤ d) ≡ (x *ℤ d +ℤ y *ℤ d) *ℤ d → (pos 0 *ℤ d) ≤ℤ (x *ℤ pos 1) → (pos 0 *ℤ d) ≤ℤ (y *ℤ pos 1) → ((pos 4 *ℤ d) ≤ℤ (x *ℤ pos 1)) ⊎ ((pos 3 *ℤ d) ≤ℤ (y *ℤ pos 1)) → (z *ℤ pos 1) <ℤ (pos 3 *ℤ d) → ⊥
not_below_three z x y d up h low_x low_y one below = go one
  where
    three : pos 3 *ℤ d ≡ d +ℤ d +ℤ d
    three = by_ring (d ∷ []) (lit (pos 3) ⊗ var 0) (var 0 ⊕ var 0 ⊕ var 0) refl

    four : pos 4 *ℤ d ≡ d +ℤ d +ℤ d +ℤ d
    four = by_ring (d ∷ []) (lit (pos 4) ⊗ var 0) (var 0 ⊕ var 0 ⊕ var 0 ⊕ var 0) refl

    none : pos 0 *ℤ d ≡ pos 0
    none = by_ring (d ∷ []) (lit (pos 0) ⊗ var 0) (lit (pos 0)) refl

    same : (u : ℤ) → u *ℤ pos 1 ≡ u
    same u = by_ring (u ∷ []) (var 0 ⊗ lit (pos 1)) (var 0) refl

    go : ((pos 4 *ℤ d) ≤ℤ (x *ℤ pos 1)) ⊎ ((pos 3 *ℤ d) ≤ℤ (y *ℤ pos 1)) → ⊥
    go (inl k) = let a = same x in let b = same y in let c = same z in let e = sum_is z x y d up h in omega (arith, linear, a, b, c, e, k, low_x, low_y, below, three, four, none, up)
    go (inr k) = let a = same x in let b = same y in let c = same z in let e = sum_is z x y d up h in omega (arith, linear, a, b, c, e, k, low_x, low_y, below, three, none)

pub examples_of_choices : ExamplesOfChoices
examples_of_choices = record {
  by_y = at_y;
  by_x = admissible (from 0) (from 0) (whole_point (pos 4 ∷ pos 4 ∷ pos 0 ∷ [])) refl (omega (arith, ints), tt) (omega (arith, ints), tt) refl (inl (omega (arith, ints))) (inr (omega (arith, ints)));
  none_of_first = λ h. neither (first_terms (from 0) (from 0) (whole_point (pos 0 ∷ pos 0 ∷ pos 0 ∷ [])) h);
  none_of_second = λ h. nor (second_terms (from 0) (from 0) (whole_point (pos 7 ∷ pos 4 ∷ pos 3 ∷ [])) h);
  below_bound = λ h. let l = (h.bounds 2 (from 0) refl).0 in omega (arith, ints);
  off_equation = λ h. let e = h.others 0 z_is_sum refl refl in omega (arith, ints);
  best_by_y = record {
    admissible = at_y;
    best = λ q h better. not_below_three (cell q.nums 0) (cell q.nums 1) (cell q.nums 2) q.den q.positive (h.others 0 z_is_sum refl refl) (h.bounds 1 (from 0) refl).0 (h.bounds 2 (from 0) refl).0 (first_terms (from 0) (from 0) q h) better;
  };
  not_best_by_x = λ h. h.best (whole_point (pos 3 ∷ pos 0 ∷ pos 3 ∷ [])) at_y (omega (arith, ints));
  defines = refl;
  term_defines_none = refl;
}
  where
    neither : ((pos 4 *ℤ pos 1) ≤ℤ (pos 0 *ℤ pos 1)) ⊎ ((pos 3 *ℤ pos 1) ≤ℤ (pos 0 *ℤ pos 1)) → ⊥
    neither (inl l) = omega (arith, ints)
    neither (inr l) = omega (arith, ints)

    nor : ((pos 4 *ℤ pos 1) ≤ℤ (pos 1 *ℤ pos 1)) ⊎ ((pos 3 *ℤ pos 1) ≤ℤ (pos 2 *ℤ pos 1)) → ⊥
    nor (inl l) = omega (arith, ints)
    nor (inr l) = omega (arith, ints)

-- ---- rays
abbrev start : Point
start = whole_point (pos 3 ∷ pos 0 ∷ pos 3 ∷ [])

abbrev falling : Point
falling = whole_point (pos 0 ∷ negsuc 0 ∷ pos 0 ∷ [])

after : (x y : Variable) (v q : Point) (t : ℕ) → length q.nums ≡ 3 → MeetsEquation q z_is_sum → SameRatio (coordinate q 1) (plus (coordinate start 1) (times (ratio (pos t) (pos 1)) (coordinate v 1))) → SameRatio (coordinate q 2) (plus (coordinate start 2) (times (ratio (pos t) (pos 1)) (coordinate v 2))) → IsAfterSteps (picked x y) (apart either) start v t q
after x y v q t fits d one two = record {
  fits = fits;
  moved = below_three (λ w. is_defined (picked x y) (apart either) w ≡ false → SameRatio (coordinate q w) (plus (coordinate start w) (times (ratio (pos t) (pos 1)) (coordinate v w)))) (λ h. cc) (λ h. one) (λ h. two);
  definitions = record { blocks = below_one (λ k. EachDefinition (picked x y) (apart either) (block k) (λ e c. MeetsEquation q c)) (λ e c at h. cc); leads = λ b. each_of_five (λ e c. defines (picked x y) (apart either) leader e ≡ true → MeetsEquation q c) z_is_sum x_from_four y_from_three x_to_one y_to_two (λ h. d) (λ h. cc) (λ h. cc) (λ h. cc) (λ h. cc) };
}

abbrev fallen : ℕ → Point
fallen t = whole_point ((pos 3 -ℤ pos t) ∷ neg_ℤ (pos t) ∷ pos 3 ∷ [])

fallen_after : (t : ℕ) → IsAfterSteps (picked free (from 0)) (apart either) start falling t (fallen t)
fallen_after t =
    after free (from 0) falling (fallen t) t refl
    (by_ring (pos t ∷ []) ((lit (pos 3) ⊖ var 0) ⊗ (lit (pos 1) ⊗ lit (pos 1))) ((neg (var 0) ⊗ lit (pos 1) ⊕ lit (pos 3) ⊗ lit (pos 1)) ⊗ lit (pos 1)) refl)
    (by_ring (pos t ∷ []) (neg (var 0) ⊗ lit (pos 1)) ((lit (pos 0) ⊗ lit (pos 1) ⊕ var 0 ⊗ lit (negsuc 0) ⊗ lit (pos 1)) ⊗ lit (pos 1)) refl)
    (by_ring (pos t ∷ []) (lit (pos 3) ⊗ lit (pos 1)) ((lit (pos 3) ⊗ lit (pos 1) ⊕ var 0 ⊗ lit (pos 0) ⊗ lit (pos 1)) ⊗ lit (pos 1)) refl)

-- what the coordinates after t steps are
x_is : (x t d : ℤ) → x *ℤ pos 1 ≡ (pos 0 *ℤ pos 1 +ℤ t *ℤ negsuc 0 *ℤ pos 1) *ℤ d → x ≡ neg_ℤ (t *ℤ d)
x_is x t d h = by_ring (x ∷ []) (var 0) (var 0 ⊗ lit (pos 1)) refl ∙ (h ∙ by_ring (t ∷ d ∷ []) ((lit (pos 0) ⊗ lit (pos 1) ⊕ var 0 ⊗ lit (negsuc 0) ⊗ lit (pos 1)) ⊗ var 1) (neg (var 0 ⊗ var 1)) refl)

y_is : (y t d : ℤ) → y *ℤ pos 1 ≡ (pos 3 *ℤ pos 1 +ℤ t *ℤ pos 0 *ℤ pos 1) *ℤ d → y ≡ pos 3 *ℤ d
y_is y t d h = by_ring (y ∷ []) (var 0) (var 0 ⊗ lit (pos 1)) refl ∙ (h ∙ by_ring (t ∷ d ∷ []) ((lit (pos 3) ⊗ lit (pos 1) ⊕ var 0 ⊗ lit (pos 0) ⊗ lit (pos 1)) ⊗ var 1) (lit (pos 3) ⊗ var 1) refl)

fallen_choice : (t : ℕ) (q : Point) → IsAfterSteps (picked free (from 0)) (apart either) start falling t q → IsChoice (picked free (from 0)) either q
fallen_choice t q h =
    let x = x_is (cell q.nums 1) (pos t) q.den (h.moved 1 (omega arith) refl) in
    let y = y_is (cell q.nums 2) (pos t) q.den (h.moved 2 (omega arith) refl) in
    let up = q.positive in
    let td = mul_nonneg (pos t) q.den (omega (arith, ints)) (omega (arith, linear, up)) in
    let three = mul_nonneg (pos 3) q.den (omega (arith, ints)) (omega (arith, linear, up)) in
    let one : (u : ℤ) → u *ℤ pos 1 ≡ u = λ u. by_ring (u ∷ []) (var 0 ⊗ lit (pos 1)) (var 0) refl in
    let none : pos 0 *ℤ q.den ≡ pos 0 = by_ring (q.den ∷ []) (lit (pos 0) ⊗ var 0) (lit (pos 0)) refl in
    let once : pos 1 *ℤ q.den ≡ q.den = by_ring (q.den ∷ []) (lit (pos 1) ⊗ var 0) (var 0) refl in
    let same_y = one (cell q.nums 2) in
    let same_x = one (cell q.nums 1) in
    let low : (pos 0 *ℤ q.den) ≤ℤ (cell q.nums 2 *ℤ pos 1) = omega (arith, linear, y, three, none, same_y) in
    let met : (pos 3 *ℤ q.den) ≤ℤ (cell q.nums 2 *ℤ pos 1) = omega (arith, linear, y, same_y) in
    let high : (cell q.nums 1 *ℤ pos 1) ≤ℤ (pos 1 *ℤ q.den) = omega (arith, linear, x, td, once, same_x, up) in
    admissible free (from 0) q h.fits (tt, tt) (low, tt) (h.definitions.leads refl 0 z_is_sum refl refl) (inr met) (inl high)

falls_more : (z x y d w u v e s t : ℤ) → pos 0 <ℤ d → pos 0 <ℤ e → z ≡ x +ℤ y → w ≡ u +ℤ v → x ≡ neg_ℤ (s *ℤ d) → y ≡ pos 3 *ℤ d → u ≡ neg_ℤ (t *ℤ e) → v ≡ pos 3 *ℤ e → t ≡ s +ℤ pos 1 → (w *ℤ d) <ℤ (z *ℤ e)
falls_more z x y d w u v e s t up_d up_e z_sum w_sum x_at y_at u_at v_at more =
    let z_at : z *ℤ e ≡ (neg_ℤ (s *ℤ d) +ℤ pos 3 *ℤ d) *ℤ e = ap (λ k. k *ℤ e) (z_sum ∙ ap₂ (λ a b. a +ℤ b) x_at y_at) in
    let w_at : w *ℤ d ≡ (neg_ℤ ((s +ℤ pos 1) *ℤ e) +ℤ pos 3 *ℤ e) *ℤ d = ap (λ k. k *ℤ d) (w_sum ∙ ap₂ (λ a b. a +ℤ b) (u_at ∙ ap (λ k. neg_ℤ (k *ℤ e)) more) v_at) in
    let a : (neg_ℤ (s *ℤ d) +ℤ pos 3 *ℤ d) *ℤ e ≡ (neg_ℤ ((s +ℤ pos 1) *ℤ e) +ℤ pos 3 *ℤ e) *ℤ d +ℤ d *ℤ e =
    by_ring (s ∷ d ∷ e ∷ []) ((neg (var 0 ⊗ var 1) ⊕ lit (pos 3) ⊗ var 1) ⊗ var 2) ((neg ((var 0 ⊕ lit (pos 1)) ⊗ var 2) ⊕ lit (pos 3) ⊗ var 2) ⊗ var 1 ⊕ var 1 ⊗ var 2) refl in
    omega (arith, linear, a, z_at, w_at, mul_pos d e up_d up_e)

pub examples_of_choice_rays : ExamplesOfChoiceRays
examples_of_choice_rays = record {
  falls = record {
    start = fallen_choice 0 start (after free (from 0) falling start 0 refl refl refl refl);
    after = λ t. (fallen t, fallen_after t);
    admissible = λ t q h. fallen_choice t q h;
    improves = λ t q r h k. falls_more (cell q.nums 0) (cell q.nums 1) (cell q.nums 2) q.den (cell r.nums 0) (cell r.nums 1) (cell r.nums 2) r.den (pos t) (pos (t + 1)) q.positive r.positive
        (sum_is (cell q.nums 0) (cell q.nums 1) (cell q.nums 2) q.den q.positive (h.definitions.leads refl 0 z_is_sum refl refl))
        (sum_is (cell r.nums 0) (cell r.nums 1) (cell r.nums 2) r.den r.positive (k.definitions.leads refl 0 z_is_sum refl refl))
        (x_is (cell q.nums 1) (pos t) q.den (h.moved 1 (omega arith) refl)) (y_is (cell q.nums 2) (pos t) q.den (h.moved 2 (omega arith) refl))
        (x_is (cell r.nums 1) (pos (t + 1)) r.den (k.moved 1 (omega arith) refl)) (y_is (cell r.nums 2) (pos (t + 1)) r.den (k.moved 2 (omega arith) refl)) (omega (arith, ints));
  };
  rises = λ h.
      let v = whole_point (pos 0 ∷ pos 1 ∷ pos 0 ∷ []) in
      let q = whole_point (pos 4 ∷ pos 1 ∷ pos 3 ∷ []) in
      let l = h.improves 0 start q (after free (from 0) v start 0 refl refl refl refl) (after free (from 0) v q 1 refl refl refl refl) in
      omega (arith, ints);
  leaves = λ h.
      let v = whole_point (pos 0 ∷ pos 0 ∷ negsuc 0 ∷ []) in
      let q = whole_point (pos 2 ∷ pos 0 ∷ pos 2 ∷ []) in
      neither (first_terms free free q (h.admissible 1 q (after free free v q 1 refl refl refl refl)));
}
  where
    neither : ((pos 4 *ℤ pos 1) ≤ℤ (pos 0 *ℤ pos 1)) ⊎ ((pos 3 *ℤ pos 1) ≤ℤ (pos 2 *ℤ pos 1)) → ⊥
    neither (inl l) = omega (arith, ints)
    neither (inr l) = omega (arith, ints)
