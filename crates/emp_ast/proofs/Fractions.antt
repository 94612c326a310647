-- Equal fractions are not told apart by the operations, the order and the signs.
use Rattle.std.proofs.Common.{◌≡◌, ◌↔◌, ◌⊎◌, inl, inr, ℕ, zero, suc, ℤ, pos, negsuc, neg_ℤ, ◌+ℤ◌, ◌*ℤ◌, ◌<ℤ◌, ◌≤ℤ◌, [], ◌∷◌, arith, refl, sym, ap, ap₂, ◌∙◌}
use Rattle.std.proofs.lemmas.Int.{ints}
use lib.IntN.{zero-*ℤ}
use Rattle.emp_algebra.proofs.Laws.{mul_nonneg, mul_pos, neg_ℤ-*ℤ}
use Rattle.emp_algebra.proofs.Order.{linear, le_cancel_right, cancel_right, mul_le_right, le_or_lt}
use Rattle.emp_algebra.proofs.Ring.{var, lit, neg, ◌⊕◌, ◌⊗◌, by_ring}
use Rattle.emp_num.specs.Ratio.{Ratio, nought, ratio, negated, plus, minus, times, over_parts, over, power, SameRatio, AtMostRatio}
use Rattle.emp_num.proofs.SamePoints.{cross_on}
use Rattle.emp_ast.specs.declared.tree.Operator.{Operator}
use Rattle.emp_ast.specs.declared.tree.Operator.TheVariants.{Plus, Minus, Times, Over}
use Rattle.emp_ast.specs.declared.model.Sense.{Sense}
use Rattle.emp_ast.specs.declared.model.Sense.TheVariants.{Min, Max}
use Rattle.emp_ast.specs.Value.{operation}
use Rattle.emp_ast.specs.Solved.{IsSmaller, IsBetter}
use Rattle.emp_ast.specs.SameLaws.{SameFraction, SameValue}

pub fraction_itself : (x : Ratio) → pos 0 <ℤ x.bottom → SameFraction x x
fraction_itself x h = record { left = h; right = h; same = refl }

pub fraction_back : (x y : Ratio) → SameFraction x y → SameFraction y x
fraction_back x y h = record { left = h.right; right = h.left; same = sym h.same }

pub fraction_on : (x y z : Ratio) → SameFraction x y → SameFraction y z → SameFraction x z
fraction_on x y z h k = record { left = h.left; right = k.right; same = cross_on x.top x.bottom y.top y.bottom z.top z.bottom h.right h.same k.same }

-- ---- operations
pub fraction_negated : (x y : Ratio) → SameFraction x y → SameFraction (negated x) (negated y)
fraction_negated x y h = record { left = h.left; right = h.right; same = neg_ℤ-*ℤ x.top y.bottom ∙ (ap neg_ℤ h.same ∙ sym (neg_ℤ-*ℤ y.top x.bottom)) }

plus_same : (a b a' b' c d c' d' : ℤ) → a *ℤ b' ≡ a' *ℤ b → c *ℤ d' ≡ c' *ℤ d → (a *ℤ d +ℤ c *ℤ b) *ℤ (b' *ℤ d') ≡ (a' *ℤ d' +ℤ c' *ℤ b') *ℤ (b *ℤ d)
plus_same a b a' b' c d c' d' h k =
    by_ring (a ∷ b ∷ b' ∷ c ∷ d ∷ d' ∷ []) ((var 0 ⊗ var 4 ⊕ var 3 ⊗ var 1) ⊗ (var 2 ⊗ var 5)) (var 0 ⊗ var 2 ⊗ (var 4 ⊗ var 5) ⊕ var 3 ⊗ var 5 ⊗ (var 1 ⊗ var 2)) refl
    ∙ (ap₂ (λ y z. y *ℤ (d *ℤ d') +ℤ z *ℤ (b *ℤ b')) h k
    ∙ by_ring (a' ∷ b ∷ b' ∷ c' ∷ d ∷ d' ∷ []) (var 0 ⊗ var 1 ⊗ (var 4 ⊗ var 5) ⊕ var 3 ⊗ var 4 ⊗ (var 1 ⊗ var 2)) ((var 0 ⊗ var 5 ⊕ var 3 ⊗ var 2) ⊗ (var 1 ⊗ var 4)) refl)

pub fraction_plus : (x y z w : Ratio) → SameFraction x y → SameFraction z w → SameFraction (plus x z) (plus y w)
fraction_plus x y z w h k = record {
  left = mul_pos x.bottom z.bottom h.left k.left;
  right = mul_pos y.bottom w.bottom h.right k.right;
  same = plus_same x.top x.bottom y.top y.bottom z.top z.bottom w.top w.bottom h.same k.same;
}

pub fraction_minus : (x y z w : Ratio) → SameFraction x y → SameFraction z w → SameFraction (minus x z) (minus y w)
fraction_minus x y z w h k = fraction_plus x y (negated z) (negated w) h (fraction_negated z w k)

times_same : (a b a' b' c d c' d' : ℤ) → a *ℤ b' ≡ a' *ℤ b → c *ℤ d' ≡ c' *ℤ d → a *ℤ c *ℤ (b' *ℤ d') ≡ a' *ℤ c' *ℤ (b *ℤ d)
times_same a b a' b' c d c' d' h k =
    by_ring (a ∷ b' ∷ c ∷ d' ∷ []) (var 0 ⊗ var 2 ⊗ (var 1 ⊗ var 3)) (var 0 ⊗ var 1 ⊗ (var 2 ⊗ var 3)) refl
    ∙ (ap₂ (λ y z. y *ℤ z) h k ∙ by_ring (a' ∷ b ∷ c' ∷ d ∷ []) (var 0 ⊗ var 1 ⊗ (var 2 ⊗ var 3)) (var 0 ⊗ var 2 ⊗ (var 1 ⊗ var 3)) refl)

pub fraction_times : (x y z w : Ratio) → SameFraction x y → SameFraction z w → SameFraction (times x z) (times y w)
fraction_times x y z w h k = record {
  left = mul_pos x.bottom z.bottom h.left k.left;
  right = mul_pos y.bottom w.bottom h.right k.right;
  same = times_same x.top x.bottom y.top y.bottom z.top z.bottom w.top w.bottom h.same k.same;
}

pub fraction_power : (n : ℕ) (x y : Ratio) → SameFraction x y → SameFraction (power x n) (power y n)
fraction_power zero x y h = fraction_itself (ratio (pos 1) (pos 1)) (omega (arith, ints))
fraction_power (suc n) x y h = fraction_times x y (power x n) (power y n) h (fraction_power n x y h)

-- ---- signs
pub sign_above : (t d s e : ℤ) → pos 0 <ℤ d → pos 0 <ℤ e → t *ℤ e ≡ s *ℤ d → pos 0 <ℤ t → pos 0 <ℤ s
sign_above t d s e hd he h up = go (le_or_lt s (pos 0))
  where
    go : (s ≤ℤ pos 0) ⊎ (pos 0 <ℤ s) → pos 0 <ℤ s
    go (inl l) = absurd (omega (arith, linear, mul_pos t e up he, mul_le_right s (pos 0) d l (omega (arith, linear)), zero-*ℤ d))
    go (inr r) = r

pub sign_from : (t d s e : ℤ) → pos 0 <ℤ d → pos 0 <ℤ e → t *ℤ e ≡ s *ℤ d → pos 0 ≤ℤ t → pos 0 ≤ℤ s
sign_from t d s e hd he h up = le_cancel_right (pos 0) s d (omega (arith, linear, mul_nonneg t e up (omega (arith, linear)), zero-*ℤ d)) hd

pub sign_to : (t d s e : ℤ) → pos 0 <ℤ d → pos 0 <ℤ e → t *ℤ e ≡ s *ℤ d → t ≤ℤ pos 0 → s ≤ℤ pos 0
sign_to t d s e hd he h low = le_cancel_right s (pos 0) d (omega (arith, linear, mul_le_right t (pos 0) e low (omega (arith, linear)), zero-*ℤ d, zero-*ℤ e)) hd

pub sign_none : (t d s e : ℤ) → pos 0 <ℤ d → pos 0 <ℤ e → t *ℤ e ≡ s *ℤ d → t ≡ pos 0 → s ≡ pos 0
sign_none t d s e hd he h z = let l = sign_from t d s e hd he h (omega (arith, linear)) in let k = sign_to t d s e hd he h (omega (arith, linear)) in omega (arith, linear)

-- ---- the order, by the sign of the difference
pub at_most_same : (x y z w : Ratio) → SameFraction x y → SameFraction z w → AtMostRatio x z → AtMostRatio y w
at_most_same x y z w h k l =
    let d = fraction_minus x y z w h k in
    let s = sign_to (minus x z).top (minus x z).bottom (minus y w).top (minus y w).bottom d.left d.right d.same (omega (arith, linear, neg_ℤ-*ℤ z.top x.bottom)) in
    omega (arith, linear, neg_ℤ-*ℤ w.top y.bottom)

pub at_most_gap : (x y : Ratio) → AtMostRatio x y ↔ (pos 0 ≤ℤ (minus y x).top)
at_most_gap x y = (λ l. omega (arith, linear, neg_ℤ-*ℤ x.top y.bottom), λ l. omega (arith, linear, neg_ℤ-*ℤ x.top y.bottom))

pub at_most_over : (x y : Ratio) → AtMostRatio x y ↔ ((minus x y).top ≤ℤ pos 0)
at_most_over x y = (λ l. omega (arith, linear, neg_ℤ-*ℤ y.top x.bottom), λ l. omega (arith, linear, neg_ℤ-*ℤ y.top x.bottom))

pub from_nought : (x : Ratio) → AtMostRatio nought x ↔ (pos 0 ≤ℤ x.top)
from_nought x =
    let none : nought.top *ℤ x.bottom ≡ pos 0 = zero-*ℤ x.bottom in
    let all : x.top *ℤ nought.bottom ≡ x.top = by_ring (x.top ∷ []) (var 0 ⊗ lit (pos 1)) (var 0) refl in
    (λ l. omega (arith, linear, none, all), λ l. omega (arith, linear, none, all))

pub to_nought : (x : Ratio) → AtMostRatio x nought ↔ (x.top ≤ℤ pos 0)
to_nought x =
    let none : nought.top *ℤ x.bottom ≡ pos 0 = zero-*ℤ x.bottom in
    let all : x.top *ℤ nought.bottom ≡ x.top = by_ring (x.top ∷ []) (var 0 ⊗ lit (pos 1)) (var 0) refl in
    (λ l. omega (arith, linear, none, all), λ l. omega (arith, linear, none, all))

pub same_same : (x y z w : Ratio) → SameFraction x y → SameFraction z w → SameRatio x z → SameRatio y w
same_same x y z w h k l =
    let d = fraction_minus x y z w h k in
    let s = sign_none (minus x z).top (minus x z).bottom (minus y w).top (minus y w).bottom d.left d.right d.same (omega (arith, linear, neg_ℤ-*ℤ z.top x.bottom)) in
    omega (arith, linear, neg_ℤ-*ℤ w.top y.bottom)

pub smaller_same : (x y z w : Ratio) → SameFraction x y → SameFraction z w → IsSmaller x z → IsSmaller y w
smaller_same x y z w h k l =
    let d = fraction_minus z w x y k h in
    let s = sign_above (minus z x).top (minus z x).bottom (minus w y).top (minus w y).bottom d.left d.right d.same (omega (arith, linear, neg_ℤ-*ℤ x.top z.bottom)) in
    omega (arith, linear, neg_ℤ-*ℤ y.top w.bottom)

pub better_same : (s : Sense) (x y z w : Ratio) → SameFraction x y → SameFraction z w → IsBetter s x z → IsBetter s y w
better_same Min x y z w h k l = smaller_same x y z w h k l
better_same Max x y z w h k l = smaller_same z w x y k h l

-- ---- quotients
over_same : (a b a' b' c d c' d' : ℤ) → a *ℤ b' ≡ a' *ℤ b → c *ℤ d' ≡ c' *ℤ d → a *ℤ d *ℤ (b' *ℤ c') ≡ a' *ℤ d' *ℤ (b *ℤ c)
over_same a b a' b' c d c' d' h k =
    by_ring (a ∷ b' ∷ c' ∷ d ∷ []) (var 0 ⊗ var 3 ⊗ (var 1 ⊗ var 2)) (var 0 ⊗ var 1 ⊗ (var 2 ⊗ var 3)) refl
    ∙ (ap₂ (λ y z. y *ℤ z) h (sym k) ∙ by_ring (a' ∷ b ∷ c ∷ d' ∷ []) (var 0 ⊗ var 1 ⊗ (var 2 ⊗ var 3)) (var 0 ⊗ var 3 ⊗ (var 1 ⊗ var 2)) refl)

pub fraction_over : (x y z w : Ratio) → SameFraction x y → SameFraction z w → SameValue (over x z) (over y w)
fraction_over x y z w h k = go z.top w.top k.same
  where
    go : (c c' : ℤ) → c *ℤ w.bottom ≡ c' *ℤ z.bottom → SameValue (over_parts x c z.bottom) (over_parts y c' w.bottom)
    go (pos zero) (pos zero) e = tt
    go (pos zero) (pos (suc n)) e = absurd (let s = sign_to (pos 0) z.bottom (pos (suc n)) w.bottom k.left k.right e (omega (arith, ints)) in omega (arith, ints))
    go (pos zero) (negsuc n) e = absurd (let s = sign_from (pos 0) z.bottom (negsuc n) w.bottom k.left k.right e (omega (arith, ints)) in s.le)
    go (pos (suc m)) (pos zero) e = absurd (let s = sign_above (pos (suc m)) z.bottom (pos 0) w.bottom k.left k.right e (omega (arith, ints)) in omega (arith, ints))
    go (pos (suc m)) (pos (suc n)) e = record {
      left = mul_pos x.bottom (pos (suc m)) h.left (omega (arith, ints));
      right = mul_pos y.bottom (pos (suc n)) h.right (omega (arith, ints));
      same = over_same x.top x.bottom y.top y.bottom (pos (suc m)) z.bottom (pos (suc n)) w.bottom h.same e;
    }
    go (pos (suc m)) (negsuc n) e = absurd (let s = sign_from (pos (suc m)) z.bottom (negsuc n) w.bottom k.left k.right e (omega (arith, ints)) in s.le)
    go (negsuc m) (pos zero) e = absurd (let s = sign_from (pos 0) w.bottom (negsuc m) z.bottom k.right k.left (sym e) (omega (arith, ints)) in s.le)
    go (negsuc m) (pos (suc n)) e = absurd (let s = sign_from (pos (suc n)) w.bottom (negsuc m) z.bottom k.right k.left (sym e) (omega (arith, ints)) in s.le)
    go (negsuc m) (negsuc n) e = record {
      left = mul_pos x.bottom (pos (suc m)) h.left (omega (arith, ints));
      right = mul_pos y.bottom (pos (suc n)) h.right (omega (arith, ints));
      same =
          let flip : pos (suc m) *ℤ w.bottom ≡ pos (suc n) *ℤ z.bottom = by_ring (pos (suc m) ∷ w.bottom ∷ []) (var 0 ⊗ var 1) (neg (neg (var 0) ⊗ var 1)) refl ∙ (ap neg_ℤ e ∙ by_ring (pos (suc n) ∷ z.bottom ∷ []) (neg (neg (var 0) ⊗ var 1)) (var 0 ⊗ var 1) refl) in
          neg_ℤ-*ℤ (x.top *ℤ z.bottom) (y.bottom *ℤ pos (suc n)) ∙ (ap neg_ℤ (over_same x.top x.bottom y.top y.bottom (pos (suc m)) z.bottom (pos (suc n)) w.bottom h.same flip) ∙ sym (neg_ℤ-*ℤ (y.top *ℤ w.bottom) (x.bottom *ℤ pos (suc m))));
    }

pub operation_same : (op : Operator) (x y z w : Ratio) → SameFraction x y → SameFraction z w → SameValue (operation op x z) (operation op y w)
operation_same Plus x y z w h k = fraction_plus x y z w h k
operation_same Minus x y z w h k = fraction_minus x y z w h k
operation_same Times x y z w h k = fraction_times x y z w h k
operation_same Over x y z w h k = fraction_over x y z w h k

-- ---- a summand that is equal falls away
pub plus_cancels : (x y z w : Ratio) → pos 0 <ℤ x.bottom → pos 0 <ℤ y.bottom → SameFraction z w → SameRatio (plus x z) (plus y w) → SameRatio x y
plus_cancels x y z w h k l e =
    cancel_right (x.top *ℤ y.bottom) (y.top *ℤ x.bottom) (z.bottom *ℤ w.bottom)
    (let one : (x.top *ℤ z.bottom +ℤ z.top *ℤ x.bottom) *ℤ (y.bottom *ℤ w.bottom) ≡ x.top *ℤ y.bottom *ℤ (z.bottom *ℤ w.bottom) +ℤ z.top *ℤ w.bottom *ℤ (x.bottom *ℤ y.bottom) =
    by_ring (x.top ∷ x.bottom ∷ y.bottom ∷ z.top ∷ z.bottom ∷ w.bottom ∷ []) ((var 0 ⊗ var 4 ⊕ var 3 ⊗ var 1) ⊗ (var 2 ⊗ var 5)) (var 0 ⊗ var 2 ⊗ (var 4 ⊗ var 5) ⊕ var 3 ⊗ var 5 ⊗ (var 1 ⊗ var 2)) refl in
    let two : (y.top *ℤ w.bottom +ℤ w.top *ℤ y.bottom) *ℤ (x.bottom *ℤ z.bottom) ≡ y.top *ℤ x.bottom *ℤ (z.bottom *ℤ w.bottom) +ℤ w.top *ℤ z.bottom *ℤ (x.bottom *ℤ y.bottom) =
    by_ring (y.top ∷ x.bottom ∷ y.bottom ∷ w.top ∷ z.bottom ∷ w.bottom ∷ []) ((var 0 ⊗ var 5 ⊕ var 3 ⊗ var 2) ⊗ (var 1 ⊗ var 4)) (var 0 ⊗ var 1 ⊗ (var 4 ⊗ var 5) ⊕ var 3 ⊗ var 4 ⊗ (var 1 ⊗ var 2)) refl in
    let both = ap (λ t. t *ℤ (x.bottom *ℤ y.bottom)) l.same in
    omega (arith, linear))
    (mul_pos z.bottom w.bottom l.left l.right)

plus_turned : (x z : Ratio) → pos 0 <ℤ x.bottom → pos 0 <ℤ z.bottom → SameFraction (plus x z) (plus z x)
plus_turned x z h k = record {
  left = mul_pos x.bottom z.bottom h k;
  right = mul_pos z.bottom x.bottom k h;
  same = by_ring (x.top ∷ x.bottom ∷ z.top ∷ z.bottom ∷ []) ((var 0 ⊗ var 3 ⊕ var 2 ⊗ var 1) ⊗ (var 3 ⊗ var 1)) ((var 2 ⊗ var 1 ⊕ var 0 ⊗ var 3) ⊗ (var 1 ⊗ var 3)) refl;
}

pub plus_cancels_first : (x y z w : Ratio) → SameFraction x y → pos 0 <ℤ z.bottom → pos 0 <ℤ w.bottom → SameRatio (plus x z) (plus y w) → SameRatio z w
plus_cancels_first x y z w h k l e = plus_cancels z w x y k l h (same_same (plus x z) (plus z x) (plus y w) (plus w y) (plus_turned x z h.left k) (plus_turned y w h.right l) e)

pub negated_cancels : (x y : Ratio) → SameRatio (negated x) (negated y) → SameRatio x y
negated_cancels x y e = omega (arith, linear, neg_ℤ-*ℤ x.top y.bottom, neg_ℤ-*ℤ y.top x.bottom)
