-- Profits as equations of whole numbers.
use Rattle.std.proofs.Common.{◌≡◌, ◌⊎◌, inl, inr, ℕ, ◌^◌, ◌<◌, ℤ, pos, neg_ℤ, ◌+ℤ◌, ◌-ℤ◌, ◌*ℤ◌, ◌≤ℤ◌, ◌<ℤ◌, Bool, true, false, [], ◌∷◌, arith, refl, sym, ap, subst, ◌∙◌}
use Rattle.std.specs.Prelude.{nat_lt}
use Rattle.std.proofs.lemmas.Int.{ints}
use lib.IntN.{zero-*ℤ}
use Rattle.std.proofs.lemmas.Bool.{lt-ltb}
use Rattle.emp_algebra.proofs.Laws.{*ℤ_assoc, mul_nonneg, mul_pos}
use Rattle.emp_algebra.proofs.Order.{linear, le_or_lt, le_cancel_right, cancel_right, square_nonneg}
use Rattle.emp_algebra.proofs.Ring.{var, lit, neg, ◌⊕◌, ◌⊖◌, ◌⊗◌, by_ring}
use Rattle.emp_num.specs.Ratio.{ratio, minus, times, SameRatio}
use Rattle.emp_num.specs.Whole.{whole, whole_by}
use Rattle.emp_num.specs.declared.frac.Frac.{Frac}
use Rattle.emp_duopoly.proofs.Balance.{slope, IsAnswer}

-- the profit P from the amount Q, all over D, where the market's amount is S
abbrev pub IsEarned : ℤ → ℤ → ℤ → ℤ → ℤ → ℤ → Type 0
IsEarned demand cost P D S Q = P *ℤ D ≡ (demand *ℤ D -ℤ S -ℤ cost *ℤ D) *ℤ Q

-- ---- as values of expressions
-- (a - I - J) Q - c Q
abbrev pub PaysTwo : ℤ → ℤ → ℤ → ℤ → ℤ → ℤ → ℤ → ℤ → ℤ → Type 0
PaysTwo a b c d P D I J Q = SameRatio (ratio P D) (minus (times (minus (minus (ratio a b) (ratio I D)) (ratio J D)) (ratio Q D)) (times (ratio c d) (ratio Q D)))

-- (a - Q) Q - c Q
abbrev pub PaysOne : ℤ → ℤ → ℤ → ℤ → ℤ → ℤ → ℤ → Type 0
PaysOne a b c d P D Q = SameRatio (ratio P D) (minus (times (minus (ratio a b) (ratio Q D)) (ratio Q D)) (times (ratio c d) (ratio Q D)))

two_left : (P D : ℤ) → P *ℤ (pos 1 *ℤ D *ℤ D *ℤ D *ℤ (pos 1 *ℤ D)) ≡ P *ℤ D *ℤ (D *ℤ D *ℤ D)
two_left P D = by_ring (P ∷ D ∷ []) (var 0 ⊗ (lit (pos 1) ⊗ var 1 ⊗ var 1 ⊗ var 1 ⊗ (lit (pos 1) ⊗ var 1))) (var 0 ⊗ var 1 ⊗ (var 1 ⊗ var 1 ⊗ var 1)) refl

two_right : (a c D I J Q : ℤ) → (((a *ℤ D +ℤ neg_ℤ I *ℤ pos 1) *ℤ D +ℤ neg_ℤ J *ℤ (pos 1 *ℤ D)) *ℤ Q *ℤ (pos 1 *ℤ D) +ℤ neg_ℤ (c *ℤ Q) *ℤ (pos 1 *ℤ D *ℤ D *ℤ D)) *ℤ D ≡ (a *ℤ D -ℤ (I +ℤ J) -ℤ c *ℤ D) *ℤ Q *ℤ (D *ℤ D *ℤ D)
two_right a c D I J Q =
    by_ring (a ∷ c ∷ D ∷ I ∷ J ∷ Q ∷ [])
    ((((var 0 ⊗ var 2 ⊕ neg (var 3) ⊗ lit (pos 1)) ⊗ var 2 ⊕ neg (var 4) ⊗ (lit (pos 1) ⊗ var 2)) ⊗ var 5 ⊗ (lit (pos 1) ⊗ var 2) ⊕ neg (var 1 ⊗ var 5) ⊗ (lit (pos 1) ⊗ var 2 ⊗ var 2 ⊗ var 2)) ⊗ var 2)
    ((var 0 ⊗ var 2 ⊖ (var 3 ⊕ var 4) ⊖ var 1 ⊗ var 2) ⊗ var 5 ⊗ (var 2 ⊗ var 2 ⊗ var 2))
    refl

pub earned_by_two : (a c P D I J Q : ℤ) → pos 0 <ℤ D → PaysTwo a (pos 1) c (pos 1) P D I J Q → IsEarned a c P D (I +ℤ J) Q
earned_by_two a c P D I J Q up h =
    cancel_right (P *ℤ D) ((a *ℤ D -ℤ (I +ℤ J) -ℤ c *ℤ D) *ℤ Q) (D *ℤ D *ℤ D) (sym (two_left P D) ∙ (h ∙ two_right a c D I J Q)) (mul_pos (D *ℤ D) D (mul_pos D D up up) up)

pub pays_two : (a c P D I J Q : ℤ) → IsEarned a c P D (I +ℤ J) Q → PaysTwo a (pos 1) c (pos 1) P D I J Q
pays_two a c P D I J Q h = two_left P D ∙ (ap (λ z. z *ℤ (D *ℤ D *ℤ D)) h ∙ sym (two_right a c D I J Q))

one_left : (P D : ℤ) → P *ℤ (pos 1 *ℤ D *ℤ D *ℤ (pos 1 *ℤ D)) ≡ P *ℤ D *ℤ (D *ℤ D)
one_left P D = by_ring (P ∷ D ∷ []) (var 0 ⊗ (lit (pos 1) ⊗ var 1 ⊗ var 1 ⊗ (lit (pos 1) ⊗ var 1))) (var 0 ⊗ var 1 ⊗ (var 1 ⊗ var 1)) refl

one_right : (a c D Q : ℤ) → ((a *ℤ D +ℤ neg_ℤ Q *ℤ pos 1) *ℤ Q *ℤ (pos 1 *ℤ D) +ℤ neg_ℤ (c *ℤ Q) *ℤ (pos 1 *ℤ D *ℤ D)) *ℤ D ≡ (a *ℤ D -ℤ Q -ℤ c *ℤ D) *ℤ Q *ℤ (D *ℤ D)
one_right a c D Q =
    by_ring (a ∷ c ∷ D ∷ Q ∷ [])
    (((var 0 ⊗ var 2 ⊕ neg (var 3) ⊗ lit (pos 1)) ⊗ var 3 ⊗ (lit (pos 1) ⊗ var 2) ⊕ neg (var 1 ⊗ var 3) ⊗ (lit (pos 1) ⊗ var 2 ⊗ var 2)) ⊗ var 2)
    ((var 0 ⊗ var 2 ⊖ var 3 ⊖ var 1 ⊗ var 2) ⊗ var 3 ⊗ (var 2 ⊗ var 2))
    refl

pub earned_by_one : (a c P D Q : ℤ) → pos 0 <ℤ D → PaysOne a (pos 1) c (pos 1) P D Q → IsEarned a c P D Q Q
earned_by_one a c P D Q up h =
    cancel_right (P *ℤ D) ((a *ℤ D -ℤ Q -ℤ c *ℤ D) *ℤ Q) (D *ℤ D) (sym (one_left P D) ∙ (h ∙ one_right a c D Q)) (mul_pos D D up up)

pub pays_one : (a c P D Q : ℤ) → IsEarned a c P D Q Q → PaysOne a (pos 1) c (pos 1) P D Q
pays_one a c P D Q h = one_left P D ∙ (ap (λ z. z *ℤ (D *ℤ D)) h ∙ sym (one_right a c D Q))

-- ---- whole numbers as fractions
pub record IsWhole (f : Frac) (n : ℕ) : Type 0 where
  pub num : f.num ≡ pos n
  pub den : f.den ≡ pos 1

-- the numbers of a market are below 40
pub is_whole : (n : ℕ) → n < 40 → IsWhole (whole n) n
is_whole n h = go (nat_lt n (2 ^ 126)) refl (lt-ltb n (2 ^ 126) (omega arith))
  where
    go : (b : Bool) (e : nat_lt n (2 ^ 126) ≡ b) → b ≡ true → IsWhole (whole_by n b e) n
    go true e h = record { num = refl; den = refl }
    go false e h = cc

-- ---- no amount earns more than the best answer
-- 36 times the profit at the amount Q, where the others sell o sixths
moved : (a c o x P D S Q : ℤ) → IsEarned a c P D S Q → pos 6 *ℤ (S -ℤ Q) ≡ o *ℤ D → P *ℤ pos 36 *ℤ D ≡ (pos 6 *ℤ (a -ℤ c) *ℤ D -ℤ o *ℤ D -ℤ pos 6 *ℤ Q) *ℤ (pos 6 *ℤ Q)
moved a c o x P D S Q h e =
    by_ring (P ∷ D ∷ []) (var 0 ⊗ lit (pos 36) ⊗ var 1) (lit (pos 36) ⊗ (var 0 ⊗ var 1)) refl ∙ (ap (λ z. pos 36 *ℤ z) h ∙ (by_ring (a ∷ c ∷ D ∷ S ∷ Q ∷ []) (lit (pos 36) ⊗ ((var 0 ⊗ var 2 ⊖ var 3 ⊖ var 1 ⊗ var 2) ⊗ var 4)) ((lit (pos 6) ⊗ (var 0 ⊖ var 1) ⊗ var 2 ⊖ lit (pos 6) ⊗ (var 3 ⊖ var 4) ⊖ lit (pos 6) ⊗ var 4) ⊗ (lit (pos 6) ⊗ var 4)) refl ∙ ap (λ z. (pos 6 *ℤ (a -ℤ c) *ℤ D -ℤ z -ℤ pos 6 *ℤ Q) *ℤ (pos 6 *ℤ Q)) e))

-- the amount x earns as much as T over D, the slope at x times the step from T to x, and a square
compared : (a o x D T : ℤ) → (pos 6 *ℤ a -ℤ o -ℤ x) *ℤ x *ℤ D *ℤ D ≡ (pos 6 *ℤ a *ℤ D -ℤ o *ℤ D -ℤ T) *ℤ T +ℤ (slope a o x *ℤ (x *ℤ D -ℤ T) *ℤ D +ℤ (x *ℤ D -ℤ T) *ℤ (x *ℤ D -ℤ T))
compared a o x D T =
    by_ring (a ∷ o ∷ x ∷ D ∷ T ∷ [])
    ((lit (pos 6) ⊗ var 0 ⊖ var 1 ⊖ var 2) ⊗ var 2 ⊗ var 3 ⊗ var 3)
    ((lit (pos 6) ⊗ var 0 ⊗ var 3 ⊖ var 1 ⊗ var 3 ⊖ var 4) ⊗ var 4 ⊕ ((lit (pos 6) ⊗ var 0 ⊖ var 1 ⊖ lit (pos 2) ⊗ var 2) ⊗ (var 2 ⊗ var 3 ⊖ var 4) ⊗ var 3 ⊕ (var 2 ⊗ var 3 ⊖ var 4) ⊗ (var 2 ⊗ var 3 ⊖ var 4)))
    refl

turned : (g y : ℤ) → g ≤ℤ pos 0 → y ≤ℤ pos 0 → pos 0 ≤ℤ (g *ℤ y)
turned g y h k =
    let p : pos 0 ≤ℤ (neg_ℤ g *ℤ neg_ℤ y) = mul_nonneg (neg_ℤ g) (neg_ℤ y) (omega (arith, ints)) (omega (arith, ints)) in
    let e : neg_ℤ g *ℤ neg_ℤ y ≡ g *ℤ y = by_ring (g ∷ y ∷ []) (neg (var 0) ⊗ neg (var 1)) (var 0 ⊗ var 1) refl in
    subst (λ z. pos 0 ≤ℤ z) e p

level : (g y : ℤ) → g ≡ pos 0 → pos 0 ≤ℤ (g *ℤ y)
level g y e = subst (λ z. pos 0 ≤ℤ z) (sym (ap (λ g. g *ℤ y) e ∙ zero-*ℤ y)) (omega (arith, ints))

-- at the best answer the slope times the step from an amount within the range is not below 0
falls : (a m o x D T : ℤ) → pos 0 <ℤ m → IsAnswer a m o x → pos 0 ≤ℤ T → T ≤ℤ (pos 6 *ℤ m *ℤ D) → pos 0 ≤ℤ (slope a o x *ℤ (x *ℤ D -ℤ T))
falls a m o x D T up h low high = go (le_or_lt x (pos 0)) (le_or_lt (pos 6 *ℤ m) x)
  where
    go : (x ≤ℤ pos 0) ⊎ (pos 0 <ℤ x) → ((pos 6 *ℤ m) ≤ℤ x) ⊎ (x <ℤ (pos 6 *ℤ m)) → pos 0 ≤ℤ (slope a o x *ℤ (x *ℤ D -ℤ T))
    go (inl none) l =
        let zero : x ≡ pos 0 = omega (arith, ints, h.low) in
        let e : x *ℤ D ≡ pos 0 = ap (λ x. x *ℤ D) zero ∙ zero-*ℤ D in
        turned (slope a o x) (x *ℤ D -ℤ T) (h.not_more (omega (arith, ints))) (omega (arith, linear))
    go (inr some) (inl full) =
        let all : x ≡ pos 6 *ℤ m = omega (arith, ints, h.high) in
        let e : x *ℤ D ≡ pos 6 *ℤ m *ℤ D = ap (λ x. x *ℤ D) all in
        mul_nonneg (slope a o x) (x *ℤ D -ℤ T) (h.not_less some) (omega (arith, linear))
    go (inr some) (inr room) = level (slope a o x) (x *ℤ D -ℤ T) (let p = h.not_less some in let q = h.not_more room in omega (arith, ints))

-- no amount Q over D within the range earns more than the best answer x
pub no_gain : (a c m o x P D S Q : ℤ) → pos 0 <ℤ D → pos 0 <ℤ m → IsAnswer (a -ℤ c) m o x → IsEarned a c P D S Q → pos 6 *ℤ (S -ℤ Q) ≡ o *ℤ D → pos 0 ≤ℤ Q → Q ≤ℤ (m *ℤ D) → (P *ℤ pos 36) ≤ℤ ((pos 6 *ℤ (a -ℤ c) -ℤ o -ℤ x) *ℤ x *ℤ D)
no_gain a c m o x P D S Q up up_m h earned rest low high =
    let e : pos 6 *ℤ m *ℤ D ≡ pos 6 *ℤ (m *ℤ D) = *ℤ_assoc (pos 6) m D in
    let step = falls (a -ℤ c) m o x D (pos 6 *ℤ Q) up_m h (six (pos 0) Q low) (subst (λ z. (pos 6 *ℤ Q) ≤ℤ z) (sym e) (six Q (m *ℤ D) high)) in
    le_cancel_right (P *ℤ pos 36) ((pos 6 *ℤ (a -ℤ c) -ℤ o -ℤ x) *ℤ x *ℤ D) D
    (joined _ _ _ _ _ (moved a c o x P D S Q earned rest) (compared (a -ℤ c) o x D (pos 6 *ℤ Q)) (mul_nonneg (slope (a -ℤ c) o x *ℤ (x *ℤ D -ℤ pos 6 *ℤ Q)) D step (omega (arith, ints))) (square_nonneg (x *ℤ D -ℤ pos 6 *ℤ Q)))
    up
  where
    six : (q z : ℤ) → q ≤ℤ z → (pos 6 *ℤ q) ≤ℤ (pos 6 *ℤ z)
    six q z h = omega (arith, ints)

    joined : (l r b s t : ℤ) → l ≡ b → r ≡ b +ℤ (s +ℤ t) → pos 0 ≤ℤ s → pos 0 ≤ℤ t → l ≤ℤ r
    joined l r b s t e f h k = omega (arith, ints)
