-- Sums of coefficients times coordinates.
use Rattle.std.proofs.Common.{◌≡◌, ◌⊎◌, inl, inr, ℕ, zero, suc, ◌<◌, ◌≤◌, ◌≢◌, ℤ, pos, neg_ℤ, ◌+ℤ◌, ◌*ℤ◌, true, false, cond, [], ◌∷◌, arith, refl, sym, ap, ap₂, ◌∙◌}
use Rattle.std.specs.Prelude.{nat_eq}
use lib.IntN.{*ℤ-zero, zero-*ℤ}
use Rattle.emp_algebra.proofs.Ring.{var, lit, neg, ◌⊕◌, ◌⊗◌, by_ring}
use Rattle.emp_form.specs.Form.{sum_to, line, column, quadratic, crossed, unit_at}

pub sum_to-below : (n : ℕ) (f g : ℕ → ℤ) → ((i : ℕ) → i < n → f i ≡ g i) → sum_to n f ≡ sum_to n g
sum_to-below zero f g h = refl
sum_to-below (suc n) f g h = ap₂ (λ x y. x +ℤ y) (sum_to-below n f g (λ i l. h i (omega arith))) (h n (omega arith))

pub sum_to-zero : (n : ℕ) (f : ℕ → ℤ) → ((i : ℕ) → f i ≡ pos 0) → sum_to n f ≡ pos 0
sum_to-zero zero f h = refl
sum_to-zero (suc n) f h = ap₂ (λ x y. x +ℤ y) (sum_to-zero n f h) (h n)

pub sum_to-plus : (n : ℕ) (f g : ℕ → ℤ) → sum_to n (λ i. f i +ℤ g i) ≡ sum_to n f +ℤ sum_to n g
sum_to-plus zero f g = refl
sum_to-plus (suc n) f g =
    ap (λ z. z +ℤ (f n +ℤ g n)) (sum_to-plus n f g) ∙ by_ring (sum_to n f ∷ sum_to n g ∷ f n ∷ g n ∷ []) (var 0 ⊕ var 1 ⊕ (var 2 ⊕ var 3)) (var 0 ⊕ var 2 ⊕ (var 1 ⊕ var 3)) refl

pub sum_to-scale : (n : ℕ) (k : ℤ) (f : ℕ → ℤ) → sum_to n (λ i. k *ℤ f i) ≡ k *ℤ sum_to n f
sum_to-scale zero k f = sym (*ℤ-zero k)
sum_to-scale (suc n) k f =
    ap (λ z. z +ℤ k *ℤ f n) (sum_to-scale n k f) ∙ by_ring (k ∷ sum_to n f ∷ f n ∷ []) (var 0 ⊗ var 1 ⊕ var 0 ⊗ var 2) (var 0 ⊗ (var 1 ⊕ var 2)) refl

-- ---- tests
nat_eq-same : (n : ℕ) → nat_eq n n ≡ true
nat_eq-same n = grind arith

nat_eq-below : (i n : ℕ) → i < n → nat_eq i n ≡ false
nat_eq-below i n h = grind arith

nat_cases : (k n : ℕ) → (k < n) ⊎ (n ≤ k)
nat_cases k n = grind arith

-- ---- lines
-- u times a plus v times b
pub line-combine : (n : ℕ) (a b x : ℕ → ℤ) (u v : ℤ) → line n (λ i. u *ℤ a i +ℤ v *ℤ b i) x ≡ u *ℤ line n a x +ℤ v *ℤ line n b x
line-combine zero a b x u v = by_ring (u ∷ v ∷ []) (lit (pos 0)) (var 0 ⊗ lit (pos 0) ⊕ var 1 ⊗ lit (pos 0)) refl
line-combine (suc n) a b x u v =
    ap (λ z. z +ℤ (u *ℤ a n +ℤ v *ℤ b n) *ℤ x n) (line-combine n a b x u v) ∙ by_ring (u ∷ v ∷ line n a x ∷ line n b x ∷ a n ∷ b n ∷ x n ∷ [])
    (var 0 ⊗ var 2 ⊕ var 1 ⊗ var 3 ⊕ (var 0 ⊗ var 4 ⊕ var 1 ⊗ var 5) ⊗ var 6)
    (var 0 ⊗ (var 2 ⊕ var 4 ⊗ var 6) ⊕ var 1 ⊗ (var 3 ⊕ var 5 ⊗ var 6))
    refl

pub line-zero : (n : ℕ) (a x : ℕ → ℤ) → ((i : ℕ) → a i ≡ pos 0) → line n a x ≡ pos 0
line-zero n a x h = sum_to-zero n (λ i. a i *ℤ x i) (λ i. ap (λ z. z *ℤ x i) (h i) ∙ zero-*ℤ (x i))

-- ---- quadratic parts
pub quadratic-combine : (n : ℕ) (s t : ℕ → ℕ → ℤ) (x : ℕ → ℤ) (u v : ℤ) → quadratic n (λ i j. u *ℤ s i j +ℤ v *ℤ t i j) x ≡ u *ℤ quadratic n s x +ℤ v *ℤ quadratic n t x
quadratic-combine zero s t x u v = by_ring (u ∷ v ∷ []) (lit (pos 0)) (var 0 ⊗ lit (pos 0) ⊕ var 1 ⊗ lit (pos 0)) refl
quadratic-combine (suc n) s t x u v =
    ap₂ (λ z w. z +ℤ x n *ℤ (w +ℤ (u *ℤ s n n +ℤ v *ℤ t n n) *ℤ x n)) (quadratic-combine n s t x u v) (line-combine n (λ i. s i n) (λ i. t i n) x u v) ∙ by_ring (u ∷ v ∷ quadratic n s x ∷ quadratic n t x ∷ line n (λ i. s i n) x ∷ line n (λ i. t i n) x ∷ s n n ∷ t n n ∷ x n ∷ [])
    (var 0 ⊗ var 2 ⊕ var 1 ⊗ var 3 ⊕ var 8 ⊗ (var 0 ⊗ var 4 ⊕ var 1 ⊗ var 5 ⊕ (var 0 ⊗ var 6 ⊕ var 1 ⊗ var 7) ⊗ var 8))
    (var 0 ⊗ (var 2 ⊕ var 8 ⊗ (var 4 ⊕ var 6 ⊗ var 8)) ⊕ var 1 ⊗ (var 3 ⊕ var 8 ⊗ (var 5 ⊕ var 7 ⊗ var 8)))
    refl

line-zero_below : (n : ℕ) (a x : ℕ → ℤ) → ((i : ℕ) → i < n → a i ≡ pos 0) → line n a x ≡ pos 0
line-zero_below zero a x h = refl
line-zero_below (suc n) a x h = ap₂ (λ z w. z +ℤ w *ℤ x n) (line-zero_below n a x (λ i l. h i (omega arith))) (h n (omega arith)) ∙ by_ring (x n ∷ []) (lit (pos 0) ⊕ lit (pos 0) ⊗ var 0) (lit (pos 0)) refl

pub quadratic-zero : (n : ℕ) (s : ℕ → ℕ → ℤ) (x : ℕ → ℤ) → ((i j : ℕ) → i ≤ j → s i j ≡ pos 0) → quadratic n s x ≡ pos 0
quadratic-zero n s x h =
    sum_to-zero n (column s x) (λ j. ap₂ (λ z w. x j *ℤ (z +ℤ w *ℤ x j)) (line-zero_below j (λ i. s i j) x (λ i l. h i j (omega arith))) (h j j (omega arith)) ∙ by_ring (x j ∷ []) (var 0 ⊗ (lit (pos 0) ⊕ lit (pos 0) ⊗ var 0)) (lit (pos 0)) refl)

-- ---- sums, multiples and opposites
pub line-scale : (n : ℕ) (k : ℤ) (a x : ℕ → ℤ) → line n (λ i. k *ℤ a i) x ≡ k *ℤ line n a x
line-scale zero k a x = sym (*ℤ-zero k)
line-scale (suc n) k a x =
    ap (λ z. z +ℤ k *ℤ a n *ℤ x n) (line-scale n k a x) ∙ by_ring (k ∷ line n a x ∷ a n ∷ x n ∷ []) (var 0 ⊗ var 1 ⊕ var 0 ⊗ var 2 ⊗ var 3) (var 0 ⊗ (var 1 ⊕ var 2 ⊗ var 3)) refl

pub line-neg : (n : ℕ) (a x : ℕ → ℤ) → line n (λ i. neg_ℤ (a i)) x ≡ neg_ℤ (line n a x)
line-neg zero a x = refl
line-neg (suc n) a x =
    ap (λ z. z +ℤ neg_ℤ (a n) *ℤ x n) (line-neg n a x) ∙ by_ring (line n a x ∷ a n ∷ x n ∷ []) (neg (var 0) ⊕ neg (var 1) ⊗ var 2) (neg (var 0 ⊕ var 1 ⊗ var 2)) refl

line-plus : (n : ℕ) (a b x : ℕ → ℤ) → line n (λ i. a i +ℤ b i) x ≡ line n a x +ℤ line n b x
line-plus zero a b x = refl
line-plus (suc n) a b x =
    ap (λ z. z +ℤ (a n +ℤ b n) *ℤ x n) (line-plus n a b x) ∙ by_ring (line n a x ∷ line n b x ∷ a n ∷ b n ∷ x n ∷ []) (var 0 ⊕ var 1 ⊕ (var 2 ⊕ var 3) ⊗ var 4) (var 0 ⊕ var 2 ⊗ var 4 ⊕ (var 1 ⊕ var 3 ⊗ var 4)) refl

pub quadratic-scale : (n : ℕ) (k : ℤ) (s : ℕ → ℕ → ℤ) (x : ℕ → ℤ) → quadratic n (λ i j. k *ℤ s i j) x ≡ k *ℤ quadratic n s x
quadratic-scale zero k s x = sym (*ℤ-zero k)
quadratic-scale (suc n) k s x =
    ap₂ (λ z w. z +ℤ x n *ℤ (w +ℤ k *ℤ s n n *ℤ x n)) (quadratic-scale n k s x) (line-scale n k (λ i. s i n) x) ∙ by_ring (k ∷ quadratic n s x ∷ line n (λ i. s i n) x ∷ s n n ∷ x n ∷ []) (var 0 ⊗ var 1 ⊕ var 4 ⊗ (var 0 ⊗ var 2 ⊕ var 0 ⊗ var 3 ⊗ var 4)) (var 0 ⊗ (var 1 ⊕ var 4 ⊗ (var 2 ⊕ var 3 ⊗ var 4))) refl

pub quadratic-neg : (n : ℕ) (s : ℕ → ℕ → ℤ) (x : ℕ → ℤ) → quadratic n (λ i j. neg_ℤ (s i j)) x ≡ neg_ℤ (quadratic n s x)
quadratic-neg zero s x = refl
quadratic-neg (suc n) s x =
    ap₂ (λ z w. z +ℤ x n *ℤ (w +ℤ neg_ℤ (s n n) *ℤ x n)) (quadratic-neg n s x) (line-neg n (λ i. s i n) x) ∙ by_ring (quadratic n s x ∷ line n (λ i. s i n) x ∷ s n n ∷ x n ∷ []) (neg (var 0) ⊕ var 3 ⊗ (neg (var 1) ⊕ neg (var 2) ⊗ var 3)) (neg (var 0 ⊕ var 3 ⊗ (var 1 ⊕ var 2 ⊗ var 3))) refl

pub quadratic-plus : (n : ℕ) (s t : ℕ → ℕ → ℤ) (x : ℕ → ℤ) → quadratic n (λ i j. s i j +ℤ t i j) x ≡ quadratic n s x +ℤ quadratic n t x
quadratic-plus zero s t x = refl
quadratic-plus (suc n) s t x =
    ap₂ (λ z w. z +ℤ x n *ℤ (w +ℤ (s n n +ℤ t n n) *ℤ x n)) (quadratic-plus n s t x) (line-plus n (λ i. s i n) (λ i. t i n) x) ∙ by_ring (quadratic n s x ∷ quadratic n t x ∷ line n (λ i. s i n) x ∷ line n (λ i. t i n) x ∷ s n n ∷ t n n ∷ x n ∷ [])
    (var 0 ⊕ var 1 ⊕ var 6 ⊗ (var 2 ⊕ var 3 ⊕ (var 4 ⊕ var 5) ⊗ var 6))
    (var 0 ⊕ var 6 ⊗ (var 2 ⊕ var 4 ⊗ var 6) ⊕ (var 1 ⊕ var 6 ⊗ (var 3 ⊕ var 5 ⊗ var 6)))
    refl

-- one coefficient of 1
unit_at-same : (k : ℕ) → unit_at k k ≡ pos 1
unit_at-same k = ap (λ t. cond t (pos 1) (pos 0)) (nat_eq-same k)

unit_at-other : (k i : ℕ) → i ≢ k → unit_at k i ≡ pos 0
unit_at-other k i h = ap (λ t. cond t (pos 1) (pos 0)) (let e : nat_eq i k ≡ false = grind arith in e)

pub line-unit_none : (n k : ℕ) (x : ℕ → ℤ) → n ≤ k → line n (unit_at k) x ≡ pos 0
line-unit_none zero k x h = refl
line-unit_none (suc n) k x h = ap₂ (λ z w. z +ℤ w *ℤ x n) (line-unit_none n k x (omega arith)) (unit_at-other k n (omega arith)) ∙ by_ring (x n ∷ []) (lit (pos 0) ⊕ lit (pos 0) ⊗ var 0) (lit (pos 0)) refl

pub line-unit : (n k : ℕ) (x : ℕ → ℤ) → k < n → line n (unit_at k) x ≡ x k
line-unit zero k x h = absurd (omega arith)
line-unit (suc n) k x h = go (nat_cases k n) (λ l. line-unit n k x l)
  where
    go : (k < n) ⊎ (n ≤ k) → (k < n → line n (unit_at k) x ≡ x k) → line n (unit_at k) x +ℤ unit_at k n *ℤ x n ≡ x k
    go (inl l) before = ap₂ (λ z w. z +ℤ w *ℤ x n) (before l) (unit_at-other k n (omega arith)) ∙ by_ring (x k ∷ x n ∷ []) (var 0 ⊕ lit (pos 0) ⊗ var 1) (var 0) refl
    go (inr l) before = let e : k ≡ n = omega arith in ap₂ (λ z w. z +ℤ w *ℤ x n) (line-unit_none n k x l) (ap (λ m. unit_at k m) (sym e) ∙ unit_at-same k) ∙ (by_ring (x n ∷ []) (lit (pos 0) ⊕ lit (pos 1) ⊗ var 0) (var 0) refl ∙ ap x (sym e))

-- ---- products of lines
crossed-own : (a b : ℕ → ℤ) (n : ℕ) → crossed a b n n ≡ a n *ℤ b n
crossed-own a b n = ap (λ t. cond t (a n *ℤ b n) (a n *ℤ b n +ℤ a n *ℤ b n)) (nat_eq-same n)

crossed-below : (a b : ℕ → ℤ) (i n : ℕ) → i < n → crossed a b i n ≡ b n *ℤ a i +ℤ a n *ℤ b i
crossed-below a b i n h =
    ap (λ t. cond t (a i *ℤ b i) (a i *ℤ b n +ℤ a n *ℤ b i)) (nat_eq-below i n h) ∙ by_ring (a i ∷ b i ∷ a n ∷ b n ∷ []) (var 0 ⊗ var 3 ⊕ var 2 ⊗ var 1) (var 3 ⊗ var 0 ⊕ var 2 ⊗ var 1) refl

-- the column of the last variable
crossed-line : (n : ℕ) (a b x : ℕ → ℤ) → line n (λ i. crossed a b i n) x ≡ b n *ℤ line n a x +ℤ a n *ℤ line n b x
crossed-line n a b x =
    sum_to-below n (λ i. crossed a b i n *ℤ x i) (λ i. (b n *ℤ a i +ℤ a n *ℤ b i) *ℤ x i) (λ i l. ap (λ z. z *ℤ x i) (crossed-below a b i n l)) ∙ line-combine n a b x (b n) (a n)

pub line-times : (n : ℕ) (a b x : ℕ → ℤ) → quadratic n (crossed a b) x ≡ line n a x *ℤ line n b x
line-times zero a b x = refl
line-times (suc n) a b x =
    ap₂ (λ z w. z +ℤ x n *ℤ w) (line-times n a b x) (ap₂ (λ z w. z +ℤ w *ℤ x n) (crossed-line n a b x) (crossed-own a b n)) ∙ by_ring (line n a x ∷ line n b x ∷ a n ∷ b n ∷ x n ∷ [])
    (var 0 ⊗ var 1 ⊕ var 4 ⊗ (var 3 ⊗ var 0 ⊕ var 2 ⊗ var 1 ⊕ var 2 ⊗ var 3 ⊗ var 4))
    ((var 0 ⊕ var 2 ⊗ var 4) ⊗ (var 1 ⊕ var 3 ⊗ var 4))
    refl
