-- The values of quantities that are made of fractions.
use Rattle.std.proofs.Common.{◌≡◌, ◌⊎◌, inl, inr, ℕ, zero, suc, ◌<◌, ◌≤◌, ℤ, pos, ◌+ℤ◌, ◌-ℤ◌, ◌*ℤ◌, ◌<ℤ◌, List, [], ◌∷◌, ◌++◌, length, take, drop, Some, refl, sym, ap, ap₂, ◌∙◌, arith}
use lib.IntN.{zero-*ℤ, *ℤ-zero}
use Rattle.std.proofs.lemmas.Int.{ints}
use Rattle.emp_algebra.specs.Vector.{cell, dot}
use Rattle.emp_algebra.specs.Deciding.{value_times}
use Rattle.emp_algebra.proofs.Laws.{mul_pos}
use Rattle.emp_algebra.proofs.Order.{cancel_right}
use Rattle.emp_algebra.proofs.Ring.{var, lit, ◌⊕◌, ◌⊖◌, ◌⊗◌, by_ring}
use Rattle.emp_num.specs.declared.frac.Frac.{Frac}
use Rattle.emp_rows.specs.declared.affine.Affine.{Affine}
use Rattle.emp_rows.specs.Primitive.{made, weighted_sum, IsMultiple}
use Rattle.emp_rows.proofs.Multiples.{made_multiple}
use Rattle.emp_conditions.specs.Base.{Base}
use Rattle.emp_quantities.specs.Over.{raised}
use Rattle.emp_quantities.proofs.Weights.{weight, over_cell}

-- ---- products cell by cell
none_dot : (r ys : List ℤ) → ((i : ℕ) → cell r i *ℤ cell ys i ≡ pos 0) → dot r ys ≡ pos 0
none_dot [] ys h = refl
none_dot (a ∷ r) [] h = refl
none_dot (a ∷ r) (y ∷ ys) h = ap₂ (λ u v. u +ℤ v) (h 0) (none_dot r ys (λ i. h (suc i)))

pub same_dot : (q xs r ys : List ℤ) → ((i : ℕ) → cell q i *ℤ cell xs i ≡ cell r i *ℤ cell ys i) → dot q xs ≡ dot r ys
same_dot [] xs r ys h = sym (none_dot r ys (λ i. sym (h i) ∙ zero-*ℤ (cell xs i)))
same_dot (a ∷ q) [] r ys h = sym (none_dot r ys (λ i. sym (h i) ∙ *ℤ-zero (cell (a ∷ q) i)))
same_dot (a ∷ q) (x ∷ xs) [] ys h = none_dot (a ∷ q) (x ∷ xs) (λ i. h i ∙ zero-*ℤ (cell ys i))
same_dot (a ∷ q) (x ∷ xs) (b ∷ r) [] h = none_dot (a ∷ q) (x ∷ xs) (λ i. h i ∙ *ℤ-zero (cell (b ∷ r) i))
same_dot (a ∷ q) (x ∷ xs) (b ∷ r) (y ∷ ys) h = ap₂ (λ u v. u +ℤ v) (h 0) (same_dot q xs r ys (λ i. h (suc i)))

-- ---- the first numbers of a sequence
abbrev pub firsts : ℕ → (ℕ → ℤ) → List ℤ
firsts zero a = []
firsts (suc n) a = a 0 ∷ firsts n (λ i. a (suc i))

pub firsts_within : (n : ℕ) (a : ℕ → ℤ) (i : ℕ) → i < n → cell (firsts n a) i ≡ a i
firsts_within zero a i h = absurd (omega (arith, h))
firsts_within (suc n) a zero h = refl
firsts_within (suc n) a (suc i) h = firsts_within n (λ i. a (suc i)) i (omega (arith, h))

-- ---- sums of fractions over one number D
-- the fractions are these numbers over D
abbrev pub AreOver : ℤ → List Frac → (ℕ → ℤ) → Type 0
AreOver D [] a = Unit {0}
AreOver D (f ∷ fs) a = (f.num *ℤ D ≡ a 0 *ℤ f.den) × AreOver D fs (λ i. a (suc i))

sum_step : (D d x num den a S B T : ℤ) → num *ℤ D ≡ a *ℤ den → T *ℤ (D *ℤ d) ≡ S *ℤ B → (num *ℤ x *ℤ B +ℤ T *ℤ (den *ℤ d)) *ℤ (D *ℤ d) ≡ (a *ℤ x +ℤ S) *ℤ (den *ℤ d *ℤ B)
sum_step D d x num den a S B T h k =
    by_ring (num ∷ D ∷ x ∷ B ∷ d ∷ T ∷ den ∷ []) ((var 0 ⊗ var 2 ⊗ var 3 ⊕ var 5 ⊗ (var 6 ⊗ var 4)) ⊗ (var 1 ⊗ var 4)) (var 0 ⊗ var 1 ⊗ (var 2 ⊗ var 3 ⊗ var 4) ⊕ var 5 ⊗ (var 1 ⊗ var 4) ⊗ (var 6 ⊗ var 4)) refl
    ∙ (ap₂ (λ y z. y *ℤ (x *ℤ B *ℤ d) +ℤ z *ℤ (den *ℤ d)) h k
    ∙ by_ring (a ∷ den ∷ x ∷ B ∷ d ∷ S ∷ []) (var 0 ⊗ var 1 ⊗ (var 2 ⊗ var 3 ⊗ var 4) ⊕ var 5 ⊗ var 3 ⊗ (var 1 ⊗ var 4)) ((var 0 ⊗ var 2 ⊕ var 5) ⊗ (var 1 ⊗ var 4 ⊗ var 3)) refl)

sum_over : (D d : ℤ) (fs : List Frac) (a : ℕ → ℤ) (xs : List ℤ) → AreOver D fs a → (weighted_sum fs d xs).top *ℤ (D *ℤ d) ≡ dot (firsts (length fs) a) xs *ℤ (weighted_sum fs d xs).bottom
sum_over D d [] a xs h = by_ring (D ∷ d ∷ []) (lit (pos 0) ⊗ (var 0 ⊗ var 1)) (lit (pos 0) ⊗ lit (pos 1)) refl
sum_over D d (f ∷ fs) a [] h = by_ring (D ∷ d ∷ []) (lit (pos 0) ⊗ (var 0 ⊗ var 1)) (lit (pos 0) ⊗ lit (pos 1)) refl
sum_over D d (f ∷ fs) a (x ∷ xs) h =
    sum_step D d x f.num f.den (a 0) (dot (firsts (length fs) (λ i. a (suc i))) xs) (weighted_sum fs d xs).bottom (weighted_sum fs d xs).top h.0 (sum_over D d fs (λ i. a (suc i)) xs h.1)

bottom_above : (fs : List Frac) (d : ℤ) (xs : List ℤ) → pos 0 <ℤ d → pos 0 <ℤ (weighted_sum fs d xs).bottom
bottom_above [] d xs p = omega (arith, ints)
bottom_above (f ∷ fs) d [] p = omega (arith, ints)
bottom_above (f ∷ fs) d (x ∷ xs) p = mul_pos (f.den *ℤ d) (weighted_sum fs d xs).bottom (mul_pos f.den d f.positive p) (bottom_above fs d xs p)

-- v times b times D is t times the value
value_step : (v b t D d C S num den B T : ℤ) → pos 0 <ℤ (den *ℤ B) → v *ℤ (b *ℤ (den *ℤ B)) ≡ (t *ℤ d) *ℤ (num *ℤ B +ℤ T *ℤ den) → num *ℤ D ≡ C *ℤ den → T *ℤ (D *ℤ d) ≡ S *ℤ B → (b *ℤ D) *ℤ v ≡ t *ℤ (C *ℤ d +ℤ S)
value_step v b t D d C S num den B T above e h k =
    cancel_right ((b *ℤ D) *ℤ v) (t *ℤ (C *ℤ d +ℤ S)) (den *ℤ B)
    (by_ring (b ∷ D ∷ v ∷ den ∷ B ∷ []) (var 0 ⊗ var 1 ⊗ var 2 ⊗ (var 3 ⊗ var 4)) (var 2 ⊗ (var 0 ⊗ (var 3 ⊗ var 4)) ⊗ var 1) refl
    ∙ (ap (λ z. z *ℤ D) e
    ∙ (by_ring (t ∷ d ∷ num ∷ B ∷ T ∷ den ∷ D ∷ []) (var 0 ⊗ var 1 ⊗ (var 2 ⊗ var 3 ⊕ var 4 ⊗ var 5) ⊗ var 6) (var 0 ⊗ (var 2 ⊗ var 6 ⊗ (var 3 ⊗ var 1) ⊕ var 4 ⊗ (var 6 ⊗ var 1) ⊗ var 5)) refl
    ∙ (ap₂ (λ y z. t *ℤ (y *ℤ (B *ℤ d) +ℤ z *ℤ den)) h k
    ∙ by_ring (t ∷ C ∷ den ∷ B ∷ d ∷ S ∷ []) (var 0 ⊗ (var 1 ⊗ var 2 ⊗ (var 3 ⊗ var 4) ⊕ var 5 ⊗ var 3 ⊗ var 2)) (var 0 ⊗ (var 1 ⊗ var 4 ⊕ var 5) ⊗ (var 2 ⊗ var 3)) refl))))
    above

-- what holds over 1 and over 2 holds over each d
any_d : (K t qc Q C S d : ℤ) → K *ℤ (qc *ℤ pos 1 +ℤ Q) ≡ t *ℤ (C *ℤ pos 1 +ℤ S) → K *ℤ (qc *ℤ pos 2 +ℤ Q) ≡ t *ℤ (C *ℤ pos 2 +ℤ S) → K *ℤ (qc *ℤ d +ℤ Q) ≡ t *ℤ (C *ℤ d +ℤ S)
any_d K t qc Q C S d one two =
    by_ring (K ∷ qc ∷ d ∷ Q ∷ []) (var 0 ⊗ (var 1 ⊗ var 2 ⊕ var 3)) (var 0 ⊗ (var 1 ⊗ lit (pos 1) ⊕ var 3) ⊕ (var 2 ⊖ lit (pos 1)) ⊗ (var 0 ⊗ (var 1 ⊗ lit (pos 2) ⊕ var 3) ⊖ var 0 ⊗ (var 1 ⊗ lit (pos 1) ⊕ var 3))) refl
    ∙ (ap₂ (λ x y. x +ℤ (d -ℤ pos 1) *ℤ (y -ℤ x)) one two
    ∙ by_ring (t ∷ C ∷ d ∷ S ∷ []) (var 0 ⊗ (var 1 ⊗ lit (pos 1) ⊕ var 3) ⊕ (var 2 ⊖ lit (pos 1)) ⊗ (var 0 ⊗ (var 1 ⊗ lit (pos 2) ⊕ var 3) ⊖ var 0 ⊗ (var 1 ⊗ lit (pos 1) ⊕ var 3))) (var 0 ⊗ (var 1 ⊗ var 2 ⊕ var 3)) refl)

pub record IsValue (q : Affine) (C : ℤ) (r : List ℤ) : Type 0 where
  pub top : ℤ
  pub bottom : ℤ
  pub top_positive : pos 0 <ℤ top
  pub bottom_positive : pos 0 <ℤ bottom
  pub equal : (d : ℤ) (xs : List ℤ) → bottom *ℤ value_times q.constant q.cells d xs ≡ top *ℤ value_times C r d xs

-- the quantity made of fractions that are whole numbers over D is a multiple of these numbers
pub made_over : (cells : List Frac) (constant : Frac) (q : Affine) (D C : ℤ) (a : ℕ → ℤ) → made cells constant ≡ Some q → pos 0 <ℤ D → AreOver D cells a → constant.num *ℤ D ≡ C *ℤ constant.den → IsValue q C (firsts (length cells) a)
made_over cells constant q D C a e above h k = record {
  top = m.top;
  bottom = m.bottom *ℤ D;
  top_positive = m.top_positive;
  bottom_positive = mul_pos m.bottom D m.bottom_positive above;
  equal = λ d xs. any_d (m.bottom *ℤ D) m.top q.constant (dot q.cells xs) C (dot (firsts (length cells) a) xs) d (at (pos 1) (omega (arith, ints)) xs) (at (pos 2) (omega (arith, ints)) xs);
}
  where
    m : IsMultiple q cells constant
    m = made_multiple cells constant q e

    at : (d : ℤ) → pos 0 <ℤ d → (xs : List ℤ) → (m.bottom *ℤ D) *ℤ (q.constant *ℤ d +ℤ dot q.cells xs) ≡ m.top *ℤ (C *ℤ d +ℤ dot (firsts (length cells) a) xs)
    at d p xs = value_step (q.constant *ℤ d +ℤ dot q.cells xs) m.bottom m.top D d C (dot (firsts (length cells) a) xs) constant.num constant.den (weighted_sum cells d xs).bottom (weighted_sum cells d xs).top (mul_pos constant.den (weighted_sum cells d xs).bottom constant.positive (bottom_above cells d xs p)) (m.equal (record { den = d; nums = xs; positive = p })) k (sum_over D d cells a xs h)

-- no cell past the end
pub past_end : (xs : List ℤ) (i : ℕ) → length xs ≤ i → cell xs i ≡ pos 0
past_end [] i h = refl
past_end (x ∷ xs) zero h = absurd (omega (arith, h))
past_end (x ∷ xs) (suc i) h = past_end xs i (omega (arith, h))

pub firsts_dot : (n : ℤ) (c : ℕ) (bs : List Base) (N : ℕ) (r xs : List ℤ) → length xs ≡ N → dot (firsts N (λ i. cell r i *ℤ weight n c bs i)) xs ≡ dot r (take c xs ++ raised n bs (drop c xs))
firsts_dot n c bs N r xs e = same_dot (firsts N (λ i. cell r i *ℤ weight n c bs i)) xs r (take c xs ++ raised n bs (drop c xs)) each
  where
    turn : (a w x : ℤ) → a *ℤ w *ℤ x ≡ a *ℤ (w *ℤ x)
    turn a w x = by_ring (a ∷ w ∷ x ∷ []) (var 0 ⊗ var 1 ⊗ var 2) (var 0 ⊗ (var 1 ⊗ var 2)) refl

    inside : (i : ℕ) → i < N → cell (firsts N (λ i. cell r i *ℤ weight n c bs i)) i *ℤ cell xs i ≡ cell r i *ℤ cell (take c xs ++ raised n bs (drop c xs)) i
    inside i h = ap (λ z. z *ℤ cell xs i) (firsts_within N (λ i. cell r i *ℤ weight n c bs i) i h) ∙ (turn (cell r i) (weight n c bs i) (cell xs i) ∙ ap (λ z. cell r i *ℤ z) (sym (over_cell n c bs xs i)))

    outside : (i : ℕ) → N ≤ i → cell (firsts N (λ i. cell r i *ℤ weight n c bs i)) i *ℤ cell xs i ≡ cell r i *ℤ cell (take c xs ++ raised n bs (drop c xs)) i
    outside i h =
        let z = past_end xs i (omega (arith, e, h)) in
        ap (λ y. cell (firsts N (λ i. cell r i *ℤ weight n c bs i)) i *ℤ y) z
        ∙ (by_ring (cell (firsts N (λ i. cell r i *ℤ weight n c bs i)) i ∷ cell r i ∷ weight n c bs i ∷ []) (var 0 ⊗ lit (pos 0)) (var 1 ⊗ (var 2 ⊗ lit (pos 0))) refl
        ∙ (ap (λ y. cell r i *ℤ (weight n c bs i *ℤ y)) (sym z) ∙ ap (λ y. cell r i *ℤ y) (sym (over_cell n c bs xs i))))

    split : (i : ℕ) → (i < N) ⊎ (N ≤ i)
    split i = grind arith

    each : (i : ℕ) → cell (firsts N (λ i. cell r i *ℤ weight n c bs i)) i *ℤ cell xs i ≡ cell r i *ℤ cell (take c xs ++ raised n bs (drop c xs)) i
    each i = go (split i)
      where
        go : (i < N) ⊎ (N ≤ i) → cell (firsts N (λ i. cell r i *ℤ weight n c bs i)) i *ℤ cell xs i ≡ cell r i *ℤ cell (take c xs ++ raised n bs (drop c xs)) i
        go (inl h) = inside i h
        go (inr h) = outside i h
