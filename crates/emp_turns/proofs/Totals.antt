-- Sums over the labels, and a common multiple of denominators.
use Rattle.std.proofs.Common.{◌≡◌, ◌≢◌, ℕ, zero, suc, ◌<◌, ◌⊎◌, inl, inr, ℤ, pos, ◌+ℤ◌, ◌-ℤ◌, ◌*ℤ◌, ◌≤ℤ◌, ◌<ℤ◌, cond, eqb, arith, refl, sym, ap, ap₂, ◌∙◌}
use Rattle.std.proofs.lemmas.Int.{ints}
use Rattle.std.proofs.lemmas.Bool.{cases_eq, cond_both, eqb-true, eqb-false}
use Rattle.emp_algebra.proofs.Laws.{*ℤ-+ℤ, mul_pos}
use Rattle.emp_algebra.proofs.Ring.{◌⊗◌, ring2, ring3}
use Rattle.emp_algebra.proofs.Order.{linear}
use Rattle.emp_turns.specs.Table.{total}

pub total_same : (n : ℕ) (f g : ℕ → ℤ) → ((w : ℕ) → w < n → f w ≡ g w) → total n f ≡ total n g
total_same zero f g h = refl
total_same (suc n) f g h = ap₂ (λ y z. y +ℤ z) (total_same n f g (λ w k. h w (omega arith))) (h n (omega arith))

pub total_scale : (n : ℕ) (k : ℤ) (f : ℕ → ℤ) → total n (λ w. k *ℤ f w) ≡ k *ℤ total n f
total_scale zero k f = omega (arith, ints)
total_scale (suc n) k f = ap (λ z. z +ℤ k *ℤ f n) (total_scale n k f) ∙ sym (*ℤ-+ℤ k (total n f) (f n))

pub total_zero : (n : ℕ) (f : ℕ → ℤ) → ((w : ℕ) → w < n → f w ≡ pos 0) → total n f ≡ pos 0
total_zero zero f h = refl
total_zero (suc n) f h = ap₂ (λ y z. y +ℤ z) (total_zero n f (λ w k. h w (omega arith))) (h n (omega arith))

-- where one term alone is not 0
pub total_one : (n : ℕ) (f : ℕ → ℤ) (e : ℕ) → e < n → ((w : ℕ) → w < n → w ≢ e → f w ≡ pos 0) → total n f ≡ f e
total_one zero f e k h = absurd (omega arith)
total_one (suc n) f e k h = go (cases_eq e n) (λ l. total_one n f e l (λ w b. h w (omega arith)))
  where
    go : (e ≡ n) ⊎ (e ≢ n) → (e < n → total n f ≡ f e) → total n f +ℤ f n ≡ f e
    go (inl q) rest =
        let z : total n f ≡ pos 0 = total_zero n f (λ w b. h w (omega arith) (omega arith)) in
        let p : f e ≡ f n = ap f q in
        omega (arith, linear)
    go (inr q) rest =
        let r : total n f ≡ f e = rest (omega arith) in
        let z : f n ≡ pos 0 = h n (omega arith) (λ p. q (sym p)) in
        omega (arith, linear)

pub total_add : (n : ℕ) (f g : ℕ → ℤ) → total n (λ w. f w +ℤ g w) ≡ total n f +ℤ total n g
total_add zero f g = refl
total_add (suc n) f g = let e = total_add n f g in omega (arith, linear)

-- where two differ in one term alone
pub total_change : (n : ℕ) (f g : ℕ → ℤ) (e : ℕ) → e < n → ((w : ℕ) → w < n → w ≢ e → g w ≡ f w) → total n g ≡ total n f +ℤ (g e -ℤ f e)
total_change n f g e k h =
    let d : total n (λ w. g w -ℤ f w) ≡ g e -ℤ f e = total_one n (λ w. g w -ℤ f w) e k (λ w l ne. let q = h w l ne in omega (arith, linear)) in
    total_same n g (λ w. f w +ℤ (g w -ℤ f w)) (λ w l. omega (arith, linear)) ∙ (total_add n f (λ w. g w -ℤ f w) ∙ ap (λ z. total n f +ℤ z) d)

pub total_nonpos : (n : ℕ) (r : ℤ) (f : ℕ → ℤ) → ((w : ℕ) → w < n → (r *ℤ f w) ≤ℤ pos 0) → (r *ℤ total n f) ≤ℤ pos 0
total_nonpos zero r f h = omega (arith, ints)
total_nonpos (suc n) r f h =
    let here : (r *ℤ f n) ≤ℤ pos 0 = h n (omega arith) in
    let rest : (r *ℤ total n f) ≤ℤ pos 0 = total_nonpos n r f (λ w k. h w (omega arith)) in
    rw (*ℤ-+ℤ r (total n f) (f n)) (omega (arith, linear))

-- ---- a common multiple
abbrev pub product : ℕ → (ℕ → ℤ) → ℤ
product zero d = pos 1
product (suc n) d = product n d *ℤ d n

-- the product without the factor at v
abbrev pub product_without : ℕ → (ℕ → ℤ) → ℕ → ℤ
product_without zero d v = pos 1
product_without (suc n) d v = cond (eqb v n) (product n d) (product_without n d v *ℤ d n)

pub product_pos : (n : ℕ) (d : ℕ → ℤ) → ((v : ℕ) → v < n → pos 0 <ℤ d v) → pos 0 <ℤ product n d
product_pos zero d h = omega (arith, ints)
product_pos (suc n) d h = mul_pos (product n d) (d n) (product_pos n d (λ v k. h v (omega arith))) (h n (omega arith))

pub product_is : (n : ℕ) (d : ℕ → ℤ) (v : ℕ) → v < n → d v *ℤ product_without n d v ≡ product n d
product_is zero d v k = absurd (omega arith)
product_is (suc n) d v k =
    cond_both (eqb v n) (product n d) (product_without n d v *ℤ d n) (λ z. d v *ℤ z ≡ product n d *ℤ d n)
    (λ e. ap (λ u. d u *ℤ product n d) (eqb-true v n e) ∙ ring2 (λ a b. a ⊗ b) (λ a b. b ⊗ a) refl (d n) (product n d))
    (λ e.
    let ne : v ≢ n = eqb-false v n e in
    ring3 (λ a b c. a ⊗ (b ⊗ c)) (λ a b c. a ⊗ b ⊗ c) refl (d v) (product_without n d v) (d n) ∙ ap (λ z. z *ℤ d n) (product_is n d v (omega arith)))
