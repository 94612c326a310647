-- Two fractions in lowest terms that are equal as numbers have the same numerator and denominator.
use Rattle.std.proofs.Common.{ℕ, zero, suc, ◌+◌, ◌*◌, ◌%◌, ◌<◌, ◌≡◌, ℤ, pos, ◌*ℤ◌, ◌<ℤ◌, unsigned_abs, arith, refl, sym, ap, subst, ◌∙◌, mul_comm, ◌/◌, mod-lt, mod-eq_of_lt}
use Prim.Native.Nat.{◌∣◌}
use native.Mathlib.Nat.{dvd-mod_iff, dvd-mul_left, one-dvd, div-add-mod, mul-add-mod_self_left, mul-lt-mul_of_pos_left}
use Rattle.std.specs.Int.{IsGcd}
use Rattle.std.proofs.lemmas.Int.{ints, unsigned_abs-mul}
use Rattle.std.proofs.lemmas.Nat.Gcd.{dvd_refl, dvd-zero, dvd_antisymm, IsGcd-from_zero, IsGcd-from_mod, same_from_IsGcd}
use Rattle.emp_algebra.proofs.Order.{cancel_right}
use Rattle.emp_num.specs.Exact.{IsCoprime}

to_mod : (a b g : ℕ) → IsGcd a b g → IsGcd b (a % b) g
to_mod a b g h = (h.1, (dvd-mod_iff g h.1).1 h.0, λ d p q. h.2 d ((dvd-mod_iff d p).0 q) p)

scale_mod : (c a b : ℕ) → 0 < c → 0 < b → (c * a) % (c * b) ≡ c * (a % b)
scale_mod c a b pc pb =
    let split : c * a ≡ c * b * (a / b) + c * (a % b) = omega (arith, ap (λ n. c * n) (div-add-mod a b)) in
    let below : c * (a % b) < c * b = mul-lt-mul_of_pos_left (mod-lt a pb) pc in
    rw split (mul-add-mod_self_left (c * b) (a / b) (c * (a % b)) ∙ mod-eq_of_lt below)

-- the common divisor of two multiples, by Euclid's steps; n is above b
scaled : (n c a b g : ℕ) → b < n → 0 < c → IsGcd a b g → IsGcd (c * a) (c * b) (c * g)
scaled zero c a b g l pc h = absurd (omega arith)
scaled (suc n) c a zero g l pc h =
    let e : g ≡ a = same_from_IsGcd a zero g a h (IsGcd-from_zero a zero refl) in
    rw e (IsGcd-from_zero (c * a) (c * zero) (omega arith))
scaled (suc n) c a (suc b) g l pc h =
    let r : a % suc b < suc b = mod-lt a (omega arith) in
    let k = scaled n c (suc b) (a % suc b) g (omega arith) pc (to_mod a (suc b) g h) in
    IsGcd-from_mod (c * a) (c * suc b) (c * g) (subst (λ x. IsGcd (c * suc b) x (c * g)) (sym (scale_mod c a (suc b) pc (omega arith))) k)

-- Gauss: what divides a product and has nothing in common with one factor divides the other
pub gauss : (a b c : ℕ) → IsGcd a b 1 → a ∣ b * c → a ∣ c
gauss a b zero h d = dvd-zero a
gauss a b (suc c) h d =
    let k = scaled (suc b) (suc c) a b 1 (omega arith) (omega arith) h in
    let e : suc c * 1 ≡ suc c = omega arith in
    subst (λ x. a ∣ x) e (k.2 a (dvd-mul_left a (suc c)) (subst (λ x. a ∣ x) (mul_comm b (suc c)) d))

pub coprime-IsGcd : (n d : ℤ) → IsCoprime n d → IsGcd (unsigned_abs d) (unsigned_abs n) 1
coprime-IsGcd n d h = (one-dvd (unsigned_abs d), one-dvd (unsigned_abs n), λ k p q. subst (λ x. x ∣ 1) (sym (h k q p)) (dvd_refl 1))

pub same_lowest : (n d m e : ℤ) → IsCoprime n d → IsCoprime m e → pos 0 <ℤ d → pos 0 <ℤ e → n *ℤ e ≡ m *ℤ d → (n ≡ m) × (d ≡ e)
same_lowest n d m e h k pd pe q =
    let s : unsigned_abs n * unsigned_abs e ≡ unsigned_abs m * unsigned_abs d = sym (unsigned_abs-mul n e) ∙ (ap unsigned_abs q ∙ unsigned_abs-mul m d) in
    let left : unsigned_abs d ∣ unsigned_abs e = gauss (unsigned_abs d) (unsigned_abs n) (unsigned_abs e) (coprime-IsGcd n d h) (subst (λ x. unsigned_abs d ∣ x) (sym s) (dvd-mul_left (unsigned_abs d) (unsigned_abs m))) in
    let right : unsigned_abs e ∣ unsigned_abs d = gauss (unsigned_abs e) (unsigned_abs m) (unsigned_abs d) (coprime-IsGcd m e k) (subst (λ x. unsigned_abs e ∣ x) s (dvd-mul_left (unsigned_abs e) (unsigned_abs n))) in
    let same : unsigned_abs d ≡ unsigned_abs e = dvd_antisymm left right in
    let dens : d ≡ e = omega (arith, ints) in
    (cancel_right n m e (q ∙ ap (λ z. m *ℤ z) dens) pe, dens)
