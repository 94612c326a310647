-- Numbers that digits write, and powers of ten.
use Rattle.std.proofs.Common.{◌≡◌, ℕ, zero, suc, ◌+◌, ◌-◌, ◌*◌, ◌^◌, ◌<◌, ◌≤◌, List, [], ◌∷◌, length, drop, get_or, arith, refl, ap}
use Rattle.std.proofs.lemmas.List.{drop_more, drop_all}
use Rattle.std.proofs.Math.Nat.{pow-suc, one-le-pow}
use Rattle.emp_numeral.specs.Numeral.{value_from}

-- ---- digits
pub value_grows : (n : ℕ) (bs : List ℕ) → n ≤ value_from n bs
value_grows n [] = omega arith
value_grows n (b ∷ bs) = omega (arith, value_grows (n * 10 + (b - 48)) bs)

pub value_more : (n : ℕ) (bs : List ℕ) (i : ℕ) → i < length bs → value_from (n * 10 + (get_or bs i 0 - 48)) (drop (i + 1) bs) ≡ value_from n (drop i bs)
value_more n bs i h = rw (drop_more bs i 0 h) refl

pub value_all : (n : ℕ) (bs : List ℕ) (i : ℕ) → length bs ≤ i → value_from n (drop i bs) ≡ n
value_all n bs i h = rw (drop_all i bs h) refl

pub value_large : (n m : ℕ) (bs : List ℕ) (i v : ℕ) → i < length bs → m ≤ n * 10 + (get_or bs i 0 - 48) → value_from n (drop i bs) ≡ v → m ≤ v
value_large n m bs i v h k e =
    let grows = value_grows (n * 10 + (get_or bs i 0 - 48)) (drop (i + 1) bs) in
    omega (arith, value_more n bs i h, grows)

pub ruleset valuing = (value_more, value_all, value_large)

-- ---- powers
pub scaled_more : (v n : ℕ) → 0 < n → (v * 10 + (48 - 48)) * 10 ^ (n - 1) ≡ v * 10 ^ n
scaled_more v zero h = absurd (omega arith)
scaled_more v (suc n) h =
    let e : suc n - 1 ≡ n = omega arith in
    rw e (omega (arith, ap (λ x. v * x) (pow-suc 10 n)))

pub scaled_large : (v n m : ℕ) → m ≤ v → m ≤ v * 10 ^ n
scaled_large v n m h =
    let one : 1 ≤ 10 ^ n = one-le-pow n 10 (omega arith) in
    let e : 10 ^ n ≡ 1 + (10 ^ n - 1) = omega arith in
    omega (arith, ap (λ x. v * x) e)

pub scaled_over : (v n m w : ℕ) → 0 < n → m ≤ v * 10 + (48 - 48) → v * 10 ^ n ≡ w → m ≤ w
scaled_over v n m w h k e = omega (arith, scaled_more v n h, scaled_large (v * 10 + (48 - 48)) (n - 1) m k)

pub scaled_none : (v n : ℕ) → n ≡ 0 → v * 10 ^ n ≡ v
scaled_none v zero h = omega arith
scaled_none v (suc n) h = absurd (omega arith)

pub power_above : (n : ℕ) → 0 < 10 ^ n
power_above n = one-le-pow n 10 (omega arith)

pub one_times : (n : ℕ) → 1 * 10 ^ n ≡ 10 ^ n
one_times n = omega arith

pub ruleset scaling = (scaled_more, scaled_over, scaled_none)

pub ruleset powers = (one_times, power_above)

-- ---- two runs of digits
pub joined_large : (n m : ℕ) (bs : List ℕ) → m ≤ n → m ≤ value_from n bs
joined_large n m bs h = omega (arith, value_grows n bs)

pub ruleset joining = (joined_large)
