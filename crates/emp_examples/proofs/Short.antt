-- Each entry of a short list, each number below a small one, and an order by multiples.
use Rattle.std.proofs.Common.{◌≡◌, ℕ, zero, suc, ◌<◌, ℤ, pos, ◌+ℤ◌, ◌*ℤ◌, ◌≤ℤ◌, ◌<ℤ◌, [], ◌∷◌, Some, arith, subst}
use Rattle.std.specs.List.{slice_get}
use Rattle.emp_algebra.proofs.Order.{linear, le_cancel_right}
use Rattle.emp_num.specs.Ratio.{ratio}
use Rattle.emp_ast.proofs.Fractions.{from_nought}

pub each_of_one : {A : Type 0} (P : ℕ → A → Type 0) (a : A) → P 0 a → (k : ℕ) (x : A) → slice_get (a ∷ []) k ≡ Some x → P k x
each_of_one P a h zero x e = let same : a ≡ x = cc in subst (λ y. P 0 y) same h
each_of_one P a h (suc k) x e = cc

pub each_of_two : {A : Type 0} (P : ℕ → A → Type 0) (a b : A) → P 0 a → P 1 b → (k : ℕ) (x : A) → slice_get (a ∷ b ∷ []) k ≡ Some x → P k x
each_of_two P a b h l zero x e = let same : a ≡ x = cc in subst (λ y. P 0 y) same h
each_of_two P a b h l (suc k) x e = each_of_one (λ k x. P (suc k) x) b l k x e

pub each_of_three : {A : Type 0} (P : ℕ → A → Type 0) (a b c : A) → P 0 a → P 1 b → P 2 c → (k : ℕ) (x : A) → slice_get (a ∷ b ∷ c ∷ []) k ≡ Some x → P k x
each_of_three P a b c h l m zero x e = let same : a ≡ x = cc in subst (λ y. P 0 y) same h
each_of_three P a b c h l m (suc k) x e = each_of_two (λ k x. P (suc k) x) b c l m k x e

pub each_of_five : {A : Type 0} (P : ℕ → A → Type 0) (a b c d e : A) → P 0 a → P 1 b → P 2 c → P 3 d → P 4 e → (k : ℕ) (x : A) → slice_get (a ∷ b ∷ c ∷ d ∷ e ∷ []) k ≡ Some x → P k x
each_of_five P a b c d e h i j k l zero x at = let same : a ≡ x = cc in subst (λ y. P 0 y) same h
each_of_five P a b c d e h i j k l (suc zero) x at = let same : b ≡ x = cc in subst (λ y. P 1 y) same i
each_of_five P a b c d e h i j k l (suc (suc n)) x at = each_of_three (λ k x. P (suc (suc k)) x) c d e j k l n x at

pub below_one : (P : ℕ → Type 0) → P 0 → (v : ℕ) → v < 1 → P v
below_one P h zero l = h
below_one P h (suc v) l = absurd (omega arith)

pub below_two : (P : ℕ → Type 0) → P 0 → P 1 → (v : ℕ) → v < 2 → P v
below_two P h k zero l = h
below_two P h k (suc v) l = below_one (λ v. P (suc v)) k v (omega arith)

pub below_three : (P : ℕ → Type 0) → P 0 → P 1 → P 2 → (v : ℕ) → v < 3 → P v
below_three P h k m zero l = h
below_three P h k m (suc v) l = below_two (λ v. P (suc v)) k m v (omega arith)

pub below_five : (P : ℕ → Type 0) → P 0 → P 1 → P 2 → P 3 → P 4 → (v : ℕ) → v < 5 → P v
below_five P a b c d e zero l = a
below_five P a b c d e (suc zero) l = b
below_five P a b c d e (suc (suc v)) l = below_three (λ v. P (suc (suc v))) c d e v (omega arith)

-- an order by an equation, a multiple and a number at least 0
pub le_by : {l r a b : ℤ} (k s d : ℤ) → pos 0 <ℤ d → a ≡ b → r *ℤ d ≡ a +ℤ k → b +ℤ k ≡ l *ℤ d +ℤ s → pos 0 ≤ℤ s → l ≤ℤ r
le_by {l} {r} {a} {b} k s d up same right left above = le_cancel_right l r d (omega (arith, linear)) up

pub below_not_above : (x y : ℤ) → x ≤ℤ y → y <ℤ x → ⊥
below_not_above x y h k = omega (arith, linear)

-- 0 is at most a quotient whose upper number is not below 0
pub from_zero : (t b : ℤ) → pos 0 ≤ℤ t → (pos 0 *ℤ b) ≤ℤ (t *ℤ pos 1)
from_zero t b = (from_nought (ratio t b)).1
