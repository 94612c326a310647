-- Quotients of whole numbers, never reduced. The lower number is kept above 0 by each operation on quotients that have it so.
use Rattle.std.specs.Prelude.{◌≡◌, ℕ, zero, suc, ℤ, pos, negsuc, neg_ℤ, ◌+ℤ◌, ◌*ℤ◌, ◌≤ℤ◌, Option, Some, None}

pub record Ratio : Type 0 where
  pub top : ℤ
  pub bottom : ℤ

abbrev pub ratio : ℤ → ℤ → Ratio
ratio n d = record { top = n; bottom = d }

abbrev pub nought : Ratio
nought = ratio (pos 0) (pos 1)

abbrev pub negated : Ratio → Ratio
negated p = ratio (neg_ℤ p.top) p.bottom

abbrev pub plus : Ratio → Ratio → Ratio
plus p q = ratio (p.top *ℤ q.bottom +ℤ q.top *ℤ p.bottom) (p.bottom *ℤ q.bottom)

abbrev pub minus : Ratio → Ratio → Ratio
minus p q = plus p (negated q)

abbrev pub times : Ratio → Ratio → Ratio
times p q = ratio (p.top *ℤ q.top) (p.bottom *ℤ q.bottom)

-- p over n/d, by the sign of n: there is none where n is 0
abbrev pub over_parts : Ratio → ℤ → ℤ → Option Ratio
over_parts p (pos zero) d = None
over_parts p (pos (suc n)) d = Some (ratio (p.top *ℤ d) (p.bottom *ℤ pos (suc n)))
over_parts p (negsuc n) d = Some (ratio (neg_ℤ (p.top *ℤ d)) (p.bottom *ℤ pos (suc n)))

abbrev pub over : Ratio → Ratio → Option Ratio
over p q = over_parts p q.top q.bottom

-- the n-fold product, and 1 for n = 0
abbrev pub power : Ratio → ℕ → Ratio
power p zero = ratio (pos 1) (pos 1)
power p (suc n) = times p (power p n)

-- by the cross products, which compare quotients with lower numbers above 0
abbrev pub SameRatio : Ratio → Ratio → Type 0
SameRatio p q = p.top *ℤ q.bottom ≡ q.top *ℤ p.bottom

abbrev pub AtMostRatio : Ratio → Ratio → Type 0
AtMostRatio p q = (p.top *ℤ q.bottom) ≤ℤ (q.top *ℤ p.bottom)
