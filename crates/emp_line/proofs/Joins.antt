-- Lines, multipliers and signs put together from their parts.
use Rattle.std.proofs.Common.{ℕ, zero, suc, ◌≡◌, ℤ, pos, negsuc, neg_ℤ, ◌*ℤ◌, unsigned_abs, false, ◌||◌, List, set, length, refl, ap, ◌∙◌}
use Rattle.emp_algebra.proofs.Laws.{one-*ℤ, neg_ℤ-*ℤ}
use Rattle.emp_num.specs.Exact.{IsNarrow}
use Rattle.emp_line.specs.declared.line.Line.{Line}
use Rattle.emp_line.proofs.Steps.{wide_no}
use Rattle.emp_line.specs.Pivot.{sign, Factors, step_wide, steps_wide, combination_wide}
use Rattle.emp_line.specs.Lines.{IsLine}

pub narrow_all : (f : Factors) (l t : Line) (j : ℕ) → IsNarrow (f.own *ℤ l.denom) → step_wide f l.constant t.constant ≡ false → steps_wide f (set l.cells j (pos 0)) t.cells ≡ false → combination_wide f l t j ≡ false
narrow_all f l t j a b c =
    ap (λ x. x || step_wide f l.constant t.constant || steps_wide f (set l.cells j (pos 0)) t.cells) (wide_no (f.own *ℤ l.denom) a) ∙ (ap (λ x. x || steps_wide f (set l.cells j (pos 0)) t.cells) b ∙ c)

pub line_eq : (d e k m : ℤ) (r s : List ℤ) → d ≡ e → k ≡ m → r ≡ s → ◌≡◌ {A = Line} (record { denom = d; constant = k; cells = r }) (record { denom = e; constant = m; cells = s })
line_eq d e k m r s p q o = λ i. record { denom = p i; constant = q i; cells = o i }

pub sign_self : (z : ℤ) → sign z *ℤ z ≡ pos (unsigned_abs z)
sign_self (pos zero) = refl
sign_self (pos (suc n)) = one-*ℤ (pos (suc n))
sign_self (negsuc n) = neg_ℤ-*ℤ (pos 1) (negsuc n) ∙ ap neg_ℤ (one-*ℤ (negsuc n))

pub own_width : (w : ℕ) (l : Line) → IsLine w l → IsLine (length l.cells) l
own_width w l s = record { width = refl; positive = s.positive; denom = s.denom; constant = s.constant; cells = s.cells }
