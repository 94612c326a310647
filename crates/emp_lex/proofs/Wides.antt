-- A numeral that is read has no number that is too wide.
use Rattle.std.proofs.Common.{◌≡◌, ℕ, ◌<◌, Bool, true, false, List, ◌⊎◌, inl, inr, ℤ, arith}
use Rattle.std.specs.Prelude.{Ok, Err}
use Rattle.emp_num.specs.declared.frac.Frac.{Frac}
use Rattle.emp_numeral.specs.declared.numeral.NumeralFault.TheVariants.{Form, Wide}
use Rattle.emp_numeral.specs.Numeral.{FormGives, FormedSmall, FormedLarge, NumeralGives}

small_or_large : (m : ℕ) (s : ℤ) → FormedSmall m s → FormedLarge m s → ⊥
small_or_large m s h (inl k) = absurd (omega arith)
small_or_large m s h (inr (inl k)) = absurd (omega (arith, h.1, k))
small_or_large m s h (inr (inr k)) = absurd (omega (arith, h.2, k))

value_or_wide : (m : ℕ) (s : ℤ) → (m ≡ 0) ⊎ FormedSmall m s → (0 < m) × FormedLarge m s → ⊥
value_or_wide m s (inl z) h = absurd (omega (arith, z, h.0))
value_or_wide m s (inr k) h = small_or_large m s k h.1

one_form : (t : Bool) (m : ℕ) (s : ℤ) (r : Frac) → FormGives t m s (Ok r) → FormGives t m s (Err Wide) → ⊥
one_form true m s r h k = value_or_wide m s h.1 k
one_form false m s r h k = h

form_or_wide : (t : Bool) (m : ℕ) (s : ℤ) → FormGives t m s (Err Form) → FormGives t m s (Err Wide) → ⊥
form_or_wide true m s h k = h
form_or_wide false m s h k = k

pub value_not_wide : (bs : List ℕ) (r : Frac) → NumeralGives bs (Ok r) → NumeralGives bs (Err Wide) → ⊥
value_not_wide bs r h k = one_form _ _ _ r h k

pub form_not_wide : (bs : List ℕ) → NumeralGives bs (Err Form) → NumeralGives bs (Err Wide) → ⊥
form_not_wide bs h k = form_or_wide _ _ _ h k

pub ruleset tells = (value_not_wide, form_not_wide)
