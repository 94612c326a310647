-- Formulas of calls of the exact operations: which sums, differences, products and quotients of fractions are formed, in a
-- written order.
use Rattle.std.specs.Prelude.{◌≡◌, ◌≢◌, ◌⊎◌, pos, ◌+ℤ◌, ◌-ℤ◌, ◌*ℤ◌, Result, Ok, Err}
use Rattle.emp_num.specs.Exact.{IsWide}
use Rattle.emp_num.specs.FracSpec.{IsQuotient, AddsWide, SubtractsWide, MultipliesWide}
use Rattle.emp_num.specs.declared.exact.Wide.{Wide}
use Rattle.emp_num.specs.declared.frac.Frac.{Frac}

pub data Formula : Type 0 where
  given : Frac → Formula
  added : Formula → Formula → Formula
  subtracted : Formula → Formula → Formula
  multiplied : Formula → Formula → Formula
  divided : Formula → Formula → Formula

-- the fraction that the calls give
abbrev pub Gives : Formula → Frac → Type 0
Gives (given f) r = r ≡ f
Gives (added s t) r = (x : Frac) × (y : Frac) × Gives s x × Gives t y × IsQuotient r (x.num *ℤ y.den +ℤ y.num *ℤ x.den) (x.den *ℤ y.den)
Gives (subtracted s t) r = (x : Frac) × (y : Frac) × Gives s x × Gives t y × IsQuotient r (x.num *ℤ y.den -ℤ y.num *ℤ x.den) (x.den *ℤ y.den)
Gives (multiplied s t) r = (x : Frac) × (y : Frac) × Gives s x × Gives t y × IsQuotient r (x.num *ℤ y.num) (x.den *ℤ y.den)
Gives (divided s t) r = (x : Frac) × (y : Frac) × Gives s x × Gives t y × (y.num ≢ pos 0) × IsQuotient r (x.num *ℤ y.den) (x.den *ℤ y.num)

-- one of the calls is wide
abbrev pub HasWideCall : Formula → Type 0
HasWideCall (given f) = ⊥
HasWideCall (added s t) = HasWideCall s ⊎ (HasWideCall t ⊎ ((x : Frac) × (y : Frac) × Gives s x × Gives t y × AddsWide x y))
HasWideCall (subtracted s t) = HasWideCall s ⊎ (HasWideCall t ⊎ ((x : Frac) × (y : Frac) × Gives s x × Gives t y × SubtractsWide x y))
HasWideCall (multiplied s t) = HasWideCall s ⊎ (HasWideCall t ⊎ ((x : Frac) × (y : Frac) × Gives s x × Gives t y × MultipliesWide x y))
HasWideCall (divided s t) = HasWideCall s ⊎ (HasWideCall t ⊎ ((x : Frac) × (y : Frac) × Gives s x × Gives t y × (IsWide (x.num *ℤ y.den) ⊎ IsWide (x.den *ℤ y.num))))

-- what the calls give, in their order: each outcome with what is so exactly there
abbrev pub Runs : Formula → Result Frac Wide → Type 0
Runs s (Ok r) = Gives s r × (HasWideCall s → ⊥)
Runs s (Err w) = HasWideCall s
