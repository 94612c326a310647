-- What the operations on fractions give.
use Rattle.std.specs.Prelude.{◌≡◌, ◌≢◌, ◌⊎◌, ℤ, pos, ◌+ℤ◌, ◌-ℤ◌, ◌*ℤ◌, Result, Ok, Err}
use Rattle.emp_num.specs.Exact.{IsNarrow, IsWide}
use Rattle.emp_num.specs.declared.frac.Frac.{Frac}
use Rattle.emp_num.specs.declared.frac.DivFault.{DivFault}
use Rattle.emp_num.specs.declared.frac.DivFault.TheVariants.{Zero, Wide}

-- the fraction is n over d
abbrev pub IsQuotient : Frac → ℤ → ℤ → Type 0
IsQuotient r n d = r.num *ℤ d ≡ n *ℤ r.den

-- n over d, or why there is none: each outcome with what is so exactly there
abbrev pub NewGives : ℤ → ℤ → Result Frac DivFault → Type 0
NewGives n d (Ok r) = (d ≢ pos 0) × IsNarrow n × IsNarrow d × IsQuotient r n d
NewGives n d (Err Zero) = d ≡ pos 0
NewGives n d (Err Wide) = (d ≢ pos 0) × (IsWide n ⊎ IsWide d)

-- the numbers that the sum of a and b forms are narrow
pub record AddsNarrow (a b : Frac) : Type 0 where
  pub left : IsNarrow (a.num *ℤ b.den)
  pub right : IsNarrow (b.num *ℤ a.den)
  pub top : IsNarrow (a.num *ℤ b.den +ℤ b.num *ℤ a.den)
  pub bottom : IsNarrow (a.den *ℤ b.den)

-- one of them is wide
abbrev pub AddsWide : Frac → Frac → Type 0
AddsWide a b = IsWide (a.num *ℤ b.den) ⊎ (IsWide (b.num *ℤ a.den) ⊎ (IsWide (a.num *ℤ b.den +ℤ b.num *ℤ a.den) ⊎ IsWide (a.den *ℤ b.den)))

-- the numbers that the difference of a and b forms are narrow
pub record SubtractsNarrow (a b : Frac) : Type 0 where
  pub left : IsNarrow (a.num *ℤ b.den)
  pub right : IsNarrow (b.num *ℤ a.den)
  pub top : IsNarrow (a.num *ℤ b.den -ℤ b.num *ℤ a.den)
  pub bottom : IsNarrow (a.den *ℤ b.den)

-- one of them is wide
abbrev pub SubtractsWide : Frac → Frac → Type 0
SubtractsWide a b = IsWide (a.num *ℤ b.den) ⊎ (IsWide (b.num *ℤ a.den) ⊎ (IsWide (a.num *ℤ b.den -ℤ b.num *ℤ a.den) ⊎ IsWide (a.den *ℤ b.den)))

-- the numbers that the product of a and b forms are narrow
pub record MultipliesNarrow (a b : Frac) : Type 0 where
  pub top : IsNarrow (a.num *ℤ b.num)
  pub bottom : IsNarrow (a.den *ℤ b.den)

-- one of them is wide
abbrev pub MultipliesWide : Frac → Frac → Type 0
MultipliesWide a b = IsWide (a.num *ℤ b.num) ⊎ IsWide (a.den *ℤ b.den)

-- a over b, or why there is none: each outcome with what is so exactly there
abbrev pub DivGives : Frac → Frac → Result Frac DivFault → Type 0
DivGives a b (Ok r) = (b.num ≢ pos 0) × IsNarrow (a.num *ℤ b.den) × IsNarrow (a.den *ℤ b.num) × IsQuotient r (a.num *ℤ b.den) (a.den *ℤ b.num)
DivGives a b (Err Zero) = b.num ≡ pos 0
DivGives a b (Err Wide) = (b.num ≢ pos 0) × (IsWide (a.num *ℤ b.den) ⊎ IsWide (a.den *ℤ b.num))
