-- What a row system keeps. Base variables, quantities and pairs are numbered from 1.
use Rattle.std.specs.Prelude.{◌≡◌, ℕ, ◌<◌, ◌≤◌, ◌-◌, List, [], ◌∷◌, length, slice_index_or, All, Option, Some}
use Rattle.emp_rows.specs.declared.affine.Affine.{Affine}
use Rattle.emp_rows.specs.declared.system.Kind.{Kind}
use Rattle.emp_rows.specs.declared.system.Kind.TheVariants.{Zero, Nonneg}
use Rattle.emp_rows.specs.Affine.{IsRow}

-- k is the number of a quantity that is to be at least 0
pub record IsMember (kinds : List Kind) (k : ℕ) : Type 0 where
  pub above : 0 < k
  pub within : k ≤ length kinds
  pub nonneg : slice_index_or kinds (k - 1) Zero ≡ Nonneg

-- the numbers of the members of all pairs, in order
abbrev pub members : List (ℕ × ℕ) → List ℕ
members [] = []
members (p ∷ ps) = p.0 ∷ (p.1 ∷ members ps)

-- no number stands at two places of the list
abbrev pub AllDiffer : List ℕ → Type 0
AllDiffer ks = (i j : ℕ) → i < j → j < length ks → slice_index_or ks i 0 ≡ slice_index_or ks j 0 → ⊥

pub record IsSystem (base : ℕ) (quantities : List Affine) (kinds : List Kind) (pairs : List (ℕ × ℕ)) (objective : Option Affine) : Type 0 where
  pub few_variables : base ≤ 256
  pub few_quantities : length quantities ≤ 512
  pub one_kind_each : length kinds ≡ length quantities
  -- one cell per base variable, and numbers below 2^126 in absolute value
  pub rows : All (IsRow base) quantities
  -- a pair is of two quantities that are to be at least 0
  pub first_members : All (λ p. IsMember kinds p.0) pairs
  pub second_members : All (λ p. IsMember kinds p.1) pairs
  -- the two differ, and no quantity is in two pairs
  pub apart : AllDiffer (members pairs)
  pub objective_row : (r : Affine) → objective ≡ Some r → IsRow base r
