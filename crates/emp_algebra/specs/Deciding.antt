-- Rows that decide: a combination of rows that leaves no point, and one that bounds an objective.
use Rattle.std.specs.Prelude.{◌≡◌, ℤ, pos, negsuc, ◌+ℤ◌, ◌-ℤ◌, ◌*ℤ◌, ◌≤ℤ◌, ◌<ℤ◌, List, [], ◌∷◌, All}
use Rattle.emp_algebra.specs.Vector.{dot, scale, add_rows}

-- a quantity is to be 0, or at least 0
pub data Kind : Type 0 where
  Zero : Kind
  Nonneg : Kind

-- an affine quantity `constant + cells` of the coordinates, with its kind and its factor
pub record Weighted : Type 0 where
  pub factor : ℤ
  pub kind : Kind
  pub constant : ℤ
  pub cells : List ℤ

-- d times the value of an affine quantity at the point xs over d
abbrev pub value_times : ℤ → List ℤ → ℤ → List ℤ → ℤ
value_times constant cells d xs = constant *ℤ d +ℤ dot cells xs

abbrev pub IsOfKind : Kind → ℤ → Type 0
IsOfKind Zero z = z ≡ pos 0
IsOfKind Nonneg z = pos 0 ≤ℤ z

-- any factor on a quantity that is to be 0, one of at least 0 on the others
abbrev pub FactorFits : Kind → ℤ → Type 0
FactorFits Zero z = Unit {0}
FactorFits Nonneg z = pos 0 ≤ℤ z

abbrev pub total_cells : List Weighted → List ℤ
total_cells [] = []
total_cells (w ∷ ws) = add_rows (scale w.factor w.cells) (total_cells ws)

abbrev pub total_constant : List Weighted → ℤ
total_constant [] = pos 0
total_constant (w ∷ ws) = w.factor *ℤ w.constant +ℤ total_constant ws

-- every quantity is of its kind at the point
abbrev pub Meets : List Weighted → ℤ → List ℤ → Type 0
Meets ws d xs = All (λ w. IsOfKind w.kind (value_times w.constant w.cells d xs)) ws

-- the combination is a negative constant
pub record IsRefutation (ws : List Weighted) : Type 0 where
  pub factors : All (λ w. FactorFits w.kind w.factor) ws
  pub cells : All (λ a. a ≡ pos 0) (total_cells ws)
  pub constant : total_constant ws <ℤ pos 0

-- `weight` times the objective minus the combination is a constant of at least `weight` times top over bottom
pub record IsBound (ws : List Weighted) (weight constant : ℤ) (cells : List ℤ) (top bottom : ℤ) : Type 0 where
  pub factors : All (λ w. FactorFits w.kind w.factor) ws
  pub weighs : pos 0 <ℤ weight
  pub named : pos 0 <ℤ bottom
  pub rest : All (λ a. a ≡ pos 0) (add_rows (scale weight cells) (scale (negsuc 0) (total_cells ws)))
  pub least : (weight *ℤ top) ≤ℤ ((weight *ℤ constant -ℤ total_constant ws) *ℤ bottom)

-- ---- the laws
-- a refutation leaves no point
abbrev pub RefutationLeavesNone : Type 0
RefutationLeavesNone = (ws : List Weighted) → IsRefutation ws → (d : ℤ) (xs : List ℤ) → pos 0 <ℤ d → Meets ws d xs → ⊥

-- a bound holds at every point: top over bottom is at most the objective's value
abbrev pub BoundHolds : Type 0
BoundHolds = (ws : List Weighted) (weight constant : ℤ) (cells : List ℤ) (top bottom : ℤ) → IsBound ws weight constant cells top bottom → (d : ℤ) (xs : List ℤ) → pos 0 <ℤ d → Meets ws d xs → (top *ℤ d) ≤ℤ (value_times constant cells d xs *ℤ bottom)
