-- What the checker's calls are asked and answer.
use Rattle.std.specs.Prelude.{◌≡◌, ℕ, ◌<◌, Bool, true, false, List, length, Option, Some, None, All}
use Rattle.emp_rows.specs.declared.system.RowSystem.{RowSystem}
use Rattle.emp_cert.specs.declared.tree.Turn.{Turn}
use Rattle.emp_cert.specs.declared.tree.Node.{Node}
use Rattle.emp_cert.specs.declared.tree.Node.TheVariants.{Branch, Farkas, Bound}
use Rattle.emp_rows.specs.Points.{IsNumber}
use Rattle.emp_check.specs.Paths.{IsApart}

abbrev pub PlaceFits : ℕ → Option ℕ → Type 0
PlaceFits base None = Unit {0}
PlaceFits base (Some j) = j < base

-- the pairs of the turns are the system's
abbrev pub PathFits : RowSystem → List Turn → Type 0
PathFits s p = All (λ t. IsNumber (length s.pairs) t.pair) p

-- the answer says whether there is a next path, which is then this
abbrev pub Advances : Option (List Turn) → Bool → List Turn → Type 0
Advances o true p = o ≡ Some p
Advances o false p = o ≡ None

-- there is room for one branch more
abbrev pub RoomFor : List Turn → Node → Type 0
RoomFor p (Branch k) = length p < 256
RoomFor p (Farkas fs) = Unit {0}
RoomFor p (Bound w fs) = Unit {0}

-- a path of the system with no pair split twice
pub record IsPath (s : RowSystem) (p : List Turn) : Type 0 where
  pub fits : All (λ t. IsNumber (length s.pairs) t.pair) p
  pub apart : IsApart p
