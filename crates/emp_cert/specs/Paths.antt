-- Paths: the turns taken at the branches above a node, the nearest first. Each takes one member of its pair to be 0.
use Rattle.std.specs.Prelude.{◌≡◌, ℕ, Bool, false, cond, ◌||◌, nat_eq, pos, List, [], ◌∷◌}
use Rattle.emp_num.specs.Point.{Point}
use Rattle.emp_rows.specs.declared.system.RowSystem.{RowSystem}
use Rattle.emp_rows.specs.RowPoints.{pair, quantity, value_at}
use Rattle.emp_cert.specs.declared.tree.Turn.{Turn}

abbrev pub turn : ℕ → Bool → Turn
turn k b = record { pair = k; second = b }

-- the number of the quantity that a turn takes to be 0
abbrev pub member : RowSystem → Turn → ℕ
member s t = cond t.second (pair s t.pair).1 (pair s t.pair).0

-- the quantity of number k is taken to be 0 on the path
abbrev pub is_on : RowSystem → List Turn → ℕ → Bool
is_on s [] k = false
is_on s (t ∷ ts) k = nat_eq (member s t) k || is_on s ts k

-- the pair of number k is split on the path
abbrev pub is_split : List Turn → ℕ → Bool
is_split [] k = false
is_split (t ∷ ts) k = nat_eq k t.pair || is_split ts k

-- the quantities of the path are 0 at the point
abbrev pub OnPath : RowSystem → List Turn → Point → Type 0
OnPath s [] p = Unit {0}
OnPath s (t ∷ ts) p = (value_at (quantity s (member s t)) p ≡ pos 0) × OnPath s ts p
