-- Paths: the turns taken at the branches above a node, the nearest first.
use Rattle.std.specs.Prelude.{◌≡◌, ℕ, Bool, true, false, List, [], ◌∷◌, Option, Some, None}
use Rattle.emp_cert.specs.declared.tree.Turn.{Turn}
use Rattle.emp_cert.specs.Paths.{turn, is_split}

-- the path to the next node after a leaf: the nearest branch whose first child was read goes on with its second
abbrev pub advance_by : Bool → ℕ → List Turn → Option (List Turn) → Option (List Turn)
advance_by true k ts rest = rest
advance_by false k ts rest = Some (turn k true ∷ ts)

abbrev pub advance : List Turn → Option (List Turn)
advance [] = None
advance (t ∷ ts) = advance_by t.second t.pair ts (advance ts)

-- no pair is split twice
abbrev pub IsApart : List Turn → Type 0
IsApart [] = Unit {0}
IsApart (t ∷ p) = (is_split p t.pair ≡ false) × IsApart p
