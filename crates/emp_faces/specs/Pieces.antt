-- The walk of all pieces of a row system: nodes are opened one after another, each with what it asks and with the dictionary that its parent ended
-- with. A node that holds is split at the first pair that is not settled. Where all are settled it is a piece, and the walk goes on with the next node.
use Rattle.std.specs.Prelude.{ℕ, zero, suc, Bool, false, ◌&&◌, ◌||◌, not, List, [], ◌∷◌, ◌++◌, length, Option, Some, None}
use Rattle.emp_algebra.specs.Vector.{is_zero}
use Rattle.emp_line.specs.Place.{is_none}
use Rattle.emp_rows.specs.declared.system.RowSystem.{RowSystem}
use Rattle.emp_rows.specs.RowPoints.{pair}
use Rattle.emp_dict.specs.declared.label.Label.TheVariants.{Quantity}
use Rattle.emp_dict.specs.Dictionary.{Dictionary, line_at, mark_at, row_of, started}
use Rattle.emp_step.specs.declared.outcome.Outcome.{Outcome}
use Rattle.emp_step.specs.declared.outcome.Outcome.TheVariants.{Held, Empty, Best, Ray}
use Rattle.emp_step.specs.Steps.{End, ended, too_wide, spent, Stepped, is_fixed, first_loose}
use Rattle.emp_search.specs.Search.{Ask, fixes, asks_from, asked, first_pair, pivots_of}

-- ---- settled quantities and pairs
-- the row's value is 0, and no column that is not Fixed has a cell in it
abbrev pub rests : Dictionary → Option ℕ → Bool
rests d None = false
rests d (Some r) = is_zero (line_at d r).constant && is_none (first_loose d r (length d.columns))

-- the quantity is Fixed, or has such a row
abbrev pub is_settled : Dictionary → ℕ → Bool
is_settled d k = is_fixed (mark_at d k) || rests d (row_of d (Quantity k))

-- a pair of which no member is settled
abbrev pub is_open : Dictionary → ℕ × ℕ → Bool
is_open d (a, b) = not (is_settled d a || is_settled d b)

-- ---- where the walk stands
-- a node that waits to be opened: what it asks, the dictionary that its parent ended with, and the numbers of the quantities of its path, in order
pub record Waiting : Type 0 where
  pub asks : List Ask
  pub dictionary : Dictionary
  pub path : List ℕ

-- the nodes that wait, the next one first, the units left, and how many nodes were opened
pub record Place : Type 0 where
  pub waiting : List Waiting
  pub left : ℕ
  pub nodes : ℕ

abbrev pub child : List ℕ → Dictionary → ℕ → Waiting
child path d k = record { asks = fixes k ∷ []; dictionary = d; path = path ++ k ∷ [] }

-- pair k is split: the child of its first member is next, and then that of the second
abbrev pub split_at : RowSystem → List ℕ → Dictionary → ℕ → Place → Place
split_at s path d k p = record { waiting = child path d (pair s k).0 ∷ child path d (pair s k).1 ∷ p.waiting; left = p.left; nodes = p.nodes }

-- ---- what comes next
-- a piece, with its path and the dictionary of its node, and where the walk stands then; or no node is left; or the walk ends at a pivot that is wide
-- (the node's number and the pivot's in the whole walk, from 1), or where no unit is left
pub data Coming : Type 0 where
  piece : List ℕ → Dictionary → Place → Coming
  over : Place → Coming
  wide_at : ℕ → ℕ → Coming
  out_of_units : Coming

abbrev pub by_pair : (Place → Coming) → RowSystem → List ℕ → Dictionary → Place → Option ℕ → Coming
by_pair rest s path d p None = piece path d p
by_pair rest s path d p (Some k) = rest (split_at s path d k p)

-- without an objective a node holds or is empty
abbrev pub by_outcome : (Place → Coming) → RowSystem → List ℕ → Dictionary → Place → Outcome → Coming
by_outcome rest s path d p Held = by_pair rest s path d p (first_pair (is_open d) 1 s.pairs)
by_outcome rest s path d p (Empty r) = rest p
by_outcome rest s path d p (Best r) = rest p
by_outcome rest s path d p (Ray j up) = rest p

abbrev pub by_end : (Place → Coming) → RowSystem → ℕ → List ℕ → List Waiting → ℕ → Stepped → End → Coming
by_end rest s limit path others nodes w (ended o) = by_outcome rest s path w.dictionary (record { waiting = others; left = w.left; nodes = nodes }) o
by_end rest s limit path others nodes w too_wide = wide_at nodes (pivots_of limit w.left nodes)
by_end rest s limit path others nodes w spent = out_of_units

-- a node takes a unit when it is opened
abbrev pub opened : (Place → Coming) → RowSystem → ℕ → Waiting → List Waiting → ℕ → ℕ → Coming
opened rest s limit w others nodes zero = out_of_units
opened rest s limit w others nodes (suc left) = by_end rest s limit w.path others (suc nodes) (asked w.asks left w.dictionary) (asked w.asks left w.dictionary).end

abbrev pub turned : (Place → Coming) → RowSystem → ℕ → Place → List Waiting → Coming
turned rest s limit p [] = over p
turned rest s limit p (w ∷ others) = opened rest s limit w others p.nodes p.left

-- each node takes a unit, so with no more than `most` units left no more than so many are opened
abbrev pub next_from : RowSystem → ℕ → ℕ → Place → Coming
next_from s limit zero p = turned (λ q. out_of_units) s limit p p.waiting
next_from s limit (suc most) p = turned (next_from s limit most) s limit p p.waiting

-- what comes next in a walk with so many units
abbrev pub next_of : RowSystem → ℕ → Place → Coming
next_of s limit p = next_from s limit p.left p

-- ---- the whole walk
pub record Piece : Type 0 where
  pub path : List ℕ
  pub dictionary : Dictionary

-- the pieces in order, the units left, and how many nodes were opened
pub data Listed : Type 0 where
  listed : List Piece → ℕ → ℕ → Listed
  stopped_wide : ℕ → ℕ → Listed
  stopped : Listed

abbrev pub gathered : (List Piece → Place → Listed) → List Piece → Coming → Listed
gathered rest found (piece path d p) = rest (found ++ record { path = path; dictionary = d } ∷ []) p
gathered rest found (over p) = listed found p.left p.nodes
gathered rest found (wide_at n q) = stopped_wide n q
gathered rest found out_of_units = stopped

-- where these pieces were found; a piece takes a unit at least
abbrev pub pieces_from : RowSystem → ℕ → ℕ → List Piece → Place → Listed
pieces_from s limit zero found p = gathered (λ fs q. stopped) found (next_of s limit p)
pieces_from s limit (suc most) found p = gathered (pieces_from s limit most) found (next_of s limit p)

-- the root alone waits
abbrev pub first_of : RowSystem → ℕ → Place
first_of s limit = record { waiting = record { asks = asks_from 1 s.kinds; dictionary = started s.base s.quantities s.objective; path = [] } ∷ []; left = limit; nodes = 0 }

-- the pieces of the system, in a walk with so many units
abbrev pub pieces_of : RowSystem → ℕ → Listed
pieces_of s limit = pieces_from s limit limit [] (first_of s limit)
