-- The search of a row system: nodes are opened one after another, each with what it asks and with the dictionary that its parent ended with.
-- Without an objective it ends at the first point, or where no node is left. With one it goes on with the best point so far, the incumbent, until no
-- node is left, or ends at a ray. What it writes is the tree of a certificate, in preorder.
use Rattle.std.specs.Prelude.{ℕ, zero, suc, ◌+◌, ◌-◌, ◌*ℤ◌, ◌-ℤ◌, Bool, false, cond, ◌&&◌, ◌||◌, not, List, [], ◌∷◌, ◌++◌, length, Option, Some, None}
use Rattle.emp_algebra.specs.Vector.{is_zero}
use Rattle.emp_rows.specs.declared.affine.Affine.{Affine}
use Rattle.emp_rows.specs.declared.system.Kind.{Kind}
use Rattle.emp_rows.specs.declared.system.Kind.TheVariants.{Zero, Nonneg}
use Rattle.emp_rows.specs.declared.system.RowSystem.{RowSystem}
use Rattle.emp_rows.specs.RowPoints.{pair}
use Rattle.emp_cert.specs.declared.tree.Node.{Node}
use Rattle.emp_cert.specs.declared.tree.Node.TheVariants.{Branch, Farkas, Bound}
use Rattle.emp_dict.specs.declared.label.Label.TheVariants.{Quantity}
use Rattle.emp_dict.specs.Dictionary.{Dictionary, line_at, cell_at, column_label, row_of, label_eq, started}
use Rattle.emp_dict.specs.Places.{is_positive}
use Rattle.emp_step.specs.declared.outcome.Outcome.{Outcome}
use Rattle.emp_step.specs.declared.outcome.Outcome.TheVariants.{Held, Empty, Best, Ray}
use Rattle.emp_step.specs.Steps.{End, ended, too_wide, spent, Stepped, stepped, raised, fixed, bested}
use Rattle.emp_decide.specs.Reads.{farkas_factors, bound_weight, bound_factors}

-- ---- what a node asks
pub data Ask : Type 0 where
  raises : ℕ → Ask
  fixes : ℕ → Ask

-- a quantity that is to be at least 0 is raised, one that is to be 0 is fixed
abbrev pub ask_of : ℕ → Kind → Ask
ask_of k Zero = fixes k
ask_of k Nonneg = raises k

-- the root asks each quantity in order, here those from number k on
abbrev pub asks_from : ℕ → List Kind → List Ask
asks_from k [] = []
asks_from k (t ∷ ts) = ask_of k t ∷ asks_from (k + 1) ts

abbrev pub step_of : Ask → ℕ → Dictionary → Stepped
step_of (raises k) left d = raised left k d
step_of (fixes k) left d = fixed left k d

-- where a step holds, the next goes on from where it ended
abbrev pub on_held : (ℕ → Dictionary → Stepped) → Stepped → End → Stepped
on_held rest s (ended Held) = rest s.left s.dictionary
on_held rest s (ended (Empty r)) = s
on_held rest s (ended (Best r)) = s
on_held rest s (ended (Ray j up)) = s
on_held rest s too_wide = s
on_held rest s spent = s

abbrev pub and_then : Stepped → (ℕ → Dictionary → Stepped) → Stepped
and_then s rest = on_held rest s s.end

abbrev pub asked : List Ask → ℕ → Dictionary → Stepped
asked [] left d = stepped (ended Held) d left
asked (a ∷ as') left d = and_then (step_of a left d) (asked as')

-- what is asked, and then the objective is made least, where there is one
abbrev pub worked_by : Option Affine → List Ask → ℕ → Dictionary → Stepped
worked_by None as' left d = asked as' left d
worked_by (Some o) as' left d = and_then (asked as' left d) bested

abbrev pub worked : RowSystem → List Ask → ℕ → Dictionary → Stepped
worked s as' left d = worked_by s.objective as' left d

-- ---- pairs
-- the quantity is above 0 at the dictionary's point
abbrev pub above_by : Dictionary → Option ℕ → Bool
above_by d None = false
above_by d (Some r) = is_positive (line_at d r).constant

abbrev pub above : Dictionary → ℕ → Bool
above d k = above_by d (row_of d (Quantity k))

abbrev pub both_above : Dictionary → ℕ × ℕ → Bool
both_above d (a, b) = above d a && above d b

-- the quantity is 0 there, and stays 0 as column j moves
abbrev pub still_by : Dictionary → ℕ → Bool → Option ℕ → Bool
still_by d j own None = not own
still_by d j own (Some r) = is_zero (line_at d r).constant && is_zero (cell_at d r j)

abbrev pub still : Dictionary → ℕ → ℕ → Bool
still d j k = still_by d j (label_eq (Quantity k) (column_label d j)) (row_of d (Quantity k))

-- a ray keeps a pair where one member stays 0
abbrev pub is_broken : Dictionary → ℕ → ℕ × ℕ → Bool
is_broken d j (a, b) = not (still d j a || still d j b)

-- the number of the first such pair, where the first one given is number k
abbrev pub first_pair : (ℕ × ℕ → Bool) → ℕ → List (ℕ × ℕ) → Option ℕ
first_pair test k [] = None
first_pair test k (p ∷ ps) = cond (test p) (Some k) (first_pair test (k + 1) ps)

-- ---- what a node comes to
-- what ends the whole search: a point, or a ray of a column
pub data Finding : Type 0 where
  point : Dictionary → Finding
  ray : Dictionary → ℕ → Bool → Finding

-- a leaf with the row that is written and the incumbent from there on, a pair to split, or a finding
pub data Decision : Type 0 where
  leaf : Node → Option Dictionary → Decision
  branch : ℕ → Decision
  finding : Finding → Decision

-- the objective in row r of d is at least what it is at the incumbent
abbrev pub is_bounded : Option Dictionary → Dictionary → ℕ → Bool
is_bounded None d r = false
is_bounded (Some e) d r = not (is_positive ((line_at e (length e.marks)).constant *ℤ (line_at d r).denom -ℤ (line_at d r).constant *ℤ (line_at e (length e.marks)).denom))

abbrev pub split_or : Decision → Option ℕ → Decision
split_or end None = end
split_or end (Some k) = branch k

abbrev pub bound_of : Dictionary → ℕ → Node
bound_of d r = Bound (bound_weight d r) (bound_factors d r)

abbrev pub decided : RowSystem → Option Dictionary → Dictionary → Outcome → Decision
decided s best d (Empty r) = leaf (Farkas (farkas_factors d r)) best
decided s best d Held = split_or (finding (point d)) (first_pair (both_above d) 1 s.pairs)
decided s best d (Best r) = cond (is_bounded best d r) (leaf (bound_of d r) best) (split_or (leaf (bound_of d r) (Some d)) (first_pair (both_above d) 1 s.pairs))
decided s best d (Ray j up) = split_or (finding (ray d j up)) (first_pair (is_broken d j) 1 s.pairs)

-- ---- the search
-- the nodes written so far, the incumbent, the units left, and how many nodes were opened
pub record State : Type 0 where
  pub written : List Node
  pub best : Option Dictionary
  pub left : ℕ
  pub nodes : ℕ

-- a node and all below it are done, or the whole search ends: with a finding, at a pivot that is wide (the node's number and the pivot's in the
-- whole search, from 1), or where no unit is left
pub data Searched : Type 0 where
  closed : State → Searched
  found : Finding → State → Searched
  wide_at : ℕ → ℕ → Searched
  out_of_units : Searched

abbrev pub writes : Node → Option Dictionary → State → State
writes n best st = record { written = st.written ++ n ∷ []; best = best; left = st.left; nodes = st.nodes }

-- the second child of pair k goes on after the first one, from the same dictionary
abbrev pub then_second : (List Ask → Dictionary → State → Searched) → RowSystem → ℕ → Dictionary → Searched → Searched
then_second below s k d (closed st) = below (fixes (pair s k).1 ∷ []) d st
then_second below s k d (found f st) = found f st
then_second below s k d (wide_at n p) = wide_at n p
then_second below s k d out_of_units = out_of_units

abbrev pub by_decision : (List Ask → Dictionary → State → Searched) → RowSystem → Dictionary → State → Decision → Searched
by_decision below s d st (leaf n best) = closed (writes n best st)
by_decision below s d st (finding f) = found f st
by_decision below s d st (branch k) = then_second below s k d (below (fixes (pair s k).0 ∷ []) d (writes (Branch k) st.best st))

-- a unit is that of a node or that of a pivot, so of the units taken those that are no node's are pivots
abbrev pub pivots_of : ℕ → ℕ → ℕ → ℕ
pivots_of limit left nodes = limit - left - nodes

abbrev pub by_end : (List Ask → Dictionary → State → Searched) → RowSystem → ℕ → State → Stepped → End → Searched
by_end below s limit st w (ended o) = by_decision below s w.dictionary (record { written = st.written; best = st.best; left = w.left; nodes = suc st.nodes }) (decided s st.best w.dictionary o)
by_end below s limit st w too_wide = wide_at (suc st.nodes) (pivots_of limit w.left (suc st.nodes))
by_end below s limit st w spent = out_of_units

-- a node takes a unit when it is opened
abbrev pub opened : (List Ask → Dictionary → State → Searched) → RowSystem → ℕ → List Ask → Dictionary → State → ℕ → Searched
opened below s limit as' d st zero = out_of_units
opened below s limit as' d st (suc left) = by_end below s limit st (worked s as' left d) (worked s as' left d).end

-- a node and all below it. Each takes a unit, so with no more than `most` units left there are at most so many of them, one below another
abbrev pub searched : RowSystem → ℕ → ℕ → List Ask → Dictionary → State → Searched
searched s limit zero as' d st = out_of_units
searched s limit (suc most) as' d st = opened (searched s limit most) s limit as' d st st.left

abbrev pub first_state : ℕ → ℕ → State
first_state left nodes = record { written = []; best = None; left = left; nodes = nodes }

-- the search of the system where so many units of the limit are left and so many nodes were opened
abbrev pub search_from : RowSystem → ℕ → ℕ → ℕ → Searched
search_from s limit left nodes = searched s limit limit (asks_from 1 s.kinds) (started s.base s.quantities s.objective) (first_state left nodes)

-- the search of the system with so many units
abbrev pub search_of : RowSystem → ℕ → Searched
search_of s limit = search_from s limit limit 0
