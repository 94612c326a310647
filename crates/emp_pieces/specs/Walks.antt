-- Where the walk of all pieces stands in the code, and what its calls give.
use Rattle.std.specs.Prelude.{◌≡◌, ℕ, ◌<◌, ◌≤◌, List, [], ◌∷◌, ◌++◌, Option, Some, None, Result, Ok, Err}
use Rattle.emp_rows.specs.declared.system.RowSystem.{RowSystem}
use Rattle.emp_rows.specs.RowPoints.{pair}
use Rattle.emp_dict.specs.Dictionary.{Dictionary}
use Rattle.emp_dict.specs.Dicts.{dictionary_of}
use Rattle.emp_step.specs.declared.outcome.Outcome.{Outcome}
use Rattle.emp_face.specs.Budgets.{units_left}
use Rattle.emp_decide.specs.Reads.{IsPointOf}
use Rattle.emp_search.specs.Search.{first_pair}
use Rattle.emp_walk.specs.declared.asks.Asks.TheVariants.{Child}
use Rattle.emp_walk.specs.declared.fault.WalkFault.{WalkFault}
use Rattle.emp_walk.specs.declared.fault.WalkFault.TheVariants.{Wide, Spent, NoMemory}
use Rattle.emp_walk.specs.Fits.{IsAt, AsksFit, DoneFits, asks_of}
use Rattle.emp_faces.specs.Pieces.{Waiting, Place, Coming, piece, over, wide_at, out_of_units, is_open, by_outcome, opened, next_of, first_of}
use Rattle.emp_pieces.specs.declared.walk.Unopened.{Unopened}
use Rattle.emp_pieces.specs.declared.walk.Piece.{Piece}
use Rattle.emp_pieces.specs.declared.walk.Walk.{Walk}

-- ---- where the walk stands
abbrev pub unopened_of : RowSystem → Unopened → Waiting
unopened_of s u = record { asks = asks_of s u.asks; dictionary = dictionary_of u.dict; path = u.path }

-- the last one is next
abbrev pub behind : RowSystem → List Waiting → List Unopened → List Waiting
behind s ws [] = ws
behind s ws (u ∷ us) = behind s (unopened_of s u ∷ ws) us

abbrev pub waiting_of : RowSystem → List Unopened → List Waiting
waiting_of s us = behind s [] us

abbrev pub place_of : RowSystem → Walk → Place
place_of s w = record { waiting = waiting_of s w.waiting; left = units_left w.budget; nodes = w.nodes }

-- ---- what is kept
-- a node that waits may be opened
pub record UnopenedFits (s : RowSystem) (u : Unopened) : Type 0 where
  pub at : IsAt s (dictionary_of u.dict)
  pub asks : AsksFit (dictionary_of u.dict) u.asks

abbrev pub AllFit : RowSystem → List Unopened → Type 0
AllFit s [] = Unit {0}
AllFit s (u ∷ us) = UnopenedFits s u × AllFit s us

pub record WalkFits (s : RowSystem) (w : Walk) : Type 0 where
  pub waiting : AllFit s w.waiting
  pub nodes : w.nodes ≤ w.budget.used

-- ---- the start
pub record IsFirst (s : RowSystem) (units : ℕ) (w : Walk) : Type 0 where
  pub place : place_of s w ≡ first_of s units
  pub limit : w.budget.limit ≡ units
  pub fits : WalkFits s w

-- ---- a node is opened
-- what the walk comes to where this node is next, the others wait, and what is after it comes to `rest`
abbrev pub at_node : (Place → Coming) → RowSystem → Walk → Unopened → List Waiting → Coming
at_node rest s w u others = opened rest s w.budget.limit (unopened_of s u) others w.nodes (units_left w.budget)

-- a fault comes exactly where the walk comes to it
abbrev pub FaultIs : Coming → ℕ → WalkFault → Type 0
FaultIs c limit (Wide n p) = c ≡ wide_at n p
FaultIs c limit (Spent l) = (c ≡ out_of_units) × (l ≡ limit)
FaultIs c limit NoMemory = Unit {0}

pub record Opened (s : RowSystem) (old : Walk) (before : Unopened) (new : Walk) (after : Unopened) (o : Outcome) : Type 0 where
  pub same : (rest : Place → Coming) (others : List Waiting) → at_node rest s old before others ≡ by_outcome rest s before.path (dictionary_of after.dict) (record { waiting = others; left = units_left new.budget; nodes = new.nodes }) o
  pub done : DoneFits s (dictionary_of after.dict) o
  pub path : after.path ≡ before.path
  pub waiting : new.waiting ≡ old.waiting
  pub nodes : new.nodes ≤ new.budget.used
  pub less : units_left new.budget < units_left old.budget
  pub limit : new.budget.limit ≡ old.budget.limit

abbrev pub OpenGives : RowSystem → Walk → Unopened → Walk → Unopened → Result Outcome WalkFault → Type 0
OpenGives s old before new after (Ok o) = Opened s old before new after o
OpenGives s old before new after (Err f) = (rest : Place → Coming) (others : List Waiting) → FaultIs (at_node rest s old before others) old.budget.limit f

-- ---- a node that holds
pub record IsChild (d : Dictionary) (before : List ℕ) (k : ℕ) (u : Unopened) : Type 0 where
  pub dict : dictionary_of u.dict ≡ d
  pub asks : u.asks ≡ Child k
  pub path : u.path ≡ before ++ k ∷ []

pub record IsSplit (s : RowSystem) (u : Unopened) (k : ℕ) (old new : Walk) : Type 0 where
  pub next : Unopened
  pub later : Unopened
  pub is_next : IsChild (dictionary_of u.dict) u.path (pair s k).0 next
  pub is_later : IsChild (dictionary_of u.dict) u.path (pair s k).1 later
  pub waiting : new.waiting ≡ (old.waiting ++ later ∷ []) ++ next ∷ []
  pub nodes : new.nodes ≡ old.nodes
  pub budget : new.budget ≡ old.budget

pub record Settled (s : RowSystem) (u : Unopened) (old new : Walk) (f : Piece) : Type 0 where
  pub none : first_pair (is_open (dictionary_of u.dict)) 1 s.pairs ≡ None
  pub path : f.path ≡ u.path
  pub point : IsPointOf (dictionary_of u.dict) f.point
  pub walk : new ≡ old

pub record Divided (s : RowSystem) (u : Unopened) (old new : Walk) : Type 0 where
  pub number : ℕ
  pub first : first_pair (is_open (dictionary_of u.dict)) 1 s.pairs ≡ Some number
  pub split : IsSplit s u number old new

abbrev pub SettleGives : RowSystem → Unopened → Walk → Walk → Option Piece → Type 0
SettleGives s u old new (Some f) = Settled s u old new f
SettleGives s u old new None = Divided s u old new

-- ---- a whole turn
-- a piece has the point of its dictionary
abbrev pub PointIs : Dictionary → Option Piece → Type 0
PointIs d None = Unit {0}
PointIs d (Some f) = IsPointOf d f.point

abbrev pub comes_of : (Place → Coming) → RowSystem → Walk → Dictionary → Option Piece → Coming
comes_of rest s w d None = rest (place_of s w)
comes_of rest s w d (Some f) = piece f.path d (place_of s w)

pub record Turned (s : RowSystem) (u : Unopened) (old new : Walk) (r : Option Piece) : Type 0 where
  pub dictionary : Dictionary
  pub same : (rest : Place → Coming) → at_node rest s old u (waiting_of s old.waiting) ≡ comes_of rest s new dictionary r
  pub point : PointIs dictionary r
  pub fits : WalkFits s new
  pub less : units_left new.budget < units_left old.budget
  pub limit : new.budget.limit ≡ old.budget.limit

abbrev pub TurnGives : RowSystem → Unopened → Walk → Walk → Result (Option Piece) WalkFault → Type 0
TurnGives s u old new (Ok r) = Turned s u old new r
TurnGives s u old new (Err f) = (rest : Place → Coming) → FaultIs (at_node rest s old u (waiting_of s old.waiting)) old.budget.limit f

-- ---- what comes next
abbrev pub coming_of : RowSystem → Walk → Dictionary → Option Piece → Coming
coming_of s w d None = over (place_of s w)
coming_of s w d (Some f) = piece f.path d (place_of s w)

-- fewer units are left after a piece
abbrev pub FewerAfter : Option Piece → ℕ → ℕ → Type 0
FewerAfter None after before = Unit {0}
FewerAfter (Some f) after before = after < before

pub record Came (s : RowSystem) (old new : Walk) (r : Option Piece) : Type 0 where
  pub dictionary : Dictionary
  pub same : next_of s old.budget.limit (place_of s old) ≡ coming_of s new dictionary r
  pub point : PointIs dictionary r
  pub fits : WalkFits s new
  pub limit : new.budget.limit ≡ old.budget.limit
  pub fewer : FewerAfter r (units_left new.budget) (units_left old.budget)

-- each outcome comes exactly where the walk comes to it
abbrev pub NextGives : RowSystem → Walk → Walk → Result (Option Piece) WalkFault → Type 0
NextGives s old new (Ok r) = Came s old new r
NextGives s old new (Err f) = FaultIs (next_of s old.budget.limit (place_of s old)) old.budget.limit f
