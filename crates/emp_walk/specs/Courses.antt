-- Where a search stands, and what it still comes to.
use Rattle.std.specs.Prelude.{◌≡◌, ℕ, ◌<◌, ◌≤◌, List, [], ◌∷◌, ◌++◌, length, Option, Some, None, Result, Ok, Err}
use Rattle.std.specs.Option.{option_map}
use Rattle.std.specs.List.{All}
use Rattle.emp_rows.specs.declared.system.Kind.TheVariants.{Zero}
use Rattle.emp_rows.specs.declared.system.RowSystem.{RowSystem}
use Rattle.emp_rows.specs.RowPoints.{pair}
use Rattle.emp_cert.specs.declared.tree.Node.{Node}
use Rattle.emp_cert.specs.declared.tree.Node.TheVariants.{Branch}
use Rattle.emp_cert.specs.Certs.{NodeFits}
use Rattle.emp_dict.specs.declared.dict.Dict.{Dict}
use Rattle.emp_dict.specs.Dictionary.{Dictionary}
use Rattle.emp_dict.specs.Dicts.{dictionary_of}
use Rattle.emp_step.specs.declared.outcome.Outcome.{Outcome}
use Rattle.emp_face.specs.Budgets.{units_left}
use Rattle.emp_decide.specs.Laws.{started_of}
use Rattle.emp_search.specs.Search.{Ask, fixes, Decision, decided, point, ray, State, Searched, closed, found, wide_at, out_of_units, by_decision, searched}
use Rattle.emp_walk.specs.declared.asks.Asks.TheVariants.{Root, Child}
use Rattle.emp_walk.specs.declared.course.Open.{Open}
use Rattle.emp_walk.specs.declared.course.End.{End}
use Rattle.emp_walk.specs.declared.course.End.TheVariants.{Closed, Point, Ray}
use Rattle.emp_walk.specs.declared.fault.WalkFault.{WalkFault}
use Rattle.emp_walk.specs.declared.fault.WalkFault.TheVariants.{Wide, Spent, NoMemory}
use Rattle.emp_walk.specs.declared.course.Course.{Course}
use Rattle.emp_walk.specs.Fits.{IsAt, AskFits, AsksFit, DoneFits, asks_of}
use Rattle.emp_walk.specs.Decisions.{BestFits}

-- ---- what it still comes to
-- a node and all below it, in a search with so many units
unfoldable pub run_of : RowSystem → ℕ → List Ask → Dictionary → State → Searched
run_of s limit as' d st = searched s limit limit as' d st

-- the second child of an open branch goes on after the first one
abbrev pub second_of : (List Ask → Dictionary → State → Searched) → Open → Searched → Searched
second_of run b (closed st) = run (fixes b.second ∷ []) (dictionary_of b.dict) st
second_of run b (found f st) = found f st
second_of run b (wide_at n p) = wide_at n p
second_of run b out_of_units = out_of_units

-- what the whole comes to, where a node below all open branches comes to r; the nearest branch is the last
abbrev pub resumed : (List Ask → Dictionary → State → Searched) → List Open → Searched → Searched
resumed run [] r = r
resumed run (b ∷ bs) r = second_of run b (resumed run bs r)

abbrev pub state_of : Course → State
state_of c = record { written = c.written; best = option_map dictionary_of c.best; left = units_left c.budget; nodes = c.nodes }

abbrev pub after : RowSystem → Course → Searched → Searched
after s c r = resumed (run_of s c.budget.limit) c.stack r

-- where the node is not opened yet
abbrev pub pending : RowSystem → Course → Searched
pending s c = after s c (run_of s c.budget.limit (asks_of s c.asks) (dictionary_of c.dict) (state_of c))

-- where its work is done and this was decided
abbrev pub decided_at : RowSystem → Course → Decision → Searched
decided_at s c x = after s c (by_decision (run_of s c.budget.limit) s (dictionary_of c.dict) (state_of c) x)

-- where it and all below it are done
abbrev pub closed_at : RowSystem → Course → Searched
closed_at s c = after s c (closed (state_of c))

-- where the search ends
abbrev pub ending_of : Course → End → Searched
ending_of c Closed = closed (state_of c)
ending_of c Point = found (point (dictionary_of c.dict)) (state_of c)
ending_of c (Ray j up) = found (ray (dictionary_of c.dict) j up) (state_of c)

-- ---- what is kept
-- the second child of an open branch may be opened
pub record OpenFits (s : RowSystem) (b : Open) : Type 0 where
  pub at : IsAt s (dictionary_of b.dict)
  pub second : AskFits (dictionary_of b.dict) b.second Zero

abbrev pub StackFits : RowSystem → List Open → Type 0
StackFits s [] = Unit {0}
StackFits s (b ∷ bs) = OpenFits s b × StackFits s bs

-- the nodes that are written are of certificates of the system
abbrev pub WrittenFit : RowSystem → List Node → Type 0
WrittenFit s ns = All (NodeFits (length s.pairs) (length s.quantities)) ns

pub record PlaceFits (s : RowSystem) (c : Course) : Type 0 where
  pub stack : StackFits s c.stack
  pub best : BestFits c.best
  pub written : WrittenFit s c.written
  pub nodes : c.nodes ≤ c.budget.used

-- the node may be opened
pub record CourseFits (s : RowSystem) (c : Course) : Type 0 where
  pub at : IsAt s (dictionary_of c.dict)
  pub asks : AsksFit (dictionary_of c.dict) c.asks
  pub place : PlaceFits s c

abbrev pub EndFits : Course → End → Type 0
EndFits c Closed = Unit {0}
EndFits c Point = Unit {0}
EndFits c (Ray j up) = j < length (dictionary_of c.dict).columns

-- ---- what the parts of a turn give
-- before the root is opened, where so many units of the limit are used and so many nodes were opened
pub record IsStartFrom (s : RowSystem) (units taken opened : ℕ) (c : Course) : Type 0 where
  pub dictionary : dictionary_of c.dict ≡ started_of s
  pub asks : c.asks ≡ Root
  pub stack : c.stack ≡ []
  pub best : c.best ≡ None
  pub written : c.written ≡ []
  pub nodes : c.nodes ≡ opened
  pub limit : c.budget.limit ≡ units
  pub used : c.budget.used ≡ taken
  pub fits : opened ≤ taken

-- a fault comes exactly where the search comes to it
abbrev pub FaultGives : Searched → ℕ → WalkFault → Type 0
FaultGives r limit (Wide n p) = r ≡ wide_at n p
FaultGives r limit (Spent l) = (r ≡ out_of_units) × (l ≡ limit)
FaultGives r limit NoMemory = Unit {0}

-- the work of the node is done
pub record Opened (s : RowSystem) (old new : Course) (o : Outcome) : Type 0 where
  pub same : pending s old ≡ decided_at s new (decided s (option_map dictionary_of new.best) (dictionary_of new.dict) o)
  pub done : DoneFits s (dictionary_of new.dict) o
  pub place : PlaceFits s new
  pub less : units_left new.budget < units_left old.budget
  pub limit : new.budget.limit ≡ old.budget.limit

abbrev pub OpenGives : RowSystem → Course → Course → Result Outcome WalkFault → Type 0
OpenGives s old new (Ok o) = Opened s old new o
OpenGives s old new (Err f) = FaultGives (pending s old) old.budget.limit f

-- the nearest branch is taken from the others, and its second child is next
pub record Popped (old new : Course) : Type 0 where
  pub second : ℕ
  pub stack : old.stack ≡ new.stack ++ record { dict = new.dict; second = second } ∷ []
  pub asks : new.asks ≡ Child second
  pub best : new.best ≡ old.best
  pub written : new.written ≡ old.written
  pub nodes : new.nodes ≡ old.nodes
  pub budget : new.budget ≡ old.budget

abbrev pub CloseGives : Course → Course → Option End → Type 0
CloseGives old new None = Popped old new
CloseGives old new (Some e) = (e ≡ Closed) × (old.stack ≡ []) × (new ≡ old)

-- a leaf that is read off a dictionary has one factor for each of its quantities
abbrev pub LeafFits : Dictionary → Node → Type 0
LeafFits d n = (pairs : ℕ) → NodeFits pairs (length d.marks) n

-- a node is written
abbrev pub wrote : Course → Node → Course
wrote c n = record { dict = c.dict; asks = c.asks; stack = c.stack; best = c.best; written = c.written ++ n ∷ []; nodes = c.nodes; budget = c.budget }

-- the node's dictionary is kept as that of the best point
pub record IsKept (old new : Course) : Type 0 where
  pub best : option_map dictionary_of new.best ≡ Some (dictionary_of old.dict)
  pub dict : new.dict ≡ old.dict
  pub stack : new.stack ≡ old.stack
  pub written : new.written ≡ old.written
  pub nodes : new.nodes ≡ old.nodes
  pub budget : new.budget ≡ old.budget

-- pair k is split
pub record IsSplit (s : RowSystem) (k : ℕ) (old new : Course) : Type 0 where
  pub kept : Dict
  pub same : dictionary_of kept ≡ dictionary_of old.dict
  pub stack : new.stack ≡ old.stack ++ record { dict = kept; second = (pair s k).1 } ∷ []
  pub asks : new.asks ≡ Child (pair s k).0
  pub dict : new.dict ≡ old.dict
  pub best : new.best ≡ old.best
  pub written : new.written ≡ old.written ++ Branch k ∷ []
  pub nodes : new.nodes ≡ old.nodes
  pub budget : new.budget ≡ old.budget

-- the search that comes to r goes on, or ends
pub record GoesOn (s : RowSystem) (r : Searched) (new : Course) : Type 0 where
  pub same : r ≡ pending s new
  pub fits : CourseFits s new

pub record Finishes (s : RowSystem) (r : Searched) (new : Course) (e : End) : Type 0 where
  pub same : r ≡ ending_of new e
  pub fits : EndFits new e
  pub written : WrittenFit s new.written

abbrev pub Goes : RowSystem → Searched → Course → Option End → Type 0
Goes s r new None = GoesOn s r new
Goes s r new (Some e) = Finishes s r new e

-- a whole turn
pub record Turned (s : RowSystem) (old new : Course) (e : Option End) : Type 0 where
  pub goes : Goes s (pending s old) new e
  pub less : units_left new.budget < units_left old.budget
  pub limit : new.budget.limit ≡ old.budget.limit

abbrev pub TurnGives : RowSystem → Course → Course → Result (Option End) WalkFault → Type 0
TurnGives s old new (Ok e) = Turned s old new e
TurnGives s old new (Err f) = FaultGives (pending s old) old.budget.limit f
