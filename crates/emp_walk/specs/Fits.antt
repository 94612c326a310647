-- What is so of the dictionary of a node, of what it is asked, and of what its outcome names.
use Rattle.std.specs.Prelude.{◌≡◌, ◌≢◌, ℕ, ◌<◌, List, [], ◌∷◌, length}
use Rattle.emp_rows.specs.declared.system.Kind.{Kind}
use Rattle.emp_rows.specs.declared.system.Kind.TheVariants.{Zero, Nonneg}
use Rattle.emp_rows.specs.declared.system.RowSystem.{RowSystem}
use Rattle.emp_dict.specs.declared.label.Mark.TheVariants.{Unasked, Fixed}
use Rattle.emp_dict.specs.Dictionary.{Dictionary, column_label, mark_at}
use Rattle.emp_step.specs.declared.outcome.Outcome.{Outcome}
use Rattle.emp_step.specs.declared.outcome.Outcome.TheVariants.{Held, Empty, Best, Ray}
use Rattle.emp_step.specs.Steps.{mark_of_label}
use Rattle.emp_step.specs.Levels.{IsLevel}
use Rattle.emp_step.specs.Laws.{IsNumber, HasObjective}
use Rattle.emp_decide.specs.Laws.{IsDictionaryOf}
use Rattle.emp_search.specs.Search.{Ask, fixes, asks_from}
use Rattle.emp_walk.specs.declared.asks.Asks.{Asks}
use Rattle.emp_walk.specs.declared.asks.Asks.TheVariants.{Root, Child}

-- a level dictionary of the system
pub record IsAt (s : RowSystem) (d : Dictionary) : Type 0 where
  pub dictionary : IsDictionaryOf s d
  pub level : IsLevel d

-- the quantity of number k may be raised or fixed by its kind
abbrev pub AskFits : Dictionary → ℕ → Kind → Type 0
AskFits d k Zero = IsNumber d k × (mark_at d k ≢ Fixed)
AskFits d k Nonneg = IsNumber d k × (mark_at d k ≡ Unasked)

-- what a node asks
abbrev pub asks_of : RowSystem → Asks → List Ask
asks_of s Root = asks_from 1 s.kinds
asks_of s (Child k) = fixes k ∷ []

abbrev pub AsksFit : Dictionary → Asks → Type 0
AsksFit d Root = (q : ℕ) → mark_at d q ≡ Unasked
AsksFit d (Child k) = AskFits d k Zero

-- what the outcome names is there
abbrev pub OutcomeFits : Dictionary → Outcome → Type 0
OutcomeFits d Held = Unit {0}
OutcomeFits d (Empty r) = r < length d.rows
OutcomeFits d (Best r) = (r ≡ length d.marks) × HasObjective d
OutcomeFits d (Ray j up) = (j < length d.columns) × (mark_of_label d (column_label d j) ≢ Fixed)

-- what is so after the work of a node, or a part of it
pub record DoneFits (s : RowSystem) (d : Dictionary) (o : Outcome) : Type 0 where
  pub at : IsAt s d
  pub outcome : OutcomeFits d o

-- what is so after quantity k was asked: the quantities after it have their marks
pub record AskedFits (s : RowSystem) (d e : Dictionary) (k : ℕ) (o : Outcome) : Type 0 where
  pub done : DoneFits s e o
  pub later : (q : ℕ) → k < q → mark_at e q ≡ mark_at d q
