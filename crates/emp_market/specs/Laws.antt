-- The laws of the files of generated markets, as statements.
use Rattle.std.specs.Prelude.{ℕ, ◌≤◌}
use Rattle.emp_ast.specs.declared.model.Model.{Model}
use Rattle.emp_ast.specs.declared.annot.Annot.{Annot}
use Rattle.emp_owner.specs.Settled.{IsKept}
use Rattle.emp_problem.specs.Class.{GoalFits, AnnotFits}
use Rattle.emp_accepted.specs.Accepted.{IsAcceptedPair}
use Rattle.emp_make.specs.Markets.{IsMarket}

-- the files of a market of at most 40 firms are an accepted pair
abbrev pub MarketsAreAccepted : Type 0
MarketsAreAccepted = (seed firms : ℕ) (m : Model) (a : Annot) → firms ≤ 40 → IsMarket seed firms m a → IsAcceptedPair m a

-- the annotation of a market names variables and equations of its model
abbrev pub MarketAnnotsFit : Type 0
MarketAnnotsFit = (seed firms : ℕ) (m : Model) (a : Annot) → IsMarket seed firms m a → AnnotFits m a

-- and its solve statement names none that the model has not
abbrev pub MarketGoalsFit : Type 0
MarketGoalsFit = (seed firms : ℕ) (m : Model) (a : Annot) → IsMarket seed firms m a → GoalFits m

-- a market breaks no rule of ownership
abbrev pub MarketsAreKept : Type 0
MarketsAreKept = (seed firms : ℕ) (m : Model) (a : Annot) → IsMarket seed firms m a → IsKept m a
