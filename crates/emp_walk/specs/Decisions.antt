-- What comes next after a node's work, as decisions of the search.
use Rattle.std.specs.Prelude.{ℕ, ◌<◌, ◌≤◌, Bool, length, Option, Some, None}
use Rattle.emp_rows.specs.declared.system.Kind.TheVariants.{Zero}
use Rattle.emp_rows.specs.declared.system.RowSystem.{RowSystem}
use Rattle.emp_rows.specs.RowPoints.{pair}
use Rattle.emp_cert.specs.declared.tree.Node.TheVariants.{Farkas}
use Rattle.emp_dict.specs.declared.dict.Dict.{Dict}
use Rattle.emp_dict.specs.Dictionary.{Dictionary}
use Rattle.emp_dict.specs.Dicts.{dictionary_of}
use Rattle.emp_step.specs.Laws.{HasObjective}
use Rattle.emp_decide.specs.Reads.{farkas_factors}
use Rattle.emp_search.specs.Search.{Decision, leaf, branch, finding, point, ray, bound_of, both_above, is_broken}
use Rattle.emp_walk.specs.declared.next.Next.{Next}
use Rattle.emp_walk.specs.declared.next.Next.TheVariants.{Refuted, Bounded, Better, Split, Point, Ray}
use Rattle.emp_walk.specs.declared.next.Test.{Test}
use Rattle.emp_walk.specs.declared.next.Test.TheVariants.{Above, Broken}
use Rattle.emp_walk.specs.Fits.{AskFits}

-- ---- tests of pairs
abbrev pub passes : Dictionary → Test → ℕ × ℕ → Bool
passes d Above = both_above d
passes d (Broken j) = is_broken d j

abbrev pub TestFits : Dictionary → Test → Type 0
TestFits d Above = Unit {0}
TestFits d (Broken j) = j < length d.columns

-- ---- what comes next
-- where the incumbent is b and the node's dictionary d
abbrev pub decision_of : Option Dictionary → Dictionary → Next → Decision
decision_of b d (Refuted r) = leaf (Farkas (farkas_factors d r)) b
decision_of b d (Bounded r) = leaf (bound_of d r) b
decision_of b d (Better r) = leaf (bound_of d r) (Some d)
decision_of b d (Split k) = branch k
decision_of b d Point = finding (point d)
decision_of b d (Ray j up) = finding (ray d j up)

-- the split of the pair, where there is one
abbrev pub split_next : Next → Option ℕ → Next
split_next end None = end
split_next end (Some k) = Split k

-- pair k is one of the system's, and each of its members may be fixed
pub record SplitFits (s : RowSystem) (d : Dictionary) (k : ℕ) : Type 0 where
  pub above : 0 < k
  pub within : k ≤ length s.pairs
  pub first : AskFits d (pair s k).0 Zero
  pub second : AskFits d (pair s k).1 Zero

-- what comes next names what is there
abbrev pub NextFits : RowSystem → Dictionary → Next → Type 0
NextFits s d (Refuted r) = r < length d.rows
NextFits s d (Bounded r) = r < length d.rows
NextFits s d (Better r) = (r < length d.rows) × HasObjective d
NextFits s d (Split k) = SplitFits s d k
NextFits s d Point = Unit {0}
NextFits s d (Ray j up) = j < length d.columns

-- an incumbent has an objective
abbrev pub BestFits : Option Dict → Type 0
BestFits None = Unit {0}
BestFits (Some e) = HasObjective (dictionary_of e)
