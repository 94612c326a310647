-- A file with one variational inequality without constraints, and its complementary points.
use Rattle.std.specs.Prelude.{◌≡◌, ℕ, ◌<◌, false, List, [], ◌∷◌, length, slice_get, Some}
use Rattle.emp_num.specs.Point.{Point, coordinate}
use Rattle.emp_ast.specs.declared.tree.VarId.{VarId}
use Rattle.emp_ast.specs.declared.model.Model.{Model}
use Rattle.emp_ast.specs.declared.annot.Block.TheVariants.{Vi}
use Rattle.emp_ast.specs.declared.annot.Annot.{Annot}
use Rattle.emp_ast.specs.Meets.{MeetsBounds}
use Rattle.emp_ast.specs.Parties.{block, EachOwn}
use Rattle.emp_ast.specs.Rivals.{Fits}
use Rattle.emp_ast.specs.Equilibrium.{IsEquilibrium}
use Rattle.emp_ast.specs.Solved.{gap, IsAtLeastZero}
use Rattle.emp_mcp.specs.Complementary.{Match, EachMatch, IsAt, IsAtMostZero, IsThere}

-- an equilibrium file of one variational inequality
abbrev pub vi_file : List VarId → List Match → Annot
vi_file zeros pairs = record { bilevel = false; leader = []; blocks = Vi zeros pairs [] ∷ []; duals = []; visols = []; implicits = [] }

-- each variable is in one pair at most, and is one of the model
pub record AreApart (m : Model) (pairs : List Match) : Type 0 where
  pub within : (i : ℕ) (q : Match) → slice_get pairs i ≡ Some q → q.1.at < length m.variables
  pub once : (i j : ℕ) (q r : Match) → slice_get pairs i ≡ Some q → slice_get pairs j ≡ Some r → q.1.at ≡ r.1.at → i ≡ j

pub record BlockIsComplementary (m : Model) (zeros : List VarId) (pairs : List Match) (p : Point) : Type 0 where
  pub fits : Fits m p
  pub bounds : EachOwn m (vi_file zeros pairs) (block 0) (λ v x. MeetsBounds p v x)
  pub there : EachMatch m pairs (λ q x. IsThere (gap m p q.0.at))
  pub above_low : EachMatch m pairs (λ q x. (IsAt (coordinate p q.1.at) x.low → ⊥) → IsAtMostZero (gap m p q.0.at))
  pub below_high : EachMatch m pairs (λ q x. (IsAt (coordinate p q.1.at) x.high → ⊥) → IsAtLeastZero (gap m p q.0.at))

pub record BlocksAreComplementary : Type 0 where
  pub sound : (m : Model) (zeros : List VarId) (pairs : List Match) (p : Point) → AreApart m pairs → IsEquilibrium m (vi_file zeros pairs) p → BlockIsComplementary m zeros pairs p
  pub lifts : (m : Model) (zeros : List VarId) (pairs : List Match) (p : Point) → AreApart m pairs → BlockIsComplementary m zeros pairs p → IsEquilibrium m (vi_file zeros pairs) p
