-- Disjunctions of a model: which points are admissible and best, and which steps gain without end.
use Rattle.std.specs.Prelude.{◌≡◌, ◌⊎◌, ℕ, ◌+◌, true, false, List, [], ◌∷◌, ◌++◌, All, slice_get, Some}
use Rattle.emp_num.specs.Point.{Point}
use Rattle.emp_ast.specs.declared.tree.EquId.{EquId}
use Rattle.emp_ast.specs.declared.model.Equation.{Equation}
use Rattle.emp_ast.specs.declared.model.Variable.{Variable}
use Rattle.emp_ast.specs.declared.model.Model.{Model}
use Rattle.emp_ast.specs.declared.annot.Block.TheVariants.{Vi}
use Rattle.emp_ast.specs.declared.annot.Annot.{Annot}
use Rattle.emp_ast.specs.Meets.{MeetsEquation, MeetsBounds}
use Rattle.emp_ast.specs.Parties.{names_equation, goal_objective}
use Rattle.emp_ast.specs.Rivals.{Fits}
use Rattle.emp_ast.specs.Bilevel.{IsBetterBy, IsAfterSteps}

-- ---- admissible
-- the equations of all disjunctions, in order
abbrev pub terms : List (List EquId) → List EquId
terms [] = []
terms (d ∷ ds) = d ++ terms ds

abbrev pub MeetsNumber : Model → Point → ℕ → Type 0
MeetsNumber m p e = (q : Equation) × (slice_get m.equations e ≡ Some q) × MeetsEquation p q

abbrev pub MeetsOne : Model → Point → List EquId → Type 0
MeetsOne m p [] = ⊥
MeetsOne m p (e ∷ es) = MeetsNumber m p e.at ⊎ MeetsOne m p es

-- the point meets all bounds, all equations in no disjunction, and at least one equation of each disjunction
pub record IsChoice (m : Model) (ds : List (List EquId)) (p : Point) : Type 0 where
  pub fits : Fits m p
  pub bounds : (v : ℕ) (x : Variable) → slice_get m.variables v ≡ Some x → MeetsBounds p v x
  pub others : (e : ℕ) (q : Equation) → slice_get m.equations e ≡ Some q → names_equation (terms ds) e ≡ false → MeetsEquation p q
  pub chosen : All (MeetsOne m p) ds

-- ---- who owns what: all is the leader's but the terms, which stand in a block of their own that has no variable. So a term
-- defines no objective. Of this annotation the owners and definitions alone are meant.
abbrev pub apart : List (List EquId) → Annot
apart ds = record { bilevel = true; leader = []; blocks = Vi [] [] (terms ds) ∷ []; duals = []; visols = []; implicits = [] }

-- ---- best, by the solve objective
abbrev pub IsBetterChoice : Model → Point → Point → Type 0
IsBetterChoice m p q = IsBetterBy (goal_objective m.goal) p q

pub record IsBestChoice (m : Model) (ds : List (List EquId)) (p : Point) : Type 0 where
  pub admissible : IsChoice m ds p
  pub best : (q : Point) → IsChoice m ds q → IsBetterChoice m q p → ⊥

-- ---- rays
-- after each number of steps the point is admissible, and the objective improves at each step
pub record IsChoiceRay (m : Model) (ds : List (List EquId)) (p v : Point) : Type 0 where
  pub start : IsChoice m ds p
  pub after : (t : ℕ) → (q : Point) × IsAfterSteps m (apart ds) p v t q
  pub admissible : (t : ℕ) (q : Point) → IsAfterSteps m (apart ds) p v t q → IsChoice m ds q
  pub improves : (t : ℕ) (q r : Point) → IsAfterSteps m (apart ds) p v t q → IsAfterSteps m (apart ds) p v (t + 1) r → IsBetterChoice m r q
