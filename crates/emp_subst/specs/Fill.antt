-- The way back of a point: the variables that are left have their values, and each defined objective what its polynomial gives.
use Rattle.std.specs.Prelude.{◌≡◌, ◌⊎◌, ℕ, ◌+◌, ◌<◌, true, cond, List, [], ◌∷◌, length, slice_get, slice_index_or, Some, Result, Ok, Err}
use Rattle.emp_num.specs.Ratio.{SameRatio}
use Rattle.emp_num.specs.Point.{Point, coordinate, StandsFor}
use Rattle.emp_num.specs.Whole.{whole}
use Rattle.emp_num.specs.declared.frac.Frac.{Frac}
use Rattle.emp_ast.specs.declared.model.Variable.{Variable}
use Rattle.emp_ast.specs.declared.model.Model.{Model}
use Rattle.emp_ast.specs.declared.annot.Annot.{Annot}
use Rattle.emp_ast.specs.Parties.{leader, block, is_defined, is_defined_of}
use Rattle.emp_ast.specs.Rivals.{Fits, MeetsDefinitions}
use Rattle.emp_form.specs.Calls.{Formula, given, HasWideCall}
use Rattle.emp_poly.specs.Quads.{as_ratio}
use Rattle.emp_poly.specs.Written.{entry, linear_from, written_value}
use Rattle.emp_poly.specs.declared.quad.Quad.{Quad}
use Rattle.emp_problem.specs.declared.problem.Purpose.TheVariants.{Goal}
use Rattle.emp_problem.specs.declared.problem.BlockPart.{BlockPart}
use Rattle.emp_problem.specs.declared.problem.LeaderPart.{LeaderPart}
use Rattle.emp_problem.specs.declared.problem.AgentProblem.{AgentProblem}
use Rattle.emp_problem.specs.Left.{left}
use Rattle.emp_subst.specs.declared.fault.FillFault.{FillFault}
use Rattle.emp_subst.specs.declared.fault.FillFault.TheVariants.{Wide, NoMemory}

-- ---- the values by all variables, with 0 for each that an equation defines
abbrev pub spread_from : Model → Annot → List Frac → ℕ → ℕ → List Variable → List Frac
spread_from m a values at next [] = []
spread_from m a values at next (x ∷ xs) =
    cond (is_defined m a at) (whole 0 ∷ spread_from m a values (at + 1) next xs) (entry values next ∷ spread_from m a values (at + 1) (next + 1) xs)

abbrev pub spread : Model → Annot → List Frac → List Frac
spread m a values = spread_from m a values 0 0 m.variables

-- ---- the fold of a defined objective: of its party's polynomial, which for `max` is negated
pub record IsBlockFold (m : Model) (a : Annot) (pr : AgentProblem) (xs : List Frac) (v : ℕ) (f : Formula) : Type 0 where
  pub number : ℕ
  pub defines : is_defined_of m a (block number) v ≡ true
  pub part : BlockPart
  pub is : slice_get pr.blocks number ≡ Some part
  pub goal : Quad
  pub purpose : part.purpose ≡ Goal goal
  pub fold : f ≡ written_value goal xs

pub record IsLeaderFold (m : Model) (a : Annot) (pr : AgentProblem) (xs : List Frac) (v : ℕ) (f : Formula) : Type 0 where
  pub defines : is_defined_of m a leader v ≡ true
  pub part : LeaderPart
  pub is : pr.leader ≡ Some part
  pub fold : f ≡ linear_from (given part.goal.constant) part.goal.linear xs

abbrev pub IsFold : Model → Annot → AgentProblem → List Frac → ℕ → Formula → Type 0
IsFold m a pr xs v f = IsBlockFold m a pr xs v f ⊎ IsLeaderFold m a pr xs v f

-- ---- the outcomes
-- w is the first defined objective in order of declaration whose fold has a wide call
pub record IsFirstWide (m : Model) (a : Annot) (pr : AgentProblem) (xs : List Frac) (w : ℕ) : Type 0 where
  pub inside : w < length m.variables
  pub formula : Formula
  pub fold : IsFold m a pr xs w formula
  pub wide : HasWideCall formula
  pub before : (v : ℕ) (f : Formula) → v < w → IsFold m a pr xs v f → HasWideCall f → ⊥

-- the point fits the model and meets the definitions, and the variables that are left have these values
pub record IsFilled (m : Model) (a : Annot) (values : List Frac) (p : Point) : Type 0 where
  pub fits : Fits m p
  pub definitions : MeetsDefinitions m a p
  pub left : (i : ℕ) → i < length values → SameRatio (coordinate p (slice_index_or (left m a) i 0)) (as_ratio (entry values i))

pub record IsFilling (m : Model) (a : Annot) (pr : AgentProblem) (values list : List Frac) : Type 0 where
  pub count : length list ≡ length m.variables
  pub left : (i : ℕ) → i < length values → entry list (slice_index_or (left m a) i 0) ≡ entry values i
  pub points : (p : Point) → StandsFor list p → IsFilled m a values p
  pub narrow : (v : ℕ) (f : Formula) → v < length m.variables → IsFold m a pr (spread m a values) v f → HasWideCall f → ⊥

abbrev pub FillGives : Model → Annot → AgentProblem → List Frac → Result (List Frac) FillFault → Type 0
FillGives m a pr values (Ok list) = IsFilling m a pr values list
FillGives m a pr values (Err (Wide w)) = IsFirstWide m a pr (spread m a values) w.at
FillGives m a pr values (Err NoMemory) = Unit {0}
