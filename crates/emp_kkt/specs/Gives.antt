-- What `make` answers: each outcome with what is so exactly there.
use Rattle.std.specs.Prelude.{◌≡◌, ◌⊎◌, ℕ, ◌+◌, ◌<◌, ◌≤◌, ℤ, List, [], ◌∷◌, ◌++◌, All, length, take, slice_index_or, Option, Some, None, Result, Ok, Err}
use Rattle.emp_num.specs.declared.frac.Frac.{Frac}
use Rattle.emp_rows.specs.declared.affine.Affine.{Affine}
use Rattle.emp_rows.specs.declared.system.RowSystem.{RowSystem}
use Rattle.emp_rows.specs.Primitive.{made}
use Rattle.emp_split.specs.Games.{coordinates}
use Rattle.emp_conditions.specs.Base.{base_slots}
use Rattle.emp_conditions.specs.Rows.{conditions}
use Rattle.emp_quantities.specs.System.{rows_of}
use Rattle.emp_problem.specs.declared.problem.LeaderPart.{LeaderPart}
use Rattle.emp_problem.specs.declared.problem.AgentProblem.{AgentProblem}
use Rattle.emp_problem.specs.Problem.{place_of, game, HasFunctions, LeaderFits, IsOver}
use Rattle.emp_kkt.specs.declared.asked.Item.{Item}
use Rattle.emp_kkt.specs.declared.asked.Item.TheVariants.{Goal}
use Rattle.emp_kkt.specs.declared.make.KktFault.{KktFault}
use Rattle.emp_kkt.specs.declared.make.KktFault.TheVariants.{TooLarge, WideRow, NoMemory}
use Rattle.emp_kkt.specs.Items.{shape, items}
use Rattle.emp_kkt.specs.Cells.{AreCells, HasWideCell, constant_of}
use Rattle.emp_quantities.specs.Over.{IsSystemOver}

-- ---- what is asked of a problem
-- own and dual variables are among those that are left, and there is a function for each own variable
pub record IsFit (pr : AgentProblem) : Type 0 where
  pub own : All (λ b. All (λ v. place_of pr v < length pr.variables) b.own) pr.blocks
  pub functions : All (λ b. HasFunctions b.own b.purpose) pr.blocks
  pub duals : All (λ d. place_of pr d.0 < length pr.variables) pr.duals
  pub leader : LeaderFits pr pr.leader

-- ---- sizes, which are the same over every number
abbrev pub Fits : AgentProblem → Type 0
Fits pr = ((coordinates (shape pr) + length (base_slots (shape pr))) ≤ 256) × (length (rows_of (conditions (shape pr))) ≤ 512)

abbrev pub base_count : AgentProblem → ℕ
base_count pr = coordinates (shape pr) + length (base_slots (shape pr))

-- ---- quantities
-- the quantity is that of the item's fractions
pub record IsMadeOf (pr : AgentProblem) (n : ℕ) (item : Item) (row : Affine) : Type 0 where
  pub cells : List Frac
  pub are : AreCells pr item n cells
  pub made : made cells (constant_of pr item) ≡ Some row

pub record MakesNone (pr : AgentProblem) (n : ℕ) (item : Item) : Type 0 where
  pub cells : List Frac
  pub are : AreCells pr item n cells
  pub none : made cells (constant_of pr item) ≡ None

-- a number that is formed for the item's quantity is wide
abbrev pub IsWideItem : AgentProblem → ℕ → Item → Type 0
IsWideItem pr n item = HasWideCell pr item n ⊎ MakesNone pr n item

abbrev pub AreMadeOf : AgentProblem → ℕ → List Item → List Affine → Type 0
AreMadeOf pr n [] [] = Unit {0}
AreMadeOf pr n [] (r ∷ rs) = ⊥
AreMadeOf pr n (i ∷ is) [] = ⊥
AreMadeOf pr n (i ∷ is) (r ∷ rs) = IsMadeOf pr n i r × AreMadeOf pr n is rs

abbrev pub IsGoalMade : AgentProblem → ℕ → Option LeaderPart → Option Affine → Type 0
IsGoalMade pr n None None = Unit {0}
IsGoalMade pr n None (Some r) = ⊥
IsGoalMade pr n (Some l) None = ⊥
IsGoalMade pr n (Some l) (Some r) = IsMadeOf pr n Goal r

-- the quantities, and last the leader's objective
abbrev pub goal_items : Option LeaderPart → List Item
goal_items None = []
goal_items (Some l) = Goal ∷ []

abbrev pub numbered : AgentProblem → List Item
numbered pr = items pr ++ goal_items pr.leader

-- those before number k, counted from 1, are made, and a number that is formed for this one is wide
pub record IsFirstWide (pr : AgentProblem) (n : ℕ) (is : List Item) (k : ℕ) : Type 0 where
  pub at : ℕ
  pub number : k ≡ at + 1
  pub within : at < length is
  pub rows : List Affine
  pub before : AreMadeOf pr n (take at is) rows
  pub wide : IsWideItem pr n (slice_index_or is at Goal)

pub record IsKkt (pr : AgentProblem) (s : RowSystem) : Type 0 where
  pub fits : Fits pr
  pub over : (n : ℤ) → IsOver n pr → IsSystemOver n (game n pr) s
  pub quantities : AreMadeOf pr s.base (items pr) s.quantities
  pub objective : IsGoalMade pr s.base pr.leader s.objective

abbrev pub KktGives : AgentProblem → Result RowSystem KktFault → Type 0
KktGives pr (Ok s) = IsKkt pr s
KktGives pr (Err TooLarge) = Fits pr → ⊥
KktGives pr (Err (WideRow k)) = Fits pr × IsFirstWide pr (base_count pr) (numbered pr) k
KktGives pr (Err NoMemory) = Unit {0}
