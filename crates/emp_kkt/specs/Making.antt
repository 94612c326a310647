-- Row systems as they are made, step by step. This serves proofs; no meaning cites it.
use Rattle.std.specs.Prelude.{◌≡◌, ℕ, ◌+◌, ◌<◌, ◌≤◌, pos, List, map, length, Option, Some, None, Result, Ok, Err}
use Rattle.emp_num.specs.declared.frac.Frac.{Frac}
use Rattle.emp_ast.specs.declared.tree.VarId.{VarId}
use Rattle.emp_rows.specs.declared.affine.Affine.{Affine}
use Rattle.emp_rows.specs.declared.primitive.RowFault.{RowFault}
use Rattle.emp_rows.specs.declared.primitive.RowFault.TheVariants as RowWords
use Rattle.emp_rows.specs.Affine.{IsRow}
use Rattle.std.specs.List.{All}
use Rattle.emp_game.specs.Game.{Rule as GameRule}
use Rattle.emp_conditions.specs.Base.{base_slots, multiplier_place}
use Rattle.emp_problem.specs.declared.problem.Rule.{Rule}
use Rattle.emp_problem.specs.declared.problem.Purpose.{Purpose}
use Rattle.emp_problem.specs.declared.problem.Purpose.TheVariants.{Goal as Aim, Flow}
use Rattle.emp_problem.specs.declared.problem.LeaderPart.{LeaderPart}
use Rattle.emp_problem.specs.declared.problem.AgentProblem.{AgentProblem}
use Rattle.emp_problem.specs.Problem.{left_of, game_rule, place_of}
use Rattle.emp_kkt.specs.declared.extras.Extra.{Extra}
use Rattle.emp_kkt.specs.declared.asked.Item.{Item}
use Rattle.emp_kkt.specs.declared.asked.Item.TheVariants.{Low, High, Slope, Raised, Row, LeaderRow, Goal, Alone}
use Rattle.emp_kkt.specs.declared.make.KktFault.{KktFault}
use Rattle.emp_kkt.specs.declared.make.KktFault.TheVariants.{TooLarge, WideRow, NoMemory}
use Rattle.emp_kkt.specs.Items.{shape, base_of, part_at, leader_rules}
use Rattle.emp_kkt.specs.Cells.{AreCells, HasWideCell}
use Rattle.emp_kkt.specs.Gives.{Fits, IsMadeOf, IsWideItem, AreMadeOf, IsGoalMade, IsFirstWide}

-- ---- base variables
-- the extras are those of the problem, and there are at most 256 base variables
pub record IsLayout (pr : AgentProblem) (xs : List Extra) : Type 0 where
  pub are : map base_of xs ≡ base_slots (shape pr)
  pub few : (length pr.variables + length xs) ≤ 256

abbrev pub own_places : AgentProblem → List VarId → List ℕ
own_places pr own = map (λ v. place_of pr v) own

abbrev pub rules_at : AgentProblem → List Rule → List GameRule
rules_at pr rules = map (game_rule (pos 1) (left_of pr)) rules

abbrev pub LayoutGives : AgentProblem → Result (List Extra) KktFault → Type 0
LayoutGives pr (Ok xs) = IsLayout pr xs
LayoutGives pr (Err TooLarge) = Fits pr → ⊥
LayoutGives pr (Err (WideRow k)) = ⊥
LayoutGives pr (Err NoMemory) = Unit {0}

-- ---- items whose numbers are the problem's
abbrev pub PurposeFits : Purpose → ℕ → Type 0
PurposeFits (Aim q) i = Unit {0}
PurposeFits (Flow fs) i = i < length fs

pub record SlopeFits (pr : AgentProblem) (j i : ℕ) : Type 0 where
  pub block : j < length pr.blocks
  pub own : i < length (part_at pr j).own
  pub purpose : PurposeFits (part_at pr j).purpose i

abbrev pub ItemFits : AgentProblem → Item → Type 0
ItemFits pr (Low k a) = Unit {0}
ItemFits pr (High k b) = Unit {0}
ItemFits pr (Slope j i turned) = SlopeFits pr j i
ItemFits pr (Raised j i z) = SlopeFits pr j i
ItemFits pr (Row j i turned) = (j < length pr.blocks) × (i < length (part_at pr j).rules)
ItemFits pr (LeaderRow i turned) = i < length (leader_rules pr.leader)
ItemFits pr Goal = Unit {0}
ItemFits pr (Alone k turned) = Unit {0}

-- the base variables of the multipliers of block j's rules
abbrev pub bases_of : AgentProblem → ℕ → List Rule → List ℕ
bases_of pr j rs = map (λ r. multiplier_place (shape pr) j r.equation.at) rs

-- those that an item charges
abbrev pub AreBases : AgentProblem → Item → List ℕ → Type 0
AreBases pr (Low k a) bs = Unit {0}
AreBases pr (High k b) bs = Unit {0}
AreBases pr (Slope j i turned) bs = bs ≡ bases_of pr j (part_at pr j).rules
AreBases pr (Raised j i z) bs = bs ≡ bases_of pr j (part_at pr j).rules
AreBases pr (Row j i turned) bs = Unit {0}
AreBases pr (LeaderRow i turned) bs = Unit {0}
AreBases pr Goal bs = Unit {0}
AreBases pr (Alone k turned) bs = Unit {0}

-- ---- quantities
abbrev pub CellsGive : AgentProblem → Item → ℕ → Result (List Frac) RowFault → Type 0
CellsGive pr item n (Ok cells) = AreCells pr item n cells
CellsGive pr item n (Err RowWords.Wide) = HasWideCell pr item n
CellsGive pr item n (Err RowWords.NoMemory) = Unit {0}

abbrev pub RowGives : AgentProblem → ℕ → Item → Result Affine RowFault → Type 0
RowGives pr n item (Ok row) = IsMadeOf pr n item row × IsRow n row
RowGives pr n item (Err RowWords.Wide) = IsWideItem pr n item
RowGives pr n item (Err RowWords.NoMemory) = Unit {0}

abbrev pub RowAtGives : AgentProblem → ℕ → Item → ℕ → Result Affine KktFault → Type 0
RowAtGives pr n item number (Ok row) = IsMadeOf pr n item row × IsRow n row
RowAtGives pr n item number (Err TooLarge) = ⊥
RowAtGives pr n item number (Err (WideRow k)) = (k ≡ number) × IsWideItem pr n item
RowAtGives pr n item number (Err NoMemory) = Unit {0}

pub record AreRows (pr : AgentProblem) (n : ℕ) (is : List Item) (rows : List Affine) : Type 0 where
  pub made : AreMadeOf pr n is rows
  pub each : All (IsRow n) rows

abbrev pub RowsGive : AgentProblem → ℕ → List Item → Result (List Affine) KktFault → Type 0
RowsGive pr n is (Ok rows) = AreRows pr n is rows
RowsGive pr n is (Err TooLarge) = ⊥
RowsGive pr n is (Err (WideRow k)) = IsFirstWide pr n is k
RowsGive pr n is (Err NoMemory) = Unit {0}

abbrev pub IsObjectiveRow : AgentProblem → ℕ → Option LeaderPart → Option Affine → Type 0
IsObjectiveRow pr n l o = IsGoalMade pr n l o × ((r : Affine) → o ≡ Some r → IsRow n r)

abbrev pub HasLeader : Option LeaderPart → Type 0
HasLeader None = ⊥
HasLeader (Some l) = Unit {0}

abbrev pub ObjectiveGives : AgentProblem → ℕ → Option LeaderPart → ℕ → Result (Option Affine) KktFault → Type 0
ObjectiveGives pr n l number (Ok o) = IsObjectiveRow pr n l o
ObjectiveGives pr n l number (Err TooLarge) = ⊥
ObjectiveGives pr n l number (Err (WideRow k)) = (k ≡ number) × HasLeader l × IsWideItem pr n Goal
ObjectiveGives pr n l number (Err NoMemory) = Unit {0}
