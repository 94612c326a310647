-- The coefficients of what is asked, as fractions in lowest terms, and where a number that is formed for one is wide.
use Rattle.std.specs.Prelude.{◌≡◌, ◌⊎◌, ℕ, ◌<◌, ◌*ℤ◌, ◌-ℤ◌, Bool, true, false, cond, nat_eq, nat_lt, List, [], ◌∷◌, length, slice_index_or, Result, Ok, Err}
use Rattle.emp_num.specs.FracSpec.{IsQuotient, SubtractsNarrow, SubtractsWide, MultipliesNarrow, MultipliesWide}
use Rattle.emp_num.specs.Whole.{whole}
use Rattle.emp_num.specs.Opposite.{opposite}
use Rattle.emp_num.specs.declared.exact.Wide.{Wide as WideNumber}
use Rattle.emp_num.specs.declared.frac.Frac.{Frac}
use Rattle.emp_poly.specs.Quads.{linear_at, square_at}
use Rattle.emp_poly.specs.declared.quad.Quad.{Quad}
use Rattle.emp_poly.specs.declared.quad.Lin.{Lin}
use Rattle.emp_conditions.specs.Base.{multiplier_place}
use Rattle.emp_problem.specs.declared.problem.Rule.{Rule}
use Rattle.emp_problem.specs.declared.problem.Purpose.{Purpose}
use Rattle.emp_problem.specs.declared.problem.Purpose.TheVariants.{Goal as Aim, Flow}
use Rattle.emp_problem.specs.declared.problem.BlockPart.{BlockPart}
use Rattle.emp_problem.specs.declared.problem.AgentProblem.{AgentProblem}
use Rattle.emp_problem.specs.Problem.{left_of}
use Rattle.emp_kkt.specs.declared.asked.Item.{Item}
use Rattle.emp_kkt.specs.declared.asked.Item.TheVariants.{Low, High, Slope, Raised, Row, LeaderRow, Goal, Alone}
use Rattle.emp_kkt.specs.Items.{shape, no_lin, part_at, own_at, rule_at, leader_rules, leader_goal}

-- what a fold gives: a fraction, or that a number is wide
abbrev pub Gives : Type 0
Gives = Result Frac WideNumber

abbrev pub unit_frac : ℕ → ℕ → Frac
unit_frac k at = cond (nat_eq at k) (whole 1) (whole 0)

abbrev pub signed_frac : Bool → Frac → Frac
signed_frac true f = opposite f
signed_frac false f = f

-- the base variable's coefficient in a linear function of the variables that are left
abbrev pub lin_cell : AgentProblem → Lin → ℕ → Frac
lin_cell pr l at = cond (nat_lt at (length pr.variables)) (linear_at l.linear (slice_index_or (left_of pr) at 0)) (whole 0)

-- one fold, and then another from what it gave
abbrev pub ThenGives : (Gives → Type 0) → (Frac → Gives → Type 0) → Gives → Type 0
ThenGives first next (Ok d) = (m : Frac) × first (Ok m) × next m (Ok d)
ThenGives first next (Err e) = first (Err e) ⊎ ((m : Frac) × first (Ok m) × next m (Err e))

-- ---- the derivative of what a block wants
abbrev pub TwiceGives : Frac → Gives → Type 0
TwiceGives f (Ok r) = MultipliesNarrow (whole 2) f × IsQuotient r ((whole 2).num *ℤ f.num) ((whole 2).den *ℤ f.den)
TwiceGives f (Err e) = MultipliesWide (whole 2) f

abbrev pub PartialBy : Bool → Quad → ℕ → ℕ → Gives → Type 0
PartialBy true q v u r = TwiceGives (square_at q.square v v) r
PartialBy false q v u r = r ≡ Ok (cond (nat_lt u v) (square_at q.square u v) (square_at q.square v u))

-- of variable u in the derivative by variable v
abbrev pub PartialGives : Quad → ℕ → ℕ → Gives → Type 0
PartialGives q v u r = PartialBy (nat_eq u v) q v u r

abbrev pub PurposeGives : Purpose → ℕ → ℕ → ℕ → Gives → Type 0
PurposeGives (Aim q) i v u r = PartialGives q v u r
PurposeGives (Flow fs) i v u r = r ≡ Ok (linear_at (slice_index_or fs i no_lin).linear u)

abbrev pub StartBy : Bool → AgentProblem → BlockPart → ℕ → ℕ → Gives → Type 0
StartBy true pr b i at r = PurposeGives b.purpose i (own_at b.own i).at (slice_index_or (left_of pr) at 0) r
StartBy false pr b i at r = r ≡ Ok (whole 0)

-- of the base variable in what the block wants by its own variable i
abbrev pub StartGives : AgentProblem → BlockPart → ℕ → ℕ → Gives → Type 0
StartGives pr b i at r = StartBy (nat_lt at (length pr.variables)) pr b i at r

-- ---- the multipliers of the block's rules, each charged where it is the base variable
abbrev pub LessGives : Frac → Frac → Gives → Type 0
LessGives c x (Ok r) = SubtractsNarrow c x × IsQuotient r (c.num *ℤ x.den -ℤ x.num *ℤ c.den) (c.den *ℤ x.den)
LessGives c x (Err e) = SubtractsWide c x

abbrev pub RuleBy : Bool → Frac → Frac → Gives → Type 0
RuleBy true x c r = LessGives c x r
RuleBy false x c r = r ≡ Ok c

abbrev pub RuleGives : AgentProblem → ℕ → ℕ → ℕ → Rule → Frac → Gives → Type 0
RuleGives pr j v at x c r = RuleBy (nat_eq (multiplier_place (shape pr) j x.equation.at) at) (linear_at x.row.linear v) c r

abbrev pub ChargesGive : AgentProblem → ℕ → ℕ → ℕ → List Rule → Frac → Gives → Type 0
ChargesGive pr j v at [] c r = r ≡ Ok c
ChargesGive pr j v at (x ∷ xs) c r = ThenGives (RuleGives pr j v at x c) (ChargesGive pr j v at xs) r

abbrev pub SlopeGives : AgentProblem → ℕ → BlockPart → ℕ → ℕ → Gives → Type 0
SlopeGives pr j b i at r = ThenGives (StartGives pr b i at) (ChargesGive pr j (own_at b.own i).at at b.rules) r

-- ---- of an item
abbrev pub SignedGives : Bool → (Gives → Type 0) → Gives → Type 0
SignedGives turned P (Ok d) = (s : Frac) × P (Ok s) × (d ≡ signed_frac turned s)
SignedGives turned P (Err e) = P (Err e)

abbrev pub RaisedBy : Bool → (Gives → Type 0) → Gives → Type 0
RaisedBy true P r = r ≡ Ok (whole 1)
RaisedBy false P r = P r

-- the coefficient of the base variable
abbrev pub CellGives : AgentProblem → Item → ℕ → Gives → Type 0
CellGives pr (Low k a) at r = r ≡ Ok (unit_frac k at)
CellGives pr (High k b) at r = r ≡ Ok (signed_frac true (unit_frac k at))
CellGives pr (Slope j i turned) at r = SignedGives turned (SlopeGives pr j (part_at pr j) i at) r
CellGives pr (Raised j i z) at r = RaisedBy (nat_eq at z) (SlopeGives pr j (part_at pr j) i at) r
CellGives pr (Row j i turned) at r = r ≡ Ok (signed_frac turned (lin_cell pr (rule_at (part_at pr j).rules i).row at))
CellGives pr (LeaderRow i turned) at r = r ≡ Ok (signed_frac turned (lin_cell pr (rule_at (leader_rules pr.leader) i).row at))
CellGives pr Goal at r = r ≡ Ok (lin_cell pr (leader_goal pr.leader) at)
CellGives pr (Alone k turned) at r = r ≡ Ok (signed_frac turned (unit_frac k at))

-- ---- constants
abbrev pub purpose_constant : Purpose → ℕ → ℕ → Frac
purpose_constant (Aim q) i v = linear_at q.linear v
purpose_constant (Flow fs) i v = (slice_index_or fs i no_lin).constant

abbrev pub slope_constant : AgentProblem → ℕ → ℕ → Frac
slope_constant pr j i = purpose_constant (part_at pr j).purpose i (own_at (part_at pr j).own i).at

abbrev pub constant_of : AgentProblem → Item → Frac
constant_of pr (Low k a) = signed_frac true a
constant_of pr (High k b) = b
constant_of pr (Slope j i turned) = signed_frac turned (slope_constant pr j i)
constant_of pr (Raised j i z) = slope_constant pr j i
constant_of pr (Row j i turned) = signed_frac turned (rule_at (part_at pr j).rules i).row.constant
constant_of pr (LeaderRow i turned) = signed_frac turned (rule_at (leader_rules pr.leader) i).row.constant
constant_of pr Goal = (leader_goal pr.leader).constant
constant_of pr (Alone k turned) = whole 0

-- ---- all coefficients
pub record AreCells (pr : AgentProblem) (item : Item) (n : ℕ) (cells : List Frac) : Type 0 where
  pub count : length cells ≡ n
  pub each : (at : ℕ) (c : Frac) → at < n → CellGives pr item at (Ok (slice_index_or cells at c))

-- a number that is formed for a coefficient is wide
pub record HasWideCell (pr : AgentProblem) (item : Item) (n : ℕ) : Type 0 where
  pub at : ℕ
  pub below : at < n
  pub fault : WideNumber
  pub wide : CellGives pr item at (Err fault)
