-- What is asked of a problem, item by item: the conditions of its game, each row by what it is of the problem.
use Rattle.std.specs.Prelude.{ℕ, ◌+◌, pos, true, false, cond, nat_eq, List, [], ◌∷◌, ◌++◌, length, slice_index_or, Option, Some, None, refl}
use Rattle.emp_num.specs.Whole.{whole}
use Rattle.emp_ast.specs.declared.tree.VarId.{VarId}
use Rattle.emp_ast.specs.declared.model.Relation.{Relation}
use Rattle.emp_ast.specs.declared.model.Relation.TheVariants.{Equal, AtLeast, AtMost, Nothing}
use Rattle.emp_ast.specs.declared.model.End.{End}
use Rattle.emp_ast.specs.declared.model.End.TheVariants.{Open, At}
use Rattle.emp_poly.specs.declared.quad.Lin.{Lin}
use Rattle.emp_rows.specs.declared.system.Kind.{Kind}
use Rattle.emp_rows.specs.declared.system.Kind.TheVariants.{Zero, Nonneg}
use Rattle.emp_game.specs.Game.{range_at}
use Rattle.emp_game.specs.Conditions.{ends_meet}
use Rattle.emp_split.specs.Games.{Game}
use Rattle.emp_split.specs.Numbers.{holder}
use Rattle.emp_conditions.specs.Base.{Base, range, multiplier, range_place, multiplier_place}
use Rattle.emp_problem.specs.declared.problem.Rule.{Rule}
use Rattle.emp_problem.specs.declared.problem.Purpose.TheVariants.{Flow}
use Rattle.emp_problem.specs.declared.problem.BlockPart.{BlockPart}
use Rattle.emp_problem.specs.declared.problem.LeaderPart.{LeaderPart}
use Rattle.emp_problem.specs.declared.problem.AgentProblem.{AgentProblem}
use Rattle.emp_problem.specs.Problem.{place_of, game}
use Rattle.emp_kkt.specs.declared.extras.Extra.{Extra}
use Rattle.emp_kkt.specs.declared.extras.Extra.TheVariants.{Range, Multiplier}
use Rattle.emp_kkt.specs.declared.asked.Item.{Item}
use Rattle.emp_kkt.specs.declared.asked.Item.TheVariants.{Low, High, Slope, Raised, Row, LeaderRow, Alone}
use Rattle.emp_kkt.specs.declared.asked.Asked.{Asked}
use Rattle.emp_kkt.specs.declared.asked.Asked.TheVariants.{ToBeZero, ToBeNonneg, Pair}

-- the game over 1: where base variables stand is the same over every number
abbrev pub shape : AgentProblem → Game
shape pr = game (pos 1) pr

abbrev pub base_of : Extra → Base
base_of (Range j k) = range j k
base_of (Multiplier j e) = multiplier j e

-- ---- parts of the problem by number
abbrev pub no_variable : VarId
no_variable = record { at = 0 }

abbrev pub no_lin : Lin
no_lin = record { constant = whole 0; linear = []; linear_kept = refl }

abbrev pub no_rule : Rule
no_rule = record { equation = record { at = 0 }; relation = Nothing; row = no_lin }

abbrev pub no_part : BlockPart
no_part = record { own = []; purpose = Flow []; rules = [] }

abbrev pub part_at : AgentProblem → ℕ → BlockPart
part_at pr j = slice_index_or pr.blocks j no_part

abbrev pub own_at : List VarId → ℕ → VarId
own_at vs i = slice_index_or vs i no_variable

abbrev pub rule_at : List Rule → ℕ → Rule
rule_at rs i = slice_index_or rs i no_rule

abbrev pub leader_goal : Option LeaderPart → Lin
leader_goal None = no_lin
leader_goal (Some l) = l.goal

abbrev pub leader_rules : Option LeaderPart → List Rule
leader_rules None = []
leader_rules (Some l) = l.rules

-- ---- of own coordinate i of block j, at place k, with the number z of its range
abbrev pub range_asked : End → End → ℕ → ℕ → ℕ → ℕ → List Asked
range_asked Open Open k j i z = ToBeZero (Slope j i false) ∷ []
range_asked (At a) Open k j i z = Pair (Slope j i false) (Low k a) ∷ []
range_asked Open (At b) k j i z = Pair (Slope j i true) (High k b) ∷ []
range_asked (At a) (At b) k j i z = cond (ends_meet a b) (ToBeZero (Low k a) ∷ []) (Pair (Raised j i z) (Low k a) ∷ Pair (Alone z false) (High k b) ∷ [])

abbrev pub coordinate_asked : AgentProblem → ℕ → ℕ → ℕ → List Asked
coordinate_asked pr j i k = range_asked (range_at (shape pr).ranges k).0 (range_at (shape pr).ranges k).1 k j i (range_place (shape pr) j k)

abbrev pub own_asked : AgentProblem → ℕ → ℕ → List VarId → List Asked
own_asked pr j i [] = []
own_asked pr j i (v ∷ vs) = coordinate_asked pr j i (place_of pr v) ++ own_asked pr j (i + 1) vs

-- ---- of rule i of block j, with its multiplier at place u
abbrev pub rule_asked : Relation → ℕ → ℕ → ℕ → Asked
rule_asked Equal j i u = ToBeZero (Row j i false)
rule_asked AtLeast j i u = Pair (Alone u false) (Row j i false)
rule_asked AtMost j i u = Pair (Alone u true) (Row j i true)
rule_asked Nothing j i u = ToBeZero (Alone u false)

-- an equation under `visol` is asked at the first block that has it alone
abbrev pub one_rule_asked : AgentProblem → ℕ → ℕ → Rule → List Asked
one_rule_asked pr j i r = cond (nat_eq (holder (shape pr) j r.equation.at) j) (rule_asked r.relation j i (multiplier_place (shape pr) j r.equation.at) ∷ []) []

abbrev pub rules_asked : AgentProblem → ℕ → ℕ → List Rule → List Asked
rules_asked pr j i [] = []
rules_asked pr j i (r ∷ rs) = one_rule_asked pr j i r ++ rules_asked pr j (i + 1) rs

abbrev pub blocks_asked : AgentProblem → ℕ → List BlockPart → List Asked
blocks_asked pr j [] = []
blocks_asked pr j (b ∷ bs) = (own_asked pr j 0 b.own ++ rules_asked pr j 0 b.rules) ++ blocks_asked pr (j + 1) bs

-- ---- of the leader
abbrev pub leader_range_asked : End → End → ℕ → List Asked
leader_range_asked Open Open k = []
leader_range_asked (At a) Open k = ToBeNonneg (Low k a) ∷ []
leader_range_asked Open (At b) k = ToBeNonneg (High k b) ∷ []
leader_range_asked (At a) (At b) k = cond (ends_meet a b) (ToBeZero (Low k a) ∷ []) (ToBeNonneg (Low k a) ∷ ToBeNonneg (High k b) ∷ [])

abbrev pub leader_own_asked : AgentProblem → List VarId → List Asked
leader_own_asked pr [] = []
leader_own_asked pr (v ∷ vs) = leader_range_asked (range_at (shape pr).ranges (place_of pr v)).0 (range_at (shape pr).ranges (place_of pr v)).1 (place_of pr v) ++ leader_own_asked pr vs

abbrev pub leader_rule_asked : Relation → ℕ → List Asked
leader_rule_asked Equal i = ToBeZero (LeaderRow i false) ∷ []
leader_rule_asked AtLeast i = ToBeNonneg (LeaderRow i false) ∷ []
leader_rule_asked AtMost i = ToBeNonneg (LeaderRow i true) ∷ []
leader_rule_asked Nothing i = []

abbrev pub leader_rules_asked : ℕ → List Rule → List Asked
leader_rules_asked i [] = []
leader_rules_asked i (r ∷ rs) = leader_rule_asked r.relation i ++ leader_rules_asked (i + 1) rs

abbrev pub leader_asked : AgentProblem → Option LeaderPart → List Asked
leader_asked pr None = []
leader_asked pr (Some l) = leader_own_asked pr l.own ++ leader_rules_asked 0 l.rules

-- ---- all, in order
abbrev pub asked : AgentProblem → List Asked
asked pr = leader_asked pr pr.leader ++ blocks_asked pr 0 pr.blocks

-- the quantities: of a pair the second member stands first
abbrev pub items_one : Asked → List Item
items_one (ToBeZero i) = i ∷ []
items_one (ToBeNonneg i) = i ∷ []
items_one (Pair a b) = b ∷ a ∷ []

abbrev pub items_of : List Asked → List Item
items_of [] = []
items_of (c ∷ cs) = items_one c ++ items_of cs

abbrev pub items : AgentProblem → List Item
items pr = items_of (asked pr)

abbrev pub kinds_one : Asked → List Kind
kinds_one (ToBeZero i) = Zero ∷ []
kinds_one (ToBeNonneg i) = Nonneg ∷ []
kinds_one (Pair a b) = Nonneg ∷ Nonneg ∷ []

abbrev pub asked_kinds : List Asked → List Kind
asked_kinds [] = []
asked_kinds (c ∷ cs) = kinds_one c ++ asked_kinds cs

abbrev pub pairs_one : ℕ → Asked → List (ℕ × ℕ)
pairs_one before (ToBeZero i) = []
pairs_one before (ToBeNonneg i) = []
pairs_one before (Pair a b) = (before + 2, before + 1) ∷ []

abbrev pub asked_pairs : ℕ → List Asked → List (ℕ × ℕ)
asked_pairs before [] = []
asked_pairs before (c ∷ cs) = pairs_one before c ++ asked_pairs (before + length (items_one c)) cs
