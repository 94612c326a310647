-- How many base variables and quantities the problem of a market has.
use Rattle.std.proofs.Common.{◌≡◌, ℕ, suc, ◌+◌, ◌*◌, ◌≤◌, ℤ, pos, Bool, true, false, cond, List, [], ◌∷◌, ◌++◌, map, length, Option, Some, None, arith, refl, ap, subst, ◌∙◌, length-append}
use Rattle.std.proofs.lemmas.List.{length-map}
use Rattle.emp_ast.specs.declared.model.End.{End}
use Rattle.emp_ast.specs.declared.model.End.TheVariants.{Open, At}
use Rattle.emp_ast.specs.declared.model.Model.{Model}
use Rattle.emp_ast.specs.declared.annot.Block.{Block}
use Rattle.emp_ast.specs.declared.annot.Annot.{Annot}
use Rattle.emp_game.specs.Game.{Row, Player, Ranges, range_at}
use Rattle.emp_game.specs.Conditions.{ends_meet, derivatives}
use Rattle.emp_split.specs.Games.{Game, coordinates}
use Rattle.emp_split.specs.Numbers.{player_slots}
use Rattle.emp_conditions.specs.Base.{range, multiplier, two_ends, range_slots, base_from, base_slots, range_place}
use Rattle.emp_conditions.specs.Rows.{Condition, zero_row, nonneg_row, pair, low_row, high_row, sum_row, variable, slope_row, range_conditions, own_conditions, rule_conditions, leader_conditions, player_conditions, conditions}
use Rattle.emp_quantities.specs.System.{rows_of}
use Rattle.emp_problem.specs.declared.problem.Rule.{Rule as ProblemRule}
use Rattle.emp_problem.specs.declared.problem.BlockPart.{BlockPart}
use Rattle.emp_problem.specs.declared.problem.LeaderPart.{LeaderPart}
use Rattle.emp_problem.specs.declared.problem.AgentProblem.{AgentProblem}
use Rattle.emp_problem.specs.Problem.{left_of, game_rule, game_player, game_leader, game}
use Rattle.emp_problem.specs.Left.{place_in}
use Rattle.emp_problem.specs.ProblemOf.{AreRulesFor, IsBlockFor, AreBlocksFor, LeadsFor, IsProblemOf}
use Rattle.emp_subst.proofs.Keeping.{few_keep}
use Rattle.emp_make.specs.Markets.{firm_block, IsMarketModel}
use Rattle.emp_market.proofs.AcceptLists.{length-listed}
use Rattle.emp_market.proofs.AcceptOwners.{annot_of}
use Rattle.emp_market.proofs.AcceptDefines.{counted_is, constraints_none}

-- ---- ranges
slots_within : (ranges : Ranges) (j : ℕ) (ks : List ℕ) → length (range_slots ranges j ks) ≤ length ks
slots_within ranges j [] = omega arith
slots_within ranges j (k ∷ ks) = go (two_ends (range_at ranges k).0 (range_at ranges k).1) (slots_within ranges j ks)
  where
    go : (b : Bool) → length (range_slots ranges j ks) ≤ length ks → length (cond b (range j k ∷ range_slots ranges j ks) (range_slots ranges j ks)) ≤ length (k ∷ ks)
    go true l = omega arith
    go false l = omega arith

rows-append : (cs ds : List Condition) → length (rows_of (cs ++ ds)) ≡ length (rows_of cs) + length (rows_of ds)
rows-append [] ds = omega arith
rows-append (zero_row r ∷ cs) ds =
    let rest = rows-append cs ds in
    omega (arith, rest)
rows-append (nonneg_row r ∷ cs) ds =
    let rest = rows-append cs ds in
    omega (arith, rest)
rows-append (pair a b ∷ cs) ds =
    let rest = rows-append cs ds in
    omega (arith, rest)

range_rows : (low high : End) (k : ℕ) (s z : Row) → length (rows_of (range_conditions low high k s z)) ≤ 4
range_rows Open Open k s z = omega arith
range_rows (At a) Open k s z = omega arith
range_rows Open (At b) k s z = omega arith
range_rows (At a) (At b) k s z = go (ends_meet a b)
  where
    go : (t : Bool) → length (rows_of (cond t (zero_row (low_row k a) ∷ []) (pair (sum_row s z) (low_row k a) ∷ pair z (high_row k b) ∷ []))) ≤ 4
    go true = omega arith
    go false = omega arith

own_rows : (g : Game) (j : ℕ) (pl : Player) (ks : List ℕ) (fs : List Row) → length (rows_of (own_conditions g j pl ks fs)) ≤ 4 * length ks
own_rows g j pl [] fs = omega arith
own_rows g j pl (k ∷ ks) [] = omega arith
own_rows g j pl (k ∷ ks) (f ∷ fs) =
    let slope = slope_row g j pl f k in
    let multiplier = variable (range_place g j k) in
    let both = rows-append (range_conditions (range_at g.ranges k).0 (range_at g.ranges k).1 k slope multiplier) (own_conditions g j pl ks fs) in
    let first = range_rows (range_at g.ranges k).0 (range_at g.ranges k).1 k slope multiplier in
    let rest = own_rows g j pl ks fs in
    omega (arith, both, first, rest)

-- ---- players with one own coordinate and no rule
abbrev IsSingle : Player → Type 0
IsSingle pl = (length pl.own ≡ 1) × (pl.rules ≡ [])

abbrev AreSingle : List Player → Type 0
AreSingle [] = Unit {0}
AreSingle (pl ∷ pls) = IsSingle pl × AreSingle pls

single_base : (g : Game) (j : ℕ) (pls : List Player) → AreSingle pls → length (base_from g j pls) ≤ length pls
single_base g j [] h = omega arith
single_base g j (pl ∷ pls) h =
    let own = slots_within g.ranges j pl.own in
    let none : map (λ s. multiplier s.0 s.1) (player_slots g j pl.rules) ≡ [] = ap (λ rs. map (λ s. multiplier s.0 s.1) (player_slots g j rs)) h.0.1 in
    let rest = single_base g (suc j) pls h.1 in
    let all = length-append (range_slots g.ranges j pl.own) (map (λ s. multiplier s.0 s.1) (player_slots g j pl.rules) ++ base_from g (suc j) pls) in
    let behind : length (map (λ s. multiplier s.0 s.1) (player_slots g j pl.rules) ++ base_from g (suc j) pls) ≡ length (base_from g (suc j) pls) = ap (λ bs. length (bs ++ base_from g (suc j) pls)) none in
    let one = h.0.0 in
    omega (arith, own, rest, all, behind, one)

single_rows : (g : Game) (j : ℕ) (pls : List Player) → AreSingle pls → length (rows_of (player_conditions g j pls)) ≤ 4 * length pls
single_rows g j [] h = omega arith
single_rows g j (pl ∷ pls) h =
    let own = own_rows g j pl pl.own (derivatives pl) in
    let none : rule_conditions g j pl.rules ≡ [] = ap (rule_conditions g j) h.0.1 in
    let rest = single_rows g (suc j) pls h.1 in
    let all = rows-append (own_conditions g j pl pl.own (derivatives pl)) (rule_conditions g j pl.rules ++ player_conditions g (suc j) pls) in
    let behind : length (rows_of (rule_conditions g j pl.rules ++ player_conditions g (suc j) pls)) ≡ length (rows_of (player_conditions g (suc j) pls)) = ap (λ cs. length (rows_of (cs ++ player_conditions g (suc j) pls))) none in
    let one = h.0.0 in
    omega (arith, own, rest, all, behind, one)

-- ---- the problem of a market
no_rules : (m : Model) (rs : List ProblemRule) → AreRulesFor m [] rs → rs ≡ []
no_rules m [] h = refl
no_rules m (r ∷ rs) h = absurd h

no_leader : (m : Model) (a : Annot) (l : Option LeaderPart) → LeadsFor m a false l → l ≡ None
no_leader m a None h = refl
no_leader m a (Some l) h = absurd h

module _ (m : Model) (firms seed : ℕ) (h : IsMarketModel seed firms m) where
  abbrev A : Annot
  A = annot_of firms

  part_single : (n : ℤ) (vs : List ℕ) (k : ℕ) (b : Block) (part : BlockPart) → suc k ≤ firms → IsBlockFor m A k b part → IsSingle (game_player n vs part)
  part_single n vs k b part l is =
      let count : length (map (λ v. place_in vs v.at) part.own) ≡ length part.own = length-map part.own _ in
      let one : length part.own ≡ 1 = ap length (is.own ∙ counted_is m firms seed h k l) in
      let rules : AreRulesFor m [] part.rules = subst (λ es. AreRulesFor m es part.rules) (constraints_none m firms seed h k) is.rules in
      (count ∙ one, ap (map (game_rule n vs)) (no_rules m part.rules rules))

  parts_single : (n : ℤ) (vs : List ℕ) (k : ℕ) (bs : List Block) (parts : List BlockPart) → k + length bs ≤ firms → AreBlocksFor m A k bs parts → AreSingle (map (game_player n vs) parts) × (length parts ≡ length bs)
  parts_single n vs k [] [] l are = (tt, refl)
  parts_single n vs k [] (p ∷ parts) l are = absurd are
  parts_single n vs k (b ∷ bs) [] l are = absurd are
  parts_single n vs k (b ∷ bs) (p ∷ parts) l are =
      let rest = parts_single n vs (suc k) bs parts (omega arith) are.1 in
      ((part_single n vs k b p (omega arith) are.0, rest.0), ap suc rest.1)

  module _ (pr : AgentProblem) (is : IsProblemOf m A pr) where
    all_single : AreSingle (game (pos 1) pr).players × (length pr.blocks ≡ length A.blocks)
    all_single =
        let count = length-listed (firm_block firms) 0 firms in
        parts_single (pos 1) (left_of pr) 0 A.blocks pr.blocks (omega (arith, count)) is.blocks

    players_count : length (game (pos 1) pr).players ≡ firms
    players_count = length-map pr.blocks _ ∙ (all_single.1 ∙ length-listed (firm_block firms) 0 firms)

    variables_count : coordinates (game (pos 1) pr) ≤ firms + firms
    variables_count =
        let ranges : coordinates (game (pos 1) pr) ≡ length pr.variables = length-map pr.variables _ in
        let below = few_keep m A pr is in
        let all = h.variables in
        omega (arith, ranges, below, all)

    pub base_count : coordinates (game (pos 1) pr) + length (base_slots (game (pos 1) pr)) ≤ 3 * firms
    base_count =
        let coordinates = variables_count in
        let slots = single_base (game (pos 1) pr) 0 (game (pos 1) pr).players all_single.0 in
        let players = players_count in
        omega (arith, coordinates, slots, players)

    pub row_count : length (rows_of (conditions (game (pos 1) pr))) ≤ 4 * firms
    row_count =
        let none : leader_conditions (game (pos 1) pr) (game (pos 1) pr).leader ≡ [] = ap (λ l. leader_conditions (game (pos 1) pr) (game_leader (pos 1) (left_of pr) l)) (no_leader m A pr.leader is.leads) in
        let all : length (rows_of (conditions (game (pos 1) pr))) ≡ length (rows_of (player_conditions (game (pos 1) pr) 0 (game (pos 1) pr).players)) = ap (λ cs. length (rows_of (cs ++ player_conditions (game (pos 1) pr) 0 (game (pos 1) pr).players))) none in
        let rows = single_rows (game (pos 1) pr) 0 (game (pos 1) pr).players all_single.0 in
        let players = players_count in
        omega (arith, all, rows, players)
