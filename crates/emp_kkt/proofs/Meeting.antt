-- What is asked of a problem is what its game's conditions ask, over every number.
use Rattle.std.proofs.Common.{◌≡◌, ℕ, zero, suc, ◌+◌, ◌<◌, ℤ, pos, Bool, true, false, cond, List, [], ◌∷◌, ◌++◌, map, length, get_or, Option, Some, None, refl, sym, ap, ap₂, ◌∙◌, arith, nat_eq, append_assoc}
use Rattle.std.specs.List.{All}
use Rattle.std.proofs.lemmas.List.{map-append, length-map}
use Rattle.std.proofs.lemmas.List.Elements.{All-head, All-tail}
use Rattle.emp_ast.specs.declared.tree.VarId.{VarId}
use Rattle.emp_ast.specs.declared.model.End.{End}
use Rattle.emp_ast.specs.declared.model.End.TheVariants.{Open, At}
use Rattle.emp_ast.specs.declared.model.Relation.{Relation}
use Rattle.emp_ast.specs.declared.model.Relation.TheVariants.{Equal, AtLeast, AtMost, Nothing}
use Rattle.emp_rows.specs.declared.system.Kind.TheVariants as Kinds
use Rattle.emp_poly.specs.declared.quad.Lin.{Lin}
use Rattle.emp_game.specs.Game.{Row as GameRow, Player, range_at}
use Rattle.emp_game.specs.Conditions.{ends_meet, derivative, derivatives}
use Rattle.emp_split.specs.Numbers.{holder}
use Rattle.emp_conditions.specs.Base.{range_place, multiplier_place}
use Rattle.emp_conditions.specs.Rows.{Condition, zero_row, nonneg_row, pair, opposite, variable, sum_row, low_row, high_row, slope_row, range_conditions, own_conditions, rule_condition, rule_conditions, leader_range, leader_ranges, leader_rule, leader_rules, leader_conditions, player_conditions, conditions}
use Rattle.emp_quantities.specs.System.{rows_of, kinds_of, pairs_of}
use Rattle.emp_problem.specs.declared.problem.Rule.{Rule}
use Rattle.emp_problem.specs.declared.problem.Purpose.{Purpose}
use Rattle.emp_problem.specs.declared.problem.Purpose.TheVariants.{Goal as Aim, Flow}
use Rattle.emp_problem.specs.declared.problem.BlockPart.{BlockPart}
use Rattle.emp_problem.specs.declared.problem.LeaderPart.{LeaderPart}
use Rattle.emp_problem.specs.declared.problem.AgentProblem.{AgentProblem}
use Rattle.emp_problem.specs.Problem.{left_of, lin_row, quad_quadratic, game_rule, game_player, game_leader, game, place_of, HasFunctions}
use Rattle.emp_kkt.specs.declared.asked.Item.{Item}
use Rattle.emp_kkt.specs.declared.asked.Item.TheVariants.{Low, High, Slope, Raised, Row, LeaderRow, Goal, Alone}
use Rattle.emp_kkt.specs.declared.asked.Asked.{Asked}
use Rattle.emp_kkt.specs.declared.asked.Asked.TheVariants.{ToBeZero, ToBeNonneg, Pair}
use Rattle.emp_kkt.specs.Items.{shape, no_lin, no_part, part_at, own_at, rule_at, leader_goal, range_asked, coordinate_asked, own_asked, rule_asked, rules_asked, blocks_asked, leader_range_asked, leader_own_asked, leader_rule_asked, leader_rules_asked, leader_asked, asked, items_of, asked_kinds, asked_pairs}
use Rattle.emp_kkt.specs.Items.{leader_rules as rules_of_leader}
use Rattle.emp_kkt.specs.Making.{own_places}
use Rattle.emp_kkt.proofs.Shapes.{holder_same, range_place_same, multiplier_place_same}

abbrev pub no_row : GameRow
no_row = record { constant = pos 0; cells = [] }

-- ---- the row of an item
abbrev pub function_of : ℤ → List ℕ → Purpose → ℕ → ℕ → GameRow
function_of n vs (Aim q) i k = derivative (quad_quadratic n vs q) k
function_of n vs (Flow fs) i k = lin_row n vs (get_or fs i no_lin)

abbrev pub signed_row : Bool → GameRow → GameRow
signed_row true r = opposite r
signed_row false r = r

abbrev pub own_place : AgentProblem → ℕ → ℕ → ℕ
own_place pr j i = place_of pr (own_at (part_at pr j).own i)

abbrev pub slope : ℤ → AgentProblem → ℕ → ℕ → GameRow
slope n pr j i = slope_row (game n pr) j (game_player n (left_of pr) (part_at pr j)) (function_of n (left_of pr) (part_at pr j).purpose i (own_place pr j i)) (own_place pr j i)

abbrev pub item_row : ℤ → AgentProblem → Item → GameRow
item_row n pr (Low k a) = low_row k a
item_row n pr (High k b) = high_row k b
item_row n pr (Slope j i turned) = signed_row turned (slope n pr j i)
item_row n pr (Raised j i z) = sum_row (slope n pr j i) (variable z)
item_row n pr (Row j i turned) = signed_row turned (lin_row n (left_of pr) (rule_at (part_at pr j).rules i).row)
item_row n pr (LeaderRow i turned) = signed_row turned (lin_row n (left_of pr) (rule_at (rules_of_leader pr.leader) i).row)
item_row n pr Goal = lin_row n (left_of pr) (leader_goal pr.leader)
item_row n pr (Alone k turned) = signed_row turned (variable k)

abbrev pub condition : ℤ → AgentProblem → Asked → Condition
condition n pr (ToBeZero i) = zero_row (item_row n pr i)
condition n pr (ToBeNonneg i) = nonneg_row (item_row n pr i)
condition n pr (Pair a b) = pair (item_row n pr a) (item_row n pr b)

none_before : (m : ℕ) → 0 + m ≡ m
none_before m = omega arith

module _ (n : ℤ) (pr : AgentProblem) where
  -- ---- own coordinates
  range_meets : (lo hi : End) (k j i z : ℕ) → range_conditions lo hi k (slope n pr j i) (variable z) ≡ map (condition n pr) (range_asked lo hi k j i z)
  range_meets Open Open k j i z = refl
  range_meets (At a) Open k j i z = refl
  range_meets Open (At b) k j i z = refl
  range_meets (At a) (At b) k j i z = go (ends_meet a b)
    where
      go : (t : Bool) → cond t (zero_row (low_row k a) ∷ []) (pair (sum_row (slope n pr j i) (variable z)) (low_row k a) ∷ pair (variable z) (high_row k b) ∷ []) ≡ map (condition n pr) (cond t (ToBeZero (Low k a) ∷ []) (Pair (Raised j i z) (Low k a) ∷ Pair (Alone z false) (High k b) ∷ []))
      go true = refl
      go false = refl

  own_meets : (j i : ℕ) (pl : Player) (ks : List VarId) (fs : List GameRow) → length fs ≡ length ks → ((m : ℕ) → m < length ks → slope n pr j (i + m) ≡ slope_row (game n pr) j pl (get_or fs m no_row) (place_of pr (own_at ks m))) → own_conditions (game n pr) j pl (own_places pr ks) fs ≡ map (condition n pr) (own_asked pr j i ks)
  own_meets j i pl [] [] e h = refl
  own_meets j i pl [] (f ∷ fs) e h = absurd (omega (arith, e))
  own_meets j i pl (k ∷ ks) [] e h = absurd (omega (arith, e))
  own_meets j i pl (k ∷ ks) (f ∷ fs) e h =
      let here : slope n pr j i ≡ slope_row (game n pr) j pl f (place_of pr k) = ap (λ m. slope n pr j m) (let z : i ≡ i + 0 = omega arith in z) ∙ h 0 (omega arith) in
      let rest = own_meets j (i + 1) pl ks fs (omega (arith, e)) (λ m l. ap (λ m. slope n pr j m) (let z : i + 1 + m ≡ i + suc m = omega arith in z) ∙ h (suc m) (omega arith)) in
      ap₂ (λ s z. range_conditions (range_at (shape pr).ranges (place_of pr k)).0 (range_at (shape pr).ranges (place_of pr k)).1 (place_of pr k) s (variable z) ++ own_conditions (game n pr) j pl (own_places pr ks) fs) (sym here) (range_place_same n pr j (place_of pr k))
      ∙ (ap₂ (λ a b. a ++ b) (range_meets (range_at (shape pr).ranges (place_of pr k)).0 (range_at (shape pr).ranges (place_of pr k)).1 (place_of pr k) j i (range_place (shape pr) j (place_of pr k))) rest
      ∙ sym (map-append (condition n pr) (coordinate_asked pr j i (place_of pr k)) (own_asked pr j (i + 1) ks)))

  -- ---- rules
  rule_meets : (rel : Relation) (j i u : ℕ) → rule_condition rel (lin_row n (left_of pr) (rule_at (part_at pr j).rules i).row) (variable u) ≡ condition n pr (rule_asked rel j i u)
  rule_meets Equal j i u = refl
  rule_meets AtLeast j i u = refl
  rule_meets AtMost j i u = refl
  rule_meets Nothing j i u = refl

  rules_meet : (j i : ℕ) (rs : List Rule) → ((m : ℕ) → rule_at (part_at pr j).rules (i + m) ≡ rule_at rs m) → rule_conditions (game n pr) j (map (game_rule n (left_of pr)) rs) ≡ map (condition n pr) (rules_asked pr j i rs)
  rules_meet j i [] h = refl
  rules_meet j i (r ∷ rs) h =
      let here : r ≡ rule_at (part_at pr j).rules i = sym (ap (λ m. rule_at (part_at pr j).rules m) (let z : i ≡ i + 0 = omega arith in z) ∙ h 0) in
      let rest = rules_meet j (i + 1) rs (λ m. ap (λ m. rule_at (part_at pr j).rules m) (let z : i + 1 + m ≡ i + suc m = omega arith in z) ∙ h (suc m)) in
      let one : rule_condition r.relation (lin_row n (left_of pr) r.row) (variable (multiplier_place (game n pr) j r.equation.at)) ≡ condition n pr (rule_asked r.relation j i (multiplier_place (shape pr) j r.equation.at)) =
      ap₂ (λ (x : Rule) u. rule_condition r.relation (lin_row n (left_of pr) x.row) (variable u)) here (multiplier_place_same n pr j r.equation.at) ∙ rule_meets r.relation j i (multiplier_place (shape pr) j r.equation.at) in
      ap₂ (λ t c. cond (nat_eq t j) (c ∷ rule_conditions (game n pr) j (map (game_rule n (left_of pr)) rs)) (rule_conditions (game n pr) j (map (game_rule n (left_of pr)) rs))) (holder_same n pr j r.equation.at) one
      ∙ (ap (λ l. cond (nat_eq (holder (shape pr) j r.equation.at) j) (condition n pr (rule_asked r.relation j i (multiplier_place (shape pr) j r.equation.at)) ∷ l) l) rest
      ∙ go (nat_eq (holder (shape pr) j r.equation.at) j) (rule_asked r.relation j i (multiplier_place (shape pr) j r.equation.at)) (rules_asked pr j (i + 1) rs))
    where
      go : (t : Bool) (a : Asked) (cs : List Asked) → cond t (condition n pr a ∷ map (condition n pr) cs) (map (condition n pr) cs) ≡ map (condition n pr) (cond t (a ∷ []) [] ++ cs)
      go true a cs = refl
      go false a cs = refl

  -- ---- the leader
  leader_range_meets : (lo hi : End) (k : ℕ) → leader_range lo hi k ≡ map (condition n pr) (leader_range_asked lo hi k)
  leader_range_meets Open Open k = refl
  leader_range_meets (At a) Open k = refl
  leader_range_meets Open (At b) k = refl
  leader_range_meets (At a) (At b) k = go (ends_meet a b)
    where
      go : (t : Bool) → cond t (zero_row (low_row k a) ∷ []) (nonneg_row (low_row k a) ∷ nonneg_row (high_row k b) ∷ []) ≡ map (condition n pr) (cond t (ToBeZero (Low k a) ∷ []) (ToBeNonneg (Low k a) ∷ ToBeNonneg (High k b) ∷ []))
      go true = refl
      go false = refl

  leader_own_meets : (ks : List VarId) → leader_ranges (shape pr).ranges (own_places pr ks) ≡ map (condition n pr) (leader_own_asked pr ks)
  leader_own_meets [] = refl
  leader_own_meets (k ∷ ks) =
      ap₂ (λ a b. a ++ b) (leader_range_meets (range_at (shape pr).ranges (place_of pr k)).0 (range_at (shape pr).ranges (place_of pr k)).1 (place_of pr k)) (leader_own_meets ks)
      ∙ sym (map-append (condition n pr) (leader_range_asked (range_at (shape pr).ranges (place_of pr k)).0 (range_at (shape pr).ranges (place_of pr k)).1 (place_of pr k)) (leader_own_asked pr ks))

  leader_rule_meets : (rel : Relation) (i : ℕ) → leader_rule rel (lin_row n (left_of pr) (rule_at (rules_of_leader pr.leader) i).row) ≡ map (condition n pr) (leader_rule_asked rel i)
  leader_rule_meets Equal i = refl
  leader_rule_meets AtLeast i = refl
  leader_rule_meets AtMost i = refl
  leader_rule_meets Nothing i = refl

  leader_rules_meet : (i : ℕ) (rs : List Rule) → ((m : ℕ) → rule_at (rules_of_leader pr.leader) (i + m) ≡ rule_at rs m) → leader_rules (map (game_rule n (left_of pr)) rs) ≡ map (condition n pr) (leader_rules_asked i rs)
  leader_rules_meet i [] h = refl
  leader_rules_meet i (r ∷ rs) h =
      let here : r ≡ rule_at (rules_of_leader pr.leader) i = sym (ap (λ m. rule_at (rules_of_leader pr.leader) m) (let z : i ≡ i + 0 = omega arith in z) ∙ h 0) in
      let rest = leader_rules_meet (i + 1) rs (λ m. ap (λ m. rule_at (rules_of_leader pr.leader) m) (let z : i + 1 + m ≡ i + suc m = omega arith in z) ∙ h (suc m)) in
      ap₂ (λ a b. a ++ b) (ap (λ (x : Rule). leader_rule r.relation (lin_row n (left_of pr) x.row)) here ∙ leader_rule_meets r.relation i) rest
      ∙ sym (map-append (condition n pr) (leader_rule_asked r.relation i) (leader_rules_asked (i + 1) rs))

  leader_meets : (l : Option LeaderPart) → pr.leader ≡ l → leader_conditions (game n pr) (game_leader n (left_of pr) l) ≡ map (condition n pr) (leader_asked pr l)
  leader_meets None e = refl
  leader_meets (Some l) e =
      ap₂ (λ a b. a ++ b) (leader_own_meets l.own) (leader_rules_meet 0 l.rules (λ m. ap (λ k. rule_at (rules_of_leader pr.leader) k) (none_before m) ∙ ap (λ o. rule_at (rules_of_leader o) m) e))
      ∙ sym (map-append (condition n pr) (leader_own_asked pr l.own) (leader_rules_asked 0 l.rules))

  -- ---- blocks
  abbrev Meets : ℕ → BlockPart → Type 0
  Meets j b = (length (derivatives (game_player n (left_of pr) b)) ≡ length b.own) × ((m : ℕ) → m < length b.own → slope n pr j (0 + m) ≡ slope_row (game n pr) j (game_player n (left_of pr) b) (get_or (derivatives (game_player n (left_of pr) b)) m no_row) (place_of pr (own_at b.own m)))

  slope_at : (j m : ℕ) (b : BlockPart) (f : GameRow) → part_at pr j ≡ b → function_of n (left_of pr) b.purpose m (place_of pr (own_at b.own m)) ≡ f → slope n pr j (0 + m) ≡ slope_row (game n pr) j (game_player n (left_of pr) b) f (place_of pr (own_at b.own m))
  slope_at j m b f e g =
      ap (λ k. slope n pr j k) (let z : 0 + m ≡ m = omega arith in z)
      ∙ (ap (λ (x : BlockPart). slope_row (game n pr) j (game_player n (left_of pr) x) (function_of n (left_of pr) x.purpose m (place_of pr (own_at x.own m))) (place_of pr (own_at x.own m))) e
      ∙ ap (λ f. slope_row (game n pr) j (game_player n (left_of pr) b) f (place_of pr (own_at b.own m))) g)

  functions_meet : (j : ℕ) (own : List VarId) (p : Purpose) (rules : List Rule) → part_at pr j ≡ record { own = own; purpose = p; rules = rules } → HasFunctions own p → Meets j (record { own = own; purpose = p; rules = rules })
  functions_meet j own (Aim q) rules e h = (
    length-map (own_places pr own) (derivative (quad_quadratic n (left_of pr) q)) ∙ length-map own (place_of pr),
    λ m l. slope_at j m (record { own = own; purpose = Aim q; rules = rules }) (get_or (map (derivative (quad_quadratic n (left_of pr) q)) (own_places pr own)) m no_row) e (place_read own m l),
  )
    where
      place_read : (ks : List VarId) (m : ℕ) → m < length ks → derivative (quad_quadratic n (left_of pr) q) (place_of pr (own_at ks m)) ≡ get_or (map (derivative (quad_quadratic n (left_of pr) q)) (own_places pr ks)) m no_row
      place_read [] m l = absurd (omega (arith, l))
      place_read (k ∷ ks) zero l = refl
      place_read (k ∷ ks) (suc m) l = place_read ks m (omega (arith, l))
  functions_meet j own (Flow fs) rules e h = (
    length-map fs (lin_row n (left_of pr)) ∙ h,
    λ m l. slope_at j m (record { own = own; purpose = Flow fs; rules = rules }) (get_or (map (lin_row n (left_of pr)) fs) m no_row) e (function_read fs m (let k : m < length fs = omega (arith, l, h) in k)),
  )
    where
      function_read : (ls : List Lin) (m : ℕ) → m < length ls → lin_row n (left_of pr) (get_or ls m no_lin) ≡ get_or (map (lin_row n (left_of pr)) ls) m no_row
      function_read [] m l = absurd (omega (arith, l))
      function_read (k ∷ ls) zero l = refl
      function_read (k ∷ ls) (suc m) l = function_read ls m (omega (arith, l))

  blocks_meet : (j : ℕ) (bs : List BlockPart) → All (λ b. HasFunctions b.own b.purpose) bs → ((m : ℕ) → part_at pr (j + m) ≡ get_or bs m no_part) → player_conditions (game n pr) j (map (game_player n (left_of pr)) bs) ≡ map (condition n pr) (blocks_asked pr j bs)
  blocks_meet j [] has h = refl
  blocks_meet j (b ∷ bs) has h =
      let here : part_at pr j ≡ b = ap (λ m. part_at pr m) (let z : j ≡ j + 0 = omega arith in z) ∙ h 0 in
      let own = functions_meet j b.own b.purpose b.rules here (All-head (λ b. HasFunctions b.own b.purpose) b bs has) in
      let rest = blocks_meet (j + 1) bs (All-tail (λ b. HasFunctions b.own b.purpose) b bs has) (λ m. ap (λ m. part_at pr m) (let z : j + 1 + m ≡ j + suc m = omega arith in z) ∙ h (suc m)) in
      ap₂ (λ a c. a ++ c) (own_meets j 0 (game_player n (left_of pr) b) b.own (derivatives (game_player n (left_of pr) b)) own.0 own.1)
      (ap₂ (λ a c. a ++ c) (rules_meet j 0 b.rules (λ m. ap (λ k. rule_at (part_at pr j).rules k) (none_before m) ∙ ap (λ (x : BlockPart). rule_at x.rules m) here)) (ap (λ k. player_conditions (game n pr) k (map (game_player n (left_of pr)) bs)) (let z : suc j ≡ j + 1 = omega arith in z) ∙ rest))
      ∙ (sym (append_assoc (map (condition n pr) (own_asked pr j 0 b.own)) (map (condition n pr) (rules_asked pr j 0 b.rules)) (map (condition n pr) (blocks_asked pr (j + 1) bs)))
      ∙ (ap (λ l. l ++ map (condition n pr) (blocks_asked pr (j + 1) bs)) (sym (map-append (condition n pr) (own_asked pr j 0 b.own) (rules_asked pr j 0 b.rules)))
      ∙ sym (map-append (condition n pr) (own_asked pr j 0 b.own ++ rules_asked pr j 0 b.rules) (blocks_asked pr (j + 1) bs))))

  -- ---- all
  pub asked_meets : All (λ b. HasFunctions b.own b.purpose) pr.blocks → conditions (game n pr) ≡ map (condition n pr) (asked pr)
  asked_meets has =
      ap₂ (λ a c. a ++ c) (leader_meets pr.leader refl) (blocks_meet 0 pr.blocks has (λ m. ap (λ k. part_at pr k) (let z : 0 + m ≡ m = omega arith in z)))
      ∙ sym (map-append (condition n pr) (leader_asked pr pr.leader) (blocks_asked pr 0 pr.blocks))

  -- ---- as quantities
  pub rows_meet : (cs : List Asked) → rows_of (map (condition n pr) cs) ≡ map (item_row n pr) (items_of cs)
  rows_meet [] = refl
  rows_meet (ToBeZero i ∷ cs) = ap (λ l. item_row n pr i ∷ l) (rows_meet cs)
  rows_meet (ToBeNonneg i ∷ cs) = ap (λ l. item_row n pr i ∷ l) (rows_meet cs)
  rows_meet (Pair a b ∷ cs) = ap (λ l. item_row n pr b ∷ (item_row n pr a ∷ l)) (rows_meet cs)

  pub kinds_meet : (cs : List Asked) → kinds_of (map (condition n pr) cs) ≡ asked_kinds cs
  kinds_meet [] = refl
  kinds_meet (ToBeZero i ∷ cs) = ap (λ l. Kinds.Zero ∷ l) (kinds_meet cs)
  kinds_meet (ToBeNonneg i ∷ cs) = ap (λ l. Kinds.Nonneg ∷ l) (kinds_meet cs)
  kinds_meet (Pair a b ∷ cs) = ap (λ l. Kinds.Nonneg ∷ (Kinds.Nonneg ∷ l)) (kinds_meet cs)

  pub pairs_meet : (before : ℕ) (cs : List Asked) → pairs_of before (map (condition n pr) cs) ≡ asked_pairs before cs
  pairs_meet before [] = refl
  pairs_meet before (ToBeZero i ∷ cs) = pairs_meet (before + 1) cs
  pairs_meet before (ToBeNonneg i ∷ cs) = pairs_meet (before + 1) cs
  pairs_meet before (Pair a b ∷ cs) = ap (λ l. (before + 2, before + 1) ∷ l) (pairs_meet (before + 2) cs)
