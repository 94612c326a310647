-- The numbers in what is asked of a problem are the problem's.
use Rattle.std.proofs.Common.{◌≡◌, ℕ, zero, suc, ◌+◌, ◌<◌, pos, Bool, true, false, cond, ◌&&◌, List, [], ◌∷◌, ◌++◌, length, get_or, map, Option, Some, None, refl, sym, ap, ap₂, subst, ◌∙◌, arith, nat_eq, eq-eqb}
use Rattle.std.specs.Prelude.{not}
use Rattle.std.specs.List.{All}
use Rattle.std.proofs.lemmas.List.{length-map}
use Rattle.std.proofs.lemmas.List.Elements.{All-nil, All-cons, All-head, All-tail, All-get_or}
use Rattle.emp_ast.specs.declared.tree.VarId.{VarId}
use Rattle.emp_ast.specs.declared.model.End.{End}
use Rattle.emp_ast.specs.declared.model.End.TheVariants.{Open, At}
use Rattle.emp_ast.specs.declared.model.Relation.{Relation}
use Rattle.emp_ast.specs.declared.model.Relation.TheVariants.{Equal, AtLeast, AtMost, Nothing}
use Rattle.emp_game.specs.Game.{Player, Ranges, range_at}
use Rattle.emp_game.specs.Conditions.{ends_meet}
use Rattle.emp_split.specs.Games.{Game}
use Rattle.emp_split.specs.Numbers.{holder, player_slots}
use Rattle.emp_conditions.specs.Base.{Base, range, multiplier, two_ends, range_slots, base_from, base_slots, index_base, same_base, range_place, multiplier_place}
use Rattle.emp_problem.specs.declared.problem.Rule.{Rule}
use Rattle.emp_problem.specs.declared.problem.Purpose.{Purpose}
use Rattle.emp_problem.specs.declared.problem.Purpose.TheVariants.{Goal as Aim, Flow}
use Rattle.emp_problem.specs.declared.problem.BlockPart.{BlockPart}
use Rattle.emp_problem.specs.declared.problem.LeaderPart.{LeaderPart}
use Rattle.emp_problem.specs.declared.problem.AgentProblem.{AgentProblem}
use Rattle.emp_problem.specs.Problem.{left_of, game_player, place_of, HasFunctions, LeaderFits}
use Rattle.emp_kkt.specs.declared.asked.Item.{Item}
use Rattle.emp_kkt.specs.declared.asked.Item.TheVariants.{Low, High, Slope, Raised, Row, LeaderRow, Goal, Alone}
use Rattle.emp_kkt.specs.declared.asked.Asked.{Asked}
use Rattle.emp_kkt.specs.declared.asked.Asked.TheVariants.{ToBeZero, ToBeNonneg, Pair}
use Rattle.emp_kkt.specs.Items.{shape, no_part, no_variable, part_at, own_at, leader_rules, range_asked, coordinate_asked, own_asked, rule_asked, one_rule_asked, rules_asked, blocks_asked, leader_range_asked, leader_own_asked, leader_rule_asked, leader_rules_asked, leader_asked, asked, items_of, items}
use Rattle.emp_kkt.specs.Gives.{IsFit}
use Rattle.emp_kkt.specs.Making.{own_places, PurposeFits, SlopeFits, ItemFits}
use Rattle.emp_kkt.proofs.Meeting.{own_place}

pub record SlopeIn (pr : AgentProblem) (j i : ℕ) : Type 0 where
  pub fits : SlopeFits pr j i
  pub place : own_place pr j i < length pr.variables

-- z is the number of a range
pub record RaisedIn (pr : AgentProblem) (j i z : ℕ) : Type 0 where
  pub slope : SlopeIn pr j i
  pub k : ℕ
  pub is : z ≡ range_place (shape pr) j k
  pub there : index_base (range j k) (base_slots (shape pr)) < length (base_slots (shape pr))

abbrev pub ItemIn : AgentProblem → Item → Type 0
ItemIn pr (Low k a) = k < length pr.variables
ItemIn pr (High k b) = k < length pr.variables
ItemIn pr (Slope j i turned) = SlopeIn pr j i
ItemIn pr (Raised j i z) = RaisedIn pr j i z
ItemIn pr (Row j i turned) = (j < length pr.blocks) × (i < length (part_at pr j).rules)
ItemIn pr (LeaderRow i turned) = i < length (leader_rules pr.leader)
ItemIn pr Goal = Unit {0}
ItemIn pr (Alone k turned) = Unit {0}

pub in_fits : (pr : AgentProblem) (i : Item) → ItemIn pr i → ItemFits pr i
in_fits pr (Low k a) h = tt
in_fits pr (High k b) h = tt
in_fits pr (Slope j i turned) h = h.fits
in_fits pr (Raised j i z) h = h.slope.fits
in_fits pr (Row j i turned) h = h
in_fits pr (LeaderRow i turned) h = h
in_fits pr Goal h = tt
in_fits pr (Alone k turned) h = tt

-- ---- base variables that are there
abbrev IsThere : Base → List Base → Type 0
IsThere s bs = index_base s bs < length bs

there_left : (s : Base) (xs ys : List Base) → IsThere s xs → IsThere s (xs ++ ys)
there_left s [] ys h = absurd (omega (arith, h))
there_left s (x ∷ xs) ys h = go (there_left s xs ys) (same_base x s) h
  where
    go : (IsThere s xs → IsThere s (xs ++ ys)) → (t : Bool) → cond t 0 (suc (index_base s xs)) < length (x ∷ xs) → cond t 0 (suc (index_base s (xs ++ ys))) < length (x ∷ (xs ++ ys))
    go rest true l = omega arith
    go rest false l = let z = rest (omega (arith, l)) in omega (arith, z)

there_right : (s : Base) (xs ys : List Base) → IsThere s ys → IsThere s (xs ++ ys)
there_right s [] ys h = h
there_right s (x ∷ xs) ys h = go (there_right s xs ys h) (same_base x s)
  where
    go : IsThere s (xs ++ ys) → (t : Bool) → cond t 0 (suc (index_base s (xs ++ ys))) < length (x ∷ (xs ++ ys))
    go rest true = omega arith
    go rest false = omega (arith, rest)

there_first : (j k : ℕ) (bs : List Base) → IsThere (range j k) (range j k ∷ bs)
there_first j k bs = subst (λ (t : Bool). cond t 0 (suc (index_base (range j k) bs)) < length (range j k ∷ bs)) (sym (ap₂ (λ a b. a && b) (eq-eqb j j refl) (eq-eqb k k refl))) (let z : 0 < length (range j k ∷ bs) = omega arith in z)

ranges_there : (ranges : Ranges) (j : ℕ) (ks : List ℕ) (m : ℕ) → m < length ks → two_ends (range_at ranges (get_or ks m 0)).0 (range_at ranges (get_or ks m 0)).1 ≡ true → IsThere (range j (get_or ks m 0)) (range_slots ranges j ks)
ranges_there ranges j [] m h e = absurd (omega (arith, h))
ranges_there ranges j (k ∷ ks) zero h e = subst (λ (t : Bool). IsThere (range j k) (cond t (range j k ∷ range_slots ranges j ks) (range_slots ranges j ks))) (sym e) (there_first j k (range_slots ranges j ks))
ranges_there ranges j (k ∷ ks) (suc m) h e = go (ranges_there ranges j ks m (omega (arith, h)) e) (two_ends (range_at ranges k).0 (range_at ranges k).1)
  where
    go : IsThere (range j (get_or ks m 0)) (range_slots ranges j ks) → (t : Bool) → IsThere (range j (get_or ks m 0)) (cond t (range j k ∷ range_slots ranges j ks) (range_slots ranges j ks))
    go rest true = there_right (range j (get_or ks m 0)) (range j k ∷ []) (range_slots ranges j ks) rest
    go rest false = rest

players_there : (g : Game) (s : Base) (j : ℕ) (pls : List Player) (m : ℕ) (d : Player) → m < length pls → IsThere s (range_slots g.ranges (j + m) (get_or pls m d).own) → IsThere s (base_from g j pls)
players_there g s j [] m d h e = absurd (omega (arith, h))
players_there g s j (pl ∷ pls) zero d h e =
    there_left s (range_slots g.ranges j pl.own) (map (λ s. multiplier s.0 s.1) (player_slots g j pl.rules) ++ base_from g (suc j) pls) (subst (λ k. IsThere s (range_slots g.ranges k pl.own)) (let z : j + 0 ≡ j = omega arith in z) e)
players_there g s j (pl ∷ pls) (suc m) d h e =
    there_right s (range_slots g.ranges j pl.own) (map (λ s. multiplier s.0 s.1) (player_slots g j pl.rules) ++ base_from g (suc j) pls)
    (there_right s (map (λ s. multiplier s.0 s.1) (player_slots g j pl.rules)) (base_from g (suc j) pls)
    (players_there g s (suc j) pls m d (omega (arith, h)) (subst (λ k. IsThere s (range_slots g.ranges k (get_or pls m d).own)) (let z : j + suc m ≡ suc j + m = omega arith in z) e)))

-- ---- each of what is asked
abbrev Each : (Item → Type 0) → List Asked → Type 0
Each P [] = Unit {0}
Each P (ToBeZero i ∷ cs) = P i × Each P cs
Each P (ToBeNonneg i ∷ cs) = P i × Each P cs
Each P (Pair a b ∷ cs) = (P b × P a) × Each P cs

each_append : (P : Item → Type 0) (cs ds : List Asked) → Each P cs → Each P ds → Each P (cs ++ ds)
each_append P [] ds h k = k
each_append P (ToBeZero i ∷ cs) ds h k = (h.0, each_append P cs ds h.1 k)
each_append P (ToBeNonneg i ∷ cs) ds h k = (h.0, each_append P cs ds h.1 k)
each_append P (Pair a b ∷ cs) ds h k = (h.0, each_append P cs ds h.1 k)

each_all : (P : Item → Type 0) (cs : List Asked) → Each P cs → All P (items_of cs)
each_all P [] h = All-nil P
each_all P (ToBeZero i ∷ cs) h = All-cons P i (items_of cs) h.0 (each_all P cs h.1)
each_all P (ToBeNonneg i ∷ cs) h = All-cons P i (items_of cs) h.0 (each_all P cs h.1)
each_all P (Pair a b ∷ cs) h = All-cons P b (a ∷ items_of cs) h.0.0 (All-cons P a (items_of cs) h.0.1 (each_all P cs h.1))

module _ (pr : AgentProblem) (fit : IsFit pr) where
  record CoordinateIn (j i k : ℕ) : Type 0 where
    pub slope : SlopeIn pr j i
    pub below : k < length pr.variables
    pub there : two_ends (range_at (shape pr).ranges k).0 (range_at (shape pr).ranges k).1 ≡ true → IsThere (range j k) (base_slots (shape pr))

  range_in : (lo hi : End) (j i k : ℕ) → SlopeIn pr j i → k < length pr.variables → (two_ends lo hi ≡ true → IsThere (range j k) (base_slots (shape pr))) → Each (ItemIn pr) (range_asked lo hi k j i (range_place (shape pr) j k))
  range_in Open Open j i k s b h = (s, tt)
  range_in (At l) Open j i k s b h = ((b, s), tt)
  range_in Open (At u) j i k s b h = ((b, s), tt)
  range_in (At l) (At u) j i k s b h = go (ends_meet l u) refl
    where
      go : (t : Bool) → ends_meet l u ≡ t → Each (ItemIn pr) (cond t (ToBeZero (Low k l) ∷ []) (Pair (Raised j i (range_place (shape pr) j k)) (Low k l) ∷ Pair (Alone (range_place (shape pr) j k) false) (High k u) ∷ []))
      go true e = (b, tt)
      go false e = ((b, record { slope = s; k = k; is = refl; there = h (ap not e) }), ((b, tt), tt))

  own_in : (j i : ℕ) (ks : List VarId) → ((m : ℕ) → m < length ks → CoordinateIn j (i + m) (place_of pr (own_at ks m))) → Each (ItemIn pr) (own_asked pr j i ks)
  own_in j i [] h = tt
  own_in j i (k ∷ ks) h =
      let here = h 0 (omega arith) in
      each_append (ItemIn pr) (coordinate_asked pr j i (place_of pr k)) (own_asked pr j (i + 1) ks)
      (range_in (range_at (shape pr).ranges (place_of pr k)).0 (range_at (shape pr).ranges (place_of pr k)).1 j i (place_of pr k) (subst (λ m. SlopeIn pr j m) (let z : i + 0 ≡ i = omega arith in z) here.slope) here.below here.there)
      (own_in j (i + 1) ks (λ m l. subst (λ q. CoordinateIn j q (place_of pr (own_at ks m))) (let z : i + suc m ≡ i + 1 + m = omega arith in z) (h (suc m) (omega (arith, l)))))

  rule_in : (rel : Relation) (j i u : ℕ) → j < length pr.blocks → i < length (part_at pr j).rules → Each (ItemIn pr) (rule_asked rel j i u ∷ [])
  rule_in Equal j i u b h = ((b, h), tt)
  rule_in AtLeast j i u b h = (((b, h), tt), tt)
  rule_in AtMost j i u b h = (((b, h), tt), tt)
  rule_in Nothing j i u b h = (tt, tt)

  rules_in : (j i : ℕ) (rs : List Rule) → j < length pr.blocks → ((m : ℕ) → m < length rs → (i + m) < length (part_at pr j).rules) → Each (ItemIn pr) (rules_asked pr j i rs)
  rules_in j i [] b h = tt
  rules_in j i (r ∷ rs) b h =
      each_append (ItemIn pr) (one_rule_asked pr j i r) (rules_asked pr j (i + 1) rs) (go (nat_eq (holder (shape pr) j r.equation.at) j))
      (rules_in j (i + 1) rs b (λ m l. subst (λ q. q < length (part_at pr j).rules) (let z : i + suc m ≡ i + 1 + m = omega arith in z) (h (suc m) (omega (arith, l)))))
    where
      go : (t : Bool) → Each (ItemIn pr) (cond t (rule_asked r.relation j i (multiplier_place (shape pr) j r.equation.at) ∷ []) [])
      go true = rule_in r.relation j i (multiplier_place (shape pr) j r.equation.at) b (let l = h 0 (omega arith) in omega (arith, l))
      go false = tt

  -- ---- the leader
  leader_range_in : (lo hi : End) (k : ℕ) → k < length pr.variables → Each (ItemIn pr) (leader_range_asked lo hi k)
  leader_range_in Open Open k h = tt
  leader_range_in (At a) Open k h = (h, tt)
  leader_range_in Open (At b) k h = (h, tt)
  leader_range_in (At a) (At b) k h = go (ends_meet a b)
    where
      go : (t : Bool) → Each (ItemIn pr) (cond t (ToBeZero (Low k a) ∷ []) (ToBeNonneg (Low k a) ∷ ToBeNonneg (High k b) ∷ []))
      go true = (h, tt)
      go false = (h, (h, tt))

  leader_own_in : (ks : List VarId) → All (λ v. place_of pr v < length pr.variables) ks → Each (ItemIn pr) (leader_own_asked pr ks)
  leader_own_in [] h = tt
  leader_own_in (k ∷ ks) h =
      each_append (ItemIn pr) (leader_range_asked (range_at (shape pr).ranges (place_of pr k)).0 (range_at (shape pr).ranges (place_of pr k)).1 (place_of pr k)) (leader_own_asked pr ks)
      (leader_range_in (range_at (shape pr).ranges (place_of pr k)).0 (range_at (shape pr).ranges (place_of pr k)).1 (place_of pr k) (All-head (λ v. place_of pr v < length pr.variables) k ks h))
      (leader_own_in ks (All-tail (λ v. place_of pr v < length pr.variables) k ks h))

  leader_rule_in : (rel : Relation) (i : ℕ) → i < length (leader_rules pr.leader) → Each (ItemIn pr) (leader_rule_asked rel i)
  leader_rule_in Equal i h = (h, tt)
  leader_rule_in AtLeast i h = (h, tt)
  leader_rule_in AtMost i h = (h, tt)
  leader_rule_in Nothing i h = tt

  leader_rules_in : (i : ℕ) (rs : List Rule) → ((m : ℕ) → m < length rs → (i + m) < length (leader_rules pr.leader)) → Each (ItemIn pr) (leader_rules_asked i rs)
  leader_rules_in i [] h = tt
  leader_rules_in i (r ∷ rs) h =
      each_append (ItemIn pr) (leader_rule_asked r.relation i) (leader_rules_asked (i + 1) rs)
      (leader_rule_in r.relation i (let l = h 0 (omega arith) in omega (arith, l)))
      (leader_rules_in (i + 1) rs (λ m l. subst (λ q. q < length (leader_rules pr.leader)) (let z : i + suc m ≡ i + 1 + m = omega arith in z) (h (suc m) (omega (arith, l)))))

  leader_in : (l : Option LeaderPart) → pr.leader ≡ l → LeaderFits pr l → Each (ItemIn pr) (leader_asked pr l)
  leader_in None e h = tt
  leader_in (Some l) e h =
      each_append (ItemIn pr) (leader_own_asked pr l.own) (leader_rules_asked 0 l.rules) (leader_own_in l.own h)
      (leader_rules_in 0 l.rules (λ m k. subst (λ o. (0 + m) < length (leader_rules o)) (sym e) (let z : 0 + m < length l.rules = omega (arith, k) in z)))

  -- ---- blocks
  function_there : (p : Purpose) (own : List VarId) (i : ℕ) → HasFunctions own p → i < length own → PurposeFits p i
  function_there (Aim q) own i h l = tt
  function_there (Flow fs) own i h l = omega (arith, l, h)

  coordinate_in : (j : ℕ) → j < length pr.blocks → (m : ℕ) → m < length (part_at pr j).own → CoordinateIn j (0 + m) (place_of pr (own_at (part_at pr j).own m))
  coordinate_in j b m l = subst (λ q. CoordinateIn j q (place_of pr (own_at (part_at pr j).own m))) (let z : m ≡ 0 + m = omega arith in z) (record {
    slope = record {
      fits = record { block = b; own = l; purpose = function_there (part_at pr j).purpose (part_at pr j).own m (All-get_or (λ b. HasFunctions b.own b.purpose) pr.blocks j no_part b fit.functions) l };
      place = below;
    };
    below = below;
    there = λ e. players_there (shape pr) (range j (place_of pr (own_at (part_at pr j).own m))) 0 (map (game_player (pos 1) (left_of pr)) pr.blocks) j (game_player (pos 1) (left_of pr) no_part) (let y = length-map pr.blocks (game_player (pos 1) (left_of pr)) in omega (arith, y, b))
        (subst (λ ks. IsThere (range j (place_of pr (own_at (part_at pr j).own m))) (range_slots (shape pr).ranges (0 + j) ks)) (sym (player_own pr.blocks j))
        (subst (λ q. IsThere (range j (place_of pr (own_at (part_at pr j).own m))) (range_slots (shape pr).ranges q (own_places pr (part_at pr j).own))) (let z : j ≡ 0 + j = omega arith in z)
        (subst (λ k. IsThere (range j k) (range_slots (shape pr).ranges j (own_places pr (part_at pr j).own))) (place_at (part_at pr j).own m l)
        (ranges_there (shape pr).ranges j (own_places pr (part_at pr j).own) m (let y = length-map (part_at pr j).own (place_of pr) in omega (arith, y, l)) (subst (λ k. two_ends (range_at (shape pr).ranges k).0 (range_at (shape pr).ranges k).1 ≡ true) (sym (place_at (part_at pr j).own m l)) e)))));
  })
    where
      below : place_of pr (own_at (part_at pr j).own m) < length pr.variables
      below = All-get_or (λ v. place_of pr v < length pr.variables) (part_at pr j).own m no_variable l (All-get_or (λ b. All (λ v. place_of pr v < length pr.variables) b.own) pr.blocks j no_part b fit.own)

      player_own : (bs : List BlockPart) (k : ℕ) → (get_or (map (game_player (pos 1) (left_of pr)) bs) k (game_player (pos 1) (left_of pr) no_part)).own ≡ own_places pr (get_or bs k no_part).own
      player_own [] k = refl
      player_own (x ∷ bs) zero = refl
      player_own (x ∷ bs) (suc k) = player_own bs k

      place_at : (vs : List VarId) (i : ℕ) → i < length vs → get_or (own_places pr vs) i 0 ≡ place_of pr (own_at vs i)
      place_at [] i h = absurd (omega (arith, h))
      place_at (v ∷ vs) zero h = refl
      place_at (v ∷ vs) (suc i) h = place_at vs i (omega (arith, h))

  blocks_in : (j : ℕ) (bs : List BlockPart) → ((m : ℕ) → m < length bs → (j + m) < length pr.blocks) → ((m : ℕ) → part_at pr (j + m) ≡ get_or bs m no_part) → Each (ItemIn pr) (blocks_asked pr j bs)
  blocks_in j [] l h = tt
  blocks_in j (b ∷ bs) l h =
      let here : part_at pr j ≡ b = ap (λ m. part_at pr m) (let z : j ≡ j + 0 = omega arith in z) ∙ h 0 in
      let within : j < length pr.blocks = (let y = l 0 (omega arith) in omega (arith, y)) in
      each_append (ItemIn pr) (own_asked pr j 0 b.own ++ rules_asked pr j 0 b.rules) (blocks_asked pr (j + 1) bs)
      (each_append (ItemIn pr) (own_asked pr j 0 b.own) (rules_asked pr j 0 b.rules)
      (own_in j 0 b.own (subst (λ (x : BlockPart). (m : ℕ) → m < length x.own → CoordinateIn j (0 + m) (place_of pr (own_at x.own m))) here (coordinate_in j within)))
      (rules_in j 0 b.rules within (subst (λ (x : BlockPart). (m : ℕ) → m < length x.rules → (0 + m) < length (part_at pr j).rules) here (λ m k. (let z : 0 + m < length (part_at pr j).rules = omega (arith, k) in z)))))
      (blocks_in (j + 1) bs (λ m k. subst (λ q. q < length pr.blocks) (let z : j + suc m ≡ j + 1 + m = omega arith in z) (l (suc m) (omega (arith, k)))) (λ m. ap (λ m. part_at pr m) (let z : j + 1 + m ≡ j + suc m = omega arith in z) ∙ h (suc m)))

  pub all_in : All (ItemIn pr) (items pr)
  all_in =
      each_all (ItemIn pr) (asked pr)
      (each_append (ItemIn pr) (leader_asked pr pr.leader) (blocks_asked pr 0 pr.blocks) (leader_in pr.leader refl fit.leader)
      (blocks_in 0 pr.blocks (λ m k. (let z : 0 + m < length pr.blocks = omega (arith, k) in z)) (λ m. ap (λ k. part_at pr k) (let z : 0 + m ≡ m = omega arith in z))))

all_fit : (pr : AgentProblem) (is : List Item) → All (ItemIn pr) is → All (ItemFits pr) is
all_fit pr [] h = All-nil (ItemFits pr)
all_fit pr (i ∷ is) h = All-cons (ItemFits pr) i is (in_fits pr i (All-head (ItemIn pr) i is h)) (all_fit pr is (All-tail (ItemIn pr) i is h))

pub items_fit : (pr : AgentProblem) → IsFit pr → All (ItemFits pr) (items pr)
items_fit pr fit = all_fit pr (items pr) (all_in pr fit)
