-- The problem of a file is, over a multiple of its denominators, the game of the file.
use Rattle.std.proofs.Common.{◌≡◌, ℕ, zero, suc, ◌<◌, ℤ, pos, ◌*ℤ◌, Bool, true, false, cond, nat_lt, List, [], ◌∷◌, All, map, length, slice_index_or, Option, Some, None, arith, refl, sym, ap, ap₂, subst, ◌∙◌}
use Rattle.std.proofs.lemmas.Bool.{ltb-false}
use Rattle.std.proofs.lemmas.List.{length-map, get_or-map}
use Rattle.std.proofs.lemmas.List.Elements.{All-nil, All-cons, All-head, All-tail}
use lib.IntN.{zero-*ℤ}
use Rattle.emp_algebra.specs.Vector.{cell}
use Rattle.emp_algebra.proofs.Order.{cancel_right}
use Rattle.emp_algebra.proofs.Ring.{var, lit, ◌⊗◌, by_ring}
use Rattle.emp_num.specs.FracSpec.{IsQuotient}
use Rattle.emp_num.specs.Whole.{whole}
use Rattle.emp_num.specs.declared.frac.Frac.{Frac}
use Rattle.emp_ast.specs.declared.tree.VarId.{VarId}
use Rattle.emp_ast.specs.declared.tree.EquId.{EquId}
use Rattle.emp_ast.specs.declared.model.Model.{Model}
use Rattle.emp_ast.specs.declared.annot.Block.{Block}
use Rattle.emp_ast.specs.declared.annot.Block.TheVariants.{Agent, Vi}
use Rattle.emp_ast.specs.declared.annot.Annot.{Annot}
use Rattle.emp_ast.specs.Parties.{leader, block, constraints}
use Rattle.emp_form.specs.Form.{Form}
use Rattle.emp_form.specs.Expansion.{form}
use Rattle.emp_poly.specs.Quads.{linear_at, square_at, HasForm}
use Rattle.emp_poly.specs.Gradient.{LinHasForm}
use Rattle.emp_poly.specs.declared.quad.Quad.{Quad}
use Rattle.emp_poly.specs.declared.quad.Lin.{Lin}
use Rattle.emp_game.specs.Conditions.{row_of}
use Rattle.emp_left.specs.Left.{upper}
use Rattle.emp_agents.specs.Given.{difference}
use Rattle.emp_problem.specs.declared.problem.LeftVariable.{LeftVariable}
use Rattle.emp_problem.specs.declared.problem.Rule.{Rule}
use Rattle.emp_problem.specs.declared.problem.Purpose.{Purpose}
use Rattle.emp_problem.specs.declared.problem.Purpose.TheVariants.{Goal, Flow}
use Rattle.emp_problem.specs.declared.problem.BlockPart.{BlockPart}
use Rattle.emp_problem.specs.declared.problem.LeaderPart.{LeaderPart}
use Rattle.emp_problem.specs.Left.{left, place, place_in, range_of, leader_own, function_form, goal_form, block_flow}
use Rattle.emp_problem.specs.GameOf.{IsRowOf, IsQuadraticOf, AreFlowsOf, IsPurposeOf, AreRulesOf, ArePlayersOf, LeadsAs}
use Rattle.emp_problem.specs.Problem.{left_of, times_over, lin_row, upper_at, quad_quadratic, game_rule, game_purpose, game_player, game_leader, IsWholeOver, LinIsOver, QuadIsOver, PurposeIsOver, BlockIsOver, LeaderIsOver}
use Rattle.emp_problem.specs.ProblemOf.{left_variable, AreRulesFor, AreFlowsFor, IsPurposeFor, AreBlocksFor, LeadsFor}
use Rattle.emp_whole.specs.Whole.{ProblemsHaveGames}
use Rattle.emp_whole.proofs.Multiples.{over_multiple}

-- ---- coefficients
cross : (n : ℤ) (f : Frac) (num den : ℤ) → IsWholeOver n f → IsQuotient f num den → times_over n f *ℤ den ≡ n *ℤ num
cross n f num den over is =
    cancel_right (times_over n f *ℤ den) (n *ℤ num) f.den
    (by_ring (times_over n f ∷ den ∷ f.den ∷ []) (var 0 ⊗ var 1 ⊗ var 2) (var 0 ⊗ var 2 ⊗ var 1) refl
    ∙ (ap (λ z. z *ℤ den) over
    ∙ (by_ring (n ∷ f.num ∷ den ∷ []) (var 0 ⊗ var 1 ⊗ var 2) (var 0 ⊗ (var 1 ⊗ var 2)) refl
    ∙ (ap (λ z. n *ℤ z) is ∙ by_ring (n ∷ num ∷ f.den ∷ []) (var 0 ⊗ (var 1 ⊗ var 2)) (var 0 ⊗ var 1 ⊗ var 2) refl))))
    f.positive

pub cross_none : (n den : ℤ) → times_over n (whole 0) *ℤ den ≡ n *ℤ pos 0
cross_none n den = cross n (whole 0) (pos 0) den (subst (λ z. IsWholeOver z (whole 0)) (by_ring (n ∷ []) (var 0 ⊗ lit (pos 1)) (var 0) refl) (over_multiple n (whole 0))) (zero-*ℤ den ∙ sym (zero-*ℤ (pos 1)))

pub cell_map : (g : ℕ → ℤ) (vs : List ℕ) (i : ℕ) → i < length vs → cell (map g vs) i ≡ g (slice_index_or vs i 0)
cell_map g vs i h = get_or-map g vs i 0 (pos 0) h

row_is : (n : ℤ) (vs : List ℕ) (f : Form) (l : Lin) → LinIsOver n l → LinHasForm l f → IsRowOf n vs f (lin_row n vs l)
row_is n vs f l over has = record {
  count = length-map vs (λ v. times_over n (linear_at l.linear v));
  constant = cross n l.constant f.constant f.den over.constant has.constant;
  each = λ i h. ap (λ z. z *ℤ f.den) (cell_map (λ v. times_over n (linear_at l.linear v)) vs i h)
      ∙ cross n (linear_at l.linear (slice_index_or vs i 0)) (f.linear (slice_index_or vs i 0)) f.den (over.linear (slice_index_or vs i 0)) (has.linear (slice_index_or vs i 0));
}

-- ---- quadratics
upper_cross : (n : ℤ) (f : Form) (q : Quad) (u v : ℕ) → QuadIsOver n q → HasForm q f → times_over n (upper_at q u v) *ℤ f.den ≡ n *ℤ upper f.square u v
upper_cross n f q u v over has = go (nat_lt v u) refl
  where
    go : (b : Bool) → nat_lt v u ≡ b → times_over n (cond b (whole 0) (square_at q.square u v)) *ℤ f.den ≡ n *ℤ cond b (pos 0) (f.square u v)
    go true e = cross_none n f.den
    go false e = cross n (square_at q.square u v) (f.square u v) f.den (over.square u v) (has.square u v (ltb-false v u e))

pub row_of-map : (g : ℕ → List ℤ) (vs : List ℕ) (i : ℕ) → i < length vs → row_of (map g vs) i ≡ g (slice_index_or vs i 0)
row_of-map g [] i h = absurd (omega (arith, h))
row_of-map g (v ∷ vs) zero h = refl
row_of-map g (v ∷ vs) (suc i) h = row_of-map g vs i (omega (arith, h))

all_map : (g : ℕ → List ℤ) (k : ℕ) (vs : List ℕ) → ((v : ℕ) → length (g v) ≡ k) → All (λ r. length r ≡ k) (map g vs)
all_map g k [] h = All-nil (λ r. length r ≡ k)
all_map g k (v ∷ vs) h = All-cons (λ r. length r ≡ k) (g v) (map g vs) (h v) (all_map g k vs h)

quadratic_is : (n : ℤ) (vs : List ℕ) (f : Form) (q : Quad) → QuadIsOver n q → HasForm q f → IsQuadraticOf n vs f (quad_quadratic n vs q)
quadratic_is n vs f q over has = record {
  count = length-map vs (λ v. times_over n (linear_at q.linear v));
  constant = cross n q.constant f.constant f.den over.constant has.constant;
  each = λ i h. ap (λ z. z *ℤ f.den) (cell_map (λ v. times_over n (linear_at q.linear v)) vs i h)
      ∙ cross n (linear_at q.linear (slice_index_or vs i 0)) (f.linear (slice_index_or vs i 0)) f.den (over.linear (slice_index_or vs i 0)) (has.linear (slice_index_or vs i 0));
  rows = length-map vs row;
  widths = all_map row (length vs) vs (λ u. length-map vs (λ v. times_over n (upper_at q u v)));
  products = λ i j h k. ap (λ r. cell r j *ℤ f.den) (row_of-map row vs i h)
      ∙ (ap (λ z. z *ℤ f.den) (cell_map (λ v. times_over n (upper_at q (slice_index_or vs i 0) v)) vs j k)
      ∙ upper_cross n f q (slice_index_or vs i 0) (slice_index_or vs j 0) over has);
}
  where
    row : ℕ → List ℤ
    row u = map (λ v. times_over n (upper_at q u v)) vs

-- ---- rules, functions and purposes
rules_are : (n : ℤ) (m : Model) (vs : List ℕ) (es : List EquId) (rs : List Rule) → AreRulesFor m es rs → All (λ r. LinIsOver n r.row) rs → AreRulesOf n m vs es (map (game_rule n vs) rs)
rules_are n m vs [] [] h over = tt
rules_are n m vs [] (r ∷ rs) h over = absurd h
rules_are n m vs (e ∷ es) [] h over = absurd h
rules_are n m vs (e ∷ es) (r ∷ rs) h over = (
  record { equation = ap (λ (e : EquId). e.at) h.0.equation; relation = h.0.relation; row = λ q s. row_is n vs (form (difference q)) r.row (All-head (λ r. LinIsOver n r.row) r rs over) (h.0.row q s) },
  rules_are n m vs es rs h.1 (All-tail (λ r. LinIsOver n r.row) r rs over),
)

flows_are : (n : ℤ) (m : Model) (vs : List ℕ) (gs : List (Option ℕ)) (ls : List Lin) → AreFlowsFor m gs ls → All (LinIsOver n) ls → AreFlowsOf n m vs gs (map (lin_row n vs) ls)
flows_are n m vs [] [] h over = tt
flows_are n m vs [] (l ∷ ls) h over = absurd h
flows_are n m vs (g ∷ gs) [] h over = absurd h
flows_are n m vs (g ∷ gs) (l ∷ ls) h over = (row_is n vs (function_form m g) l (All-head (LinIsOver n) l ls over) h.0, flows_are n m vs gs ls h.1 (All-tail (LinIsOver n) l ls over))

purpose_is : (n : ℤ) (m : Model) (a : Annot) (k : ℕ) (b : Block) (p : Purpose) → IsPurposeFor m a k b p → PurposeIsOver n p → IsPurposeOf n m a k b (game_purpose n (left m a) p)
purpose_is n m a k (Agent sense objective vars equs) (Goal q) h over = quadratic_is n (left m a) (goal_form m a (block k)) q over h
purpose_is n m a k (Agent sense objective vars equs) (Flow ls) h over = absurd h
purpose_is n m a k (Vi zeros pairs equs) (Goal q) h over = absurd h
purpose_is n m a k (Vi zeros pairs equs) (Flow ls) h over = flows_are n m (left m a) (block_flow (Vi zeros pairs equs)) ls h over

-- ---- players and the leader
players_are : (n : ℤ) (m : Model) (a : Annot) (k : ℕ) (bs : List Block) (ps : List BlockPart) → AreBlocksFor m a k bs ps → All (BlockIsOver n) ps → ArePlayersOf n m a k bs (map (game_player n (left m a)) ps)
players_are n m a k [] [] h over = tt
players_are n m a k [] (p ∷ ps) h over = absurd h
players_are n m a k (b ∷ bs) [] h over = absurd h
players_are n m a k (b ∷ bs) (p ∷ ps) h over = (
  record {
    own = ap (map (λ v. place m a v.at)) h.0.own;
    purpose = purpose_is n m a k b p.purpose h.0.purpose (All-head (BlockIsOver n) p ps over).purpose;
    rules = rules_are n m (left m a) (constraints m a (block k)) p.rules h.0.rules (All-head (BlockIsOver n) p ps over).rules;
  },
  players_are n m a (suc k) bs ps h.1 (All-tail (BlockIsOver n) p ps over),
)

named : (us vs : List ℕ) → map (λ (v : VarId). place_in us v.at) (map (λ v. record { at = v }) vs) ≡ map (place_in us) vs
named us [] = refl
named us (v ∷ vs) = ap (λ ps. place_in us v ∷ ps) (named us vs)

leads_as : (n : ℤ) (m : Model) (a : Annot) (b : Bool) (o : Option LeaderPart) → LeadsFor m a b o → LeaderIsOver n o → LeadsAs n m a b (game_leader n (left m a) o)
leads_as n m a true (Some l) h over = record {
  own = ap (map (λ v. place m a v.at)) h.own ∙ named (left m a) (leader_own m a);
  goal = row_is n (left m a) (goal_form m a leader) l.goal over.0 h.goal;
  rules = rules_are n m (left m a) (constraints m a leader) l.rules h.rules over.1;
}
leads_as n m a true None h over = absurd h
leads_as n m a false (Some l) h over = absurd h
leads_as n m a false None h over = tt

-- ---- the game
numbers_are : (m : Model) (vs : List ℕ) → map (λ (v : LeftVariable). v.variable.at) (map (left_variable m) vs) ≡ vs
numbers_are m [] = refl
numbers_are m (v ∷ vs) = ap (λ us. v ∷ us) (numbers_are m vs)

ranges_are : (m : Model) (vs : List ℕ) → map (λ (v : LeftVariable). (v.low, v.high)) (map (left_variable m) vs) ≡ map (range_of m) vs
ranges_are m [] = refl
ranges_are m (v ∷ vs) = ap (λ rs. range_of m v ∷ rs) (ranges_are m vs)

pub problems_have_games : ProblemsHaveGames
problems_have_games n m a pr h over = record {
  positive = over.positive;
  ranges = ap (map (λ (v : LeftVariable). (v.low, v.high))) h.variables ∙ ranges_are m (left m a);
  leads = subst (λ vs. LeadsAs n m a a.bilevel (game_leader n vs pr.leader)) (sym is) (leads_as n m a a.bilevel pr.leader h.leads over.leads);
  players = subst (λ vs. ArePlayersOf n m a 0 a.blocks (map (game_player n vs) pr.blocks)) (sym is) (players_are n m a 0 a.blocks pr.blocks h.blocks over.blocks);
  duals = ap₂ (λ vs ds. map (λ d. (place_in vs d.0.at, d.1.at)) ds) is h.duals;
  visols = ap (map (λ e. e.at)) h.visols;
}
  where
    is : left_of pr ≡ left m a
    is = ap (map (λ (v : LeftVariable). v.variable.at)) h.variables ∙ numbers_are m (left m a)
