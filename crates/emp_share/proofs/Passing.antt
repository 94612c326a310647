-- Where all agents pass, the game is convex.
use Rattle.std.proofs.Common.{◌≡◌, ℕ, zero, suc, ◌<◌, ◌≤◌, ℤ, pos, ◌+ℤ◌, ◌*ℤ◌, ◌<ℤ◌, Bool, true, false, ◌||◌, cond, nat_eq, List, [], ◌∷◌, All, map, length, slice_index_or, Ok, arith, refl, sym, ap, ap₂, subst, ◌∙◌}
use Rattle.std.proofs.lemmas.Bool.{eqb-true, lt-ltb}
use Rattle.std.proofs.lemmas.List.{length-map, get_or-map}
use Rattle.std.proofs.lemmas.List.Elements.{All-head, All-tail}
use Rattle.emp_algebra.specs.Vector.{cell}
use Rattle.emp_algebra.proofs.Order.{cancel_right}
use Rattle.emp_algebra.proofs.Ring.{var, lit, ◌⊕◌, ◌⊗◌, by_ring}
use Rattle.emp_num.specs.Whole.{whole}
use Rattle.emp_num.specs.declared.frac.Frac.{Frac}
use Rattle.emp_ast.specs.declared.tree.VarId.{VarId}
use Rattle.emp_poly.specs.Quads.{square_at}
use Rattle.emp_poly.specs.declared.quad.Quad.{Quad}
use Rattle.emp_ldl.specs.Form.{entry, entries}
use Rattle.emp_ldl.specs.Laws.{Over}
use Rattle.emp_systems.specs.Lagrange.{IsOwnConvex}
use Rattle.emp_game.specs.Game.{names, AreApart, IsPlayer}
use Rattle.emp_game.specs.Solved.{IsConvexPurpose, IsConvex}
use Rattle.emp_game.specs.Conditions.{row_of}
use Rattle.emp_game.proofs.Slopes.{eqb_refl}
use Rattle.emp_split.specs.Games.{EachPlayer}
use Rattle.emp_curvature.specs.Curvature.{curvature}
use Rattle.emp_curvature.proofs.Curvature as Curvature
use Rattle.emp_problem.specs.declared.problem.LeftVariable.{LeftVariable}
use Rattle.emp_problem.specs.declared.problem.Purpose.{Purpose}
use Rattle.emp_problem.specs.declared.problem.Purpose.TheVariants.{Goal, Flow}
use Rattle.emp_problem.specs.declared.problem.BlockPart.{BlockPart}
use Rattle.emp_problem.specs.Left.{place_in}
use Rattle.emp_problem.specs.Problem.{left_of, times_over, upper_at, quad_quadratic, game_purpose, game_player, IsWholeOver, QuadIsOver, PurposeIsOver, BlockIsOver}
use Rattle.emp_whole.proofs.Games.{cross_none, cell_map, row_of-map}
use Rattle.emp_share.specs.Share.{variable_at, IsSecondBy, IsSecond, AreSeconds, FoldPasses, PurposeGives, BlockPasses}
use Rattle.emp_share.specs.Laws.{PassingIsConvex}
use Rattle.emp_share.proofs.Cells.{not_before, SecondIs, rising, falling, square, second_is}

-- ---- places of variables
place_back : (vs : List ℕ) (v : ℕ) → place_in vs v < length vs → slice_index_or vs (place_in vs v) 0 ≡ v
place_back [] v h = absurd (omega (arith, h))
place_back (u ∷ us) v h = go (nat_eq u v) refl (λ l. place_back us v l)
  where
    go : (b : Bool) → nat_eq u v ≡ b → (place_in us v < length us → slice_index_or us (place_in us v) 0 ≡ v) → slice_index_or (u ∷ us) (place_in (u ∷ us) v) 0 ≡ v
    go true e rest = ap (λ b. slice_index_or (u ∷ us) (cond b 0 (suc (place_in us v))) 0) e ∙ eqb-true u v e
    go false e rest =
        ap (λ b. slice_index_or (u ∷ us) (cond b 0 (suc (place_in us v))) 0) e
        ∙ rest (let k : suc (place_in us v) < suc (length us) = subst (λ b. cond b 0 (suc (place_in us v)) < suc (length us)) e h in omega (arith, k))

named_there : (ks : List ℕ) (i : ℕ) → i < length ks → names ks (slice_index_or ks i 0) ≡ true
named_there [] i h = absurd (omega (arith, h))
named_there (k ∷ ks) zero h = ap (λ b. b || names ks k) (eqb_refl k)
named_there (k ∷ ks) (suc i) h = later (nat_eq k (slice_index_or ks i 0)) (names ks (slice_index_or ks i 0)) (named_there ks i (omega (arith, h)))
  where
    later : (b c : Bool) → c ≡ true → b || c ≡ true
    later true c q = refl
    later false c q = q

-- ---- second derivatives over n
none_over : (n : ℤ) → times_over n (whole 0) ≡ pos 0
none_over n = by_ring (times_over n (whole 0) ∷ []) (var 0) (var 0 ⊗ lit (pos 1)) refl ∙ (cross_none n (pos 1) ∙ by_ring (n ∷ []) (var 0 ⊗ lit (pos 0)) (lit (pos 0)) refl)

own_over : (n : ℤ) (c f : Frac) → IsWholeOver n c → IsSecondBy true c f → f.num *ℤ n ≡ (times_over n c +ℤ times_over n c) *ℤ f.den
own_over n c f over is =
    cancel_right (f.num *ℤ n) ((times_over n c +ℤ times_over n c) *ℤ f.den) c.den
    (by_ring (f.num ∷ n ∷ c.den ∷ []) (var 0 ⊗ var 1 ⊗ var 2) (var 0 ⊗ var 2 ⊗ var 1) refl
    ∙ (ap (λ z. z *ℤ n) is
    ∙ (by_ring (c.num ∷ f.den ∷ n ∷ []) (lit (pos 2) ⊗ var 0 ⊗ var 1 ⊗ var 2) (lit (pos 2) ⊗ (var 2 ⊗ var 0) ⊗ var 1) refl
    ∙ (ap (λ z. pos 2 *ℤ z *ℤ f.den) (sym over) ∙ by_ring (times_over n c ∷ c.den ∷ f.den ∷ []) (lit (pos 2) ⊗ (var 0 ⊗ var 1) ⊗ var 2) ((var 0 ⊕ var 0) ⊗ var 2 ⊗ var 1) refl))))
    c.positive

other_over : (n : ℤ) (c : Frac) (s t : ℤ) → IsWholeOver n c → s ≡ times_over n c → t ≡ pos 0 → c.num *ℤ n ≡ (s +ℤ t) *ℤ c.den
other_over n c s t over e z =
    by_ring (c.num ∷ n ∷ []) (var 0 ⊗ var 1) (var 1 ⊗ var 0) refl
    ∙ (sym over ∙ (by_ring (times_over n c ∷ c.den ∷ []) (var 0 ⊗ var 1) ((var 0 ⊕ lit (pos 0)) ⊗ var 1) refl ∙ ap₂ (λ x y. (x +ℤ y) *ℤ c.den) (sym e) (sym z)))

module _ (n : ℤ) (q : Quad) (over : QuadIsOver n q) where
  abbrev whole_at : ℕ → ℕ → ℤ
  whole_at u v = times_over n (upper_at q u v)

  upper_there : (u v : ℕ) → u ≤ v → upper_at q u v ≡ square_at q.square u v
  upper_there u v h = ap (λ b. cond b (whole 0) (square_at q.square u v)) (not_before u v h)

  upper_none : (u v : ℕ) → v < u → whole_at u v ≡ pos 0
  upper_none u v h = ap (λ b. times_over n (cond b (whole 0) (square_at q.square u v))) (lt-ltb v u h) ∙ none_over n

  lower_over : (u v : ℕ) (f : Frac) → u < v → f ≡ square_at q.square u v → f.num *ℤ n ≡ (whole_at u v +ℤ whole_at v u) *ℤ f.den
  lower_over u v f h e =
      subst (λ (f : Frac). f.num *ℤ n ≡ (whole_at u v +ℤ whole_at v u) *ℤ f.den) (sym e)
      (other_over n (square_at q.square u v) (whole_at u v) (whole_at v u) (over.square u v) (ap (times_over n) (upper_there u v (omega (arith, h)))) (upper_none v u h))

  second_over : (u v : ℕ) (f : Frac) → IsSecond q u v f → f.num *ℤ n ≡ (whole_at u v +ℤ whole_at v u) *ℤ f.den
  second_over u v f is = go (second_is q u v f is)
    where
      go : SecondIs q u v f → f.num *ℤ n ≡ (whole_at u v +ℤ whole_at v u) *ℤ f.den
      go (rising h e) = lower_over u v f h e
      go (falling h e) = lower_over v u f h e ∙ by_ring (whole_at v u ∷ whole_at u v ∷ f.den ∷ []) ((var 0 ⊕ var 1) ⊗ var 2) ((var 1 ⊕ var 0) ⊗ var 2) refl
      go (square e d) =
          subst (λ w. f.num *ℤ n ≡ (whole_at u w +ℤ whole_at w u) *ℤ f.den) e
          (subst (λ (c : Frac). f.num *ℤ n ≡ (times_over n c +ℤ times_over n c) *ℤ f.den) (sym (upper_there u u (omega arith))) (own_over n (square_at q.square u u) f (over.square u u) d))

-- ---- one player
module _ (n : ℤ) (positive : pos 0 <ℤ n) (vs : List ℕ) (own : List VarId) (below : (k : ℕ) → names (map (λ v. place_in vs v.at) own) k ≡ true → k < length vs) where
  abbrev places : List ℕ
  places = map (λ v. place_in vs v.at) own

  place_is : (i : ℕ) → i < length places → slice_index_or places i 0 ≡ place_in vs (variable_at own i)
  place_is i h = get_or-map (λ v. place_in vs v.at) own i (record { at = 0 }) 0 (subst (λ k. i < k) (length-map own (λ v. place_in vs v.at)) h)

  place_fits : (i : ℕ) → i < length places → place_in vs (variable_at own i) < length vs
  place_fits i h = subst (λ k. k < length vs) (place_is i h) (below (slice_index_or places i 0) (named_there places i h))

  cell_is : (q : Quad) (i j : ℕ) → i < length places → j < length places → cell (row_of (quad_quadratic n vs q).square (slice_index_or places i 0)) (slice_index_or places j 0) ≡ times_over n (upper_at q (variable_at own i) (variable_at own j))
  cell_is q i j bi bj =
      ap₂ (λ a b. cell (row_of (quad_quadratic n vs q).square a) b) (place_is i bi) (place_is j bj)
      ∙ (ap (λ r. cell r (place_in vs (variable_at own j))) (row_of-map (λ u. map (λ v. times_over n (upper_at q u v)) vs) vs (place_in vs (variable_at own i)) (place_fits i bi))
      ∙ (cell_map (λ v. times_over n (upper_at q (slice_index_or vs (place_in vs (variable_at own i)) 0) v)) vs (place_in vs (variable_at own j)) (place_fits j bj)
      ∙ ap₂ (λ u v. times_over n (upper_at q u v)) (place_back vs (variable_at own i) (place_fits i bi)) (place_back vs (variable_at own j) (place_fits j bj))))

  cells_over : (q : Quad) (cells : List Frac) → QuadIsOver n q → AreSeconds q own (length places) cells → Over (entries (length places) cells) (curvature (quad_quadratic n vs q).square places) n (length places)
  cells_over q cells over s = record {
    positive = positive;
    same = λ i j bi bj. second_over n q over (variable_at own i) (variable_at own j) (entry (length places) cells i j) (s.each i j bi bj)
        ∙ ap (λ z. z *ℤ (entry (length places) cells i j).den) (sym (ap₂ (λ x y. x +ℤ y) (cell_is q i j bi bj) (cell_is q j i bj bi)));
  }

  passing : (q : Quad) → QuadIsOver n q → AreApart places → FoldPasses q own (length own) → IsOwnConvex (λ k. names places k) (quad_quadratic n vs q).square
  passing q over a h = go (subst (λ k. FoldPasses q own k) (sym (length-map own (λ v. place_in vs v.at))) h)
    where
      go : FoldPasses q own (length places) → IsOwnConvex (λ k. names places k) (quad_quadratic n vs q).square
      go f = Curvature.convex_tells (quad_quadratic n vs q).square places f.gives.cells n a f.gives.seconds.matrix (cells_over q f.gives.cells over f.gives.seconds) (Ok f.squares) f.gives.gives

-- ---- all players
purpose_convex : (n : ℤ) (vs : List ℕ) (b : BlockPart) (p : Purpose) → pos 0 <ℤ n → PurposeIsOver n p → IsPlayer (length vs) (game_player n vs b) → PurposeGives p b.own (Ok tt) → IsConvexPurpose (game_player n vs b) (game_purpose n vs p)
purpose_convex n vs b (Goal q) positive over is h = passing n positive vs b.own is.below q over is.apart h
purpose_convex n vs b (Flow ls) positive over is h = tt

players_convex : (n : ℤ) (vs : List ℕ) (j : ℕ) (bs : List BlockPart) → pos 0 <ℤ n → All (BlockIsOver n) bs → EachPlayer (λ j pl. IsPlayer (length vs) pl) j (map (game_player n vs) bs) → All BlockPasses bs → EachPlayer (λ j pl. IsConvex pl) j (map (game_player n vs) bs)
players_convex n vs j [] positive over is h = tt
players_convex n vs j (b ∷ bs) positive over is h = (
  purpose_convex n vs b b.purpose positive (All-head (BlockIsOver n) b bs over).purpose is.0 (All-head BlockPasses b bs h),
  players_convex n vs (suc j) bs positive (All-tail (BlockIsOver n) b bs over) is.1 (All-tail BlockPasses b bs h),
)

pub passing_is_convex : PassingIsConvex
passing_is_convex n pr over is h =
    players_convex n (left_of pr) 0 pr.blocks over.positive over.blocks
    (subst (λ k. EachPlayer (λ j pl. IsPlayer k pl) 0 (map (game_player n (left_of pr)) pr.blocks)) (length-map pr.variables (λ (v : LeftVariable). (v.low, v.high)) ∙ sym (length-map pr.variables (λ (v : LeftVariable). v.variable.at))) is.players) h
