-- A block is solved at a point of the file where its player is solved at the coordinates that are left.
use Rattle.std.proofs.Common.{◌≡◌, ◌⊎◌, inl, inr, ℕ, ℤ, pos, neg_ℤ, ◌+ℤ◌, ◌*ℤ◌, ◌≤ℤ◌, ◌<ℤ◌, List, [], ◌∷◌, Some, arith, refl, sym, ap, ap₂, subst, ◌∙◌}
use Rattle.std.specs.Prelude.{slice_get}
use Rattle.std.proofs.lemmas.Option.{slice_get_within}
use Rattle.emp_algebra.specs.Vector.{cell, dot, scale}
use Rattle.emp_algebra.proofs.Laws.{mul_pos, neg_ℤ-*ℤ}
use Rattle.emp_algebra.proofs.Order.{linear, le_or_lt, mul_le_right, mul_lt_right, le_cancel_right}
use Rattle.emp_algebra.proofs.Ring.{var, lit, neg, ◌⊕◌, ◌⊗◌, by_ring}
use Rattle.emp_algebra.proofs.Vectors.{cell-scale}
use Rattle.emp_num.specs.Ratio.{Ratio, ratio}
use Rattle.emp_num.specs.Point.{Point, coordinate}
use Rattle.emp_systems.specs.Steps.{Quadratic, value_squared, way, IsAtMost}
use Rattle.emp_systems.specs.Same.{AreSame}
use Rattle.emp_systems.proofs.Eliminate.{cell-add_rows}
use Rattle.emp_systems.proofs.Forms.{dot-combination}
use Rattle.emp_systems.proofs.Same.{affine_same}
use Rattle.emp_split.proofs.Scaling.{obeys_scaled}
use Rattle.emp_ast.specs.declared.tree.VarId.{VarId}
use Rattle.emp_ast.specs.declared.tree.EquId.{EquId}
use Rattle.emp_ast.specs.declared.model.Sense.{Sense}
use Rattle.emp_ast.specs.declared.model.Sense.TheVariants.{Min, Max}
use Rattle.emp_ast.specs.declared.model.Model.{Model}
use Rattle.emp_ast.specs.declared.annot.Block.{Block}
use Rattle.emp_ast.specs.declared.annot.Block.TheVariants.{Agent, Vi}
use Rattle.emp_ast.specs.declared.annot.Annot.{Annot}
use Rattle.emp_ast.specs.Meets.{MeetsEquation}
use Rattle.emp_ast.specs.Parties.{block, objective, block_objective, EachDefinition}
use Rattle.emp_ast.specs.Rivals.{Fits, IsRival, IsFeasible}
use Rattle.emp_ast.specs.Solved.{IsSmaller, IsBetter, IsAtLeastZero, step_to, NoRivalIsBetter, IsSolved}
use Rattle.emp_ast.specs.Solved.{flow as flow_of}
use Rattle.emp_ast.specs.SameLaws.{SameFraction}
use Rattle.emp_ast.proofs.Fractions.{fraction_back, fraction_on, smaller_same, sign_from, from_nought}
use Rattle.emp_game.specs.Game.{Row, Purpose, goal, flow, Player, Ranges}
use Rattle.emp_game.specs.Solved.{Obeys, flow_row, purpose_at}
use Rattle.emp_game.specs.Solved as Play
use Rattle.emp_problem.specs.Left.{left, place, goal_form, block_flow}
use Rattle.emp_problem.specs.GameOf.{IsQuadraticOf, IsPurposeOf, AreFlowsOf}
use Rattle.emp_meaning.specs.Laws.{left_nums}
use Rattle.emp_meaning.specs.Ties.{signed_ratio, Deviations}
use Rattle.emp_meaning.proofs.Move.{IsTied, scaled_same, placed_cell}
use Rattle.emp_meaning.proofs.MoveFlows.{FlowIs, Weighs, flow_is}
use Rattle.emp_meaning.proofs.Deviations.{signed_above, value_level, itself_up, deviations}
use Rattle.emp_meaning.proofs.MoveRules.{obeys_down, obeys_up}

-- a rival of the file that has the coordinates ys over e, over a larger denominator
pub record Rivals (m : Model) (a : Annot) (k : ℕ) (p : Point) (e : ℤ) (ys : List ℤ) : Type 0 where
  pub point : Point
  pub rival : IsRival m a (block k) p point
  pub times : ℤ
  pub positive : pos 0 <ℤ times
  pub den : point.den ≡ times *ℤ e
  pub nums : left_nums m a point ≡ scale times ys

-- ---- better is smaller, with the sign of the sense
signed_smaller : (s : Sense) (x y : Ratio) → IsBetter s x y → IsSmaller (signed_ratio s x) (signed_ratio s y)
signed_smaller Min x y h = h
signed_smaller Max x y h = omega (arith, linear, neg_ℤ-*ℤ x.top y.bottom, neg_ℤ-*ℤ y.top x.bottom)

smaller_signed : (s : Sense) (x y : Ratio) → IsSmaller (signed_ratio s x) (signed_ratio s y) → IsBetter s x y
smaller_signed Min x y h = h
smaller_signed Max x y h = omega (arith, linear, neg_ℤ-*ℤ x.top y.bottom, neg_ℤ-*ℤ y.top x.bottom)

-- the order of values over n times the squares is that of the cross products
spread : (n v d w e : ℤ) → pos 0 <ℤ n → (v *ℤ d) <ℤ (w *ℤ e) → (v *ℤ (n *ℤ d)) <ℤ (w *ℤ (n *ℤ e))
spread n v d w e p h =
    let one = by_ring (n ∷ v ∷ d ∷ []) (var 1 ⊗ (var 0 ⊗ var 2)) (var 1 ⊗ var 2 ⊗ var 0) refl in
    let two = by_ring (n ∷ w ∷ e ∷ []) (var 1 ⊗ (var 0 ⊗ var 2)) (var 1 ⊗ var 2 ⊗ var 0) refl in
    omega (arith, linear, mul_lt_right (v *ℤ d) (w *ℤ e) n h p, one, two)

held : (n v d w e : ℤ) → pos 0 <ℤ n → (w *ℤ e) ≤ℤ (v *ℤ d) → (v *ℤ (n *ℤ d)) <ℤ (w *ℤ (n *ℤ e)) → ⊥
held n v d w e p h l =
    let one = by_ring (n ∷ v ∷ d ∷ []) (var 1 ⊗ (var 0 ⊗ var 2)) (var 1 ⊗ var 2 ⊗ var 0) refl in
    let two = by_ring (n ∷ w ∷ e ∷ []) (var 1 ⊗ (var 0 ⊗ var 2)) (var 1 ⊗ var 2 ⊗ var 0) refl in
    omega (arith, linear, mul_le_right (w *ℤ e) (v *ℤ d) n h (omega (arith, linear)), one, two)

-- ---- a flow row
-- the product along the way is at least 0 where that at the end is not smaller
ahead_at : (row : List ℤ) (d : ℤ) (xs : List ℤ) (e : ℤ) (ys : List ℤ) → pos 0 ≤ℤ dot row (way d xs e ys) → (e *ℤ dot row xs) ≤ℤ (d *ℤ dot row ys)
ahead_at row d xs e ys h = omega (arith, linear, h, dot-combination row d ys (neg_ℤ e) xs, neg_ℤ-*ℤ e (dot row xs))

at_ahead : (row : List ℤ) (d : ℤ) (xs : List ℤ) (e : ℤ) (ys : List ℤ) → (e *ℤ dot row xs) ≤ℤ (d *ℤ dot row ys) → pos 0 ≤ℤ dot row (way d xs e ys)
at_ahead row d xs e ys h = omega (arith, linear, h, dot-combination row d ys (neg_ℤ e) xs, neg_ℤ-*ℤ e (dot row xs))

-- the same of a point by other numbers
nearer : (row : List ℤ) (d : ℤ) (xs : List ℤ) (e : ℤ) (ys : List ℤ) (c : ℤ) (zs : List ℤ) → pos 0 <ℤ c → pos 0 <ℤ e → AreSame e ys c zs → (c *ℤ dot row xs) ≤ℤ (d *ℤ dot row zs) → (e *ℤ dot row xs) ≤ℤ (d *ℤ dot row ys)
nearer row d xs e ys c zs p r same h =
    let x = dot row xs in
    let y = dot row ys in
    let z = dot row zs in
    let level : y *ℤ c ≡ z *ℤ e =
    by_ring (y ∷ c ∷ e ∷ []) (var 0 ⊗ var 1) ((lit (pos 0) ⊗ var 2 ⊕ var 0) ⊗ var 1) refl ∙ (affine_same (pos 0) row e ys c zs same ∙ by_ring (z ∷ c ∷ e ∷ []) ((lit (pos 0) ⊗ var 1 ⊕ var 0) ⊗ var 2) (var 0 ⊗ var 2) refl) in
    let grown = mul_le_right (c *ℤ x) (d *ℤ z) e h (omega (arith, linear)) in
    let left = by_ring (c ∷ x ∷ e ∷ []) (var 0 ⊗ var 1 ⊗ var 2) (var 2 ⊗ var 1 ⊗ var 0) refl in
    let right : d *ℤ z *ℤ e ≡ d *ℤ y *ℤ c =
    by_ring (d ∷ z ∷ e ∷ []) (var 0 ⊗ var 1 ⊗ var 2) (var 0 ⊗ (var 1 ⊗ var 2)) refl ∙ (ap (λ s. d *ℤ s) (sym level) ∙ by_ring (d ∷ y ∷ c ∷ []) (var 0 ⊗ (var 1 ⊗ var 2)) (var 0 ⊗ var 1 ⊗ var 2) refl) in
    le_cancel_right (e *ℤ x) (d *ℤ y) c (omega (arith, linear, grown, left, right)) p

abbrev flow_purpose : List ℤ → Quadratic
flow_purpose row = record { constant = pos 0; linear = row; square = [] }

flow_value : (row : List ℤ) (d : ℤ) (xs : List ℤ) (e : ℤ) → value_squared (flow_purpose row) d xs *ℤ (e *ℤ e) ≡ e *ℤ dot row xs *ℤ (d *ℤ e)
flow_value row d xs e = by_ring (d ∷ dot row xs ∷ e ∷ []) ((lit (pos 0) ⊗ (var 0 ⊗ var 0) ⊕ var 0 ⊗ var 1 ⊕ lit (pos 0)) ⊗ (var 2 ⊗ var 2)) (var 2 ⊗ var 1 ⊗ (var 0 ⊗ var 2)) refl

least_from : (row : List ℤ) (d : ℤ) (xs : List ℤ) (e : ℤ) (ys : List ℤ) → pos 0 <ℤ d → pos 0 <ℤ e → (e *ℤ dot row xs) ≤ℤ (d *ℤ dot row ys) → IsAtMost (flow_purpose row) d xs e ys
least_from row d xs e ys p r h =
    let turned = by_ring (d ∷ e ∷ dot row ys ∷ []) (var 0 ⊗ var 2 ⊗ (var 1 ⊗ var 0)) (var 0 ⊗ var 2 ⊗ (var 0 ⊗ var 1)) refl in
    omega (arith, linear, flow_value row d xs e, flow_value row e ys d, turned, mul_le_right (e *ℤ dot row xs) (d *ℤ dot row ys) (d *ℤ e) h (omega (arith, linear, mul_pos d e p r)))

least_to : (row : List ℤ) (d : ℤ) (xs : List ℤ) (e : ℤ) (ys : List ℤ) → pos 0 <ℤ d → pos 0 <ℤ e → IsAtMost (flow_purpose row) d xs e ys → (e *ℤ dot row xs) ≤ℤ (d *ℤ dot row ys)
least_to row d xs e ys p r h =
    let turned = by_ring (d ∷ e ∷ dot row ys ∷ []) (var 0 ⊗ var 2 ⊗ (var 1 ⊗ var 0)) (var 0 ⊗ var 2 ⊗ (var 0 ⊗ var 1)) refl in
    le_cancel_right (e *ℤ dot row xs) (d *ℤ dot row ys) (d *ℤ e) (omega (arith, linear, h, flow_value row d xs e, flow_value row e ys d, turned)) (mul_pos d e p r)

-- ---- one block
module _ (n : ℤ) (m : Model) (a : Annot) (ranges : Ranges) (k : ℕ) (b : Block) (pl : Player) (tied : IsTied n m a ranges k b pl) where
  ties : Deviations m a ranges k pl
  ties = deviations n m a ranges k b pl tied

  pub rival_down : (p r : Point) → Fits m p → IsRival m a (block k) p r → Play.IsRival ranges pl p.den (left_nums m a p) r.den (left_nums m a r)
  rival_down p r fits h = record { deviation = ties.down p r fits h.deviation; obeys = obeys_down n m a (block k) (slice_get_within a.blocks k b tied.there) tied.class tied.values pl.rules tied.player.rules r h.deviation.fits h.constraints }

  pub rival_up : (p : Point) (e : ℤ) (ys : List ℤ) → Fits m p → pos 0 <ℤ e → Play.IsRival ranges pl p.den (left_nums m a p) e ys → Rivals m a k p e ys
  rival_up p e ys fits above h =
      let d = ties.up p e ys fits above h.deviation in
      let obeys = obeys_scaled d.times pl.rules e ys d.positive h.obeys in
      record {
        point = d.point;
        rival = record {
          deviation = d.deviation;
          constraints = obeys_up n m a (block k) (slice_get_within a.blocks k b tied.there) tied.class tied.values pl.rules tied.player.rules d.point d.deviation.fits (subst (λ z. Obeys pl.rules z (left_nums m a d.point)) (sym d.den) (subst (λ zs. Obeys pl.rules (d.times *ℤ e) zs) (sym d.nums) obeys));
        };
        times = d.times;
        positive = d.positive;
        den = d.den;
        nums = d.nums;
      }

  pub feasible_up : (p : Point) → Fits m p → EachDefinition m a (block k) (λ e q. MeetsEquation p q) → Play.IsRival ranges pl p.den (left_nums m a p) p.den (left_nums m a p) → IsFeasible m a (block k) p
  feasible_up p fits meets h = record { deviation = itself_up n m a ranges k b pl tied p fits meets h.deviation; constraints = obeys_up n m a (block k) (slice_get_within a.blocks k b tied.there) tied.class tied.values pl.rules tied.player.rules p fits h.obeys }

  -- ---- agents
  abbrev value_over : Quadratic → ℤ → List ℤ → Ratio
  value_over q d xs = ratio (value_squared q d xs) (n *ℤ (d *ℤ d))

  over_above : (d : ℤ) → pos 0 <ℤ d → pos 0 <ℤ (n *ℤ (d *ℤ d))
  over_above d h = mul_pos n (d *ℤ d) tied.positive (mul_pos d d h h)

  -- the coordinate of the objective is the polynomial's value
  pub given_value : (s : Sense) (w : ℕ) (q : Quadratic) (p : Point) → objective m a (block k) ≡ Some (s, w) → IsQuadraticOf n (left m a) (goal_form m a (block k)) q → Fits m p → EachDefinition m a (block k) (λ e c. MeetsEquation p c) → SameFraction (signed_ratio s (coordinate p w)) (value_over q p.den (left_nums m a p))
  given_value s w q p is of fits meets = record {
    left = signed_above s (coordinate p w) p.positive;
    right = over_above p.den p.positive;
    same = (tied.values.given (block k) s w q p (slice_get_within a.blocks k b tied.there) is of fits).0 meets;
  }

  agent_down : (s : Sense) (w : ℕ) (q : Quadratic) (p : Point) → objective m a (block k) ≡ Some (s, w) → IsQuadraticOf n (left m a) (goal_form m a (block k)) q → Fits m p → EachDefinition m a (block k) (λ e c. MeetsEquation p c) → ((r : Point) → IsRival m a (block k) p r → IsBetter s (coordinate r w) (coordinate p w) → ⊥) → (e : ℤ) (ys : List ℤ) → pos 0 <ℤ e → Play.IsRival ranges pl p.den (left_nums m a p) e ys → IsAtMost q p.den (left_nums m a p) e ys
  agent_down s w q p is of fits meets best e ys above rival = go (le_or_lt (here *ℤ (e *ℤ e)) (there *ℤ (p.den *ℤ p.den)))
    where
      here : ℤ
      here = value_squared q p.den (left_nums m a p)

      there : ℤ
      there = value_squared q e ys

      f : Rivals m a k p e ys
      f = rival_up p e ys fits above rival

      r : Point
      r = f.point

      moved : SameFraction (value_over q e ys) (signed_ratio s (coordinate r w))
      moved =
          let level = value_level n q e ys r.den (left_nums m a r) (scaled_same f.times e ys r.den (left_nums m a r) f.den f.nums) in
          fraction_on (value_over q e ys) (value_over q r.den (left_nums m a r)) (signed_ratio s (coordinate r w))
          (record { left = over_above e above; right = over_above r.den r.positive; same = level })
          (fraction_back (signed_ratio s (coordinate r w)) (value_over q r.den (left_nums m a r)) (given_value s w q r is of f.rival.deviation.fits f.rival.deviation.definition))

      go : ((here *ℤ (e *ℤ e)) ≤ℤ (there *ℤ (p.den *ℤ p.den))) ⊎ ((there *ℤ (p.den *ℤ p.den)) <ℤ (here *ℤ (e *ℤ e))) → IsAtMost q p.den (left_nums m a p) e ys
      go (inl l) = l
      go (inr l) =
          let stays = given_value s w q p is of fits meets in
          let smaller = smaller_same (value_over q e ys) (signed_ratio s (coordinate r w)) (value_over q p.den (left_nums m a p)) (signed_ratio s (coordinate p w)) moved (fraction_back (signed_ratio s (coordinate p w)) (value_over q p.den (left_nums m a p)) stays) (spread n there (p.den *ℤ p.den) here (e *ℤ e) tied.positive l) in
          absurd (best r f.rival (smaller_signed s (coordinate r w) (coordinate p w) smaller))

  agent_up : (s : Sense) (w : ℕ) (q : Quadratic) (p : Point) → objective m a (block k) ≡ Some (s, w) → IsQuadraticOf n (left m a) (goal_form m a (block k)) q → Fits m p → EachDefinition m a (block k) (λ e c. MeetsEquation p c) → ((e : ℤ) (ys : List ℤ) → pos 0 <ℤ e → Play.IsRival ranges pl p.den (left_nums m a p) e ys → IsAtMost q p.den (left_nums m a p) e ys) → (r : Point) → IsRival m a (block k) p r → IsBetter s (coordinate r w) (coordinate p w) → ⊥
  agent_up s w q p is of fits meets best r rival better =
      let stays = given_value s w q p is of fits meets in
      let moves = given_value s w q r is of rival.deviation.fits rival.deviation.definition in
      let smaller = smaller_same (signed_ratio s (coordinate r w)) (value_over q r.den (left_nums m a r)) (signed_ratio s (coordinate p w)) (value_over q p.den (left_nums m a p)) moves stays (signed_smaller s (coordinate r w) (coordinate p w) better) in
      held n (value_squared q r.den (left_nums m a r)) (p.den *ℤ p.den) (value_squared q p.den (left_nums m a p)) (r.den *ℤ r.den) tied.positive
      (best r.den (left_nums m a r) r.positive (rival_down p r fits rival))
      smaller

  -- ---- variational inequalities
  abbrev steps : Point → Point → List ℤ
  steps p r = way p.den (left_nums m a p) r.den (left_nums m a r)

  step_weighs : (p r : Point) → Weighs n m a ranges k b pl tied (step_to p r) (steps p r) (r.den *ℤ p.den)
  step_weighs p r v l is =
      let i = place m a v in
      let x = cell p.nums v in
      let y = cell r.nums v in
      let there : cell (steps p r) i ≡ p.den *ℤ y +ℤ neg_ℤ r.den *ℤ x =
      cell-add_rows (scale p.den (left_nums m a r)) (scale (neg_ℤ r.den) (left_nums m a p)) i
      ∙ ap₂ (λ s t. s +ℤ t) (cell-scale p.den (left_nums m a r) i ∙ ap (λ z. p.den *ℤ z) (placed_cell m a r v tied.places l is)) (cell-scale (neg_ℤ r.den) (left_nums m a p) i ∙ ap (λ z. neg_ℤ r.den *ℤ z) (placed_cell m a p v tied.places l is)) in
      let above = mul_pos r.den p.den r.positive p.positive in
      record {
        left = above;
        right = above;
        same = ap (λ z. z *ℤ (r.den *ℤ p.den)) (by_ring (y ∷ p.den ∷ x ∷ r.den ∷ []) (var 0 ⊗ var 1 ⊕ neg (var 2) ⊗ var 3) (var 1 ⊗ var 0 ⊕ neg (var 3) ⊗ var 2) refl ∙ sym there);
      }

  -- the sum of a flow is at least 0 along the way to r exactly where the flow row's product is not smaller at r
  flow_step : (p r : Point) (zeros : List VarId) (pairs : List (EquId × VarId)) (equs : List EquId) (fs : List Row) → slice_get a.blocks k ≡ Some (Vi zeros pairs equs) → AreFlowsOf n m (left m a) (block_flow (Vi zeros pairs equs)) fs → Fits m p → FlowIs m p (step_to p r) pairs (dot (flow_row pl.own fs p.den (left_nums m a p)) (steps p r)) (n *ℤ p.den *ℤ (r.den *ℤ p.den))
  flow_step p r zeros pairs equs fs at of fits =
      flow_is n m a ranges k b pl tied p (step_to p r) (steps p r) (r.den *ℤ p.den) zeros pairs equs fs at of fits (mul_pos r.den p.den r.positive p.positive) (step_weighs p r)

  inequality_down : (zeros : List VarId) (pairs : List (EquId × VarId)) (equs : List EquId) (fs : List Row) (p : Point) → slice_get a.blocks k ≡ Some (Vi zeros pairs equs) → AreFlowsOf n m (left m a) (block_flow (Vi zeros pairs equs)) fs → Fits m p → ((r : Point) → IsRival m a (block k) p r → IsAtLeastZero (flow_of m p (step_to p r) pairs)) → (e : ℤ) (ys : List ℤ) → pos 0 <ℤ e → Play.IsRival ranges pl p.den (left_nums m a p) e ys → IsAtMost (purpose_at (flow fs) pl.own p.den (left_nums m a p)) p.den (left_nums m a p) e ys
  inequality_down zeros pairs equs fs p at of fits best e ys above rival =
      let f = rival_up p e ys fits above rival in
      let r = f.point in
      let row = flow_row pl.own fs p.den (left_nums m a p) in
      let sum = flow_step p r zeros pairs equs fs at of fits in
      let ahead = (from_nought sum.value).0 (subst (λ o. IsAtLeastZero o) sum.is (best r f.rival)) in
      let up = sign_from sum.value.top sum.value.bottom (dot row (steps p r)) (n *ℤ p.den *ℤ (r.den *ℤ p.den)) sum.same.left sum.same.right sum.same.same ahead in
      let same = scaled_same f.times e ys r.den (left_nums m a r) f.den f.nums in
      least_from row p.den (left_nums m a p) e ys p.positive above
      (nearer row p.den (left_nums m a p) e ys r.den (left_nums m a r) r.positive above same (ahead_at row p.den (left_nums m a p) r.den (left_nums m a r) up))

  inequality_up : (zeros : List VarId) (pairs : List (EquId × VarId)) (equs : List EquId) (fs : List Row) (p : Point) → slice_get a.blocks k ≡ Some (Vi zeros pairs equs) → AreFlowsOf n m (left m a) (block_flow (Vi zeros pairs equs)) fs → Fits m p → ((e : ℤ) (ys : List ℤ) → pos 0 <ℤ e → Play.IsRival ranges pl p.den (left_nums m a p) e ys → IsAtMost (purpose_at (flow fs) pl.own p.den (left_nums m a p)) p.den (left_nums m a p) e ys) → (r : Point) → IsRival m a (block k) p r → IsAtLeastZero (flow_of m p (step_to p r) pairs)
  inequality_up zeros pairs equs fs p at of fits best r rival =
      let row = flow_row pl.own fs p.den (left_nums m a p) in
      let sum = flow_step p r zeros pairs equs fs at of fits in
      let least = least_to row p.den (left_nums m a p) r.den (left_nums m a r) p.positive r.positive (best r.den (left_nums m a r) r.positive (rival_down p r fits rival)) in
      let up = at_ahead row p.den (left_nums m a p) r.den (left_nums m a r) least in
      subst (λ o. IsAtLeastZero o) (sym sum.is)
      ((from_nought sum.value).1 (sign_from (dot row (steps p r)) (n *ℤ p.den *ℤ (r.den *ℤ p.den)) sum.value.top sum.value.bottom sum.same.right sum.same.left (sym sum.same.same) up))

  -- ---- each block
  best_down : (c : Block) (f : Purpose) (p : Point) → slice_get a.blocks k ≡ Some c → IsPurposeOf n m a k c f → Fits m p → IsFeasible m a (block k) p → NoRivalIsBetter m a k (Some c) p → (e : ℤ) (ys : List ℤ) → pos 0 <ℤ e → Play.IsRival ranges pl p.den (left_nums m a p) e ys → IsAtMost (purpose_at f pl.own p.den (left_nums m a p)) p.den (left_nums m a p) e ys
  best_down (Agent s w vars equs) (goal q) p at of fits feasible best = agent_down s w.at q p (ap block_objective at) of fits feasible.deviation.definition best
  best_down (Agent s w vars equs) (flow fs) p at of fits feasible best = absurd of
  best_down (Vi zeros pairs equs) (goal q) p at of fits feasible best = absurd of
  best_down (Vi zeros pairs equs) (flow fs) p at of fits feasible best = inequality_down zeros pairs equs fs p at of fits best

  best_up : (c : Block) (f : Purpose) (p : Point) → slice_get a.blocks k ≡ Some c → IsPurposeOf n m a k c f → Fits m p → EachDefinition m a (block k) (λ e q. MeetsEquation p q) → ((e : ℤ) (ys : List ℤ) → pos 0 <ℤ e → Play.IsRival ranges pl p.den (left_nums m a p) e ys → IsAtMost (purpose_at f pl.own p.den (left_nums m a p)) p.den (left_nums m a p) e ys) → NoRivalIsBetter m a k (Some c) p
  best_up (Agent s w vars equs) (goal q) p at of fits meets best = agent_up s w.at q p (ap block_objective at) of fits meets best
  best_up (Agent s w vars equs) (flow fs) p at of fits meets best = absurd of
  best_up (Vi zeros pairs equs) (goal q) p at of fits meets best = absurd of
  best_up (Vi zeros pairs equs) (flow fs) p at of fits meets best = inequality_up zeros pairs equs fs p at of fits best

  -- a block that is solved at p has its player solved at the coordinates of p
  pub solved_down : (p : Point) → IsSolved m a k p → Play.IsSolved ranges pl p.den (left_nums m a p)
  solved_down p h =
      let fits = h.feasible.deviation.fits in
      record {
        feasible = rival_down p p fits h.feasible;
        best = best_down b pl.purpose p tied.there tied.player.purpose fits h.feasible (subst (λ o. NoRivalIsBetter m a k o p) tied.there h.best);
      }

  -- and the other way where p meets the definition of the block's objective
  pub solved_up : (p : Point) → EachDefinition m a (block k) (λ e q. MeetsEquation p q) → Fits m p → Play.IsSolved ranges pl p.den (left_nums m a p) → IsSolved m a k p
  solved_up p meets fits h = record {
    feasible = feasible_up p fits meets h.feasible;
    best = subst (λ o. NoRivalIsBetter m a k o p) (sym tied.there) (best_up b pl.purpose p tied.there tied.player.purpose fits meets h.best);
  }
