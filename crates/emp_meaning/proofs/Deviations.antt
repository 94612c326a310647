-- A deviation of the file is one of the game, and a deviation of the game is that of one of the file, over a larger denominator.
use Rattle.std.proofs.Common.{◌≡◌, ◌⊎◌, inl, inr, ℕ, ◌<◌, ◌≤◌, ℤ, pos, neg_ℤ, ◌*ℤ◌, ◌<ℤ◌, true, false, cond, nat_eq, List, [], ◌∷◌, length, get_or, Some, arith, refl, sym, ap, ap₂, subst, ◌∙◌}
use Rattle.std.specs.Prelude.{slice_get}
use Rattle.std.proofs.lemmas.Bool.{eq-eqb, or_left, false≢true, cases_lt, cases_Bool, cond-true, cond-false, cond_both}
use Rattle.std.proofs.lemmas.List.{ext_get_or}
use Rattle.std.proofs.lemmas.Option.{slice_get_within, slice_get-get_or, get_or_from_slice_get}
use lib.IntN.{zero-*ℤ}
use Rattle.emp_algebra.specs.Vector.{cell, scale}
use Rattle.emp_algebra.proofs.Laws.{mul_pos, neg_ℤ-*ℤ}
use Rattle.emp_algebra.proofs.Order.{linear, cancel_right}
use Rattle.emp_algebra.proofs.Ring.{var, neg, ◌⊗◌, by_ring}
use Rattle.emp_algebra.proofs.Vectors.{length-scale, cell-scale}
use Rattle.emp_num.specs.Ratio.{Ratio, ratio, SameRatio}
use Rattle.emp_num.specs.Point.{Point, coordinate}
use Rattle.emp_num.proofs.SamePoints.{cross_on}
use Rattle.emp_systems.specs.Steps.{Quadratic, value_squared}
use Rattle.emp_systems.specs.Same.{AreSame}
use Rattle.emp_systems.proofs.Same.{quadratic_same}
use Rattle.emp_ast.specs.declared.model.End.{End}
use Rattle.emp_ast.specs.declared.model.End.TheVariants.{Open, At}
use Rattle.emp_ast.specs.declared.model.Variable.{Variable}
use Rattle.emp_ast.specs.declared.model.Sense.{Sense}
use Rattle.emp_ast.specs.declared.model.Sense.TheVariants.{Min, Max}
use Rattle.emp_ast.specs.declared.model.Model.{Model}
use Rattle.emp_ast.specs.declared.annot.Block.{Block}
use Rattle.emp_ast.specs.declared.annot.Block.TheVariants.{Agent, Vi}
use Rattle.emp_ast.specs.declared.annot.Annot.{Annot}
use Rattle.emp_ast.specs.Meets.{MeetsEquation, MeetsBounds}
use Rattle.emp_ast.specs.Parties.{block, objective, block_objective, block_owns, names_variable, owns, defines_by, is_defined, EachDefinition}
use Rattle.emp_ast.specs.Rivals.{Fits, IsDeviation}
use Rattle.emp_ast.specs.SameLaws.{SameFraction}
use Rattle.emp_ast.proofs.Fractions.{at_most_same, fraction_itself}
use Rattle.emp_game.specs.Game.{Purpose, goal, flow, Player, Ranges, range_at}
use Rattle.emp_game.specs.Game as TheGame
use Rattle.emp_game.specs.Solved.{InRange}
use Rattle.emp_game.specs.Solved as Play
use Rattle.emp_problem.specs.Left.{left, place, range_of, no_variable}
use Rattle.emp_problem.specs.GameOf.{IsPurposeOf}
use Rattle.emp_meaning.specs.Laws.{left_nums}
use Rattle.emp_meaning.specs.Ties.{left_at, signed_ratio, Deviates, Deviations}
use Rattle.emp_meaning.proofs.MovePoints.{HasCoordinates, with_coordinates}
use Rattle.emp_meaning.proofs.Move.{IsTied, block_fits, scaled_same, left_count, left_cell, left_past, placed_cell, range_count, range_is, defines_own, defined_unbound}
use Rattle.emp_meaning.proofs.Places.{party_defines}

-- ---- equal fractions in one range
range_same : (r : End × End) (x y : Ratio) → SameFraction x y → InRange r x → InRange r y
range_same (Open, Open) x y h w = w
range_same (Open, At g) x y h w = (w.0, at_most_same x y (ratio g.num g.den) (ratio g.num g.den) h (fraction_itself (ratio g.num g.den) g.positive) w.1)
range_same (At f, Open) x y h w = (at_most_same (ratio f.num f.den) (ratio f.num f.den) x y (fraction_itself (ratio f.num f.den) f.positive) h w.0, w.1)
range_same (At f, At g) x y h w = (
  at_most_same (ratio f.num f.den) (ratio f.num f.den) x y (fraction_itself (ratio f.num f.den) f.positive) h w.0,
  at_most_same x y (ratio g.num g.den) (ratio g.num g.den) h (fraction_itself (ratio g.num g.den) g.positive) w.1,
)

-- ---- the value of a defined objective, by the coordinates that are left
pub signed_above : (s : Sense) (x : Ratio) → pos 0 <ℤ x.bottom → pos 0 <ℤ (signed_ratio s x).bottom
signed_above Min x h = h
signed_above Max x h = h

pub signed_turned : (s : Sense) (x y : Ratio) → SameRatio x (signed_ratio s y) → SameRatio (signed_ratio s x) y
signed_turned Min x y h = h
signed_turned Max x y h = neg_ℤ-*ℤ x.top y.bottom ∙ (ap neg_ℤ h ∙ by_ring (y.top ∷ x.bottom ∷ []) (neg (neg (var 0) ⊗ var 1)) (var 0 ⊗ var 1) refl)

-- two points that are the same have one value
pub value_level : (n : ℤ) (q : Quadratic) (d : ℤ) (xs : List ℤ) (e : ℤ) (ys : List ℤ) → AreSame d xs e ys → SameRatio (ratio (value_squared q d xs) (n *ℤ (d *ℤ d))) (ratio (value_squared q e ys) (n *ℤ (e *ℤ e)))
value_level n q d xs e ys same =
    by_ring (value_squared q d xs ∷ n ∷ (e *ℤ e) ∷ []) (var 0 ⊗ (var 1 ⊗ var 2)) (var 1 ⊗ (var 0 ⊗ var 2)) refl
    ∙ (ap (λ z. n *ℤ z) (quadratic_same q d xs e ys same) ∙ by_ring (value_squared q e ys ∷ n ∷ (d *ℤ d) ∷ []) (var 1 ⊗ (var 0 ⊗ var 2)) (var 0 ⊗ (var 1 ⊗ var 2)) refl)

abbrev pub given_at : ℤ → Block → Purpose → ℤ → List ℤ → Ratio
given_at n (Agent s w vars equs) (goal q) e ys = signed_ratio s (ratio (value_squared q e ys) (n *ℤ (e *ℤ e)))
given_at n (Agent s w vars equs) (flow fs) e ys = ratio (pos 0) (pos 1)
given_at n (Vi zeros pairs equs) f e ys = ratio (pos 0) (pos 1)

given_above : (n : ℤ) (b : Block) (f : Purpose) (e : ℤ) (ys : List ℤ) → pos 0 <ℤ n → pos 0 <ℤ e → pos 0 <ℤ (given_at n b f e ys).bottom
given_above n (Agent s w vars equs) (goal q) e ys p r = signed_above s (ratio (value_squared q e ys) (n *ℤ (e *ℤ e))) (mul_pos n (e *ℤ e) p (mul_pos e e r r))
given_above n (Agent s w vars equs) (flow fs) e ys p r = omega (arith, linear)
given_above n (Vi zeros pairs equs) f e ys p r = omega (arith, linear)

-- ---- one block
module _ (n : ℤ) (m : Model) (a : Annot) (ranges : Ranges) (k : ℕ) (b : Block) (pl : Player) (tied : IsTied n m a ranges k b pl) where
  down : (p r : Point) → Fits m p → IsDeviation m a (block k) p r → Play.IsDeviation ranges pl p.den (left_nums m a p) r.den (left_nums m a r)
  down p r fits d = record {
    fits = left_count m a r ∙ sym (range_count m a ranges tied.ends);
    others = λ i other. agrees i other (cases_lt i (length (left m a)));
    within = λ i own.
        let l = tied.owners.below i own in
        let v = left_at m a i in
        let at = tied.places.at i l in
        let bounds = d.bounds v (get_or m.variables v no_variable) (slice_get-get_or m.variables v no_variable at.0) (sym (tied.owners.owns i l) ∙ own) in
        subst (λ r2. InRange r2 (ratio (cell (left_nums m a r) i) r.den)) (sym (range_is m a ranges i tied.ends l))
        (subst (λ z. InRange (range_of m v) (ratio z r.den)) (sym (left_cell m a r i l)) bounds);
  }
    where
      agrees : (i : ℕ) → TheGame.owns pl i ≡ false → (i < length (left m a)) ⊎ (length (left m a) ≤ i) → cell (left_nums m a r) i *ℤ p.den ≡ cell (left_nums m a p) i *ℤ r.den
      agrees i other (inl l) =
          let at = tied.places.at i l in
          ap (λ z. z *ℤ p.den) (left_cell m a r i l)
          ∙ (d.others (left_at m a i) at.0 (sym (tied.owners.owns i l) ∙ other)
          ∙ ap (λ z. z *ℤ r.den) (sym (left_cell m a p i l)))
      agrees i other (inr l) =
          ap (λ z. z *ℤ p.den) (left_past m a r i l) ∙ (zero-*ℤ p.den ∙ (sym (zero-*ℤ r.den) ∙ ap (λ z. z *ℤ r.den) (sym (left_past m a p i l))))

  -- an own coordinate in the range of the game is in that of its variable
  in_range : (e : ℤ) (ys : List ℤ) (v : ℕ) (x : Variable) → slice_get m.variables v ≡ Some x → owns m a (block k) v ≡ true → is_defined m a v ≡ false → ((i : ℕ) → TheGame.owns pl i ≡ true → InRange (range_at ranges i) (ratio (cell ys i) e)) → InRange (x.low, x.high) (ratio (cell ys (place m a v)) e)
  in_range e ys v x at own is within =
      let i = place m a v in
      let stands = tied.places.placed v (slice_get_within m.variables v x at) is in
      let mine : TheGame.owns pl i ≡ true = tied.owners.owns i stands.0 ∙ (ap (λ u. owns m a (block k) u) stands.1 ∙ own) in
      let range : range_at ranges i ≡ (x.low, x.high) = range_is m a ranges i tied.ends stands.0 ∙ (ap (λ u. range_of m u) stands.1 ∙ ap (λ y. (y.low, y.high)) (get_or_from_slice_get m.variables v x no_variable at)) in
      subst (λ z. InRange z (ratio (cell ys i) e)) range (within i mine)

  -- the coordinates of the file's deviation
  abbrev moves_to : Point → ℤ → List ℤ → ℕ → Ratio
  moves_to p e ys v = cond (is_defined m a v) (cond (owns m a (block k) v) (given_at n b pl.purpose e ys) (coordinate p v)) (ratio (cell ys (place m a v)) e)

  moves_above : (p : Point) (e : ℤ) (ys : List ℤ) (v : ℕ) → pos 0 <ℤ e → pos 0 <ℤ (moves_to p e ys v).bottom
  moves_above p e ys v h =
      cond_both (is_defined m a v) (cond (owns m a (block k) v) (given_at n b pl.purpose e ys) (coordinate p v)) (ratio (cell ys (place m a v)) e) (λ x. pos 0 <ℤ x.bottom)
      (λ is. cond_both (owns m a (block k) v) (given_at n b pl.purpose e ys) (coordinate p v) (λ x. pos 0 <ℤ x.bottom) (λ own. given_above n b pl.purpose e ys tied.positive h) (λ other. p.positive))
      (λ is. h)

  moves_left : (p : Point) (e : ℤ) (ys : List ℤ) (v : ℕ) → is_defined m a v ≡ false → moves_to p e ys v ≡ ratio (cell ys (place m a v)) e
  moves_left p e ys v is = cond-false (is_defined m a v) (cond (owns m a (block k) v) (given_at n b pl.purpose e ys) (coordinate p v)) (ratio (cell ys (place m a v)) e) is

  moves_other : (p : Point) (e : ℤ) (ys : List ℤ) (v : ℕ) → is_defined m a v ≡ true → owns m a (block k) v ≡ false → moves_to p e ys v ≡ coordinate p v
  moves_other p e ys v is own =
      cond-true (is_defined m a v) (cond (owns m a (block k) v) (given_at n b pl.purpose e ys) (coordinate p v)) (ratio (cell ys (place m a v)) e) is
      ∙ cond-false (owns m a (block k) v) (given_at n b pl.purpose e ys) (coordinate p v) own

  moves_own : (p : Point) (e : ℤ) (ys : List ℤ) (v : ℕ) → is_defined m a v ≡ true → owns m a (block k) v ≡ true → moves_to p e ys v ≡ given_at n b pl.purpose e ys
  moves_own p e ys v is own =
      cond-true (is_defined m a v) (cond (owns m a (block k) v) (given_at n b pl.purpose e ys) (coordinate p v)) (ratio (cell ys (place m a v)) e) is
      ∙ cond-true (owns m a (block k) v) (given_at n b pl.purpose e ys) (coordinate p v) own

  -- a point with the value of its objective meets the definition
  meets_definition : (c : Block) (f : Purpose) (r : Point) (e : ℤ) (ys : List ℤ) → slice_get a.blocks k ≡ Some c → IsPurposeOf n m a k c f → Fits m r → pos 0 <ℤ e → AreSame e ys r.den (left_nums m a r) → ((v : ℕ) → v < length m.variables → is_defined m a v ≡ true → owns m a (block k) v ≡ true → SameRatio (coordinate r v) (given_at n c f e ys)) → EachDefinition m a (block k) (λ j q. MeetsEquation r q)
  meets_definition (Agent s w vars equs) (goal q) r e ys at of fits above same given = λ j c there defined.
      let is : objective m a (block k) ≡ Some (s, w.at) = ap block_objective at in
      let l = slice_get_within a.blocks k (Agent s w vars equs) at in
      let mine = defines_own m a k (s, w.at) j is defined in
      let fit = block_fits m a k (Agent s w vars equs) tied.class at in
      let own : owns m a (block k) w.at ≡ true = ap (λ x. block_owns x w.at) at ∙ or_left (nat_eq w.at w.at) (names_variable vars w.at) (eq-eqb w.at w.at refl) in
      let value = value_squared q e ys in
      let there_value = value_squared q r.den (left_nums m a r) in
      let x = signed_ratio s (coordinate r w.at) in
      let turned = signed_turned s (coordinate r w.at) (ratio value (n *ℤ (e *ℤ e))) (given w.at fit.0 (party_defines m a (block k) w.at l mine) own) in
      (tied.values.given (block k) s w.at q r l is of fits).1
      (cross_on x.top x.bottom value (n *ℤ (e *ℤ e)) there_value (n *ℤ (r.den *ℤ r.den)) (mul_pos n (e *ℤ e) tied.positive (mul_pos e e above above)) turned (value_level n q e ys r.den (left_nums m a r) same))
      j c there defined
  meets_definition (Agent s w vars equs) (flow fs) r e ys at of fits above same given = absurd of
  meets_definition (Vi zeros pairs equs) f r e ys at of fits above same given = λ j c there defined.
      absurd (false≢true (sym (ap (λ o. defines_by m a (block k) j (block_objective o)) at) ∙ defined))

  abbrev Moved : Point → ℤ → List ℤ → Type 0
  Moved p e ys = HasCoordinates (moves_to p e ys) (length m.variables) e

  moved_left : (p : Point) (e : ℤ) (ys : List ℤ) (c : Moved p e ys) (v : ℕ) → v < length m.variables → is_defined m a v ≡ false → cell c.point.nums v *ℤ e ≡ cell ys (place m a v) *ℤ c.point.den
  moved_left p e ys c v l is = subst (λ x. SameRatio (coordinate c.point v) x) (moves_left p e ys v is) (c.each v l)

  moved_cell : (p : Point) (e : ℤ) (ys : List ℤ) (c : Moved p e ys) (i : ℕ) → pos 0 <ℤ e → i < length (left m a) → cell (left_nums m a c.point) i ≡ c.times *ℤ cell ys i
  moved_cell p e ys c i above l =
      let v = left_at m a i in
      let at = tied.places.at i l in
      let here : cell c.point.nums v *ℤ e ≡ cell ys i *ℤ (c.times *ℤ e) = moved_left p e ys c v at.0 at.1 ∙ ap₂ (λ j z. cell ys j *ℤ z) at.2 c.den in
      left_cell m a c.point i l
      ∙ cancel_right (cell c.point.nums v) (c.times *ℤ cell ys i) e (here ∙ by_ring (cell ys i ∷ c.times ∷ e ∷ []) (var 0 ⊗ (var 1 ⊗ var 2)) (var 1 ⊗ var 0 ⊗ var 2) refl) above

  moved_nums : (p : Point) (e : ℤ) (ys : List ℤ) (c : Moved p e ys) → pos 0 <ℤ e → length ys ≡ length (left m a) → left_nums m a c.point ≡ scale c.times ys
  moved_nums p e ys c above count =
      ext_get_or (pos 0) (left_nums m a c.point) (scale c.times ys) (left_count m a c.point ∙ (sym count ∙ sym (length-scale c.times ys)))
      (λ i l. moved_cell p e ys c i above (let s = left_count m a c.point in omega arith) ∙ sym (cell-scale c.times ys i))

  up : (p : Point) (e : ℤ) (ys : List ℤ) → Fits m p → pos 0 <ℤ e → Play.IsDeviation ranges pl p.den (left_nums m a p) e ys → Deviates m a k p e ys
  up p e ys fits above d = record {
    point = r;
    deviation = record {
      fits = c.count;
      others = λ v l other. agrees v l other (cases_Bool (is_defined m a v));
      bounds = λ v x at own. within v x at own (cases_Bool (is_defined m a v));
      definition = meets_definition b pl.purpose r e ys tied.there tied.player.purpose c.count above (scaled_same c.times e ys r.den (left_nums m a r) c.den nums) (λ v l is own. subst (λ x. SameRatio (coordinate r v) x) (moves_own p e ys v is own) (c.each v l));
    };
    times = c.times;
    positive = c.positive;
    den = c.den;
    nums = nums;
  }
    where
      c : Moved p e ys
      c = with_coordinates (moves_to p e ys) (length m.variables) e above (λ v l. moves_above p e ys v above)

      r : Point
      r = c.point

      nums : left_nums m a r ≡ scale c.times ys
      nums = moved_nums p e ys c above (d.fits ∙ range_count m a ranges tied.ends)

      agrees : (v : ℕ) → v < length m.variables → owns m a (block k) v ≡ false → (is_defined m a v ≡ true) ⊎ (is_defined m a v ≡ false) → SameRatio (coordinate r v) (coordinate p v)
      agrees v l other (inl is) = subst (λ x. SameRatio (coordinate r v) x) (moves_other p e ys v is other) (c.each v l)
      agrees v l other (inr is) =
          let i = place m a v in
          let at = tied.places.placed v l is in
          let mine : TheGame.owns pl i ≡ false = tied.owners.owns i at.0 ∙ (ap (λ u. owns m a (block k) u) at.1 ∙ other) in
          cross_on (cell r.nums v) r.den (cell ys i) e (cell p.nums v) p.den above (moved_left p e ys c v l is) (d.others i mine ∙ ap (λ z. z *ℤ e) (placed_cell m a p v tied.places l is))

      within : (v : ℕ) (x : Variable) → slice_get m.variables v ≡ Some x → owns m a (block k) v ≡ true → (is_defined m a v ≡ true) ⊎ (is_defined m a v ≡ false) → MeetsBounds r v x
      within v x at own (inl is) =
          defined_unbound m a (block k) v x (coordinate r v) (tied.places.own (block k) v (slice_get_within a.blocks k b tied.there) (slice_get_within m.variables v x at) own is) at
      within v x at own (inr is) =
          let i = place m a v in
          let l = slice_get_within m.variables v x at in
          range_same (x.low, x.high) (ratio (cell ys i) e) (coordinate r v) (record { left = above; right = r.positive; same = sym (moved_left p e ys c v l is) })
          (in_range e ys v x at own is d.within)

  -- a point that meets the definition is a deviation of itself where its coordinates are
  pub itself_up : (p : Point) → Fits m p → EachDefinition m a (block k) (λ e q. MeetsEquation p q) → Play.IsDeviation ranges pl p.den (left_nums m a p) p.den (left_nums m a p) → IsDeviation m a (block k) p p
  itself_up p fits definition d = record { fits = fits; others = λ v l other. refl; bounds = λ v x at own. within v x at own (cases_Bool (is_defined m a v)); definition = definition }
    where
      within : (v : ℕ) (x : Variable) → slice_get m.variables v ≡ Some x → owns m a (block k) v ≡ true → (is_defined m a v ≡ true) ⊎ (is_defined m a v ≡ false) → MeetsBounds p v x
      within v x at own (inl is) =
          defined_unbound m a (block k) v x (coordinate p v) (tied.places.own (block k) v (slice_get_within a.blocks k b tied.there) (slice_get_within m.variables v x at) own is) at
      within v x at own (inr is) =
          subst (λ z. InRange (x.low, x.high) (ratio z p.den)) (placed_cell m a p v tied.places (slice_get_within m.variables v x at) is) (in_range p.den (left_nums m a p) v x at own is d.within)

  pub deviations : Deviations m a ranges k pl
  deviations = record { down = down; up = up }
