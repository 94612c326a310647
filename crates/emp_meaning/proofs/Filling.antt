-- Each point of the variables that are left is that of a point that meets the definitions: a defined objective gets the value of
-- its polynomial.
use Rattle.std.proofs.Common.{◌≡◌, ℕ, ◌<◌, ℤ, pos, ◌*ℤ◌, ◌<ℤ◌, true, false, cond, nat_eq, List, [], ◌∷◌, map, length, slice_index_or, Option, Some, None, arith, refl, sym, ap, ap₂, subst, ◌∙◌}
use Rattle.std.specs.Prelude.{slice_get, ◌&&◌}
use Rattle.std.proofs.lemmas.Int.{ints}
use Rattle.std.proofs.lemmas.Bool.{eq-eqb, and_from, and_parts, false≢true, cond-true, cond-false, cond_both}
use Rattle.std.proofs.lemmas.Option.{same_Some}
use Rattle.std.proofs.lemmas.List.{length-map, ext_get_or, get_or-map}
use Rattle.std.proofs.lemmas.List.Elements.{All-map}
use lib.IntN.{*ℤ_comm}
use Rattle.emp_algebra.specs.Vector.{cell, scale}
use Rattle.emp_algebra.proofs.Laws.{mul_pos}
use Rattle.emp_algebra.proofs.Order.{cancel_right}
use Rattle.emp_algebra.proofs.Ring.{var, ◌⊗◌, by_ring}
use Rattle.emp_algebra.proofs.Vectors.{length-scale, cell-scale}
use Rattle.emp_num.specs.Ratio.{Ratio, ratio, SameRatio}
use Rattle.emp_num.specs.Point.{Point, coordinate}
use Rattle.emp_num.proofs.SamePoints.{cross_on}
use Rattle.emp_systems.specs.Steps.{Quadratic, value_squared}
use Rattle.emp_ast.specs.declared.tree.VarId.{VarId}
use Rattle.emp_ast.specs.declared.model.Sense.{Sense}
use Rattle.emp_ast.specs.declared.model.Sense.TheVariants.{Min, Max}
use Rattle.emp_ast.specs.declared.model.Model.{Model}
use Rattle.emp_ast.specs.declared.annot.Block.{Block}
use Rattle.emp_ast.specs.declared.annot.Block.TheVariants.{Agent, Vi}
use Rattle.emp_ast.specs.declared.annot.Annot.{Annot}
use Rattle.emp_ast.specs.Meets.{MeetsEquation}
use Rattle.emp_ast.specs.Parties.{Party, leader, block, equations, objective, block_objective, goal_objective, can_define, has_alone, defines_by, defines, is_defined_by, is_defined_of, is_defined, EachDefinition}
use Rattle.emp_form.specs.Form.{Form}
use Rattle.emp_left.specs.Left.{upper, quadratic_left}
use Rattle.emp_agents.specs.Given.{given_for, given_form, definition}
use Rattle.emp_agents.proofs.Given.{given_den}
use Rattle.emp_problem.specs.Left.{left, place, signed, signed_for, goal_form}
use Rattle.emp_problem.specs.GameOf.{IsQuadraticOf}
use Rattle.emp_problem.specs.Class.{IsClassFile}
use Rattle.emp_meaning.specs.Laws.{left_nums, Filled}
use Rattle.emp_meaning.specs.Ties.{left_at, IsParty, Places, signed_ratio, Values}
use Rattle.emp_meaning.proofs.MovePoints.{HasCoordinates, with_coordinates}
use Rattle.emp_meaning.proofs.Move.{block_fits, scaled_same, left_count, left_cell, named_passes, defines_own}
use Rattle.emp_meaning.proofs.Places.{party_defines}
use Rattle.emp_meaning.proofs.Deviations.{signed_above, signed_turned, value_level}
use Rattle.emp_meaning.proofs.TieForms.{row_of_map}
use Rattle.emp_meaning.proofs.FillOwners.{chosen, chosen_is}

-- ---- the quadratic of a form, times its den
comm_map : (f : ℕ → ℤ) (vs : List ℕ) (d : ℤ) (i : ℕ) → i < length vs → cell (map f vs) i *ℤ d ≡ d *ℤ f (slice_index_or vs i 0)
comm_map f vs d i l = ap (λ z. z *ℤ d) (get_or-map f vs i 0 (pos 0) l) ∙ *ℤ_comm (f (slice_index_or vs i 0)) d

pub quadratic_of : (vs : List ℕ) (f : Form) → IsQuadraticOf f.den vs f (quadratic_left vs f)
quadratic_of vs f = record {
  count = length-map vs f.linear;
  constant = *ℤ_comm f.constant f.den;
  each = comm_map f.linear vs f.den;
  rows = length-map vs (λ u. map (λ v. upper f.square u v) vs);
  widths = All-map (λ r. length r ≡ length vs) (λ u. map (λ v. upper f.square u v) vs) vs (λ i d l. length-map vs (λ v. upper f.square (slice_index_or vs i d) v));
  products = λ i j k l.
      ap (λ r. cell r j *ℤ f.den) (row_of_map (λ u. map (λ v. upper f.square u v) vs) vs i k)
      ∙ comm_map (λ v. upper f.square (slice_index_or vs i 0) v) vs f.den j l;
}

-- ---- objectives
signed_den : (s : Sense) (f : Form) → (signed s f).den ≡ f.den
signed_den Min f = refl
signed_den Max f = refl

pub goal_den : (m : Model) (a : Annot) (k : Party) → IsClassFile m a → pos 0 <ℤ (goal_form m a k).den
goal_den m a k class = go (objective m a k) refl
  where
    go : (o : Option (Sense × ℕ)) → objective m a k ≡ o → pos 0 <ℤ (goal_form m a k).den
    go None o = subst (λ (w : Option (Sense × ℕ)). pos 0 <ℤ (signed_for w (given_for w (definition m a k))).den) (sym o) (omega (arith, ints))
    go (Some w) o =
        subst (λ (z : ℤ). pos 0 <ℤ z) (sym (ap (λ x. (signed_for x (given_form m a k)).den) o ∙ signed_den w.0 (given_form m a k)))
        (given_den m a k w o (λ e q at def. class.expanded e q at))

-- what an equation of the party defines is its defined objective
defines_party : (m : Model) (a : Annot) (k : Party) (w : Sense × ℕ) (e : ℕ) → objective m a k ≡ Some w → defines m a k e ≡ true → is_defined_of m a k w.1 ≡ true
defines_party m a (block k) w e is h = defines_own m a k w e is h
defines_party m a leader w e is h =
    let by : (can_define m a e w.1 && has_alone m a leader e) ≡ true = subst (λ o. defines_by m a leader e o ≡ true) is h in
    let named = (and_parts (can_define m a e w.1) (has_alone m a leader e) by).1 in
    let some = named_passes (λ i. defines m a leader i) (equations m a leader) e named h in
    subst (λ o. is_defined_by m a leader w.1 o ≡ true) (sym is) (and_from (nat_eq w.1 w.1) _ (eq-eqb w.1 w.1 refl) some)

-- an objective is a variable of the model
pub objective_within : (m : Model) (a : Annot) (k : Party) (w : Sense × ℕ) → IsClassFile m a → objective m a k ≡ Some w → w.1 < length m.variables
objective_within m a leader w class is = go m.goal refl
  where
    go : (o : Option (Sense × VarId)) → m.goal ≡ o → w.1 < length m.variables
    go None found = absurd (let none : None ≡ Some w = sym (ap goal_objective found) ∙ is in cc)
    go (Some g) found =
        let here : Some (g.0, g.1.at) ≡ Some w = sym (ap goal_objective found) ∙ is in
        let fits : g.1.at < length m.variables = simp found at class.goal in
        subst (λ (p : Sense × ℕ). p.1 < length m.variables) (same_Some (g.0, g.1.at) w here) fits
objective_within m a (block k) w class is = go (slice_get a.blocks k) refl
  where
    go : (o : Option Block) → slice_get a.blocks k ≡ o → w.1 < length m.variables
    go None at = absurd (let none : None ≡ Some w = sym (ap block_objective at) ∙ is in cc)
    go (Some (Vi zeros pairs equs)) at = absurd (let none : None ≡ Some w = sym (ap block_objective at) ∙ is in cc)
    go (Some (Agent s x vars equs)) at =
        let here : Some (s, x.at) ≡ Some w = sym (ap block_objective at) ∙ is in
        subst (λ (p : Sense × ℕ). p.1 < length m.variables) (same_Some (s, x.at) w here) (block_fits m a k (Agent s x vars equs) class at).0

-- ---- values
abbrev signed_by : Option (Sense × ℕ) → Ratio → Ratio
signed_by (Some w) x = signed_ratio w.0 x
signed_by None x = x

signed_by_above : (o : Option (Sense × ℕ)) (x : Ratio) → pos 0 <ℤ x.bottom → pos 0 <ℤ (signed_by o x).bottom
signed_by_above (Some w) x h = signed_above w.0 x h
signed_by_above None x h = h

module _ (m : Model) (a : Annot) (class : IsClassFile m a) (places : Places m a) (values : (n : ℤ) → pos 0 <ℤ n → Values n m a) where
  abbrev goal_of : Party → Quadratic
  goal_of k = quadratic_left (left m a) (goal_form m a k)

  abbrev value_over : Party → ℤ → List ℤ → Ratio
  value_over k d xs = ratio (value_squared (goal_of k) d xs) ((goal_form m a k).den *ℤ (d *ℤ d))

  over_above : (k : Party) (d : ℤ) (xs : List ℤ) → pos 0 <ℤ d → pos 0 <ℤ (value_over k d xs).bottom
  over_above k d xs h = mul_pos (goal_form m a k).den (d *ℤ d) (goal_den m a k class) (mul_pos d d h h)

  -- the value of the party's objective
  abbrev given_value : Party → ℤ → List ℤ → Ratio
  given_value k d xs = signed_by (objective m a k) (value_over k d xs)

  abbrev party_of : ℕ → Party
  party_of v = chosen m a v (length a.blocks)

  abbrev fraction : ℤ → List ℤ → ℕ → Ratio
  fraction d xs v = cond (is_defined m a v) (given_value (party_of v) d xs) (ratio (cell xs (place m a v)) d)

  fraction_above : (d : ℤ) (xs : List ℤ) (v : ℕ) → pos 0 <ℤ d → pos 0 <ℤ (fraction d xs v).bottom
  fraction_above d xs v h =
      cond_both (is_defined m a v) (given_value (party_of v) d xs) (ratio (cell xs (place m a v)) d) (λ (x : Ratio). pos 0 <ℤ x.bottom)
      (λ is. signed_by_above (objective m a (party_of v)) (value_over (party_of v) d xs) (over_above (party_of v) d xs h))
      (λ is. h)

  fraction_left : (d : ℤ) (xs : List ℤ) (v : ℕ) → is_defined m a v ≡ false → fraction d xs v ≡ ratio (cell xs (place m a v)) d
  fraction_left d xs v is = cond-false (is_defined m a v) (given_value (party_of v) d xs) (ratio (cell xs (place m a v)) d) is

  fraction_given : (d : ℤ) (xs : List ℤ) (k : Party) (s : Sense) (v : ℕ) → IsParty a k → v < length m.variables → objective m a k ≡ Some (s, v) → is_defined_of m a k v ≡ true → fraction d xs v ≡ signed_ratio s (value_over k d xs)
  fraction_given d xs k s v party l is h =
      cond-true (is_defined m a v) (given_value (party_of v) d xs) (ratio (cell xs (place m a v)) d) (party_defines m a k v party h)
      ∙ (ap (λ j. given_value j d xs) (chosen_is m a k v class.kept l party h) ∙ ap (λ o. signed_by o (value_over k d xs)) is)

  -- ---- the point
  abbrev Full : ℤ → List ℤ → Type 0
  Full d xs = HasCoordinates (fraction d xs) (length m.variables) d

  full_cell : (d : ℤ) (xs : List ℤ) (c : Full d xs) (i : ℕ) → pos 0 <ℤ d → i < length (left m a) → cell (left_nums m a c.point) i ≡ c.times *ℤ cell xs i
  full_cell d xs c i above l =
      let v = left_at m a i in
      let at = places.at i l in
      let same : cell c.point.nums v *ℤ d ≡ cell xs (place m a v) *ℤ c.point.den = subst (λ x. SameRatio (coordinate c.point v) x) (fraction_left d xs v at.1) (c.each v at.0) in
      let here : cell c.point.nums v *ℤ d ≡ cell xs i *ℤ (c.times *ℤ d) = same ∙ ap₂ (λ j z. cell xs j *ℤ z) at.2 c.den in
      left_cell m a c.point i l
      ∙ cancel_right (cell c.point.nums v) (c.times *ℤ cell xs i) d (here ∙ by_ring (cell xs i ∷ c.times ∷ d ∷ []) (var 0 ⊗ (var 1 ⊗ var 2)) (var 1 ⊗ var 0 ⊗ var 2) refl) above

  full_nums : (d : ℤ) (xs : List ℤ) (c : Full d xs) → pos 0 <ℤ d → length xs ≡ length (left m a) → left_nums m a c.point ≡ scale c.times xs
  full_nums d xs c above count =
      ext_get_or (pos 0) (left_nums m a c.point) (scale c.times xs) (left_count m a c.point ∙ (sym count ∙ sym (length-scale c.times xs)))
      (λ i l. full_cell d xs c i above (let s = left_count m a c.point in omega arith) ∙ sym (cell-scale c.times xs i))

  meets : (d : ℤ) (xs : List ℤ) (c : Full d xs) → pos 0 <ℤ d → length xs ≡ length (left m a) → (k : Party) → IsParty a k → EachDefinition m a k (λ e q. MeetsEquation c.point q)
  meets d xs c above count k party = go (objective m a k) refl
    where
      p : Point
      p = c.point

      n : ℤ
      n = (goal_form m a k).den

      by_value : (s : Sense) (w : ℕ) → objective m a k ≡ Some (s, w) → SameRatio (coordinate p w) (signed_ratio s (value_over k d xs)) → EachDefinition m a k (λ e q. MeetsEquation p q)
      by_value s w is same =
          let x = signed_ratio s (coordinate p w) in
          let here = value_over k d xs in
          let there = value_over k p.den (left_nums m a p) in
          let turned = signed_turned s (coordinate p w) here same in
          let level = value_level n (goal_of k) d xs p.den (left_nums m a p) (scaled_same c.times d xs p.den (left_nums m a p) c.den (full_nums d xs c above count)) in
          ((values n (goal_den m a k class)).given k s w (goal_of k) p party is (quadratic_of (left m a) (goal_form m a k)) c.count).1
          (cross_on x.top x.bottom here.top here.bottom there.top there.bottom (over_above k d xs above) turned level)

      go : (o : Option (Sense × ℕ)) → objective m a k ≡ o → EachDefinition m a k (λ e q. MeetsEquation p q)
      go None o = λ e q at h. absurd (false≢true (sym (ap (λ x. defines_by m a k e x) o) ∙ h))
      go (Some w) o = λ e q at h.
          let l = objective_within m a k w class o in
          let is = defines_party m a k w e o h in
          by_value w.0 w.1 o (subst (λ x. SameRatio (coordinate p w.1) x) (fraction_given d xs k w.0 w.1 party l o is) (c.each w.1 l)) e q at h

  pub fills : (d : ℤ) (xs : List ℤ) → pos 0 <ℤ d → length xs ≡ length (left m a) → Filled m a d xs
  fills d xs above count = record {
    point = c.point;
    fits = c.count;
    definitions = record { blocks = λ k l. meets d xs c above count (block k) l; leads = λ bilevel. meets d xs c above count leader bilevel };
    times = c.times;
    positive = c.positive;
    den = c.den;
    nums = full_nums d xs c above count;
  }
    where
      c : Full d xs
      c = with_coordinates (fraction d xs) (length m.variables) d above (λ v l. fraction_above d xs v above)
