-- The image of a point has the point's coordinates and meets the definitions.
use Rattle.std.proofs.Common.{◌≡◌, ◌⊎◌, inl, inr, ℕ, zero, suc, ◌+◌, ◌<◌, ℤ, pos, neg_ℤ, ◌*ℤ◌, ◌<ℤ◌, true, false, cond, nat_eq, nat_lt, List, [], ◌∷◌, map, length, Option, Some, None, arith, refl, sym, ap, subst, ◌∙◌}
use Rattle.std.specs.Prelude.{slice_get, slice_index_or, ◌&&◌}
use Rattle.std.proofs.lemmas.Bool.{cases_Bool, false≢true, cond-true, cond-false, and_from, and_parts, eq-eqb}
use Rattle.std.proofs.lemmas.Option.{same_Some}
use Rattle.std.proofs.lemmas.List.{length-map, ext_get_or}
use Rattle.std.proofs.lemmas.List.Elements.{All-map}
use lib.IntN.{*ℤ-zero, zero-*ℤ}
use Rattle.emp_algebra.specs.Vector.{cell, scale}
use Rattle.emp_algebra.proofs.Ring.{var, neg, ◌⊗◌, by_ring}
use Rattle.emp_algebra.proofs.Vectors.{length-scale, cell-scale}
use Rattle.emp_num.specs.Ratio.{ratio, SameRatio}
use Rattle.emp_num.specs.Point.{Point, coordinate}
use Rattle.emp_systems.specs.Steps.{value_squared}
use Rattle.emp_systems.proofs.Forms.{value-scaled}
use Rattle.emp_ast.specs.declared.tree.VarId.{VarId}
use Rattle.emp_ast.specs.declared.tree.EquId.{EquId}
use Rattle.emp_ast.specs.declared.model.Sense.{Sense}
use Rattle.emp_ast.specs.declared.model.Sense.TheVariants.{Min, Max}
use Rattle.emp_ast.specs.declared.model.Model.{Model}
use Rattle.emp_ast.specs.declared.annot.Block.{Block}
use Rattle.emp_ast.specs.declared.annot.Block.TheVariants.{Agent, Vi}
use Rattle.emp_ast.specs.declared.annot.Annot.{Annot}
use Rattle.emp_ast.specs.Meets.{MeetsEquation}
use Rattle.emp_ast.specs.Parties.{Party, leader, block, equations, objective, block_objective, can_define, has_alone, defines_by, defines, is_defined_by, is_defined, is_defined_of, EachDefinition}
use Rattle.emp_form.specs.Form.{Form, IsLinear}
use Rattle.emp_game.specs.Game.{Purpose, goal, flow, Player}
use Rattle.emp_game.specs.Conditions.{row_of}
use Rattle.emp_split.specs.Games.{Game}
use Rattle.emp_left.specs.Left.{upper}
use Rattle.emp_agents.specs.Given.{given_form}
use Rattle.emp_problem.specs.Left.{left, place, signed_for, goal_form}
use Rattle.emp_problem.specs.Left.{signed as signed_form}
use Rattle.emp_problem.specs.GameOf.{IsQuadraticOf, IsPurposeOf, IsPlayerOf, ArePlayersOf, IsGameOf}
use Rattle.emp_problem.specs.Class.{IsClassFile}
use Rattle.emp_meaning.specs.Laws.{left_nums}
use Rattle.emp_meaning.specs.Ties.{left_at, IsParty, signed_ratio}
use Rattle.emp_meaning.proofs.Move.{left_count, left_cell, named_passes, defines_own}
use Rattle.emp_meaning.proofs.Places.{places, party_defines}
use Rattle.emp_meaning.proofs.Values.{values}
use Rattle.emp_meaning.proofs.Filling.{objective_within}
use Rattle.emp_meaning.proofs.FillOwners.{chosen, chosen_is}
use Rattle.emp_meaning.proofs.Leading.{led}
use Rattle.emp_verdict.specs.Laws.{IsFileOf}
use Rattle.emp_layers.specs.Image.{purpose_goal, player_goal, leader_goal, party_goal, signed, objective_at, number_at, first_values, image_over}

-- ---- first values
pub first_count : (f : ℕ → ℤ) (n : ℕ) → length (first_values f n) ≡ n
first_count f zero = refl
first_count f (suc n) = ap suc (first_count (λ k. f (suc k)) n)

pub first_cell : (f : ℕ → ℤ) (n v : ℕ) → v < n → cell (first_values f n) v ≡ f v
first_cell f zero v l = absurd (omega arith)
first_cell f (suc n) zero l = refl
first_cell f (suc n) (suc v) l = first_cell (λ k. f (suc k)) n v (omega arith)

-- ---- products that are none
none_cell : (vs : List ℕ) (j : ℕ) → cell (map (λ v. pos 0) vs) j ≡ pos 0
none_cell [] j = refl
none_cell (v ∷ vs) zero = refl
none_cell (v ∷ vs) (suc j) = none_cell vs j

none_cells : (vs us : List ℕ) (i j : ℕ) → cell (row_of (map (λ u. map (λ v. pos 0) us) vs) i) j ≡ pos 0
none_cells [] us i j = refl
none_cells (v ∷ vs) us zero j = none_cell us j
none_cells (v ∷ vs) us (suc i) j = none_cells vs us i j

signed_linear : (s : Sense) (f : Form) → IsLinear f → IsLinear (signed_form s f)
signed_linear Min f h = h
signed_linear Max f h = record { square = λ i j k. ap neg_ℤ (h.square i j k) }

no_upper : (f : Form) → IsLinear f → (i j : ℕ) → upper f.square i j ≡ pos 0
no_upper f h i j = go (cases_Bool (nat_lt j i))
  where
    go : (nat_lt j i ≡ true) ⊎ (nat_lt j i ≡ false) → upper f.square i j ≡ pos 0
    go (inl s) = ap (λ b. cond b (pos 0) (f.square i j)) s
    go (inr s) = ap (λ b. cond b (pos 0) (f.square i j)) s ∙ h.square i j (grind (arith))

-- ---- the players of the game
pub players_there : (n : ℤ) (m : Model) (a : Annot) (j : ℕ) (bs : List Block) (pls : List Player) (i k : ℕ) (b : Block) → ArePlayersOf n m a j bs pls → slice_get bs i ≡ Some b → k ≡ j + i → (pl : Player) × (slice_get pls i ≡ Some pl) × IsPlayerOf n m a k b pl
players_there n m a j [] pls i k b h at e = absurd (let none : None ≡ Some b = at in cc)
players_there n m a j (c ∷ bs) [] i k b h at e = absurd h
players_there n m a j (c ∷ bs) (pl ∷ pls) zero k b h at e =
    let same : c ≡ b = same_Some c b at in
    let here : k ≡ j = omega arith in (pl, refl, subst (λ x. IsPlayerOf n m a x b pl) (sym here) (subst (λ x. IsPlayerOf n m a j x pl) same h.0))
players_there n m a j (c ∷ bs) (pl ∷ pls) (suc i) k b h at e = players_there n m a (suc j) bs pls i k b h.1 at (omega arith)

-- what an equation of the party defines is its defined objective
defines_party : (m : Model) (a : Annot) (k : Party) (w : Sense × ℕ) (e : ℕ) → objective m a k ≡ Some w → defines m a k e ≡ true → is_defined_of m a k w.1 ≡ true
defines_party m a (block k) w e is h = defines_own m a k w e is h
defines_party m a leader w e is h =
    let by : (can_define m a e w.1 && has_alone m a leader e) ≡ true = subst (λ o. defines_by m a leader e o ≡ true) is h in
    let some = named_passes (λ i. defines m a leader i) (equations m a leader) e (and_parts (can_define m a e w.1) (has_alone m a leader e) by).1 h in
    subst (λ o. is_defined_by m a leader w.1 o ≡ true) (sym is) (and_from (nat_eq w.1 w.1) _ (eq-eqb w.1 w.1 refl) some)

-- ---- the sign
-- the opposite of the opposite
signed_back : (s : Sense) (w : ℕ) (v d : ℤ) → signed_ratio s (ratio (signed (Some (s, w)) v) d) ≡ ratio v d
signed_back Min w v d = refl
signed_back Max w v d = ap (λ z. ratio z d) (by_ring (v ∷ []) (neg (neg (var 0))) (var 0) refl)

module _ (n : ℤ) (m : Model) (a : Annot) (g : Game) (class : IsClassFile m a) (is : IsGameOf n m a g) where
  -- ---- the goals are those of the file
  leader_is : (s : Sense) (w : ℕ) → a.bilevel ≡ true → objective m a leader ≡ Some (s, w) → IsQuadraticOf n (left m a) (goal_form m a leader) (party_goal (left m a) g leader)
  leader_is s w bilevel o =
      let x = led n m a g bilevel is.leads in
      subst (λ l. IsQuadraticOf n (left m a) (goal_form m a leader) (leader_goal (left m a) l)) (sym x.at) (record {
        count = x.is.goal.count;
        constant = x.is.goal.constant;
        each = x.is.goal.each;
        rows = length-map (left m a) (λ u. map (λ v. pos 0) (left m a));
        widths = All-map (λ r. length r ≡ length (left m a)) (λ u. map (λ v. pos 0) (left m a)) (left m a) (λ i d k. length-map (left m a) (λ v. pos 0));
        products = λ i j k r.
            let f = goal_form m a leader in
            let linear : IsLinear f = subst (λ x. IsLinear (signed_for x (given_form m a leader))) (sym o) (signed_linear s (given_form m a leader) (class.leads bilevel)) in
            ap (λ z. z *ℤ f.den) (none_cells (left m a) (left m a) i j) ∙ (zero-*ℤ f.den ∙ sym (ap (λ z. n *ℤ z) (no_upper f linear (slice_index_or (left m a) i 0) (slice_index_or (left m a) j 0)) ∙ *ℤ-zero n));
      })

  block_is : (k : ℕ) (s : Sense) (w : ℕ) → objective m a (block k) ≡ Some (s, w) → IsQuadraticOf n (left m a) (goal_form m a (block k)) (party_goal (left m a) g (block k))
  block_is k s w o = go (slice_get a.blocks k) refl
    where
      Is : Option Player → Type 0
      Is p = IsQuadraticOf n (left m a) (goal_form m a (block k)) (player_goal p)

      purpose : (sense : Sense) (target : VarId) (vars : List VarId) (equs : List EquId) (pl : Player) → IsPurposeOf n m a k (Agent sense target vars equs) pl.purpose → Is (Some pl)
      purpose sense target vars equs pl h = by_purpose pl.purpose refl
        where
          by_purpose : (p : Purpose) → pl.purpose ≡ p → Is (Some pl)
          by_purpose (goal q) e = subst (λ x. IsQuadraticOf n (left m a) (goal_form m a (block k)) (purpose_goal x)) (sym e) (subst (λ x. IsPurposeOf n m a k (Agent sense target vars equs) x) e h)
          by_purpose (flow fs) e = absurd (subst (λ x. IsPurposeOf n m a k (Agent sense target vars equs) x) e h)

      by_block : (b : Block) → slice_get a.blocks k ≡ Some b → block_objective (Some b) ≡ Some (s, w) → Is (slice_get g.players k)
      by_block (Vi zeros pairs equs) at found = absurd (let none : None ≡ Some (s, w) = found in cc)
      by_block (Agent sense target vars equs) at found =
          let t = players_there n m a 0 a.blocks g.players k k (Agent sense target vars equs) is.players at (omega arith) in
          subst Is (sym t.1) (purpose sense target vars equs t.0 t.2.purpose)

      go : (o' : Option Block) → slice_get a.blocks k ≡ o' → Is (slice_get g.players k)
      go None at = absurd (let none : None ≡ Some (s, w) = sym (ap block_objective at) ∙ o in cc)
      go (Some b) at = by_block b at (sym (ap block_objective at) ∙ o)

  goal_is : (k : Party) (s : Sense) (w : ℕ) → IsParty a k → objective m a k ≡ Some (s, w) → IsQuadraticOf n (left m a) (goal_form m a k) (party_goal (left m a) g k)
  goal_is leader s w party o = leader_is s w party o
  goal_is (block k) s w party o = block_is k s w o

  -- ---- numbers
  module _ (above : pos 0 <ℤ n) (p : Point) where
    abbrev d : ℤ
    d = p.den

    abbrev xs : List ℤ
    xs = p.nums

    abbrev q : Point
    q = image_over n above m a g p

    number_left : (v : ℕ) → is_defined m a v ≡ false → number_at n m a g d xs v ≡ n *ℤ d *ℤ cell xs (place m a v)
    number_left v free = cond-false (is_defined m a v) (objective_at m a g d xs (chosen m a v (length a.blocks))) (n *ℤ d *ℤ cell xs (place m a v)) free

    number_given : (k : Party) (s : Sense) (v : ℕ) → IsParty a k → v < length m.variables → objective m a k ≡ Some (s, v) → is_defined_of m a k v ≡ true → number_at n m a g d xs v ≡ signed (Some (s, v)) (value_squared (party_goal (left m a) g k) d xs)
    number_given k s v party l o h =
        cond-true (is_defined m a v) (objective_at m a g d xs (chosen m a v (length a.blocks))) (n *ℤ d *ℤ cell xs (place m a v)) (party_defines m a k v party h)
        ∙ (ap (objective_at m a g d xs) (chosen_is m a k v class.kept l party h) ∙ ap (λ w. signed w (value_squared (party_goal (left m a) g k) d xs)) o)

    left_number : (i : ℕ) → i < length (left m a) → cell q.nums (left_at m a i) ≡ n *ℤ d *ℤ cell xs i
    left_number i l =
        let at = (places m a class).at i l in
        first_cell (number_at n m a g d xs) (length m.variables) (left_at m a i) at.0 ∙ (number_left (left_at m a i) at.1 ∙ ap (λ j. n *ℤ d *ℤ cell xs j) at.2)

    pub image_nums : length xs ≡ length (left m a) → left_nums m a q ≡ scale (n *ℤ d) xs
    image_nums count =
        ext_get_or (pos 0) (left_nums m a q) (scale (n *ℤ d) xs) (left_count m a q ∙ (sym count ∙ sym (length-scale (n *ℤ d) xs)))
        (λ i l. let here : i < length (left m a) = (let s = left_count m a q in omega arith) in left_cell m a q i here ∙ (left_number i here ∙ sym (cell-scale (n *ℤ d) xs i)))

    meets : length xs ≡ length (left m a) → (k : Party) → IsParty a k → EachDefinition m a k (λ e c. MeetsEquation q c)
    meets count k party = go (objective m a k) refl
      where
        given : (s : Sense) (w : ℕ) → objective m a k ≡ Some (s, w) → w < length m.variables → is_defined_of m a k w ≡ true → EachDefinition m a k (λ e c. MeetsEquation q c)
        given s w o l h =
            let r = party_goal (left m a) g k in
            let v = value_squared r d xs in
            let top : cell q.nums w ≡ signed (Some (s, w)) v = first_cell (number_at n m a g d xs) (length m.variables) w l ∙ number_given k s w party l o h in
            let turned : signed_ratio s (coordinate q w) ≡ ratio v q.den = ap (λ z. signed_ratio s (ratio z q.den)) top ∙ signed_back s w v q.den in
            let grown : value_squared r q.den (left_nums m a q) ≡ n *ℤ d *ℤ (n *ℤ d) *ℤ v = ap (value_squared r q.den) (image_nums count) ∙ value-scaled r d xs (n *ℤ d) in
            let same : SameRatio (ratio v q.den) (ratio (value_squared r q.den (left_nums m a q)) (n *ℤ (q.den *ℤ q.den))) =
            by_ring (n ∷ d ∷ v ∷ []) (var 2 ⊗ (var 0 ⊗ (var 0 ⊗ var 1 ⊗ var 1 ⊗ (var 0 ⊗ var 1 ⊗ var 1)))) (var 0 ⊗ var 1 ⊗ (var 0 ⊗ var 1) ⊗ var 2 ⊗ (var 0 ⊗ var 1 ⊗ var 1)) refl ∙ ap (λ z. z *ℤ q.den) (sym grown) in
            ((values n m a class is.positive).given k s w r q party o (goal_is k s w party o) (first_count (number_at n m a g d xs) (length m.variables))).1
            (subst (λ x. SameRatio x (ratio (value_squared r q.den (left_nums m a q)) (n *ℤ (q.den *ℤ q.den)))) (sym turned) same)

        go : (o : Option (Sense × ℕ)) → objective m a k ≡ o → EachDefinition m a k (λ e c. MeetsEquation q c)
        go None o = λ e c at h. absurd (false≢true (sym (ap (λ x. defines_by m a k e x) o) ∙ h))
        go (Some w) o = λ e c at h. given w.0 w.1 o (objective_within m a k w class o) (defines_party m a k w e o h) e c at h

    pub over_is_file : length xs ≡ length (left m a) → IsFileOf m a p q
    over_is_file count = record {
      fits = first_count (number_at n m a g d xs) (length m.variables);
      definitions = record { blocks = λ k l. meets count (block k) l; leads = λ bilevel. meets count leader bilevel };
      same = λ i l. ap (λ z. z *ℤ d) (left_number i l) ∙ by_ring (n ∷ d ∷ cell xs i ∷ []) (var 0 ⊗ var 1 ⊗ var 2 ⊗ var 1) (var 2 ⊗ (var 0 ⊗ var 1 ⊗ var 1)) refl;
    }
