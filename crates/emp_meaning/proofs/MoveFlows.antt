-- The flow of a variational inequality at a point of the file is the dot product of the game's flow row.
use Rattle.std.proofs.Common.{◌≡◌, ◌⊎◌, inl, inr, ℕ, ◌<◌, ℤ, pos, ◌+ℤ◌, ◌*ℤ◌, ◌<ℤ◌, true, false, not, nat_eq, List, [], ◌∷◌, ◌++◌, All, map, length, get_or, Some, None, arith, refl, sym, ap, ap₂, subst, ◌∙◌}
use Rattle.std.specs.Prelude.{slice_get, option_map}
use Rattle.std.specs.List.{list_any}
use Rattle.std.proofs.lemmas.Int.{ints}
use Rattle.std.proofs.lemmas.Bool.{eq-eqb, or_right, false≢true, cases_Bool}
use Rattle.std.proofs.lemmas.List.{map-append}
use Rattle.std.proofs.lemmas.List.Elements.{All-head, All-tail, All-get_or, All-from_get_or}
use Rattle.std.proofs.lemmas.List.Folds.{list_any_at}
use Rattle.std.proofs.lemmas.Option.{slice_get_within, get_or_from_slice_get}
use lib.IntN.{zero-*ℤ}
use Rattle.emp_algebra.specs.Vector.{cell, dot, add_rows}
use Rattle.emp_algebra.proofs.Laws.{mul_pos}
use Rattle.emp_algebra.proofs.Ring.{var, lit, ◌⊕◌, ◌⊗◌, by_ring}
use Rattle.emp_algebra.proofs.Vectors.{dot-add_rows, dot-zeros}
use Rattle.emp_num.specs.Ratio.{Ratio, ratio, plus, times}
use Rattle.emp_num.specs.Point.{Point}
use Rattle.emp_systems.specs.Own.{unit}
use Rattle.emp_systems.proofs.Own.{dot_unit}
use Rattle.emp_ast.specs.declared.tree.VarId.{VarId}
use Rattle.emp_ast.specs.declared.tree.EquId.{EquId}
use Rattle.emp_ast.specs.declared.model.Model.{Model}
use Rattle.emp_ast.specs.declared.annot.Block.{Block}
use Rattle.emp_ast.specs.declared.annot.Block.TheVariants.{Vi}
use Rattle.emp_ast.specs.declared.annot.Annot.{Annot}
use Rattle.emp_ast.specs.Value.{both}
use Rattle.emp_ast.specs.Parties.{block, names_variable, names_equation, functions, block_owns, block_objective, owns, is_defined, is_defined_by, is_defined_of}
use Rattle.emp_ast.specs.Convex.{counted_by, counted}
use Rattle.emp_ast.specs.Rivals.{Fits}
use Rattle.emp_ast.specs.Solved.{gap_by, flow}
use Rattle.emp_ast.specs.SameLaws.{SameFraction}
use Rattle.emp_ast.proofs.Fractions.{fraction_on, fraction_plus, fraction_times}
use Rattle.emp_form.specs.Form.{form_of}
use Rattle.emp_game.specs.Game.{Row, Player, Ranges}
use Rattle.emp_game.specs.Solved.{value_at, flow_row}
use Rattle.emp_owner.proofs.Lists.{vi_owns, vi_functions}
use Rattle.emp_problem.specs.Left.{left, place, equation_form, block_flow}
use Rattle.emp_owner.specs.Rules.{is_function}
use Rattle.emp_problem.specs.GameOf.{IsRowOf, AreFlowsOf}
use Rattle.emp_problem.specs.Class.{some_block_constrains, is_affine}
use Rattle.emp_meaning.specs.Laws.{left_nums}
use Rattle.emp_meaning.proofs.TieLists.{filter_all}
use Rattle.emp_meaning.proofs.Move.{IsTied, block_fits}
use Rattle.emp_meaning.proofs.PriceLists.{there_is}

-- the flow has a value, which is top over bottom
pub record FlowIs (m : Model) (p : Point) (weight : ℕ → Ratio) (pairs : List (EquId × VarId)) (top bottom : ℤ) : Type 0 where
  pub value : Ratio
  pub is : flow m p weight pairs ≡ Some value
  pub same : SameFraction value (ratio top bottom)

-- the function of the pair is affine and there, and its variable is left
pub record PairFits (m : Model) (a : Annot) (q : EquId × VarId) : Type 0 where
  pub equation : q.0.at < length m.equations
  pub affine : is_affine m a q.0.at ≡ true
  pub variable : q.1.at < length m.variables
  pub free : is_defined m a q.1.at ≡ false

-- ---- a function zero
zero_row : (n : ℤ) (vs : List ℕ) (f : Row) (d : ℤ) (xs : List ℤ) → IsRowOf n vs (form_of (pos 0) (pos 1)) f → value_at f d xs ≡ pos 0
zero_row n vs f d xs of =
    let none = λ (z : ℤ) (e : z *ℤ pos 1 ≡ n *ℤ pos 0). (by_ring (z ∷ []) (var 0) (var 0 ⊗ lit (pos 1)) refl ∙ (e ∙ by_ring (n ∷ []) (var 0 ⊗ lit (pos 0)) (lit (pos 0)) refl)) in
    let cells = All-from_get_or (λ z. z ≡ pos 0) f.cells (pos 0) (λ i l. none (cell f.cells i) (of.each i (let c = of.count in omega arith))) in
    ap₂ (λ s t. s *ℤ d +ℤ t) (none f.constant of.constant) (dot-zeros f.cells xs cells) ∙ by_ring (d ∷ []) (lit (pos 0) ⊗ var 0 ⊕ lit (pos 0)) (lit (pos 0)) refl

-- ---- sums
-- two fractions over one bottom
same_bottom : (x y b : ℤ) → pos 0 <ℤ b → SameFraction (plus (ratio x b) (ratio y b)) (ratio (x +ℤ y) b)
same_bottom x y b h = record { left = mul_pos b b h h; right = h; same = by_ring (x ∷ y ∷ b ∷ []) ((var 0 ⊗ var 2 ⊕ var 1 ⊗ var 2) ⊗ var 2) ((var 0 ⊕ var 1) ⊗ (var 2 ⊗ var 2)) refl }

row_first : (i : ℕ) (z : ℤ) (r ws : List ℤ) → dot (add_rows (unit i z) r) ws ≡ z *ℤ cell ws i +ℤ dot r ws
row_first i z r ws = dot-add_rows (unit i z) r ws ∙ ap (λ s. s +ℤ dot r ws) (dot_unit i z ws)

-- ---- lists
map_map : {X Y Z : Type 0} (f : Y → Z) (g : X → Y) (xs : List X) → map f (map g xs) ≡ map (λ x. f (g x)) xs
map_map f g [] = refl
map_map f g (x ∷ xs) = ap (λ ys. f (g x) ∷ ys) (map_map f g xs)

-- ---- one block
module _ (n : ℤ) (m : Model) (a : Annot) (ranges : Ranges) (k : ℕ) (b : Block) (pl : Player) (tied : IsTied n m a ranges k b pl) where
  -- weights that are the numbers ws over b at the variables that are left
  abbrev pub Weighs : (ℕ → Ratio) → List ℤ → ℤ → Type 0
  Weighs weight ws bottom = (v : ℕ) → v < length m.variables → is_defined m a v ≡ false → SameFraction (weight v) (ratio (cell ws (place m a v)) bottom)

  flow_pairs : (p : Point) (weight : ℕ → Ratio) (ws : List ℤ) (bottom : ℤ) (pairs : List (EquId × VarId)) (fs : List Row) → Fits m p → pos 0 <ℤ bottom → Weighs weight ws bottom → All (PairFits m a) pairs → AreFlowsOf n m (left m a) (map (λ q. Some q.0.at) pairs) fs → FlowIs m p weight pairs (dot (flow_row (map (λ q. place m a q.1.at) pairs) fs p.den (left_nums m a p)) ws) (n *ℤ p.den *ℤ bottom)
  flow_pairs p weight ws bottom [] [] fits above weighs each of = record {
    value = ratio (pos 0) (pos 1);
    is = refl;
    same = record { left = omega (arith, ints); right = mul_pos (n *ℤ p.den) bottom (mul_pos n p.den tied.positive p.positive) above; same = zero-*ℤ (n *ℤ p.den *ℤ bottom) ∙ sym (zero-*ℤ (pos 1)) };
  }
  flow_pairs p weight ws bottom [] (f ∷ fs) fits above weighs each of = absurd of
  flow_pairs p weight ws bottom (q ∷ qs) [] fits above weighs each of = absurd of
  flow_pairs p weight ws bottom (q ∷ qs) (f ∷ fs) fits above weighs each of =
      let fit = All-head (PairFits m a) q qs each in
      let found = there_is m.equations q.0.at fit.equation in
      let c = found.0 in
      let rest = flow_pairs p weight ws bottom qs fs fits above weighs (All-tail (PairFits m a) q qs each) of.1 in
      let row = subst (λ o. IsRowOf n (left m a) (equation_form o) f) found.1 of.0 in
      let g = tied.values.gap q.0.at c f p found.1 fit.affine row fits in
      let v = q.1.at in
      let i = place m a v in
      let xs = left_nums m a p in
      let z = value_at f p.den xs in
      let under = n *ℤ p.den *ℤ bottom in
      let below = mul_pos (n *ℤ p.den) bottom (mul_pos n p.den tied.positive p.positive) above in
      let more = dot (flow_row (map (λ q. place m a q.1.at) qs) fs p.den xs) ws in
      let term : SameFraction (times g.value (weight v)) (ratio (z *ℤ cell ws i) under) =
      fraction_times g.value (ratio z (n *ℤ p.den)) (weight v) (ratio (cell ws i) bottom)
      (record { left = g.positive; right = mul_pos n p.den tied.positive p.positive; same = g.same })
      (weighs v fit.variable fit.free) in
      record {
        value = plus (times g.value (weight v)) rest.value;
        is = ap₂ (λ s t. both (λ x y. Some (plus x y)) (option_map (λ h. times h (weight v)) s) t) (ap (λ o. gap_by p o) found.1 ∙ g.is) rest.is;
        same = subst (λ t. SameFraction (plus (times g.value (weight v)) rest.value) (ratio t under)) (sym (row_first i z (flow_row (map (λ q. place m a q.1.at) qs) fs p.den xs) ws))
            (fraction_on (plus (times g.value (weight v)) rest.value) (plus (ratio (z *ℤ cell ws i) under) (ratio more under)) (ratio (z *ℤ cell ws i +ℤ more) under)
            (fraction_plus (times g.value (weight v)) (ratio (z *ℤ cell ws i) under) rest.value (ratio more under) term rest.same)
            (same_bottom (z *ℤ cell ws i) more under below));
      }

  flow_all : (p : Point) (weight : ℕ → Ratio) (ws : List ℤ) (bottom : ℤ) (zeros : List VarId) (pairs : List (EquId × VarId)) (fs : List Row) → Fits m p → pos 0 <ℤ bottom → Weighs weight ws bottom → All (PairFits m a) pairs → AreFlowsOf n m (left m a) (map (λ z. None) zeros ++ map (λ q. Some q.0.at) pairs) fs → FlowIs m p weight pairs (dot (flow_row (map (λ z. place m a z.at) zeros ++ map (λ q. place m a q.1.at) pairs) fs p.den (left_nums m a p)) ws) (n *ℤ p.den *ℤ bottom)
  flow_all p weight ws bottom [] pairs fs fits above weighs each of = flow_pairs p weight ws bottom pairs fs fits above weighs each of
  flow_all p weight ws bottom (z ∷ zeros) pairs [] fits above weighs each of = absurd of
  flow_all p weight ws bottom (z ∷ zeros) pairs (f ∷ fs) fits above weighs each of =
      let rest = flow_all p weight ws bottom zeros pairs fs fits above weighs each of.1 in
      let xs = left_nums m a p in
      let i = place m a z.at in
      let more = flow_row (map (λ z. place m a z.at) zeros ++ map (λ q. place m a q.1.at) pairs) fs p.den xs in
      let same : dot (add_rows (unit i (value_at f p.den xs)) more) ws ≡ dot more ws =
      row_first i (value_at f p.den xs) more ws
      ∙ (ap (λ s. s *ℤ cell ws i +ℤ dot more ws) (zero_row n (left m a) f p.den xs of.0) ∙ by_ring (cell ws i ∷ dot more ws ∷ []) (lit (pos 0) ⊗ var 0 ⊕ var 1) (var 1) refl) in
      record {
        value = rest.value;
        is = rest.is;
        same = subst (λ t. SameFraction rest.value (ratio t (n *ℤ p.den *ℤ bottom))) (sym same) rest.same;
      }

  -- ---- the block's own variables and functions
  no_objective : (zeros : List VarId) (pairs : List (EquId × VarId)) (equs : List EquId) (v : ℕ) → slice_get a.blocks k ≡ Some (Vi zeros pairs equs) → is_defined_of m a (block k) v ≡ false
  no_objective zeros pairs equs v at = ap (λ o. is_defined_by m a (block k) v (block_objective o)) at

  own_places : (zeros : List VarId) (pairs : List (EquId × VarId)) (equs : List EquId) → slice_get a.blocks k ≡ Some (Vi zeros pairs equs) → map (λ v. place m a v.at) (counted m a k) ≡ map (λ z. place m a z.at) zeros ++ map (λ q. place m a q.1.at) pairs
  own_places zeros pairs equs at =
      ap (λ o. map (λ v. place m a v.at) (counted_by m a k o)) at
      ∙ (ap (map (λ v. place m a v.at)) (filter_all (λ v. not (is_defined_of m a (block k) v.at)) (λ v. ap not (no_objective zeros pairs equs v.at at)) (zeros ++ map (λ q. q.1) pairs))
      ∙ (map-append (λ v. place m a v.at) zeros (map (λ q. q.1) pairs) ∙ ap (λ ys. map (λ z. place m a z.at) zeros ++ ys) (map_map (λ v. place m a v.at) (λ q. q.1) pairs)))

  pub pairs_fit : (zeros : List VarId) (pairs : List (EquId × VarId)) (equs : List EquId) → slice_get a.blocks k ≡ Some (Vi zeros pairs equs) → All (PairFits m a) pairs
  pairs_fit zeros pairs equs at = All-from_get_or (PairFits m a) pairs (record { at = 0 }, record { at = 0 }) fit
    where
      none : EquId × VarId
      none = (record { at = 0 }, record { at = 0 })

      fit : (i : ℕ) → i < length pairs → PairFits m a (get_or pairs i none)
      fit i l =
          let q = get_or pairs i none in
          let numbers = All-get_or (λ q. (q.0.at < length m.equations) × (q.1.at < length m.variables)) pairs i none l (block_fits m a k (Vi zeros pairs equs) tied.class at).1 in
          let here = slice_get_within a.blocks k (Vi zeros pairs equs) at in
          let named : names_equation (map (λ q. q.0) pairs) q.0.at ≡ true = vi_functions pairs q.0.at ∙ list_any_at (λ c. nat_eq c.0.at q.0.at) pairs i none l (eq-eqb q.0.at q.0.at refl) in
          let function : is_function a q.0.at ≡ true =
          list_any_at (λ c. names_equation (functions c) q.0.at) a.blocks k (Vi zeros pairs equs) here (ap (λ c. names_equation (functions c) q.0.at) (get_or_from_slice_get a.blocks k (Vi zeros pairs equs) (Vi zeros pairs equs) at) ∙ named) in
          let own : owns m a (block k) q.1.at ≡ true =
          ap (λ o. block_owns o q.1.at) at
          ∙ (vi_owns zeros pairs q.1.at ∙ or_right (names_variable zeros q.1.at) (list_any (λ c. nat_eq c.1.at q.1.at) pairs) (list_any_at (λ c. nat_eq c.1.at q.1.at) pairs i none l (eq-eqb q.1.at q.1.at refl))) in
          record {
            equation = numbers.0;
            affine = or_right (some_block_constrains m a q.0.at (length a.blocks)) _ (or_right _ (is_function a q.0.at) function);
            variable = numbers.1;
            free = free_by (cases_Bool (is_defined m a q.1.at)) numbers.1 here own;
          }
        where
          free_by : {v : ℕ} → (is_defined m a v ≡ true) ⊎ (is_defined m a v ≡ false) → v < length m.variables → k < length a.blocks → owns m a (block k) v ≡ true → is_defined m a v ≡ false
          free_by {v} (inl is) l here own = absurd (false≢true (sym (no_objective zeros pairs equs v at) ∙ tied.places.own (block k) v here l own is))
          free_by {v} (inr is) l here own = is

  pub flow_is : (p : Point) (weight : ℕ → Ratio) (ws : List ℤ) (bottom : ℤ) (zeros : List VarId) (pairs : List (EquId × VarId)) (equs : List EquId) (fs : List Row) → slice_get a.blocks k ≡ Some (Vi zeros pairs equs) → AreFlowsOf n m (left m a) (block_flow (Vi zeros pairs equs)) fs → Fits m p → pos 0 <ℤ bottom → Weighs weight ws bottom → FlowIs m p weight pairs (dot (flow_row pl.own fs p.den (left_nums m a p)) ws) (n *ℤ p.den *ℤ bottom)
  flow_is p weight ws bottom zeros pairs equs fs at of fits above weighs =
      subst (λ own. FlowIs m p weight pairs (dot (flow_row own fs p.den (left_nums m a p)) ws) (n *ℤ p.den *ℤ bottom)) (sym (tied.player.own ∙ own_places zeros pairs equs at))
      (flow_all p weight ws bottom zeros pairs fs fits above weighs (pairs_fit zeros pairs equs at) of)
