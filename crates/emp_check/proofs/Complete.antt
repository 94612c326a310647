-- A tree that shows none or best is never refused: it is accepted, or a number formed in its tests is wide.
use Rattle.std.proofs.Common.{◌≡◌, inl, inr, ℕ, zero, suc, ◌+◌, Bool, true, false, cond, ℤ, pos, negsuc, ◌+ℤ◌, ◌-ℤ◌, ◌*ℤ◌, ◌<ℤ◌, ◌≤ℤ◌, List, [], ◌∷◌, ◌++◌, length, map, Option, Some, None, All, append_assoc, arith, refl, sym, ap, ap₂, ◌∙◌, subst}
use Rattle.std.proofs.lemmas.Int.{ints}
use Rattle.std.proofs.lemmas.List.{append-nil}
use Rattle.std.proofs.lemmas.List.Elements.{All-head, All-tail}
use Rattle.emp_algebra.specs.Vector.{cell, dot, scale, add_rows}
use Rattle.emp_algebra.specs.Deciding.{Weighted, FactorFits, total_cells, total_constant}
use Rattle.emp_algebra.proofs.Order.{linear}
use Rattle.emp_algebra.proofs.Ring.{var, ◌⊗◌, by_ring}
use Rattle.emp_algebra.proofs.Vectors.{cell-scale}
use Rattle.emp_num.specs.declared.frac.Frac.{Frac}
use Rattle.emp_num.specs.Point.{Point, StandsFor}
use Rattle.emp_num.specs.Ratio.{Ratio, ratio}
use Rattle.emp_rows.specs.declared.affine.Affine.{Affine}
use Rattle.emp_rows.specs.declared.system.Kind.{Kind}
use Rattle.emp_rows.specs.declared.system.Kind.TheVariants.{Zero, Nonneg}
use Rattle.emp_rows.specs.declared.system.RowSystem.{RowSystem}
use Rattle.emp_cert.specs.declared.tree.Turn.{Turn}
use Rattle.emp_cert.specs.declared.tree.Node.{Node}
use Rattle.emp_check.specs.declared.outcome.Tested.{Tested}
use Rattle.emp_check.specs.declared.outcome.Tested.TheVariants.{Fine, Wrong, Wide}
use Rattle.emp_check.specs.declared.outcome.Checked.{Checked}
use Rattle.emp_check.specs.declared.outcome.Why.TheVariants.{Split, NotConstant, Constant}
use Rattle.emp_check.specs.Checks.{level_by}
use Rattle.emp_cert.specs.Deciders.{sort_on, weighed, weighted, IsFarkasRow, IsBoundRow, ShowsNone, ShowsBest, NodeTree, split, refutes, bounds, preorder}
use Rattle.emp_check.specs.Levels.{Level, nothing, value, too_wide}
use Rattle.emp_cert.specs.Paths.{turn, is_on, is_split}
use Rattle.emp_check.specs.Paths.{advance}
use Rattle.emp_check.proofs.Keeping.{IsSystem, keeps}
use Rattle.emp_rows.specs.RowPoints.{value_at}
use Rattle.emp_rows.specs.Values.{is_narrow, is_negative, measured}
use Rattle.emp_check.specs.Tests.{and_then, number, factor_test, factors_test, zero_test, columns_test, negative_test, least_test, leaf_sum, farkas_test, bound_test, objective_of}
use Rattle.emp_check.specs.Laws.{Ends}
use Rattle.emp_check.specs.Trees.{at_node, nodes_test}
use Rattle.emp_check.proofs.Bounds.{compare}
use Rattle.emp_check.proofs.Passing.{Passes, passes_then}
use Rattle.emp_check.proofs.Leaves.{total_is, total_cell}
use Rattle.emp_rows.proofs.Points.{IsOver, value_over}
use Rattle.emp_rows.proofs.Tests.{zero_true, negative_true, negative_false}
use Rattle.emp_check.proofs.Sums.{plain_sum, weighted_sum, cell-add_rows}

abbrev Fits : Weighted → Type 0
Fits w = FactorFits w.kind w.factor

factor_passes : (b : Bool) (t : Kind) (f : ℤ) → FactorFits (sort_on b t) f → factor_test b t f ≡ Fine
factor_passes true Zero f h = refl
factor_passes false Zero f h = refl
factor_passes true Nonneg (pos n) h = refl
factor_passes true Nonneg (negsuc n) h = refl
factor_passes false Nonneg (pos n) h = refl
factor_passes false Nonneg (negsuc n) h = absurd h.le

factors_pass : (s : RowSystem) (p : List Turn) (k : ℕ) (qs : List Affine) (ts : List Kind) (fs : List ℤ) → length ts ≡ length qs → All (λ w. FactorFits w.kind w.factor) (weighted s p k qs ts fs) → factors_test s p k ts fs ≡ Fine
factors_pass s p k [] [] fs e h = refl
factors_pass s p k [] (t ∷ ts) fs e h = absurd (omega arith)
factors_pass s p k (q ∷ qs) [] fs e h = refl
factors_pass s p k (q ∷ qs) (t ∷ ts) [] e h = refl
factors_pass s p k (q ∷ qs) (t ∷ ts) (f ∷ fs) e h =
    ap (λ (x : Tested). and_then x (factors_test s p (k + 1) ts fs)) (factor_passes (is_on s p k) t f (All-head Fits (weighed s p k q t f) (weighted s p (k + 1) qs ts fs) h))
    ∙ factors_pass s p (k + 1) qs ts fs (omega arith) (All-tail Fits (weighed s p k q t f) (weighted s p (k + 1) qs ts fs) h)

zero_passes : (o : Option ℤ) → ((z : ℤ) → o ≡ Some z → z ≡ pos 0) → Passes (zero_test o)
zero_passes None h = inr refl
zero_passes (Some z) h = inl (ap (λ b. cond b Fine (Wrong NotConstant)) (zero_true z (h z refl)))

columns_pass : (s : RowSystem) (w : Option ℤ) (fs : List ℤ) (j n : ℕ) → ((i : ℕ) (z : ℤ) → leaf_sum s w fs (Some i) ≡ Some z → z ≡ pos 0) → Passes (columns_test s w fs j n)
columns_pass s w fs j zero h = inl refl
columns_pass s w fs j (suc n) h = passes_then (zero_test (leaf_sum s w fs (Some j))) (columns_test s w fs (j + 1) n) (zero_passes (leaf_sum s w fs (Some j)) (h j)) (columns_pass s w fs (j + 1) n h)

negative_passes : (o : Option ℤ) → ((z : ℤ) → o ≡ Some z → z <ℤ pos 0) → Passes (negative_test o)
negative_passes None h = inr refl
negative_passes (Some z) h = inl (ap (λ b. cond b Fine (Wrong Constant)) (negative_true z (h z refl)))

least_passes : (w : ℤ) (v : Ratio) (o : Option ℤ) → ((z : ℤ) → o ≡ Some z → (w *ℤ v.top) ≤ℤ (z *ℤ v.bottom)) → Passes (least_test w v o)
least_passes w v None h = inr refl
least_passes w v (Some z) h = go (is_narrow (w *ℤ v.top))
  where
    above : is_negative (z *ℤ v.bottom -ℤ w *ℤ v.top) ≡ false
    above = let k = h z refl in negative_false (z *ℤ v.bottom -ℤ w *ℤ v.top) (omega (arith, linear, k))

    go : (b : Bool) → Passes (cond b (cond (is_negative (z *ℤ v.bottom -ℤ w *ℤ v.top)) (Wrong Constant) Fine) Wide)
    go true = inl (ap (λ c. cond c (Wrong Constant) Fine) above)
    go false = inr refl

all_zero : (r : List ℤ) (i : ℕ) → All (λ a. a ≡ pos 0) r → cell r i ≡ pos 0
all_zero [] i h = refl
all_zero (a ∷ r) zero h = All-head (λ a. a ≡ pos 0) a r h
all_zero (a ∷ r) (suc i) h = all_zero r i (All-tail (λ a. a ≡ pos 0) a r h)

farkas_passes : (s : RowSystem) (p : List Turn) (fs : List ℤ) → IsSystem s → IsFarkasRow s p fs → Passes (farkas_test s p fs)
farkas_passes s p fs sys h =
    passes_then (factors_test s p 1 s.kinds fs) (and_then (columns_test s None fs 0 s.base) (negative_test (leaf_sum s None fs None)))
    (inl (factors_pass s p 1 s.quantities s.kinds fs sys.kinds h.factors))
    (passes_then (columns_test s None fs 0 s.base) (negative_test (leaf_sum s None fs None))
    (columns_pass s None fs 0 s.base (λ i z e. plain_sum s fs (Some i) z e ∙ (sym (total_cell s p 1 s.quantities s.kinds fs i sys.kinds) ∙ all_zero (total_cells (weighted s p 1 s.quantities s.kinds fs)) i h.cells)))
    (negative_passes (leaf_sum s None fs None) (λ z e. subst (λ (x : ℤ). x <ℤ pos 0) (total_is s p 1 s.quantities s.kinds fs sys.kinds ∙ sym (plain_sum s fs None z e)) h.constant)))

minus_one : (a b z : ℤ) → z ≡ a -ℤ b → a +ℤ negsuc 0 *ℤ b ≡ pos 0 → z ≡ pos 0
minus_one a b z e h = omega (arith, ints)

-- the sums of a Bound row
module _ (s : RowSystem) (r : Affine) (x : Point) (p : List Turn) (w : ℤ) (fs : List ℤ) (sys : IsSystem s) (o : s.objective ≡ Some r) (h : IsBoundRow s r x p w fs) where
  column_zero : (i : ℕ) (z : ℤ) → leaf_sum s (Some w) fs (Some i) ≡ Some z → z ≡ pos 0
  column_zero i z e =
      let ws = weighted s p 1 s.quantities s.kinds fs in
      let a : objective_of s.objective ≡ r = ap objective_of o in
      let c : z ≡ w *ℤ cell r.cells i -ℤ dot fs (map (number (Some i)) s.quantities) = weighted_sum s w fs (Some i) z e ∙ ap (λ (q : Affine). w *ℤ cell q.cells i -ℤ dot fs (map (number (Some i)) s.quantities)) a in
      let k : cell (add_rows (scale w r.cells) (scale (negsuc 0) (total_cells (weighted s p 1 s.quantities s.kinds fs)))) i ≡ pos 0 = all_zero (add_rows (scale w r.cells) (scale (negsuc 0) (total_cells (weighted s p 1 s.quantities s.kinds fs)))) i h.rest in
      minus_one (w *ℤ cell r.cells i) (dot fs (map (number (Some i)) s.quantities)) z c
      (ap₂ (λ y u. y +ℤ u) (sym (cell-scale w r.cells i)) (ap (λ u. negsuc 0 *ℤ u) (sym (total_cell s p 1 s.quantities s.kinds fs i sys.kinds)) ∙ sym (cell-scale (negsuc 0) (total_cells (weighted s p 1 s.quantities s.kinds fs)) i))
      ∙ (sym (cell-add_rows (scale w r.cells) (scale (negsuc 0) (total_cells (weighted s p 1 s.quantities s.kinds fs))) i) ∙ k))

  constant_is : (z : ℤ) → leaf_sum s (Some w) fs None ≡ Some z → z ≡ w *ℤ r.constant -ℤ total_constant (weighted s p 1 s.quantities s.kinds fs)
  constant_is z e =
      weighted_sum s w fs None z e ∙ ap₂ (λ (q : Affine) (y : ℤ). w *ℤ q.constant -ℤ y) (ap objective_of o) (sym (total_is s p 1 s.quantities s.kinds fs sys.kinds))

  value_passes : (v : Ratio) → IsOver v (value_at r x) x.den → Passes (bound_test s (value v) p w fs)
  value_passes v g =
      passes_then (factors_test s p 1 s.kinds fs) (and_then (columns_test s (Some w) fs 0 s.base) (least_test w v (leaf_sum s (Some w) fs None)))
      (inl (factors_pass s p 1 s.quantities s.kinds fs sys.kinds h.factors))
      (passes_then (columns_test s (Some w) fs 0 s.base) (least_test w v (leaf_sum s (Some w) fs None))
      (columns_pass s (Some w) fs 0 s.base column_zero)
      (least_passes w v (leaf_sum s (Some w) fs None) (λ z e. subst (λ (y : ℤ). (w *ℤ v.top) ≤ℤ (y *ℤ v.bottom)) (sym (constant_is z e)) least)))
    where
      least : (w *ℤ v.top) ≤ℤ ((w *ℤ r.constant -ℤ total_constant (weighted s p 1 s.quantities s.kinds fs)) *ℤ v.bottom)
      least =
          let D = w *ℤ r.constant -ℤ total_constant (weighted s p 1 s.quantities s.kinds fs) in
          let c1 : w *ℤ value_at r x ≡ value_at r x *ℤ w = by_ring (w ∷ value_at r x ∷ []) (var 0 ⊗ var 1) (var 1 ⊗ var 0) refl in
          let c2 : v.top *ℤ w ≡ w *ℤ v.top = by_ring (v.top ∷ w ∷ []) (var 0 ⊗ var 1) (var 1 ⊗ var 0) refl in
          let k : (value_at r x *ℤ w) ≤ℤ (D *ℤ x.den) = subst (λ (y : ℤ). y ≤ℤ (D *ℤ x.den)) c1 h.least in
          let back : IsOver (ratio (value_at r x) x.den) v.top v.bottom = record { positive = x.positive; same = sym g.same } in
          subst (λ (y : ℤ). y ≤ℤ (D *ℤ v.bottom)) c2 (compare (ratio (value_at r x) x.den) v.top v.bottom D w back g.positive k)

  wide_passes : Passes (bound_test s too_wide p w fs)
  wide_passes =
      passes_then (factors_test s p 1 s.kinds fs) (and_then (columns_test s (Some w) fs 0 s.base) Wide)
      (inl (factors_pass s p 1 s.quantities s.kinds fs sys.kinds h.factors))
      (passes_then (columns_test s (Some w) fs 0 s.base) Wide (columns_pass s (Some w) fs 0 s.base column_zero) (inr refl))

-- ---- the pass
pub at_leaf : (n : ℕ) (t : Tested) (rest : Checked) → Passes t → Ends rest → Ends (at_node n t rest)
at_leaf n t rest (inl e) h = subst (λ (x : Tested). Ends (at_node n x rest)) (sym e) h
at_leaf n t rest (inr e) h = inr (n, ap (λ (x : Tested). at_node n x rest) e)

module _ (s : RowSystem) (best : Level) where
  at_branch : (p : List Turn) (k n : ℕ) (a b : NodeTree) (ns : List Node) → is_split p k ≡ false → Ends (nodes_test s best (n + 1) (Some (turn k false ∷ p)) (preorder a ++ (preorder b ++ ns))) → Ends (nodes_test s best n (Some p) (preorder (split k a b) ++ ns))
  at_branch p k n a b ns e h =
      at_leaf n (cond (is_split p k) (Wrong Split) Fine) (nodes_test s best (n + 1) (Some (turn k false ∷ p)) ((preorder a ++ preorder b) ++ ns)) (inl (ap (λ x. cond x (Wrong Split) Fine) e))
      (subst (λ (xs : List Node). Ends (nodes_test s best (n + 1) (Some (turn k false ∷ p)) xs)) (sym (append_assoc (preorder a) (preorder b) ns)) h)

  none_ends : IsSystem s → (t : NodeTree) (p : List Turn) (ns : List Node) → ShowsNone s p t → ((m : ℕ) → Ends (nodes_test s best m (advance p) ns)) → (n : ℕ) → Ends (nodes_test s best n (Some p) (preorder t ++ ns))
  none_ends sys (refutes fs) p ns d h n = at_leaf n (farkas_test s p fs) (nodes_test s best (n + 1) (advance p) ns) (farkas_passes s p fs sys d) (h (n + 1))
  none_ends sys (bounds w fs) p ns d h n = absurd d
  none_ends sys (split k a b) p ns d h n = at_branch p k n a b ns d.1 (none_ends sys a (turn k false ∷ p) (preorder b ++ ns) d.2 (λ m. none_ends sys b (turn k true ∷ p) ns d.3 h m) (n + 1))

  best_ends : (r : Affine) (x : Point) → IsSystem s → ((p : List Turn) (w : ℤ) (fs : List ℤ) → IsBoundRow s r x p w fs → Passes (bound_test s best p w fs)) → (t : NodeTree) (p : List Turn) (ns : List Node) → ShowsBest s r x p t → ((m : ℕ) → Ends (nodes_test s best m (advance p) ns)) → (n : ℕ) → Ends (nodes_test s best n (Some p) (preorder t ++ ns))
  best_ends r x sys leaf (refutes fs) p ns d h n = at_leaf n (farkas_test s p fs) (nodes_test s best (n + 1) (advance p) ns) (farkas_passes s p fs sys d) (h (n + 1))
  best_ends r x sys leaf (bounds w fs) p ns d h n = at_leaf n (bound_test s best p w fs) (nodes_test s best (n + 1) (advance p) ns) (leaf p w fs d) (h (n + 1))
  best_ends r x sys leaf (split k a b) p ns d h n = at_branch p k n a b ns d.1 (best_ends r x sys leaf a (turn k false ∷ p) (preorder b ++ ns) d.2 (λ m. best_ends r x sys leaf b (turn k true ∷ p) ns d.3 h m) (n + 1))

  whole : (t : NodeTree) → Ends (nodes_test s best 1 (Some []) (preorder t ++ [])) → Ends (nodes_test s best 1 (Some []) (preorder t))
  whole t h = subst (λ (xs : List Node). Ends (nodes_test s best 1 (Some []) xs)) (append-nil (preorder t)) h

pub shown_none : (s : RowSystem) (t : NodeTree) → ShowsNone s [] t → Ends (nodes_test s nothing 1 (Some []) (preorder t))
shown_none s t h = whole s nothing t (none_ends s nothing (keeps s) t [] [] h (λ m. inl refl) 1)

by_value : (s : RowSystem) (r : Affine) (fs : List Frac) (x : Point) (t : NodeTree) → s.objective ≡ Some r → StandsFor fs x → ShowsBest s r x [] t → (o : Option Ratio) → measured false r fs ≡ o → Ends (nodes_test s (level_by o) 1 (Some []) (preorder t))
by_value s r fs x t o st h None e = whole s too_wide t (best_ends s too_wide r x (keeps s) (λ p w gs b. wide_passes s r x p w gs (keeps s) o b) t [] [] h (λ m. inl refl) 1)
by_value s r fs x t o st h (Some v) e = whole s (value v) t (best_ends s (value v) r x (keeps s) (λ p w gs b. value_passes s r x p w gs (keeps s) o b v (value_over r fs x v st e)) t [] [] h (λ m. inl refl) 1)

pub shown_best : (s : RowSystem) (r : Affine) (fs : List Frac) (x : Point) (t : NodeTree) → s.objective ≡ Some r → StandsFor fs x → ShowsBest s r x [] t → Ends (nodes_test s (level_by (measured false r fs)) 1 (Some []) (preorder t))
shown_best s r fs x t o st h = by_value s r fs x t o st h (measured false r fs) refl
