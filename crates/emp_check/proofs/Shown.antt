-- Trees that show none or best.
use Rattle.std.proofs.Common.{◌≡◌, ℕ, true, false, ℤ, ◌-ℤ◌, ◌*ℤ◌, ◌≤ℤ◌, List, [], ◌∷◌, ◌++◌, length, Option, Some, None, All, arith, refl, sym, subst}
use Rattle.std.proofs.lemmas.List.Elements.{All-head, All-tail, All-cons}
use Rattle.emp_algebra.specs.Deciding.{IsBound, total_constant}
use Rattle.emp_algebra.proofs.Ring.{var, ◌⊗◌, by_ring}
use Rattle.emp_num.specs.declared.frac.Frac.{Frac}
use Rattle.emp_num.specs.Point.{Point, StandsFor}
use Rattle.emp_num.specs.Ratio.{Ratio}
use Rattle.emp_rows.specs.declared.affine.Affine.{Affine}
use Rattle.emp_rows.specs.declared.system.RowSystem.{RowSystem}
use Rattle.emp_cert.specs.declared.tree.Turn.{Turn}
use Rattle.emp_cert.specs.declared.tree.Node.{Node}
use Rattle.emp_cert.specs.declared.tree.Node.TheVariants.{Branch, Bound}
use Rattle.emp_check.specs.declared.outcome.Tested.TheVariants.{Fine}
use Rattle.emp_check.specs.declared.outcome.Checked.TheVariants.{Accepted}
use Rattle.emp_check.specs.Checks.{level_by}
use Rattle.emp_cert.specs.Deciders.{weighted, IsBoundRow, ShowsNone, ShowsBest, NodeTree, split, refutes, bounds, preorder}
use Rattle.emp_check.specs.Levels.{nothing, value, too_wide}
use Rattle.emp_cert.specs.Paths.{turn}
use Rattle.emp_rows.specs.RowPoints.{value_at}
use Rattle.emp_rows.specs.Points.{IsNumber}
use Rattle.emp_check.proofs.Keeping.{IsSystem, keeps}
use Rattle.emp_check.specs.Tests.{bound_test}
use Rattle.emp_cert.specs.Certs.{NodeFits}
use Rattle.emp_check.specs.Trees.{nodes_test}
use Rattle.emp_rows.specs.Values.{measured}
use Rattle.emp_check.proofs.Bounds.{compare, no_bound}
use Rattle.emp_check.proofs.Forests.{Decides, accepted_tree}
use Rattle.emp_rows.proofs.Points.{IsOver, value_over}
use Rattle.emp_check.proofs.Trees.{farkas_row, bound_row, unbounded}

-- ---- accepted trees show
abbrev FitsIn : RowSystem → Node → Type 0
FitsIn s d = NodeFits (length s.pairs) (length s.quantities) d

left_of : (s : RowSystem) (k : ℕ) (a b : NodeTree) → All (λ d. NodeFits (length s.pairs) (length s.quantities) d) (preorder (split k a b)) → IsNumber (length s.pairs) k × All (λ d. NodeFits (length s.pairs) (length s.quantities) d) (preorder a) × All (λ d. NodeFits (length s.pairs) (length s.quantities) d) (preorder b)
left_of s k a b h =
    let r = All-tail (FitsIn s) (Branch k) (preorder a ++ preorder b) h in
    (All-head (FitsIn s) (Branch k) (preorder a ++ preorder b) h, fits_left s (preorder a) (preorder b) r, fits_right s (preorder a) (preorder b) r)
  where
    fits_left : (s : RowSystem) (xs ys : List Node) → All (FitsIn s) (xs ++ ys) → All (FitsIn s) xs
    fits_left s [] ys h = λ k d l. absurd (omega arith)
    fits_left s (x ∷ xs) ys h = All-cons (FitsIn s) x xs (All-head (FitsIn s) x (xs ++ ys) h) (fits_left s xs ys (All-tail (FitsIn s) x (xs ++ ys) h))

    fits_right : (s : RowSystem) (xs ys : List Node) → All (FitsIn s) (xs ++ ys) → All (FitsIn s) ys
    fits_right s [] ys h = h
    fits_right s (x ∷ xs) ys h = fits_right s xs ys (All-tail (FitsIn s) x (xs ++ ys) h)

no_bound_at_all : (s : RowSystem) (p : List Turn) (w : ℤ) (fs : List ℤ) → bound_test s nothing p w fs ≡ Fine → ⊥
no_bound_at_all s p w fs e = unbounded s p w fs e

none_decided : (s : RowSystem) (sys : IsSystem s) (t : NodeTree) (p : List Turn) → All (λ d. NodeFits (length s.pairs) (length s.quantities) d) (preorder t) → Decides s nothing p t → ShowsNone s p t
none_decided s sys (split k a b) p f d =
    let h = left_of s k a b f in
    (h.0, d.0, none_decided s sys a (turn k false ∷ p) h.1 d.1, none_decided s sys b (turn k true ∷ p) h.2 d.2)
none_decided s sys (refutes fs) p f d = farkas_row s sys p fs d
none_decided s sys (bounds w fs) p f d = no_bound_at_all s p w fs d

-- the bound at the value v of x is one at x
bound_at : (s : RowSystem) (r : Affine) (x : Point) (p : List Turn) (w : ℤ) (fs : List ℤ) (v : Ratio) → IsOver v (value_at r x) x.den → IsBound (weighted s p 1 s.quantities s.kinds fs) w r.constant r.cells v.top v.bottom → IsBoundRow s r x p w fs
bound_at s r x p w fs v h b =
    let C = w *ℤ r.constant -ℤ total_constant (weighted s p 1 s.quantities s.kinds fs) in
    let c1 : w *ℤ v.top ≡ v.top *ℤ w = by_ring (w ∷ v.top ∷ []) (var 0 ⊗ var 1) (var 1 ⊗ var 0) refl in
    let c2 : w *ℤ value_at r x ≡ value_at r x *ℤ w = by_ring (w ∷ value_at r x ∷ []) (var 0 ⊗ var 1) (var 1 ⊗ var 0) refl in
    let k : (v.top *ℤ w) ≤ℤ (C *ℤ v.bottom) = subst (λ (z : ℤ). z ≤ℤ (C *ℤ v.bottom)) c1 b.least in
    record {
      factors = b.factors;
      weighs = b.weighs;
      named = x.positive;
      rest = b.rest;
      least = subst (λ (z : ℤ). z ≤ℤ (C *ℤ x.den)) (sym c2) (compare v (value_at r x) x.den C w h x.positive k);
    }

best_decided : (s : RowSystem) (sys : IsSystem s) (r : Affine) (x : Point) (v : Ratio) → s.objective ≡ Some r → IsOver v (value_at r x) x.den → (t : NodeTree) (p : List Turn) → All (λ d. NodeFits (length s.pairs) (length s.quantities) d) (preorder t) → Decides s (value v) p t → ShowsBest s r x p t
best_decided s sys r x v o g (split k a b) p f d =
    let h = left_of s k a b f in
    (h.0, d.0, best_decided s sys r x v o g a (turn k false ∷ p) h.1 d.1, best_decided s sys r x v o g b (turn k true ∷ p) h.2 d.2)
best_decided s sys r x v o g (refutes fs) p f d = farkas_row s sys p fs d
best_decided s sys r x v o g (bounds w fs) p f d =
    bound_at s r x p w fs v g (bound_row s sys r v p w fs g.positive o (All-head (FitsIn s) (Bound w fs) [] f).0 d)

wide_decided : (s : RowSystem) (sys : IsSystem s) (r : Affine) (x : Point) (t : NodeTree) (p : List Turn) → All (λ d. NodeFits (length s.pairs) (length s.quantities) d) (preorder t) → Decides s too_wide p t → ShowsBest s r x p t
wide_decided s sys r x (split k a b) p f d =
    let h = left_of s k a b f in
    (h.0, d.0, wide_decided s sys r x a (turn k false ∷ p) h.1 d.1, wide_decided s sys r x b (turn k true ∷ p) h.2 d.2)
wide_decided s sys r x (refutes fs) p f d = farkas_row s sys p fs d
wide_decided s sys r x (bounds w fs) p f d = absurd (no_bound s p w fs d)

pub accepted_none : (s : RowSystem) (t : NodeTree) → All (λ d. NodeFits (length s.pairs) (length s.quantities) d) (preorder t) → nodes_test s nothing 1 (Some []) (preorder t) ≡ Accepted → ShowsNone s [] t
accepted_none s t f e = none_decided s (keeps s) t [] f ((accepted_tree s nothing t).0 e)

best_by : (s : RowSystem) (r : Affine) (fs : List Frac) (x : Point) (t : NodeTree) → s.objective ≡ Some r → StandsFor fs x → All (λ d. NodeFits (length s.pairs) (length s.quantities) d) (preorder t) → (o : Option Ratio) → measured false r fs ≡ o → nodes_test s (level_by o) 1 (Some []) (preorder t) ≡ Accepted → ShowsBest s r x [] t
best_by s r fs x t o st f None g e = wide_decided s (keeps s) r x t [] f ((accepted_tree s too_wide t).0 e)
best_by s r fs x t o st f (Some v) g e = best_decided s (keeps s) r x v o (value_over r fs x v st g) t [] f ((accepted_tree s (value v) t).0 e)

pub accepted_best : (s : RowSystem) (r : Affine) (fs : List Frac) (x : Point) (t : NodeTree) → s.objective ≡ Some r → StandsFor fs x → All (λ d. NodeFits (length s.pairs) (length s.quantities) d) (preorder t) → nodes_test s (level_by (measured false r fs)) 1 (Some []) (preorder t) ≡ Accepted → ShowsBest s r x [] t
accepted_best s r fs x t o st f e = best_by s r fs x t o st f (measured false r fs) refl e
