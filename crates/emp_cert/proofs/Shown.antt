-- Trees that show none leave no row point, and trees that show best bound the objective.
use Rattle.std.proofs.Common.{◌≡◌, ◌⊎◌, inl, inr, ℕ, suc, ◌+◌, ◌-◌, ◌<◌, Bool, true, false, ◌||◌, nat_eq, eqb-true, ℤ, pos, ◌*ℤ◌, ◌≤ℤ◌, List, [], ◌∷◌, length, get_or, arith, refl, subst}
use Rattle.std.proofs.lemmas.List.Elements.{All-nil, All-cons}
use Rattle.emp_algebra.specs.Deciding.{Weighted, IsOfKind, Meets, value_times}
use Rattle.emp_algebra.proofs.Deciding.{refutation_leaves_none, bound_holds}
use Rattle.emp_num.specs.Point.{Point}
use Rattle.emp_rows.specs.declared.affine.Affine.{Affine}
use Rattle.emp_rows.specs.declared.system.Kind.{Kind}
use Rattle.emp_rows.specs.declared.system.RowSystem.{RowSystem}
use Rattle.emp_rows.specs.Points.{IsNumber}
use Rattle.emp_rows.specs.RowPoints.{sort_of, no_row, quantity, pair, value_at, AreOfKind, Solves}
use Rattle.emp_cert.specs.declared.cert.Verdict.{Verdict}
use Rattle.emp_cert.specs.declared.cert.Verdict.TheVariants.{Point as PointVerdict, Missing, Best, Unbounded}
use Rattle.emp_cert.specs.declared.tree.Turn.{Turn}
use Rattle.emp_cert.specs.Deciders.{sort_on, weighed, weighted, NodeTree, split, refutes, bounds, ShowsNone, ShowsBest}
use Rattle.emp_cert.specs.Paths.{turn, member, is_on, OnPath}
use Rattle.emp_cert.specs.Verdicts.{VerdictHolds, VerdictShown}

-- ---- points
-- the quantities on the path are 0
pub on_value : (s : RowSystem) (p : List Turn) (m : ℕ) (x : Point) → OnPath s p x → is_on s p m ≡ true → value_at (quantity s m) x ≡ pos 0
on_value s [] m x h e = cc
on_value s (t ∷ p) m x h e = go (nat_eq (member s t) m) refl e (on_value s p m x h.1)
  where
    go : (b : Bool) → nat_eq (member s t) m ≡ b → (b || is_on s p m) ≡ true → (is_on s p m ≡ true → value_at (quantity s m) x ≡ pos 0) → value_at (quantity s m) x ≡ pos 0
    go true f g ih = subst (λ (n : ℕ). value_at (quantity s n) x ≡ pos 0) (eqb-true (member s t) m f) h.0
    go false f g ih = ih g

of_sort : (b : Bool) (t : Kind) (v : ℤ) → IsOfKind (sort_of t) v → (b ≡ true → v ≡ pos 0) → IsOfKind (sort_on b t) v
of_sort true t v h k = k refl
of_sort false t v h k = h

abbrev MetAt : Point → Weighted → Type 0
MetAt x w = IsOfKind w.kind (value_times w.constant w.cells x.den x.nums)

pub meets : (s : RowSystem) (p : List Turn) (k : ℕ) (qs : List Affine) (ts : List Kind) (fs : List ℤ) (x : Point) → AreOfKind qs ts x → ((i m : ℕ) → m ≡ k + i → i < length qs → is_on s p m ≡ true → value_at (get_or qs i no_row) x ≡ pos 0) → Meets (weighted s p k qs ts fs) x.den x.nums
meets s p k [] ts fs x h on = All-nil (MetAt x)
meets s p k (q ∷ qs) [] fs x h on = All-nil (MetAt x)
meets s p k (q ∷ qs) (t ∷ ts) [] x h on = All-nil (MetAt x)
meets s p k (q ∷ qs) (t ∷ ts) (f ∷ fs) x h on =
    All-cons (MetAt x) (weighed s p k q t f) (weighted s p (k + 1) qs ts fs)
    (of_sort (is_on s p k) t (value_at q x) h.0 (λ e. on 0 k (omega arith) (omega arith) e))
    (meets s p (k + 1) qs ts fs x h.1 (λ i m e l o. on (suc i) m (omega arith) (omega arith) o))

-- a row point on the path meets the system with the path's quantities at 0
pub meets_path : (s : RowSystem) (p : List Turn) (fs : List ℤ) (x : Point) → Solves s x → OnPath s p x → Meets (weighted s p 1 s.quantities s.kinds fs) x.den x.nums
meets_path s p fs x sol on =
    meets s p 1 s.quantities s.kinds fs x sol.kinds (λ i m e l o. let k : m - 1 ≡ i = omega arith in subst (λ (n : ℕ). value_at (get_or s.quantities n no_row) x ≡ pos 0) k (on_value s p m x on o))

-- ---- what they mean
module _ (s : RowSystem) (G : Point → Type 0) where
  abbrev HoldsOn : List Turn → Type 0
  HoldsOn p = (q : Point) → Solves s q → OnPath s p q → G q

  branch : (p : List Turn) (k : ℕ) → IsNumber (length s.pairs) k → HoldsOn (turn k false ∷ p) → HoldsOn (turn k true ∷ p) → HoldsOn p
  branch p k n first second q sol on = go (sol.pairs (k - 1) (omega (arith, n.0, n.1)))
    where
      go : (value_at (quantity s (pair s k).0) q ≡ pos 0) ⊎ (value_at (quantity s (pair s k).1) q ≡ pos 0) → G q
      go (inl z) = first q sol (z, on)
      go (inr z) = second q sol (z, on)

none_on : (s : RowSystem) (t : NodeTree) (p : List Turn) → ShowsNone s p t → (q : Point) → Solves s q → OnPath s p q → ⊥
none_on s (split k a b) p h = branch s (λ q. ⊥) p k h.0 (none_on s a (turn k false ∷ p) h.2) (none_on s b (turn k true ∷ p) h.3)
none_on s (refutes fs) p h = λ q sol on. refutation_leaves_none (weighted s p 1 s.quantities s.kinds fs) h q.den q.nums q.positive (meets_path s p fs q sol on)
none_on s (bounds w fs) p h = absurd h

best_on : (s : RowSystem) (r : Affine) (x : Point) (t : NodeTree) (p : List Turn) → ShowsBest s r x p t → (q : Point) → Solves s q → OnPath s p q → (value_at r x *ℤ q.den) ≤ℤ (value_at r q *ℤ x.den)
best_on s r x (split k a b) p h = branch s (λ q. (value_at r x *ℤ q.den) ≤ℤ (value_at r q *ℤ x.den)) p k h.0 (best_on s r x a (turn k false ∷ p) h.2) (best_on s r x b (turn k true ∷ p) h.3)
best_on s r x (refutes fs) p h = λ q sol on. absurd (refutation_leaves_none (weighted s p 1 s.quantities s.kinds fs) h q.den q.nums q.positive (meets_path s p fs q sol on))
best_on s r x (bounds w fs) p h = λ q sol on. bound_holds (weighted s p 1 s.quantities s.kinds fs) w r.constant r.cells (value_at r x) x.den h q.den q.nums q.positive (meets_path s p fs q sol on)

pub none_shown : (s : RowSystem) (t : NodeTree) → ShowsNone s [] t → (q : Point) → Solves s q → ⊥
none_shown s t h q sol = none_on s t [] h q sol tt

pub best_shown : (s : RowSystem) (r : Affine) (x : Point) (t : NodeTree) → ShowsBest s r x [] t → (q : Point) → Solves s q → (value_at r x *ℤ q.den) ≤ℤ (value_at r q *ℤ x.den)
best_shown s r x t h q sol = best_on s r x t [] h q sol tt

-- ---- verdicts
pub shown_holds : (s : RowSystem) (v : Verdict) → VerdictShown s v → VerdictHolds s v
shown_holds s (PointVerdict fs) h = h.1
shown_holds s (Missing t) h = λ p sol. none_shown s h.0 h.2 p sol
shown_holds s (Best fs t) h = λ p st.
    let g = h.2.2 p st in
    (g.0, λ r o q sol. let same : h.0 ≡ r = let e = h.1 in cc in subst (λ (a : Affine). (value_at a p *ℤ q.den) ≤ℤ (value_at a q *ℤ p.den)) same (best_shown s h.0 p h.2.0 g.1 q sol))
shown_holds s (Unbounded fs gs) h = h.2
