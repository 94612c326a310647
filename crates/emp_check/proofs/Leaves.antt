-- A leaf that passes its tests is a row that decides for its path.
use Rattle.std.proofs.Common.{◌≡◌, ℕ, ◌+◌, ◌≤◌, Bool, true, false, ℤ, pos, negsuc, ◌+ℤ◌, ◌*ℤ◌, List, [], ◌∷◌, length, map, Some, None, All, arith, refl, ap, ap₂, ◌∙◌}
use Rattle.std.proofs.lemmas.Int.{ints}
use Rattle.std.proofs.lemmas.List.Elements.{All-head, All-tail, All-cons, All-nil}
use Rattle.emp_algebra.specs.Vector.{cell, dot, scale}
use Rattle.emp_algebra.specs.Deciding.{Weighted, FactorFits, total_cells, total_constant}
use Rattle.emp_algebra.proofs.Vectors.{cell-scale, length-scale}
use Rattle.emp_rows.specs.declared.affine.Affine.{Affine}
use Rattle.emp_rows.specs.declared.system.Kind.{Kind}
use Rattle.emp_rows.specs.declared.system.Kind.TheVariants.{Zero, Nonneg}
use Rattle.emp_rows.specs.declared.system.RowSystem.{RowSystem}
use Rattle.emp_cert.specs.declared.tree.Turn.{Turn}
use Rattle.emp_check.specs.declared.outcome.Tested.TheVariants.{Fine}
use Rattle.emp_rows.specs.Affine.{IsRow}
use Rattle.emp_cert.specs.Paths.{is_on}
use Rattle.emp_check.specs.Tests.{number, factor_test, factors_test}
use Rattle.emp_cert.specs.Deciders.{sort_on, weighed, weighted}
use Rattle.emp_check.proofs.Sums.{both, cell-add_rows, length-add_rows}

abbrev Fits : Weighted → Type 0
Fits w = FactorFits w.kind w.factor

-- ---- factors
factor_fits : (b : Bool) (t : Kind) (f : ℤ) → factor_test b t f ≡ Fine → FactorFits (sort_on b t) f
factor_fits true t f e = tt
factor_fits false Zero f e = tt
factor_fits false Nonneg (pos n) e = omega (arith, ints)
factor_fits false Nonneg (negsuc n) e = cc

pub factors_fit : (s : RowSystem) (p : List Turn) (k : ℕ) (qs : List Affine) (ts : List Kind) (fs : List ℤ) → factors_test s p k ts fs ≡ Fine → All (λ w. FactorFits w.kind w.factor) (weighted s p k qs ts fs)
factors_fit s p k [] ts fs e = All-nil Fits
factors_fit s p k (q ∷ qs) [] fs e = All-nil Fits
factors_fit s p k (q ∷ qs) (t ∷ ts) [] e = All-nil Fits
factors_fit s p k (q ∷ qs) (t ∷ ts) (f ∷ fs) e =
    let h = both (factor_test (is_on s p k) t f) (factors_test s p (k + 1) ts fs) e in
    All-cons Fits (weighed s p k q t f) (weighted s p (k + 1) qs ts fs) (factor_fits (is_on s p k) t f h.0) (factors_fit s p (k + 1) qs ts fs h.1)

-- ---- totals
pub total_is : (s : RowSystem) (p : List Turn) (k : ℕ) (qs : List Affine) (ts : List Kind) (fs : List ℤ) → length ts ≡ length qs → total_constant (weighted s p k qs ts fs) ≡ dot fs (map (number None) qs)
total_is s p k [] ts [] e = refl
total_is s p k [] ts (f ∷ fs) e = refl
total_is s p k (q ∷ qs) [] fs e = absurd (omega arith)
total_is s p k (q ∷ qs) (t ∷ ts) [] e = refl
total_is s p k (q ∷ qs) (t ∷ ts) (f ∷ fs) e = ap (λ z. f *ℤ q.constant +ℤ z) (total_is s p (k + 1) qs ts fs (omega arith))

pub total_cell : (s : RowSystem) (p : List Turn) (k : ℕ) (qs : List Affine) (ts : List Kind) (fs : List ℤ) (j : ℕ) → length ts ≡ length qs → cell (total_cells (weighted s p k qs ts fs)) j ≡ dot fs (map (number (Some j)) qs)
total_cell s p k [] ts [] j e = refl
total_cell s p k [] ts (f ∷ fs) j e = refl
total_cell s p k (q ∷ qs) [] fs j e = absurd (omega arith)
total_cell s p k (q ∷ qs) (t ∷ ts) [] j e = refl
total_cell s p k (q ∷ qs) (t ∷ ts) (f ∷ fs) j e =
    cell-add_rows (scale f q.cells) (total_cells (weighted s p (k + 1) qs ts fs)) j ∙ ap₂ (λ y z. y +ℤ z) (cell-scale f q.cells j) (total_cell s p (k + 1) qs ts fs j (omega arith))

pub total_length : (s : RowSystem) (p : List Turn) (k base : ℕ) (qs : List Affine) (ts : List Kind) (fs : List ℤ) → All (IsRow base) qs → length (total_cells (weighted s p k qs ts fs)) ≤ base
total_length s p k base [] ts fs h = omega arith
total_length s p k base (q ∷ qs) [] fs h = omega arith
total_length s p k base (q ∷ qs) (t ∷ ts) [] h = omega arith
total_length s p k base (q ∷ qs) (t ∷ ts) (f ∷ fs) h =
    let w = (All-head (IsRow base) q qs h).width in
    length-add_rows (scale f q.cells) (total_cells (weighted s p (k + 1) qs ts fs)) base (omega (arith, length-scale f q.cells)) (total_length s p (k + 1) base qs ts fs (All-tail (IsRow base) q qs h))
