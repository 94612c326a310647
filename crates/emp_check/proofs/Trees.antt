-- A leaf that passes its test is a row that decides for its path.
use Rattle.std.proofs.Common.{◌≡◌, Bool, true, false, cond, ℤ, pos, negsuc, ◌+ℤ◌, ◌-ℤ◌, ◌*ℤ◌, ◌≤ℤ◌, ◌<ℤ◌, List, map, Option, Some, None, arith, refl, sym, ap, ap₂, ◌∙◌, subst}
use Rattle.std.proofs.lemmas.Int.{ints}
use Rattle.std.proofs.lemmas.List.Elements.{All-from_get_or}
use Rattle.emp_algebra.specs.Vector.{cell, dot, scale, add_rows}
use Rattle.emp_algebra.specs.Deciding.{total_cells, total_constant, IsBound}
use Rattle.emp_algebra.proofs.Order.{linear}
use Rattle.emp_algebra.proofs.Vectors.{cell-scale, length-scale}
use Rattle.emp_rows.specs.declared.affine.Affine.{Affine}
use Rattle.emp_rows.specs.declared.system.RowSystem.{RowSystem}
use Rattle.emp_num.specs.Ratio.{Ratio}
use Rattle.emp_check.specs.Levels.{nothing, value}
use Rattle.emp_cert.specs.declared.tree.Turn.{Turn}
use Rattle.emp_check.specs.declared.outcome.Tested.TheVariants.{Fine, Wrong, Wide}
use Rattle.emp_check.specs.declared.outcome.Why.TheVariants.{Constant, Kind as WrongKind}
use Rattle.emp_rows.specs.Affine.{IsRow}
use Rattle.emp_check.proofs.Keeping.{IsSystem}
use Rattle.emp_rows.specs.Values.{is_negative, is_narrow}
use Rattle.emp_check.specs.Tests.{number, leaf_sum, columns_test, factors_test, negative_test, least_test, farkas_test, bound_test, objective_of}
use Rattle.emp_check.proofs.Sums.{both, columns_passed, plain_sum, weighted_sum, cell-add_rows, length-add_rows}
use Rattle.emp_cert.specs.Deciders.{weighted, IsFarkasRow}
use Rattle.emp_check.proofs.Leaves.{factors_fit, total_is, total_cell, total_length}

-- ---- leaves
negative_passed : (o : Option ℤ) → negative_test o ≡ Fine → (z : ℤ) × (o ≡ Some z) × (z <ℤ pos 0)
negative_passed None e = cc
negative_passed (Some (pos n)) e = cc
negative_passed (Some (negsuc n)) e = (negsuc n, refl, omega (arith, ints))

not_negative : (z : ℤ) → is_negative z ≡ false → pos 0 ≤ℤ z
not_negative (pos n) e = omega (arith, ints)
not_negative (negsuc n) e = cc

least_passed : (w : ℤ) (v : Ratio) (o : Option ℤ) → least_test w v o ≡ Fine → (z : ℤ) × (o ≡ Some z) × ((w *ℤ v.top) ≤ℤ (z *ℤ v.bottom))
least_passed w v None e = cc
least_passed w v (Some z) e = (z, refl, go (is_narrow (w *ℤ v.top)) (is_negative (z *ℤ v.bottom -ℤ w *ℤ v.top)) refl e)
  where
    go : (a b : Bool) → is_negative (z *ℤ v.bottom -ℤ w *ℤ v.top) ≡ b → cond a (cond b (Wrong Constant) Fine) Wide ≡ Fine → (w *ℤ v.top) ≤ℤ (z *ℤ v.bottom)
    go true true f h = cc
    go true false f h = let k = not_negative (z *ℤ v.bottom -ℤ w *ℤ v.top) f in omega (arith, linear, k)
    go false b f h = cc

module _ (s : RowSystem) (sys : IsSystem s) where
  pub farkas_row : (p : List Turn) (fs : List ℤ) → farkas_test s p fs ≡ Fine → IsFarkasRow s p fs
  farkas_row p fs e =
      let h = both (factors_test s p 1 s.kinds fs) _ e in
      let k = both (columns_test s None fs 0 s.base) (negative_test (leaf_sum s None fs None)) h.1 in
      let c = negative_passed (leaf_sum s None fs None) k.1 in
      record {
        factors = factors_fit s p 1 s.quantities s.kinds fs h.0;
        cells = All-from_get_or (λ a. a ≡ pos 0) (total_cells (weighted s p 1 s.quantities s.kinds fs)) (pos 0) (λ i l. total_cell s p 1 s.quantities s.kinds fs i sys.kinds ∙ sym (plain_sum s fs (Some i) (pos 0) (columns_passed s None fs 0 s.base k.0 i i (omega arith) (omega (arith, l, total_length s p 1 s.base s.quantities s.kinds fs sys.rows)))));
        constant = subst (λ (z : ℤ). z <ℤ pos 0) (plain_sum s fs None c.0 c.1 ∙ sym (total_is s p 1 s.quantities s.kinds fs sys.kinds)) c.2;
      }

  pub bound_row : (r : Affine) (v : Ratio) (p : List Turn) (w : ℤ) (fs : List ℤ) → pos 0 <ℤ v.bottom → s.objective ≡ Some r → pos 0 <ℤ w → bound_test s (value v) p w fs ≡ Fine → IsBound (weighted s p 1 s.quantities s.kinds fs) w r.constant r.cells v.top v.bottom
  bound_row r v p w fs vp o wp e =
      let h = both (factors_test s p 1 s.kinds fs) _ e in
      let k = both (columns_test s (Some w) fs 0 s.base) (least_test w v (leaf_sum s (Some w) fs None)) h.1 in
      let c = least_passed w v (leaf_sum s (Some w) fs None) k.1 in
      let same : objective_of s.objective ≡ r = ap objective_of o in
      let row : IsRow s.base r = sys.objective r o in
      let constant : c.0 ≡ w *ℤ r.constant -ℤ total_constant (weighted s p 1 s.quantities s.kinds fs) =
      weighted_sum s w fs None c.0 c.1 ∙ ap₂ (λ (a : Affine) (z : ℤ). w *ℤ a.constant -ℤ z) same (sym (total_is s p 1 s.quantities s.kinds fs sys.kinds)) in
      record {
        factors = factors_fit s p 1 s.quantities s.kinds fs h.0;
        weighs = wp;
        named = vp;
        rest = All-from_get_or (λ a. a ≡ pos 0) (add_rows (scale w r.cells) (scale (negsuc 0) (total_cells (weighted s p 1 s.quantities s.kinds fs)))) (pos 0) (λ i l.
            let t : cell (total_cells (weighted s p 1 s.quantities s.kinds fs)) i ≡ dot fs (map (number (Some i)) s.quantities) = total_cell s p 1 s.quantities s.kinds fs i sys.kinds in
            let z : pos 0 ≡ w *ℤ cell r.cells i -ℤ dot fs (map (number (Some i)) s.quantities) =
            weighted_sum s w fs (Some i) (pos 0) (columns_passed s (Some w) fs 0 s.base k.0 i i (omega arith) (omega (arith, l, row.width, length-scale w r.cells, length-scale (negsuc 0) (total_cells (weighted s p 1 s.quantities s.kinds fs)), length-add_rows (scale w r.cells) (scale (negsuc 0) (total_cells (weighted s p 1 s.quantities s.kinds fs))) s.base (omega (arith, row.width, length-scale w r.cells)) (omega (arith, length-scale (negsuc 0) (total_cells (weighted s p 1 s.quantities s.kinds fs)), total_length s p 1 s.base s.quantities s.kinds fs sys.rows))))) ∙ ap (λ (a : Affine). w *ℤ cell a.cells i -ℤ dot fs (map (number (Some i)) s.quantities)) same in
            cell-add_rows (scale w r.cells) (scale (negsuc 0) (total_cells (weighted s p 1 s.quantities s.kinds fs))) i ∙ (ap₂ (λ y u. y +ℤ u) (cell-scale w r.cells i) (cell-scale (negsuc 0) (total_cells (weighted s p 1 s.quantities s.kinds fs)) i ∙ ap (λ u. negsuc 0 *ℤ u) t) ∙ minus_one (w *ℤ cell r.cells i) (dot fs (map (number (Some i)) s.quantities)) z));
        least = subst (λ (z : ℤ). (w *ℤ v.top) ≤ℤ (z *ℤ v.bottom)) constant c.2;
      }
    where
      minus_one : (a b : ℤ) → pos 0 ≡ a -ℤ b → a +ℤ negsuc 0 *ℤ b ≡ pos 0
      minus_one a b e = omega (arith, ints)

-- under no value named no bound is accepted
pub unbounded : (s : RowSystem) (p : List Turn) (w : ℤ) (fs : List ℤ) → bound_test s nothing p w fs ≡ Fine → ⊥
unbounded s p w fs e = let h = both (factors_test s p 1 s.kinds fs) (Wrong WrongKind) e in cc
