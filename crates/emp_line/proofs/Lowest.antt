-- The numbers of a line after a pivot have no divisor above 1 in common, where those before it have none.
use Rattle.std.proofs.Common.{◌≡◌, ◌≢◌, ◌⊎◌, inl, inr, ℕ, zero, suc, ◌*◌, ◌<◌, ◌/◌, ℤ, pos, negsuc, neg_ℤ, ◌*ℤ◌, ◌<ℤ◌, Bool, true, false, cond, List, [], ◌∷◌, All, length, get_or, unsigned_abs, int_div, Some, None, arith, refl, sym, ap, subst, ◌∙◌, get_or-set_same, length-set}
use Prim.Native.Nat.{◌∣◌}
use native.Mathlib.Nat.{eq-one_of_dvd-one, dvd-zero, div-mul_cancel, mul-dvd-mul_right, dvd_of_mul-dvd-mul_right}
use Rattle.std.proofs.lemmas.Bool.{cases_eq}
use Rattle.std.proofs.lemmas.Int.{ints}
use Rattle.std.proofs.lemmas.List.{get_or_default, get_or-set_other}
use Rattle.std.proofs.lemmas.List.Elements.{All-nil, All-cons, All-head, All-tail}
use Rattle.emp_algebra.specs.Vector.{cell, scale, is_zero, quotients}
use Rattle.emp_algebra.proofs.Laws.{mul_pos, one-*ℤ, neg_ℤ-*ℤ}
use Rattle.emp_algebra.proofs.Vectors.{length-scale, cell-scale}
use Rattle.emp_num.proofs.GcdLaws.{content_divides}
use Rattle.emp_line.specs.declared.line.Line.{Line}
use Rattle.emp_line.specs.Pivot.{sign, reduced, turned, factors, combined, combination_wide, moved, pivoted_from, no_line}
use Rattle.emp_line.specs.Lines.{IsLine, IsLowest}
use Rattle.emp_line.proofs.Moves.{Pivots, pivoted_from_is}
use Rattle.emp_line.proofs.Seeds.{content_greatest}
use Rattle.emp_line.proofs.Exchange.{abs_pos}
use Rattle.emp_line.proofs.Sound.{common_of, common_positive, own_positive}
use Rattle.emp_line.proofs.Steps.{zero_no}

-- what divides every number divides what they have in common
lowest_of : (l : Line) → ((k : ℕ) → All (λ z. k ∣ unsigned_abs z) (l.denom ∷ l.constant ∷ l.cells) → k ∣ 1) → IsLowest l
lowest_of l h = eq-one_of_dvd-one (h (common_of l) (content_divides 0 (l.denom ∷ l.constant ∷ l.cells)).all)

divides_one : (l : Line) (k : ℕ) → IsLowest l → All (λ z. k ∣ unsigned_abs z) (l.denom ∷ l.constant ∷ l.cells) → k ∣ 1
divides_one l k e h = subst (λ n. k ∣ n) e (content_greatest k 0 (l.denom ∷ l.constant ∷ l.cells) (dvd-zero k) h)

-- ---- a line divided by what its numbers have in common
size_of_quotient : (a : ℤ) (g : ℕ) → unsigned_abs (int_div a (pos g)) ≡ unsigned_abs a / g
size_of_quotient (pos a) g = refl
size_of_quotient (negsuc a) g = omega (arith, ints)

quotient_divided : (k g : ℕ) (a : ℤ) → g ∣ unsigned_abs a → k ∣ unsigned_abs (int_div a (pos g)) → k * g ∣ unsigned_abs a
quotient_divided k g a d h =
    let e : unsigned_abs (int_div a (pos g)) * g ≡ unsigned_abs a = ap (λ n. n * g) (size_of_quotient a g) ∙ div-mul_cancel g d in
    subst (λ n. k * g ∣ n) e (mul-dvd-mul_right k h g)

quotients_divided : (k g : ℕ) (zs : List ℤ) → All (λ z. g ∣ unsigned_abs z) zs → All (λ z. k ∣ unsigned_abs z) (quotients zs (pos g)) → All (λ z. k * g ∣ unsigned_abs z) zs
quotients_divided k g [] d h = All-nil (λ z. k * g ∣ unsigned_abs z)
quotients_divided k g (z ∷ zs) d h =
    All-cons (λ y. k * g ∣ unsigned_abs y) z zs
    (quotient_divided k g z (All-head (λ y. g ∣ unsigned_abs y) z zs d) (All-head (λ y. k ∣ unsigned_abs y) (int_div z (pos g)) (quotients zs (pos g)) h))
    (quotients_divided k g zs (All-tail (λ y. g ∣ unsigned_abs y) z zs d) (All-tail (λ y. k ∣ unsigned_abs y) (int_div z (pos g)) (quotients zs (pos g)) h))

pub reduced_lowest : (l : Line) → pos 0 <ℤ l.denom → IsLowest (reduced l)
reduced_lowest l p = lowest_of (reduced l) (λ k h.
    let g = common_of l in
    let whole = quotients_divided k g (l.denom ∷ l.constant ∷ l.cells) (content_divides 0 (l.denom ∷ l.constant ∷ l.cells)).all h in
    let d : k * common_of l ∣ common_of l = content_greatest (k * g) 0 (l.denom ∷ l.constant ∷ l.cells) (dvd-zero (k * g)) whole in
    let e : 1 * common_of l ≡ common_of l = omega arith in
    dvd_of_mul-dvd-mul_right k (common_positive l p) (subst (λ n. k * common_of l ∣ n) (sym e) d))

-- ---- the turned line
opposite_size : (z : ℤ) → unsigned_abs (neg_ℤ z) ≡ unsigned_abs z
opposite_size z = omega (arith, ints)

sign_size : (a z : ℤ) → is_zero a ≡ false → unsigned_abs (sign a *ℤ z) ≡ unsigned_abs z
sign_size (pos zero) z h = cc
sign_size (pos (suc n)) z h = ap unsigned_abs (one-*ℤ z)
sign_size (negsuc n) z h = ap unsigned_abs (neg_ℤ-*ℤ (pos 1) z ∙ ap neg_ℤ (one-*ℤ z)) ∙ opposite_size z

against_size : (a z : ℤ) → is_zero a ≡ false → unsigned_abs (neg_ℤ (sign a) *ℤ z) ≡ unsigned_abs z
against_size a z h = ap unsigned_abs (neg_ℤ-*ℤ (sign a) z) ∙ (opposite_size (sign a *ℤ z) ∙ sign_size a z h)

module _ (l : Line) (j : ℕ) (in_row : j < length l.cells) (other : is_zero (cell l.cells j) ≡ false) (k : ℕ) (h : All (λ z. k ∣ unsigned_abs z) ((turned l j).denom ∷ (turned l j).constant ∷ (turned l j).cells)) where
  abbrev s : ℤ
  s = sign (cell l.cells j)

  abbrev In : ℤ → Type 0
  In z = k ∣ unsigned_abs z

  head : In (turned l j).denom
  head = All-head (λ z. k ∣ unsigned_abs z) (turned l j).denom ((turned l j).constant ∷ (turned l j).cells) h

  rest : All (λ z. k ∣ unsigned_abs z) ((turned l j).constant ∷ (turned l j).cells)
  rest = All-tail (λ z. k ∣ unsigned_abs z) (turned l j).denom ((turned l j).constant ∷ (turned l j).cells) h

  constant_in : In l.constant
  constant_in = subst (λ n. k ∣ n) (against_size (cell l.cells j) l.constant other) (All-head (λ z. k ∣ unsigned_abs z) (turned l j).constant (turned l j).cells rest)

  size : length (turned l j).cells ≡ length l.cells
  size = length-set (scale (neg_ℤ (sign (cell l.cells j))) l.cells) j (sign (cell l.cells j) *ℤ l.denom) ∙ length-scale (neg_ℤ (sign (cell l.cells j))) l.cells

  cells_in : All (λ z. k ∣ unsigned_abs z) (turned l j).cells
  cells_in = All-tail (λ z. k ∣ unsigned_abs z) (turned l j).constant (turned l j).cells rest

  cell_in : (i : ℕ) → i < length l.cells → In (cell (turned l j).cells i)
  cell_in i b = cells_in i (pos 0) (omega (arith, size))

  denom_in : In l.denom
  denom_in =
      let b : j < length (scale (neg_ℤ (sign (cell l.cells j))) l.cells) = omega (arith, length-scale (neg_ℤ (sign (cell l.cells j))) l.cells) in
      let e : cell (turned l j).cells j ≡ sign (cell l.cells j) *ℤ l.denom = get_or-set_same (scale (neg_ℤ (sign (cell l.cells j))) l.cells) j (sign (cell l.cells j) *ℤ l.denom) (pos 0) b in
      subst (λ n. k ∣ n) (ap unsigned_abs e ∙ sign_size (cell l.cells j) l.denom other) (cell_in j in_row)

  old_in : (i : ℕ) → i < length l.cells → (i ≡ j) ⊎ (i ≢ j) → In (cell l.cells i)
  old_in i b (inl q) = subst (λ n. k ∣ unsigned_abs (cell l.cells n)) (sym q) head
  old_in i b (inr n) =
      let e : cell (turned l j).cells i ≡ neg_ℤ (sign (cell l.cells j)) *ℤ cell l.cells i = get_or-set_other (scale (neg_ℤ (sign (cell l.cells j))) l.cells) j i (sign (cell l.cells j) *ℤ l.denom) (pos 0) n ∙ cell-scale (neg_ℤ (sign (cell l.cells j))) l.cells i in
      subst (λ n. k ∣ n) (ap unsigned_abs e ∙ against_size (cell l.cells j) (cell l.cells i) other) (cell_in i b)

  all_in : All (λ z. k ∣ unsigned_abs z) (l.denom ∷ l.constant ∷ l.cells)
  all_in = All-cons (λ z. k ∣ unsigned_abs z) l.denom (l.constant ∷ l.cells) denom_in (All-cons (λ z. k ∣ unsigned_abs z) l.constant l.cells constant_in (λ i d b. subst (λ (z : ℤ). k ∣ unsigned_abs z) (get_or_default l.cells i (pos 0) d b) (old_in i b (cases_eq i j))))

pub turned_lowest : (l : Line) (j : ℕ) → j < length l.cells → cell l.cells j ≢ pos 0 → IsLowest l → IsLowest (turned l j)
turned_lowest l j b n e = lowest_of (turned l j) (λ k h. divides_one l k e (all_in l j b (zero_no (cell l.cells j) n) k h))

-- ---- all lines
moved_lowest : (t : Line) (j : ℕ) (l x : Line) → ((f : Line) → f ≡ combined (factors t.denom (cell l.cells j)) l t j → pos 0 <ℤ f.denom) → IsLowest l → moved t j l ≡ Some x → IsLowest x
moved_lowest t j l x p low e = go (is_zero (cell l.cells j)) e
  where
    whole : (b : Bool) → cond b None (Some (reduced (combined (factors t.denom (cell l.cells j)) l t j))) ≡ Some x → IsLowest x
    whole true e = absurd (cc)
    whole false e =
        let k : reduced (combined (factors t.denom (cell l.cells j)) l t j) ≡ x = cc in
        subst IsLowest k (reduced_lowest (combined (factors t.denom (cell l.cells j)) l t j) (p (combined (factors t.denom (cell l.cells j)) l t j) refl))

    go : (b : Bool) → cond b (Some l) (cond (combination_wide (factors t.denom (cell l.cells j)) l t j) None (Some (reduced (combined (factors t.denom (cell l.cells j)) l t j)))) ≡ Some x → IsLowest x
    go true e = let k : l ≡ x = cc in subst IsLowest k low
    go false e = whole (combination_wide (factors t.denom (cell l.cells j)) l t j) e

-- the lines after a pivot are in lowest terms where those before it are
pub pivoted_lowest : (w r j : ℕ) (lines new : List Line) → r < length lines → j < w → All (IsLine w) lines → cell (get_or lines r no_line).cells j ≢ pos 0 → All IsLowest lines → pivoted_from 0 (turned (get_or lines r no_line) j) r j lines ≡ Some new → All IsLowest new
pivoted_lowest w r j lines new row column sound nonzero low e = λ i d b. go i d b (cases_eq i r)
  where
    t : Line
    t = turned (get_or lines r no_line) j

    v : Pivots 0 (turned (get_or lines r no_line) j) r j lines new
    v = pivoted_from_is 0 (turned (get_or lines r no_line) j) r j lines new e

    wide : j < length (get_or lines r no_line).cells
    wide = let s = (sound r no_line row).width in omega arith

    go : (i : ℕ) (d : Line) → i < length new → (i ≡ r) ⊎ (i ≢ r) → IsLowest (get_or new i d)
    go i d b (inl q) =
        let same : get_or new i d ≡ turned (get_or lines r no_line) j = get_or_default new i d no_line b ∙ v.pivot i (let c = v.count in omega arith) (omega arith) in
        subst IsLowest (sym same) (turned_lowest (get_or lines r no_line) j wide nonzero (low r no_line row))
    go i d b (inr n) =
        let c = v.count in
        let in_old : i < length lines = omega arith in
        let l = get_or lines i no_line in
        let m : moved (turned (get_or lines r no_line) j) j (get_or lines i no_line) ≡ Some (get_or new i no_line) = v.others i in_old (λ q. n (omega arith)) in
        subst IsLowest (sym (get_or_default new i d no_line b))
        (moved_lowest (turned (get_or lines r no_line) j) j l (get_or new i no_line)
        (λ f q. subst (λ (x : Line). pos 0 <ℤ x.denom) (sym q) (mul_pos (factors (turned (get_or lines r no_line) j).denom (cell l.cells j)).own l.denom (own_positive (turned (get_or lines r no_line) j).denom (cell l.cells j) (abs_pos (cell (get_or lines r no_line).cells j) (zero_no (cell (get_or lines r no_line).cells j) nonzero))) (sound i no_line in_old).positive))
        (low i no_line in_old) m)

-- a line whose denominator is 1 is
pub one_lowest : (l : Line) → l.denom ≡ pos 1 → IsLowest l
one_lowest l e = lowest_of l (λ k h. subst (λ (z : ℤ). k ∣ unsigned_abs z) e (All-head (λ z. k ∣ unsigned_abs z) l.denom (l.constant ∷ l.cells) h))
