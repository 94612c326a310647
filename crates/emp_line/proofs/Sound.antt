-- What the steps of a pivot keep: denominators above 0, narrow numbers, the number of columns.
use Rattle.std.proofs.Common.{ℕ, zero, suc, ◌<◌, ◌≤◌, ◌^◌, ◌≡◌, ◌≢◌, ℤ, pos, negsuc, neg_ℤ, ◌+ℤ◌, ◌*ℤ◌, ◌<ℤ◌, unsigned_abs, int_div, false, ◌||◌, List, [], ◌∷◌, set, length, arith, refl, ap, sym, subst, ◌∙◌, length-set}
use Prim.Native.Nat.{◌∣◌}
use native.Mathlib.Nat.{pos_of_dvd_of_pos}
use Rattle.std.specs.List.{All}
use Rattle.std.proofs.lemmas.Int.{ints}
use Rattle.std.proofs.Math.Nat.{div-le_self}
use Rattle.std.proofs.lemmas.Nat.Gcd.{dvd_refl, dvd_trans, le_of_dvd}
use Rattle.std.proofs.lemmas.List.Elements.{All-nil, All-cons, All-head, All-tail, All-set, All-get_or}
use Rattle.emp_algebra.specs.Vector.{cell, scale, add_rows, quotients}
use Rattle.emp_algebra.proofs.Laws.{mul_pos, one-*ℤ, neg_ℤ-*ℤ}
use Rattle.emp_algebra.proofs.Vectors.{length-scale}
use Rattle.emp_num.specs.Exact.{IsNarrow}
use Rattle.emp_num.specs.Gcd.{gcd_of, content_from, content_of}
use Rattle.emp_num.proofs.Gcds.{quot_exact, positive_from_product}
use Rattle.emp_num.proofs.Divisors.{IsGcd-gcd_of, gcd_of_zero}
use Rattle.emp_line.specs.declared.line.Line.{Line}
use Rattle.emp_line.specs.Pivot.{sign, is_wide, line_content, reduced, turned, Factors, factors, combined, step_wide, steps_wide, combination_wide}
use Rattle.emp_line.specs.Lines.{IsLine}
use Rattle.emp_line.proofs.Steps.{narrow_from, or_left, or_right}

-- ---- contents
pub gcd_positive : (h : ℤ) (a : ℕ) → pos 0 <ℤ h → 0 < gcd_of (unsigned_abs h) a
gcd_positive h a p = let q : 0 < unsigned_abs h = omega (arith, ints) in pos_of_dvd_of_pos (IsGcd-gcd_of (unsigned_abs h) a).0 q

pub gcd_narrow : (h : ℤ) (a : ℕ) → pos 0 <ℤ h → IsNarrow h → gcd_of (unsigned_abs h) a < 2 ^ 126
gcd_narrow h a p n =
    let q : 0 < unsigned_abs h = omega (arith, ints) in
    let l : gcd_of (unsigned_abs h) a ≤ unsigned_abs h = le_of_dvd q (IsGcd-gcd_of (unsigned_abs h) a).0 in
    omega arith

pub content_from-divides : (g : ℕ) (zs : List ℤ) → content_from g zs ∣ g
content_from-divides g [] = dvd_refl g
content_from-divides g (z ∷ zs) = dvd_trans (content_from (gcd_of g (unsigned_abs z)) zs) (content_from-divides (gcd_of g (unsigned_abs z)) zs) (IsGcd-gcd_of g (unsigned_abs z)).0

-- what the numbers of a line have in common
abbrev pub common_of : Line → ℕ
common_of l = content_of (l.denom ∷ l.constant ∷ l.cells)

pub common_divides : (l : Line) → common_of l ∣ unsigned_abs l.denom
common_divides l =
    let first : common_of l ∣ gcd_of (gcd_of 0 (unsigned_abs l.denom)) (unsigned_abs l.constant) = content_from-divides (gcd_of (gcd_of 0 (unsigned_abs l.denom)) (unsigned_abs l.constant)) l.cells in
    let second : common_of l ∣ gcd_of 0 (unsigned_abs l.denom) = dvd_trans (common_of l) first (IsGcd-gcd_of (gcd_of 0 (unsigned_abs l.denom)) (unsigned_abs l.constant)).0 in
    subst (λ n. common_of l ∣ n) (gcd_of_zero (unsigned_abs l.denom)) second

pub common_positive : (l : Line) → pos 0 <ℤ l.denom → 0 < common_of l
common_positive l p = let q : 0 < unsigned_abs l.denom = omega (arith, ints) in pos_of_dvd_of_pos (common_divides l) q

pub common_narrow : (l : Line) → pos 0 <ℤ l.denom → IsNarrow l.denom → common_of l < 2 ^ 126
common_narrow l p n =
    let q : 0 < unsigned_abs l.denom = omega (arith, ints) in
    let k : common_of l ≤ unsigned_abs l.denom = le_of_dvd q (common_divides l) in
    omega arith

-- ---- quotients
pub quotient_small : (a : ℤ) (g : ℕ) → unsigned_abs (int_div a (pos g)) ≤ unsigned_abs a
quotient_small (pos a) g = div-le_self a g
quotient_small (negsuc a) g = omega (arith, ints, div-le_self (suc a) g)

pub quotient_narrow : (a : ℤ) (g : ℕ) → IsNarrow a → IsNarrow (int_div a (pos g))
quotient_narrow a g h = let k = quotient_small a g in omega (arith, quotient_small a g)

pub quotients_narrow : (r : List ℤ) (g : ℕ) → All IsNarrow r → All IsNarrow (quotients r (pos g))
quotients_narrow [] g h = All-nil IsNarrow
quotients_narrow (z ∷ r) g h = All-cons IsNarrow (int_div z (pos g)) (quotients r (pos g)) (quotient_narrow z g (All-head IsNarrow z r h)) (quotients_narrow r g (All-tail IsNarrow z r h))

pub length-quotients : (r : List ℤ) (g : ℤ) → length (quotients r g) ≡ length r
length-quotients [] g = refl
length-quotients (z ∷ r) g = ap suc (length-quotients r g)

pub quotient_positive : (a : ℤ) (g : ℕ) → g ∣ unsigned_abs a → 0 < g → pos 0 <ℤ a → pos 0 <ℤ int_div a (pos g)
quotient_positive a g d p q = positive_from_product (int_div a (pos g)) (pos g) a (quot_exact a (pos g) d) (omega (arith, ints)) q

pub reduced_sound : (w : ℕ) (l : Line) → IsLine w l → IsLine w (reduced l)
reduced_sound w l s = record {
  width = length-quotients l.cells (line_content l) ∙ s.width;
  positive = quotient_positive l.denom (common_of l) (common_divides l) (common_positive l s.positive) s.positive;
  denom = quotient_narrow l.denom (common_of l) s.denom;
  constant = quotient_narrow l.constant (common_of l) s.constant;
  cells = quotients_narrow l.cells (common_of l) s.cells;
}

-- ---- sums of multiples
pub step_narrow : (f : Factors) (a b : ℤ) → step_wide f a b ≡ false → IsNarrow (f.own *ℤ a +ℤ f.other *ℤ b)
step_narrow f a b e = narrow_from (f.own *ℤ a +ℤ f.other *ℤ b) (or_right (is_wide (f.own *ℤ a) || is_wide (f.other *ℤ b)) (is_wide (f.own *ℤ a +ℤ f.other *ℤ b)) e)

pub steps_narrow : (f : Factors) (as' bs : List ℤ) → length bs ≡ length as' → steps_wide f as' bs ≡ false → All IsNarrow (add_rows (scale f.own as') (scale f.other bs))
steps_narrow f [] [] l e = All-nil IsNarrow
steps_narrow f [] (b ∷ bs) l e = absurd (omega arith)
steps_narrow f (a ∷ as') [] l e = absurd (omega arith)
steps_narrow f (a ∷ as') (b ∷ bs) l e =
    All-cons IsNarrow (f.own *ℤ a +ℤ f.other *ℤ b) (add_rows (scale f.own as') (scale f.other bs)) (step_narrow f a b (or_left (step_wide f a b) (steps_wide f as' bs) e)) (steps_narrow f as' bs (omega arith) (or_right (step_wide f a b) (steps_wide f as' bs) e))

pub length-combined : (f : Factors) (as' bs : List ℤ) → length bs ≡ length as' → length (add_rows (scale f.own as') (scale f.other bs)) ≡ length as'
length-combined f [] [] l = refl
length-combined f [] (b ∷ bs) l = absurd (omega arith)
length-combined f (a ∷ as') [] l = absurd (omega arith)
length-combined f (a ∷ as') (b ∷ bs) l = ap suc (length-combined f as' bs (omega arith))

pub own_positive : (h a : ℤ) → pos 0 <ℤ h → pos 0 <ℤ (factors h a).own
own_positive h a p = quotient_positive h (gcd_of (unsigned_abs h) (unsigned_abs a)) (IsGcd-gcd_of (unsigned_abs h) (unsigned_abs a)).0 (gcd_positive h (unsigned_abs a) p) p

pub combined_sound : (w : ℕ) (f : Factors) (l t : Line) (j : ℕ) → IsLine w l → IsLine w t → pos 0 <ℤ f.own → combination_wide f l t j ≡ false → IsLine w (combined f l t j)
combined_sound w f l t j s r p e =
    let front : (is_wide (f.own *ℤ l.denom) || step_wide f l.constant t.constant) ≡ false = or_left (is_wide (f.own *ℤ l.denom) || step_wide f l.constant t.constant) (steps_wide f (set l.cells j (pos 0)) t.cells) e in
    let same : length t.cells ≡ length (set l.cells j (pos 0)) = r.width ∙ (sym s.width ∙ sym (length-set l.cells j (pos 0))) in
    record {
      width = length-combined f (set l.cells j (pos 0)) t.cells same ∙ (length-set l.cells j (pos 0) ∙ s.width);
      positive = mul_pos f.own l.denom p s.positive;
      denom = narrow_from (f.own *ℤ l.denom) (or_left (is_wide (f.own *ℤ l.denom)) (step_wide f l.constant t.constant) front);
      constant = step_narrow f l.constant t.constant (or_right (is_wide (f.own *ℤ l.denom)) (step_wide f l.constant t.constant) front);
      cells = steps_narrow f (set l.cells j (pos 0)) t.cells same (or_right (is_wide (f.own *ℤ l.denom) || step_wide f l.constant t.constant) (steps_wide f (set l.cells j (pos 0)) t.cells) e);
    }

-- ---- the turned line
sign_keeps : (a z : ℤ) → IsNarrow z → IsNarrow (sign a *ℤ z)
sign_keeps (pos zero) z h = omega (arith, ints)
sign_keeps (pos (suc n)) z h = subst IsNarrow (sym (one-*ℤ z)) h
sign_keeps (negsuc n) z h = let e : negsuc 0 *ℤ z ≡ neg_ℤ z = neg_ℤ-*ℤ (pos 1) z ∙ ap neg_ℤ (one-*ℤ z) in subst IsNarrow (sym e) (omega (arith, ints))

against_keeps : (a z : ℤ) → IsNarrow z → IsNarrow (neg_ℤ (sign a) *ℤ z)
against_keeps a z h = subst IsNarrow (sym (neg_ℤ-*ℤ (sign a) z)) (let k = sign_keeps a z h in omega (arith, ints))

scaled_narrow : (a : ℤ) (r : List ℤ) → All IsNarrow r → All IsNarrow (scale (neg_ℤ (sign a)) r)
scaled_narrow a [] h = All-nil IsNarrow
scaled_narrow a (z ∷ r) h = All-cons IsNarrow (neg_ℤ (sign a) *ℤ z) (scale (neg_ℤ (sign a)) r) (against_keeps a z (All-head IsNarrow z r h)) (scaled_narrow a r (All-tail IsNarrow z r h))

pub turned_sound : (w : ℕ) (l : Line) (j : ℕ) → IsLine w l → j < w → cell l.cells j ≢ pos 0 → IsLine w (turned l j)
turned_sound w l j s h nonzero =
    let a : ℤ = cell l.cells j in
    let narrow : IsNarrow (cell l.cells j) = All-get_or IsNarrow l.cells j (pos 0) (subst (λ n. j < n) (sym s.width) h) s.cells in
    record {
      width = length-set (scale (neg_ℤ (sign (cell l.cells j))) l.cells) j (sign (cell l.cells j) *ℤ l.denom) ∙ (length-scale (neg_ℤ (sign (cell l.cells j))) l.cells ∙ s.width);
      positive = omega (arith, ints);
      denom = narrow;
      constant = against_keeps (cell l.cells j) l.constant s.constant;
      cells = All-set IsNarrow (scale (neg_ℤ (sign (cell l.cells j))) l.cells) j (sign (cell l.cells j) *ℤ l.denom) (sign_keeps (cell l.cells j) l.denom s.denom) (scaled_narrow (cell l.cells j) l.cells s.cells);
    }
