-- The divisor of a line begun with its denominator and one of its cells.
use Rattle.std.proofs.Common.{◌≡◌, ℕ, zero, ◌+◌, ◌<◌, ◌^◌, ◌≤◌, ℤ, pos, ◌*ℤ◌, List, [], ◌∷◌, length, get_or, unsigned_abs, int_div, refl, sym, ap, subst, ◌∙◌, drop, to_z-of_z}
use Prim.Native.Nat.{◌∣◌}
use native.Mathlib.Nat.{eq-one_of_dvd-one, one-dvd}
use lib.IntN.{*ℤ-one}
use Rattle.std.specs.List.{All}
use Rattle.std.proofs.lemmas.Nat.Gcd.{dvd_trans, dvd_antisymm}
use Rattle.std.proofs.lemmas.List.Elements.{All-head, All-tail}
use Rattle.emp_algebra.specs.Vector.{cell, quotients}
use Rattle.emp_num.specs.Gcd.{gcd_of, content_from, content_of}
use Rattle.emp_num.proofs.Gcds.{quot_exact}
use Rattle.emp_num.proofs.GcdLaws.{content_divides}
use Rattle.std.specs.Int.{IsGcd}
use Rattle.std.proofs.lemmas.List.{drop_more, drop_all}
use Rattle.emp_num.proofs.Divisors.{IsGcd-gcd_of, gcd_of_is, gcd_of_zero}
use Rattle.emp_line.specs.declared.cells.Cell.{Cell}
use Rattle.emp_line.specs.Sparse.{no_cell, numbers}
use Rattle.emp_line.specs.declared.line.Line.{Line}
use Rattle.emp_line.specs.Pivot.{line_content, reduced}
use Rattle.emp_line.specs.Lines.{IsLine}
use Rattle.emp_line.proofs.Joins.{line_eq}
use Rattle.emp_line.proofs.Sound.{common_positive, common_narrow}
use Rattle.emp_line.specs.Place.{divided_line}

pub content_one : (zs : List ℤ) → content_from 1 zs ≡ 1
content_one zs = eq-one_of_dvd-one (content_divides 1 zs).first

-- one more number
pub content_next : (g h : ℕ) (cs : List Cell) (k : ℕ) → k < length cs → IsGcd g (unsigned_abs (get_or cs k no_cell).number) h → content_from h (numbers (drop (k + 1) cs)) ≡ content_from g (numbers (drop k cs))
content_next g h cs k b d =
    ap (λ m. content_from m (numbers (drop (k + 1) cs))) (gcd_of_is g (unsigned_abs (get_or cs k no_cell).number) h d) ∙ ap (λ ls. content_from g (numbers ls)) (sym (drop_more cs k no_cell b))

pub content_end : (g : ℕ) (cs : List Cell) (k t : ℕ) → content_from g (numbers (drop k cs)) ≡ t → length cs ≤ k → g ≡ t
content_end g cs k t e h = sym (ap (λ ls. content_from g (numbers ls)) (drop_all k cs h)) ∙ e

pub ruleset folding = (to_z-of_z, content_end, content_one)

-- what divides the start and all numbers divides their content
pub content_greatest : (n g : ℕ) (zs : List ℤ) → n ∣ g → All (λ z. n ∣ unsigned_abs z) zs → n ∣ content_from g zs
content_greatest n g [] h a = h
content_greatest n g (z ∷ zs) h a =
    content_greatest n (gcd_of g (unsigned_abs z)) zs ((IsGcd-gcd_of g (unsigned_abs z)).2 n h (All-head (λ w. n ∣ unsigned_abs w) z zs a)) (All-tail (λ w. n ∣ unsigned_abs w) z zs a)

-- a cell taken twice changes nothing
pub seed_is : (d k : ℕ) (zs : List ℤ) (j : ℕ) → j < length zs → content_from (gcd_of (gcd_of d (unsigned_abs (cell zs j))) k) zs ≡ content_from (gcd_of d k) zs
seed_is d k zs j h =
    dvd_antisymm
    (content_greatest (content_from (gcd_of (gcd_of d (unsigned_abs (cell zs j))) k) zs) (gcd_of d k) zs
    (let h1 = content_divides (gcd_of (gcd_of d (unsigned_abs (cell zs j))) k) zs in
    let g1 = IsGcd-gcd_of (gcd_of d (unsigned_abs (cell zs j))) k in
    let g2 = IsGcd-gcd_of d (unsigned_abs (cell zs j)) in
    let n : ℕ = content_from (gcd_of (gcd_of d (unsigned_abs (cell zs j))) k) zs in
    (IsGcd-gcd_of d k).2 (content_from (gcd_of (gcd_of d (unsigned_abs (cell zs j))) k) zs) (dvd_trans n (dvd_trans n h1.first g1.0) g2.0) (dvd_trans n h1.first g1.1))
    (content_divides (gcd_of (gcd_of d (unsigned_abs (cell zs j))) k) zs).all)
    (content_greatest (content_from (gcd_of d k) zs) (gcd_of (gcd_of d (unsigned_abs (cell zs j))) k) zs
    (let h1 = content_divides (gcd_of d k) zs in
    let g1 = IsGcd-gcd_of d k in
    let n : ℕ = content_from (gcd_of d k) zs in
    let in_d : n ∣ d = dvd_trans n h1.first g1.0 in
    let in_k : n ∣ k = dvd_trans n h1.first g1.1 in
    let in_c : n ∣ unsigned_abs (cell zs j) = h1.all j (pos 0) h in
    (IsGcd-gcd_of (gcd_of d (unsigned_abs (cell zs j))) k).2 n ((IsGcd-gcd_of d (unsigned_abs (cell zs j))).2 n in_d in_c) in_k)
    (content_divides (gcd_of d k) zs).all)

-- the content of a line, so begun
pub begun : (l : Line) (j : ℕ) → j < length l.cells → content_from (gcd_of (gcd_of (unsigned_abs l.denom) (unsigned_abs (cell l.cells j))) (unsigned_abs l.constant)) l.cells ≡ content_of (l.denom ∷ l.constant ∷ l.cells)
begun l j h =
    seed_is (unsigned_abs l.denom) (unsigned_abs l.constant) l.cells j h ∙ ap (λ n. content_from (gcd_of n (unsigned_abs l.constant)) l.cells) (sym (gcd_of_zero (unsigned_abs l.denom)))

gcd_one : (k : ℕ) → gcd_of 1 k ≡ 1
gcd_one k = eq-one_of_dvd-one (IsGcd-gcd_of 1 k).0

-- a seed of 1 ends the search at once
pub divisor_seed : (l : Line) (j s : ℕ) → j < length l.cells → s ≡ gcd_of (unsigned_abs l.denom) (unsigned_abs (cell l.cells j)) → s ≡ 1 → pos 1 ≡ line_content l
divisor_seed l j s h e o =
    ap pos (sym (sym (begun l j h) ∙ (ap (λ n. content_from (gcd_of n (unsigned_abs l.constant)) l.cells) (sym e ∙ o) ∙ (ap (λ n. content_from n l.cells) (gcd_one (unsigned_abs l.constant)) ∙ content_one l.cells))))

pub divisor_whole : (l : Line) (j s g c : ℕ) → j < length l.cells → s ≡ gcd_of (unsigned_abs l.denom) (unsigned_abs (cell l.cells j)) → g ≡ gcd_of s (unsigned_abs l.constant) → c ≡ content_from g l.cells → pos c ≡ line_content l
divisor_whole l j s g c h e f k =
    ap pos (k ∙ (ap (λ n. content_from n l.cells) (f ∙ ap (λ n. gcd_of n (unsigned_abs l.constant)) e) ∙ begun l j h))

-- ---- nothing is divided by 1
by_one : (z : ℤ) → int_div z (pos 1) ≡ z
unfolding lib.IntN.one
by_one z = sym (*ℤ-one (int_div z (pos 1))) ∙ quot_exact z (pos 1) (one-dvd (unsigned_abs z))

all_by_one : (r : List ℤ) → quotients r (pos 1) ≡ r
all_by_one [] = refl
all_by_one (z ∷ r) = ap (λ x. x ∷ quotients r (pos 1)) (by_one z) ∙ ap (λ s. z ∷ s) (all_by_one r)

pub reduced_still : (l : Line) (g : ℤ) → g ≡ line_content l → g ≡ pos 1 → l ≡ reduced l
reduced_still l g e o =
    sym (ap (λ n. divided_line l n) (sym e ∙ o) ∙ line_eq (int_div l.denom (pos 1)) l.denom (int_div l.constant (pos 1)) l.constant (quotients l.cells (pos 1)) l.cells (by_one l.denom) (by_one l.constant) (all_by_one l.cells))

pub reduced_by : (l k : Line) (g : ℤ) → g ≡ line_content l → k ≡ divided_line l g → k ≡ reduced l
reduced_by l k g e h = h ∙ ap (λ n. divided_line l n) e

-- the content is above 0 and narrow
pub content_positive : (l : Line) (g : ℕ) → pos g ≡ line_content l → IsLine (length l.cells) l → 0 < g
content_positive l g e s = let same : g ≡ content_of (l.denom ∷ l.constant ∷ l.cells) = cc in subst (λ n. 0 < n) (sym same) (common_positive l s.positive)

pub content_narrow : (l : Line) (g : ℕ) → pos g ≡ line_content l → IsLine (length l.cells) l → g < 2 ^ 126
content_narrow l g e s = let same : g ≡ content_of (l.denom ∷ l.constant ∷ l.cells) = cc in subst (λ n. n < 2 ^ 126) (sym same) (common_narrow l s.positive s.denom)

pub ruleset seeding = (divisor_seed, divisor_whole, content_positive, content_narrow)

pub ruleset reducing = (reduced_still, reduced_by)
