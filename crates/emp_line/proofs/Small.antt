-- Lines whose numbers are below 2^62 form no wide number.
use Rattle.std.proofs.Common.{◌≡◌, ◌≢◌, ℕ, ◌*◌, ◌<◌, ◌≤◌, ◌^◌, ℤ, pos, ◌+ℤ◌, ◌*ℤ◌, unsigned_abs, int_div, Bool, true, false, cond, ◌||◌, List, [], ◌∷◌, set, length, arith, refl, ap, sym, subst, ◌∙◌}
use Rattle.std.specs.List.{All}
use Rattle.std.proofs.lemmas.Int.{ints, unsigned_abs-mul}
use Rattle.std.proofs.lemmas.List.Elements.{All-head, All-tail, All-set, All-get_or}
use Rattle.emp_algebra.specs.Vector.{cell}
use Rattle.emp_num.specs.Exact.{IsNarrow}
use Rattle.emp_num.specs.Gcd.{gcd_of}
use Rattle.emp_line.specs.declared.line.Line.{Line}
use Rattle.emp_line.specs.Pivot.{Factors, factors, step_wide, steps_wide, combination_wide}
use Rattle.emp_line.proofs.Steps.{none_wide, zero_no}
use Rattle.std.proofs.Math.Nat.{mul-le-mul}
use Rattle.emp_line.proofs.Sound.{quotient_small}
use Rattle.emp_line.proofs.Joins.{narrow_all}
use Rattle.emp_line.specs.Place.{IsSmall, IsSmallLine, moved_wide}

count_product : (a b : ℕ) → a < 2 ^ 62 → b < 2 ^ 62 → a * b ≤ 2 ^ 124
count_product a b h k = let p : a ≤ 2 ^ 62 = omega arith in let q : b ≤ 2 ^ 62 = omega arith in mul-le-mul p q

small_product : (x y : ℤ) → IsSmall x → IsSmall y → unsigned_abs (x *ℤ y) ≤ 2 ^ 124
small_product x y h k = subst (λ n. n ≤ 2 ^ 124) (sym (unsigned_abs-mul x y)) (count_product (unsigned_abs x) (unsigned_abs y) h k)

pub product_narrow : (x y : ℤ) → IsSmall x → IsSmall y → IsNarrow (x *ℤ y)
product_narrow x y h k = let p = small_product x y h k in omega arith

sum_of_small : (p q : ℤ) → unsigned_abs p ≤ 2 ^ 124 → unsigned_abs q ≤ 2 ^ 124 → IsNarrow (p +ℤ q)
sum_of_small p q h k = omega (arith, ints)

pub small_step : (f : Factors) (a b : ℤ) → IsSmall f.own → IsSmall f.other → IsSmall a → IsSmall b → step_wide f a b ≡ false
small_step f a b h k m n = none_wide f a b (product_narrow f.own a h m) (product_narrow f.other b k n) (sum_of_small (f.own *ℤ a) (f.other *ℤ b) (small_product f.own a h m) (small_product f.other b k n))

pub small_steps : (f : Factors) (as' bs : List ℤ) → IsSmall f.own → IsSmall f.other → All IsSmall as' → All IsSmall bs → steps_wide f as' bs ≡ false
small_steps f [] bs h k m n = refl
small_steps f (a ∷ as') [] h k m n = refl
small_steps f (a ∷ as') (b ∷ bs) h k m n =
    ap (λ w. w || steps_wide f as' bs) (small_step f a b h k (All-head IsSmall a as' m) (All-head IsSmall b bs n)) ∙ small_steps f as' bs h k (All-tail IsSmall a as' m) (All-tail IsSmall b bs n)

quotient_is_small : (a : ℤ) (g : ℕ) → IsSmall a → IsSmall (int_div a (pos g))
quotient_is_small a g h = let e = quotient_small a g in omega arith

-- ---- small lines are moved with no wide number
pub small_moves : (t l : Line) (j : ℕ) → j < length l.cells → IsSmallLine t → IsSmallLine l → combination_wide (factors t.denom (cell l.cells j)) l t j ≡ false
small_moves t l j h s r =
    let f = factors t.denom (cell l.cells j) in
    let here : IsSmall (cell l.cells j) = All-get_or IsSmall l.cells j (pos 0) h r.cells in
    let own : IsSmall (factors t.denom (cell l.cells j)).own = quotient_is_small t.denom (gcd_of (unsigned_abs t.denom) (unsigned_abs (cell l.cells j))) s.denom in
    let other : IsSmall (factors t.denom (cell l.cells j)).other = quotient_is_small (cell l.cells j) (gcd_of (unsigned_abs t.denom) (unsigned_abs (cell l.cells j))) here in
    narrow_all f l t j (product_narrow f.own l.denom own r.denom) (small_step f l.constant t.constant own other r.constant s.constant)
    (small_steps f (set l.cells j (pos 0)) t.cells own other (All-set IsSmall l.cells j (pos 0) (omega arith) r.cells) s.cells)

pub cond_same : (b : Bool) → cond b false false ≡ false
cond_same true = refl
cond_same false = refl

pub moved_test : (t l : Line) (j : ℕ) (f : Factors) (w : Bool) → cell l.cells j ≢ pos 0 → f ≡ factors t.denom (cell l.cells j) → w ≡ combination_wide f l t j → w ≡ moved_wide t j l
moved_test t l j f w n e h =
    h ∙ (ap (λ g. combination_wide g l t j) e ∙ sym (ap (λ b. cond b false (combination_wide (factors t.denom (cell l.cells j)) l t j)) (zero_no (cell l.cells j) n)))
