-- The folds of values.
use Rattle.std.proofs.Common.{◌≡◌, inl, inr, ℕ, ◌+◌, ◌<◌, ◌≤◌, Bool, true, false, cond, ◌&&◌, ℤ, pos, ◌+ℤ◌, ◌*ℤ◌, ◌<ℤ◌, List, length, get_or, drop, Some, None, option_and_then, arith, refl, sym, ap, ap₂, ◌∙◌}
use Rattle.std.proofs.lemmas.Int.{ints, to_z-of_z}
use Rattle.std.proofs.lemmas.List.{drop_more, drop_all}
use Rattle.emp_algebra.proofs.Laws.{mul_pos}
use Rattle.emp_num.specs.Exact.{IsNarrow, IsWide}
use Rattle.emp_num.specs.FracSpec.{IsQuotient, AddsNarrow, AddsWide}
use Rattle.emp_num.specs.declared.frac.Frac.{Frac}
use Rattle.emp_num.specs.Ratio.{Ratio}
use Rattle.emp_num.specs.SamePoint.{lowest}
use Rattle.emp_num.proofs.SamePoints.{fraction_is_lowest}
use Rattle.emp_rows.specs.Values.{is_narrow, ratio_of, checked_term, adds_narrow, checked_plus, valued_step, valued}
use Rattle.emp_rows.proofs.Tests.{narrow_true, wide_false}

pub quotient_is : (r : Frac) (n d : ℤ) → pos 0 <ℤ d → IsQuotient r n d → ratio_of r ≡ lowest n d
quotient_is r n d p h = fraction_is_lowest r n d p h

pub term_ok : (a : ℤ) (x : Frac) (r : Frac) → IsNarrow (a *ℤ x.num) → IsQuotient r (a *ℤ x.num) x.den → Some (ratio_of r) ≡ checked_term a (ratio_of x)
term_ok a x r h q =
    ap Some (quotient_is r (a *ℤ x.num) x.den x.positive q) ∙ sym (ap (λ b. cond b (Some (lowest (a *ℤ x.num) x.den)) None) (narrow_true (a *ℤ x.num) h))

pub term_wide : (a : ℤ) (x : Frac) → IsWide (a *ℤ x.num) → checked_term a (ratio_of x) ≡ None
term_wide a x h = ap (λ b. cond b (Some (lowest (a *ℤ x.num) x.den)) None) (wide_false (a *ℤ x.num) h)

and_true : (a b : Bool) → a ≡ true → b ≡ true → (a && b) ≡ true
and_true a b e f = ap₂ (λ x y. x && y) e f

and_false : (a b : Bool) → b ≡ false → (a && b) ≡ false
and_false true b e = e
and_false false b e = refl

false_and : (a b : Bool) → a ≡ false → (a && b) ≡ false
false_and a b e = ap (λ x. x && b) e

pub narrow_all : (a b : Frac) → AddsNarrow a b → adds_narrow (ratio_of a) (ratio_of b) ≡ true
narrow_all a b h = and_true _ _ (narrow_true (a.num *ℤ b.den) h.left) (and_true _ _ (narrow_true (b.num *ℤ a.den) h.right) (and_true _ _ (narrow_true (a.num *ℤ b.den +ℤ b.num *ℤ a.den) h.top) (narrow_true (a.den *ℤ b.den) h.bottom)))

pub narrow_not : (a b : Frac) → AddsWide a b → adds_narrow (ratio_of a) (ratio_of b) ≡ false
narrow_not a b (inl h) = false_and _ _ (wide_false (a.num *ℤ b.den) h)
narrow_not a b (inr (inl h)) = and_false (is_narrow (a.num *ℤ b.den)) _ (false_and _ _ (wide_false (b.num *ℤ a.den) h))
narrow_not a b (inr (inr (inl h))) = and_false (is_narrow (a.num *ℤ b.den)) _ (and_false (is_narrow (b.num *ℤ a.den)) _ (false_and _ _ (wide_false (a.num *ℤ b.den +ℤ b.num *ℤ a.den) h)))
narrow_not a b (inr (inr (inr h))) = and_false (is_narrow (a.num *ℤ b.den)) _ (and_false (is_narrow (b.num *ℤ a.den)) _ (and_false (is_narrow (a.num *ℤ b.den +ℤ b.num *ℤ a.den)) _ (wide_false (a.den *ℤ b.den) h)))

pub plus_ok : (a b r : Frac) → AddsNarrow a b → IsQuotient r (a.num *ℤ b.den +ℤ b.num *ℤ a.den) (a.den *ℤ b.den) → Some (ratio_of r) ≡ checked_plus (ratio_of a) (ratio_of b)
plus_ok a b r h q =
    ap Some (quotient_is r (a.num *ℤ b.den +ℤ b.num *ℤ a.den) (a.den *ℤ b.den) (mul_pos a.den b.den a.positive b.positive) q) ∙ sym (ap (λ c. cond c (Some (lowest (a.num *ℤ b.den +ℤ b.num *ℤ a.den) (a.den *ℤ b.den))) None) (narrow_all a b h))

pub plus_wide : (a b : Frac) → AddsWide a b → checked_plus (ratio_of a) (ratio_of b) ≡ None
plus_wide a b h = ap (λ c. cond c (Some (lowest (a.num *ℤ b.den +ℤ b.num *ℤ a.den) (a.den *ℤ b.den))) None) (narrow_not a b h)

pub start_is : (r : Frac) (n : ℤ) → IsQuotient r n (pos 1) → ratio_of r ≡ lowest n (pos 1)
start_is r n q = quotient_is r n (pos 1) (omega (arith, ints)) q

pub ruleset valuing = (to_z-of_z, term_ok, term_wide, plus_ok, plus_wide, start_is)

pub valued-drop : (t : Ratio) (r : List ℤ) (fs : List Frac) (i : ℕ) (f : Frac) → i < length r → length fs ≡ length r → valued t (drop i r) (drop i fs) ≡ option_and_then (λ u. valued u (drop (i + 1) r) (drop (i + 1) fs)) (valued_step t (get_or r i (pos 0)) (ratio_of (get_or fs i f)))
valued-drop t r fs i f h e =
    let k : i < length fs = omega arith in
    rw (drop_more r i (pos 0) h, drop_more fs i f k) refl

pub valued-all : (t : Ratio) (r : List ℤ) (fs : List Frac) (i : ℕ) → length r ≤ i → valued t (drop i r) (drop i fs) ≡ Some t
valued-all t r fs i h = rw (drop_all i r h) refl

pub ruleset folding = (to_z-of_z, valued-drop, valued-all)
