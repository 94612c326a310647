-- The sum over the pairs of a variational inequality, by the signs of its terms.
use Rattle.std.proofs.Common.{◌≡◌, ℕ, zero, suc, ◌≢◌, ℤ, pos, neg_ℤ, ◌+ℤ◌, ◌*ℤ◌, ◌≤ℤ◌, ◌<ℤ◌, List, [], ◌∷◌, Option, Some, None, arith, refl, sym, ap, subst, ◌∙◌}
use Rattle.std.specs.Prelude.{slice_get, option_map}
use Rattle.std.proofs.lemmas.Int.{ints}
use Rattle.emp_algebra.proofs.Laws.{mul_nonneg, mul_pos}
use Rattle.emp_algebra.proofs.Ring.{var, lit, ◌⊕◌, ◌⊗◌, neg, by_ring}
use Rattle.emp_algebra.proofs.Order.{linear, le_cancel_right}
use Rattle.emp_num.specs.Ratio.{Ratio, plus, times}
use Rattle.emp_num.specs.Point.{Point}
use Rattle.emp_num.proofs.SamePoints.{same_itself}
use Rattle.emp_ast.specs.declared.model.Equation.{Equation}
use Rattle.emp_ast.specs.declared.model.Model.{Model}
use Rattle.emp_ast.specs.Value.{both}
use Rattle.emp_ast.specs.Solved.{gap_by, gap, flow, IsAtLeastZero}
use Rattle.emp_ast.specs.SameLaws.{SameValue}
use Rattle.emp_ast.proofs.Fractions.{from_nought}
use Rattle.emp_ast.proofs.SameValues.{same_gap}
use Rattle.emp_mcp.specs.Complementary.{Match, IsThere}

-- ---- signs of products
pub nonneg : (a : ℤ) → pos 0 <ℤ a → pos 0 ≤ℤ a
nonneg a h = omega (arith, ints)

product_up : (a b : ℤ) → pos 0 ≤ℤ a → pos 0 ≤ℤ b → pos 0 ≤ℤ (a *ℤ b)
product_up a b h k = mul_nonneg a b h k

pub product_down : (a b : ℤ) → a ≤ℤ pos 0 → b ≤ℤ pos 0 → pos 0 ≤ℤ (a *ℤ b)
product_down a b h k =
    let e : a *ℤ b ≡ neg_ℤ a *ℤ neg_ℤ b = by_ring (a ∷ b ∷ []) (var 0 ⊗ var 1) (neg (var 0) ⊗ neg (var 1)) refl in
    subst (λ z. pos 0 ≤ℤ z) (sym e) (mul_nonneg (neg_ℤ a) (neg_ℤ b) (omega (arith, ints)) (omega (arith, ints)))

-- ---- values that are there
gap_by_itself : (o : Option Equation) (p : Point) → SameValue (gap_by p o) (gap_by p o)
gap_by_itself (Some q) p = same_gap q p p (same_itself p)
gap_by_itself None p = tt

pub gap_above : (m : Model) (p : Point) (e : ℕ) (f : Ratio) → gap m p e ≡ Some f → pos 0 <ℤ f.bottom
gap_above m p e f is = (subst (λ o. SameValue o o) is (gap_by_itself (slice_get m.equations e) p)).left

-- ---- sums that are at least 0
pub record IsUp (x : Ratio) : Type 0 where
  pub above : pos 0 <ℤ x.bottom
  pub sign : pos 0 ≤ℤ x.top

abbrev pub IsUpThere : Option Ratio → Type 0
IsUpThere (Some x) = IsUp x
IsUpThere None = ⊥

plus_up : (x y : Option Ratio) → IsUpThere x → IsUpThere y → IsUpThere (both (λ x y. Some (plus x y)) x y)
plus_up (Some x) (Some y) h k = record {
  above = mul_pos x.bottom y.bottom h.above k.above;
  sign = let a = mul_nonneg x.top y.bottom h.sign (nonneg y.bottom k.above) in let b = mul_nonneg y.top x.bottom k.sign (nonneg x.bottom h.above) in omega (arith, linear);
}
plus_up (Some x) None h k = absurd k
plus_up None y h k = absurd h

abbrev pub term : Model → Point → (ℕ → Ratio) → Match → Option Ratio
term m p w q = option_map (λ f. times f (w q.1.at)) (gap m p q.0.at)

pub flow_up : (m : Model) (p : Point) (w : ℕ → Ratio) (pairs : List Match) → ((i : ℕ) (q : Match) → slice_get pairs i ≡ Some q → IsUpThere (term m p w q)) → IsUpThere (flow m p w pairs)
flow_up m p w [] h = record { above = omega (arith, ints); sign = omega (arith, ints) }
flow_up m p w (q ∷ qs) h = plus_up (term m p w q) (flow m p w qs) (h 0 q refl) (flow_up m p w qs (λ i r e. h (suc i) r e))

pub up_at_least : (o : Option Ratio) → IsUpThere o → IsAtLeastZero o
up_at_least (Some x) h = (from_nought x).1 h.sign
up_at_least None h = h

-- ---- a sum that is there has terms that are there
both_there : (x y : Option Ratio) → IsThere (both (λ x y. Some (plus x y)) x y) → IsThere x × IsThere y
both_there (Some x) (Some y) h = (tt, tt)
both_there (Some x) None h = absurd h
both_there None y h = absurd h

term_there : (f : Ratio → Ratio) (o : Option Ratio) → IsThere (option_map f o) → IsThere o
term_there f (Some x) h = tt
term_there f None h = h

pub at_least_there : (o : Option Ratio) → IsAtLeastZero o → IsThere o
at_least_there (Some x) h = tt
at_least_there None h = h

pub flow_there : (m : Model) (p : Point) (w : ℕ → Ratio) (pairs : List Match) → IsThere (flow m p w pairs) → (i : ℕ) (q : Match) → slice_get pairs i ≡ Some q → IsThere (gap m p q.0.at)
flow_there m p w [] h i q at = cc
flow_there m p w (r ∷ qs) h zero q at =
    let same : r ≡ q = cc in
    subst (λ s. IsThere (gap m p s.0.at)) same (term_there (λ f. times f (w r.1.at)) (gap m p r.0.at) (both_there (term m p w r) (flow m p w qs) h).0)
flow_there m p w (r ∷ qs) h (suc i) q at = flow_there m p w qs (both_there (term m p w r) (flow m p w qs) h).1 i q at

-- ---- a sum of which one term alone moves
-- where it is there, it is a fraction, and 0
abbrev IsLevel : Option Ratio → Type 0
IsLevel (Some x) = (pos 0 <ℤ x.bottom) × (x.top ≡ pos 0)
IsLevel None = Unit {0}

plus_level : (x y : Option Ratio) → IsLevel x → IsLevel y → IsLevel (both (λ x y. Some (plus x y)) x y)
plus_level (Some x) (Some y) h k = (
  mul_pos x.bottom y.bottom h.0 k.0,
  ap (λ z. z *ℤ y.bottom +ℤ y.top *ℤ x.bottom) h.1 ∙ ap (λ z. pos 0 *ℤ y.bottom +ℤ z *ℤ x.bottom) k.1 ∙ by_ring (x.bottom ∷ y.bottom ∷ []) (lit (pos 0) ⊗ var 1 ⊕ lit (pos 0) ⊗ var 0) (lit (pos 0)) refl,
)
plus_level (Some x) None h k = tt
plus_level None y h k = tt

term_level : (v : Ratio) (o : Option Ratio) → ((f : Ratio) → o ≡ Some f → pos 0 <ℤ f.bottom) → pos 0 <ℤ v.bottom → v.top ≡ pos 0 → IsLevel (option_map (λ f. times f v) o)
term_level v (Some f) a b e = (mul_pos f.bottom v.bottom (a f refl) b, ap (λ z. f.top *ℤ z) e ∙ by_ring (f.top ∷ []) (var 0 ⊗ lit (pos 0)) (lit (pos 0)) refl)
term_level v None a b e = tt

module _ (m : Model) (p : Point) (w : ℕ → Ratio) (above : (v : ℕ) → pos 0 <ℤ (w v).bottom) where
  flow_level : (pairs : List Match) → ((i : ℕ) (q : Match) → slice_get pairs i ≡ Some q → (w q.1.at).top ≡ pos 0) → IsLevel (flow m p w pairs)
  flow_level [] h = (omega (arith, ints), refl)
  flow_level (q ∷ qs) h = plus_level (term m p w q) (flow m p w qs) (term_level (w q.1.at) (gap m p q.0.at) (λ f e. gap_above m p q.0.at f e) (above q.1.at) (h 0 q refl)) (flow_level qs (λ i r e. h (suc i) r e))

  -- the first term moves
  first_moves : (x y : Option Ratio) (f v : Ratio) → x ≡ Some (times f v) → IsLevel y → IsAtLeastZero (both (λ x y. Some (plus x y)) x y) → pos 0 ≤ℤ (f.top *ℤ v.top)
  first_moves (Some x) (Some y) f v is k h =
      let same : x ≡ times f v = cc in
      let up : pos 0 ≤ℤ ((f.top *ℤ v.top) *ℤ y.bottom +ℤ y.top *ℤ (f.bottom *ℤ v.bottom)) = subst (λ z. pos 0 ≤ℤ (z.top *ℤ y.bottom +ℤ y.top *ℤ z.bottom)) same ((from_nought (plus x y)).0 h) in
      let none : y.top *ℤ (f.bottom *ℤ v.bottom) ≡ pos 0 = ap (λ z. z *ℤ (f.bottom *ℤ v.bottom)) k.1 ∙ by_ring (f.bottom ∷ v.bottom ∷ []) (lit (pos 0) ⊗ (var 0 ⊗ var 1)) (lit (pos 0)) refl in
      let zero_is : pos 0 *ℤ y.bottom ≡ pos 0 = by_ring (y.bottom ∷ []) (lit (pos 0) ⊗ var 0) (lit (pos 0)) refl in
      le_cancel_right (pos 0) (f.top *ℤ v.top) y.bottom (omega (arith, linear)) k.0
  first_moves (Some x) None f v is k h = absurd h
  first_moves None y f v is k h = cc

  -- the first term is 0
  rest_moves : (x y : Option Ratio) → IsLevel x → IsAtLeastZero (both (λ x y. Some (plus x y)) x y) → IsAtLeastZero y
  rest_moves (Some x) (Some y) k h =
      let up : pos 0 ≤ℤ (x.top *ℤ y.bottom +ℤ y.top *ℤ x.bottom) = (from_nought (plus x y)).0 h in
      let none : x.top *ℤ y.bottom ≡ pos 0 = ap (λ z. z *ℤ y.bottom) k.1 ∙ by_ring (y.bottom ∷ []) (lit (pos 0) ⊗ var 0) (lit (pos 0)) refl in
      let zero_is : pos 0 *ℤ x.bottom ≡ pos 0 = by_ring (x.bottom ∷ []) (lit (pos 0) ⊗ var 0) (lit (pos 0)) refl in
      (from_nought y).1 (le_cancel_right (pos 0) y.top x.bottom (omega (arith, linear)) k.0)
  rest_moves (Some x) None k h = absurd h
  rest_moves None y k h = absurd h

  pub flow_single : (pairs : List Match) (i : ℕ) (q : Match) (f : Ratio) → slice_get pairs i ≡ Some q → gap m p q.0.at ≡ Some f → ((j : ℕ) (r : Match) → slice_get pairs j ≡ Some r → j ≢ i → (w r.1.at).top ≡ pos 0) → IsAtLeastZero (flow m p w pairs) → pos 0 ≤ℤ (f.top *ℤ (w q.1.at).top)
  flow_single [] i q f at is others h = cc
  flow_single (s ∷ qs) zero q f at is others h =
      let same : s ≡ q = cc in
      first_moves (term m p w s) (flow m p w qs) f (w q.1.at)
      (ap (λ r. term m p w r) same ∙ ap (λ o. option_map (λ g. times g (w q.1.at)) o) is)
      (flow_level qs (λ j r e. others (suc j) r e (λ z. absurd (omega (arith, z)))))
      h
  flow_single (s ∷ qs) (suc i) q f at is others h =
      flow_single qs i q f at is (λ j r e n. others (suc j) r e (λ z. n (omega (arith, z))))
      (rest_moves (term m p w s) (flow m p w qs) (term_level (w s.1.at) (gap m p s.0.at) (λ g e. gap_above m p s.0.at g e) (above s.1.at) (others 0 s refl (λ z. absurd (omega (arith, z))))) h)
