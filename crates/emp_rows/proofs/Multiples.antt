-- A quantity that is made from fractions is a positive multiple of their affine function.
use Rattle.std.proofs.Common.{◌≡◌, Bool, true, false, cond, ℤ, pos, ◌+ℤ◌, ◌*ℤ◌, ◌<ℤ◌, unsigned_abs, int_div, List, [], ◌∷◌, Option, Some, None, option_and_then, Result, Ok, Err, IfOk, All, arith, refl, sym, ap, ap₂, ◌∙◌, subst}
use Prim.Native.Nat.{◌∣◌}
use native.Mathlib.Nat.{dvd-mul_right}
use lib.IntN.{*ℤ_comm}
use Rattle.std.proofs.lemmas.Int.{ints, unsigned_abs-mul}
use Rattle.std.proofs.lemmas.Nat.Gcd.{dvd_refl, dvd_trans}
use Rattle.std.proofs.lemmas.List.Elements.{All-nil, All-cons, All-head, All-tail}
use Rattle.emp_algebra.specs.Vector.{dot}
use Rattle.emp_algebra.proofs.Laws.{mul_pos}
use Rattle.emp_algebra.proofs.Order.{cancel_right}
use Rattle.emp_algebra.proofs.Ring.{var, lit, ◌⊕◌, ◌⊗◌, by_ring}
use Rattle.emp_num.specs.Gcd.{gcd_of, content_of}
use Rattle.emp_num.specs.Point.{Point}
use Rattle.emp_num.specs.declared.frac.Frac.{Frac}
use Rattle.emp_num.proofs.Divisors.{IsGcd-gcd_of}
use Rattle.emp_num.proofs.Gcds.{quot_exact, positive_from_product}
use Rattle.emp_rows.specs.declared.affine.Affine.{Affine}
use Rattle.emp_rows.specs.declared.primitive.RowFault.{RowFault}
use Rattle.emp_rows.specs.Affine.{divisor_of, primitive_of}
use Rattle.emp_rows.specs.Primitive.{narrowed, joint, joint_from, common_denominator, numerator, numerators, made_over, made, FormedGives, weighted_sum, rational_value, IsMultiple, HasSign}
use Rattle.emp_rows.specs.RowPoints.{value_at}
use Rattle.emp_rows.specs.Values.{is_narrow}
use Rattle.emp_rows.proofs.Divided.{divisor_above, value_is}
use Rattle.emp_rows.proofs.Joint.{joint_above}

-- ---- what an option that is there was formed from
pub narrowed_is : (z n : ℤ) → narrowed z ≡ Some n → n ≡ z
narrowed_is z n e = go (is_narrow z) e
  where
    go : (b : Bool) → cond b (Some z) None ≡ Some n → n ≡ z
    go true f = cc
    go false f = cc

pub record Chained {X Y : Type 0} (f : X → Option Y) (o : Option X) (y : Y) : Type 0 where
  pub first : X
  pub there : o ≡ Some first
  pub next : f first ≡ Some y

pub chained : {X Y : Type 0} (f : X → Option Y) (o : Option X) (y : Y) → option_and_then f o ≡ Some y → Chained f o y
chained f None y e = cc
chained f (Some x) y e = record { first = x; there = refl; next = e }

-- ---- common denominators
abbrev Divides : ℤ → Frac → Type 0
Divides l f = unsigned_abs f.den ∣ unsigned_abs l

divides_product : (a b c : ℤ) → a *ℤ b ≡ c → unsigned_abs a ∣ unsigned_abs c
divides_product a b c e = subst (λ n. unsigned_abs a ∣ n) (sym (unsigned_abs-mul a b) ∙ ap unsigned_abs e) (dvd-mul_right (unsigned_abs a) (unsigned_abs b))

joint_of_second : (l d : ℤ) → unsigned_abs d ∣ unsigned_abs (joint l d)
joint_of_second l d = divides_product d (int_div l (pos (gcd_of (unsigned_abs l) (unsigned_abs d)))) (joint l d) (*ℤ_comm d (int_div l (pos (gcd_of (unsigned_abs l) (unsigned_abs d)))))

joint_of_first : (l d : ℤ) → unsigned_abs l ∣ unsigned_abs (joint l d)
joint_of_first l d =
    let g = IsGcd-gcd_of (unsigned_abs l) (unsigned_abs d) in
    let first = quot_exact l (pos (gcd_of (unsigned_abs l) (unsigned_abs d))) g.0 in
    let second = quot_exact d (pos (gcd_of (unsigned_abs l) (unsigned_abs d))) g.1 in
    divides_product l (int_div d (pos (gcd_of (unsigned_abs l) (unsigned_abs d)))) (joint l d)
    (ap (λ z. z *ℤ int_div d (pos (gcd_of (unsigned_abs l) (unsigned_abs d)))) (sym first)
    ∙ (by_ring (int_div l (pos (gcd_of (unsigned_abs l) (unsigned_abs d))) ∷ pos (gcd_of (unsigned_abs l) (unsigned_abs d)) ∷ int_div d (pos (gcd_of (unsigned_abs l) (unsigned_abs d))) ∷ []) (var 0 ⊗ var 1 ⊗ var 2) (var 0 ⊗ (var 2 ⊗ var 1)) refl
    ∙ ap (λ z. int_div l (pos (gcd_of (unsigned_abs l) (unsigned_abs d))) *ℤ z) second))

-- a common multiple of l and of all denominators
record IsCommon (l : ℤ) (fs : List Frac) (m : ℤ) : Type 0 where
  pub positive : pos 0 <ℤ m
  pub first : unsigned_abs l ∣ unsigned_abs m
  pub all : All (Divides m) fs

joint_common : (l : ℤ) (fs : List Frac) (m : ℤ) → pos 0 <ℤ l → joint_from l fs ≡ Some m → IsCommon l fs m
joint_common l [] m p e = let f : l ≡ m = cc in subst (λ (z : ℤ). IsCommon l [] z) f (record { positive = p; first = dvd_refl (unsigned_abs l); all = All-nil (Divides l) })
joint_common l (f ∷ fs) m p e =
    let c = chained (λ n. joint_from n fs) (narrowed (joint l f.den)) m e in
    let same = narrowed_is (joint l f.den) c.first c.there in
    let above : pos 0 <ℤ c.first = subst (λ (z : ℤ). pos 0 <ℤ z) (sym same) (joint_above l f.den p f.positive) in
    let rest = joint_common c.first fs m above c.next in
    record {
      positive = rest.positive;
      first = dvd_trans (unsigned_abs l) (subst (λ (z : ℤ). unsigned_abs l ∣ unsigned_abs z) (sym same) (joint_of_first l f.den)) rest.first;
      all = All-cons (Divides m) f fs (dvd_trans (unsigned_abs f.den) (subst (λ (z : ℤ). unsigned_abs f.den ∣ unsigned_abs z) (sym same) (joint_of_second l f.den)) rest.first) rest.all;
    }

all_further : (l m : ℤ) (fs : List Frac) → unsigned_abs l ∣ unsigned_abs m → All (Divides l) fs → All (Divides m) fs
all_further l m [] h a = All-nil (Divides m)
all_further l m (f ∷ fs) h a = All-cons (Divides m) f fs (dvd_trans (unsigned_abs f.den) (All-head (Divides l) f fs a) h) (all_further l m fs h (All-tail (Divides l) f fs a))

record IsDenominator (cells : List Frac) (constant : Frac) (l : ℤ) : Type 0 where
  pub positive : pos 0 <ℤ l
  pub cells_divide : All (Divides l) cells
  pub constant_divides : Divides l constant

denominator_is : (cells : List Frac) (constant : Frac) (l : ℤ) → common_denominator cells constant ≡ Some l → IsDenominator cells constant l
denominator_is cells constant l e =
    let c = chained (λ m. narrowed (joint m constant.den)) (joint_from (pos 1) cells) l e in
    let h = joint_common (pos 1) cells c.first (omega (arith, ints)) c.there in
    let same = narrowed_is (joint c.first constant.den) l c.next in
    subst (λ (z : ℤ). IsDenominator cells constant z) (sym same)
    (record {
      positive = joint_above c.first constant.den h.positive constant.positive;
      cells_divide = all_further c.first (joint c.first constant.den) cells (joint_of_first c.first constant.den) h.all;
      constant_divides = joint_of_second c.first constant.den;
    })

-- ---- numerators
numerator_is : (l : ℤ) (f : Frac) (n : ℤ) → Divides l f → numerator l f ≡ Some n → n *ℤ f.den ≡ f.num *ℤ l
numerator_is l f n h e =
    ap (λ z. z *ℤ f.den) (narrowed_is (f.num *ℤ int_div l f.den) n e)
    ∙ (by_ring (f.num ∷ int_div l f.den ∷ f.den ∷ []) (var 0 ⊗ var 1 ⊗ var 2) (var 0 ⊗ (var 1 ⊗ var 2)) refl ∙ ap (λ z. f.num *ℤ z) (quot_exact l f.den h))

bottom_above : (fs : List Frac) (d : ℤ) (xs : List ℤ) → pos 0 <ℤ d → pos 0 <ℤ (weighted_sum fs d xs).bottom
bottom_above [] d xs p = omega (arith, ints)
bottom_above (f ∷ fs) d [] p = omega (arith, ints)
bottom_above (f ∷ fs) d (x ∷ xs) p = mul_pos (f.den *ℤ d) (weighted_sum fs d xs).bottom (mul_pos f.den d f.positive p) (bottom_above fs d xs p)

no_sum : (l d : ℤ) → pos 0 *ℤ pos 1 ≡ (l *ℤ d) *ℤ pos 0
no_sum l d = by_ring (l ∷ d ∷ []) (lit (pos 0) ⊗ lit (pos 1)) (var 0 ⊗ var 1 ⊗ lit (pos 0)) refl

-- one product more
sum_step : (l d n x num den D B T : ℤ) → n *ℤ den ≡ num *ℤ l → D *ℤ B ≡ (l *ℤ d) *ℤ T → (n *ℤ x +ℤ D) *ℤ ((den *ℤ d) *ℤ B) ≡ (l *ℤ d) *ℤ ((num *ℤ x) *ℤ B +ℤ T *ℤ (den *ℤ d))
sum_step l d n x num den D B T h k =
    by_ring (n ∷ x ∷ D ∷ den ∷ d ∷ B ∷ []) ((var 0 ⊗ var 1 ⊕ var 2) ⊗ (var 3 ⊗ var 4 ⊗ var 5)) (var 0 ⊗ var 3 ⊗ (var 1 ⊗ var 4 ⊗ var 5) ⊕ var 2 ⊗ var 5 ⊗ (var 3 ⊗ var 4)) refl
    ∙ (ap₂ (λ y z. y *ℤ (x *ℤ d *ℤ B) +ℤ z *ℤ (den *ℤ d)) h k
    ∙ by_ring (num ∷ l ∷ x ∷ d ∷ B ∷ T ∷ den ∷ []) (var 0 ⊗ var 1 ⊗ (var 2 ⊗ var 3 ⊗ var 4) ⊕ var 1 ⊗ var 3 ⊗ var 5 ⊗ (var 6 ⊗ var 3)) (var 1 ⊗ var 3 ⊗ (var 0 ⊗ var 2 ⊗ var 4 ⊕ var 5 ⊗ (var 6 ⊗ var 3))) refl)

sum_is : (l d : ℤ) (fs : List Frac) (ns xs : List ℤ) → All (Divides l) fs → numerators l fs ≡ Some ns → dot ns xs *ℤ (weighted_sum fs d xs).bottom ≡ (l *ℤ d) *ℤ (weighted_sum fs d xs).top
sum_is l d [] ns xs h e = let f : [] ≡ ns = cc in subst (λ (r : List ℤ). dot r xs *ℤ pos 1 ≡ (l *ℤ d) *ℤ pos 0) f (no_sum l d)
sum_is l d (f ∷ fs) ns xs h e =
    let c = chained (λ n. option_and_then (λ r. Some (n ∷ r)) (numerators l fs)) (numerator l f) ns e in
    let k = chained (λ r. Some (c.first ∷ r)) (numerators l fs) ns c.next in
    let same : c.first ∷ k.first ≡ ns = let g = k.next in cc in
    subst (λ (r : List ℤ). dot r xs *ℤ (weighted_sum (f ∷ fs) d xs).bottom ≡ (l *ℤ d) *ℤ (weighted_sum (f ∷ fs) d xs).top) same (go xs c.first k.first (numerator_is l f c.first (All-head (Divides l) f fs h) c.there) (λ xs. sum_is l d fs k.first xs (All-tail (Divides l) f fs h) k.there))
  where
    go : (xs : List ℤ) (n : ℤ) (r : List ℤ) → n *ℤ f.den ≡ f.num *ℤ l → ((xs : List ℤ) → dot r xs *ℤ (weighted_sum fs d xs).bottom ≡ (l *ℤ d) *ℤ (weighted_sum fs d xs).top) → dot (n ∷ r) xs *ℤ (weighted_sum (f ∷ fs) d xs).bottom ≡ (l *ℤ d) *ℤ (weighted_sum (f ∷ fs) d xs).top
    go [] n r a ih = no_sum l d
    go (x ∷ xs) n r a ih = sum_step l d n x f.num f.den (dot r xs) (weighted_sum fs d xs).bottom (weighted_sum fs d xs).top a (ih xs)

value_step : (l d n num den D B T : ℤ) → n *ℤ den ≡ num *ℤ l → D *ℤ B ≡ (l *ℤ d) *ℤ T → (n *ℤ d +ℤ D) *ℤ (den *ℤ B) ≡ (l *ℤ d) *ℤ (num *ℤ B +ℤ T *ℤ den)
value_step l d n num den D B T h k =
    by_ring (n ∷ d ∷ D ∷ den ∷ B ∷ []) ((var 0 ⊗ var 1 ⊕ var 2) ⊗ (var 3 ⊗ var 4)) (var 0 ⊗ var 3 ⊗ (var 1 ⊗ var 4) ⊕ var 2 ⊗ var 4 ⊗ var 3) refl
    ∙ (ap₂ (λ y z. y *ℤ (d *ℤ B) +ℤ z *ℤ den) h k
    ∙ by_ring (num ∷ l ∷ d ∷ B ∷ T ∷ den ∷ []) (var 0 ⊗ var 1 ⊗ (var 2 ⊗ var 3) ⊕ var 1 ⊗ var 2 ⊗ var 4 ⊗ var 5) (var 1 ⊗ var 2 ⊗ (var 0 ⊗ var 3 ⊕ var 4 ⊗ var 5)) refl)

-- ---- the quantity
multiple_of : (cells : List Frac) (constant : Frac) (l n : ℤ) (ns : List ℤ) → IsDenominator cells constant l → numerators l cells ≡ Some ns → numerator l constant ≡ Some n → IsMultiple (primitive_of ns n) cells constant
multiple_of cells constant l n ns h e f = record {
  top = l;
  bottom = divisor_of (content_of (n ∷ ns));
  top_positive = h.positive;
  bottom_positive = divisor_above (content_of (n ∷ ns));
  equal = λ p. by_ring (value_at (primitive_of ns n) p ∷ divisor_of (content_of (n ∷ ns)) ∷ (rational_value cells constant p).bottom ∷ []) (var 0 ⊗ (var 1 ⊗ var 2)) (var 0 ⊗ var 1 ⊗ var 2) refl
      ∙ (ap (λ z. z *ℤ (rational_value cells constant p).bottom) (value_is ns n p.den p.nums)
      ∙ value_step l p.den n constant.num constant.den (dot ns p.nums) (weighted_sum cells p.den p.nums).bottom (weighted_sum cells p.den p.nums).top (numerator_is l constant n h.constant_divides f) (sum_is l p.den cells ns p.nums h.cells_divide e));
}

pub made_multiple : (cells : List Frac) (constant : Frac) (r : Affine) → made cells constant ≡ Some r → IsMultiple r cells constant
made_multiple cells constant r e =
    let a = chained (made_over cells constant) (common_denominator cells constant) r e in
    let b = chained (λ ns. option_and_then (λ n. Some (primitive_of ns n)) (numerator a.first constant)) (numerators a.first cells) r a.next in
    let c = chained (λ n. Some (primitive_of b.first n)) (numerator a.first constant) r b.next in
    let same : primitive_of b.first c.first ≡ r = let g = c.next in cc in
    subst (λ (q : Affine). IsMultiple q cells constant) same (multiple_of cells constant a.first c.first b.first (denominator_is cells constant a.first a.there) b.there c.there)

pub multiple_formed : (cells : List Frac) (constant : Frac) (r : Result Affine RowFault) → FormedGives (made cells constant) r → IfOk r (λ q. IsMultiple q cells constant)
multiple_formed cells constant (Ok q) h = made_multiple cells constant q h
multiple_formed cells constant (Err e) h = tt

-- ---- signs
-- two numbers of which one's positive multiple is the other's
module _ (v a b t : ℤ) (p : pos 0 <ℤ a) (q : pos 0 <ℤ b) (e : v *ℤ a ≡ b *ℤ t) where
  other : t *ℤ b ≡ v *ℤ a
  other = *ℤ_comm t b ∙ sym e

  zero_back : t ≡ pos 0 → v ≡ pos 0
  zero_back h = cancel_right v (pos 0) a (e ∙ (ap (λ z. b *ℤ z) h ∙ by_ring (b ∷ a ∷ []) (var 0 ⊗ lit (pos 0)) (lit (pos 0) ⊗ var 1) refl)) p

  zero_on : v ≡ pos 0 → t ≡ pos 0
  zero_on h = cancel_right t (pos 0) b (other ∙ (ap (λ z. z *ℤ a) h ∙ by_ring (a ∷ b ∷ []) (lit (pos 0) ⊗ var 0) (lit (pos 0) ⊗ var 1) refl)) q

  above_on : pos 0 <ℤ v → pos 0 <ℤ t
  above_on h = positive_from_product t b (v *ℤ a) other q (mul_pos v a h p)

  above_back : pos 0 <ℤ t → pos 0 <ℤ v
  above_back h = positive_from_product v a (b *ℤ t) e p (mul_pos b t q h)

value_bottom : (cells : List Frac) (constant : Frac) (p : Point) → pos 0 <ℤ (rational_value cells constant p).bottom
value_bottom cells constant p = mul_pos constant.den (weighted_sum cells p.den p.nums).bottom constant.positive (bottom_above cells p.den p.nums p.positive)

pub multiple_sign : (r : Affine) (cells : List Frac) (constant : Frac) → IsMultiple r cells constant → HasSign r cells constant
multiple_sign r cells constant h = record {
  zero = λ p. (
    zero_on (value_at r p) (h.bottom *ℤ (rational_value cells constant p).bottom) (h.top *ℤ p.den) (rational_value cells constant p).top (mul_pos h.bottom (rational_value cells constant p).bottom h.bottom_positive (value_bottom cells constant p)) (mul_pos h.top p.den h.top_positive p.positive) (h.equal p),
    zero_back (value_at r p) (h.bottom *ℤ (rational_value cells constant p).bottom) (h.top *ℤ p.den) (rational_value cells constant p).top (mul_pos h.bottom (rational_value cells constant p).bottom h.bottom_positive (value_bottom cells constant p)) (mul_pos h.top p.den h.top_positive p.positive) (h.equal p),
  );
  above = λ p. (
    above_on (value_at r p) (h.bottom *ℤ (rational_value cells constant p).bottom) (h.top *ℤ p.den) (rational_value cells constant p).top (mul_pos h.bottom (rational_value cells constant p).bottom h.bottom_positive (value_bottom cells constant p)) (mul_pos h.top p.den h.top_positive p.positive) (h.equal p),
    above_back (value_at r p) (h.bottom *ℤ (rational_value cells constant p).bottom) (h.top *ℤ p.den) (rational_value cells constant p).top (mul_pos h.bottom (rational_value cells constant p).bottom h.bottom_positive (value_bottom cells constant p)) (mul_pos h.top p.den h.top_positive p.positive) (h.equal p),
  );
}

pub sign_formed : (cells : List Frac) (constant : Frac) (r : Result Affine RowFault) → FormedGives (made cells constant) r → IfOk r (λ q. HasSign q cells constant)
sign_formed cells constant (Ok q) h = multiple_sign q cells constant (made_multiple cells constant q h)
sign_formed cells constant (Err e) h = tt
