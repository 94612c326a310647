-- What values at points mean, and the tests of points.
use Rattle.std.proofs.Common.{◌≡◌, ◌⊎◌, inl, inr, ℕ, zero, suc, ◌<◌, Bool, true, false, cond, ℤ, pos, negsuc, ◌+ℤ◌, ◌*ℤ◌, ◌<ℤ◌, ◌≤ℤ◌, List, [], ◌∷◌, length, get_or, Option, Some, None, option_and_then, All, arith, refl, sym, ap, ap₂, ◌∙◌, subst}
use Rattle.std.proofs.lemmas.Int.{ints}
use Rattle.std.proofs.lemmas.List.Elements.{All-head, All-tail}
use Rattle.emp_algebra.specs.Deciding.{IsOfKind}
use Rattle.emp_algebra.specs.Vector.{cell, dot, is_zero}
use Rattle.emp_algebra.proofs.Laws.{mul_pos, mul_nonneg}
use Rattle.emp_algebra.proofs.Order.{linear, mul_lt_right, le_cancel_right, cancel_right, le_or_lt}
use Rattle.emp_algebra.proofs.Ring.{var, lit, ◌⊕◌, ◌⊗◌, by_ring}
use Rattle.emp_num.specs.declared.frac.Frac.{Frac}
use Rattle.emp_num.specs.Point.{Point, StandsFor}
use Rattle.emp_num.specs.Ratio.{Ratio}
use Rattle.emp_num.specs.SamePoint.{lowest}
use Rattle.emp_num.proofs.SamePoints.{lowest_is, cross_on}
use Rattle.emp_num.proofs.Standing.{stands_at}
use Rattle.emp_rows.specs.declared.affine.Affine.{Affine}
use Rattle.emp_rows.specs.declared.system.Kind.{Kind}
use Rattle.emp_rows.specs.declared.system.Kind.TheVariants.{Zero, Nonneg}
use Rattle.emp_rows.specs.declared.system.RowSystem.{RowSystem}
use Rattle.emp_rows.specs.RowPoints.{sort_of, quantity, value_at, rate_along, AreOfKind, OneVanishes}
use Rattle.emp_rows.specs.Holding.{FitsAt, IsFirstWide}
use Rattle.emp_rows.specs.Points.{IsNumber}
use Rattle.emp_rows.specs.Values.{is_narrow, is_negative, ratio_of, checked_term, adds_narrow, checked_plus, valued_step, valued, measured, both, kind_holds, kinds_hold, zero_or, pair_holds, pairs_hold}

-- v is X over d
pub record IsOver (v : Ratio) (X d : ℤ) : Type 0 where
  pub positive : pos 0 <ℤ v.bottom
  pub same : v.top *ℤ d ≡ X *ℤ v.bottom

lowest_over : (n e X d : ℤ) → pos 0 <ℤ e → n *ℤ d ≡ X *ℤ e → IsOver (lowest n e) X d
lowest_over n e X d p h = let l = lowest_is n e p in record { positive = l.positive; same = cross_on (lowest n e).top (lowest n e).bottom n e X d p l.same h }

-- ---- the steps of a fold
term_over : (a n d : ℤ) (x : Frac) (m : Ratio) → x.num *ℤ d ≡ n *ℤ x.den → checked_term a (ratio_of x) ≡ Some m → IsOver m (a *ℤ n) d
term_over a n d x m h e = go (is_narrow (a *ℤ x.num)) e
  where
    here : (a *ℤ x.num) *ℤ d ≡ (a *ℤ n) *ℤ x.den
    here = by_ring (a ∷ x.num ∷ d ∷ []) (var 0 ⊗ var 1 ⊗ var 2) (var 0 ⊗ (var 1 ⊗ var 2)) refl ∙ (ap (λ z. a *ℤ z) h ∙ by_ring (a ∷ n ∷ x.den ∷ []) (var 0 ⊗ (var 1 ⊗ var 2)) (var 0 ⊗ var 1 ⊗ var 2) refl)

    go : (b : Bool) → cond b (Some (lowest (a *ℤ x.num) x.den)) None ≡ Some m → IsOver m (a *ℤ n) d
    go true f = let g : lowest (a *ℤ x.num) x.den ≡ m = cc in subst (λ (r : Ratio). IsOver r (a *ℤ n) d) g (lowest_over (a *ℤ x.num) x.den (a *ℤ n) d x.positive here)
    go false f = cc

plus_over : (p q u : Ratio) (X Y d : ℤ) → IsOver p X d → IsOver q Y d → checked_plus p q ≡ Some u → IsOver u (X +ℤ Y) d
plus_over p q u X Y d h k e = go (adds_narrow p q) e
  where
    here : (p.top *ℤ q.bottom +ℤ q.top *ℤ p.bottom) *ℤ d ≡ (X +ℤ Y) *ℤ (p.bottom *ℤ q.bottom)
    here =
        by_ring (p.top ∷ q.bottom ∷ q.top ∷ p.bottom ∷ d ∷ []) ((var 0 ⊗ var 1 ⊕ var 2 ⊗ var 3) ⊗ var 4) (var 0 ⊗ var 4 ⊗ var 1 ⊕ var 2 ⊗ var 4 ⊗ var 3) refl
        ∙ (ap₂ (λ y z. y *ℤ q.bottom +ℤ z *ℤ p.bottom) h.same k.same
        ∙ by_ring (X ∷ p.bottom ∷ q.bottom ∷ Y ∷ []) (var 0 ⊗ var 1 ⊗ var 2 ⊕ var 3 ⊗ var 2 ⊗ var 1) ((var 0 ⊕ var 3) ⊗ (var 1 ⊗ var 2)) refl)

    go : (b : Bool) → cond b (Some (lowest (p.top *ℤ q.bottom +ℤ q.top *ℤ p.bottom) (p.bottom *ℤ q.bottom))) None ≡ Some u → IsOver u (X +ℤ Y) d
    go true f = let g : lowest (p.top *ℤ q.bottom +ℤ q.top *ℤ p.bottom) (p.bottom *ℤ q.bottom) ≡ u = cc in subst (λ (r : Ratio). IsOver r (X +ℤ Y) d) g (lowest_over (p.top *ℤ q.bottom +ℤ q.top *ℤ p.bottom) (p.bottom *ℤ q.bottom) (X +ℤ Y) d (mul_pos p.bottom q.bottom h.positive k.positive) here)
    go false f = cc

step_over : (t : Ratio) (T a n d : ℤ) (x : Frac) (u : Ratio) → IsOver t T d → x.num *ℤ d ≡ n *ℤ x.den → valued_step t a (ratio_of x) ≡ Some u → IsOver u (T +ℤ a *ℤ n) d
step_over t T a n d x u h k e = go (checked_term a (ratio_of x)) refl e
  where
    go : (o : Option Ratio) → checked_term a (ratio_of x) ≡ o → option_and_then (λ m. checked_plus t m) o ≡ Some u → IsOver u (T +ℤ a *ℤ n) d
    go None f g = cc
    go (Some m) f g = plus_over t m u T (a *ℤ n) d h (term_over a n d x m k f) g

-- the fractions are the coordinates
abbrev Coordinates : List Frac → ℤ → List ℤ → Type 0
Coordinates [] d ns = ns ≡ []
Coordinates (f ∷ fs) d [] = ⊥
Coordinates (f ∷ fs) d (n ∷ ns) = (f.num *ℤ d ≡ n *ℤ f.den) × Coordinates fs d ns

coordinates : (fs : List Frac) (d : ℤ) (ns : List ℤ) → length ns ≡ length fs → ((k : ℕ) (f : Frac) → k < length fs → (get_or fs k f).num *ℤ d ≡ cell ns k *ℤ (get_or fs k f).den) → Coordinates fs d ns
coordinates [] d [] e h = refl
coordinates [] d (n ∷ ns) e h = absurd (omega arith)
coordinates (f ∷ fs) d [] e h = absurd (omega arith)
coordinates (f ∷ fs) d (n ∷ ns) e h = (h 0 f (omega arith), coordinates fs d ns (omega arith) (λ k g l. h (suc k) g (omega arith)))

of_point : (fs : List Frac) (p : Point) → StandsFor fs p → Coordinates fs p.den p.nums
of_point fs p s = coordinates fs p.den p.nums s.count (stands_at fs p s)

one_more : (T x D : ℤ) → (T +ℤ x) +ℤ D ≡ T +ℤ (x +ℤ D)
one_more T x D = omega (arith, linear)

valued_over : (t : Ratio) (T d : ℤ) (r : List ℤ) (fs : List Frac) (ns : List ℤ) (v : Ratio) → IsOver t T d → Coordinates fs d ns → valued t r fs ≡ Some v → IsOver v (T +ℤ dot r ns) d
valued_over t T d [] fs ns v h c e =
    let g : t ≡ v = cc in
    let z : T ≡ T +ℤ pos 0 = omega (arith, ints) in
    subst (λ (X : ℤ). IsOver v X d) z (subst (λ (r : Ratio). IsOver r T d) g h)
valued_over t T d (a ∷ r) [] [] v h c e =
    let g : t ≡ v = cc in
    let z : T ≡ T +ℤ pos 0 = omega (arith, ints) in
    subst (λ (X : ℤ). IsOver v X d) z (subst (λ (r : Ratio). IsOver r T d) g h)
valued_over t T d (a ∷ r) [] (n ∷ ns) v h c e = cc
valued_over t T d (a ∷ r) (f ∷ fs) [] v h c e = absurd c
valued_over t T d (a ∷ r) (f ∷ fs) (n ∷ ns) v h c e = go (valued_step t a (ratio_of f)) refl e (λ u k g. valued_over u (T +ℤ a *ℤ n) d r fs ns v k c.1 g)
  where
    go : (o : Option Ratio) → valued_step t a (ratio_of f) ≡ o → option_and_then (λ u. valued u r fs) o ≡ Some v → ((u : Ratio) → IsOver u (T +ℤ a *ℤ n) d → valued u r fs ≡ Some v → IsOver v ((T +ℤ a *ℤ n) +ℤ dot r ns) d) → IsOver v (T +ℤ (a *ℤ n +ℤ dot r ns)) d
    go None k g ih = cc
    go (Some u) k g ih = subst (λ (X : ℤ). IsOver v X d) (one_more T (a *ℤ n) (dot r ns)) (ih u (step_over t T a n d f u h c.0 k) g)

start_over : (n d : ℤ) → IsOver (lowest n (pos 1)) (n *ℤ d) d
start_over n d = lowest_over n (pos 1) (n *ℤ d) d (omega (arith, ints)) (by_ring (n ∷ d ∷ []) (var 0 ⊗ var 1) (var 0 ⊗ var 1 ⊗ lit (pos 1)) refl)

pub value_over : (r : Affine) (fs : List Frac) (p : Point) (v : Ratio) → StandsFor fs p → measured false r fs ≡ Some v → IsOver v (value_at r p) p.den
value_over r fs p v s e = valued_over (lowest r.constant (pos 1)) (r.constant *ℤ p.den) p.den r.cells fs p.nums v (start_over r.constant p.den) (of_point fs p s) e

pub rate_over : (r : Affine) (fs : List Frac) (p : Point) (v : Ratio) → StandsFor fs p → measured true r fs ≡ Some v → IsOver v (rate_along r p) p.den
rate_over r fs p v s e =
    let z : pos 0 *ℤ p.den +ℤ dot r.cells p.nums ≡ dot r.cells p.nums = by_ring (p.den ∷ dot r.cells p.nums ∷ []) (lit (pos 0) ⊗ var 0 ⊕ var 1) (var 1) refl in
    subst (λ (X : ℤ). IsOver v X p.den) z (valued_over (lowest (pos 0) (pos 1)) (pos 0 *ℤ p.den) p.den r.cells fs p.nums v (start_over (pos 0) p.den) (of_point fs p s) e)

-- ---- signs
pub zero_passed : (z : ℤ) → is_zero z ≡ true → z ≡ pos 0
zero_passed (pos zero) e = refl
zero_passed (pos (suc n)) e = cc
zero_passed (negsuc n) e = cc

pub negative_passed : (z : ℤ) → is_negative z ≡ true → z <ℤ pos 0
negative_passed (pos n) e = cc
negative_passed (negsuc n) e = omega (arith, ints)

pub negative_failed : (z : ℤ) → is_negative z ≡ false → pos 0 ≤ℤ z
negative_failed (pos n) e = omega (arith, ints)
negative_failed (negsuc n) e = cc

no_product : (z : ℤ) → pos 0 *ℤ z ≡ pos 0
no_product z = by_ring (z ∷ []) (lit (pos 0) ⊗ var 0) (lit (pos 0)) refl

pub over_zero : (v : Ratio) (X d : ℤ) → IsOver v X d → v.top ≡ pos 0 → X ≡ pos 0
over_zero v X d h e = cancel_right X (pos 0) v.bottom (sym h.same ∙ (ap (λ z. z *ℤ d) e ∙ (no_product d ∙ sym (no_product v.bottom)))) h.positive

pub over_nonneg : (v : Ratio) (X d : ℤ) → pos 0 <ℤ d → IsOver v X d → pos 0 ≤ℤ v.top → pos 0 ≤ℤ X
over_nonneg v X d p h e =
    let m = mul_nonneg v.top d e (omega (arith, linear)) in
    le_cancel_right (pos 0) X v.bottom (omega (arith, linear, h.same, m, no_product v.bottom)) h.positive

pub over_negative : (v : Ratio) (X d : ℤ) → pos 0 <ℤ d → IsOver v X d → v.top <ℤ pos 0 → X <ℤ pos 0
over_negative v X d p h e = go (le_or_lt (pos 0) X)
  where
    go : (pos 0 ≤ℤ X) ⊎ (X <ℤ pos 0) → X <ℤ pos 0
    go (inl k) = absurd (let m = mul_nonneg X v.bottom k (omega (arith, linear, h.positive)) in let n = mul_lt_right v.top (pos 0) d e p in omega (arith, linear, h.same, m, n, no_product d))
    go (inr k) = k

-- ---- the other way
pub product_zero : (v : Ratio) (X d : ℤ) → pos 0 <ℤ d → IsOver v X d → X ≡ pos 0 → v.top ≡ pos 0
product_zero v X d p h e = cancel_right v.top (pos 0) d (h.same ∙ (ap (λ z. z *ℤ v.bottom) e ∙ (no_product v.bottom ∙ sym (no_product d)))) p

pub product_nonneg : (v : Ratio) (X d : ℤ) → pos 0 <ℤ d → IsOver v X d → pos 0 ≤ℤ X → pos 0 ≤ℤ v.top
product_nonneg v X d p h e = go (le_or_lt (pos 0) v.top)
  where
    go : (pos 0 ≤ℤ v.top) ⊎ (v.top <ℤ pos 0) → pos 0 ≤ℤ v.top
    go (inl k) = k
    go (inr k) = absurd (let m = over_negative v X d p h k in omega (arith, linear))

-- a value is of a kind exactly where its number over a denominator above 0 is
pub kind_over : (t : Kind) (v : Ratio) (X d : ℤ) → pos 0 <ℤ d → IsOver v X d → IsOfKind (sort_of t) v.top → IsOfKind (sort_of t) X
kind_over Zero v X d p h e = over_zero v X d h e
kind_over Nonneg v X d p h e = over_nonneg v X d p h e

pub kind_under : (t : Kind) (v : Ratio) (X d : ℤ) → pos 0 <ℤ d → IsOver v X d → IsOfKind (sort_of t) X → IsOfKind (sort_of t) v.top
kind_under Zero v X d p h e = product_zero v X d p h e
kind_under Nonneg v X d p h e = product_nonneg v X d p h e

-- ---- one value
-- the test of a value that is there
pub record IsTest (t : Kind) (v : Ratio) (b : Bool) : Type 0 where
  pub passed : b ≡ true → IsOfKind (sort_of t) v.top
  pub failed : b ≡ false → IsOfKind (sort_of t) v.top → ⊥

not_zero : (z : ℤ) → is_zero z ≡ false → z ≡ pos 0 → ⊥
not_zero z e h = let f = ap is_zero h in cc

not_negative : (z : ℤ) → is_negative z ≡ true → pos 0 ≤ℤ z → ⊥
not_negative z e h = let k = negative_passed z e in omega (arith, linear)

pub tested : (t : Kind) (v : Ratio) (b : Bool) → kind_holds t (Some v) ≡ Some b → IsTest t v b
tested Zero v b e = record { passed = λ f. zero_passed v.top (let g : is_zero v.top ≡ b = cc in g ∙ f); failed = λ f. not_zero v.top (let g : is_zero v.top ≡ b = cc in g ∙ f) }
tested Nonneg v b e = go (is_negative v.top) refl e
  where
    go : (c : Bool) → is_negative v.top ≡ c → cond c (Some false) (Some true) ≡ Some b → IsTest Nonneg v b
    go true f g = record { passed = λ h. cc; failed = λ h. not_negative v.top f }
    go false f g = record { passed = λ h. negative_failed v.top f; failed = λ h. cc }

pub kind_there : (t : Kind) (v : Ratio) → kind_holds t (Some v) ≡ None → ⊥
kind_there Zero v e = cc
kind_there Nonneg v e = go (is_negative v.top) e
  where
    go : (c : Bool) → cond c (Some false) (Some true) ≡ None → ⊥
    go true f = cc
    go false f = cc

-- the answer of two tests
pub both_passed : (a b : Option Bool) → both a b ≡ Some true → (a ≡ Some true) × (b ≡ Some true)
both_passed None b e = cc
both_passed (Some true) b e = (refl, e)
both_passed (Some false) b e = cc

-- ---- the quantities
pub record IsValue (o : Option Ratio) (X d : ℤ) : Type 0 where
  pub over : (v : Ratio) → o ≡ Some v → IsOver v X d

kind_passed : (t : Kind) (o : Option Ratio) (X d : ℤ) → pos 0 <ℤ d → IsValue o X d → kind_holds t o ≡ Some true → IsOfKind (sort_of t) X
kind_passed t None X d p h e = cc
kind_passed t (Some v) X d p h e = kind_over t v X d p (h.over v refl) ((tested t v true e).passed refl)

kind_failed : (t : Kind) (o : Option Ratio) (X d : ℤ) → pos 0 <ℤ d → IsValue o X d → kind_holds t o ≡ Some false → IsOfKind (sort_of t) X → ⊥
kind_failed t None X d p h e k = cc
kind_failed t (Some v) X d p h e k = (tested t v false e).failed refl (kind_under t v X d p (h.over v refl) k)

pub value_is : (r : Affine) (fs : List Frac) (p : Point) → StandsFor fs p → IsValue (measured false r fs) (value_at r p) p.den
value_is r fs p st = record { over = λ v e. value_over r fs p v st e }

pub rate_is : (r : Affine) (fs : List Frac) (p : Point) → StandsFor fs p → IsValue (measured true r fs) (rate_along r p) p.den
rate_is r fs p st = record { over = λ v e. rate_over r fs p v st e }

-- each quantity, measured so, is of its kind
abbrev pub OfKinds : (Affine → ℤ) → List Affine → List Kind → Type 0
OfKinds X [] ts = Unit {0}
OfKinds X (q ∷ qs) [] = Unit {0}
OfKinds X (q ∷ qs) (t ∷ ts) = IsOfKind (sort_of t) (X q) × OfKinds X qs ts

module _ (rate : Bool) (fs : List Frac) (X : Affine → ℤ) (d : ℤ) (p : pos 0 <ℤ d) (h : (q : Affine) → IsValue (measured rate q fs) (X q) d) where
  pub all_passed : (qs : List Affine) (ts : List Kind) → kinds_hold rate qs ts fs ≡ Some true → OfKinds X qs ts
  all_passed [] ts e = tt
  all_passed (q ∷ qs) [] e = tt
  all_passed (q ∷ qs) (t ∷ ts) e =
      let k = both_passed (kind_holds t (measured rate q fs)) (kinds_hold rate qs ts fs) e in
      (kind_passed t (measured rate q fs) (X q) d p (h q) k.0, all_passed qs ts k.1)

  pub one_failed : (qs : List Affine) (ts : List Kind) → kinds_hold rate qs ts fs ≡ Some false → OfKinds X qs ts → ⊥
  one_failed [] ts e k = cc
  one_failed (q ∷ qs) [] e k = cc
  one_failed (q ∷ qs) (t ∷ ts) e k = go (kind_holds t (measured rate q fs)) refl e (λ g. one_failed qs ts g k.1)
    where
      go : (o : Option Bool) → kind_holds t (measured rate q fs) ≡ o → both o (kinds_hold rate qs ts fs) ≡ Some false → (kinds_hold rate qs ts fs ≡ Some false → ⊥) → ⊥
      go None f g r = cc
      go (Some true) f g r = r g
      go (Some false) f g r = kind_failed t (measured rate q fs) (X q) d p (h q) f k.0

pub of_kinds : (qs : List Affine) (ts : List Kind) (p : Point) → OfKinds (λ q. value_at q p) qs ts → AreOfKind qs ts p
of_kinds [] ts p h = tt
of_kinds (q ∷ qs) [] p h = tt
of_kinds (q ∷ qs) (t ∷ ts) p h = (h.0, of_kinds qs ts p h.1)

pub are_kinds : (qs : List Affine) (ts : List Kind) (p : Point) → AreOfKind qs ts p → OfKinds (λ q. value_at q p) qs ts
are_kinds [] ts p h = tt
are_kinds (q ∷ qs) [] p h = tt
are_kinds (q ∷ qs) (t ∷ ts) p h = (h.0, are_kinds qs ts p h.1)

-- ---- the first wide one
fit_first : (q : Affine) (qs : List Affine) (t : Kind) (ts : List Kind) (fs : List Frac) → kind_holds t (measured false q fs) ≡ Some true → FitsAt (q ∷ qs) (t ∷ ts) fs 0
fit_first q qs t ts fs e = go (measured false q fs) refl e
  where
    go : (o : Option Ratio) → measured false q fs ≡ o → kind_holds t o ≡ Some true → FitsAt (q ∷ qs) (t ∷ ts) fs 0
    go None f g = cc
    go (Some v) f g = record { value = v; ends = f; kind = (tested t v true g).passed refl }

wide_first : (t : Kind) (o : Option Ratio) → kind_holds t o ≡ None → o ≡ None
wide_first t None e = refl
wide_first t (Some v) e = absurd (kind_there t v e)

fit_later : (q : Affine) (qs : List Affine) (t : Kind) (ts : List Kind) (fs : List Frac) (k : ℕ) → FitsAt qs ts fs k → FitsAt (q ∷ qs) (t ∷ ts) fs (suc k)
fit_later q qs t ts fs k h = record { value = h.value; ends = h.ends; kind = h.kind }

fit_earlier : (q : Affine) (qs : List Affine) (t : Kind) (ts : List Kind) (fs : List Frac) (k : ℕ) → FitsAt (q ∷ qs) (t ∷ ts) fs (suc k) → FitsAt qs ts fs k
fit_earlier q qs t ts fs k h = record { value = h.value; ends = h.ends; kind = h.kind }

fit_before : (q : Affine) (qs : List Affine) (t : Kind) (ts : List Kind) (fs : List Frac) (k : ℕ) → FitsAt (q ∷ qs) (t ∷ ts) fs 0 → ((j : ℕ) → j < k → FitsAt qs ts fs j) → (j : ℕ) → j < suc k → FitsAt (q ∷ qs) (t ∷ ts) fs j
fit_before q qs t ts fs k f h zero l = f
fit_before q qs t ts fs k f h (suc j) l = fit_later q qs t ts fs j (h j (omega arith))

pub first_wide : (qs : List Affine) (ts : List Kind) (fs : List Frac) → kinds_hold false qs ts fs ≡ None → (k : ℕ) × IsFirstWide qs ts fs k
first_wide [] ts fs e = cc
first_wide (q ∷ qs) [] fs e = cc
first_wide (q ∷ qs) (t ∷ ts) fs e = go (kind_holds t (measured false q fs)) refl e (λ g. first_wide qs ts fs g)
  where
    go : (o : Option Bool) → kind_holds t (measured false q fs) ≡ o → both o (kinds_hold false qs ts fs) ≡ None → (kinds_hold false qs ts fs ≡ None → (k : ℕ) × IsFirstWide qs ts fs k) → (k : ℕ) × IsFirstWide (q ∷ qs) (t ∷ ts) fs k
    go None f g ih = (0, record { within = omega arith; wide = wide_first t (measured false q fs) f; before = λ j l. absurd (omega arith) })
    go (Some true) f g ih =
        let r = ih g in
        (suc r.0, record { within = let l : r.0 < length qs = r.1.within in omega arith; wide = r.1.wide; before = fit_before q qs t ts fs r.0 (fit_first q qs t ts fs f) r.1.before })
    go (Some false) f g ih = cc

pub none_wide : (qs : List Affine) (ts : List Kind) (fs : List Frac) (b : Bool) → length ts ≡ length qs → kinds_hold false qs ts fs ≡ Some b → (k : ℕ) → IsFirstWide qs ts fs k → ⊥
none_wide [] ts fs b l e k h = let w : k < 0 = h.within in omega arith
none_wide (q ∷ qs) [] fs b l e k h = omega arith
none_wide (q ∷ qs) (t ∷ ts) fs b l e k h = go k h (kind_holds t (measured false q fs)) refl e (λ g. none_wide qs ts fs b (omega arith) g)
  where
    here : (o : Option Ratio) (c : Bool) → o ≡ None → kind_holds t o ≡ Some c → ⊥
    here None c f g = cc
    here (Some v) c f g = cc

    broken : (v : Ratio) → measured false q fs ≡ Some v → IsOfKind (sort_of t) v.top → kind_holds t (measured false q fs) ≡ Some false → ⊥
    broken v f i g = (tested t v false (ap (λ o. kind_holds t o) (sym f) ∙ g)).failed refl i

    go : (k : ℕ) → IsFirstWide (q ∷ qs) (t ∷ ts) fs k → (o : Option Bool) → kind_holds t (measured false q fs) ≡ o → both o (kinds_hold false qs ts fs) ≡ Some b → (kinds_hold false qs ts fs ≡ Some b → (k : ℕ) → IsFirstWide qs ts fs k → ⊥) → ⊥
    go k h None f g ih = cc
    go zero h (Some c) f g ih = here (measured false q fs) c h.wide f
    go (suc k) h (Some false) f g ih = let r = h.before 0 (omega arith) in broken r.value r.ends r.kind f
    go (suc k) h (Some true) f g ih = ih g k (record { within = let w : suc k < length (q ∷ qs) = h.within in omega arith; wide = h.wide; before = λ j m. fit_earlier q qs t ts fs j (h.before (suc j) (omega arith)) })

pub all_fit : (qs : List Affine) (ts : List Kind) (fs : List Frac) → length ts ≡ length qs → kinds_hold false qs ts fs ≡ Some true → (k : ℕ) → k < length qs → FitsAt qs ts fs k
all_fit [] ts fs l e k h = absurd (omega arith)
all_fit (q ∷ qs) [] fs l e k h = absurd (omega arith)
all_fit (q ∷ qs) (t ∷ ts) fs l e zero h = fit_first q qs t ts fs (both_passed (kind_holds t (measured false q fs)) (kinds_hold false qs ts fs) e).0
all_fit (q ∷ qs) (t ∷ ts) fs l e (suc k) h = fit_later q qs t ts fs k (all_fit qs ts fs (omega arith) (both_passed (kind_holds t (measured false q fs)) (kinds_hold false qs ts fs) e).1 k (omega arith))

-- ---- the pairs
-- 0, or else what the other test says
pub zero_or_passed : (o : Option Ratio) (rest : Option Bool) (X d : ℤ) → IsValue o X d → zero_or o rest ≡ Some true → (X ≡ pos 0) ⊎ (rest ≡ Some true)
zero_or_passed None rest X d h e = cc
zero_or_passed (Some v) rest X d h e = go (is_zero v.top) refl e
  where
    go : (b : Bool) → is_zero v.top ≡ b → cond b (Some true) rest ≡ Some true → (X ≡ pos 0) ⊎ (rest ≡ Some true)
    go true f g = inl (over_zero v X d (h.over v refl) (zero_passed v.top f))
    go false f g = inr g

pub zero_or_failed : (o : Option Ratio) (rest : Option Bool) (X d : ℤ) → pos 0 <ℤ d → IsValue o X d → zero_or o rest ≡ Some false → (X ≡ pos 0 → ⊥) × (rest ≡ Some false)
zero_or_failed None rest X d p h e = cc
zero_or_failed (Some v) rest X d p h e = go (is_zero v.top) refl e
  where
    go : (b : Bool) → is_zero v.top ≡ b → cond b (Some true) rest ≡ Some false → (X ≡ pos 0 → ⊥) × (rest ≡ Some false)
    go true f g = cc
    go false f g = (λ x. not_zero v.top f (product_zero v X d p (h.over v refl) x), g)

zero_or_wide : (o : Option Ratio) (rest : Option Bool) → zero_or o rest ≡ None → (o ≡ None) ⊎ (rest ≡ None)
zero_or_wide None rest e = inl refl
zero_or_wide (Some v) rest e = go (is_zero v.top) e
  where
    go : (b : Bool) → cond b (Some true) rest ≡ None → (Some v ≡ None) ⊎ (rest ≡ None)
    go true f = cc
    go false f = inr f

module _ (s : RowSystem) (fs : List Frac) where
  pair_passed : (p : Point) (a b : ℕ) → StandsFor fs p → pair_holds s fs (a, b) ≡ Some true → OneVanishes s p (a, b)
  pair_passed p a b st e = go (zero_or_passed (measured false (quantity s a) fs) (zero_or (measured false (quantity s b) fs) (Some false)) (value_at (quantity s a) p) p.den (value_is (quantity s a) fs p st) e)
    where
      last : (value_at (quantity s b) p ≡ pos 0) ⊎ (Some false ≡ Some true) → OneVanishes s p (a, b)
      last (inl z) = inr z
      last (inr z) = cc

      go : (value_at (quantity s a) p ≡ pos 0) ⊎ (zero_or (measured false (quantity s b) fs) (Some false) ≡ Some true) → OneVanishes s p (a, b)
      go (inl z) = inl z
      go (inr z) = last (zero_or_passed (measured false (quantity s b) fs) (Some false) (value_at (quantity s b) p) p.den (value_is (quantity s b) fs p st) z)

  pair_failed : (p : Point) (a b : ℕ) → StandsFor fs p → pair_holds s fs (a, b) ≡ Some false → OneVanishes s p (a, b) → ⊥
  pair_failed p a b st e v =
      let h = zero_or_failed (measured false (quantity s a) fs) (zero_or (measured false (quantity s b) fs) (Some false)) (value_at (quantity s a) p) p.den p.positive (value_is (quantity s a) fs p st) e in
      let k = zero_or_failed (measured false (quantity s b) fs) (Some false) (value_at (quantity s b) p) p.den p.positive (value_is (quantity s b) fs p st) h.1 in
      go h.0 k.0 v
    where
      go : (value_at (quantity s a) p ≡ pos 0 → ⊥) → (value_at (quantity s b) p ≡ pos 0 → ⊥) → OneVanishes s p (a, b) → ⊥
      go h k (inl z) = h z
      go h k (inr z) = k z

  pub pairs_passed : (p : Point) (ps : List (ℕ × ℕ)) → StandsFor fs p → pairs_hold s fs ps ≡ Some true → (k : ℕ) → k < length ps → OneVanishes s p (get_or ps k (0, 0))
  pairs_passed p [] st e k l = absurd (omega arith)
  pairs_passed p (q ∷ ps) st e zero l = pair_passed p q.0 q.1 st (both_passed (pair_holds s fs q) (pairs_hold s fs ps) e).0
  pairs_passed p (q ∷ ps) st e (suc k) l = pairs_passed p ps st (both_passed (pair_holds s fs q) (pairs_hold s fs ps) e).1 k (omega arith)

  pub pairs_failed : (p : Point) (ps : List (ℕ × ℕ)) → StandsFor fs p → pairs_hold s fs ps ≡ Some false → ((k : ℕ) → k < length ps → OneVanishes s p (get_or ps k (0, 0))) → ⊥
  pairs_failed p [] st e h = cc
  pairs_failed p (q ∷ ps) st e h = go (pair_holds s fs q) refl e (λ g. pairs_failed p ps st g (λ k l. h (suc k) (omega arith)))
    where
      go : (o : Option Bool) → pair_holds s fs q ≡ o → both o (pairs_hold s fs ps) ≡ Some false → (pairs_hold s fs ps ≡ Some false → ⊥) → ⊥
      go None f g r = cc
      go (Some true) f g r = r g
      go (Some false) f g r = pair_failed p q.0 q.1 st f (h 0 (omega arith))

  -- where no quantity's value is wide, no pair's is
  module _ (there : (k : ℕ) → IsNumber (length s.quantities) k → measured false (quantity s k) fs ≡ None → ⊥) where
    pair_there : (a b : ℕ) → IsNumber (length s.quantities) a → IsNumber (length s.quantities) b → pair_holds s fs (a, b) ≡ None → ⊥
    pair_there a b m n e = go (zero_or_wide (measured false (quantity s a) fs) (zero_or (measured false (quantity s b) fs) (Some false)) e)
      where
        last : (measured false (quantity s b) fs ≡ None) ⊎ (Some false ≡ None) → ⊥
        last (inl z) = there b n z
        last (inr z) = cc

        go : (measured false (quantity s a) fs ≡ None) ⊎ (zero_or (measured false (quantity s b) fs) (Some false) ≡ None) → ⊥
        go (inl z) = there a m z
        go (inr z) = last (zero_or_wide (measured false (quantity s b) fs) (Some false) z)

    abbrev First : ℕ × ℕ → Type 0
    First r = IsNumber (length s.quantities) r.0

    abbrev Second : ℕ × ℕ → Type 0
    Second r = IsNumber (length s.quantities) r.1

    pub pairs_there : (ps : List (ℕ × ℕ)) → All (λ q. IsNumber (length s.quantities) q.0) ps → All (λ q. IsNumber (length s.quantities) q.1) ps → pairs_hold s fs ps ≡ None → ⊥
    pairs_there [] m n e = cc
    pairs_there (q ∷ ps) m n e = go (pair_holds s fs q) refl e (pairs_there ps (All-tail First q ps m) (All-tail Second q ps n))
      where
        go : (o : Option Bool) → pair_holds s fs q ≡ o → both o (pairs_hold s fs ps) ≡ None → (pairs_hold s fs ps ≡ None → ⊥) → ⊥
        go None f g r = pair_there q.0 q.1 (All-head First q ps m) (All-head Second q ps n) f
        go (Some true) f g r = r g
        go (Some false) f g r = cc
