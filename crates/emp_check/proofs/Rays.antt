-- What the tests of points and rays mean, both ways.
use Rattle.std.proofs.Common.{◌≡◌, ◌⊎◌, inl, inr, ℕ, zero, suc, ◌<◌, Bool, true, false, cond, ℤ, pos, ◌<ℤ◌, List, [], ◌∷◌, length, get_or, Option, Some, None, arith, refl, ap, ◌∙◌, subst}
use Rattle.emp_algebra.proofs.Order.{linear}
use Rattle.emp_num.specs.declared.frac.Frac.{Frac}
use Rattle.emp_num.specs.Point.{Point, StandsFor}
use Rattle.emp_num.specs.Ratio.{Ratio}
use Rattle.emp_rows.specs.declared.affine.Affine.{Affine}
use Rattle.emp_rows.specs.declared.system.Kind.{Kind}
use Rattle.emp_rows.specs.declared.system.RowSystem.{RowSystem}
use Rattle.emp_rows.specs.RowPoints.{quantity, value_at, rate_along, Solves}
use Rattle.emp_algebra.specs.Vector.{is_zero}
use Rattle.emp_rows.specs.Values.{is_negative, measured, both, kinds_hold, zero_or, pairs_hold}
use Rattle.emp_rows.proofs.Points.{IsValue, OfKinds, over_zero, over_nonneg, over_negative, zero_passed, negative_passed, negative_failed, value_is, rate_is, all_passed, one_failed, are_kinds, both_passed, zero_or_passed, zero_or_failed, product_zero, pairs_failed}
use Rattle.emp_rows.proofs.Holding.{passed_solves}
use Rattle.emp_cert.specs.Verdicts.{RatesOfKind, StaysZero, OneStays, IsRowRay}
use Rattle.emp_check.specs.declared.outcome.Tested.TheVariants.{Fine}
use Rattle.emp_check.specs.declared.outcome.Why.{Why}
use Rattle.emp_check.specs.declared.outcome.Why.TheVariants.{Quantity, Pair, Ray}
use Rattle.emp_check.specs.Heads.{tested, point_test, still_or, still_holds, stills_hold, falls, ray_test}
use Rattle.emp_check.specs.Tests.{and_then}
use Rattle.emp_check.proofs.Sums.{both as both_fine}
use Rattle.emp_check.proofs.Passing.{Passes, passes_then}

tested_fine : (w : Why) (o : Option Bool) → tested w o ≡ Fine → o ≡ Some true
tested_fine w None e = cc
tested_fine w (Some true) e = refl
tested_fine w (Some false) e = cc

-- a test that does not fail passes, or is wide
tested_passes : (w : Why) (o : Option Bool) → (o ≡ Some false → ⊥) → Passes (tested w o)
tested_passes w None h = inr refl
tested_passes w (Some true) h = inl refl
tested_passes w (Some false) h = absurd (h refl)

-- ---- rates
of_rates : (qs : List Affine) (ts : List Kind) (d : Point) → OfKinds (λ q. rate_along q d) qs ts → RatesOfKind qs ts d
of_rates [] ts d h = tt
of_rates (q ∷ qs) [] d h = tt
of_rates (q ∷ qs) (t ∷ ts) d h = (h.0, of_rates qs ts d h.1)

are_rates : (qs : List Affine) (ts : List Kind) (d : Point) → RatesOfKind qs ts d → OfKinds (λ q. rate_along q d) qs ts
are_rates [] ts d h = tt
are_rates (q ∷ qs) [] d h = tt
are_rates (q ∷ qs) (t ∷ ts) d h = (h.0, are_rates qs ts d h.1)

-- ---- pairs along a ray
still_or_passed : (o r : Option Ratio) (rest : Option Bool) (X d Y e : ℤ) → IsValue o X d → IsValue r Y e → still_or o r rest ≡ Some true → ((X ≡ pos 0) × (Y ≡ pos 0)) ⊎ (rest ≡ Some true)
still_or_passed None r rest X d Y e h k f = cc
still_or_passed (Some v) r rest X d Y e h k f = go (is_zero v.top) refl f
  where
    on : X ≡ pos 0 → (Y ≡ pos 0) ⊎ (rest ≡ Some true) → ((X ≡ pos 0) × (Y ≡ pos 0)) ⊎ (rest ≡ Some true)
    on x (inl y) = inl (x, y)
    on x (inr y) = inr y

    go : (b : Bool) → is_zero v.top ≡ b → cond b (zero_or r rest) rest ≡ Some true → ((X ≡ pos 0) × (Y ≡ pos 0)) ⊎ (rest ≡ Some true)
    go true g l = on (over_zero v X d (h.over v refl) (zero_passed v.top g)) (zero_or_passed r rest Y e k l)
    go false g l = inr l

still_or_failed : (o r : Option Ratio) (rest : Option Bool) (X d Y e : ℤ) → pos 0 <ℤ d → pos 0 <ℤ e → IsValue o X d → IsValue r Y e → still_or o r rest ≡ Some false → ((X ≡ pos 0) × (Y ≡ pos 0) → ⊥) × (rest ≡ Some false)
still_or_failed None r rest X d Y e p q h k f = cc
still_or_failed (Some v) r rest X d Y e p q h k f = go (is_zero v.top) refl f
  where
    go : (b : Bool) → is_zero v.top ≡ b → cond b (zero_or r rest) rest ≡ Some false → ((X ≡ pos 0) × (Y ≡ pos 0) → ⊥) × (rest ≡ Some false)
    go true g l = let z = zero_or_failed r rest Y e q k l in (λ x. z.0 x.1, z.1)
    go false g l = (λ x. let z = ap is_zero (product_zero v X d p (h.over v refl) x.0) in cc, l)

module _ (s : RowSystem) (fs gs : List Frac) (p d : Point) (st : StandsFor fs p) (su : StandsFor gs d) where
  still_passed : (a b : ℕ) → still_holds s fs gs (a, b) ≡ Some true → OneStays s p d (a, b)
  still_passed a b e =
      go (still_or_passed (measured false (quantity s a) fs) (measured true (quantity s a) gs) (still_or (measured false (quantity s b) fs) (measured true (quantity s b) gs) (Some false)) (value_at (quantity s a) p) p.den (rate_along (quantity s a) d) d.den (value_is (quantity s a) fs p st) (rate_is (quantity s a) gs d su) e)
    where
      last : StaysZero (quantity s b) p d ⊎ (Some false ≡ Some true) → OneStays s p d (a, b)
      last (inl z) = inr z
      last (inr z) = cc

      go : StaysZero (quantity s a) p d ⊎ (still_or (measured false (quantity s b) fs) (measured true (quantity s b) gs) (Some false) ≡ Some true) → OneStays s p d (a, b)
      go (inl z) = inl z
      go (inr z) = last (still_or_passed (measured false (quantity s b) fs) (measured true (quantity s b) gs) (Some false) (value_at (quantity s b) p) p.den (rate_along (quantity s b) d) d.den (value_is (quantity s b) fs p st) (rate_is (quantity s b) gs d su) z)

  still_failed : (a b : ℕ) → still_holds s fs gs (a, b) ≡ Some false → OneStays s p d (a, b) → ⊥
  still_failed a b e v =
      let h = still_or_failed (measured false (quantity s a) fs) (measured true (quantity s a) gs) (still_or (measured false (quantity s b) fs) (measured true (quantity s b) gs) (Some false)) (value_at (quantity s a) p) p.den (rate_along (quantity s a) d) d.den p.positive d.positive (value_is (quantity s a) fs p st) (rate_is (quantity s a) gs d su) e in
      let k = still_or_failed (measured false (quantity s b) fs) (measured true (quantity s b) gs) (Some false) (value_at (quantity s b) p) p.den (rate_along (quantity s b) d) d.den p.positive d.positive (value_is (quantity s b) fs p st) (rate_is (quantity s b) gs d su) h.1 in
      go h.0 k.0 v
    where
      go : (StaysZero (quantity s a) p d → ⊥) → (StaysZero (quantity s b) p d → ⊥) → OneStays s p d (a, b) → ⊥
      go h k (inl z) = h z
      go h k (inr z) = k z

  stills_passed : (ps : List (ℕ × ℕ)) → stills_hold s fs gs ps ≡ Some true → (k : ℕ) → k < length ps → OneStays s p d (get_or ps k (0, 0))
  stills_passed [] e k l = absurd (omega arith)
  stills_passed (q ∷ ps) e zero l = still_passed q.0 q.1 (both_passed (still_holds s fs gs q) (stills_hold s fs gs ps) e).0
  stills_passed (q ∷ ps) e (suc k) l = stills_passed ps (both_passed (still_holds s fs gs q) (stills_hold s fs gs ps) e).1 k (omega arith)

  stills_failed : (ps : List (ℕ × ℕ)) → stills_hold s fs gs ps ≡ Some false → ((k : ℕ) → k < length ps → OneStays s p d (get_or ps k (0, 0))) → ⊥
  stills_failed [] e h = cc
  stills_failed (q ∷ ps) e h = go (still_holds s fs gs q) refl e (λ g. stills_failed ps g (λ k l. h (suc k) (omega arith)))
    where
      go : (o : Option Bool) → still_holds s fs gs q ≡ o → both o (stills_hold s fs gs ps) ≡ Some false → (stills_hold s fs gs ps ≡ Some false → ⊥) → ⊥
      go None f g r = cc
      go (Some true) f g r = r g
      go (Some false) f g r = still_failed q.0 q.1 f (h 0 (omega arith))

falls_passed : (o : Option Ratio) (X d : ℤ) → pos 0 <ℤ d → IsValue o X d → falls o ≡ Some true → X <ℤ pos 0
falls_passed None X d p h e = cc
falls_passed (Some v) X d p h e = over_negative v X d p (h.over v refl) (negative_passed v.top (let f : is_negative v.top ≡ true = cc in f))

falls_failed : (o : Option Ratio) (X d : ℤ) → pos 0 <ℤ d → IsValue o X d → falls o ≡ Some false → X <ℤ pos 0 → ⊥
falls_failed None X d p h e k = cc
falls_failed (Some v) X d p h e k = let n = over_nonneg v X d p (h.over v refl) (negative_failed v.top (let f : is_negative v.top ≡ false = cc in f)) in omega (arith, linear)

-- ---- the point
pub point_passed : (s : RowSystem) (fs : List Frac) (p : Point) → length fs ≡ s.base → StandsFor fs p → point_test s fs ≡ Fine → Solves s p
point_passed s fs p l st e =
    let h = both_fine (tested Quantity (kinds_hold false s.quantities s.kinds fs)) (tested Pair (pairs_hold s fs s.pairs)) e in
    passed_solves s fs l p st (tested_fine Quantity (kinds_hold false s.quantities s.kinds fs) h.0) (tested_fine Pair (pairs_hold s fs s.pairs) h.1)

pub point_passes : (s : RowSystem) (fs : List Frac) (p : Point) → StandsFor fs p → Solves s p → Passes (point_test s fs)
point_passes s fs p st v =
    passes_then (tested Quantity (kinds_hold false s.quantities s.kinds fs)) (tested Pair (pairs_hold s fs s.pairs))
    (tested_passes Quantity (kinds_hold false s.quantities s.kinds fs) (λ e. one_failed false fs (λ q. value_at q p) p.den p.positive (λ q. value_is q fs p st) s.quantities s.kinds e (are_kinds s.quantities s.kinds p v.kinds)))
    (tested_passes Pair (pairs_hold s fs s.pairs) (λ e. pairs_failed s fs p s.pairs st e v.pairs))

-- ---- the ray
module _ (s : RowSystem) (r : Affine) (fs gs : List Frac) (p d : Point) (o : s.objective ≡ Some r) (st : StandsFor fs p) (su : StandsFor gs d) where
  pub ray_passed : length gs ≡ s.base → Solves s p → ray_test s r fs gs ≡ Fine → IsRowRay s p d
  ray_passed l sol e =
      let h = both_fine (tested Ray (kinds_hold true s.quantities s.kinds gs)) (and_then (tested Ray (stills_hold s fs gs s.pairs)) (tested Ray (falls (measured true r gs)))) e in
      let k = both_fine (tested Ray (stills_hold s fs gs s.pairs)) (tested Ray (falls (measured true r gs))) h.1 in
      record {
        point = sol;
        count = su.count ∙ l;
        kinds = of_rates s.quantities s.kinds d (all_passed true gs (λ q. rate_along q d) d.den d.positive (λ q. rate_is q gs d su) s.quantities s.kinds (tested_fine Ray (kinds_hold true s.quantities s.kinds gs) h.0));
        pairs = stills_passed s fs gs p d st su s.pairs (tested_fine Ray (stills_hold s fs gs s.pairs) k.0);
        falls = λ q g. let w : r ≡ q = cc in subst (λ (a : Affine). rate_along a d <ℤ pos 0) w (falls_passed (measured true r gs) (rate_along r d) d.den d.positive (rate_is r gs d su) (tested_fine Ray (falls (measured true r gs)) k.1));
      }

  pub ray_passes : IsRowRay s p d → Passes (ray_test s r fs gs)
  ray_passes v =
      passes_then (tested Ray (kinds_hold true s.quantities s.kinds gs)) (and_then (tested Ray (stills_hold s fs gs s.pairs)) (tested Ray (falls (measured true r gs))))
      (tested_passes Ray (kinds_hold true s.quantities s.kinds gs) (λ e. one_failed true gs (λ q. rate_along q d) d.den d.positive (λ q. rate_is q gs d su) s.quantities s.kinds e (are_rates s.quantities s.kinds d v.kinds)))
      (passes_then (tested Ray (stills_hold s fs gs s.pairs)) (tested Ray (falls (measured true r gs)))
      (tested_passes Ray (stills_hold s fs gs s.pairs) (λ e. stills_failed s fs gs p d st su s.pairs e v.pairs))
      (tested_passes Ray (falls (measured true r gs)) (λ e. falls_failed (measured true r gs) (rate_along r d) d.den d.positive (rate_is r gs d su) e (v.falls r o))))
