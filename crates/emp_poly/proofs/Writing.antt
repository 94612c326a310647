-- The written fold along the terms, and its value.
use Rattle.std.proofs.Common.{◌≡◌, inl, inr, ℕ, zero, suc, ◌+◌, ◌<◌, pos, ◌+ℤ◌, ◌*ℤ◌, ◌<ℤ◌, List, [], ◌∷◌, ◌++◌, length, get_or, take, Result, Ok, Err, MatchResult, arith, refl, sym, ap, ap₂, subst, subst₂, ◌∙◌}
use Rattle.std.proofs.lemmas.List.{take_more}
use Rattle.std.proofs.lemmas.Int.{ints}
use Rattle.emp_algebra.proofs.Laws.{mul_pos}
use Rattle.emp_algebra.proofs.Order.{cancel_right}
use Rattle.emp_algebra.proofs.Ring.{var, lit, ◌⊕◌, ◌⊗◌, by_ring}
use Rattle.emp_num.specs.FracSpec.{IsQuotient, AddsNarrow, AddsWide, MultipliesNarrow, MultipliesWide}
use Rattle.emp_num.specs.Ratio.{Ratio, ratio, plus, times, SameRatio}
use Rattle.emp_num.specs.Point.{Point, coordinate, StandsFor}
use Rattle.emp_num.specs.Whole.{whole}
use Rattle.emp_num.specs.declared.exact.Wide.{Wide}
use Rattle.emp_num.specs.declared.frac.Frac.{Frac}
use Rattle.emp_num.proofs.Standing.{stands_at}
use Rattle.emp_ast.specs.declared.tree.VarId.{VarId}
use Rattle.emp_form.specs.Calls.{Formula, given, added, multiplied, Gives, HasWideCall, Runs}
use Rattle.emp_form.proofs.Running.{runs_given, runs_added, runs_multiplied}
use Rattle.emp_poly.specs.Quads.{as_ratio, linear_value, square_value, quad_value}
use Rattle.emp_poly.specs.Written.{entry, linear_term, linear_from, square_term, square_from, written_value, LinearWithin, SquareWithin, IsWithin}
use Rattle.emp_poly.specs.declared.quad.Quad.{Quad}
use Rattle.emp_poly.proofs.QuadForms.{ratio_trans}

-- ---- one more term
linear_from-append : (s : Formula) (ts : List (VarId × Frac)) (t : VarId × Frac) (xs : List Frac) → linear_from s (ts ++ t ∷ []) xs ≡ linear_term (linear_from s ts xs) t xs
linear_from-append s [] t xs = refl
linear_from-append s (u ∷ ts) t xs = linear_from-append (linear_term s u xs) ts t xs

square_from-append : (s : Formula) (ts : List (VarId × VarId × Frac)) (t : VarId × VarId × Frac) (xs : List Frac) → square_from s (ts ++ t ∷ []) xs ≡ square_term (square_from s ts xs) t xs
square_from-append s [] t xs = refl
square_from-append s (u ∷ ts) t xs = square_from-append (square_term s u xs) ts t xs

pub linear_next : (ts : List (VarId × Frac)) (n : ℕ) (d : VarId × Frac) (xs : List Frac) (s : Formula) → n < length ts → linear_from s (take (n + 1) ts) xs ≡ linear_term (linear_from s (take n ts) xs) (get_or ts n d) xs
linear_next ts n d xs s h = ap (λ us. linear_from s us xs) (take_more ts n d h) ∙ linear_from-append s (take n ts) (get_or ts n d) xs

pub square_next : (ts : List (VarId × VarId × Frac)) (n : ℕ) (d : VarId × VarId × Frac) (xs : List Frac) (s : Formula) → n < length ts → square_from s (take (n + 1) ts) xs ≡ square_term (square_from s (take n ts) xs) (get_or ts n d) xs
square_next ts n d xs s h = ap (λ us. square_from s us xs) (take_more ts n d h) ∙ square_from-append s (take n ts) (get_or ts n d) xs

-- a fold whose start has a wide call has one
linear_wide : (ts : List (VarId × Frac)) (xs : List Frac) (s : Formula) → HasWideCall s → HasWideCall (linear_from s ts xs)
linear_wide [] xs s w = w
linear_wide (t ∷ ts) xs s w = linear_wide ts xs (linear_term s t xs) (inl w)

square_wide : (ts : List (VarId × VarId × Frac)) (xs : List Frac) (s : Formula) → HasWideCall s → HasWideCall (square_from s ts xs)
square_wide [] xs s w = w
square_wide (t ∷ ts) xs s w = square_wide ts xs (square_term s t xs) (inl w)

linear_later : (ts : List (VarId × Frac)) (n : ℕ) (xs : List Frac) (s : Formula) → HasWideCall (linear_from s (take n ts) xs) → HasWideCall (linear_from s ts xs)
linear_later ts zero xs s w = linear_wide ts xs s w
linear_later [] (suc n) xs s w = w
linear_later (t ∷ ts) (suc n) xs s w = linear_later ts n xs (linear_term s t xs) w

square_later : (ts : List (VarId × VarId × Frac)) (n : ℕ) (xs : List Frac) (s : Formula) → HasWideCall (square_from s (take n ts) xs) → HasWideCall (square_from s ts xs)
square_later ts zero xs s w = square_wide ts xs s w
square_later [] (suc n) xs s w = w
square_later (t ∷ ts) (suc n) xs s w = square_later ts n xs (square_term s t xs) w

-- ---- one term
abbrev pub Multiplies : Frac → Frac → Result Frac Wide → Type 0
Multiplies x y r = MatchResult r (λ r. MultipliesNarrow x y × IsQuotient r (x.num *ℤ y.num) (x.den *ℤ y.den)) (λ w. MultipliesWide x y)

abbrev pub Adds : Frac → Frac → Result Frac Wide → Type 0
Adds x y r = MatchResult r (λ r. AddsNarrow x y × IsQuotient r (x.num *ℤ y.den +ℤ y.num *ℤ x.den) (x.den *ℤ y.den)) (λ w. AddsWide x y)

product_runs : (c e x : Frac) (r : Result Frac Wide) → x ≡ e → Multiplies c x r → Runs (multiplied (given c) (given e)) r
product_runs c e x r h m = runs_multiplied (given c) (given e) c x r (runs_given c) (h, λ w. w) m

pub linear_term_runs : (sum x prod : Frac) (t : VarId × Frac) (xs : List Frac) (r : Result Frac Wide) → x ≡ entry xs t.0.at → Multiplies t.1 x (Ok prod) → Adds sum prod r → (s : Formula) → Runs s (Ok sum) → Runs (linear_term s t xs) r
linear_term_runs sum x prod t xs r h m a s k = runs_added s (multiplied (given t.1) (given (entry xs t.0.at))) sum prod r k (product_runs t.1 (entry xs t.0.at) x (Ok prod) h m) a

pub linear_term_wide : (sum x : Frac) (t : VarId × Frac) (xs : List Frac) (w : Wide) → x ≡ entry xs t.0.at → Multiplies t.1 x (Err w) → (s : Formula) → Runs s (Ok sum) → HasWideCall (linear_term s t xs)
linear_term_wide sum x t xs w h m s k = inr (inl (product_runs t.1 (entry xs t.0.at) x (Err w) h m))

coordinates_run : (d e x y : Frac) (r : Result Frac Wide) → x ≡ d → y ≡ e → Multiplies x y r → Runs (multiplied (given d) (given e)) r
coordinates_run d e x y r h k m = runs_multiplied (given d) (given e) x y r (h, λ w. w) (k, λ w. w) m

pub square_term_runs : (sum x y both prod : Frac) (t : VarId × VarId × Frac) (xs : List Frac) (r : Result Frac Wide) → x ≡ entry xs t.0.at → y ≡ entry xs t.1.at → Multiplies x y (Ok both) → Multiplies t.2 both (Ok prod) → Adds sum prod r → (s : Formula) → Runs s (Ok sum) → Runs (square_term s t xs) r
square_term_runs sum x y both prod t xs r h k m n a s g =
    let d = entry xs t.0.at in
    let e = entry xs t.1.at in
    runs_added s (multiplied (given t.2) (multiplied (given d) (given e))) sum prod r g (runs_multiplied (given t.2) (multiplied (given d) (given e)) t.2 both (Ok prod) (runs_given t.2) (coordinates_run d e x y (Ok both) h k m) n) a

pub square_first_wide : (sum x y : Frac) (t : VarId × VarId × Frac) (xs : List Frac) (w : Wide) → x ≡ entry xs t.0.at → y ≡ entry xs t.1.at → Multiplies x y (Err w) → (s : Formula) → Runs s (Ok sum) → HasWideCall (square_term s t xs)
square_first_wide sum x y t xs w h k m s g = inr (inl (inr (inl (coordinates_run (entry xs t.0.at) (entry xs t.1.at) x y (Err w) h k m))))

pub square_second_wide : (sum x y both : Frac) (t : VarId × VarId × Frac) (xs : List Frac) (w : Wide) → x ≡ entry xs t.0.at → y ≡ entry xs t.1.at → Multiplies x y (Ok both) → Multiplies t.2 both (Err w) → (s : Formula) → Runs s (Ok sum) → HasWideCall (square_term s t xs)
square_second_wide sum x y both t xs w h k m n s g =
    let d = entry xs t.0.at in
    let e = entry xs t.1.at in
    inr (inl (runs_multiplied (given t.2) (multiplied (given d) (given e)) t.2 both (Err w) (runs_given t.2) (coordinates_run d e x y (Ok both) h k m) n))

-- ---- the loops
pub linear_step : (start sum : Frac) (ts : List (VarId × Frac)) (n : ℕ) (t : VarId × Frac) (xs : List Frac) (r : Result Frac Wide) → n < length ts → t ≡ get_or ts n t → ((s : Formula) → Runs s (Ok start) → Runs (linear_from s (take n ts) xs) (Ok sum)) → ((s : Formula) → Runs s (Ok sum) → Runs (linear_term s t xs) r) → (s : Formula) → Runs s (Ok start) → Runs (linear_from s (take (n + 1) ts) xs) r
linear_step start sum ts n t xs r h e before step s k =
    subst (λ f. Runs f r) (sym (linear_next ts n t xs s h)) (subst (λ (u : VarId × Frac). Runs (linear_term (linear_from s (take n ts) xs) u xs) r) e (step (linear_from s (take n ts) xs) (before s k)))

pub linear_stop : (start : Frac) (ts : List (VarId × Frac)) (n : ℕ) (xs : List Frac) (w : Wide) → ((s : Formula) → Runs s (Ok start) → Runs (linear_from s (take n ts) xs) (Err w)) → (s : Formula) → Runs s (Ok start) → HasWideCall (linear_from s ts xs)
linear_stop start ts n xs w h s k = linear_later ts n xs s (h s k)

pub square_step : (start sum : Frac) (ts : List (VarId × VarId × Frac)) (n : ℕ) (t : VarId × VarId × Frac) (xs : List Frac) (r : Result Frac Wide) → n < length ts → t ≡ get_or ts n t → ((s : Formula) → Runs s (Ok start) → Runs (square_from s (take n ts) xs) (Ok sum)) → ((s : Formula) → Runs s (Ok sum) → Runs (square_term s t xs) r) → (s : Formula) → Runs s (Ok start) → Runs (square_from s (take (n + 1) ts) xs) r
square_step start sum ts n t xs r h e before step s k =
    subst (λ f. Runs f r) (sym (square_next ts n t xs s h)) (subst (λ (u : VarId × VarId × Frac). Runs (square_term (square_from s (take n ts) xs) u xs) r) e (step (square_from s (take n ts) xs) (before s k)))

pub square_stop : (start : Frac) (ts : List (VarId × VarId × Frac)) (n : ℕ) (xs : List Frac) (w : Wide) → ((s : Formula) → Runs s (Ok start) → Runs (square_from s (take n ts) xs) (Err w)) → (s : Formula) → Runs s (Ok start) → HasWideCall (square_from s ts xs)
square_stop start ts n xs w h s k = square_later ts n xs s (h s k)

pub linear_within : (n : ℕ) (ts : List (VarId × Frac)) (k : ℕ) (d : VarId × Frac) → LinearWithin n ts → k < length ts → (get_or ts k d).0.at < n
linear_within n [] k d h l = absurd (omega arith)
linear_within n (t ∷ ts) zero d h l = h.0
linear_within n (t ∷ ts) (suc k) d h l = linear_within n ts k d h.1 (omega arith)

pub square_within : (n : ℕ) (ts : List (VarId × VarId × Frac)) (k : ℕ) (d : VarId × VarId × Frac) → SquareWithin n ts → k < length ts → ((get_or ts k d).0.at < n) × ((get_or ts k d).1.at < n)
square_within n [] k d h l = absurd (omega arith)
square_within n (t ∷ ts) zero d h l = (h.0, h.1)
square_within n (t ∷ ts) (suc k) d h l = square_within n ts k d h.2 (omega arith)

-- ---- values: what the calls give is the sum of what each part is
same_plus : (x y r : Frac) (p q : Ratio) → SameRatio (as_ratio x) p → SameRatio (as_ratio y) q → IsQuotient r (x.num *ℤ y.den +ℤ y.num *ℤ x.den) (x.den *ℤ y.den) → SameRatio (as_ratio r) (plus p q)
same_plus x y r p q h k e =
    cancel_right (r.num *ℤ (p.bottom *ℤ q.bottom)) ((p.top *ℤ q.bottom +ℤ q.top *ℤ p.bottom) *ℤ r.den) (x.den *ℤ y.den)
    (by_ring (r.num ∷ p.bottom ∷ q.bottom ∷ x.den ∷ y.den ∷ []) (var 0 ⊗ (var 1 ⊗ var 2) ⊗ (var 3 ⊗ var 4)) (var 0 ⊗ (var 3 ⊗ var 4) ⊗ (var 1 ⊗ var 2)) refl ∙ (ap (λ z. z *ℤ (p.bottom *ℤ q.bottom)) e ∙ (by_ring (x.num ∷ y.den ∷ y.num ∷ x.den ∷ r.den ∷ p.bottom ∷ q.bottom ∷ []) ((var 0 ⊗ var 1 ⊕ var 2 ⊗ var 3) ⊗ var 4 ⊗ (var 5 ⊗ var 6)) (var 1 ⊗ var 6 ⊗ var 4 ⊗ (var 0 ⊗ var 5) ⊕ var 3 ⊗ var 5 ⊗ var 4 ⊗ (var 2 ⊗ var 6)) refl ∙ (ap₂ (λ u v. y.den *ℤ q.bottom *ℤ r.den *ℤ u +ℤ x.den *ℤ p.bottom *ℤ r.den *ℤ v) h k ∙ by_ring (y.den ∷ q.bottom ∷ r.den ∷ p.top ∷ x.den ∷ p.bottom ∷ q.top ∷ []) (var 0 ⊗ var 1 ⊗ var 2 ⊗ (var 3 ⊗ var 4) ⊕ var 4 ⊗ var 5 ⊗ var 2 ⊗ (var 6 ⊗ var 0)) ((var 3 ⊗ var 1 ⊕ var 6 ⊗ var 5) ⊗ var 2 ⊗ (var 4 ⊗ var 0)) refl))))
    (mul_pos x.den y.den x.positive y.positive)

same_times : (x y r : Frac) (p q : Ratio) → SameRatio (as_ratio x) p → SameRatio (as_ratio y) q → IsQuotient r (x.num *ℤ y.num) (x.den *ℤ y.den) → SameRatio (as_ratio r) (times p q)
same_times x y r p q h k e =
    cancel_right (r.num *ℤ (p.bottom *ℤ q.bottom)) (p.top *ℤ q.top *ℤ r.den) (x.den *ℤ y.den)
    (by_ring (r.num ∷ p.bottom ∷ q.bottom ∷ x.den ∷ y.den ∷ []) (var 0 ⊗ (var 1 ⊗ var 2) ⊗ (var 3 ⊗ var 4)) (var 0 ⊗ (var 3 ⊗ var 4) ⊗ (var 1 ⊗ var 2)) refl ∙ (ap (λ z. z *ℤ (p.bottom *ℤ q.bottom)) e ∙ (by_ring (x.num ∷ y.num ∷ r.den ∷ p.bottom ∷ q.bottom ∷ []) (var 0 ⊗ var 1 ⊗ var 2 ⊗ (var 3 ⊗ var 4)) (var 2 ⊗ (var 0 ⊗ var 3 ⊗ (var 1 ⊗ var 4))) refl ∙ (ap₂ (λ u v. r.den *ℤ (u *ℤ v)) h k ∙ by_ring (r.den ∷ p.top ∷ x.den ∷ q.top ∷ y.den ∷ []) (var 0 ⊗ (var 1 ⊗ var 2 ⊗ (var 3 ⊗ var 4))) (var 1 ⊗ var 3 ⊗ var 0 ⊗ (var 2 ⊗ var 4)) refl))))
    (mul_pos x.den y.den x.positive y.positive)

-- the formula gives the number
abbrev pub Means : Formula → Ratio → Type 0
Means s p = (r : Frac) → Gives s r → SameRatio (as_ratio r) p

means_given : (f : Frac) (p : Ratio) → SameRatio (as_ratio f) p → Means (given f) p
means_given f p h r e = subst (λ (x : Frac). SameRatio (as_ratio x) p) (sym e) h

means_added : (s t : Formula) (p q : Ratio) → Means s p → Means t q → Means (added s t) (plus p q)
means_added s t p q h k r c = same_plus c.0 c.1 r p q (h c.0 c.2) (k c.1 c.3) c.4

means_multiplied : (s t : Formula) (p q : Ratio) → Means s p → Means t q → Means (multiplied s t) (times p q)
means_multiplied s t p q h k r c = same_times c.0 c.1 r p q (h c.0 c.2) (k c.1 c.3) c.4

-- sums in the other order: start plus the value of the terms
plus_assoc : (a b c : Ratio) → SameRatio (plus (plus a b) c) (plus a (plus b c))
plus_assoc a b c =
    by_ring (a.top ∷ a.bottom ∷ b.top ∷ b.bottom ∷ c.top ∷ c.bottom ∷ [])
    (((var 0 ⊗ var 3 ⊕ var 2 ⊗ var 1) ⊗ var 5 ⊕ var 4 ⊗ (var 1 ⊗ var 3)) ⊗ (var 1 ⊗ (var 3 ⊗ var 5)))
    ((var 0 ⊗ (var 3 ⊗ var 5) ⊕ (var 2 ⊗ var 5 ⊕ var 4 ⊗ var 3) ⊗ var 1) ⊗ (var 1 ⊗ var 3 ⊗ var 5))
    refl

plus_none : (a : Ratio) → SameRatio a (plus a (ratio (pos 0) (pos 1)))
plus_none a = by_ring (a.top ∷ a.bottom ∷ []) (var 0 ⊗ (var 1 ⊗ lit (pos 1))) ((var 0 ⊗ lit (pos 1) ⊕ lit (pos 0) ⊗ var 1) ⊗ var 1) refl

means_same : (s : Formula) (p q : Ratio) → pos 0 <ℤ p.bottom → SameRatio p q → Means s p → Means s q
means_same s p q b e h r c = ratio_trans (as_ratio r) p q b (h r c) e

module _ (xs : List Frac) (p : Point) (h : StandsFor xs p) where
  entry_means : (k : ℕ) → k < length xs → SameRatio (as_ratio (entry xs k)) (coordinate p k)
  entry_means k l = stands_at xs p h k (whole 0) l

  term_means : (c : Frac) (k : ℕ) → k < length xs → Means (multiplied (given c) (given (entry xs k))) (times (as_ratio c) (coordinate p k))
  term_means c k l = means_multiplied (given c) (given (entry xs k)) (as_ratio c) (coordinate p k) (means_given c (as_ratio c) refl) (means_given (entry xs k) (coordinate p k) (entry_means k l))

  linear_bottom : (ts : List (VarId × Frac)) → pos 0 <ℤ (linear_value p ts).bottom
  linear_bottom [] = omega (arith, ints)
  linear_bottom (t ∷ ts) = mul_pos (t.1.den *ℤ p.den) (linear_value p ts).bottom (mul_pos t.1.den p.den t.1.positive p.positive) (linear_bottom ts)

  square_bottom : (ts : List (VarId × VarId × Frac)) → pos 0 <ℤ (square_value p ts).bottom
  square_bottom [] = omega (arith, ints)
  square_bottom (t ∷ ts) = mul_pos (t.2.den *ℤ (p.den *ℤ p.den)) (square_value p ts).bottom (mul_pos t.2.den (p.den *ℤ p.den) t.2.positive (mul_pos p.den p.den p.positive p.positive)) (square_bottom ts)

  pub linear_means : (ts : List (VarId × Frac)) (s : Formula) (a : Ratio) → pos 0 <ℤ a.bottom → LinearWithin (length xs) ts → Means s a → Means (linear_from s ts xs) (plus a (linear_value p ts))
  linear_means [] s a b w m = means_same s a (plus a (ratio (pos 0) (pos 1))) b (plus_none a) m
  linear_means (t ∷ ts) s a b w m =
      let v = times (as_ratio t.1) (coordinate p t.0.at) in
      let v_above : pos 0 <ℤ (t.1.den *ℤ p.den) = mul_pos t.1.den p.den t.1.positive p.positive in
      let av_above : pos 0 <ℤ (a.bottom *ℤ (t.1.den *ℤ p.den)) = mul_pos a.bottom (t.1.den *ℤ p.den) b v_above in
      means_same (linear_from (linear_term s t xs) ts xs) (plus (plus a v) (linear_value p ts)) (plus a (plus v (linear_value p ts))) (mul_pos (a.bottom *ℤ (t.1.den *ℤ p.den)) (linear_value p ts).bottom av_above (linear_bottom ts)) (plus_assoc a v (linear_value p ts))
      (linear_means ts (linear_term s t xs) (plus a v) av_above w.1 (means_added s (multiplied (given t.1) (given (entry xs t.0.at))) a v m (term_means t.1 t.0.at w.0)))

  pub square_means : (ts : List (VarId × VarId × Frac)) (s : Formula) (a : Ratio) → pos 0 <ℤ a.bottom → SquareWithin (length xs) ts → Means s a → Means (square_from s ts xs) (plus a (square_value p ts))
  square_means [] s a b w m = means_same s a (plus a (ratio (pos 0) (pos 1))) b (plus_none a) m
  square_means (t ∷ ts) s a b w m =
      let v = times (as_ratio t.2) (times (coordinate p t.0.at) (coordinate p t.1.at)) in
      let v_above : pos 0 <ℤ (t.2.den *ℤ (p.den *ℤ p.den)) = mul_pos t.2.den (p.den *ℤ p.den) t.2.positive (mul_pos p.den p.den p.positive p.positive) in
      let av_above : pos 0 <ℤ (a.bottom *ℤ (t.2.den *ℤ (p.den *ℤ p.den))) = mul_pos a.bottom (t.2.den *ℤ (p.den *ℤ p.den)) b v_above in
      means_same (square_from (square_term s t xs) ts xs) (plus (plus a v) (square_value p ts)) (plus a (plus v (square_value p ts))) (mul_pos (a.bottom *ℤ (t.2.den *ℤ (p.den *ℤ p.den))) (square_value p ts).bottom av_above (square_bottom ts)) (plus_assoc a v (square_value p ts))
      (square_means ts (square_term s t xs) (plus a v) av_above w.2 (means_added s (multiplied (given t.2) (multiplied (given (entry xs t.0.at)) (given (entry xs t.1.at)))) a v m
      (means_multiplied (given t.2) (multiplied (given (entry xs t.0.at)) (given (entry xs t.1.at))) (as_ratio t.2) (times (coordinate p t.0.at) (coordinate p t.1.at)) (means_given t.2 (as_ratio t.2) refl)
      (means_multiplied (given (entry xs t.0.at)) (given (entry xs t.1.at)) (coordinate p t.0.at) (coordinate p t.1.at) (means_given (entry xs t.0.at) (coordinate p t.0.at) (entry_means t.0.at w.0)) (means_given (entry xs t.1.at) (coordinate p t.1.at) (entry_means t.1.at w.1))))))

  pub written_means : (q : Quad) → IsWithin (length xs) q → Means (written_value q xs) (quad_value p q)
  written_means q w =
      let a = as_ratio q.constant in
      let l = linear_value p q.linear in
      let s = square_value p q.square in
      let al : pos 0 <ℤ (q.constant.den *ℤ l.bottom) = mul_pos q.constant.den l.bottom q.constant.positive (linear_bottom q.linear) in
      means_same (written_value q xs) (plus (plus a l) s) (plus a (plus l s)) (mul_pos (q.constant.den *ℤ l.bottom) s.bottom al (square_bottom q.square)) (plus_assoc a l s)
      (square_means q.square (linear_from (given q.constant) q.linear xs) (plus a l) al w.square (linear_means q.linear (given q.constant) a q.constant.positive w.linear (means_given q.constant a refl)))

-- ---- the whole fold
pub fold_runs : (q : Quad) (ls : List (VarId × Frac)) (ss : List (VarId × VarId × Frac)) (xs : List Frac) (sum : Frac) (r : Result Frac Wide) → ls ≡ q.linear → ss ≡ q.square → ((s : Formula) → Runs s (Ok q.constant) → Runs (linear_from s ls xs) (Ok sum)) → ((s : Formula) → Runs s (Ok sum) → Runs (square_from s ss xs) r) → Runs (written_value q xs) r
fold_runs q ls ss xs sum r e f l k = subst₂ (λ ls ss. Runs (square_from (linear_from (given q.constant) ls xs) ss xs) r) e f (k (linear_from (given q.constant) ls xs) (l (given q.constant) (runs_given q.constant)))

pub fold_wide : (q : Quad) (ls : List (VarId × Frac)) (xs : List Frac) (w : Wide) → ls ≡ q.linear → ((s : Formula) → Runs s (Ok q.constant) → Runs (linear_from s ls xs) (Err w)) → HasWideCall (written_value q xs)
fold_wide q ls xs w e l = square_wide q.square xs (linear_from (given q.constant) q.linear xs) (subst (λ ls. HasWideCall (linear_from (given q.constant) ls xs)) e (l (given q.constant) (runs_given q.constant)))
