-- A formula of calls gives one fraction, and what one more call makes of it.
use Rattle.std.proofs.Common.{◌≡◌, ◌≢◌, ◌⊎◌, inl, inr, zero, suc, ℤ, pos, negsuc, neg_ℤ, ◌+ℤ◌, ◌-ℤ◌, ◌*ℤ◌, ◌<ℤ◌, [], ◌∷◌, Result, Ok, Err, MatchResult, arith, refl, sym, ap, subst₂, ◌∙◌}
use Rattle.std.proofs.lemmas.Int.{ints}
use Rattle.emp_algebra.proofs.Laws.{mul_pos}
use Rattle.emp_algebra.proofs.Order.{cancel_right}
use Rattle.emp_algebra.proofs.Ring.{var, neg, ◌⊗◌, by_ring}
use lib.IntN.{zero-*ℤ}
use Rattle.emp_num.specs.Exact.{IsNarrow, IsWide}
use Rattle.emp_num.specs.FracSpec.{IsQuotient, AddsNarrow, AddsWide, SubtractsNarrow, SubtractsWide, MultipliesNarrow, MultipliesWide, DivGives}
use Rattle.emp_num.specs.declared.exact.Wide.{Wide}
use Rattle.emp_num.specs.declared.frac.Frac.{Frac}
use Rattle.emp_num.proofs.FracOrder.{one_value}
use Rattle.emp_form.specs.Calls.{Formula, given, added, subtracted, multiplied, divided, Gives, HasWideCall, Runs}

-- ---- one fraction
opposite_quotient : (r : Frac) (n z : ℤ) → r.num *ℤ neg_ℤ z ≡ n *ℤ r.den → r.num *ℤ z ≡ neg_ℤ n *ℤ r.den
opposite_quotient r n z h =
    by_ring (r.num ∷ z ∷ []) (var 0 ⊗ var 1) (neg (var 0 ⊗ neg (var 1))) refl ∙ (ap neg_ℤ h ∙ by_ring (n ∷ r.den ∷ []) (neg (var 0 ⊗ var 1)) (neg (var 0) ⊗ var 1) refl)

pub quotient_one : (n d : ℤ) (r s : Frac) → d ≢ pos 0 → IsQuotient r n d → IsQuotient s n d → r ≡ s
quotient_one n (pos zero) r s some h k = absurd (some refl)
quotient_one n (pos (suc m)) r s some h k = one_value n (pos (suc m)) r s (omega (arith, ints)) h k
quotient_one n (negsuc m) r s some h k =
    one_value (neg_ℤ n) (pos (suc m)) r s (omega (arith, ints)) (opposite_quotient r n (pos (suc m)) h) (opposite_quotient s n (pos (suc m)) k)

some_bottom : (d z : ℤ) → pos 0 <ℤ d → z ≢ pos 0 → d *ℤ z ≢ pos 0
some_bottom d z p some e =
    some (cancel_right z (pos 0) d (by_ring (z ∷ d ∷ []) (var 0 ⊗ var 1) (var 1 ⊗ var 0) refl ∙ (e ∙ sym (zero-*ℤ d))) p)

pub gives_one : (s : Formula) (x y : Frac) → Gives s x → Gives s y → x ≡ y
gives_one (given f) x y h k = h ∙ sym k
gives_one (added s t) x y h k =
    let e = gives_one s h.0 k.0 h.2 k.2 in
    let f = gives_one t h.1 k.1 h.3 k.3 in
    one_value (k.0.num *ℤ k.1.den +ℤ k.1.num *ℤ k.0.den) (k.0.den *ℤ k.1.den) x y (mul_pos k.0.den k.1.den k.0.positive k.1.positive) (subst₂ (λ (a b : Frac). IsQuotient x (a.num *ℤ b.den +ℤ b.num *ℤ a.den) (a.den *ℤ b.den)) e f h.4) k.4
gives_one (subtracted s t) x y h k =
    let e = gives_one s h.0 k.0 h.2 k.2 in
    let f = gives_one t h.1 k.1 h.3 k.3 in
    one_value (k.0.num *ℤ k.1.den -ℤ k.1.num *ℤ k.0.den) (k.0.den *ℤ k.1.den) x y (mul_pos k.0.den k.1.den k.0.positive k.1.positive) (subst₂ (λ (a b : Frac). IsQuotient x (a.num *ℤ b.den -ℤ b.num *ℤ a.den) (a.den *ℤ b.den)) e f h.4) k.4
gives_one (multiplied s t) x y h k =
    let e = gives_one s h.0 k.0 h.2 k.2 in
    let f = gives_one t h.1 k.1 h.3 k.3 in
    one_value (k.0.num *ℤ k.1.num) (k.0.den *ℤ k.1.den) x y (mul_pos k.0.den k.1.den k.0.positive k.1.positive) (subst₂ (λ (a b : Frac). IsQuotient x (a.num *ℤ b.num) (a.den *ℤ b.den)) e f h.4) k.4
gives_one (divided s t) x y h k =
    let e = gives_one s h.0 k.0 h.2 k.2 in
    let f = gives_one t h.1 k.1 h.3 k.3 in
    quotient_one (k.0.num *ℤ k.1.den) (k.0.den *ℤ k.1.num) x y (some_bottom k.0.den k.1.num k.0.positive k.4) (subst₂ (λ (a b : Frac). IsQuotient x (a.num *ℤ b.den) (a.den *ℤ b.num)) e f h.5) k.5

-- ---- narrow is not wide
pub narrow_not_wide : (z : ℤ) → IsNarrow z → IsWide z → ⊥
narrow_not_wide z h k = omega arith

pub adds_narrow : (x y : Frac) → AddsNarrow x y → AddsWide x y → ⊥
adds_narrow x y n (inl w) = narrow_not_wide (x.num *ℤ y.den) n.left w
adds_narrow x y n (inr (inl w)) = narrow_not_wide (y.num *ℤ x.den) n.right w
adds_narrow x y n (inr (inr (inl w))) = narrow_not_wide (x.num *ℤ y.den +ℤ y.num *ℤ x.den) n.top w
adds_narrow x y n (inr (inr (inr w))) = narrow_not_wide (x.den *ℤ y.den) n.bottom w

pub subtracts_narrow : (x y : Frac) → SubtractsNarrow x y → SubtractsWide x y → ⊥
subtracts_narrow x y n (inl w) = narrow_not_wide (x.num *ℤ y.den) n.left w
subtracts_narrow x y n (inr (inl w)) = narrow_not_wide (y.num *ℤ x.den) n.right w
subtracts_narrow x y n (inr (inr (inl w))) = narrow_not_wide (x.num *ℤ y.den -ℤ y.num *ℤ x.den) n.top w
subtracts_narrow x y n (inr (inr (inr w))) = narrow_not_wide (x.den *ℤ y.den) n.bottom w

pub multiplies_narrow : (x y : Frac) → MultipliesNarrow x y → MultipliesWide x y → ⊥
multiplies_narrow x y n (inl w) = narrow_not_wide (x.num *ℤ y.num) n.top w
multiplies_narrow x y n (inr w) = narrow_not_wide (x.den *ℤ y.den) n.bottom w

-- ---- one more call
pub runs_given : (f : Frac) → Runs (given f) (Ok f)
runs_given f = (refl, λ w. w)

-- the third way in which a formula of two parts can be wide
last_call : (s t : Formula) (W : Frac → Frac → Type 0) (x y : Frac) → Gives s x → Gives t y → (W x y → ⊥) → ((a : Frac) × (b : Frac) × Gives s a × Gives t b × W a b) → ⊥
last_call s t W x y h k narrow c = narrow (subst₂ W (gives_one s c.0 x c.2 h) (gives_one t c.1 y c.3 k) c.4)

pub runs_added : (s t : Formula) (x y : Frac) (r : Result Frac Wide) → Runs s (Ok x) → Runs t (Ok y) → MatchResult r (λ r. AddsNarrow x y × IsQuotient r (x.num *ℤ y.den +ℤ y.num *ℤ x.den) (x.den *ℤ y.den)) (λ w. AddsWide x y) → Runs (added s t) r
runs_added s t x y (Ok r) h k c = ((x, y, h.0, k.0, c.1), narrow)
  where
    narrow : HasWideCall (added s t) → ⊥
    narrow (inl w) = h.1 w
    narrow (inr (inl w)) = k.1 w
    narrow (inr (inr w)) = last_call s t AddsWide x y h.0 k.0 (adds_narrow x y c.0) w
runs_added s t x y (Err w) h k c = inr (inr (x, y, h.0, k.0, c))

pub runs_subtracted : (s t : Formula) (x y : Frac) (r : Result Frac Wide) → Runs s (Ok x) → Runs t (Ok y) → MatchResult r (λ r. SubtractsNarrow x y × IsQuotient r (x.num *ℤ y.den -ℤ y.num *ℤ x.den) (x.den *ℤ y.den)) (λ w. SubtractsWide x y) → Runs (subtracted s t) r
runs_subtracted s t x y (Ok r) h k c = ((x, y, h.0, k.0, c.1), narrow)
  where
    narrow : HasWideCall (subtracted s t) → ⊥
    narrow (inl w) = h.1 w
    narrow (inr (inl w)) = k.1 w
    narrow (inr (inr w)) = last_call s t SubtractsWide x y h.0 k.0 (subtracts_narrow x y c.0) w
runs_subtracted s t x y (Err w) h k c = inr (inr (x, y, h.0, k.0, c))

pub runs_multiplied : (s t : Formula) (x y : Frac) (r : Result Frac Wide) → Runs s (Ok x) → Runs t (Ok y) → MatchResult r (λ r. MultipliesNarrow x y × IsQuotient r (x.num *ℤ y.num) (x.den *ℤ y.den)) (λ w. MultipliesWide x y) → Runs (multiplied s t) r
runs_multiplied s t x y (Ok r) h k c = ((x, y, h.0, k.0, c.1), narrow)
  where
    narrow : HasWideCall (multiplied s t) → ⊥
    narrow (inl w) = h.1 w
    narrow (inr (inl w)) = k.1 w
    narrow (inr (inr w)) = last_call s t MultipliesWide x y h.0 k.0 (multiplies_narrow x y c.0) w
runs_multiplied s t x y (Err w) h k c = inr (inr (x, y, h.0, k.0, c))

abbrev QuotientIsWide : Frac → Frac → Type 0
QuotientIsWide x y = IsWide (x.num *ℤ y.den) ⊎ IsWide (x.den *ℤ y.num)

pub runs_divided : (s t : Formula) (x y r : Frac) → Runs s (Ok x) → Runs t (Ok y) → DivGives x y (Ok r) → Runs (divided s t) (Ok r)
runs_divided s t x y r h k c = ((x, y, h.0, k.0, c.0, c.3), narrow)
  where
    not_wide : QuotientIsWide x y → ⊥
    not_wide (inl w) = narrow_not_wide (x.num *ℤ y.den) c.1 w
    not_wide (inr w) = narrow_not_wide (x.den *ℤ y.num) c.2 w

    narrow : HasWideCall (divided s t) → ⊥
    narrow (inl w) = h.1 w
    narrow (inr (inl w)) = k.1 w
    narrow (inr (inr w)) = last_call s t QuotientIsWide x y h.0 k.0 not_wide w
