-- Polynomials times 1 or -1, and polynomials without a variable.
use Rattle.std.proofs.Common.{◌≡◌, ◌≢◌, ◌⊎◌, inl, inr, ℕ, zero, suc, ◌+◌, ◌<◌, ◌≤◌, ℤ, pos, negsuc, neg_ℤ, ◌*ℤ◌, Bool, true, false, ◌&&◌, not, cond, nat_eq, nat_lt, List, [], ◌∷◌, ◌++◌, length, get_or, take, arith, refl, sym, ap, ap₂, subst, subst₂, ◌∙◌}
use Rattle.std.specs.Prelude.{filter}
use Rattle.std.proofs.lemmas.Bool.{eq-eqb, ne_eqb, and_parts, and_from, cases_eq, cases_Bool}
use Rattle.std.proofs.lemmas.List.{take_more, take_all}
use Rattle.emp_algebra.proofs.Ring.{var, lit, neg, ◌⊗◌, by_ring}
use Rattle.emp_num.specs.FracSpec.{IsQuotient}
use Rattle.emp_num.specs.Whole.{whole}
use Rattle.emp_num.specs.declared.frac.Frac.{Frac}
use Rattle.emp_ast.specs.declared.tree.VarId.{VarId}
use Rattle.emp_poly.specs.Terms.{is_not_zero, is_linear_from, comes_from, is_square_from}
use Rattle.emp_poly.specs.Quads.{linear_at, square_at}
use Rattle.emp_poly.specs.declared.quad.Quad.{Quad}
use Rattle.emp_poly.proofs.QuadForms.{LinearFacts, linear_facts}
use Rattle.emp_subst.specs.Stages.{sign_of, LinearTimes, SquareTimes, IsTimes, IsWithout}

-- ---- one coefficient
opposite_some : (z : ℤ) → is_not_zero (neg_ℤ z) ≡ is_not_zero z
opposite_some (pos zero) = refl
opposite_some (pos (suc n)) = refl
opposite_some (negsuc n) = refl

sign_some : (b : Bool) (z : ℤ) → is_not_zero (sign_of b *ℤ z) ≡ is_not_zero z
sign_some true z = ap is_not_zero (by_ring (z ∷ []) (lit (negsuc 0) ⊗ var 0) (neg (var 0)) refl) ∙ opposite_some z
sign_some false z = ap is_not_zero (by_ring (z ∷ []) (lit (pos 1) ⊗ var 0) (var 0) refl)

times_zero : (s : ℤ) → pos 0 ≡ s *ℤ pos 0
times_zero s = by_ring (s ∷ []) (lit (pos 0)) (var 0 ⊗ lit (pos 0)) refl

pub record IsFracTimes (s : ℤ) (t x : Frac) : Type 0 where
  pub num : x.num ≡ s *ℤ t.num
  pub den : x.den ≡ t.den

quotient_times : (s : ℤ) (t x : Frac) (n d : ℤ) → IsFracTimes s t x → IsQuotient t n d → IsQuotient x (s *ℤ n) d
quotient_times s t x n d e h =
    ap (λ y. y *ℤ d) e.num
    ∙ (by_ring (s ∷ t.num ∷ d ∷ []) (var 0 ⊗ var 1 ⊗ var 2) (var 0 ⊗ (var 1 ⊗ var 2)) refl
    ∙ (ap (λ y. s *ℤ y) h ∙ (by_ring (s ∷ n ∷ t.den ∷ []) (var 0 ⊗ (var 1 ⊗ var 2)) (var 0 ⊗ var 1 ⊗ var 2) refl ∙ ap (λ y. s *ℤ n *ℤ y) (sym e.den))))

-- ---- linear terms
linear_push : (s : ℤ) (ts xs : List (VarId × Frac)) (t x : VarId × Frac) → LinearTimes s ts xs → x.0 ≡ t.0 → x.1.num ≡ s *ℤ t.1.num → x.1.den ≡ t.1.den → LinearTimes s (ts ++ t ∷ []) (xs ++ x ∷ [])
linear_push s [] [] t x h v n d = (v, n, d, tt)
linear_push s [] (y ∷ xs) t x h v n d = absurd h
linear_push s (u ∷ ts) [] t x h v n d = absurd h
linear_push s (u ∷ ts) (y ∷ xs) t x h v n d = (h.0, h.1, h.2, linear_push s ts xs t x h.3 v n d)

pub linear_more : (s : ℤ) (ts xs : List (VarId × Frac)) (i : ℕ) (t x : VarId × Frac) → i < length ts → t ≡ get_or ts i t → LinearTimes s (take i ts) xs → x.0 ≡ t.0 → x.1.num ≡ s *ℤ t.1.num → x.1.den ≡ t.1.den → LinearTimes s (take (i + 1) ts) (xs ++ x ∷ [])
linear_more s ts xs i t x l is h v n d =
    subst (λ ys. LinearTimes s ys (xs ++ x ∷ [])) (ap (λ y. take i ts ++ y ∷ []) is ∙ sym (take_more ts i t l)) (linear_push s (take i ts) xs t x h v n d)

pub linear_done : (s : ℤ) (ts xs : List (VarId × Frac)) (i : ℕ) → length ts ≤ i → LinearTimes s (take i ts) xs → LinearTimes s ts xs
linear_done s ts xs i l h = subst (λ ys. LinearTimes s ys xs) (take_all i ts l) h

linear_same : (b : Bool) (ts xs : List (VarId × Frac)) (least : ℕ) → LinearTimes (sign_of b) ts xs → is_linear_from least xs ≡ is_linear_from least ts
linear_same b [] [] least h = refl
linear_same b [] (x ∷ xs) least h = absurd h
linear_same b (t ∷ ts) [] least h = absurd h
linear_same b (t ∷ ts) (x ∷ xs) least h =
    ap (λ (v : VarId). not (nat_lt v.at least) && (is_not_zero x.1.num && is_linear_from (v.at + 1) xs)) h.0
    ∙ ap₂ (λ c d. not (nat_lt t.0.at least) && (c && d)) (ap is_not_zero h.1 ∙ sign_some b t.1.num) (linear_same b ts xs (t.0.at + 1) h.3)

linear_entry : (s : ℤ) (ts xs : List (VarId × Frac)) (i : ℕ) → LinearTimes s ts xs → IsFracTimes s (linear_at ts i) (linear_at xs i)
linear_entry s [] [] i h = record { num = times_zero s; den = refl }
linear_entry s [] (x ∷ xs) i h = absurd h
linear_entry s (t ∷ ts) [] i h = absurd h
linear_entry s (t ∷ ts) (x ∷ xs) i h =
    subst (λ (v : VarId). IsFracTimes s (cond (nat_eq t.0.at i) t.1 (linear_at ts i)) (cond (nat_eq v.at i) x.1 (linear_at xs i))) (sym h.0) (go (nat_eq t.0.at i) (linear_entry s ts xs i h.3))
  where
    go : (c : Bool) → IsFracTimes s (linear_at ts i) (linear_at xs i) → IsFracTimes s (cond c t.1 (linear_at ts i)) (cond c x.1 (linear_at xs i))
    go true rest = record { num = h.1; den = h.2 }
    go false rest = rest

-- ---- quadratic terms
square_push : (s : ℤ) (ts xs : List (VarId × VarId × Frac)) (t x : VarId × VarId × Frac) → SquareTimes s ts xs → x.0 ≡ t.0 → x.1 ≡ t.1 → x.2.num ≡ s *ℤ t.2.num → x.2.den ≡ t.2.den → SquareTimes s (ts ++ t ∷ []) (xs ++ x ∷ [])
square_push s [] [] t x h u v n d = (u, v, n, d, tt)
square_push s [] (y ∷ xs) t x h u v n d = absurd h
square_push s (w ∷ ts) [] t x h u v n d = absurd h
square_push s (w ∷ ts) (y ∷ xs) t x h u v n d = (h.0, h.1, h.2, h.3, square_push s ts xs t x h.4 u v n d)

pub square_more : (s : ℤ) (ts xs : List (VarId × VarId × Frac)) (i : ℕ) (t x : VarId × VarId × Frac) → i < length ts → t ≡ get_or ts i t → SquareTimes s (take i ts) xs → x.0 ≡ t.0 → x.1 ≡ t.1 → x.2.num ≡ s *ℤ t.2.num → x.2.den ≡ t.2.den → SquareTimes s (take (i + 1) ts) (xs ++ x ∷ [])
square_more s ts xs i t x l is h u v n d =
    subst (λ ys. SquareTimes s ys (xs ++ x ∷ [])) (ap (λ y. take i ts ++ y ∷ []) is ∙ sym (take_more ts i t l)) (square_push s (take i ts) xs t x h u v n d)

pub square_done : (s : ℤ) (ts xs : List (VarId × VarId × Frac)) (i : ℕ) → length ts ≤ i → SquareTimes s (take i ts) xs → SquareTimes s ts xs
square_done s ts xs i l h = subst (λ ys. SquareTimes s ys xs) (take_all i ts l) h

square_same : (b : Bool) (ts xs : List (VarId × VarId × Frac)) (i j : ℕ) → SquareTimes (sign_of b) ts xs → is_square_from i j xs ≡ is_square_from i j ts
square_same b [] [] i j h = refl
square_same b [] (x ∷ xs) i j h = absurd h
square_same b (t ∷ ts) [] i j h = absurd h
square_same b (t ∷ ts) (x ∷ xs) i j h =
    ap (λ (v : VarId). comes_from i j v.at x.1.at && (is_not_zero x.2.num && is_square_from v.at (x.1.at + 1) xs)) h.0
    ∙ (ap (λ (v : VarId). comes_from i j t.0.at v.at && (is_not_zero x.2.num && is_square_from t.0.at (v.at + 1) xs)) h.1
    ∙ ap₂ (λ c d. comes_from i j t.0.at t.1.at && (c && d)) (ap is_not_zero h.2 ∙ sign_some b t.2.num) (square_same b ts xs t.0.at (t.1.at + 1) h.4))

square_entry : (s : ℤ) (ts xs : List (VarId × VarId × Frac)) (i j : ℕ) → SquareTimes s ts xs → IsFracTimes s (square_at ts i j) (square_at xs i j)
square_entry s [] [] i j h = record { num = times_zero s; den = refl }
square_entry s [] (x ∷ xs) i j h = absurd h
square_entry s (t ∷ ts) [] i j h = absurd h
square_entry s (t ∷ ts) (x ∷ xs) i j h =
    subst₂ (λ (u v : VarId). IsFracTimes s (cond (nat_eq t.0.at i && nat_eq t.1.at j) t.2 (square_at ts i j)) (cond (nat_eq u.at i && nat_eq v.at j) x.2 (square_at xs i j))) (sym h.0) (sym h.1) (go (nat_eq t.0.at i && nat_eq t.1.at j) (square_entry s ts xs i j h.4))
  where
    go : (c : Bool) → IsFracTimes s (square_at ts i j) (square_at xs i j) → IsFracTimes s (cond c t.2 (square_at ts i j)) (cond c x.2 (square_at xs i j))
    go true rest = record { num = h.2; den = h.3 }
    go false rest = rest

pub ruleset timing = (linear_more, linear_done, square_more, square_done)

-- ---- the polynomial
pub times_linear : (q : Quad) (b : Bool) (xs ts : List (VarId × Frac)) → ts ≡ q.linear → LinearTimes (sign_of b) ts xs → is_linear_from 0 xs ≡ true
times_linear q b xs ts e h = linear_same b ts xs 0 h ∙ (ap (is_linear_from 0) e ∙ q.linear_kept)

pub times_square : (q : Quad) (b : Bool) (xs ts : List (VarId × VarId × Frac)) → ts ≡ q.square → SquareTimes (sign_of b) ts xs → is_square_from 0 0 xs ≡ true
times_square q b xs ts e h = square_same b ts xs 0 0 h ∙ (ap (is_square_from 0 0) e ∙ q.square_kept)

pub is_times : (s : ℤ) (q r : Quad) → IsFracTimes s q.constant r.constant → LinearTimes s q.linear r.linear → SquareTimes s q.square r.square → IsTimes s q r
is_times s q r c l k f h = record {
  den = h.den;
  constant = quotient_times s q.constant r.constant f.constant f.den c h.constant;
  linear = λ i. quotient_times s (linear_at q.linear i) (linear_at r.linear i) (f.linear i) f.den (linear_entry s q.linear r.linear i l) (h.linear i);
  square = λ i j le. quotient_times s (square_at q.square i j) (square_at r.square i j) (f.square i j) f.den (square_entry s q.square r.square i j k) (h.square i j le);
}

-- ---- without a variable
abbrev rest : ℕ → List (VarId × Frac) → List (VarId × Frac)
rest w ts = filter (λ t. not (nat_eq t.0.at w)) ts

lower : (ts : List (VarId × Frac)) (least more : ℕ) → least ≤ more → is_linear_from more ts ≡ true → is_linear_from least ts ≡ true
lower [] least more l h = refl
lower (t ∷ ts) least more l h =
    let f : LinearFacts t ts more = linear_facts t ts more h in
    and_from (not (nat_lt t.0.at least)) (is_not_zero t.1.num && is_linear_from (t.0.at + 1) ts) (low (cases_Bool (nat_lt t.0.at least)) f.from) (and_from (is_not_zero t.1.num) (is_linear_from (t.0.at + 1) ts) f.some f.rest)
  where
    low : (nat_lt t.0.at least ≡ true) ⊎ (nat_lt t.0.at least ≡ false) → more ≤ t.0.at → not (nat_lt t.0.at least) ≡ true
    low (inl e) k = grind arith
    low (inr e) k = ap not e

rest_kept : (w : ℕ) (ts : List (VarId × Frac)) (least : ℕ) → is_linear_from least ts ≡ true → is_linear_from least (rest w ts) ≡ true
rest_kept w [] least h = refl
rest_kept w (t ∷ ts) least h = go (nat_eq t.0.at w) (linear_facts t ts least h) (λ l k. rest_kept w ts l k)
  where
    go : (b : Bool) → LinearFacts t ts least → ((l : ℕ) → is_linear_from l ts ≡ true → is_linear_from l (rest w ts) ≡ true) → is_linear_from least (cond (not b) (t ∷ rest w ts) (rest w ts)) ≡ true
    go true f more = more least (lower ts least (t.0.at + 1) (let k = f.from in omega arith) f.rest)
    go false f more = and_from (not (nat_lt t.0.at least)) (is_not_zero t.1.num && is_linear_from (t.0.at + 1) (rest w ts)) (and_parts (not (nat_lt t.0.at least)) (is_not_zero t.1.num && is_linear_from (t.0.at + 1) ts) h).0 (and_from (is_not_zero t.1.num) (is_linear_from (t.0.at + 1) (rest w ts)) f.some (more (t.0.at + 1) f.rest))

rest_at : (w : ℕ) (ts : List (VarId × Frac)) (i : ℕ) → linear_at (rest w ts) i ≡ cond (nat_eq i w) (whole 0) (linear_at ts i)
rest_at w [] i = same (nat_eq i w)
  where
    same : (b : Bool) → whole 0 ≡ cond b (whole 0) (whole 0)
    same true = refl
    same false = refl
rest_at w (t ∷ ts) i = go (cases_eq t.0.at w) (cases_eq t.0.at i) (rest_at w ts i)
  where
    go : (t.0.at ≡ w) ⊎ (t.0.at ≢ w) → (t.0.at ≡ i) ⊎ (t.0.at ≢ i) → linear_at (rest w ts) i ≡ cond (nat_eq i w) (whole 0) (linear_at ts i) → linear_at (cond (not (nat_eq t.0.at w)) (t ∷ rest w ts) (rest w ts)) i ≡ cond (nat_eq i w) (whole 0) (cond (nat_eq t.0.at i) t.1 (linear_at ts i))
    go (inl gone) (inl here) more = rw (eq-eqb t.0.at w gone, eq-eqb i w (sym here ∙ gone)) (more ∙ rw (eq-eqb i w (sym here ∙ gone)) refl)
    go (inl gone) (inr away) more = rw (eq-eqb t.0.at w gone, ne_eqb t.0.at i away) more
    go (inr kept) (inl here) more = rw (ne_eqb t.0.at w kept, eq-eqb t.0.at i here, ne_eqb i w (λ e. kept (here ∙ e))) refl
    go (inr kept) (inr away) more = rw (ne_eqb t.0.at w kept, ne_eqb t.0.at i away) more

quotient_rest : (b : Bool) (x : Frac) (n d : ℤ) → IsQuotient x n d → IsQuotient (cond b (whole 0) x) (cond b (pos 0) n) d
quotient_rest true x n d h = by_ring (d ∷ []) (lit (pos 0) ⊗ var 0) (lit (pos 0) ⊗ lit (pos 1)) refl
quotient_rest false x n d h = h

pub without_linear : (q : Quad) (w : ℕ) (xs ts : List (VarId × Frac)) → ts ≡ q.linear → xs ≡ filter (λ t. not (nat_eq t.0.at w)) ts → is_linear_from 0 xs ≡ true
without_linear q w xs ts e h = ap (is_linear_from 0) h ∙ rest_kept w ts 0 (ap (is_linear_from 0) e ∙ q.linear_kept)

pub is_without : (w : ℕ) (q r : Quad) → r.constant ≡ q.constant → r.linear ≡ filter (λ t. not (nat_eq t.0.at w)) q.linear → r.square ≡ q.square → IsWithout w q r
is_without w q r c l k f h = record {
  den = h.den;
  constant = subst (λ (x : Frac). IsQuotient x f.constant f.den) (sym c) h.constant;
  linear = λ i. subst (λ (x : Frac). IsQuotient x (cond (nat_eq i w) (pos 0) (f.linear i)) f.den) (sym (ap (λ ts. linear_at ts i) l ∙ rest_at w q.linear i)) (quotient_rest (nat_eq i w) (linear_at q.linear i) (f.linear i) f.den (h.linear i));
  square = λ i j le. subst (λ ts. IsQuotient (square_at ts i j) (f.square i j) f.den) (sym k) (h.square i j le);
}

pub ruleset scaling = (times_linear, times_square, is_times)

pub ruleset leaving = (without_linear, is_without)
