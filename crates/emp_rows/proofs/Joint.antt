-- Common denominators and numerators over them.
use Rattle.std.proofs.Common.{◌≡◌, ℕ, ◌+◌, ◌<◌, ◌≤◌, Bool, true, false, cond, ℤ, pos, ◌<ℤ◌, unsigned_abs, int_div, List, [], ◌∷◌, ◌++◌, length, get_or, drop, Option, Some, None, option_and_then, refl, sym, ap, ◌∙◌, subst, append_assoc, append-nil, Result, Ok, Err, IfOk}
use Rattle.std.specs.List.{All}
use Rattle.std.proofs.lemmas.Int.{to_z-of_z}
use Rattle.std.proofs.lemmas.List.{drop_more, drop_all}
use Rattle.std.proofs.lemmas.List.Elements.{All-nil, All-cons, All-append}
use Rattle.emp_num.specs.Exact.{IsNarrow, IsWide}
use Rattle.emp_num.specs.declared.frac.Frac.{Frac}
use Rattle.emp_rows.specs.Primitive.{narrowed, joint, joint_from, numerator, numerators}
use Rattle.std.specs.Result.{result_ok}
use Rattle.emp_num.specs.declared.exact.Wide.{Wide as WideNumber}
use Rattle.emp_num.specs.Gcd.{gcd_of}
use Rattle.emp_num.proofs.Divisors.{IsGcd-gcd_of}
use Rattle.emp_algebra.proofs.Laws.{mul_pos}
use Rattle.emp_rows.proofs.Quotients.{gcd_positive, quotient_positive}
use Rattle.emp_rows.specs.Values.{is_narrow}
use Rattle.emp_rows.proofs.Tests.{narrow_true, wide_false}

pub narrowed_ok : (z : ℤ) → IsNarrow z → narrowed z ≡ Some z
narrowed_ok z h = ap (λ b. cond b (Some z) None) (narrow_true z h)

pub narrowed_wide : (z : ℤ) → IsWide z → narrowed z ≡ None
narrowed_wide z h = ap (λ b. cond b (Some z) None) (wide_false z h)

pub ruleset joining = (to_z-of_z, narrowed_ok, narrowed_wide)

pub joint-drop : (l : ℤ) (fs : List Frac) (i : ℕ) (f : Frac) → i < length fs → joint_from l (drop i fs) ≡ option_and_then (λ m. joint_from m (drop (i + 1) fs)) (narrowed (joint l (get_or fs i f).den))
joint-drop l fs i f h = rw (drop_more fs i f h) refl

pub joint-all : (l : ℤ) (fs : List Frac) (i : ℕ) → length fs ≤ i → joint_from l (drop i fs) ≡ Some l
joint-all l fs i h = rw (drop_all i fs h) refl

pub ruleset folding = (to_z-of_z, joint-drop, joint-all)

pub ruleset forming = (to_z-of_z)

-- the least common multiple is above 0
pub joint_above : (l d : ℤ) → pos 0 <ℤ l → pos 0 <ℤ d → pos 0 <ℤ joint l d
joint_above l d p q =
    let g : ℕ = gcd_of (unsigned_abs l) (unsigned_abs d) in
    mul_pos (int_div l (pos (gcd_of (unsigned_abs l) (unsigned_abs d)))) d (quotient_positive l (gcd_of (unsigned_abs l) (unsigned_abs d)) (IsGcd-gcd_of (unsigned_abs l) (unsigned_abs d)).0 (gcd_positive l (unsigned_abs d) p) p) q

pub joint_sound : (l d : ℤ) (r : Result ℤ WideNumber) → pos 0 <ℤ l → pos 0 <ℤ d → result_ok r ≡ narrowed (joint l d) → IfOk r (λ m. pos 0 <ℤ m)
joint_sound l d (Err e) p q h = tt
joint_sound l d (Ok m) p q h = go (is_narrow (joint l d)) h
  where
    go : (b : Bool) → Some m ≡ cond b (Some (joint l d)) None → pos 0 <ℤ m
    go true f = let e : joint l d ≡ m = cc in subst (λ (z : ℤ). pos 0 <ℤ z) e (joint_above l d p q)
    go false f = cc

-- ---- numerators in order
-- the numbers that are there, and then those that are to come
abbrev pub prefixed : List ℤ → Option (List ℤ) → Option (List ℤ)
prefixed out None = None
prefixed out (Some ns) = Some (out ++ ns)

added_first : (out : List ℤ) (n : ℤ) (o : Option (List ℤ)) → prefixed out (option_and_then (λ ns. Some (n ∷ ns)) o) ≡ prefixed (out ++ n ∷ []) o
added_first out n None = refl
added_first out n (Some ns) = ap Some (sym (append_assoc out (n ∷ []) ns))

pub numerators-more : (l : ℤ) (fs : List Frac) (i : ℕ) (f : Frac) (out : List ℤ) (n : ℤ) → i < length fs → numerator l (get_or fs i f) ≡ Some n → prefixed (out ++ n ∷ []) (numerators l (drop (i + 1) fs)) ≡ prefixed out (numerators l (drop i fs))
numerators-more l fs i f out n h e =
    sym (ap (λ r. prefixed out (numerators l r)) (drop_more fs i f h)
    ∙ (ap (λ o. prefixed out (option_and_then (λ n. option_and_then (λ ns. Some (n ∷ ns)) (numerators l (drop (i + 1) fs))) o)) e ∙ added_first out n (numerators l (drop (i + 1) fs))))

pub numerators-wide : (l : ℤ) (fs : List Frac) (i : ℕ) (f : Frac) (out : List ℤ) → i < length fs → numerator l (get_or fs i f) ≡ None → prefixed out (numerators l (drop i fs)) ≡ None
numerators-wide l fs i f out h e =
    ap (λ r. prefixed out (numerators l r)) (drop_more fs i f h) ∙ ap (λ o. prefixed out (option_and_then (λ n. option_and_then (λ ns. Some (n ∷ ns)) (numerators l (drop (i + 1) fs))) o)) e

pub numerators-all : (l : ℤ) (fs : List Frac) (i : ℕ) (out : List ℤ) → length fs ≤ i → prefixed out (numerators l (drop i fs)) ≡ Some out
numerators-all l fs i out h = ap (λ r. prefixed out (numerators l r)) (drop_all i fs h) ∙ ap Some (append-nil out)

pub prefixed_nil : (o : Option (List ℤ)) → prefixed [] o ≡ o
prefixed_nil None = refl
prefixed_nil (Some ns) = refl

pub narrow_more : (out : List ℤ) (n : ℤ) → All IsNarrow out → IsNarrow n → All IsNarrow (out ++ n ∷ [])
narrow_more out n h k = All-append IsNarrow out (n ∷ []) h (All-cons IsNarrow n [] k (All-nil IsNarrow))

pub narrow_none : All IsNarrow []
narrow_none = All-nil IsNarrow

pub ruleset collecting = (to_z-of_z, numerators-more, numerators-wide, numerators-all, prefixed_nil, narrow_more, narrow_none)
