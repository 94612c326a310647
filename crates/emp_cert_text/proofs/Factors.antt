-- Words of factors that are not 0.
use Rattle.std.proofs.Common.{◌≡◌, ◌≢◌, ◌⊎◌, inl, inr, ℕ, zero, suc, ◌+◌, ◌-◌, ◌<◌, ◌≤◌, Bool, true, false, cond, ◌||◌, not, nat_eq, ℤ, pos, ◌<ℤ◌, ◌≤ℤ◌, unsigned_abs, List, [], ◌∷◌, ◌++◌, length, take, drop, decimal, ◌^◌, Option, Some, None, arith, refl, sym, ap, subst, ◌∙◌, append_assoc, append-nil, length-append, eqb-true, All}
use Rattle.std.specs.Prelude.{Ok, Err}
use Rattle.std.specs.Bool.{Decides}
use Rattle.std.specs.Fmt.{signed_decimal}
use Rattle.std.proofs.lemmas.Bool.{true≢false, false≢true, eqb-false}
use Rattle.std.proofs.lemmas.Int.{ints, to_z-of_z}
use Rattle.std.proofs.lemmas.List.{take_all}
use Rattle.std.proofs.lemmas.List.Elements.{All-nil, All-cons, All-append, All-head, All-tail}
use Rattle.emp_num.specs.Exact.{IsNarrow, IsWide}
use Rattle.emp_numeral.specs.Numeral.{first}
use Rattle.emp_algebra.specs.Vector.{is_zero}
use Rattle.emp_rows.proofs.Tests.{zero_true, zero_false}
use Rattle.emp_cert_text.specs.Text.{spaced, sparse, factors}
use Rattle.emp_cert_text.specs.Words.{whole, lacks, first_word, after_word}
use Rattle.emp_cert_text.specs.Lines.{AreWords, IsWhole, IsAbove, FactorsRight, IsFactor, AreFactors, IsLast, last_of, TakesFactor, FactorsGive}
use Rattle.emp_cert_text.specs.declared.lines.LineFault.TheVariants.{Range, Syntax}
use Rattle.emp_cert_text.proofs.Adding.{spaced-append}
use Rattle.emp_cert_text.proofs.Numbers.{parted, lacks_not, whole_lacks, whole_text, signed_is}
use Rattle.emp_cert_text.proofs.Heads.{numbers_right}
use Rattle.emp_cert_text.proofs.Spaced.{are_plain, plain_append, plain_whole, first_plain, after_plain, space_parts, word_parts, peel, Plain, SomeWords}

-- ---- zeros
pub sparse-append : (k : ℕ) (xs ys : List ℤ) → sparse k (xs ++ ys) ≡ sparse k xs ++ sparse (k + length xs) ys
sparse-append k [] ys = let e : k ≡ k + 0 = omega arith in ap (λ n. sparse n ys) e
sparse-append k (x ∷ xs) ys = let e : k + 1 + length xs ≡ k + suc (length xs) = omega arith in go (is_zero x) (sparse-append (k + 1) xs ys ∙ ap (λ n. sparse (k + 1) xs ++ sparse n ys) e)
  where
    go : (b : Bool) → sparse (k + 1) (xs ++ ys) ≡ sparse (k + 1) xs ++ sparse (k + suc (length xs)) ys → cond b (sparse (k + 1) (xs ++ ys)) ((decimal k ++ (58 ∷ signed_decimal x)) ∷ sparse (k + 1) (xs ++ ys)) ≡ cond b (sparse (k + 1) xs) ((decimal k ++ (58 ∷ signed_decimal x)) ∷ sparse (k + 1) xs) ++ sparse (k + suc (length xs)) ys
    go true h = h
    go false h = ap (λ t. (decimal k ++ (58 ∷ signed_decimal x)) ∷ t) h

pub zero_more : (out new : List ℤ) → new ≡ out ++ pos 0 ∷ [] → sparse 1 new ≡ sparse 1 out
zero_more out new e = ap (sparse 1) e ∙ (sparse-append 1 out (pos 0 ∷ []) ∙ append-nil (sparse 1 out))

pub length_more : (out new : List ℤ) (z : ℤ) → new ≡ out ++ z ∷ [] → length new ≡ length out + 1
length_more out new z e = ap length e ∙ length-append out (z ∷ [])

pub narrow_more : (out new : List ℤ) (z : ℤ) → new ≡ out ++ z ∷ [] → IsNarrow z → All IsNarrow out → All IsNarrow new
narrow_more out new z e n h = subst (λ xs. All IsNarrow xs) (sym e) (All-append IsNarrow out (z ∷ []) h (All-cons IsNarrow z [] n (All-nil IsNarrow)))

pub zero_narrow : (out new : List ℤ) → new ≡ out ++ pos 0 ∷ [] → All IsNarrow out → All IsNarrow new
zero_narrow out new e h = narrow_more out new (pos 0) e (omega (arith, ints)) h

pub ruleset padding = (to_z-of_z, zero_more, length_more, zero_narrow)

-- ---- parts of a word
pub last_is : (w : List ℕ) → IsWhole w → last_of w ≡ Some (whole w)
last_is [] h = absurd (false≢true h)
last_is (b ∷ bs) h = refl

pub last_none : (w : List ℕ) (k : ℤ) → length w ≡ 0 → IsAbove (last_of w) k
last_none [] k e = tt
last_none (b ∷ bs) k e = absurd (omega arith)

pub after_is : (w : List ℕ) (k : ℤ) (r : Bool) → IsWhole w → Decides r (whole w <ℤ k) → Decides r (IsAbove (last_of w) k)
after_is w k r h d = subst (λ (o : Option ℤ). Decides r (IsAbove o k)) (sym (last_is w h)) d

pub is_not_zero : (w : List ℕ) (z : ℤ) → z ≡ whole w → z ≢ pos 0 → whole w ≢ pos 0
is_not_zero w z e n f = n (e ∙ f)

pub wide_not_zero : (w : List ℕ) → IsWide (whole w) → whole w ≢ pos 0
wide_not_zero w h e = absurd (omega (arith, h, ap unsigned_abs e))

pub ruleset parting = (to_z-of_z, last_none, after_is, is_not_zero, wide_not_zero)

pub no_colon : (w : List ℕ) (c : ℕ) (last : Option ℤ) → length w ≤ c → lacks 58 (take c w) ≡ true → (k m : List ℕ) → IsFactor last w k m → ⊥
no_colon w c last l h k m f = lacks_not 58 k m (ap (lacks 58) (sym f.parts ∙ sym (take_all c w l)) ∙ h)

pub colon_parts : (w : List ℕ) (c : ℕ) (last : Option ℤ) (k m : List ℕ) → lacks 58 (take c w) ≡ true → w ≡ take c w ++ (58 ∷ drop (c + 1) w) → IsFactor last w k m → (take c w ≡ k) × (drop (c + 1) w ≡ m)
colon_parts w c last k m h e f = parted 58 (take c w) (drop (c + 1) w) k m h (whole_lacks 58 k refl (λ x. absurd (omega (arith, x))) f.place) (sym e ∙ f.parts)

pub no_place : (w : List ℕ) (c : ℕ) (last : Option ℤ) (x : List ℕ) → x ≡ take c w → lacks 58 (take c w) ≡ true → w ≡ take c w ++ (58 ∷ drop (c + 1) w) → (r : Bool) → Decides r (IsWhole x) → r ≡ false → (k m : List ℕ) → IsFactor last w k m → ⊥
no_place w c last x s h e r d n k m f = true≢false (sym (d.1 (subst (λ (y : List ℕ). IsWhole y) (sym (s ∙ (colon_parts w c last k m h e f).0)) f.place)) ∙ n)

pub not_after : (w : List ℕ) (c : ℕ) (last : Option ℤ) (x : List ℕ) → x ≡ take c w → lacks 58 (take c w) ≡ true → w ≡ take c w ++ (58 ∷ drop (c + 1) w) → (r : Bool) → Decides r (IsAbove last (whole x)) → r ≡ false → (k m : List ℕ) → IsFactor last w k m → ⊥
not_after w c last x s h e r d n k m f = true≢false (sym (d.1 (subst (λ (y : List ℕ). IsAbove last (whole y)) (sym (s ∙ (colon_parts w c last k m h e f).0)) f.above)) ∙ n)

pub no_factor : (w : List ℕ) (c : ℕ) (last : Option ℤ) (x : List ℕ) → x ≡ drop (c + 1) w → lacks 58 (take c w) ≡ true → w ≡ take c w ++ (58 ∷ drop (c + 1) w) → (r : Bool) → Decides r (IsWhole x × (whole x ≢ pos 0)) → r ≡ false → (k m : List ℕ) → IsFactor last w k m → ⊥
no_factor w c last x s h e r d n k m f =
    let p : x ≡ m = s ∙ (colon_parts w c last k m h e f).1 in
    true≢false (sym (d.1 (subst (λ (y : List ℕ). IsWhole y) (sym p) f.factor, subst (λ (y : List ℕ). whole y ≢ pos 0) (sym p) f.some)) ∙ n)

pub is_factor : (w : List ℕ) (c : ℕ) (last : Option ℤ) (x y : List ℕ) → x ≡ take c w → y ≡ drop (c + 1) w → w ≡ take c w ++ (58 ∷ drop (c + 1) w) → (p q r : Bool) → Decides p (IsWhole x) → Decides q (IsAbove last (whole x)) → Decides r (IsWhole y × (whole y ≢ pos 0)) → p ≡ true → q ≡ true → r ≡ true → IsFactor last w (take c w) (drop (c + 1) w)
is_factor w c last x y s t e p q r f g h i j k = record {
  parts = e;
  place = subst (λ (z : List ℕ). IsWhole z) s (f.0 i);
  factor = subst (λ (z : List ℕ). IsWhole z) t (h.0 k).0;
  some = subst (λ (z : List ℕ). whole z ≢ pos 0) t (h.0 k).1;
  above = subst (λ (z : List ℕ). IsAbove last (whole z)) s (g.0 j);
}

-- ---- ranges
pub not_within : (w : List ℕ) (z : ℤ) (low high : ℕ) → z ≡ whole w → (z ≤ℤ pos low) ⊎ (pos high <ℤ z) → IsWhole w → pos low <ℤ whole w → whole w ≤ℤ pos high → ⊥
not_within w z low high e (inl l) h p q = absurd (omega (arith, ints, e, l, p))
not_within w z low high e (inr l) h p q = absurd (omega (arith, ints, e, l, q))

pub taken : (k m : List ℕ) (n count : ℕ) (z : ℤ) (old padded new : List ℤ) → IsWhole k → whole k ≡ pos n → length old < n → n ≤ count → count < 2 ^ 126 → IsWhole m → whole m ≢ pos 0 → z ≡ whole m → IsNarrow z → sparse 1 padded ≡ sparse 1 old → length padded ≡ n - 1 → (All IsNarrow old → All IsNarrow padded) → new ≡ padded ++ z ∷ [] → TakesFactor count k m old new true
taken k m n count z old padded new hk ek l u small hm nz ez nn es el an en =
    let size : length new ≡ n = omega (arith, length_more padded new z en, el, l) in
    let place : k ≡ decimal n = whole_text k (pos n) hk (sym ek) (omega (arith, ints)) in
    let factor : m ≡ signed_decimal z = whole_text m z hm ez nn in
    let other : z ≢ pos 0 = λ e. nz (sym ez ∙ e) in
    let at : 1 + length padded ≡ n = omega (arith, el, l) in
    let word : decimal n ++ 58 ∷ signed_decimal z ≡ k ++ 58 ∷ m = ap (λ x. x ++ 58 ∷ signed_decimal z) (sym place) ∙ ap (λ x. k ++ 58 ∷ x) (sym factor) in
    let one : sparse (1 + length padded) (z ∷ []) ≡ (k ++ 58 ∷ m) ∷ [] = ap (λ i. sparse i (z ∷ [])) at ∙ (ap (λ b. cond b [] ((decimal n ++ 58 ∷ signed_decimal z) ∷ [])) (zero_false z other) ∙ ap (λ x. x ∷ []) word) in (
      ap (sparse 1) en ∙ (sparse-append 1 padded (z ∷ []) ∙ (ap (λ x. x ++ sparse (1 + length padded) (z ∷ [])) es ∙ ap (λ x. sparse 1 old ++ x) one)),
      ek ∙ ap pos (sym size),
      omega (arith, size),
      λ h. narrow_more padded new z en nn (an h),
    )

pub ruleset taking = (to_z-of_z)

-- ---- reading
-- a word of a factor within the ranges
abbrev pub FitFactor : ℕ → List ℕ → Type 0
FitFactor count w = (n : ℕ) × (z : ℤ) × (1 ≤ n) × (n ≤ count) × IsNarrow z × (w ≡ decimal n ++ 58 ∷ signed_decimal z)

abbrev pub SomeFactors : Option ℤ → List ℕ → Type 0
SomeFactors last t = (n : ℕ) × AreFactors n last t

plain_factor : (last : Option ℤ) (w k m : List ℕ) → IsFactor last w k m → are_plain w ≡ true
plain_factor last w k m f = ap are_plain f.parts ∙ plain_append k (58 ∷ m) (plain_whole k f.place) (plain_whole m f.factor)

decimal_whole : (n : ℕ) → n < 2 ^ 126 → (IsWhole (decimal n)) × (whole (decimal n) ≡ pos n)
decimal_whole n l = signed_is (pos n) (omega (arith, ints, l))

plain_fit : (count : ℕ) → count < 2 ^ 126 → Plain (FitFactor count)
plain_fit count small w h = ap are_plain h.5 ∙ plain_append (decimal h.0) (58 ∷ signed_decimal h.1) (plain_whole (decimal h.0) (decimal_whole h.0 (omega (arith, h.3))).0) (plain_whole (signed_decimal h.1) (signed_is h.1 h.4).0)

pub factors_first : (n : ℕ) (last : Option ℤ) (t : List ℕ) → AreFactors n last t → first t ≤ 32
factors_first zero last t h = omega (arith, ap first h)
factors_first (suc n) last t h = omega (arith, ap first h.4)

record PeeledFactor (n : ℕ) (last : Option ℤ) (t : List ℕ) : Type 0 where
  k : List ℕ
  m : List ℕ
  space : first t ≡ 32
  word : IsFactor last (first_word (drop 1 t)) k m
  rest : AreFactors n (Some (whole k)) (after_word (drop 1 t))

peel_factor : (n : ℕ) (last : Option ℤ) (t : List ℕ) → AreFactors (suc n) last t → PeeledFactor n last t
peel_factor n last t h =
    let l : first h.3 ≤ 32 = factors_first n (Some (whole h.1)) h.3 h.6 in
    let d : drop 1 t ≡ h.0 ++ h.3 = ap (drop 1) h.4 in
    let p : are_plain h.0 ≡ true = plain_factor last h.0 h.1 h.2 h.5 in
    record {
      k = h.1;
      m = h.2;
      space = ap first h.4;
      word = subst (λ (x : List ℕ). IsFactor last x h.1 h.2) (sym (ap first_word d ∙ first_plain h.0 h.3 p l)) h.5;
      rest = subst (λ (x : List ℕ). AreFactors n (Some (whole h.1)) x) (sym (ap after_word d ∙ after_plain h.0 h.3 p l)) h.6;
    }

factor_same : (last other : Option ℤ) (w k m i j : List ℕ) → IsFactor last w k m → IsFactor other w i j → k ≡ i
factor_same last other w k m i j f g = (parted 58 k m i j (whole_lacks 58 k refl (λ x. absurd (omega (arith, x))) f.place) (whole_lacks 58 i refl (λ x. absurd (omega (arith, x))) g.place) (sym f.parts ∙ g.parts)).0

abbrev pub FactorsSoFar : ℕ → List ℕ → List ℕ → List ℕ → List ℤ → Bool → Type 0
FactorsSoFar count start rest before out false = (start ≡ spaced (sparse 1 out) ++ rest) × (SomeWords (FitFactor count) start → SomeWords (FitFactor count) rest) × (length out ≤ count) × All IsNarrow out × ((k : ℤ) → IsAbove (last_of before) k → pos 0 <ℤ k → pos (length out) <ℤ k)
FactorsSoFar count start rest before out true = SomeWords (FitFactor count) start → ⊥

pub record FactorReading (count : ℕ) (start rest before : List ℕ) (out : List ℤ) (outside : Bool) : Type 0 where
  pub to : SomeFactors None start → SomeFactors (last_of before) rest
  pub back : SomeFactors (last_of before) rest → SomeFactors None start
  pub last : IsLast before
  pub so_far : FactorsSoFar count start rest before out outside

pub factors_none : (count : ℕ) (start before : List ℕ) → before ≡ [] → FactorReading count start start before [] false
factors_none count start [] e = record { to = λ h. h; back = λ h. h; last = inl refl; so_far = (refl, λ h. h, omega arith, All-nil IsNarrow, λ k a l. l) }
factors_none count start (b ∷ bs) e = absurd (let n : suc (length bs) ≡ 0 = ap length e in omega arith)

peel_fit : (count : ℕ) → count < 2 ^ 126 → (t : List ℕ) → first t ≡ 32 → SomeWords (FitFactor count) t → FitFactor count (first_word (drop 1 t)) × SomeWords (FitFactor count) (after_word (drop 1 t))
peel_fit count small t e (zero, h) = absurd (omega (arith, e, ap first h))
peel_fit count small t e (suc n, h) = let p = peel (FitFactor count) (plain_fit count small) n t h in (p.word, (n, p.rest))

fit_parts : (count : ℕ) (last : Option ℤ) (w k m : List ℕ) → count < 2 ^ 126 → IsFactor last w k m → (f : FitFactor count w) → (whole k ≡ pos f.0) × IsNarrow (whole m)
fit_parts count last w k m small f g =
    let d = decimal_whole g.0 (omega (arith, g.3)) in
    let p = parted 58 k m (decimal g.0) (signed_decimal g.1) (whole_lacks 58 k refl (λ x. absurd (omega (arith, x))) f.place) (whole_lacks 58 (decimal g.0) refl (λ x. absurd (omega (arith, x))) d.0) (sym f.parts ∙ g.5) in
    (ap whole p.0 ∙ d.1, subst (λ (z : ℤ). IsNarrow z) (sym (ap whole p.1 ∙ (signed_is g.1 g.4).1)) g.4)

spaced_more : (start rest w u k m : List ℕ) (out new : List ℤ) → start ≡ spaced (sparse 1 out) ++ rest → rest ≡ 32 ∷ (w ++ u) → w ≡ k ++ 58 ∷ m → sparse 1 new ≡ sparse 1 out ++ (k ++ 58 ∷ m) ∷ [] → start ≡ spaced (sparse 1 new) ++ u
spaced_more start rest w u k m out new e f g h =
    let one : 32 ∷ (w ++ u) ≡ spaced ((k ++ 58 ∷ m) ∷ []) ++ u = ap (λ x. 32 ∷ (x ++ u)) (g ∙ sym (append-nil (k ++ 58 ∷ m))) in
    e ∙ (ap (λ x. spaced (sparse 1 out) ++ x) (f ∙ one)
    ∙ (sym (append_assoc (spaced (sparse 1 out)) (spaced ((k ++ 58 ∷ m) ∷ [])) u)
    ∙ ap (λ x. x ++ u) (sym (spaced-append (sparse 1 out) ((k ++ 58 ∷ m) ∷ [])) ∙ ap spaced (sym h))))

factors_so_far : (count : ℕ) (start rest before k m : List ℕ) (out new : List ℤ) (outside taken : Bool) → count < 2 ^ 126 → first rest ≡ 32 → IsFactor (last_of before) (first_word (drop 1 rest)) k m → TakesFactor count k m out new taken → FactorsSoFar count start rest before out outside → FactorsSoFar count start (after_word (drop 1 rest)) k new (outside || not taken)
factors_so_far count start rest before k m out new true t small e f h g = g
factors_so_far count start rest before k m out new false true small e f h g = (
  spaced_more start rest (first_word (drop 1 rest)) (after_word (drop 1 rest)) k m out new g.0 (space_parts rest e) f.parts h.0,
  λ s. (peel_fit count small rest e (g.1 s)).1,
  h.2,
  h.3 g.3,
  λ j a l. let b : whole k <ℤ j = subst (λ (o : Option ℤ). IsAbove o j) (last_is k f.place) a in omega (arith, ints, b, h.1),
)
factors_so_far count start rest before k m out new false false small e f h g = λ s.
    let p = peel_fit count small rest e (g.1 s) in
    let q = fit_parts count (last_of before) (first_word (drop 1 rest)) k m small f p.0 in
    h q.1 (g.4 (whole k) f.above (omega (arith, ints, q.0, p.0.2))) (omega (arith, ints, q.0, p.0.3))

pub factors_on : (count : ℕ) (start rest before w k m u : List ℕ) (out new : List ℤ) (outside taken : Bool) → count < 2 ^ 126 → nat_eq (first rest) 32 ≡ true → w ≡ first_word (drop 1 rest) → u ≡ after_word (drop 1 rest) → IsFactor (last_of before) w k m → TakesFactor count k m out new taken → FactorReading count start rest before out outside → FactorReading count start u k new (outside || not taken)
factors_on count start rest before w k m u out new outside t small s e f i h r =
    let space : first rest ≡ 32 = eqb-true (first rest) 32 s in
    let g : IsFactor (last_of before) (first_word (drop 1 rest)) k m = subst (λ (x : List ℕ). IsFactor (last_of before) x k m) e i in
    subst (λ (x : List ℕ). FactorReading count start x k new (outside || not t)) (sym f)
    (record {
      to = λ a. onward space g (r.to a);
      back = λ a. r.back (backward space g a);
      last = inr i.place;
      so_far = factors_so_far count start rest before k m out new outside t small space g h r.so_far;
    })
  where
    onward : first rest ≡ 32 → IsFactor (last_of before) (first_word (drop 1 rest)) k m → SomeFactors (last_of before) rest → SomeFactors (last_of k) (after_word (drop 1 rest))
    onward sp g (zero, a) = absurd (omega (arith, sp, ap first a))
    onward sp g (suc n, a) =
        let p = peel_factor n (last_of before) rest a in
        let same : p.k ≡ k = factor_same (last_of before) (last_of before) (first_word (drop 1 rest)) p.k p.m k m p.word g in
        (n, subst (λ (o : Option ℤ). AreFactors n o (after_word (drop 1 rest))) (ap (λ x. Some (whole x)) same ∙ sym (last_is k g.place)) p.rest)

    backward : first rest ≡ 32 → IsFactor (last_of before) (first_word (drop 1 rest)) k m → SomeFactors (last_of k) (after_word (drop 1 rest)) → SomeFactors (last_of before) rest
    backward sp g (n, a) = (suc n, (first_word (drop 1 rest), k, m, after_word (drop 1 rest), space_parts rest sp, g, subst (λ (o : Option ℤ). AreFactors n o (after_word (drop 1 rest))) (last_is k g.place) a))

pub factors_no_word : (count : ℕ) (start rest before w : List ℕ) (out : List ℤ) (outside : Bool) → nat_eq (first rest) 32 ≡ true → w ≡ first_word (drop 1 rest) → ((k m : List ℕ) → IsFactor (last_of before) w k m → ⊥) → FactorReading count start rest before out outside → FactorsGive true start count (Err Syntax)
factors_no_word count start rest before w out outside s e n r = λ a. go (r.to a)
  where
    go : SomeFactors (last_of before) rest → ⊥
    go (zero, h) = absurd (omega (arith, eqb-true (first rest) 32 s, ap first h))
    go (suc i, h) = let p = peel_factor i (last_of before) rest h in n p.k p.m (subst (λ (x : List ℕ). IsFactor (last_of before) x p.k p.m) (sym e) p.word)

pub factors_stop : (count : ℕ) (start rest before : List ℕ) (out : List ℤ) (outside r : Bool) → nat_eq (first rest) 32 ≡ false → Decides r (rest ≡ 10 ∷ []) → r ≡ false → FactorReading count start rest before out outside → FactorsGive true start count (Err Syntax)
factors_stop count start rest before out outside b s d n r = λ a. go (r.to a)
  where
    go : SomeFactors (last_of before) rest → ⊥
    go (zero, h) = true≢false (sym (d.1 h) ∙ n)
    go (suc i, h) = eqb-false (first rest) 32 s (peel_factor i (last_of before) rest h).space

fit_words : (count k : ℕ) (fs : List ℤ) → 1 ≤ k → k + length fs ≤ count + 1 → All IsNarrow fs → AreWords (FitFactor count) (length (sparse k fs)) (spaced (sparse k fs) ++ 10 ∷ [])
fit_words count k [] l m h = refl
fit_words count k (f ∷ fs) l m h = go (is_zero f) (fit_words count (k + 1) fs (omega arith) (omega arith) (All-tail IsNarrow f fs h))
  where
    word : List ℕ
    word = decimal k ++ (58 ∷ signed_decimal f)

    go : (b : Bool) → AreWords (FitFactor count) (length (sparse (k + 1) fs)) (spaced (sparse (k + 1) fs) ++ 10 ∷ []) → AreWords (FitFactor count) (length (cond b (sparse (k + 1) fs) (word ∷ sparse (k + 1) fs))) (spaced (cond b (sparse (k + 1) fs) (word ∷ sparse (k + 1) fs)) ++ 10 ∷ [])
    go true a = a
    go false a = (word, spaced (sparse (k + 1) fs) ++ 10 ∷ [], ap (λ z. 32 ∷ z) (append_assoc word (spaced (sparse (k + 1) fs)) (10 ∷ [])), (k, f, l, omega arith, All-head IsNarrow f fs h, refl), a)

pub factors_beyond : (count : ℕ) (start rest before : List ℕ) (out : List ℤ) (outside : Bool) → outside ≡ true → rest ≡ 10 ∷ [] → FactorReading count start rest before out outside → FactorsGive true start count (Err Range)
factors_beyond count start rest before out outside o e r = (
  r.back (0, e),
  λ f. (subst (λ (b : Bool). FactorsSoFar count start rest before out b) o r.so_far)
      (length (sparse 1 f.0), subst (λ (t : List ℕ). AreWords (FitFactor count) (length (sparse 1 f.0)) t) (sym f.3) (fit_words count 1 f.0 (omega arith) (omega (arith, f.1)) f.2)),
)

pub factors_end : (count : ℕ) (start rest before : List ℕ) (out padded : List ℤ) (outside : Bool) → outside ≡ false → rest ≡ 10 ∷ [] → FactorReading count start rest before out outside → sparse 1 padded ≡ sparse 1 out → length padded ≡ count → (All IsNarrow out → All IsNarrow padded) → FactorsGive true start count (Ok padded)
factors_end count start rest before out padded outside o e r es el en =
    let s : FactorsSoFar count start rest before out false = subst (λ (b : Bool). FactorsSoFar count start rest before out b) o r.so_far in
    (s.0 ∙ (ap (λ x. spaced (sparse 1 out) ++ x) e ∙ ap (λ x. spaced x ++ 10 ∷ []) (sym es)), el, en s.3)

pub few_out : (count : ℕ) (start rest before : List ℕ) (out : List ℤ) (outside : Bool) → outside ≡ false → FactorReading count start rest before out outside → length out ≤ count
few_out count start rest before out outside o r = (subst (λ (b : Bool). FactorsSoFar count start rest before out b) o r.so_far).2

pub after_shorter : (t : List ℕ) → length (after_word t) ≤ length t
after_shorter t = omega (arith, ap length (word_parts t), length-append (first_word t) (after_word t))

pub rest_shorter : (rest u : List ℕ) → nat_eq (first rest) 32 ≡ true → u ≡ after_word (drop 1 rest) → length u < length rest
rest_shorter [] u s e = absurd (false≢true s)
rest_shorter (b ∷ bs) u s e = omega (arith, after_shorter bs, ap length e)

pub factor_at : (last : Option ℤ) (w x y : List ℕ) (c : ℕ) → x ≡ take c w → y ≡ drop (c + 1) w → IsFactor last w (take c w) (drop (c + 1) w) → IsFactor last w x y
factor_at last w x y c e f h = subst (λ (z : List ℕ). IsFactor last w z y) (sym e) (subst (λ (z : List ℕ). IsFactor last w (take c w) z) (sym f) h)

-- the text of factors has the right words
sparse_factors : (k : ℕ) (last : Option ℤ) (fs : List ℤ) → k + length fs < 2 ^ 126 → All IsNarrow fs → ((n : ℤ) → pos k ≤ℤ n → IsAbove last n) → AreFactors (length (sparse k fs)) last (spaced (sparse k fs) ++ 10 ∷ [])
sparse_factors k last [] l h a = refl
sparse_factors k last (f ∷ fs) l h a = go (is_zero f) refl (λ o b. sparse_factors (k + 1) o fs (omega arith) (All-tail IsNarrow f fs h) b)
  where
    word : List ℕ
    word = decimal k ++ (58 ∷ signed_decimal f)

    go : (b : Bool) → is_zero f ≡ b → ((o : Option ℤ) → ((n : ℤ) → pos (k + 1) ≤ℤ n → IsAbove o n) → AreFactors (length (sparse (k + 1) fs)) o (spaced (sparse (k + 1) fs) ++ 10 ∷ [])) → AreFactors (length (cond b (sparse (k + 1) fs) (word ∷ sparse (k + 1) fs))) last (spaced (cond b (sparse (k + 1) fs) (word ∷ sparse (k + 1) fs)) ++ 10 ∷ [])
    go true z r = r last (λ n m. a n (omega (arith, ints, m)))
    go false z r =
        let d = decimal_whole k (omega arith) in
        let s = signed_is f (All-head IsNarrow f fs h) in
        let other : f ≢ pos 0 = λ e. false≢true (sym z ∙ zero_true f e) in (
          word,
          decimal k,
          signed_decimal f,
          spaced (sparse (k + 1) fs) ++ 10 ∷ [],
          ap (λ x. 32 ∷ x) (append_assoc word (spaced (sparse (k + 1) fs)) (10 ∷ [])),
          record { parts = refl; place = d.0; factor = s.0; some = λ e. other (sym s.1 ∙ e); above = a (whole (decimal k)) (omega (arith, ints, d.1)) },
          r (Some (whole (decimal k))) (λ n m. omega (arith, ints, m, d.1)),
        )

pub factors_written : (second : Bool) (q : ℕ) (t : List ℕ) (fs : List ℤ) → t ≡ spaced (factors second fs) ++ 10 ∷ [] → length fs ≡ q → q < 2 ^ 64 → All IsNarrow fs → FactorsRight second q t
factors_written false q t fs e l m h = numbers_right q t fs e l h
factors_written true q t fs e l m h = (length (sparse 1 fs), subst (λ (x : List ℕ). AreFactors (length (sparse 1 fs)) None x) (sym e) (sparse_factors 1 None fs (omega (arith, l)) h (λ n b. tt)))
