-- A text has a numeral's form exactly where it is put together from a numeral's parts.
use Rattle.std.proofs.Common.{◌≡◌, ◌≢◌, ◌⊎◌, inl, inr, ℕ, ◌+◌, ◌<◌, Bool, true, false, cond, not, ◌&&◌, ◌||◌, nat_eq, List, [], ◌∷◌, ◌++◌, length, drop, arith, refl, sym, ap, ◌∙◌, subst, eqb-true, ne_eqb}
use Rattle.std.proofs.lemmas.Bool.{and_parts, and_from, and_left, and_right, or_cases, or_right, or_from}
use Rattle.std.proofs.lemmas.Bool.Decides.{eqb_tells}
use Rattle.std.proofs.lemmas.List.{nil_from_length, append-nil}
use Rattle.emp_numeral.specs.Numeral.{digit, digits_of, after_digits, is_empty, first, fraction_digits, after_fraction, is_mark, unsigned, exponent_digits, exponent_negative, only_digits, exponent_form, whole_of, fraction_of, tail_of, numeral_form}
use Rattle.emp_numeral.specs.NumeralText.{AllDigits, PointText, SignText, ExponentText, IsNumeral, AreParts}
use Rattle.emp_numeral.specs.NumeralText.PointText.{no_point, point}
use Rattle.emp_numeral.specs.NumeralText.SignText.{no_sign, plus, minus}
use Rattle.emp_numeral.specs.NumeralText.ExponentText.{no_exponent, exponent}
use Rattle.emp_numeral.proofs.Digits.{digits_on, after_on}

-- ---- tests
bool_cases : (b : Bool) → (b ≡ true) ⊎ (b ≡ false)
bool_cases true = inl refl
bool_cases false = inr refl

not_true : (b : Bool) → not b ≡ true → b ≡ false
not_true true h = cc
not_true false h = refl

not_false : (b : Bool) → b ≡ false → not b ≡ true
not_false true h = cc
not_false false h = refl

empty_is : (t : List ℕ) → is_empty t ≡ true → t ≡ []
empty_is t h = nil_from_length t (eqb-true (length t) 0 h)

empty_none : (t : List ℕ) → t ≡ [] → is_empty t ≡ true
empty_none t h = ap is_empty h

more_not_empty : (b : ℕ) (bs : List ℕ) → is_empty (b ∷ bs) ≡ false
more_not_empty b bs = ne_eqb (length (b ∷ bs)) 0 (λ e. absurd (omega (arith, e)))

-- ---- runs of digits
split_digits : (t : List ℕ) → t ≡ digits_of t ++ after_digits t
split_digits [] = refl
split_digits (b ∷ bs) = go (bool_cases (digit b)) (split_digits bs)
  where
    go : (digit b ≡ true) ⊎ (digit b ≡ false) → bs ≡ digits_of bs ++ after_digits bs → b ∷ bs ≡ digits_of (b ∷ bs) ++ after_digits (b ∷ bs)
    go (inl e) r = rw (digits_on b bs true e, after_on b bs true e) (ap (λ s. b ∷ s) r)
    go (inr e) r = rw (digits_on b bs false e, after_on b bs false e) refl

digits_are : (t : List ℕ) → AllDigits (digits_of t)
digits_are [] = tt
digits_are (b ∷ bs) = go (bool_cases (digit b)) (digits_are bs)
  where
    go : (digit b ≡ true) ⊎ (digit b ≡ false) → AllDigits (digits_of bs) → AllDigits (digits_of (b ∷ bs))
    go (inl e) r = subst (λ s. AllDigits s) (sym (digits_on b bs true e)) (e, r)
    go (inr e) r = subst (λ s. AllDigits s) (sym (digits_on b bs false e)) tt

digits_append : (w r : List ℕ) → AllDigits w → digit (first r) ≡ false → digits_of (w ++ r) ≡ w
digits_append [] [] h e = refl
digits_append [] (b ∷ bs) h e = digits_on b bs false e
digits_append (x ∷ w) r h e = digits_on x (w ++ r) true h.0 ∙ ap (λ s. x ∷ s) (digits_append w r h.1 e)

after_append : (w r : List ℕ) → AllDigits w → digit (first r) ≡ false → after_digits (w ++ r) ≡ r
after_append [] [] h e = refl
after_append [] (b ∷ bs) h e = after_on b bs false e
after_append (x ∷ w) r h e = after_on x (w ++ r) true h.0 ∙ after_append w r h.1 e

after_all : (t : List ℕ) → AllDigits t → after_digits t ≡ []
after_all [] h = refl
after_all (b ∷ bs) h = after_on b bs true h.0 ∙ after_all bs h.1

only_are : (t : List ℕ) → only_digits t ≡ true → AllDigits t
only_are t h =
    let e : after_digits t ≡ [] = empty_is (after_digits t) (and_parts (not (is_empty t)) (is_empty (after_digits t)) h).1 in
    let s : digits_of t ≡ t = sym (split_digits t ∙ (ap (λ r. digits_of t ++ r) e ∙ append-nil (digits_of t))) in
    subst (λ r. AllDigits r) s (digits_are t)

are_only : (d : ℕ) (ds : List ℕ) → AllDigits (d ∷ ds) → only_digits (d ∷ ds) ≡ true
are_only d ds h =
    and_from (not (is_empty (d ∷ ds))) (is_empty (after_digits (d ∷ ds))) (not_false (is_empty (d ∷ ds)) (more_not_empty d ds)) (empty_none (after_digits (d ∷ ds)) (after_all (d ∷ ds) h))

-- ---- single bytes
digit_not : (d b : ℕ) → digit d ≡ true → digit b ≡ false → nat_eq d b ≡ false
digit_not d b h k = ne_eqb d b (λ e. absurd (let f : true ≡ false = sym h ∙ (ap digit e ∙ k) in cc))

mark_is : (P : ℕ → Type 0) (b : ℕ) → is_mark b ≡ true → P 101 → P 69 → P b
mark_is P b h p q = go (or_cases (nat_eq b 101) (nat_eq b 69) h)
  where
    go : (nat_eq b 101 ≡ true) ⊎ (nat_eq b 69 ≡ true) → P b
    go (inl e) = subst P (sym (eqb-true b 101 e)) p
    go (inr e) = subst P (sym (eqb-true b 69 e)) q

-- ---- a point and digits
record Pointed (r : List ℕ) : Type 0 where
  middle : List ℕ
  text : PointText middle (fraction_digits r)
  parts : r ≡ middle ++ after_fraction r

pointed : (r : List ℕ) → Pointed r
pointed [] = record { middle = []; text = no_point; parts = refl }
pointed (b ∷ bs) = go (eqb_tells b 46)
  where
    go : ((nat_eq b 46 ≡ true) × (b ≡ 46)) ⊎ ((nat_eq b 46 ≡ false) × (b ≢ 46)) → Pointed (b ∷ bs)
    go (inl e) = subst (λ c. Pointed (c ∷ bs)) (sym e.1) (record { middle = 46 ∷ digits_of bs; text = point (digits_of bs) (digits_are bs); parts = ap (λ s. 46 ∷ s) (split_digits bs) })
    go (inr e) = record {
      middle = [];
      text = subst (λ d. PointText [] (cond d (digits_of bs) [])) (sym e.0) no_point;
      parts = ap (λ d. cond d (after_digits bs) (b ∷ bs)) (sym e.0);
    }

-- ---- exponents
after_sign : (b : ℕ) → is_mark b ≡ true → (s : List ℕ) (n : Bool) → SignText s n → (t : List ℕ) → only_digits t ≡ true → ExponentText (b ∷ (s ++ t)) n t
after_sign b mk s n sg [] h = cc
after_sign b mk s n sg (d ∷ ds) h = exponent b s n d ds mk sg (only_are (d ∷ ds) h)

signed_text : (b : ℕ) → is_mark b ≡ true → (t : List ℕ) → only_digits (unsigned t) ≡ true → ExponentText (b ∷ t) (nat_eq (first t) 45) (unsigned t)
signed_text b mk [] h = cc
signed_text b mk (c ∷ cs) h = go (eqb_tells c 43) (eqb_tells c 45) h
  where
    Q : ℕ → Type 0
    Q x = only_digits (unsigned (x ∷ cs)) ≡ true → ExponentText (b ∷ x ∷ cs) (nat_eq x 45) (unsigned (x ∷ cs))

    R : Bool → Bool → Type 0
    R x y = only_digits (cond (x || y) cs (c ∷ cs)) ≡ true → ExponentText (b ∷ c ∷ cs) y (cond (x || y) cs (c ∷ cs))

    at_plus : Q 43
    at_plus k = after_sign b mk (43 ∷ []) false plus cs k

    at_minus : Q 45
    at_minus k = after_sign b mk (45 ∷ []) true minus cs k

    bare : R false false
    bare k = after_sign b mk [] false no_sign (c ∷ cs) k

    go : ((nat_eq c 43 ≡ true) × (c ≡ 43)) ⊎ ((nat_eq c 43 ≡ false) × (c ≢ 43)) → ((nat_eq c 45 ≡ true) × (c ≡ 45)) ⊎ ((nat_eq c 45 ≡ false) × (c ≢ 45)) → Q c
    go (inl e) y = subst Q (sym e.1) at_plus
    go (inr x) (inl e) = subst Q (sym e.1) at_minus
    go (inr x) (inr y) = subst (λ p. R p (nat_eq c 45)) (sym x.0) (subst (λ q. R false q) (sym y.0) bare)

exponent_is : (t : List ℕ) → exponent_form t ≡ true → ExponentText t (exponent_negative t) (exponent_digits t)
exponent_is [] h = no_exponent
exponent_is (b ∷ bs) h = go (or_cases (is_empty (b ∷ bs)) (is_mark b && only_digits (unsigned bs)) h)
  where
    go : (is_empty (b ∷ bs) ≡ true) ⊎ ((is_mark b && only_digits (unsigned bs)) ≡ true) → ExponentText (b ∷ bs) (nat_eq (first bs) 45) (unsigned bs)
    go (inl e) = absurd (let f : true ≡ false = sym e ∙ more_not_empty b bs in cc)
    go (inr e) = let p = and_parts (is_mark b) (only_digits (unsigned bs)) e in signed_text b p.0 bs p.1

-- ---- the form gives the parts
some_digit : (w f : List ℕ) → (is_empty w && is_empty f) ≡ false → 0 < length w + length f
some_digit [] [] h = cc
some_digit [] (b ∷ bs) h = omega arith
some_digit (b ∷ bs) f h = omega arith

pub is_text : (t : List ℕ) → numeral_form t ≡ true → IsNumeral t (whole_of t) (fraction_of t) (exponent_negative (tail_of t)) (exponent_digits (tail_of t))
is_text t h =
    let both = and_parts (not (is_empty (whole_of t) && is_empty (fraction_of t))) (exponent_form (tail_of t)) h in
    let p = pointed (after_digits t) in
    record {
      middle = p.middle;
      tail = tail_of t;
      parts = split_digits t ∙ ap (λ s. digits_of t ++ s) p.parts;
      whole_digits = digits_are t;
      point_text = p.text;
      exponent_text = exponent_is (tail_of t) both.1;
      some_digit = some_digit (whole_of t) (fraction_of t) (not_true (is_empty (whole_of t) && is_empty (fraction_of t)) both.0);
    }

-- ---- the parts give the form
record TailFacts (t : List ℕ) (n : Bool) (e : List ℕ) : Type 0 where
  no_digit : digit (first t) ≡ false
  no_point : nat_eq (first t) 46 ≡ false
  form : exponent_form t ≡ true
  negative : n ≡ exponent_negative t
  digits : e ≡ exponent_digits t

written : (b : ℕ) (t : List ℕ) (n : Bool) (e : List ℕ) → is_mark b ≡ true → n ≡ nat_eq (first t) 45 → e ≡ unsigned t → only_digits (unsigned t) ≡ true → TailFacts (b ∷ t) n e
written b t n e mk sn un od = record {
  no_digit = mark_is (λ c. digit c ≡ false) b mk refl refl;
  no_point = mark_is (λ c. nat_eq c 46 ≡ false) b mk refl refl;
  form = or_right (is_empty (b ∷ t)) (is_mark b && only_digits (unsigned t)) (and_from (is_mark b) (only_digits (unsigned t)) mk od);
  negative = sn;
  digits = un;
}

tail_facts : (t : List ℕ) (n : Bool) (e : List ℕ) → ExponentText t n e → TailFacts t n e
tail_facts t n e no_exponent = record { no_digit = refl; no_point = refl; form = refl; negative = refl; digits = refl }
tail_facts t n e (exponent b s m d ds mk no_sign ad) =
    let p : nat_eq d 43 ≡ false = digit_not d 43 ad.0 refl in
    let q : nat_eq d 45 ≡ false = digit_not d 45 ad.0 refl in
    let u : d ∷ ds ≡ unsigned (d ∷ ds) = ap (λ x. cond x ds (d ∷ ds)) (sym (or_from (nat_eq d 43) (nat_eq d 45) p q)) in
    written b (d ∷ ds) false (d ∷ ds) mk (sym q) u (ap only_digits (sym u) ∙ are_only d ds ad)
tail_facts t n e (exponent b s m d ds mk plus ad) = written b (43 ∷ d ∷ ds) false (d ∷ ds) mk refl refl (are_only d ds ad)
tail_facts t n e (exponent b s m d ds mk minus ad) = written b (45 ∷ d ∷ ds) true (d ∷ ds) mk refl refl (are_only d ds ad)

record RestFacts (m tail f : List ℕ) : Type 0 where
  no_digit : digit (first (m ++ tail)) ≡ false
  fraction : f ≡ fraction_digits (m ++ tail)
  after : tail ≡ after_fraction (m ++ tail)

rest_facts : (m tail f : List ℕ) → digit (first tail) ≡ false → nat_eq (first tail) 46 ≡ false → PointText m f → RestFacts m tail f
rest_facts m tail f nd np no_point = record {
  no_digit = nd;
  fraction = ap (λ x. cond x (digits_of (drop 1 tail)) []) (sym np);
  after = ap (λ x. cond x (after_digits (drop 1 tail)) tail) (sym np);
}
rest_facts m tail f nd np (point g ad) = record {
  no_digit = refl;
  fraction = sym (digits_append g tail ad nd);
  after = sym (after_append g tail ad nd);
}

not_bare : (w f : List ℕ) → 0 < length w + length f → not (is_empty w && is_empty f) ≡ true
not_bare [] [] h = absurd (omega arith)
not_bare [] (b ∷ bs) h = not_false (is_empty [] && is_empty (b ∷ bs)) (and_right (is_empty []) (is_empty (b ∷ bs)) (more_not_empty b bs))
not_bare (b ∷ bs) f h = not_false (is_empty (b ∷ bs) && is_empty f) (and_left (is_empty (b ∷ bs)) (is_empty f) (more_not_empty b bs))

pub has_form : (t w f : List ℕ) (n : Bool) (e : List ℕ) → IsNumeral t w f n e → AreParts t w f n e
has_form t w f n e h =
    let x = tail_facts h.tail n e h.exponent_text in
    let y = rest_facts h.middle h.tail f x.no_digit x.no_point h.point_text in
    let rest : h.middle ++ h.tail ≡ after_digits t = sym (ap after_digits h.parts ∙ after_append w (h.middle ++ h.tail) h.whole_digits y.no_digit) in
    let whole : w ≡ whole_of t = sym (ap digits_of h.parts ∙ digits_append w (h.middle ++ h.tail) h.whole_digits y.no_digit) in
    let fraction : f ≡ fraction_of t = y.fraction ∙ ap fraction_digits rest in
    let tail : h.tail ≡ tail_of t = y.after ∙ ap after_fraction rest in
    let some : not (is_empty (whole_of t) && is_empty (fraction_of t)) ≡ true = subst (λ v. not (is_empty v && is_empty (fraction_of t)) ≡ true) whole (subst (λ g. not (is_empty w && is_empty g) ≡ true) fraction (not_bare w f h.some_digit)) in
    record {
      form = and_from (not (is_empty (whole_of t) && is_empty (fraction_of t))) (exponent_form (tail_of t)) some (ap exponent_form (sym tail) ∙ x.form);
      whole = whole;
      fraction = fraction;
      negative = x.negative ∙ ap exponent_negative tail;
      digits = x.digits ∙ ap exponent_digits tail;
    }
