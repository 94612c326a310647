-- Words, and the numbers that they write.
use Rattle.std.proofs.Common.{◌≡◌, ◌≢◌, ◌⊎◌, inl, inr, ℕ, zero, suc, ◌+◌, ◌-◌, ◌*◌, ◌/◌, ◌%◌, ◌^◌, ◌<◌, ◌≤◌, Bool, true, false, not, ◌&&◌, ◌||◌, nat_eq, nat_lt, ℤ, pos, negsuc, neg_ℤ, ◌≤ℤ◌, ◌<ℤ◌, unsigned_abs, List, [], ◌∷◌, ◌++◌, length, take, drop, get_or, codes, decimal, arith, refl, sym, ap, subst, ◌∙◌, append_assoc, append-nil, length-append, length-drop, eqb-true, ne_eqb}
use native.Mathlib.Nat.{eq-one_of_dvd-one}
use Rattle.std.specs.Fmt.{signed_decimal}
use Rattle.std.specs.Bool.{Decides}
use Rattle.std.specs.Int.{IsGcd}
use Rattle.std.proofs.lemmas.Bool.{and_parts, and_from, and_left, and_right, or_cases, or_from, or_left, or_right, cases_Bool, cases_eq, true≢false, false≢true, ltb-true, lt-ltb, le-ltb, eq-eqb, eqb-false, cond-true, cond-false, not-true, not_from_false}
use Rattle.std.proofs.lemmas.List.{drop_more, drop_all, take_more, take_all, take-append-drop}
use Rattle.std.proofs.lemmas.Int.{ints, to_z-of_z}
use Rattle.std.proofs.lemmas.Fmt.{decimal_digit, decimal_step_wide, decimal_by_steps_wide}
use Rattle.emp_num.specs.Exact.{IsNarrow, IsWide, IsCoprime}
use Rattle.emp_numeral.specs.FracText.{is_one, fraction_text}
use Rattle.emp_numeral.specs.Numeral.{digit, value_from, first}
use Rattle.emp_num.specs.declared.frac.Frac.{Frac}
use Rattle.emp_numeral.proofs.Numerals.{value_grows}
use Rattle.emp_cert_text.specs.Words.{are_digits, value, is_count, is_whole, whole, IsFraction, CountGives, NumberGives, LowestGives, FractionGives, lacks, first_word, after_word}
use Rattle.emp_cert_text.specs.declared.words.Number.{Number}
use Rattle.emp_cert_text.specs.declared.words.Number.TheVariants.{No, Outside, Is}
use Rattle.emp_cert_text.specs.declared.words.Fraction.{Fraction}
use Rattle.emp_cert_text.specs.declared.words.Fraction.TheVariants.{No as NoFraction, Outside as OutsideFraction, Is as IsFrac}

-- ---- digits
pub digit_range : (b : ℕ) → digit b ≡ true → (48 ≤ b) × (b ≤ 57)
digit_range b h =
    let p = and_parts (nat_lt 47 b) (nat_lt b 58) h in
    let l = ltb-true 47 b p.0 in
    let k = ltb-true b 58 p.1 in
    (omega arith, omega arith)

pub range_digit : (b : ℕ) → 48 ≤ b → b ≤ 57 → digit b ≡ true
range_digit b l k = and_from (nat_lt 47 b) (nat_lt b 58) (lt-ltb 47 b (omega arith)) (lt-ltb b 58 (omega arith))

pub digits_on : (w : List ℕ) (i : ℕ) → i < length w → digit (get_or w i 0) ≡ true → are_digits (drop (i + 1) w) ≡ are_digits (drop i w)
digits_on w i h d = sym (ap are_digits (drop_more w i 0 h) ∙ ap (λ x. x && are_digits (drop (i + 1) w)) d)

pub digits_not : (w : List ℕ) (i : ℕ) → i < length w → digit (get_or w i 0) ≡ false → are_digits (drop i w) ≡ false
digits_not w i h d = ap are_digits (drop_more w i 0 h) ∙ ap (λ x. x && are_digits (drop (i + 1) w)) d

pub digits_all : (w : List ℕ) (i : ℕ) → length w ≤ i → are_digits (drop i w) ≡ true
digits_all w i h = ap are_digits (drop_all i w h)

pub ruleset digiting = (digits_on, digits_not, digits_all)

pub value_append : (n : ℕ) (xs : List ℕ) (b : ℕ) → value_from n (xs ++ b ∷ []) ≡ value_from n xs * 10 + (b - 48)
value_append n [] b = refl
value_append n (x ∷ xs) b = value_append (n * 10 + (x - 48)) xs b

pub digits_append : (xs ys : List ℕ) → are_digits xs ≡ true → are_digits ys ≡ true → are_digits (xs ++ ys) ≡ true
digits_append [] ys h k = k
digits_append (x ∷ xs) ys h k =
    let p = and_parts (digit x) (are_digits xs) h in
    and_from (digit x) (are_digits (xs ++ ys)) p.0 (digits_append xs ys p.1 k)

-- ---- decimals are counts
record IsDecimal (n : ℕ) (ds : List ℕ) : Type 0 where
  digits : are_digits ds ≡ true
  is : value ds ≡ n
  some : 0 < length ds
  lead : 0 < n → 48 < get_or ds 0 0
  none : n ≡ 0 → length ds ≡ 1

decimal_one : (n : ℕ) → n < 10 → IsDecimal n ((48 + n) ∷ [])
decimal_one n h = record {
  digits = and_from (digit (48 + n)) true (range_digit (48 + n) (omega arith) (omega arith)) refl;
  is = omega arith;
  some = omega arith;
  lead = λ l. omega arith;
  none = λ e. refl;
}

get_first : (ds es : List ℕ) → 0 < length ds → get_or (ds ++ es) 0 0 ≡ get_or ds 0 0
get_first [] es h = absurd (omega arith)
get_first (d ∷ ds) es h = refl

decimal_more : (n : ℕ) (ds : List ℕ) → 10 ≤ n → IsDecimal (n / 10) ds → IsDecimal n (ds ++ ((48 + n % 10) ∷ []))
decimal_more n ds h k =
    let l : 48 < get_or ds 0 0 = k.lead (omega arith) in
    record {
      digits = digits_append ds ((48 + n % 10) ∷ []) k.digits (and_from (digit (48 + n % 10)) true (range_digit (48 + n % 10) (omega arith) (omega arith)) refl);
      is = value_append 0 ds (48 + n % 10) ∙ (ap (λ x. x * 10 + (48 + n % 10 - 48)) k.is ∙ omega arith);
      some = omega (arith, length-append ds ((48 + n % 10) ∷ []));
      lead = λ m. omega (arith, get_first ds ((48 + n % 10) ∷ []) k.some);
      none = λ e. absurd (omega arith);
    }

decimal_is : (n : ℕ) → n < 2 ^ 126 → IsDecimal n (decimal n)
decimal_is n h = decimal_by_steps_wide IsDecimal decimal_one decimal_more n (omega arith)

count_from : (ds : List ℕ) (n : ℕ) → IsDecimal n ds → is_count ds ≡ true
count_from [] n h = absurd (let l : 0 < 0 = h.some in omega arith)
count_from (b ∷ bs) zero h = and_from (are_digits (b ∷ bs)) (nat_eq (length bs) 0 || nat_lt 48 b) h.digits (or_left (nat_eq (length bs) 0) (nat_lt 48 b) (eq-eqb (length bs) 0 (omega (arith, h.none refl))))
count_from (b ∷ bs) (suc n) h = and_from (are_digits (b ∷ bs)) (nat_eq (length bs) 0 || nat_lt 48 b) h.digits (or_right (nat_eq (length bs) 0) (nat_lt 48 b) (lt-ltb 48 b (h.lead (omega arith))))

pub decimal_count : (n : ℕ) → n < 2 ^ 126 → is_count (decimal n) ≡ true
decimal_count n h = count_from (decimal n) n (decimal_is n h)

pub value_decimal : (n : ℕ) → n < 2 ^ 126 → value (decimal n) ≡ n
value_decimal n h = (decimal_is n h).is

-- ---- counts are decimals
decimal_on : (n : ℕ) (bs : List ℕ) → 0 < n → are_digits bs ≡ true → value_from n bs < 2 ^ 126 → decimal (value_from n bs) ≡ decimal n ++ bs
decimal_on n [] p h l = sym (append-nil (decimal n))
decimal_on n (b ∷ bs) p h l =
    let q = and_parts (digit b) (are_digits bs) h in
    let r = digit_range b q.0 in
    let m : ℕ = n * 10 + (b - 48) in
    let grows : m ≤ value_from m bs = value_grows m bs in
    let small : m < 10 ^ 64 = omega (arith, grows, l) in
    let step : decimal m ≡ decimal (m / 10) ++ ((48 + m % 10) ∷ []) = decimal_step_wide m (omega arith) small in
    let front : m / 10 ≡ n = omega (arith, r.0, r.1) in
    let last : 48 + m % 10 ≡ b = omega (arith, r.0, r.1) in
    decimal_on m bs (omega arith) q.1 l
    ∙ (ap (λ x. x ++ bs) (step ∙ (ap (λ x. decimal x ++ ((48 + m % 10) ∷ [])) front ∙ ap (λ x. decimal n ++ (x ∷ [])) last))
    ∙ append_assoc (decimal n) (b ∷ []) bs)

decimal_one_digit : (b : ℕ) → digit b ≡ true → decimal (0 * 10 + (b - 48)) ≡ b ∷ []
decimal_one_digit b d =
    let r = digit_range b d in
    let e : 0 * 10 + (b - 48) ≡ b - 48 = omega arith in
    let f : 48 + (b - 48) ≡ b = omega (arith, r.0) in
    ap decimal e ∙ (decimal_digit (b - 48) (omega (arith, r.1)) ∙ ap (λ x. x ∷ []) f)

decimal_led : (b : ℕ) (bs : List ℕ) → digit b ≡ true → are_digits bs ≡ true → (nat_eq (length bs) 0 ≡ true) ⊎ (nat_lt 48 b ≡ true) → value (b ∷ bs) < 2 ^ 126 → decimal (value (b ∷ bs)) ≡ b ∷ bs
decimal_led b [] d e s l = decimal_one_digit b d
decimal_led b (c ∷ cs) d e (inl s) l = let z : suc (length cs) ≡ 0 = eqb-true (length (c ∷ cs)) 0 s in absurd (omega arith)
decimal_led b (c ∷ cs) d e (inr s) l =
    let above : 48 < b = ltb-true 48 b s in
    decimal_on (0 * 10 + (b - 48)) (c ∷ cs) (omega arith) e l ∙ ap (λ x. x ++ (c ∷ cs)) (decimal_one_digit b d)

pub decimal_value : (w : List ℕ) → is_count w ≡ true → value w < 2 ^ 126 → decimal (value w) ≡ w
decimal_value [] h l = absurd (false≢true h)
decimal_value (b ∷ bs) h l =
    let p = and_parts (are_digits (b ∷ bs)) (nat_eq (length bs) 0 || nat_lt 48 b) h in
    let q = and_parts (digit b) (are_digits bs) p.0 in
    decimal_led b bs q.0 q.1 (or_cases (nat_eq (length bs) 0) (nat_lt 48 b) p.1) l

-- ---- reading counts
pub count_one : (w : List ℕ) → are_digits w ≡ true → length w ≡ 1 → is_count w ≡ true
count_one [] d e = absurd (omega arith)
count_one (b ∷ bs) d e = and_from (are_digits (b ∷ bs)) (nat_eq (length bs) 0 || nat_lt 48 b) d (or_left (nat_eq (length bs) 0) (nat_lt 48 b) (eq-eqb (length bs) 0 (omega arith)))

pub count_lead : (w : List ℕ) → are_digits w ≡ true → 0 < length w → 48 < get_or w 0 0 → is_count w ≡ true
count_lead [] d e l = absurd (omega arith)
count_lead (b ∷ bs) d e l = and_from (are_digits (b ∷ bs)) (nat_eq (length bs) 0 || nat_lt 48 b) d (or_right (nat_eq (length bs) 0) (nat_lt 48 b) (lt-ltb 48 b l))

pub count_not : (w : List ℕ) → are_digits w ≡ false → is_count w ≡ false
count_not [] d = refl
count_not (b ∷ bs) d = and_left (are_digits (b ∷ bs)) (nat_eq (length bs) 0 || nat_lt 48 b) d

pub count_none : (w : List ℕ) → length w ≡ 0 → is_count w ≡ false
count_none [] e = refl
count_none (b ∷ bs) e = absurd (omega arith)

pub count_zero : (w : List ℕ) → length w ≢ 1 → get_or w 0 0 ≤ 48 → is_count w ≡ false
count_zero [] n l = refl
count_zero (b ∷ bs) n l = and_right (are_digits (b ∷ bs)) (nat_eq (length bs) 0 || nat_lt 48 b) (or_from (nat_eq (length bs) 0) (nat_lt 48 b) (ne_eqb (length bs) 0 (λ e. n (ap suc e))) (le-ltb 48 b l))

pub ruleset counting = (to_z-of_z, count_one, count_lead, count_not, count_none, count_zero)

-- ---- signs
pub number_count : (w : List ℕ) (r : Number) → first w ≢ 45 → CountGives w r → NumberGives w r
number_count [] No n h = refl
number_count [] Outside n h = absurd (false≢true h.0)
number_count [] (Is z) n h = absurd (false≢true h.0)
number_count (b ∷ bs) No n h = cond-false (nat_eq b 45) (is_count bs && nat_lt 0 (value bs)) (is_count (b ∷ bs)) (ne_eqb b 45 n) ∙ h
number_count (b ∷ bs) Outside n h =
    let e : nat_eq b 45 ≡ false = ne_eqb b 45 n in
    let v : whole (b ∷ bs) ≡ pos (value (b ∷ bs)) = cond-false (nat_eq b 45) (neg_ℤ (pos (value bs))) (pos (value (b ∷ bs))) e in
    (cond-false (nat_eq b 45) (is_count bs && nat_lt 0 (value bs)) (is_count (b ∷ bs)) e ∙ h.0, subst (λ (z : ℤ). IsWide z) (sym v) h.1)
number_count (b ∷ bs) (Is z) n h =
    let e : nat_eq b 45 ≡ false = ne_eqb b 45 n in
    let v : whole (b ∷ bs) ≡ pos (value (b ∷ bs)) = cond-false (nat_eq b 45) (neg_ℤ (pos (value bs))) (pos (value (b ∷ bs))) e in
    (cond-false (nat_eq b 45) (is_count bs && nat_lt 0 (value bs)) (is_count (b ∷ bs)) e ∙ h.0, h.1 ∙ sym v, subst (λ (y : ℤ). IsNarrow y) (sym h.1) h.2)

pub number_below : (w : List ℕ) (r : Number) → first w ≡ 45 → NumberGives (45 ∷ drop 1 w) r → NumberGives w r
number_below [] r e h = absurd (omega arith)
number_below (b ∷ bs) r e h = subst (λ (x : ℕ). NumberGives (x ∷ bs) r) (sym e) h

size_neg : (n : ℕ) → unsigned_abs (neg_ℤ (pos n)) ≡ n
size_neg n = omega (arith, ints)

pub below_no : (w : List ℕ) → is_count w ≡ false → NumberGives (45 ∷ w) No
below_no w h = and_left (is_count w) (nat_lt 0 (value w)) h

pub below_zero : (w : List ℕ) (z : ℤ) → z ≡ pos (value w) → z ≡ pos 0 → NumberGives (45 ∷ w) No
below_zero w z e f = and_right (is_count w) (nat_lt 0 (value w)) (le-ltb 0 (value w) (omega (arith, ints)))

pub below_wide : (w : List ℕ) → is_count w ≡ true → 2 ^ 126 ≤ value w → NumberGives (45 ∷ w) Outside
below_wide w h l = (and_from (is_count w) (nat_lt 0 (value w)) h (lt-ltb 0 (value w) (omega (arith, l))), omega (arith, size_neg (value w), l))

pub below_is : (w : List ℕ) (z y : ℤ) → is_count w ≡ true → z ≡ pos (value w) → value w < 2 ^ 126 → z ≢ pos 0 → y ≡ neg_ℤ z → NumberGives (45 ∷ w) (Is y)
below_is w z y h e l n f =
    let q : y ≡ neg_ℤ (pos (value w)) = f ∙ ap neg_ℤ e in
    let some : 0 < value w = omega (arith, ints) in
    (and_from (is_count w) (nat_lt 0 (value w)) h (lt-ltb 0 (value w) some), q, omega (arith, ap unsigned_abs q, size_neg (value w), l))

pub ruleset signing = (to_z-of_z, number_count, number_below, below_no, below_zero, below_wide, below_is)

whole_count : (w : List ℕ) → is_count w ≡ true → (is_whole w ≡ true) × (whole w ≡ pos (value w))
whole_count [] h = absurd (false≢true h)
whole_count (b ∷ bs) h =
    let p = and_parts (are_digits (b ∷ bs)) (nat_eq (length bs) 0 || nat_lt 48 b) h in
    let q = and_parts (digit b) (are_digits bs) p.0 in
    let r = digit_range b q.0 in
    let e : nat_eq b 45 ≡ false = ne_eqb b 45 (λ f. absurd (omega (arith, r.0, f))) in
    (cond-false (nat_eq b 45) (is_count bs && nat_lt 0 (value bs)) (is_count (b ∷ bs)) e ∙ h, cond-false (nat_eq b 45) (neg_ℤ (pos (value bs))) (pos (value (b ∷ bs))) e)

-- the text of a narrow number is a whole number, that one
pub signed_is : (z : ℤ) → IsNarrow z → (is_whole (signed_decimal z) ≡ true) × (whole (signed_decimal z) ≡ z)
signed_is (pos n) l =
    let small : n < 2 ^ 126 = omega (arith, ints, l) in
    let w = whole_count (decimal n) (decimal_count n small) in
    (w.0, w.1 ∙ ap pos (value_decimal n small))
signed_is (negsuc n) l =
    let small : suc n < 2 ^ 126 = omega (arith, ints, l) in
    let v : value (decimal (suc n)) ≡ suc n = value_decimal (suc n) small in
    (and_from (is_count (decimal (suc n))) (nat_lt 0 (value (decimal (suc n)))) (decimal_count (suc n) small) (lt-ltb 0 (value (decimal (suc n))) (omega (arith, v))), ap (λ k. neg_ℤ (pos k)) v)

signed_below : (n : ℕ) → 0 < n → signed_decimal (neg_ℤ (pos n)) ≡ 45 ∷ decimal n
signed_below zero l = absurd (omega arith)
signed_below (suc n) l = refl

-- a whole number that is narrow is that number's text
pub whole_is : (w : List ℕ) → is_whole w ≡ true → IsNarrow (whole w) → w ≡ signed_decimal (whole w)
whole_is [] h l = absurd (false≢true h)
whole_is (b ∷ bs) h l = go (cases_Bool (nat_eq b 45))
  where
    go : (nat_eq b 45 ≡ true) ⊎ (nat_eq b 45 ≡ false) → b ∷ bs ≡ signed_decimal (whole (b ∷ bs))
    go (inl e) =
        let p = and_parts (is_count bs) (nat_lt 0 (value bs)) (sym (cond-true (nat_eq b 45) (is_count bs && nat_lt 0 (value bs)) (is_count (b ∷ bs)) e) ∙ h) in
        let v : whole (b ∷ bs) ≡ neg_ℤ (pos (value bs)) = cond-true (nat_eq b 45) (neg_ℤ (pos (value bs))) (pos (value (b ∷ bs))) e in
        let small : value bs < 2 ^ 126 = omega (arith, l, ap unsigned_abs v, size_neg (value bs)) in
        let minus : b ≡ 45 = eqb-true b 45 e in
        sym (ap signed_decimal v ∙ (signed_below (value bs) (ltb-true 0 (value bs) p.1) ∙ (ap (λ x. 45 ∷ x) (decimal_value bs p.0 small) ∙ ap (λ x. x ∷ bs) (sym minus))))
    go (inr e) =
        let c : is_count (b ∷ bs) ≡ true = sym (cond-false (nat_eq b 45) (is_count bs && nat_lt 0 (value bs)) (is_count (b ∷ bs)) e) ∙ h in
        let v : whole (b ∷ bs) ≡ pos (value (b ∷ bs)) = cond-false (nat_eq b 45) (neg_ℤ (pos (value bs))) (pos (value (b ∷ bs))) e in
        let small : value (b ∷ bs) < 2 ^ 126 = omega (arith, ints, l, ap unsigned_abs v) in
        sym (ap signed_decimal v ∙ decimal_value (b ∷ bs) c small)

pub signed_same : (y z : ℤ) → IsNarrow y → IsNarrow z → signed_decimal y ≡ signed_decimal z → y ≡ z
signed_same y z l k e = sym (signed_is y l).1 ∙ (ap whole e ∙ (signed_is z k).1)

-- ---- bytes that a word lacks
pub lacks_append : (b : ℕ) (xs ys : List ℕ) → lacks b xs ≡ true → lacks b ys ≡ true → lacks b (xs ++ ys) ≡ true
lacks_append b [] ys h k = k
lacks_append b (x ∷ xs) ys h k =
    let p = and_parts (not (nat_eq x b)) (lacks b xs) h in
    and_from (not (nat_eq x b)) (lacks b (xs ++ ys)) p.0 (lacks_append b xs ys p.1 k)

lacks_other : (b x : ℕ) → x ≢ b → lacks b (x ∷ []) ≡ true
lacks_other b x n = and_from (not (nat_eq x b)) true (not_from_false (nat_eq x b) (ne_eqb x b n)) refl

pub lacks_more : (w : List ℕ) (b i : ℕ) → i < length w → get_or w i 0 ≢ b → lacks b (take i w) ≡ true → lacks b (take (i + 1) w) ≡ true
lacks_more w b i h n l = ap (lacks b) (take_more w i 0 h) ∙ lacks_append b (take i w) (get_or w i 0 ∷ []) l (lacks_other b (get_or w i 0) n)

pub cut_at : (w : List ℕ) (b i : ℕ) → i < length w → get_or w i 0 ≡ b → w ≡ take i w ++ (b ∷ drop (i + 1) w)
cut_at w b i h e = sym (take-append-drop i w) ∙ ap (λ x. take i w ++ x) (drop_more w i 0 h ∙ ap (λ x. x ∷ drop (i + 1) w) e)

pub ruleset placing = (lacks_more, cut_at)

-- the first place of a byte parts a text in one way
pub parted : (b : ℕ) (xs ys us vs : List ℕ) → lacks b xs ≡ true → lacks b us ≡ true → xs ++ b ∷ ys ≡ us ++ b ∷ vs → (xs ≡ us) × (ys ≡ vs)
parted b [] ys [] vs h k e = (refl, cc)
parted b [] ys (u ∷ us) vs h k e =
    let p = and_parts (not (nat_eq u b)) (lacks b us) k in
    let q : u ≡ b = cc in
    absurd (eqb-false u b (not-true (nat_eq u b) p.0) q)
parted b (x ∷ xs) ys [] vs h k e =
    let p = and_parts (not (nat_eq x b)) (lacks b xs) h in
    let q : x ≡ b = cc in
    absurd (eqb-false x b (not-true (nat_eq x b) p.0) q)
parted b (x ∷ xs) ys (u ∷ us) vs h k e =
    let p = and_parts (not (nat_eq x b)) (lacks b xs) h in
    let q = and_parts (not (nat_eq u b)) (lacks b us) k in
    let r : x ≡ u = cc in
    let t : xs ++ b ∷ ys ≡ us ++ b ∷ vs = cc in
    let s = parted b xs ys us vs p.1 q.1 t in
    (cc, s.1)

pub lacks_not : (b : ℕ) (xs ys : List ℕ) → lacks b (xs ++ b ∷ ys) ≡ true → ⊥
lacks_not b [] ys h = eqb-false b b (not-true (nat_eq b b) (and_parts (not (nat_eq b b)) (lacks b ys) h).0) refl
lacks_not b (x ∷ xs) ys h = lacks_not b xs ys (and_parts (not (nat_eq x b)) (lacks b (xs ++ b ∷ ys)) h).1

digits_lack : (b : ℕ) (w : List ℕ) → digit b ≡ false → are_digits w ≡ true → lacks b w ≡ true
digits_lack b [] n h = refl
digits_lack b (x ∷ xs) n h =
    let p = and_parts (digit x) (are_digits xs) h in
    and_from (not (nat_eq x b)) (lacks b xs) (not_from_false (nat_eq x b) (ne_eqb x b (λ e. true≢false (sym p.0 ∙ (ap digit e ∙ n))))) (digits_lack b xs n p.1)

pub count_digits : (w : List ℕ) → is_count w ≡ true → are_digits w ≡ true
count_digits [] h = absurd (false≢true h)
count_digits (b ∷ bs) h = (and_parts (are_digits (b ∷ bs)) (nat_eq (length bs) 0 || nat_lt 48 b) h).0

-- ---- signs of whole numbers
pub record IsBelowZero (w : List ℕ) : Type 0 where
  pub count : is_count (drop 1 w) ≡ true
  pub some : 0 < value (drop 1 w)
  pub is : whole w ≡ neg_ℤ (pos (value (drop 1 w)))
  pub parts : w ≡ 45 ∷ drop 1 w

pub record IsCount (w : List ℕ) : Type 0 where
  pub count : is_count w ≡ true
  pub is : whole w ≡ pos (value w)

pub below_zero_is : (w : List ℕ) → is_whole w ≡ true → first w ≡ 45 → IsBelowZero w
below_zero_is [] h e = absurd (false≢true h)
below_zero_is (b ∷ bs) h e =
    let t : nat_eq b 45 ≡ true = eq-eqb b 45 e in
    let p = and_parts (is_count bs) (nat_lt 0 (value bs)) (sym (cond-true (nat_eq b 45) (is_count bs && nat_lt 0 (value bs)) (is_count (b ∷ bs)) t) ∙ h) in
    record {
      count = p.0;
      some = ltb-true 0 (value bs) p.1;
      is = cond-true (nat_eq b 45) (neg_ℤ (pos (value bs))) (pos (value (b ∷ bs))) t;
      parts = ap (λ x. x ∷ bs) e;
    }

pub count_is : (w : List ℕ) → is_whole w ≡ true → first w ≢ 45 → IsCount w
count_is [] h n = absurd (false≢true h)
count_is (b ∷ bs) h n =
    let t : nat_eq b 45 ≡ false = ne_eqb b 45 n in
    record {
      count = sym (cond-false (nat_eq b 45) (is_count bs && nat_lt 0 (value bs)) (is_count (b ∷ bs)) t) ∙ h;
      is = cond-false (nat_eq b 45) (neg_ℤ (pos (value bs))) (pos (value (b ∷ bs))) t;
    }

minus_or_not : (w : List ℕ) → (first w ≡ 45) ⊎ (first w ≢ 45)
minus_or_not w = cases_eq (first w) 45

pub whole_lacks : (b : ℕ) (w : List ℕ) → digit b ≡ false → 45 ≢ b → is_whole w ≡ true → lacks b w ≡ true
whole_lacks b w n m h = go (minus_or_not w)
  where
    go : (first w ≡ 45) ⊎ (first w ≢ 45) → lacks b w ≡ true
    go (inl e) =
        let z = below_zero_is w h e in
        ap (lacks b) z.parts ∙ and_from (not (nat_eq 45 b)) (lacks b (drop 1 w)) (not_from_false (nat_eq 45 b) (ne_eqb 45 b m)) (digits_lack b (drop 1 w) n (count_digits (drop 1 w) z.count))
    go (inr e) = digits_lack b w n (count_digits w (count_is w h e).count)

pub signed_lacks : (b : ℕ) (z : ℤ) → digit b ≡ false → 45 ≢ b → IsNarrow z → lacks b (signed_decimal z) ≡ true
signed_lacks b z n m l = whole_lacks b (signed_decimal z) n m (signed_is z l).0

-- ---- fractions
one_or_more : (d : ℤ) → pos 0 <ℤ d → (d ≡ pos 1) ⊎ ((pos 2 ≤ℤ d) × (is_one d ≡ false))
one_or_more (pos zero) h = absurd (omega (arith, ints))
one_or_more (pos (suc zero)) h = inl refl
one_or_more (pos (suc (suc n))) h = inr (omega (arith, ints), refl)
one_or_more (negsuc n) h = absurd (omega (arith, ints))

one_is : (d : ℤ) → d ≡ pos 1 → is_one d ≡ true
one_is d e = ap is_one e

-- what the text of a fraction is
pub data FractionParts (f : Frac) : Type 0 where
  whole_part : fraction_text f ≡ signed_decimal f.num → f.den ≡ pos 1 → FractionParts f
  quotient_part : (k : ℕ) → fraction_text f ≡ signed_decimal f.num ++ 47 ∷ decimal k → f.den ≡ pos k → 2 ≤ k → k < 2 ^ 126 → FractionParts f

count_of_pos : (z : ℤ) → pos 0 <ℤ z → (k : ℕ) × (z ≡ pos k)
count_of_pos (pos n) h = (n, refl)
count_of_pos (negsuc n) h = absurd (omega (arith, ints))

pub fraction_parts : (f : Frac) → FractionParts f
fraction_parts f = go (one_or_more f.den f.positive) (count_of_pos f.den f.positive)
  where
    go : (f.den ≡ pos 1) ⊎ ((pos 2 ≤ℤ f.den) × (is_one f.den ≡ false)) → (k : ℕ) × (f.den ≡ pos k) → FractionParts f
    go (inl e) k = whole_part (rw (one_is f.den e) refl) e
    go (inr e) (k, p) =
        let a : fraction_text f ≡ signed_decimal f.num ++ 47 ∷ signed_decimal f.den = rw (e.1) (append_assoc (signed_decimal f.num) (codes "/") (signed_decimal f.den)) in
        let b : signed_decimal f.num ++ 47 ∷ signed_decimal f.den ≡ signed_decimal f.num ++ 47 ∷ decimal k = ap (λ d. signed_decimal f.num ++ 47 ∷ signed_decimal d) p in
        quotient_part k (a ∙ b) p (omega (arith, ints, e.0, p)) (omega (arith, ints, f.den_narrow, ap unsigned_abs p))

pub fraction_is : (f : Frac) → IsFraction (fraction_text f)
fraction_is f = go (fraction_parts f)
  where
    go : FractionParts f → IsFraction (fraction_text f)
    go (whole_part e d) = inl (ap is_whole e ∙ (signed_is f.num f.num_narrow).0)
    go (quotient_part k e d l m) =
        let n = signed_is f.num f.num_narrow in
        let v : value (decimal k) ≡ k = value_decimal k m in
        inr (record {
          num = signed_decimal f.num;
          den = decimal k;
          parts = e;
          num_whole = n.0;
          den_count = decimal_count k m;
          den_two = omega (arith, v);
          lowest = inl (subst (λ (z : ℤ). IsCoprime z (pos (value (decimal k)))) (sym n.1) (subst (λ (z : ℕ). IsCoprime f.num (pos z)) (sym v) (subst (λ (z : ℤ). IsCoprime f.num z) d f.lowest)));
        })

-- a quotient's word has its parts alone
pub the_parts : (n d : List ℕ) → lacks 47 n ≡ true → IsFraction (n ++ 47 ∷ d) → (is_whole n ≡ true) × (is_count d ≡ true) × (2 ≤ value d) × (IsCoprime (whole n) (pos (value d)) ⊎ (IsWide (whole n) ⊎ IsWide (pos (value d))))
the_parts n d l (inl h) = absurd (lacks_not 47 n d (whole_lacks 47 (n ++ 47 ∷ d) refl (λ e. absurd (omega (arith, e))) h))
the_parts n d l (inr q) =
    let p = parted 47 n d q.num q.den l (whole_lacks 47 q.num refl (λ e. absurd (omega (arith, e))) q.num_whole) q.parts in
    (ap is_whole p.0 ∙ q.num_whole, ap is_count p.1 ∙ q.den_count, omega (arith, ap value p.1, q.den_two), subst (λ (x : List ℕ). IsCoprime (whole x) (pos (value d)) ⊎ (IsWide (whole x) ⊎ IsWide (pos (value d)))) (sym p.0) (subst (λ (x : List ℕ). IsCoprime (whole q.num) (pos (value x)) ⊎ (IsWide (whole q.num) ⊎ IsWide (pos (value x)))) (sym p.1) q.lowest))

pub no_num : (n d : List ℕ) → lacks 47 n ≡ true → is_whole n ≡ false → FractionGives (n ++ 47 ∷ d) NoFraction
no_num n d l h = λ f. true≢false (sym (the_parts n d l f).0 ∙ h)

pub no_den : (n d : List ℕ) → lacks 47 n ≡ true → is_count d ≡ false → FractionGives (n ++ 47 ∷ d) NoFraction
no_den n d l h = λ f. true≢false (sym (the_parts n d l f).1 ∙ h)

pub small_den : (n d : List ℕ) (z : ℤ) → lacks 47 n ≡ true → z ≡ pos (value d) → z <ℤ pos 2 → FractionGives (n ++ 47 ∷ d) NoFraction
small_den n d z l e s = λ f. absurd (omega (arith, ints, (the_parts n d l f).2))

-- a text with a part that is too wide is no fraction's
not_text : (n d : List ℕ) → lacks 47 n ≡ true → IsWide (whole n) ⊎ (2 ^ 126 ≤ value d) → (f : Frac) → n ++ 47 ∷ d ≡ fraction_text f → ⊥
not_text n d l w f e = go (fraction_parts f) w
  where
    go : FractionParts f → IsWide (whole n) ⊎ (2 ^ 126 ≤ value d) → ⊥
    go (whole_part p q) v = lacks_not 47 n d (ap (lacks 47) (e ∙ p) ∙ signed_lacks 47 f.num refl (λ x. absurd (omega (arith, x))) f.num_narrow)
    go (quotient_part k p q m s) (inl v) =
        let r = parted 47 n d (signed_decimal f.num) (decimal k) l (signed_lacks 47 f.num refl (λ x. absurd (omega (arith, x))) f.num_narrow) (e ∙ p) in
        absurd (omega (arith, v, f.num_narrow, ap unsigned_abs (ap whole r.0 ∙ (signed_is f.num f.num_narrow).1)))
    go (quotient_part k p q m s) (inr v) =
        let r = parted 47 n d (signed_decimal f.num) (decimal k) l (signed_lacks 47 f.num refl (λ x. absurd (omega (arith, x))) f.num_narrow) (e ∙ p) in
        absurd (omega (arith, v, s, ap value r.1, value_decimal k s))

pub wide_num : (n d : List ℕ) → lacks 47 n ≡ true → is_whole n ≡ true → IsWide (whole n) → is_count d ≡ true → 2 ≤ value d → FractionGives (n ++ 47 ∷ d) OutsideFraction
wide_num n d l h w c m = (inr (record { num = n; den = d; parts = refl; num_whole = h; den_count = c; den_two = m; lowest = inr (inl w) }), not_text n d l (inl w))

pub wide_den : (n d : List ℕ) → lacks 47 n ≡ true → is_whole n ≡ true → is_count d ≡ true → 2 ^ 126 ≤ value d → FractionGives (n ++ 47 ∷ d) OutsideFraction
wide_den n d l h c w = (inr (record { num = n; den = d; parts = refl; num_whole = h; den_count = c; den_two = omega (arith, w); lowest = inr (inr (omega (arith, ints, w))) }), not_text n d l (inr w))

pub as_lowest : (n d : List ℕ) (y z : ℤ) (r : Fraction) → lacks 47 n ≡ true → is_whole n ≡ true → is_count d ≡ true → y ≡ whole n → z ≡ pos (value d) → IsNarrow y → value d < 2 ^ 126 → pos 2 ≤ℤ z → LowestGives y z r → FractionGives (n ++ 47 ∷ d) r
as_lowest n d y z NoFraction l h c e f m s t g = λ q. go (the_parts n d l q).3
  where
    go : IsCoprime (whole n) (pos (value d)) ⊎ (IsWide (whole n) ⊎ IsWide (pos (value d))) → ⊥
    go (inl k) = g (subst (λ (x : ℤ). IsCoprime x z) (sym e) (subst (λ (x : ℤ). IsCoprime (whole n) x) (sym f) k))
    go (inr (inl k)) = absurd (omega (arith, k, m, ap unsigned_abs e))
    go (inr (inr k)) = absurd (omega (arith, ints, k, s))
as_lowest n d y z OutsideFraction l h c e f m s t g = absurd g
as_lowest n d y z (IsFrac x) l h c e f m s t g = go (fraction_parts x)
  where
    go : FractionParts x → n ++ 47 ∷ d ≡ fraction_text x
    go (whole_part p q) = absurd (omega (arith, ints, t, g.1, q))
    go (quotient_part k p q i j) =
        let a : n ≡ signed_decimal x.num = whole_is n h (subst (λ (v : ℤ). IsNarrow v) e m) ∙ ap signed_decimal (sym e ∙ sym g.0) in
        let same : value d ≡ k = omega (arith, ints, q, g.1, f) in
        let b : d ≡ decimal k = sym (decimal_value d c s) ∙ ap decimal same in
        sym (p ∙ (ap (λ v. v ++ 47 ∷ decimal k) (sym a) ∙ ap (λ v. n ++ 47 ∷ v) (sym b)))

-- ---- whole numbers as fractions
only_whole : (w : List ℕ) → lacks 47 w ≡ true → IsFraction w → is_whole w ≡ true
only_whole w l (inl h) = h
only_whole w l (inr q) = absurd (lacks_not 47 q.num q.den (ap (lacks 47) (sym q.parts) ∙ l))

pub not_whole : (w : List ℕ) → lacks 47 w ≡ true → is_whole w ≡ false → FractionGives w NoFraction
not_whole w l h = λ f. true≢false (sym (only_whole w l f) ∙ h)

pub wide_whole : (w : List ℕ) → is_whole w ≡ true → IsWide (whole w) → FractionGives w OutsideFraction
wide_whole w h k = (inl h, λ f e. go f e (fraction_parts f))
  where
    go : (f : Frac) → w ≡ fraction_text f → FractionParts f → ⊥
    go f e (whole_part p q) = absurd (omega (arith, k, f.num_narrow, ap unsigned_abs (ap whole (e ∙ p) ∙ (signed_is f.num f.num_narrow).1)))
    go f e (quotient_part m p q i j) = lacks_not 47 (signed_decimal f.num) (decimal m) (ap (lacks 47) (sym (e ∙ p)) ∙ whole_lacks 47 w refl (λ x. absurd (omega (arith, x))) h)

pub narrow_whole : (w : List ℕ) (y : ℤ) (f : Frac) → is_whole w ≡ true → y ≡ whole w → IsNarrow y → f.num ≡ y → f.den ≡ pos 1 → FractionGives w (IsFrac f)
narrow_whole w y f h e m g d = go (fraction_parts f)
  where
    go : FractionParts f → w ≡ fraction_text f
    go (whole_part p q) = sym (p ∙ (ap signed_decimal (g ∙ e) ∙ sym (whole_is w h (subst (λ (v : ℤ). IsNarrow v) e m))))
    go (quotient_part k p q i j) = absurd (omega (arith, ints, q, d))

pub cut_fraction : (w x y : List ℕ) (i : ℕ) (r : Fraction) → x ≡ take i w → y ≡ drop (i + 1) w → w ≡ take i w ++ (47 ∷ drop (i + 1) w) → FractionGives (x ++ 47 ∷ y) r → FractionGives w r
cut_fraction w x y i r f g e h =
    let same : x ++ 47 ∷ y ≡ w = ap (λ z. z ++ 47 ∷ y) f ∙ (ap (λ z. take i w ++ 47 ∷ z) g ∙ sym e) in
    subst (λ (z : List ℕ). FractionGives z r) same h

pub ruleset dividing = (to_z-of_z, no_num, no_den, small_den, wide_num, wide_den, as_lowest, not_whole, wide_whole, narrow_whole, cut_fraction)

coprime_from : (n d : ℤ) → IsGcd (unsigned_abs n) (unsigned_abs d) 1 → IsCoprime n d
coprime_from n d h k p q = eq-one_of_dvd-one (h.2 k p q)

pub gcd_one : (n d g : ℤ) → IsGcd (unsigned_abs n) (unsigned_abs d) (unsigned_abs g) → g ≡ pos 1 → IsCoprime n d
gcd_one n d g h e = coprime_from n d (subst (λ (x : ℕ). IsGcd (unsigned_abs n) (unsigned_abs d) x) (ap unsigned_abs e) h)

pub gcd_not_one : (n d g : ℤ) → IsGcd (unsigned_abs n) (unsigned_abs d) (unsigned_abs g) → g ≡ pos (unsigned_abs g) → g ≢ pos 1 → IsCoprime n d → ⊥
gcd_not_one n d g h e m c = m (e ∙ ap pos (c (unsigned_abs g) h.0 h.1))

pub coprime_one : (n : ℤ) → IsCoprime n (pos 1)
coprime_one n k p q = eq-one_of_dvd-one q

pub ruleset lowering = (to_z-of_z, gcd_one, gcd_not_one)

-- ---- order
pub value_split : (n : ℕ) (w : List ℕ) (i : ℕ) → value_from n w ≡ value_from (value_from n (take i w)) (drop i w)
value_split n w zero = refl
value_split n [] (suc i) = refl
value_split n (b ∷ bs) (suc i) = value_split (n * 10 + (b - 48)) bs i

stays_below : (m n : ℕ) (xs ys : List ℕ) → length xs ≡ length ys → are_digits xs ≡ true → are_digits ys ≡ true → m < n → value_from m xs < value_from n ys
stays_below m n [] [] e h k l = l
stays_below m n [] (y ∷ ys) e h k l = absurd (omega arith)
stays_below m n (x ∷ xs) [] e h k l = absurd (omega arith)
stays_below m n (x ∷ xs) (y ∷ ys) e h k l =
    let p = and_parts (digit x) (are_digits xs) h in
    let q = and_parts (digit y) (are_digits ys) k in
    let r = digit_range x p.0 in
    stays_below (m * 10 + (x - 48)) (n * 10 + (y - 48)) xs ys (omega arith) p.1 q.1 (omega (arith, r.0, r.1))

digits_after : (w : List ℕ) (i : ℕ) → are_digits w ≡ true → are_digits (drop i w) ≡ true
digits_after w zero h = h
digits_after [] (suc i) h = h
digits_after (b ∷ bs) (suc i) h = digits_after bs i (and_parts (digit b) (are_digits bs) h).1

digit_at : (w : List ℕ) (i : ℕ) → i < length w → are_digits w ≡ true → digit (get_or w i 0) ≡ true
digit_at w i l h = (and_parts (digit (get_or w i 0)) (are_digits (drop (i + 1) w)) (sym (ap are_digits (drop_more w i 0 l)) ∙ digits_after w i h)).0

pub first_below : (a b : List ℕ) (i : ℕ) → length a ≡ length b → i < length a → take i a ≡ take i b → get_or a i 0 < get_or b i 0 → is_count a ≡ true → is_count b ≡ true → value a < value b
first_below a b i e l t m h k =
    let da = count_digits a h in
    let db = count_digits b k in
    let v : ℕ = value (take i a) in
    let ra = digit_range (get_or a i 0) (digit_at a i l da) in
    let rb = digit_range (get_or b i 0) (digit_at b i (omega arith) db) in
    let sa : value a ≡ value_from (v * 10 + (get_or a i 0 - 48)) (drop (i + 1) a) = value_split 0 a i ∙ ap (value_from v) (drop_more a i 0 l) in
    let sb : value b ≡ value_from (v * 10 + (get_or b i 0 - 48)) (drop (i + 1) b) = value_split 0 b i ∙ (ap (λ x. value_from (value x) (drop i b)) (sym t) ∙ ap (value_from v) (drop_more b i 0 (omega arith))) in
    let o = stays_below (v * 10 + (get_or a i 0 - 48)) (v * 10 + (get_or b i 0 - 48)) (drop (i + 1) a) (drop (i + 1) b) (omega (arith, length-drop (i + 1) a, length-drop (i + 1) b)) (digits_after a (i + 1) da) (digits_after b (i + 1) db) (omega (arith, ra.0, rb.0)) in
    omega (arith, sa, sb, o)

some_value : (b : List ℕ) (i : ℕ) → 0 < i → i < length b → is_count b ≡ true → 0 < value (take i b)
some_value b zero p l h = absurd (omega arith)
some_value [] (suc i) p l h = absurd (omega arith)
some_value (x ∷ xs) (suc i) p l h =
    let q = and_parts (are_digits (x ∷ xs)) (nat_eq (length xs) 0 || nat_lt 48 x) h in
    go (or_cases (nat_eq (length xs) 0) (nat_lt 48 x) q.1)
  where
    go : (nat_eq (length xs) 0 ≡ true) ⊎ (nat_lt 48 x ≡ true) → 0 < value (take (suc i) (x ∷ xs))
    go (inl e) = absurd (omega (arith, eqb-true (length xs) 0 e))
    go (inr e) = omega (arith, ltb-true 48 x e, value_grows (0 * 10 + (x - 48)) (take i xs))

pub shorter_below : (a b : List ℕ) → length a < length b → is_count a ≡ true → is_count b ≡ true → value a < value b
shorter_below a b l h k =
    let i : ℕ = length b - length a in
    let some : 0 < length a = nonempty a h in
    let v = some_value b i (omega arith) (omega arith) k in
    let o = stays_below 0 (value (take i b)) a (drop i b) (omega (arith, length-drop i b)) (count_digits a h) (digits_after b i (count_digits b k)) v in
    omega (arith, o, value_split 0 b i)
  where
    nonempty : (w : List ℕ) → is_count w ≡ true → 0 < length w
    nonempty [] e = absurd (false≢true e)
    nonempty (x ∷ xs) e = omega arith

pub same_below : (a b : List ℕ) (i : ℕ) → length a ≡ length b → length a ≤ i → take i a ≡ take i b → value a ≡ value b
same_below a b i e l t = ap value (sym (take_all i a l) ∙ (t ∙ take_all i b (omega arith)))

pub same_more : (a b : List ℕ) (i : ℕ) → i < length a → i < length b → take i a ≡ take i b → get_or a i 0 ≡ get_or b i 0 → take (i + 1) a ≡ take (i + 1) b
same_more a b i l m e f = take_more a i 0 l ∙ (ap (λ x. x ++ (get_or a i 0 ∷ [])) e ∙ (ap (λ x. take i b ++ (x ∷ [])) f ∙ sym (take_more b i 0 m)))

pub below_both : (a b x y : List ℕ) (r : Bool) → first a ≡ 45 → first b ≡ 45 → x ≡ drop 1 b → y ≡ drop 1 a → (is_count x ≡ true → is_count y ≡ true → Decides r (value x < value y)) → is_whole a ≡ true → is_whole b ≡ true → Decides r (whole a <ℤ whole b)
below_both a b x y r e f i j h k l =
    let p = below_zero_is a k e in
    let q = below_zero_is b l f in
    let d = h (ap is_count i ∙ q.count) (ap is_count j ∙ p.count) in
    let u : value x ≡ value (drop 1 b) = ap value i in
    let v : value y ≡ value (drop 1 a) = ap value j in
    (λ t. omega (arith, ints, d.0 t, p.is, q.is, u, v), λ t. d.1 (omega (arith, ints, t, p.is, q.is, u, v)))

pub ruleset ordering = (first_below, shorter_below, same_below, same_more, below_zero_is, count_is)

-- ---- words of a line
pub word_on : (t : List ℕ) (i : ℕ) → i < length t → 32 < get_or t i 0 → first_word t ≡ take i t ++ first_word (drop i t) → first_word t ≡ take (i + 1) t ++ first_word (drop (i + 1) t)
word_on t i h d e =
    e
    ∙ (ap (λ s. take i t ++ first_word s) (drop_more t i 0 h)
    ∙ (ap (λ s. take i t ++ s) (cond-true (nat_lt 32 (get_or t i 0)) (get_or t i 0 ∷ first_word (drop (i + 1) t)) [] (lt-ltb 32 (get_or t i 0) d))
    ∙ (sym (append_assoc (take i t) (get_or t i 0 ∷ []) (first_word (drop (i + 1) t))) ∙ ap (λ s. s ++ first_word (drop (i + 1) t)) (sym (take_more t i 0 h)))))

pub after_on : (t : List ℕ) (i : ℕ) → i < length t → 32 < get_or t i 0 → after_word t ≡ after_word (drop i t) → after_word t ≡ after_word (drop (i + 1) t)
after_on t i h d e = e ∙ (ap after_word (drop_more t i 0 h) ∙ cond-true (nat_lt 32 (get_or t i 0)) (after_word (drop (i + 1) t)) (get_or t i 0 ∷ drop (i + 1) t) (lt-ltb 32 (get_or t i 0) d))

pub word_stop : (t : List ℕ) (i : ℕ) → i < length t → get_or t i 0 ≤ 32 → first_word t ≡ take i t ++ first_word (drop i t) → take i t ≡ first_word t
word_stop t i h d e =
    sym (e ∙ (ap (λ s. take i t ++ first_word s) (drop_more t i 0 h) ∙ (ap (λ s. take i t ++ s) (cond-false (nat_lt 32 (get_or t i 0)) (get_or t i 0 ∷ first_word (drop (i + 1) t)) [] (le-ltb 32 (get_or t i 0) d)) ∙ append-nil (take i t))))

pub after_stop : (t : List ℕ) (i : ℕ) → i < length t → get_or t i 0 ≤ 32 → after_word t ≡ after_word (drop i t) → drop i t ≡ after_word t
after_stop t i h d e =
    sym (e ∙ (ap after_word (drop_more t i 0 h) ∙ (cond-false (nat_lt 32 (get_or t i 0)) (after_word (drop (i + 1) t)) (get_or t i 0 ∷ drop (i + 1) t) (le-ltb 32 (get_or t i 0) d) ∙ sym (drop_more t i 0 h))))

pub word_end : (t : List ℕ) (i : ℕ) → length t ≤ i → first_word t ≡ take i t ++ first_word (drop i t) → take i t ≡ first_word t
word_end t i h e = sym (e ∙ (ap (λ s. take i t ++ first_word s) (drop_all i t h) ∙ append-nil (take i t)))

pub after_end : (t : List ℕ) (i : ℕ) → length t ≤ i → after_word t ≡ after_word (drop i t) → drop i t ≡ after_word t
after_end t i h e = drop_all i t h ∙ sym (e ∙ ap after_word (drop_all i t h))

pub ruleset cutting = (word_on, after_on, word_stop, after_stop, word_end, after_end)

pub whole_text : (w : List ℕ) (z : ℤ) → is_whole w ≡ true → z ≡ whole w → IsNarrow z → w ≡ signed_decimal z
whole_text w z h e l = whole_is w h (subst (λ (x : ℤ). IsNarrow x) e l) ∙ ap signed_decimal (sym e)
