-- No numeral at the head of a text is longer than the one that is found.
use Rattle.std.proofs.Common.{◌≡◌, ℕ, ◌+◌, ◌<◌, ◌≤◌, Bool, true, false, IsTrue, List, [], ◌∷◌, ◌++◌, length, All, drop, get_or, refl, sym, ap, subst, ◌∙◌, ◌⊎◌, inl, inr, arith, append_assoc}
use Rattle.std.specs.Prelude.{nat_eq}
use Rattle.std.proofs.lemmas.Bool.{ne_eqb}
use Rattle.std.proofs.lemmas.Bool.Decides.{nat_tests}
use Rattle.std.proofs.lemmas.List.Elements.{All-nil, All-cons, All-head, All-tail}
use Rattle.std.proofs.lemmas.List.{length-append}
use Rattle.emp_numeral.specs.Numeral.{digit, whole_of, numeral_form}
use Rattle.emp_numeral.specs.NumeralText.{PointText, no_point, point, SignText, no_sign, plus, minus, ExponentText, no_exponent, exponent}
use Rattle.emp_numeral.specs.NumeralText.{AllDigits as EachDigit}
use Rattle.emp_numeral.proofs.NumeralTexts.{is_text}
use Rattle.emp_lex.specs.declared.scan.Class.{Class}
use Rattle.emp_lex.specs.declared.scan.Class.TheVariants.{Digit}
use Rattle.emp_lex.specs.Bytes.{is_of, is_digit, is_exponent_mark, is_sign, run_size}
use Rattle.emp_lex.specs.Pieces.{mantissa_by, mantissa_size, with_mark, exponent_size, with_exponent, numeral_size}
use Rattle.emp_lex.proofs.NumeralForms.{AllDigits, run_seam, mantissa_seam, exponent_seam, with_some, pointed_exponent, sign_no_digit, mark_is, mark_no_point}

to_digit : (b : ℕ) → digit b ≡ true → is_digit b ≡ true
to_digit b h = grind (arith, nat_tests)

to_digits : (d : List ℕ) → EachDigit d → AllDigits d
to_digits [] h = All-nil (λ b. IsTrue (is_of Digit b))
to_digits (b ∷ bs) h = All-cons (λ b. IsTrue (is_of Digit b)) b bs (to_digit b h.0) (to_digits bs h.1)

pub run_least : (class : Class) (d r : List ℕ) → All (λ b. IsTrue (is_of class b)) d → length d ≤ run_size class (d ++ r)
run_least class [] r h = omega arith
run_least class (x ∷ d) r h =
    let k = run_least class d r (All-tail (λ b. IsTrue (is_of class b)) x d h) in
    let t : is_of class x ≡ true = All-head (λ b. IsTrue (is_of class b)) x d h in
    rw t (omega arith)

with_mark_least : (m n k : ℕ) → 0 < k → k ≤ n → m + k ≤ with_mark m n
with_mark_least m n k p l = rw (ne_eqb n 0 (λ e. omega arith)) (omega arith)

-- ---- the exponent
exponent_least : {s : List ℕ} {neg : Bool} → SignText s neg → (b d : ℕ) (ds bs : List ℕ) → is_exponent_mark b ≡ true → AllDigits (d ∷ ds) → length (b ∷ (s ++ d ∷ ds)) ≤ exponent_size (b ∷ ((s ++ d ∷ ds) ++ bs)) 0
exponent_least no_sign b d ds bs m h =
    let l = run_least Digit (d ∷ ds) bs h in
    let t : is_sign d ≡ false = sign_no_digit d (All-head (λ b. IsTrue (is_of Digit b)) d ds h) in
    let w = with_mark_least 1 (run_size Digit (d ∷ (ds ++ bs))) (length (d ∷ ds)) (omega arith) l in
    rw (m, t) (omega (arith, w))
exponent_least plus b d ds bs m h =
    let l = run_least Digit (d ∷ ds) bs h in
    let w = with_mark_least 2 (run_size Digit (d ∷ (ds ++ bs))) (length (d ∷ ds)) (omega arith) l in
    rw m (omega (arith, w))
exponent_least minus b d ds bs m h =
    let l = run_least Digit (d ∷ ds) bs h in
    let w = with_mark_least 2 (run_size Digit (d ∷ (ds ++ bs))) (length (d ∷ ds)) (omega arith) l in
    rw m (omega (arith, w))

-- ---- the whole
zero_or_more : (n : ℕ) → (n ≡ 0) ⊎ (0 < n)
zero_or_more n = grind arith

with_least : (text : List ℕ) (n : ℕ) → n ≤ with_exponent text n
with_least text n = go (zero_or_more n)
  where
    go : (n ≡ 0) ⊎ (0 < n) → n ≤ with_exponent text n
    go (inl z) = omega (arith, z)
    go (inr l) = let e = with_some text n l in omega (arith, e)

mantissa_least : (t : Bool) (w f : ℕ) → w ≤ mantissa_by t w f
mantissa_least false w f = omega arith
mantissa_least true w f = grind (arith, nat_tests)

point_is : (w f : ℕ) → 0 < w + f → mantissa_by true w f ≡ w + 1 + f
point_is w f l = grind (arith, nat_tests)

digits_least : (w bs : List ℕ) → AllDigits w → length w ≤ numeral_size (w ++ bs)
digits_least w bs h =
    let a = run_least Digit w bs h in
    let b = mantissa_least (nat_eq (get_or (w ++ bs) (run_size Digit (w ++ bs)) 0) 46) (run_size Digit (w ++ bs)) (run_size Digit (drop (run_size Digit (w ++ bs) + 1) (w ++ bs))) in
    let c = with_least (w ++ bs) (mantissa_size (w ++ bs)) in
    omega (arith, a, b, c)

plain_least : (w : List ℕ) (b : ℕ) (r : List ℕ) → AllDigits w → 0 < length w → is_exponent_mark b ≡ true → numeral_size (w ++ (b ∷ r)) ≡ length w + exponent_size (b ∷ r) 0
plain_least w b r h l m =
    ap (with_exponent (w ++ (b ∷ r))) (mantissa_seam w (b ∷ r) h (mark_is b m) ∙ ap (λ t. mantissa_by t (length w) (run_size Digit r)) (mark_no_point b m))
    ∙ with_some (w ++ (b ∷ r)) (length w) l ∙ ap (λ n. length w + n) (exponent_seam w (b ∷ r))

fraction_least : (w f bs : List ℕ) → AllDigits w → AllDigits f → 0 < length w + length f → length w + 1 + length f ≤ numeral_size (w ++ (46 ∷ (f ++ bs)))
fraction_least w f bs h g l =
    let a = run_least Digit f bs g in
    let b : mantissa_size (w ++ (46 ∷ (f ++ bs))) ≡ length w + 1 + run_size Digit (f ++ bs) = mantissa_seam w (46 ∷ (f ++ bs)) h refl ∙ point_is (length w) (run_size Digit (f ++ bs)) (omega arith) in
    let c = with_least (w ++ (46 ∷ (f ++ bs))) (mantissa_size (w ++ (46 ∷ (f ++ bs)))) in
    omega (arith, a, b, c)

point_least : (w f : List ℕ) (b : ℕ) (r : List ℕ) → AllDigits w → AllDigits f → 0 < length w + length f → is_exponent_mark b ≡ true → numeral_size (w ++ (46 ∷ (f ++ (b ∷ r)))) ≡ length w + 1 + length f + exponent_size (b ∷ r) 0
point_least w f b r h g l m =
    ap (with_exponent (w ++ (46 ∷ (f ++ (b ∷ r))))) (mantissa_seam w (46 ∷ (f ++ (b ∷ r))) h refl ∙ ap (mantissa_by true (length w)) (run_seam Digit f (b ∷ r) g (mark_is b m)) ∙ point_is (length w) (length f) l)
    ∙ with_some (w ++ (46 ∷ (f ++ (b ∷ r)))) (length w + 1 + length f) (omega arith) ∙ ap (λ n. length w + 1 + length f + n) (pointed_exponent w f (b ∷ r))

abbrev Reaches : List ℕ → List ℕ → Type 0
Reaches p bs = length p ≤ numeral_size (p ++ bs)

parts_reach : {mid f tail e : List ℕ} {neg : Bool} → PointText mid f → ExponentText tail neg e → (w bs : List ℕ) → AllDigits w → 0 < length w + length f → Reaches (w ++ (mid ++ tail)) bs
parts_reach no_point no_exponent w bs h l =
    let a = digits_least w bs h in
    let n : length (w ++ []) ≡ length w = omega (arith, length-append w []) in
    rw n (subst (λ t. length w ≤ numeral_size t) (sym (append_assoc w [] bs)) a)
parts_reach no_point (exponent b s neg d ds m sg ds_ok) w bs h l =
    let p : 0 < length w = omega arith in
    let e = exponent_least sg b d ds bs m (to_digits (d ∷ ds) ds_ok) in
    let n : length (w ++ (b ∷ (s ++ d ∷ ds))) ≡ length w + length (b ∷ (s ++ d ∷ ds)) = length-append w (b ∷ (s ++ d ∷ ds)) in
    let q = plain_least w b ((s ++ d ∷ ds) ++ bs) h p m in
    let i : length (w ++ (b ∷ (s ++ d ∷ ds))) ≤ numeral_size (w ++ (b ∷ ((s ++ d ∷ ds) ++ bs))) = omega (arith, e, n, q) in
    subst (λ t. length (w ++ (b ∷ (s ++ d ∷ ds))) ≤ numeral_size t) (sym (append_assoc w (b ∷ (s ++ d ∷ ds)) bs)) i
parts_reach (point f f_ok) no_exponent w bs h l =
    let a = fraction_least w f bs h (to_digits f f_ok) l in
    let n : length (w ++ (46 ∷ (f ++ []))) ≡ length w + 1 + length f = omega (arith, length-append w (46 ∷ (f ++ [])), length-append f []) in
    let i : (w ++ (46 ∷ (f ++ []))) ++ bs ≡ w ++ (46 ∷ (f ++ bs)) = append_assoc w (46 ∷ (f ++ [])) bs ∙ ap (λ y. w ++ (46 ∷ y)) (append_assoc f [] bs) in
    rw n (subst (λ t. length w + 1 + length f ≤ numeral_size t) (sym i) a)
parts_reach (point f f_ok) (exponent b s neg d ds m sg ds_ok) w bs h l =
    let e = exponent_least sg b d ds bs m (to_digits (d ∷ ds) ds_ok) in
    let n : length (w ++ (46 ∷ (f ++ (b ∷ (s ++ d ∷ ds))))) ≡ length w + 1 + length f + length (b ∷ (s ++ d ∷ ds)) = omega (arith, length-append w (46 ∷ (f ++ (b ∷ (s ++ d ∷ ds)))), length-append f (b ∷ (s ++ d ∷ ds))) in
    let q = point_least w f b ((s ++ d ∷ ds) ++ bs) h (to_digits f f_ok) l m in
    let i : (w ++ (46 ∷ (f ++ (b ∷ (s ++ d ∷ ds))))) ++ bs ≡ w ++ (46 ∷ (f ++ (b ∷ ((s ++ d ∷ ds) ++ bs)))) = append_assoc w (46 ∷ (f ++ (b ∷ (s ++ d ∷ ds)))) bs ∙ ap (λ y. w ++ (46 ∷ y)) (append_assoc f (b ∷ (s ++ d ∷ ds)) bs) in
    let j : length (w ++ (46 ∷ (f ++ (b ∷ (s ++ d ∷ ds))))) ≤ numeral_size (w ++ (46 ∷ (f ++ (b ∷ ((s ++ d ∷ ds) ++ bs))))) = omega (arith, e, n, q) in
    subst (λ t. length (w ++ (46 ∷ (f ++ (b ∷ (s ++ d ∷ ds))))) ≤ numeral_size t) (sym i) j

pub numeral_longest : (p bs : List ℕ) → numeral_form p ≡ true → length p ≤ numeral_size (p ++ bs)
numeral_longest p bs h =
    let q = is_text p h in
    subst (λ t. length t ≤ numeral_size (t ++ bs)) (sym q.parts) (parts_reach q.point_text q.exponent_text (whole_of p) bs (to_digits (whole_of p) q.whole_digits) q.some_digit)
