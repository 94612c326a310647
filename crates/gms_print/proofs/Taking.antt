-- A piece at the head of a text is taken as it is.
use Rattle.std.proofs.Common.{◌≡◌, ◌⊎◌, inl, inr, ℕ, ◌+◌, ◌<◌, ◌≤◌, Bool, true, false, cond, not, ◌&&◌, ◌||◌, IsTrue, List, [], ◌∷◌, ◌++◌, length, All, drop, get_or, refl, sym, ap, subst, ◌∙◌, arith, append_assoc, nat_eq}
use Rattle.std.specs.Prelude.{nat_lt}
use Rattle.std.proofs.lemmas.Bool.{eqb-true, eq-eqb, ne_eqb, or_cases}
use Rattle.std.proofs.lemmas.Bool.Decides.{nat_tests}
use Rattle.std.proofs.lemmas.List.Elements.{All-nil, All-cons, All-head}
use Rattle.std.proofs.lemmas.List.{length-append}
use Rattle.emp_numeral.specs.Numeral.{digit, whole_of, numeral_form}
use Rattle.emp_numeral.specs.NumeralText.{PointText, no_point, point, SignText, no_sign, plus, minus, ExponentText, no_exponent, exponent}
use Rattle.emp_numeral.specs.NumeralText.{AllDigits as EachDigit}
use Rattle.emp_numeral.proofs.NumeralTexts.{is_text}
use Rattle.emp_lex.specs.declared.token.TokenKind.{TokenKind}
use Rattle.emp_lex.specs.declared.token.TokenKind.TheVariants.{Name, Numeral, Text, Relation, Symbol}
use Rattle.emp_lex.specs.declared.piece.Step.TheVariants.{Skip, Take, Stop}
use Rattle.emp_lex.specs.declared.piece.Defect.TheVariants.{BadByte}
use Rattle.emp_lex.specs.declared.scan.Class.TheVariants.{Word, Digit, Quoted}
use Rattle.emp_lex.specs.Bytes.{is_of, is_letter, is_digit, is_blank, is_exponent_mark, is_sign, is_single, is_relation_letter, run_size}
use Rattle.emp_lex.specs.Pieces.{mantissa_by, with_mark, exponent_size, with_exponent, numeral_size, quoted_size, plain_piece, piece, step}
use Rattle.emp_lex.specs.Forms.{IsName, IsText, IsRelation, IsSymbol, HasForm}
use Rattle.emp_lex.proofs.NumeralForms.{AllDigits, Stops, run_seam, seam_here, mantissa_seam, exponent_seam, with_some, pointed_exponent, sign_no_digit, mark_is, mark_no_point}
use Rattle.gms_print.proofs.Pieces.{SymbolEnds, EndsBefore}

-- ---- bytes
above_0 : (n : ℕ) → 0 < n → nat_lt 0 n ≡ true
above_0 n h = grind (arith, nat_tests)

no_mark : (b : ℕ) → is_of Word b ≡ false → is_exponent_mark b ≡ false
no_mark b h = grind (arith, nat_tests)

no_digit : (b : ℕ) → is_of Word b ≡ false → is_digit b ≡ false
no_digit b h = grind (arith, nat_tests)

to_digit : (b : ℕ) → digit b ≡ true → is_digit b ≡ true
to_digit b h = grind (arith, nat_tests)

to_digits : (d : List ℕ) → EachDigit d → AllDigits d
to_digits [] h = All-nil (λ b. IsTrue (is_of Digit b))
to_digits (b ∷ bs) h = All-cons (λ b. IsTrue (is_of Digit b)) b bs (to_digit b h.0) (to_digits bs h.1)

word_stops : (r : List ℕ) → is_of Word (get_or r 0 0) ≡ false → Stops Word r
word_stops [] h = tt
word_stops (b ∷ bs) h = h

digit_stops : (r : List ℕ) → is_of Word (get_or r 0 0) ≡ false → Stops Digit r
digit_stops [] h = tt
digit_stops (b ∷ bs) h = no_digit b h

-- ---- the size of a numeral
-- behind the text stands no byte that goes on with it
record Ends (r : List ℕ) : Type 0 where
  word : is_of Word (get_or r 0 0) ≡ false
  point : nat_eq (get_or r 0 0) 46 ≡ false

no_exponent_size : (r : List ℕ) → Ends r → exponent_size r 0 ≡ 0
no_exponent_size r e = rw (no_mark (get_or r 0 0) e.word) refl

mark_count : (m n : ℕ) → 0 < n → with_mark m n ≡ m + n
mark_count m n l = rw (ne_eqb n 0 (λ e. omega arith)) refl

exponent_count : {s : List ℕ} {neg : Bool} → SignText s neg → (b d : ℕ) (ds r : List ℕ) → is_exponent_mark b ≡ true → AllDigits (d ∷ ds) → Ends r → exponent_size (b ∷ ((s ++ d ∷ ds) ++ r)) 0 ≡ length (b ∷ (s ++ d ∷ ds))
exponent_count no_sign b d ds r m h e =
    let l : run_size Digit (d ∷ (ds ++ r)) ≡ length (d ∷ ds) = run_seam Digit (d ∷ ds) r h (digit_stops r e.word) in
    let t : is_sign d ≡ false = sign_no_digit d (All-head (λ b. IsTrue (is_of Digit b)) d ds h) in
    let w = mark_count 1 (run_size Digit (d ∷ (ds ++ r))) (omega (arith, l)) in
    rw (m, t) (omega (arith, w, l))
exponent_count plus b d ds r m h e =
    let l : run_size Digit (d ∷ (ds ++ r)) ≡ length (d ∷ ds) = run_seam Digit (d ∷ ds) r h (digit_stops r e.word) in
    let w = mark_count 2 (run_size Digit (d ∷ (ds ++ r))) (omega (arith, l)) in
    rw m (omega (arith, w, l))
exponent_count minus b d ds r m h e =
    let l : run_size Digit (d ∷ (ds ++ r)) ≡ length (d ∷ ds) = run_seam Digit (d ∷ ds) r h (digit_stops r e.word) in
    let w = mark_count 2 (run_size Digit (d ∷ (ds ++ r))) (omega (arith, l)) in
    rw m (omega (arith, w, l))

plain_count : (w r : List ℕ) → AllDigits w → 0 < length w → Stops Digit r → nat_eq (get_or r 0 0) 46 ≡ false → numeral_size (w ++ r) ≡ length w + exponent_size r 0
plain_count w r h l s n =
    ap (with_exponent (w ++ r)) (mantissa_seam w r h s ∙ ap (λ t. mantissa_by t (length w) (run_size Digit (drop 1 r))) n)
    ∙ with_some (w ++ r) (length w) l ∙ ap (λ n. length w + n) (exponent_seam w r)

point_is : (w f : ℕ) → 0 < w + f → mantissa_by true w f ≡ w + 1 + f
point_is w f l = grind (arith, nat_tests)

point_count : (w f r : List ℕ) → AllDigits w → AllDigits f → 0 < length w + length f → Stops Digit r → numeral_size (w ++ (46 ∷ (f ++ r))) ≡ length w + 1 + length f + exponent_size r 0
point_count w f r h g l s =
    ap (with_exponent (w ++ (46 ∷ (f ++ r)))) (mantissa_seam w (46 ∷ (f ++ r)) h refl ∙ ap (mantissa_by true (length w)) (run_seam Digit f r g s) ∙ point_is (length w) (length f) l)
    ∙ with_some (w ++ (46 ∷ (f ++ r))) (length w + 1 + length f) (omega arith) ∙ ap (λ n. length w + 1 + length f + n) (pointed_exponent w f r)

-- the text is taken whole before r
abbrev Counts : List ℕ → List ℕ → Type 0
Counts p r = numeral_size (p ++ r) ≡ length p

parts_count : {mid f tail e : List ℕ} {neg : Bool} → PointText mid f → ExponentText tail neg e → (w r : List ℕ) → AllDigits w → 0 < length w + length f → Ends r → Counts (w ++ (mid ++ tail)) r
parts_count no_point no_exponent w r h l e =
    let p : 0 < length w = omega arith in
    let a = plain_count w r h p (digit_stops r e.word) e.point in
    let n : length (w ++ []) ≡ length w = omega (arith, length-append w []) in
    rw n (ap numeral_size (append_assoc w [] r) ∙ omega (arith, a, no_exponent_size r e))
parts_count no_point (exponent b s neg d ds m sg ds_ok) w r h l e =
    let p : 0 < length w = omega arith in
    let c = exponent_count sg b d ds r m (to_digits (d ∷ ds) ds_ok) e in
    let n : length (w ++ (b ∷ (s ++ d ∷ ds))) ≡ length w + length (b ∷ (s ++ d ∷ ds)) = length-append w (b ∷ (s ++ d ∷ ds)) in
    let a = plain_count w (b ∷ ((s ++ d ∷ ds) ++ r)) h p (mark_is b m) (mark_no_point b m) in
    ap numeral_size (append_assoc w (b ∷ (s ++ d ∷ ds)) r) ∙ omega (arith, a, c, n)
parts_count (point f f_ok) no_exponent w r h l e =
    let a = point_count w f r h (to_digits f f_ok) l (digit_stops r e.word) in
    let n : length (w ++ (46 ∷ (f ++ []))) ≡ length w + 1 + length f = omega (arith, length-append w (46 ∷ (f ++ [])), length-append f []) in
    let i : (w ++ (46 ∷ (f ++ []))) ++ r ≡ w ++ (46 ∷ (f ++ r)) = append_assoc w (46 ∷ (f ++ [])) r ∙ ap (λ y. w ++ (46 ∷ y)) (append_assoc f [] r) in
    ap numeral_size i ∙ omega (arith, a, n, no_exponent_size r e)
parts_count (point f f_ok) (exponent b s neg d ds m sg ds_ok) w r h l e =
    let c = exponent_count sg b d ds r m (to_digits (d ∷ ds) ds_ok) e in
    let n : length (w ++ (46 ∷ (f ++ (b ∷ (s ++ d ∷ ds))))) ≡ length w + 1 + length f + length (b ∷ (s ++ d ∷ ds)) = omega (arith, length-append w (46 ∷ (f ++ (b ∷ (s ++ d ∷ ds)))), length-append f (b ∷ (s ++ d ∷ ds))) in
    let a = point_count w f (b ∷ ((s ++ d ∷ ds) ++ r)) h (to_digits f f_ok) l (mark_is b m) in
    let i : (w ++ (46 ∷ (f ++ (b ∷ (s ++ d ∷ ds))))) ++ r ≡ w ++ (46 ∷ (f ++ (b ∷ ((s ++ d ∷ ds) ++ r)))) = append_assoc w (46 ∷ (f ++ (b ∷ (s ++ d ∷ ds)))) r ∙ ap (λ y. w ++ (46 ∷ y)) (append_assoc f (b ∷ (s ++ d ∷ ds)) r) in
    ap numeral_size i ∙ omega (arith, a, c, n)

-- ---- the head of a numeral
-- a digit, or a point and a digit
data Head : List ℕ → Type 0 where
  whole_head : (d : ℕ) (ds : List ℕ) → is_digit d ≡ true → Head (d ∷ ds)
  point_head : (d : ℕ) (ds : List ℕ) → is_digit d ≡ true → Head (46 ∷ d ∷ ds)

point_first : {mid f : List ℕ} → PointText mid f → (tail : List ℕ) → 0 < length f → Head (mid ++ tail)
point_first no_point tail l = absurd (omega arith)
point_first (point [] g) tail l = absurd (omega arith)
point_first (point (d ∷ ds) g) tail l = point_head d (ds ++ tail) (to_digit d g.0)

parts_head : {mid f : List ℕ} → PointText mid f → (tail w : List ℕ) → EachDigit w → 0 < length w + length f → Head (w ++ (mid ++ tail))
parts_head p tail [] h l = point_first p tail (omega arith)
parts_head {mid} p tail (d ∷ ds) h l = whole_head d (ds ++ (mid ++ tail)) (to_digit d h.0)

plain_taken : (text : List ℕ) (n : ℕ) → numeral_size text ≡ n → 0 < n → plain_piece text ≡ Take Numeral n
plain_taken text n e l = rw (e, above_0 n l) refl

digit_taken : (d : ℕ) (ds : List ℕ) → is_digit d ≡ true → piece (d ∷ ds) ≡ plain_piece (d ∷ ds)
digit_taken d ds h = rw (blank d h, letter d h, quote d h, dot d h) refl
  where
    blank : (d : ℕ) → is_digit d ≡ true → is_blank d ≡ false
    blank d h = grind (arith, nat_tests)

    letter : (d : ℕ) → is_digit d ≡ true → is_letter d ≡ false
    letter d h = grind (arith, nat_tests)

    quote : (d : ℕ) → is_digit d ≡ true → (nat_eq d 39 || nat_eq d 34) ≡ false
    quote d h = grind (arith, nat_tests)

    dot : (d : ℕ) → is_digit d ≡ true → nat_eq d 46 ≡ false
    dot d h = grind (arith, nat_tests)

point_taken : (d : ℕ) (ds : List ℕ) → is_digit d ≡ true → piece (46 ∷ d ∷ ds) ≡ plain_piece (46 ∷ d ∷ ds)
point_taken d ds h = rw (dot d h) refl
  where
    dot : (d : ℕ) → is_digit d ≡ true → nat_eq d 46 ≡ false
    dot d h = grind (arith, nat_tests)

head_taken : {p : List ℕ} → Head p → (r : List ℕ) → numeral_size (p ++ r) ≡ length p → piece (p ++ r) ≡ Take Numeral (length p)
head_taken (whole_head d ds h) r e = digit_taken d (ds ++ r) h ∙ plain_taken (d ∷ (ds ++ r)) (length (d ∷ ds)) e (omega arith)
head_taken (point_head d ds h) r e = point_taken d (ds ++ r) h ∙ plain_taken (46 ∷ d ∷ (ds ++ r)) (length (46 ∷ d ∷ ds)) e (omega arith)

numeral_taken : (bs r : List ℕ) → numeral_form bs ≡ true → EndsBefore Numeral bs r → piece (bs ++ r) ≡ Take Numeral (length bs)
numeral_taken bs r h e =
    let q = is_text bs h in
    let c : Counts (whole_of bs ++ (q.middle ++ q.tail)) r = parts_count q.point_text q.exponent_text (whole_of bs) r (to_digits (whole_of bs) q.whole_digits) q.some_digit (record { word = e.0; point = e.1 }) in
    subst (λ t. piece (t ++ r) ≡ Take Numeral (length t)) (sym q.parts) (head_taken (parts_head q.point_text q.tail (whole_of bs) q.whole_digits q.some_digit) r c)

-- ---- names
at_most_63 : (n : ℕ) → n ≤ 63 → nat_lt 63 n ≡ false
at_most_63 n h = grind (arith, nat_tests)

letter_no_blank : (b : ℕ) → is_letter b ≡ true → is_blank b ≡ false
letter_no_blank b h = grind (arith, nat_tests)

name_taken : (bs r : List ℕ) → IsName bs → EndsBefore Name bs r → piece (bs ++ r) ≡ Take Name (length bs)
name_taken [] r h e = let f : false ≡ true = h.letter in cc
name_taken (b ∷ bs) r h e =
    let n : run_size Word (b ∷ (bs ++ r)) ≡ length (b ∷ bs) = run_seam Word (b ∷ bs) r h.bytes (word_stops r e) in
    rw (n, letter_no_blank b h.letter, h.letter, at_most_63 (length (b ∷ bs)) h.short) refl

-- ---- texts
same_size : (n : ℕ) → nat_eq n n ≡ true
same_size n = eq-eqb n n refl

text_taken : (bs r : List ℕ) → IsText bs → piece (bs ++ r) ≡ Take Text (length bs)
text_taken bs r h = subst (λ t. piece (t ++ r) ≡ Take Text (length t)) (sym h.is) (go h.mark)
  where
    inner : List ℕ
    inner = h.inner

    stops : (q : ℕ) → Stops (Quoted q) (q ∷ r)
    stops q = rw (same_size q) (no_more (nat_eq q 10))
      where
        no_more : (b : Bool) → (not b && false) ≡ false
        no_more true = refl
        no_more false = refl

    size : (q : ℕ) → All (λ b. IsTrue (is_of (Quoted q) b)) inner → quoted_size q (q ∷ (inner ++ q ∷ r)) ≡ 1 + length inner + 1
    size q k =
        let n : run_size (Quoted q) (inner ++ q ∷ r) ≡ length inner = run_seam (Quoted q) inner (q ∷ r) k (stops q) in
        let e : 1 + length inner ≡ length (q ∷ inner) = omega arith in
        let t : get_or (q ∷ (inner ++ q ∷ r)) (1 + length inner) 0 ≡ q = ap (λ m. get_or (q ∷ (inner ++ q ∷ r)) m 0) e ∙ seam_here (q ∷ inner) (q ∷ r) in
        ap (λ m. cond (nat_eq (get_or (q ∷ (inner ++ q ∷ r)) (1 + m) 0) q) (1 + m + 1) 0) n
        ∙ ap (λ b. cond (nat_eq b q) (1 + length inner + 1) 0) t
        ∙ ap (λ b. cond b (1 + length inner + 1) 0) (same_size q)

    joined : (q : ℕ) → (q ∷ (inner ++ q ∷ [])) ++ r ≡ q ∷ (inner ++ q ∷ r)
    joined q = ap (λ y. q ∷ y) (append_assoc inner (q ∷ []) r)

    long : (q : ℕ) → length (q ∷ (inner ++ q ∷ [])) ≡ 1 + length inner + 1
    long q = omega (arith, length-append inner (q ∷ []))

    found : (n : ℕ) → cond (nat_eq (1 + n + 1) 0) (Stop BadByte) (Take Text (1 + n + 1)) ≡ Take Text (1 + n + 1)
    found n = rw (ne_eqb (1 + n + 1) 0 (λ e. omega arith)) refl

    marked : (q : ℕ) → (q ≡ 39) ⊎ (q ≡ 34) → piece (q ∷ (inner ++ q ∷ r)) ≡ cond (nat_eq (quoted_size q (q ∷ (inner ++ q ∷ r))) 0) (Stop BadByte) (Take Text (quoted_size q (q ∷ (inner ++ q ∷ r))))
    marked q (inl e) = subst (λ q. piece (q ∷ (inner ++ q ∷ r)) ≡ cond (nat_eq (quoted_size q (q ∷ (inner ++ q ∷ r))) 0) (Stop BadByte) (Take Text (quoted_size q (q ∷ (inner ++ q ∷ r))))) (sym e) refl
    marked q (inr e) = subst (λ q. piece (q ∷ (inner ++ q ∷ r)) ≡ cond (nat_eq (quoted_size q (q ∷ (inner ++ q ∷ r))) 0) (Stop BadByte) (Take Text (quoted_size q (q ∷ (inner ++ q ∷ r))))) (sym e) refl

    go : (h.quote ≡ 39) ⊎ (h.quote ≡ 34) → piece ((h.quote ∷ (inner ++ h.quote ∷ [])) ++ r) ≡ Take Text (length (h.quote ∷ (inner ++ h.quote ∷ [])))
    go m =
        ap piece (joined h.quote)
        ∙ marked h.quote m
        ∙ ap (λ n. cond (nat_eq n 0) (Stop BadByte) (Take Text n)) (size h.quote h.bytes)
        ∙ found (length inner)
        ∙ ap (Take Text) (sym (long h.quote))

-- ---- relations and symbols
relation_taken : (bs r : List ℕ) → IsRelation bs → piece (bs ++ r) ≡ Take Relation (length bs)
relation_taken bs r h = subst (λ t. piece (t ++ r) ≡ Take Relation (length t)) (sym h.is) (rw h.known refl)

-- the symbol of one byte
abbrev Single : ℕ → List ℕ → Type 0
Single b r = SymbolEnds (b ∷ []) r → piece (b ∷ r) ≡ Take Symbol 1

star_taken : (r : List ℕ) → Single 42 r
star_taken r e = rw (e.star refl) refl

dot_taken : (r : List ℕ) → Single 46 r
dot_taken [] e = let f : false ≡ true = e.dot refl in cc
dot_taken (b ∷ bs) e = rw (no_dot b (e.dot refl), no_digit_letter b (e.dot refl)) refl
  where
    no_dot : (b : ℕ) → is_letter b ≡ true → nat_eq b 46 ≡ false
    no_dot b h = grind (arith, nat_tests)

    no_digit_letter : (b : ℕ) → is_letter b ≡ true → is_digit b ≡ false
    no_digit_letter b h = grind (arith, nat_tests)

equals_taken : (r : List ℕ) → Single 61 r
equals_taken r e = rw (no_relation (get_or r 0 0) (e.equals refl)) refl
  where
    no_relation : (b : ℕ) → is_blank b ≡ true → is_relation_letter b ≡ false
    no_relation b h = go (or_cases (nat_eq b 32 || nat_eq b 9 || nat_eq b 13) (nat_eq b 10) h)
      where
        go : ((nat_eq b 32 || nat_eq b 9 || nat_eq b 13) ≡ true) ⊎ (nat_eq b 10 ≡ true) → is_relation_letter b ≡ false
        go k = grind (arith, nat_tests)

either_byte : (P : ℕ → Type 0) (b v : ℕ) (other : Bool) → P v → (other ≡ true → P b) → (other || nat_eq b v) ≡ true → P b
either_byte P b v other p f h = go (or_cases other (nat_eq b v) h)
  where
    go : (other ≡ true) ⊎ (nat_eq b v ≡ true) → P b
    go (inl e) = f e
    go (inr e) = subst P (sym (eqb-true b v e)) p

single_taken : (b : ℕ) (r : List ℕ) → is_single b ≡ true → Single b r
single_taken b r h =
    either_byte P b 61 (a || nat_eq b 40 || nat_eq b 41 || nat_eq b 43 || nat_eq b 45 || nat_eq b 42 || nat_eq b 47) (equals_taken r)
    (either_byte P b 47 (a || nat_eq b 40 || nat_eq b 41 || nat_eq b 43 || nat_eq b 45 || nat_eq b 42) (λ _. refl)
    (either_byte P b 42 (a || nat_eq b 40 || nat_eq b 41 || nat_eq b 43 || nat_eq b 45) (star_taken r)
    (either_byte P b 45 (a || nat_eq b 40 || nat_eq b 41 || nat_eq b 43) (λ _. refl)
    (either_byte P b 43 (a || nat_eq b 40 || nat_eq b 41) (λ _. refl)
    (either_byte P b 41 (a || nat_eq b 40) (λ _. refl)
    (either_byte P b 40 a (λ _. refl)
    (either_byte P b 46 (nat_eq b 59 || nat_eq b 44) (dot_taken r)
    (either_byte P b 44 (nat_eq b 59) (λ _. refl) (λ e. subst P (sym (eqb-true b 59 e)) (λ _. refl)))))))))) h
  where
    P : ℕ → Type 0
    P c = Single c r

    a : Bool
    a = nat_eq b 59 || nat_eq b 44 || nat_eq b 46

symbol_taken : (bs r : List ℕ) → IsSymbol bs → SymbolEnds bs r → piece (bs ++ r) ≡ Take Symbol (length bs)
symbol_taken bs r (inl e) k = subst (λ t. piece (t ++ r) ≡ Take Symbol (length t)) (sym e) refl
symbol_taken bs r (inr (inl e)) k = subst (λ t. piece (t ++ r) ≡ Take Symbol (length t)) (sym e) refl
symbol_taken bs r (inr (inr s)) k = subst (λ t. piece (t ++ r) ≡ Take Symbol (length t)) (sym s.1) (single_taken s.0 r s.2 (subst (λ t. SymbolEnds t r) s.1 k))

-- ---- pieces
piece_taken : (kind : TokenKind) (bs r : List ℕ) → HasForm kind bs → EndsBefore kind bs r → piece (bs ++ r) ≡ Take kind (length bs)
piece_taken Name bs r h e = name_taken bs r h e
piece_taken Numeral bs r h e = numeral_taken bs r h e
piece_taken Text bs r h e = text_taken bs r h
piece_taken Relation bs r h e = relation_taken bs r h
piece_taken Symbol bs r h e = symbol_taken bs r h e

letter_no_star : (b : ℕ) → is_letter b ≡ true → nat_eq b 42 ≡ false
letter_no_star b h = grind (arith, nat_tests)

letter_no_dollar : (b : ℕ) → is_letter b ≡ true → nat_eq b 36 ≡ false
letter_no_dollar b h = grind (arith, nat_tests)

name_begins : (bs r : List ℕ) → IsName bs → step true (bs ++ r) ≡ piece (bs ++ r)
name_begins [] r h = let f : false ≡ true = h.letter in cc
name_begins (b ∷ bs) r h = rw (letter_no_star b h.letter, letter_no_dollar b h.letter) refl

-- a line begins with a name alone
pub step_taken : (begins : Bool) (kind : TokenKind) (bs r : List ℕ) → (begins ≡ true → kind ≡ Name) → HasForm kind bs → EndsBefore kind bs r → step begins (bs ++ r) ≡ Take kind (length bs)
step_taken false kind bs r n h e = piece_taken kind bs r h e
step_taken true kind bs r n h e = name_begins bs r (subst (λ k. HasForm k bs) (n refl) h) ∙ piece_taken kind bs r h e

-- ---- blanks
pub space_skipped : (begins : Bool) (r : List ℕ) → step begins (32 ∷ r) ≡ Skip 1
space_skipped true r = refl
space_skipped false r = refl

pub end_skipped : (begins : Bool) (r : List ℕ) → step begins (10 ∷ r) ≡ Skip 1
end_skipped true r = refl
end_skipped false r = refl
