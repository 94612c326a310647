-- The token that is taken is the longest at its place, and where none is, there is none; and what is passed over.
use Rattle.std.proofs.Common.{◌≡◌, ℕ, ◌+◌, ◌<◌, ◌≤◌, Bool, true, false, cond, ◌&&◌, ◌||◌, IsTrue, List, [], ◌∷◌, ◌++◌, length, All, Option, Some, None, get_or, refl, sym, ap, subst, ◌∙◌, ◌⊎◌, inl, inr, arith, append_assoc}
use Rattle.std.specs.Prelude.{nat_eq, nat_lt}
use Rattle.std.proofs.lemmas.Bool.{eqb-true, and_parts, or_cases, cond_both, false≢true}
use Rattle.std.proofs.lemmas.Bool.Decides.{nat_tests}
use Rattle.std.proofs.lemmas.List.{length-append}
use Rattle.emp_lex.specs.declared.token.TokenKind.{TokenKind}
use Rattle.emp_lex.specs.declared.token.TokenKind.TheVariants.{Name, Numeral, Text, Relation, Symbol}
use Rattle.emp_lex.specs.declared.piece.Step.{Step}
use Rattle.emp_lex.specs.declared.piece.Step.TheVariants.{Skip, Take, Stop}
use Rattle.emp_lex.specs.declared.piece.Defect.TheVariants.{BadByte, LongName, OpenBlock, Dollar}
use Rattle.emp_lex.specs.declared.dollar.Directive.{Directive}
use Rattle.emp_lex.specs.declared.dollar.Directive.TheVariants.{Nothing, Begins, Ends, Unknown}
use Rattle.emp_lex.specs.declared.scan.Class.TheVariants.{Word, Quoted, Line}
use Rattle.emp_lex.specs.Bytes.{is_letter, is_digit, is_blank, is_of, is_relation_letter, is_single, run_size}
use Rattle.emp_lex.specs.DollarLines.{directive, block_size}
use Rattle.emp_lex.specs.Pieces.{has_at, begins_with, numeral_size, quoted_size, is_relation, symbol_size, word_piece, quote_piece, plain_piece, piece, block_step, directive_step, dollar_step, step}
use Rattle.emp_lex.specs.Forms.{HasForm, IsName, IsText, IsRelation, IsSymbol}
use Rattle.emp_lex.specs.Passed.{IsFirstLine, IsPassed, a_blank, a_comment, a_listed_line, a_block}
use Rattle.emp_lex.specs.Laws.{OnlyNothingIsPassed, TokensAreLongest}
use Rattle.emp_lex.proofs.NumeralForms.{Run, Stops, run_is, run_seam, seam_here}
use Rattle.emp_lex.proofs.TokenForms.{either, no_token}
use Rattle.emp_lex.proofs.LongestNumeral.{run_least, numeral_longest}

-- ---- the most bytes that a token of the kind has at the head of a text
abbrev bound : TokenKind → List ℕ → ℕ
bound Name text = cond (is_letter (get_or text 0 0)) (run_size Word text) 0
bound Numeral text = numeral_size text
bound Text text = cond (has_at text 0 39 || has_at text 0 34) (quoted_size (get_or text 0 0) text) 0
bound Relation text = cond (is_relation text) 3 0
bound Symbol text = cond (has_at text 0 46 && has_at text 1 46) 2 (symbol_size text)

name_bound : (p bs : List ℕ) → IsName p → length p ≤ bound Name (p ++ bs)
name_bound [] bs h = omega arith
name_bound (x ∷ d) bs h =
    let l : length (x ∷ d) ≤ run_size Word ((x ∷ d) ++ bs) = run_least Word (x ∷ d) bs h.bytes in
    subst (λ n. length (x ∷ d) ≤ n) (sym (ap (λ t. cond t (run_size Word ((x ∷ d) ++ bs)) 0) h.letter)) l

quote_some : (quote : ℕ) → (quote ≡ 39) ⊎ (quote ≡ 34) → (nat_eq quote 39 || nat_eq quote 34) ≡ true
quote_some quote (inl e) = rw e refl
quote_some quote (inr e) = rw e refl

quote_stops : (quote : ℕ) (bs : List ℕ) → Stops (Quoted quote) (quote ∷ bs)
quote_stops quote bs = grind (arith, nat_tests)

quoted_is : (quote : ℕ) (inner bs : List ℕ) → All (λ b. IsTrue (is_of (Quoted quote) b)) inner → quoted_size quote (quote ∷ (inner ++ quote ∷ bs)) ≡ 1 + length inner + 1
quoted_is quote inner bs h =
    let run : run_size (Quoted quote) (inner ++ quote ∷ bs) ≡ length inner = run_seam (Quoted quote) inner (quote ∷ bs) h (quote_stops quote bs) in
    let at : 1 + length inner ≡ length (quote ∷ inner) = omega arith in
    let there : has_at (quote ∷ (inner ++ quote ∷ bs)) (1 + length inner) quote ≡ true = ap (λ k. has_at (quote ∷ (inner ++ quote ∷ bs)) k quote) at ∙ ap (λ b. nat_eq b quote) (seam_here (quote ∷ inner) (quote ∷ bs)) ∙ same quote in
    ap (λ n. cond (has_at (quote ∷ (inner ++ quote ∷ bs)) (1 + n) quote) (1 + n + 1) 0) run ∙ ap (λ t. cond t (1 + length inner + 1) 0) there
  where
    same : (q : ℕ) → nat_eq q q ≡ true
    same q = grind (arith, nat_tests)

text_bound : (p bs : List ℕ) → IsText p → length p ≤ bound Text (p ++ bs)
text_bound p bs h =
    let text : p ++ bs ≡ h.quote ∷ (h.inner ++ h.quote ∷ bs) = ap (λ x. x ++ bs) h.is ∙ ap (λ x. h.quote ∷ x) (append_assoc h.inner (h.quote ∷ []) bs) in
    let size : length p ≡ 1 + length h.inner + 1 = omega (arith, ap length h.is, length-append h.inner (h.quote ∷ [])) in
    let is : bound Text (p ++ bs) ≡ 1 + length h.inner + 1 = ap (bound Text) text ∙ ap (λ t. cond t (quoted_size h.quote (h.quote ∷ (h.inner ++ h.quote ∷ bs))) 0) (quote_some h.quote h.mark) ∙ quoted_is h.quote h.inner bs h.bytes in
    omega (arith, size, is)

relation_bound : (p bs : List ℕ) → IsRelation p → length p ≤ bound Relation (p ++ bs)
relation_bound p bs h = subst (λ q. length q ≤ bound Relation (q ++ bs)) (sym h.is) (go (is_relation_letter h.letter) h.known)
  where
    go : (t : Bool) → t ≡ true → 3 ≤ cond (true && t && true) 3 0
    go true e = omega arith
    go false e = absurd (false≢true e)

single_bound : (t u v : Bool) → v ≡ true → 1 ≤ cond t 2 (cond u 2 (cond v 1 0))
single_bound true u v e = omega arith
single_bound false true v e = omega arith
single_bound false false true e = omega arith
single_bound false false false e = absurd (false≢true e)

symbol_bound : (p bs : List ℕ) → IsSymbol p → length p ≤ bound Symbol (p ++ bs)
symbol_bound p bs (inl e) = subst (λ q. length q ≤ bound Symbol (q ++ bs)) (sym e) (omega arith)
symbol_bound p bs (inr (inl e)) = subst (λ q. length q ≤ bound Symbol (q ++ bs)) (sym e) (omega arith)
symbol_bound p bs (inr (inr (b, e, h))) = subst (λ q. length q ≤ bound Symbol (q ++ bs)) (sym e) (single_bound (has_at (b ∷ bs) 0 46 && has_at (b ∷ bs) 1 46) (has_at (b ∷ bs) 0 42 && has_at (b ∷ bs) 1 42) (is_single b) h)

form_bound : (k : TokenKind) (p bs : List ℕ) → HasForm k p → length p ≤ bound k (p ++ bs)
form_bound Name p bs h = name_bound p bs h
form_bound Numeral p bs h = numeral_longest p bs h
form_bound Text p bs h = text_bound p bs h
form_bound Relation p bs h = relation_bound p bs h
form_bound Symbol p bs h = symbol_bound p bs h

-- ---- kinds that a first byte begins no token of
no_name : (text : List ℕ) → is_letter (get_or text 0 0) ≡ false → bound Name text ≡ 0
no_name text h = ap (λ t. cond t (run_size Word text) 0) h

no_numeral : (text : List ℕ) → is_digit (get_or text 0 0) ≡ false → nat_eq (get_or text 0 0) 46 ≡ false → bound Numeral text ≡ 0
no_numeral [] h k = refl
no_numeral (b ∷ bs) h k = rw (h, k) refl

no_text : (text : List ℕ) → (has_at text 0 39 || has_at text 0 34) ≡ false → bound Text text ≡ 0
no_text text h = ap (λ t. cond t (quoted_size (get_or text 0 0) text) 0) h

no_relation : (text : List ℕ) → nat_eq (get_or text 0 0) 61 ≡ false → bound Relation text ≡ 0
no_relation text h = ap (λ t. cond (t && is_relation_letter (get_or text 1 0) && has_at text 2 61) 3 0) h

no_symbol : (text : List ℕ) → nat_eq (get_or text 0 0) 46 ≡ false → nat_eq (get_or text 0 0) 42 ≡ false → is_single (get_or text 0 0) ≡ false → bound Symbol text ≡ 0
no_symbol text h k s =
    ap (λ t. cond (t && has_at text 1 46) 2 (symbol_size text)) h ∙ ap (λ t. cond (t && has_at text 1 42) 2 (cond (is_single (get_or text 0 0)) 1 0)) k ∙ ap (λ t. cond t 1 0) s

zero : (n m : ℕ) → m ≡ 0 → m ≤ n
zero n m e = omega arith

-- ---- each piece is at least as long
abbrev Bounds : List ℕ → Step → Type 0
Bounds text (Skip n) = Unit {0}
Bounds text (Take kind n) = (k : TokenKind) → bound k text ≤ n
Bounds text (Stop BadByte) = (k : TokenKind) → bound k text ≤ 0
Bounds text (Stop LongName) = Unit {0}
Bounds text (Stop OpenBlock) = Unit {0}
Bounds text (Stop Dollar) = Unit {0}

equal : (m n : ℕ) → m ≡ n → m ≤ n
equal m n e = omega arith

-- ---- what a letter is not
letter_no_digit : (b : ℕ) → is_letter b ≡ true → is_digit b ≡ false
letter_no_digit b h = grind (arith, nat_tests)

letter_no_point : (b : ℕ) → is_letter b ≡ true → nat_eq b 46 ≡ false
letter_no_point b h = grind (arith, nat_tests)

letter_no_quote : (b : ℕ) → is_letter b ≡ true → (nat_eq b 39 || nat_eq b 34) ≡ false
letter_no_quote b h = grind (arith, nat_tests)

letter_no_equals : (b : ℕ) → is_letter b ≡ true → nat_eq b 61 ≡ false
letter_no_equals b h = grind (arith, nat_tests)

letter_no_star : (b : ℕ) → is_letter b ≡ true → nat_eq b 42 ≡ false
letter_no_star b h = grind (arith, nat_tests)

letter_no_single : (b : ℕ) → is_letter b ≡ true → is_single b ≡ false
letter_no_single b h = grind (arith, nat_tests)

not_above : (n : ℕ) → nat_lt 0 n ≡ false → n ≡ 0
not_above n h = grind (arith, nat_tests)

above : (n : ℕ) → nat_lt 0 n ≡ true → 0 < n
above n h = grind (arith, nat_tests)

dots_no_numeral : (text : List ℕ) → get_or text 0 0 ≡ 46 → get_or text 1 0 ≡ 46 → numeral_size text ≡ 0
dots_no_numeral [] h k = refl
dots_no_numeral (a ∷ []) h k = absurd (omega arith)
dots_no_numeral (a ∷ b ∷ bs) h k = rw (h, k) refl

symbol_by : (t u : Bool) → cond t 2 (cond u 1 0) ≤ 2
symbol_by true u = omega arith
symbol_by false true = omega arith
symbol_by false false = omega arith

one_symbol : (t u : Bool) → t ≡ false → cond t 2 (cond u 1 0) ≤ 1
one_symbol true u e = absurd (false≢true (sym e))
one_symbol false true e = omega arith
one_symbol false false e = omega arith

module _ (text : List ℕ) where
  abbrev head : ℕ
  head = get_or text 0 0

  word_bounds : is_letter head ≡ true → Bounds text (word_piece text)
  word_bounds h = cond_both (nat_lt 63 (run_size Word text)) (Stop LongName) (Take Name (run_size Word text)) (Bounds text) (λ _. tt) (λ _. all)
    where
      all : (k : TokenKind) → bound k text ≤ run_size Word text
      all Name = equal _ _ (ap (λ t. cond t (run_size Word text) 0) h)
      all Numeral = zero _ _ (no_numeral text (letter_no_digit head h) (letter_no_point head h))
      all Text = zero _ _ (no_text text (letter_no_quote head h))
      all Relation = zero _ _ (no_relation text (letter_no_equals head h))
      all Symbol = zero _ _ (no_symbol text (letter_no_point head h) (letter_no_star head h) (letter_no_single head h))

  quote_all : (n q : ℕ) → head ≡ q → (q ≡ 39) ⊎ (q ≡ 34) → quoted_size head text ≡ n → (k : TokenKind) → bound k text ≤ n
  quote_all n q e (inl m) s Name = zero _ _ (no_name text (ap is_letter (e ∙ m)))
  quote_all n q e (inl m) s Numeral = zero _ _ (no_numeral text (ap is_digit (e ∙ m)) (ap (λ b. nat_eq b 46) (e ∙ m)))
  quote_all n q e (inl m) s Text = equal _ _ (ap (λ b. cond (nat_eq b 39 || nat_eq b 34) (quoted_size head text) 0) (e ∙ m) ∙ s)
  quote_all n q e (inl m) s Relation = zero _ _ (no_relation text (ap (λ b. nat_eq b 61) (e ∙ m)))
  quote_all n q e (inl m) s Symbol = zero _ _ (no_symbol text (ap (λ b. nat_eq b 46) (e ∙ m)) (ap (λ b. nat_eq b 42) (e ∙ m)) (ap is_single (e ∙ m)))
  quote_all n q e (inr m) s Name = zero _ _ (no_name text (ap is_letter (e ∙ m)))
  quote_all n q e (inr m) s Numeral = zero _ _ (no_numeral text (ap is_digit (e ∙ m)) (ap (λ b. nat_eq b 46) (e ∙ m)))
  quote_all n q e (inr m) s Text = equal _ _ (ap (λ b. cond (nat_eq b 39 || nat_eq b 34) (quoted_size head text) 0) (e ∙ m) ∙ s)
  quote_all n q e (inr m) s Relation = zero _ _ (no_relation text (ap (λ b. nat_eq b 61) (e ∙ m)))
  quote_all n q e (inr m) s Symbol = zero _ _ (no_symbol text (ap (λ b. nat_eq b 46) (e ∙ m)) (ap (λ b. nat_eq b 42) (e ∙ m)) (ap is_single (e ∙ m)))

  quote_of : (has_at text 0 39 || has_at text 0 34) ≡ true → (head ≡ 39) ⊎ (head ≡ 34)
  quote_of h = go (or_cases (nat_eq head 39) (nat_eq head 34) h)
    where
      go : (nat_eq head 39 ≡ true) ⊎ (nat_eq head 34 ≡ true) → (head ≡ 39) ⊎ (head ≡ 34)
      go (inl t) = inl (eqb-true head 39 t)
      go (inr t) = inr (eqb-true head 34 t)

  quote_bounds : (has_at text 0 39 || has_at text 0 34) ≡ true → Bounds text (quote_piece head text)
  quote_bounds h =
      cond_both (nat_eq (quoted_size head text) 0) (Stop BadByte) (Take Text (quoted_size head text)) (Bounds text)
      (λ z. quote_all 0 head refl (quote_of h) (eqb-true (quoted_size head text) 0 z))
      (λ _. quote_all (quoted_size head text) head refl (quote_of h) refl)

  dots_bounds : (has_at text 0 46 && has_at text 1 46) ≡ true → (k : TokenKind) → bound k text ≤ 2
  dots_bounds h k = go k
    where
      first : head ≡ 46
      first = eqb-true head 46 (and_parts (has_at text 0 46) (has_at text 1 46) h).0

      second : get_or text 1 0 ≡ 46
      second = eqb-true (get_or text 1 0) 46 (and_parts (has_at text 0 46) (has_at text 1 46) h).1

      go : (k : TokenKind) → bound k text ≤ 2
      go Name = zero _ _ (no_name text (ap is_letter first))
      go Numeral = zero _ _ (dots_no_numeral text first second)
      go Text = zero _ _ (no_text text (ap (λ b. nat_eq b 39 || nat_eq b 34) first))
      go Relation = zero _ _ (no_relation text (ap (λ b. nat_eq b 61) first))
      go Symbol = equal _ _ (ap (λ t. cond t 2 (symbol_size text)) h)

  module _ (letter : is_letter head ≡ false) (quotes : (has_at text 0 39 || has_at text 0 34) ≡ false) (dots : (has_at text 0 46 && has_at text 1 46) ≡ false) where
    symbol_is : bound Symbol text ≡ symbol_size text
    symbol_is = ap (λ t. cond t 2 (symbol_size text)) dots

    equals_no_numeral : head ≡ 61 → numeral_size text ≡ 0
    equals_no_numeral e = no_numeral text (ap is_digit e) (ap (λ b. nat_eq b 46) e)

    star_no_numeral : head ≡ 42 → numeral_size text ≡ 0
    star_no_numeral e = no_numeral text (ap is_digit e) (ap (λ b. nat_eq b 46) e)

    numeral_all : 0 < numeral_size text → (k : TokenKind) → bound k text ≤ numeral_size text
    numeral_all l Name = zero _ _ (no_name text letter)
    numeral_all l Numeral = omega arith
    numeral_all l Text = zero _ _ (no_text text quotes)
    numeral_all l Relation = go (nat_eq head 61) refl
      where
        go : (t : Bool) → nat_eq head 61 ≡ t → bound Relation text ≤ numeral_size text
        go true e = absurd (omega (arith, l, equals_no_numeral (eqb-true head 61 e)))
        go false e = zero _ _ (no_relation text e)
    numeral_all l Symbol = go (nat_eq head 42) refl
      where
        go : (t : Bool) → nat_eq head 42 ≡ t → bound Symbol text ≤ numeral_size text
        go true e = absurd (omega (arith, l, star_no_numeral (eqb-true head 42 e)))
        go false e = let s = one_symbol (has_at text 0 42 && has_at text 1 42) (is_single head) (ap (λ t. t && has_at text 1 42) e) in omega (arith, l, s, symbol_is)

    relation_all : numeral_size text ≡ 0 → (k : TokenKind) → bound k text ≤ 3
    relation_all z Name = zero _ _ (no_name text letter)
    relation_all z Numeral = zero _ _ z
    relation_all z Text = zero _ _ (no_text text quotes)
    relation_all z Relation = cond_both (is_relation text) 3 0 (λ n. n ≤ 3) (λ _. omega arith) (λ _. omega arith)
    relation_all z Symbol = let s = symbol_by (has_at text 0 42 && has_at text 1 42) (is_single head) in omega (arith, s, symbol_is)

    symbol_all : (n : ℕ) → numeral_size text ≡ 0 → is_relation text ≡ false → symbol_size text ≡ n → (k : TokenKind) → bound k text ≤ n
    symbol_all n z r s Name = zero _ _ (no_name text letter)
    symbol_all n z r s Numeral = zero _ _ z
    symbol_all n z r s Text = zero _ _ (no_text text quotes)
    symbol_all n z r s Relation = zero _ _ (ap (λ t. cond t 3 0) r)
    symbol_all n z r s Symbol = equal _ _ (symbol_is ∙ s)

    plain_bounds : Bounds text (plain_piece text)
    plain_bounds =
        cond_both (nat_lt 0 (numeral_size text)) (Take Numeral (numeral_size text)) _ (Bounds text)
        (λ t. numeral_all (above (numeral_size text) t))
        (λ z.
        cond_both (is_relation text) (Take Relation 3) _ (Bounds text)
        (λ _. relation_all (not_above (numeral_size text) z))
        (λ r.
        cond_both (nat_lt 0 (symbol_size text)) (Take Symbol (symbol_size text)) (Stop BadByte) (Bounds text)
        (λ _. symbol_all (symbol_size text) (not_above (numeral_size text) z) r refl)
        (λ s. symbol_all 0 (not_above (numeral_size text) z) r (not_above (symbol_size text) s))))

  piece_bounds : Bounds text (piece text)
  piece_bounds =
      cond_both (is_blank head) (Skip 1) _ (Bounds text)
      (λ _. tt)
      (λ _.
      cond_both (is_letter head) (word_piece text) _ (Bounds text)
      (λ l. word_bounds l)
      (λ l.
      cond_both (has_at text 0 39 || has_at text 0 34) (quote_piece head text) _ (Bounds text)
      (λ q. quote_bounds q)
      (λ q.
      cond_both (has_at text 0 46 && has_at text 1 46) (Take Symbol 2) (plain_piece text) (Bounds text)
      (λ d. dots_bounds d)
      (λ d. plain_bounds l q d))))

-- ---- each step
never_bad : (text : List ℕ) (d : Directive) → directive_step text d ≡ Stop BadByte → ⊥
never_bad text Nothing e = cc
never_bad text Begins e = go (block_size true text) e
  where
    go : (o : Option ℕ) → block_step o ≡ Stop BadByte → ⊥
    go None f = cc
    go (Some size) f = cc
never_bad text Ends e = cc
never_bad text Unknown e = cc

step_bounds : (begins : Bool) (text : List ℕ) (s : Step) → step begins text ≡ s → Bounds text s
step_bounds begins text (Skip n) e = tt
step_bounds begins text (Stop LongName) e = tt
step_bounds begins text (Stop OpenBlock) e = tt
step_bounds begins text (Stop Dollar) e = tt
step_bounds begins text (Take kind n) e =
    either (Bounds text (Take kind n)) (begins && begins_with 42 text) (Skip (run_size Line text)) _ (Take kind n) e
    (λ _ f. absurd (cc))
    (λ _ f.
    either (Bounds text (Take kind n)) (begins && begins_with 36 text) (dollar_step text) (piece text) (Take kind n) f
    (λ _ g. absurd (no_token text (directive text) kind n g))
    (λ _ g. subst (Bounds text) g (piece_bounds text)))
step_bounds begins text (Stop BadByte) e =
    either (Bounds text (Stop BadByte)) (begins && begins_with 42 text) (Skip (run_size Line text)) _ (Stop BadByte) e
    (λ _ f. absurd (cc))
    (λ _ f.
    either (Bounds text (Stop BadByte)) (begins && begins_with 36 text) (dollar_step text) (piece text) (Stop BadByte) f
    (λ _ g. absurd (never_bad text (directive text) g))
    (λ _ g. subst (Bounds text) g (piece_bounds text)))

pub form_some : (k : TokenKind) (p : List ℕ) → HasForm k p → 0 < length p
form_some k (b ∷ bs) h = omega arith
form_some Name [] h = absurd (false≢true h.letter)
form_some Numeral [] h = absurd (false≢true h)
form_some Text [] h = absurd (omega (arith, ap length h.is))
form_some Relation [] h = absurd (omega (arith, ap length h.is))
form_some Symbol [] (inl e) = absurd (omega (arith, ap length e))
form_some Symbol [] (inr (inl e)) = absurd (omega (arith, ap length e))
form_some Symbol [] (inr (inr (b, e, h))) = absurd (omega (arith, ap length e))

pub tokens_are_longest : TokensAreLongest
tokens_are_longest = record {
  longest = λ begins text kind n e k p bs i h. let a = subst (λ t. length p ≤ bound k t) (sym i) (form_bound k p bs h) in let b = step_bounds begins text (Take kind n) e k in omega (arith, a, b);
  none = λ begins text e k p bs i h. let a = subst (λ t. length p ≤ bound k t) (sym i) (form_bound k p bs h) in let b = step_bounds begins text (Stop BadByte) e k in omega (arith, a, b, form_some k p h);
}

-- ---- what is passed over
first_line : (text : List ℕ) (n : ℕ) → run_size Line text ≡ n → IsFirstLine n text
first_line text n e = go (run_is Line text)
  where
    behind : (r : List ℕ) → Stops Line r → (r ≡ []) ⊎ (get_or r 0 0 ≡ 10)
    behind [] s = inl refl
    behind (b ∷ bs) s = inr (grind (arith, nat_tests))

    go : Run Line text (run_size Line text) → IsFirstLine n text
    go q = record { line = q.run; rest = q.rest; is = q.is; size = sym e ∙ q.size; bytes = q.all; ends = behind q.rest q.stops }

same_skip : (m n : ℕ) → Skip m ≡ Skip n → m ≡ n
same_skip m n e = cc

module _ (text : List ℕ) (n : ℕ) where
  no_skip_word : word_piece text ≡ Skip n → ⊥
  no_skip_word e = either ⊥ (nat_lt 63 (run_size Word text)) (Stop LongName) (Take Name (run_size Word text)) (Skip n) e (λ _ f. cc) (λ _ f. cc)

  no_skip_quote : quote_piece (get_or text 0 0) text ≡ Skip n → ⊥
  no_skip_quote e = either ⊥ (nat_eq (quoted_size (get_or text 0 0) text) 0) (Stop BadByte) (Take Text (quoted_size (get_or text 0 0) text)) (Skip n) e (λ _ f. cc) (λ _ f. cc)

  no_skip_plain : plain_piece text ≡ Skip n → ⊥
  no_skip_plain e =
      either ⊥ (nat_lt 0 (numeral_size text)) (Take Numeral (numeral_size text)) _ (Skip n) e
      (λ _ f. cc)
      (λ _ f.
      either ⊥ (is_relation text) (Take Relation 3) _ (Skip n) f
      (λ _ g. cc)
      (λ _ g. either ⊥ (nat_lt 0 (symbol_size text)) (Take Symbol (symbol_size text)) (Stop BadByte) (Skip n) g (λ _ h. cc) (λ _ h. cc)))

  piece_passed : (begins : Bool) → piece text ≡ Skip n → IsPassed begins text n
  piece_passed begins e =
      either (IsPassed begins text n) (is_blank (get_or text 0 0)) (Skip 1) _ (Skip n) e
      (λ t f. subst (IsPassed begins text) (same_skip 1 n f) (a_blank t))
      (λ _ f.
      either (IsPassed begins text n) (is_letter (get_or text 0 0)) (word_piece text) _ (Skip n) f
      (λ _ g. absurd (no_skip_word g))
      (λ _ g.
      either (IsPassed begins text n) (has_at text 0 39 || has_at text 0 34) (quote_piece (get_or text 0 0) text) _ (Skip n) g
      (λ _ h. absurd (no_skip_quote h))
      (λ _ h.
      either (IsPassed begins text n) (has_at text 0 46 && has_at text 1 46) (Take Symbol 2) (plain_piece text) (Skip n) h
      (λ _ i. absurd (cc))
      (λ _ i. absurd (no_skip_plain i)))))

  dollar_passed : (d : Directive) → directive text ≡ d → directive_step text d ≡ Skip n → get_or text 0 0 ≡ 36 → IsPassed true text n
  dollar_passed Nothing q e h = a_listed_line n refl h q (first_line text n (same_skip (run_size Line text) n e))
  dollar_passed Begins q e h = go (block_size true text) refl e
    where
      go : (o : Option ℕ) → block_size true text ≡ o → block_step o ≡ Skip n → IsPassed true text n
      go None r f = absurd (cc)
      go (Some size) r f = a_block n refl h q (r ∙ ap (λ m. Some m) (same_skip size n f))
  dollar_passed Ends q e h = absurd (cc)
  dollar_passed Unknown q e h = absurd (cc)

  pub step_passed : (begins : Bool) → step begins text ≡ Skip n → IsPassed begins text n
  step_passed false e = piece_passed false e
  step_passed true e =
      either (IsPassed true text n) (begins_with 42 text) (Skip (run_size Line text)) _ (Skip n) e
      (λ t f. a_comment n refl (eqb-true (get_or text 0 0) 42 t) (first_line text n (same_skip (run_size Line text) n f)))
      (λ _ f.
      either (IsPassed true text n) (begins_with 36 text) (dollar_step text) (piece text) (Skip n) f
      (λ t g. dollar_passed (directive text) refl g (eqb-true (get_or text 0 0) 36 t))
      (λ _ g. piece_passed true g))

pub only_nothing_is_passed : OnlyNothingIsPassed
only_nothing_is_passed = record { passed = λ begins text n e. step_passed text n begins e }
