-- Printed pieces are cut again as they are.
use Rattle.std.proofs.Common.{◌≡◌, ◌⊎◌, inl, inr, ℕ, ◌+◌, ◌<◌, ◌≤◌, Bool, true, false, IsTrue, List, [], ◌∷◌, ◌++◌, length, All, None, take, drop, refl, sym, ap, subst, ◌∙◌, arith, append_assoc, append-nil, nat_eq}
use Rattle.std.specs.Prelude.{slice_range}
use Rattle.std.proofs.lemmas.Bool.{ne_eqb}
use Rattle.std.proofs.lemmas.Bool.Decides.{nat_tests}
use Rattle.std.proofs.lemmas.List.Elements.{All-head, All-tail}
use Rattle.std.proofs.lemmas.List.{length-append, drop-drop}
use Rattle.std.proofs.Math.Seq.{take-append_seam, drop-append_seam}
use Rattle.emp_numeral.specs.Numeral.{digit, is_mark, whole_of, numeral_form}
use Rattle.emp_numeral.specs.NumeralText.{PointText, no_point, point, SignText, no_sign, plus, minus, ExponentText, no_exponent, exponent}
use Rattle.emp_numeral.specs.NumeralText.{AllDigits as EachDigit}
use Rattle.emp_numeral.proofs.NumeralTexts.{is_text}
use Rattle.emp_ast.specs.declared.tree.Place.{Place}
use Rattle.emp_lex.specs.declared.token.Token.{Token}
use Rattle.emp_lex.specs.declared.token.TokenKind.{TokenKind}
use Rattle.emp_lex.specs.declared.token.TokenKind.TheVariants.{Name, Numeral, Text, Relation, Symbol}
use Rattle.emp_lex.specs.declared.piece.Step.TheVariants.{Skip, Take}
use Rattle.emp_lex.specs.declared.scan.Class.TheVariants.{Word, Quoted}
use Rattle.emp_lex.specs.Bytes.{is_of, is_single, is_relation_letter}
use Rattle.emp_lex.specs.Pieces.{step}
use Rattle.emp_lex.specs.Tokens.{Reads, at_end, skipped, taken, IsTooWide, past, past_byte, start, is_line_start, token_at}
use Rattle.emp_lex.specs.Forms.{IsText, IsRelation, IsSymbol, HasForm}
use Rattle.emp_lex.proofs.Lexing.{slice_is}
use Rattle.emp_lex.proofs.Wides.{value_not_wide}
use Rattle.gms_grammar.specs.declared.lexeme.Sort.{Sort}
use Rattle.gms_grammar.specs.declared.lexeme.Lexeme.{Lexeme}
use Rattle.gms_grammar.specs.Lexemes.{IsSort, AreLexemes}
use Rattle.gms_read.specs.Texts.{HasLexemes}
use Rattle.gms_print.proofs.Pieces.{Piece, rendered, AreOf, IsGap, ends_line, EndsBefore, IsPiece, Good, good_end, good_piece}
use Rattle.gms_print.proofs.Taking.{step_taken, space_skipped, end_skipped}

-- ---- places
-- no byte ends the line
abbrev OnLine : List ℕ → Type 0
OnLine [] = Unit {0}
OnLine (b ∷ bs) = (nat_eq b 10 ≡ false) × OnLine bs

on_line : (bs cs : List ℕ) → OnLine bs → OnLine cs → OnLine (bs ++ cs)
on_line [] cs h k = k
on_line (b ∷ bs) cs h k = (h.0, on_line bs cs h.1 k)

word_on_line : (b : ℕ) → is_of Word b ≡ true → nat_eq b 10 ≡ false
word_on_line b h = grind (arith, nat_tests)

words_on_line : (bs : List ℕ) → All (λ b. IsTrue (is_of Word b)) bs → OnLine bs
words_on_line [] h = tt
words_on_line (b ∷ bs) h = (word_on_line b (All-head (λ b. IsTrue (is_of Word b)) b bs h), words_on_line bs (All-tail (λ b. IsTrue (is_of Word b)) b bs h))

quoted_on_line : (q b : ℕ) → is_of (Quoted q) b ≡ true → nat_eq b 10 ≡ false
quoted_on_line q b h = grind (arith, nat_tests)

all_quoted_on_line : (q : ℕ) (bs : List ℕ) → All (λ b. IsTrue (is_of (Quoted q) b)) bs → OnLine bs
all_quoted_on_line q [] h = tt
all_quoted_on_line q (b ∷ bs) h = (quoted_on_line q b (All-head (λ b. IsTrue (is_of (Quoted q) b)) b bs h), all_quoted_on_line q bs (All-tail (λ b. IsTrue (is_of (Quoted q) b)) b bs h))

digit_on_line : (b : ℕ) → digit b ≡ true → nat_eq b 10 ≡ false
digit_on_line b h = grind (arith, nat_tests)

digits_on_line : (bs : List ℕ) → EachDigit bs → OnLine bs
digits_on_line [] h = tt
digits_on_line (b ∷ bs) h = (digit_on_line b h.0, digits_on_line bs h.1)

mark_on_line : (b : ℕ) → is_mark b ≡ true → nat_eq b 10 ≡ false
mark_on_line b h = grind (arith, nat_tests)

point_on_line : {mid f : List ℕ} → PointText mid f → OnLine mid
point_on_line no_point = tt
point_on_line (point f g) = (refl, digits_on_line f g)

sign_on_line : {s : List ℕ} {negative : Bool} → SignText s negative → OnLine s
sign_on_line no_sign = tt
sign_on_line plus = (refl, tt)
sign_on_line minus = (refl, tt)

exponent_on_line : {tail e : List ℕ} {negative : Bool} → ExponentText tail negative e → OnLine tail
exponent_on_line no_exponent = tt
exponent_on_line (exponent b s negative d ds m sg g) = (mark_on_line b m, on_line s (d ∷ ds) (sign_on_line sg) (digits_on_line (d ∷ ds) g))

numeral_on_line : (bs : List ℕ) → numeral_form bs ≡ true → OnLine bs
numeral_on_line bs h =
    let q = is_text bs h in
    subst (λ t. OnLine t) (sym q.parts) (on_line (whole_of bs) (q.middle ++ q.tail) (digits_on_line (whole_of bs) q.whole_digits) (on_line q.middle q.tail (point_on_line q.point_text) (exponent_on_line q.exponent_text)))

text_on_line : (bs : List ℕ) → IsText bs → OnLine bs
text_on_line bs h = subst (λ t. OnLine t) (sym h.is) (mark h.quote h.mark, on_line h.inner (h.quote ∷ []) (all_quoted_on_line h.quote h.inner h.bytes) (mark h.quote h.mark, tt))
  where
    mark : (q : ℕ) → (q ≡ 39) ⊎ (q ≡ 34) → nat_eq q 10 ≡ false
    mark q (inl e) = ap (λ q. nat_eq q 10) e
    mark q (inr e) = ap (λ q. nat_eq q 10) e

letter_on_line : (b : ℕ) → is_relation_letter b ≡ true → nat_eq b 10 ≡ false
letter_on_line b h = grind (arith, nat_tests)

relation_on_line : (bs : List ℕ) → IsRelation bs → OnLine bs
relation_on_line bs h = subst (λ t. OnLine t) (sym h.is) (refl, (letter_on_line h.letter h.known, (refl, tt)))

single_on_line : (b : ℕ) → is_single b ≡ true → nat_eq b 10 ≡ false
single_on_line b h = grind (arith, nat_tests)

symbol_on_line : (bs : List ℕ) → IsSymbol bs → OnLine bs
symbol_on_line bs (inl e) = subst (λ t. OnLine t) (sym e) (refl, (refl, tt))
symbol_on_line bs (inr (inl e)) = subst (λ t. OnLine t) (sym e) (refl, (refl, tt))
symbol_on_line bs (inr (inr s)) = subst (λ t. OnLine t) (sym s.1) (single_on_line s.0 s.2, tt)

form_on_line : (kind : TokenKind) (bs : List ℕ) → HasForm kind bs → OnLine bs
form_on_line Name bs h = words_on_line bs h.bytes
form_on_line Numeral bs h = numeral_on_line bs h
form_on_line Text bs h = text_on_line bs h
form_on_line Relation bs h = relation_on_line bs h
form_on_line Symbol bs h = symbol_on_line bs h

past_stays : (p : Place) (bs : List ℕ) → OnLine bs → p.column ≤ (past p bs).column
past_stays p [] h = omega arith
past_stays p (b ∷ bs) h =
    let e : past_byte p b ≡ record { line = p.line; column = p.column + 1 } = rw h.0 refl in
    let k = past_stays (past_byte p b) bs h.1 in
    let c : (past_byte p b).column ≡ p.column + 1 = ap (λ q. q.column) e in
    omega (arith, k, c)

past_moves : (p : Place) (bs : List ℕ) → OnLine bs → 0 < length bs → p.column < (past p bs).column
past_moves p [] h l = absurd (omega arith)
past_moves p (b ∷ bs) h l =
    let e : past_byte p b ≡ record { line = p.line; column = p.column + 1 } = rw h.0 refl in
    let k = past_stays (past_byte p b) bs h.1 in
    let c : (past_byte p b).column ≡ p.column + 1 = ap (λ q. q.column) e in
    omega (arith, k, c)

inside_line : (p : Place) → 1 < p.column → is_line_start p ≡ false
inside_line p h = ne_eqb p.column 1 (λ e. omega arith)

-- ---- forms are not empty
empty_numeral : numeral_form [] ≡ true → ⊥
empty_numeral h = let f : false ≡ true = h in cc

form_some : (kind : TokenKind) (bs : List ℕ) → HasForm kind bs → 0 < length bs
form_some kind (b ∷ bs) h = omega arith
form_some Name [] h = let f : false ≡ true = h.letter in cc
form_some Numeral [] h = absurd (empty_numeral h)
form_some Text [] h = let e : ◌≡◌ {A = List ℕ} [] (h.quote ∷ (h.inner ++ h.quote ∷ [])) = h.is in cc
form_some Relation [] h = let e : ◌≡◌ {A = List ℕ} [] (61 ∷ h.letter ∷ 61 ∷ []) = h.is in cc
form_some Symbol [] (inl e) = let f : ◌≡◌ {A = List ℕ} [] (42 ∷ 42 ∷ []) = e in cc
form_some Symbol [] (inr (inl e)) = let f : ◌≡◌ {A = List ℕ} [] (46 ∷ 46 ∷ []) = e in cc
form_some Symbol [] (inr (inr s)) = let f : ◌≡◌ {A = List ℕ} [] (s.0 ∷ []) = s.1 in cc

sort_not_wide : (kind : TokenKind) (bs : List ℕ) (s : Sort) → IsSort kind bs s → IsTooWide kind bs → ⊥
sort_not_wide Name bs s h w = w
sort_not_wide Numeral bs s h w = value_not_wide bs h.0 h.2 w
sort_not_wide Text bs s h w = w
sort_not_wide Relation bs s h w = w
sort_not_wide Symbol bs s h w = w

-- ---- one token
take_at : (at : ℕ) (p : Place) (text : List ℕ) (kind : TokenKind) (size : ℕ) (ts : List Token) → 0 < length text → step (is_line_start p) text ≡ Take kind size → (IsTooWide kind (take size text) → ⊥) → Reads (at + size) (past p (take size text)) (drop size text) ts None → Reads at p text (token_at kind at size p ∷ ts) None
take_at at p [] kind size ts l e n h = absurd (omega arith)
take_at at p (b ∷ bs) kind size ts l e n h = taken at p b bs kind size ts None e n h

take_piece : (at : ℕ) (p : Place) (kind : TokenKind) (bs rest : List ℕ) (ts : List Token) → 0 < length bs → step (is_line_start p) (bs ++ rest) ≡ Take kind (length bs) → (IsTooWide kind bs → ⊥) → Reads (at + length bs) (past p bs) rest ts None → Reads at p (bs ++ rest) (token_at kind at (length bs) p ∷ ts) None
take_piece at p kind bs rest ts l e n h =
    take_at at p (bs ++ rest) kind (length bs) ts (omega (arith, length-append bs rest)) e
    (λ w. n (subst (λ x. IsTooWide kind x) (take-append_seam bs rest) w))
    (subst (λ x. Reads (at + length bs) (past p x) (drop (length bs) (bs ++ rest)) ts None) (sym (take-append_seam bs rest))
    (subst (λ x. Reads (at + length bs) (past p bs) x ts None) (sym (drop-append_seam bs rest)) h))

-- ---- pieces
-- what is left of a text is cut into the pieces
record Cut (text : List ℕ) (at : ℕ) (p : Place) (left : List ℕ) (ps : List Piece) : Type 0 where
  tokens : List Token
  lexemes : List Lexeme
  reads : Reads at p left tokens None
  are : AreLexemes text tokens lexemes
  of : AreOf text ps lexemes

one_blank : (text : List ℕ) (at : ℕ) (p : Place) (b : ℕ) (left : List ℕ) (ps : List Piece) → step (is_line_start p) (b ∷ left) ≡ Skip 1 → Cut text (at + 1) (past p (b ∷ [])) left ps → Cut text at p (b ∷ left) ps
one_blank text at p b left ps e c = record { tokens = c.tokens; lexemes = c.lexemes; reads = skipped at p b left 1 c.tokens None e c.reads; are = c.are; of = c.of }

-- the pieces are cut wherever a line stands as the flag says
abbrev Cuts : List ℕ → Bool → List Piece → Type 0
Cuts text b ps = (at : ℕ) (p : Place) → is_line_start p ≡ b → 1 ≤ p.column → drop at text ≡ rendered ps → Cut text at p (rendered ps) ps

gap_cut : (text : List ℕ) (ps : List Piece) (gap : List ℕ) → IsGap gap → Cuts text (ends_line gap) ps → (at : ℕ) (p : Place) → 1 < p.column → drop at text ≡ gap ++ rendered ps → Cut text at p (gap ++ rendered ps) ps
gap_cut text ps gap (inl e) f at p l d =
    let flag : is_line_start p ≡ ends_line gap = inside_line p l ∙ sym (ap ends_line e) in
    subst (λ g. Cut text at p (g ++ rendered ps) ps) (sym e) (f at p flag (omega arith) (d ∙ ap (λ g. g ++ rendered ps) e))
gap_cut text ps gap (inr (inl e)) f at p l d =
    let flag : is_line_start (past p (32 ∷ [])) ≡ ends_line gap = inside_line (past p (32 ∷ [])) (omega arith) ∙ sym (ap ends_line e) in
    let behind : drop (at + 1) text ≡ rendered ps = sym (drop-drop 1 at text) ∙ ap (drop 1) (d ∙ ap (λ g. g ++ rendered ps) e) in
    subst (λ g. Cut text at p (g ++ rendered ps) ps) (sym e) (one_blank text at p 32 (rendered ps) ps (space_skipped (is_line_start p) (rendered ps)) (f (at + 1) (past p (32 ∷ [])) flag (omega arith) behind))
gap_cut text ps gap (inr (inr e)) f at p l d =
    let flag : is_line_start (past p (10 ∷ [])) ≡ ends_line gap = sym (ap ends_line e) in
    let behind : drop (at + 1) text ≡ rendered ps = sym (drop-drop 1 at text) ∙ ap (drop 1) (d ∙ ap (λ g. g ++ rendered ps) e) in
    subst (λ g. Cut text at p (g ++ rendered ps) ps) (sym e) (one_blank text at p 10 (rendered ps) ps (end_skipped (is_line_start p) (rendered ps)) (f (at + 1) (past p (10 ∷ [])) flag (omega arith) behind))

piece_cut : (text : List ℕ) (at : ℕ) (p : Place) (c : Piece) (ps : List Piece) → IsPiece c → 1 ≤ p.column → step (is_line_start p) (c.bytes ++ (c.gap ++ rendered ps)) ≡ Take c.kind (length c.bytes) → Cuts text (ends_line c.gap) ps → drop at text ≡ c.bytes ++ (c.gap ++ rendered ps) → Cut text at p (c.bytes ++ (c.gap ++ rendered ps)) (c ∷ ps)
piece_cut text at p c ps g l e f d =
    let some : 0 < length c.bytes = form_some c.kind c.bytes g.form in
    let moves = past_moves p c.bytes (form_on_line c.kind c.bytes g.form) some in
    let behind : drop (at + length c.bytes) text ≡ c.gap ++ rendered ps = sym (drop-drop (length c.bytes) at text) ∙ ap (drop (length c.bytes)) d ∙ drop-append_seam c.bytes (c.gap ++ rendered ps) in
    let bytes : slice_range text at (at + length c.bytes) ≡ c.bytes = slice_is text at (length c.bytes) ∙ ap (take (length c.bytes)) d ∙ take-append_seam c.bytes (c.gap ++ rendered ps) in
    let next = gap_cut text ps c.gap g.gap f (at + length c.bytes) (past p c.bytes) (omega (arith, moves, l)) behind in
    record {
      tokens = token_at c.kind at (length c.bytes) p ∷ next.tokens;
      lexemes = record { sort = c.sort; from = at; to = at + length c.bytes; place = p } ∷ next.lexemes;
      reads = take_piece at p c.kind c.bytes (c.gap ++ rendered ps) next.tokens some e (sort_not_wide c.kind c.bytes c.sort g.sort) next.reads;
      are = (record { from = refl; to = refl; place = refl; sort = subst (λ x. IsSort c.kind x c.sort) (sym bytes) g.sort }, next.are);
      of = (record { sort = refl; bytes = bytes }, next.of);
    }

cut_from : (text : List ℕ) {b : Bool} {ps : List Piece} → Good [] b ps → Cuts text b ps
cut_from text (good_end b) at p s l d = record { tokens = []; lexemes = []; reads = at_end at p; are = tt; of = tt }
cut_from text (good_piece b c ps g n e r) at p s l d =
    let joined : c.bytes ++ c.gap ++ rendered ps ≡ c.bytes ++ (c.gap ++ rendered ps) = append_assoc c.bytes c.gap (rendered ps) in
    let taken_there = step_taken (is_line_start p) c.kind c.bytes (c.gap ++ rendered ps) (λ h. n (sym s ∙ h)) g.form (subst (λ x. EndsBefore c.kind c.bytes x) (append-nil (c.gap ++ rendered ps)) e) in
    subst (λ x. Cut text at p x (c ∷ ps)) (sym joined) (piece_cut text at p c ps g l taken_there (cut_from text r) (d ∙ joined))

-- the text of good pieces has lexemes that are those pieces
pub cut : (ps : List Piece) → Good [] true ps → (ts : List Lexeme) × HasLexemes (rendered ps) ts × AreOf (rendered ps) ps ts
cut ps g =
    let c = cut_from (rendered ps) g 0 start refl (omega arith) refl in
    (c.lexemes, record { tokens = c.tokens; cut = c.reads; are = c.are }, c.of)
