-- A text of names, each with a space or the end of the line behind it, is cut into them.
use Rattle.std.proofs.Common.{◌≡◌, ◌⊎◌, inl, inr, ℕ, ◌+◌, ◌<◌, ◌≤◌, Bool, true, false, List, [], ◌∷◌, ◌++◌, length, take, drop, None, refl, sym, ap, subst, ◌∙◌, arith}
use Rattle.std.specs.Prelude.{nat_eq, nat_lt, slice_range}
use Rattle.std.proofs.lemmas.Bool.Decides.{nat_tests}
use Rattle.std.proofs.lemmas.List.{length-append, drop-drop}
use Rattle.std.proofs.Math.Seq.{take-append_seam, drop-append_seam}
use Rattle.emp_ast.specs.declared.model.Model.{Model}
use Rattle.emp_ast.specs.declared.tree.Place.{Place}
use Rattle.emp_lex.specs.declared.token.Token.{Token}
use Rattle.emp_lex.specs.declared.token.TokenKind.TheVariants.{Name}
use Rattle.emp_lex.specs.declared.piece.Step.TheVariants.{Skip, Take}
use Rattle.emp_lex.specs.declared.scan.Class.TheVariants.{Word as WordByte}
use Rattle.emp_lex.specs.Bytes.{is_of, is_letter, is_blank, run_size}
use Rattle.emp_lex.specs.Pieces.{piece, step}
use Rattle.emp_lex.specs.Tokens.{Reads, at_end, skipped, taken, past, start, is_line_start, token_at}
use Rattle.emp_lex.specs.Forms.{IsName}
use Rattle.emp_lex.proofs.Lexing.{slice_is}
use Rattle.emp_lex.proofs.NumeralForms.{run_seam}
use Rattle.info_read.specs.declared.lexeme.Sort.{Sort}
use Rattle.info_read.specs.declared.lexeme.Lexeme.{Lexeme}
use Rattle.info_read.specs.Lexemes.{IsSort, AreLexemes}
use Rattle.info_read.specs.Texts.{HasLexemes}

-- a name, what it is, and the blank behind it
pub record Word : Type 0 where
  pub bytes : List ℕ
  pub sort : Sort
  pub blank : ℕ

abbrev pub text_of : List Word → List ℕ
text_of [] = []
text_of (w ∷ ws) = w.bytes ++ (w.blank ∷ text_of ws)

abbrev pub sorts_of : List Word → List Sort
sorts_of [] = []
sorts_of (w ∷ ws) = w.sort ∷ sorts_of ws

pub record IsWord (m : Model) (w : Word) : Type 0 where
  pub form : IsName w.bytes
  pub sort : IsSort m Name w.bytes w.sort
  pub blank : (w.blank ≡ 32) ⊎ (w.blank ≡ 10)

abbrev pub AreWords : Model → List Word → Type 0
AreWords m [] = Unit {0}
AreWords m (w ∷ ws) = IsWord m w × AreWords m ws

-- the lexemes are of these sorts
abbrev pub SortsAre : List Lexeme → List Sort → Type 0
SortsAre [] [] = Unit {0}
SortsAre (t ∷ ts) (s ∷ ss) = (t.sort ≡ s) × SortsAre ts ss
SortsAre [] (s ∷ ss) = ⊥
SortsAre (t ∷ ts) [] = ⊥

-- ---- a name before a blank is taken whole
letter_no_blank : (b : ℕ) → is_letter b ≡ true → is_blank b ≡ false
letter_no_blank b h = grind (arith, nat_tests)

letter_no_star : (b : ℕ) → is_letter b ≡ true → nat_eq b 42 ≡ false
letter_no_star b h = grind (arith, nat_tests)

letter_no_dollar : (b : ℕ) → is_letter b ≡ true → nat_eq b 36 ≡ false
letter_no_dollar b h = grind (arith, nat_tests)

at_most_63 : (n : ℕ) → n ≤ 63 → nat_lt 63 n ≡ false
at_most_63 n h = grind (arith, nat_tests)

name_taken : (bs : List ℕ) (blank : ℕ) (rest : List ℕ) → IsName bs → is_of WordByte blank ≡ false → piece (bs ++ (blank ∷ rest)) ≡ Take Name (length bs)
name_taken [] blank rest h e = let f : false ≡ true = h.letter in cc
name_taken (b ∷ bs) blank rest h e =
    let n : run_size WordByte (b ∷ (bs ++ (blank ∷ rest))) ≡ length (b ∷ bs) = run_seam WordByte (b ∷ bs) (blank ∷ rest) h.bytes e in
    rw (n, letter_no_blank b h.letter, h.letter, at_most_63 (length (b ∷ bs)) h.short) refl

name_step : (begins : Bool) (bs : List ℕ) (blank : ℕ) (rest : List ℕ) → IsName bs → is_of WordByte blank ≡ false → step begins (bs ++ (blank ∷ rest)) ≡ Take Name (length bs)
name_step false bs blank rest h e = name_taken bs blank rest h e
name_step true [] blank rest h e = let f : false ≡ true = h.letter in cc
name_step true (b ∷ bs) blank rest h e = let stays : step true (b ∷ (bs ++ (blank ∷ rest))) ≡ piece (b ∷ (bs ++ (blank ∷ rest))) = rw (letter_no_star b h.letter, letter_no_dollar b h.letter) refl in stays ∙ name_taken (b ∷ bs) blank rest h e

blank_step : (begins : Bool) (blank : ℕ) (rest : List ℕ) → (blank ≡ 32) ⊎ (blank ≡ 10) → step begins (blank ∷ rest) ≡ Skip 1
blank_step true blank rest (inl e) = subst (λ b. step true (b ∷ rest) ≡ Skip 1) (sym e) refl
blank_step true blank rest (inr e) = subst (λ b. step true (b ∷ rest) ≡ Skip 1) (sym e) refl
blank_step false blank rest (inl e) = subst (λ b. step false (b ∷ rest) ≡ Skip 1) (sym e) refl
blank_step false blank rest (inr e) = subst (λ b. step false (b ∷ rest) ≡ Skip 1) (sym e) refl

blank_ends : (blank : ℕ) → (blank ≡ 32) ⊎ (blank ≡ 10) → is_of WordByte blank ≡ false
blank_ends blank (inl e) = subst (λ b. is_of WordByte b ≡ false) (sym e) refl
blank_ends blank (inr e) = subst (λ b. is_of WordByte b ≡ false) (sym e) refl

-- ---- the cut
name_some : (bs : List ℕ) → IsName bs → 0 < length bs
name_some [] h = let f : false ≡ true = h.letter in cc
name_some (b ∷ bs) h = omega arith

take_at : (at : ℕ) (p : Place) (text : List ℕ) (size : ℕ) (ts : List Token) → 0 < length text → step (is_line_start p) text ≡ Take Name size → Reads (at + size) (past p (take size text)) (drop size text) ts None → Reads at p text (token_at Name at size p ∷ ts) None
take_at at p [] size ts l e h = absurd (omega arith)
take_at at p (b ∷ bs) size ts l e h = taken at p b bs Name size ts None e (λ w. w) h

take_word : (at : ℕ) (p : Place) (bs rest : List ℕ) (ts : List Token) → 0 < length bs → step (is_line_start p) (bs ++ rest) ≡ Take Name (length bs) → Reads (at + length bs) (past p bs) rest ts None → Reads at p (bs ++ rest) (token_at Name at (length bs) p ∷ ts) None
take_word at p bs rest ts l e h =
    take_at at p (bs ++ rest) (length bs) ts (omega (arith, length-append bs rest)) e
    (subst (λ x. Reads (at + length bs) (past p x) (drop (length bs) (bs ++ rest)) ts None) (sym (take-append_seam bs rest))
    (subst (λ x. Reads (at + length bs) (past p bs) x ts None) (sym (drop-append_seam bs rest)) h))

module _ (m : Model) (text : List ℕ) where
  -- what is left of the text is cut into the words
  record Cut (at : ℕ) (p : Place) (ws : List Word) : Type 0 where
    tokens : List Token
    lexemes : List Lexeme
    reads : Reads at p (text_of ws) tokens None
    are : AreLexemes text m tokens lexemes
    sorts : SortsAre lexemes (sorts_of ws)

  cut_from : (ws : List Word) → AreWords m ws → (at : ℕ) (p : Place) → drop at text ≡ text_of ws → Cut at p ws
  cut_from [] h at p d = record { tokens = []; lexemes = []; reads = at_end at p; are = tt; sorts = tt }
  cut_from (w ∷ ws) h at p d =
      let size = length w.bytes in
      let rest = w.blank ∷ text_of ws in
      let behind : drop (at + size) text ≡ rest = sym (drop-drop size at text) ∙ ap (drop size) d ∙ drop-append_seam w.bytes rest in
      let further : drop (at + size + 1) text ≡ text_of ws = sym (drop-drop 1 (at + size) text) ∙ ap (drop 1) behind in
      let bytes : slice_range text at (at + size) ≡ w.bytes = slice_is text at size ∙ ap (take size) d ∙ take-append_seam w.bytes rest in
      let next = cut_from ws h.1 (at + size + 1) (past (past p w.bytes) (w.blank ∷ [])) further in
      record {
        tokens = token_at Name at size p ∷ next.tokens;
        lexemes = record { sort = w.sort; place = p } ∷ next.lexemes;
        reads =
            take_word at p w.bytes rest next.tokens (name_some w.bytes h.0.form) (name_step (is_line_start p) w.bytes w.blank (text_of ws) h.0.form (blank_ends w.blank h.0.blank))
            (skipped (at + size) (past p w.bytes) w.blank (text_of ws) 1 next.tokens None (blank_step (is_line_start (past p w.bytes)) w.blank (text_of ws) h.0.blank) next.reads);
        are = (record { place = refl; sort = subst (λ x. IsSort m Name x w.sort) (sym bytes) h.0.sort }, next.are);
        sorts = (refl, next.sorts);
      }

-- the text has lexemes of these sorts
pub record HasSorts (m : Model) (text : List ℕ) (ss : List Sort) : Type 0 where
  pub lexemes : List Lexeme
  pub has : HasLexemes text m lexemes
  pub sorts : SortsAre lexemes ss

pub cut : (m : Model) (ws : List Word) → AreWords m ws → HasSorts m (text_of ws) (sorts_of ws)
cut m ws h =
    let c = cut_from m (text_of ws) ws h 0 start refl in
    record { lexemes = c.lexemes; has = record { tokens = c.tokens; cut = c.reads; are = c.are }; sorts = c.sorts }
