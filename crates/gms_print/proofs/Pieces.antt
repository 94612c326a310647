-- Printed texts as pieces: tokens with the blanks behind them.
use Rattle.std.proofs.Common.{◌≡◌, ◌⊎◌, ℕ, Bool, true, false, List, [], ◌∷◌, ◌++◌, codes, slice_index, nat_eq}
use Rattle.emp_lex.specs.declared.token.TokenKind.{TokenKind}
use Rattle.emp_lex.specs.declared.token.TokenKind.TheVariants.{Name, Numeral, Text, Relation, Symbol}
use Rattle.emp_lex.specs.declared.scan.Class.TheVariants.{Word}
use Rattle.emp_lex.specs.Bytes.{is_of, is_letter, is_blank}
use Rattle.emp_lex.specs.Forms.{HasForm}
use Rattle.gms_grammar.specs.declared.lexeme.Sort.{Sort}
use Rattle.gms_grammar.specs.declared.lexeme.Lexeme.{Lexeme}
use Rattle.gms_grammar.specs.Lexemes.{IsSort, spelling}

-- a token, what it is to the grammar, and the blanks behind it
pub record Piece : Type 0 where
  pub kind : TokenKind
  pub bytes : List ℕ
  pub sort : Sort
  pub gap : List ℕ

abbrev pub rendered : List Piece → List ℕ
rendered [] = []
rendered (p ∷ ps) = p.bytes ++ p.gap ++ rendered ps

-- the lexeme of a text is that piece
pub record IsOf (text : List ℕ) (p : Piece) (t : Lexeme) : Type 0 where
  pub sort : t.sort ≡ p.sort
  pub bytes : spelling text t ≡ p.bytes

abbrev pub AreOf : List ℕ → List Piece → List Lexeme → Type 0
AreOf text [] [] = Unit {0}
AreOf text (p ∷ ps) (t ∷ ts) = IsOf text p t × AreOf text ps ts
AreOf text [] (t ∷ ts) = ⊥
AreOf text (p ∷ ps) [] = ⊥

-- no blank, one space, or the end of the line
abbrev pub IsGap : List ℕ → Type 0
IsGap gap = (gap ≡ []) ⊎ ((gap ≡ codes " ") ⊎ (gap ≡ codes "\n"))

abbrev pub ends_line : List ℕ → Bool
ends_line gap = nat_eq (slice_index gap 0) 10

-- a symbol that is not taken longer: `*` before no `*`, `.` before a letter, `=` before a blank
pub record SymbolEnds (bytes rest : List ℕ) : Type 0 where
  pub star : bytes ≡ codes "*" → nat_eq (slice_index rest 0) 42 ≡ false
  pub dot : bytes ≡ codes "." → is_letter (slice_index rest 0) ≡ true
  pub equals : bytes ≡ codes "=" → is_blank (slice_index rest 0) ≡ true

-- the bytes behind a piece do not go on with it
abbrev pub EndsBefore : TokenKind → List ℕ → List ℕ → Type 0
EndsBefore Name bytes rest = is_of Word (slice_index rest 0) ≡ false
EndsBefore Numeral bytes rest = (is_of Word (slice_index rest 0) ≡ false) × (nat_eq (slice_index rest 0) 46 ≡ false)
EndsBefore Text bytes rest = Unit {0}
EndsBefore Relation bytes rest = Unit {0}
EndsBefore Symbol bytes rest = SymbolEnds bytes rest

pub record IsPiece (p : Piece) : Type 0 where
  pub form : HasForm p.kind p.bytes
  pub sort : IsSort p.kind p.bytes p.sort
  pub gap : IsGap p.gap

-- the pieces are cut again as they are, before the bytes `behind`; the flag says that the first begins a line, where only
-- names stand
pub data Good (behind : List ℕ) : Bool → List Piece → Type 0 where
  good_end : (b : Bool) → Good behind b []
  good_piece : (b : Bool) (p : Piece) (ps : List Piece) → IsPiece p → (b ≡ true → p.kind ≡ Name) → EndsBefore p.kind p.bytes (p.gap ++ rendered ps ++ behind) → Good behind (ends_line p.gap) ps → Good behind b (p ∷ ps)
