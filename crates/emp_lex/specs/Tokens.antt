-- The tokens of a text, and the first fault in it.
use Rattle.std.specs.Prelude.{◌≡◌, ℕ, ◌+◌, Bool, cond, nat_eq, List, [], ◌∷◌, take, drop, Option, Some, None, true, false, Err}
use Rattle.emp_ast.specs.declared.tree.Place.{Place}
use Rattle.emp_numeral.specs.declared.numeral.NumeralFault.TheVariants.{Wide}
use Rattle.emp_numeral.specs.Numeral.{NumeralGives}
use Rattle.emp_lex.specs.declared.token.Token.{Token}
use Rattle.emp_lex.specs.declared.token.TokenKind.{TokenKind}
use Rattle.emp_lex.specs.declared.token.TokenKind.TheVariants.{Name, Numeral, Text, Relation, Symbol}
use Rattle.emp_lex.specs.declared.fault.LexFault.{LexFault}
use Rattle.emp_lex.specs.declared.fault.LexFault.TheVariants.{BadByte as BadByteAt, LongName as LongNameAt, OpenBlock as OpenBlockAt, Dollar as DollarAt, Number as NumberAt, NoMemory}
use Rattle.emp_lex.specs.declared.piece.Defect.{Defect}
use Rattle.emp_lex.specs.declared.piece.Defect.TheVariants.{BadByte, LongName, OpenBlock, Dollar}
use Rattle.emp_lex.specs.declared.piece.Step.TheVariants.{Skip, Take, Stop}
use Rattle.emp_lex.specs.Pieces.{step}

-- ---- places
abbrev pub past_byte : Place → ℕ → Place
past_byte p b = cond (nat_eq b 10) (record { line = p.line + 1; column = 1 }) (record { line = p.line; column = p.column + 1 })

-- the place behind the bytes
abbrev pub past : Place → List ℕ → Place
past p [] = p
past p (b ∷ bs) = past (past_byte p b) bs

abbrev pub start : Place
start = record { line = 1; column = 1 }

-- the place begins a line
abbrev pub is_line_start : Place → Bool
is_line_start p = nat_eq p.column 1

abbrev pub fault_at : Defect → Place → LexFault
fault_at BadByte p = BadByteAt p
fault_at LongName p = LongNameAt p
fault_at OpenBlock p = OpenBlockAt p
fault_at Dollar p = DollarAt p

abbrev pub token_at : TokenKind → ℕ → ℕ → Place → Token
token_at kind from size p = record { kind = kind; from = from; to = from + size; place = p }

-- a numeral of which a formed number is too wide
abbrev pub IsTooWide : TokenKind → List ℕ → Type 0
IsTooWide Name bs = ⊥
IsTooWide Numeral bs = NumeralGives bs (Err Wide)
IsTooWide Text bs = ⊥
IsTooWide Relation bs = ⊥
IsTooWide Symbol bs = ⊥

abbrev pub Tells : Bool → Type 0 → Type 0
Tells true p = p
Tells false p = p → ⊥

-- ---- texts
-- what is left of a text, from the byte with that number and place on: it is cut into the tokens up to its end, or up to
-- the first fault in it
pub data Reads : ℕ → Place → List ℕ → List Token → Option LexFault → Type 0 where
  at_end : (at : ℕ) (p : Place) → Reads at p [] [] None
  skipped : (at : ℕ) (p : Place) (b : ℕ) (bs : List ℕ) (size : ℕ) (ts : List Token) (end : Option LexFault) → step (is_line_start p) (b ∷ bs) ≡ Skip size → Reads (at + size) (past p (take size (b ∷ bs))) (drop size (b ∷ bs)) ts end → Reads at p (b ∷ bs) ts end
  taken : (at : ℕ) (p : Place) (b : ℕ) (bs : List ℕ) (kind : TokenKind) (size : ℕ) (ts : List Token) (end : Option LexFault) → step (is_line_start p) (b ∷ bs) ≡ Take kind size → (IsTooWide kind (take size (b ∷ bs)) → ⊥) → Reads (at + size) (past p (take size (b ∷ bs))) (drop size (b ∷ bs)) ts end → Reads at p (b ∷ bs) (token_at kind at size p ∷ ts) end
  stopped : (at : ℕ) (p : Place) (b : ℕ) (bs : List ℕ) (defect : Defect) → step (is_line_start p) (b ∷ bs) ≡ Stop defect → Reads at p (b ∷ bs) [] (Some (fault_at defect p))
  too_wide : (at : ℕ) (p : Place) (b : ℕ) (bs : List ℕ) (kind : TokenKind) (size : ℕ) → step (is_line_start p) (b ∷ bs) ≡ Take kind size → IsTooWide kind (take size (b ∷ bs)) → Reads at p (b ∷ bs) [] (Some (NumberAt p))

-- the whole text is cut into the tokens
abbrev pub IsTokenList : List ℕ → List Token → Type 0
IsTokenList text ts = Reads 0 start text ts None

-- the first fault in the text
abbrev pub IsFirstFault : List ℕ → LexFault → Type 0
IsFirstFault text f = (ts : List Token) × Reads 0 start text ts (Some f)

-- a refusal for want of memory says nothing of the text
abbrev pub Refuses : List ℕ → LexFault → Type 0
Refuses text (BadByteAt p) = IsFirstFault text (BadByteAt p)
Refuses text (LongNameAt p) = IsFirstFault text (LongNameAt p)
Refuses text (OpenBlockAt p) = IsFirstFault text (OpenBlockAt p)
Refuses text (DollarAt p) = IsFirstFault text (DollarAt p)
Refuses text (NumberAt p) = IsFirstFault text (NumberAt p)
Refuses text NoMemory = Unit {0}
