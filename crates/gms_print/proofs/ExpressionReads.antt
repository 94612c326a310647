-- What a printed expression is to the reader: pieces that are cut again as they are, lexemes that stand for the expression,
-- and parentheses that are nested no deeper than its own.
use Rattle.std.proofs.Common.{◌≡◌, ℕ, ◌+◌, ◌<◌, ◌≤◌, true, false, nat_eq, List, [], ◌++◌, length, decimal, slice_index, slice_index_or, Some, None, Ok}
use Rattle.emp_num.specs.declared.frac.Frac.{Frac}
use Rattle.emp_numeral.specs.Numeral.{numeral_form, NumeralGives}
use Rattle.emp_list.specs.Case.{lower}
use Rattle.emp_ast.specs.Expression.{Expression}
use Rattle.emp_lex.specs.declared.scan.Class.TheVariants.{Word}
use Rattle.emp_lex.specs.Bytes.{is_of}
use Rattle.gms_grammar.specs.declared.lexeme.Lexeme.{Lexeme}
use Rattle.gms_read.specs.declared.draft.Draft.{Draft}
use Rattle.gms_grammar.specs.Lexemes.{spelling}
use Rattle.gms_grammar.specs.Nesting.{too_deep_from}
use Rattle.gms_grammar.specs.Grammar.{Written, Level, Sum, Stands}
use Rattle.gms_read.specs.Rules.{variable_of, exponent, is_one_argument, meaning, expression_fault}
use Rattle.gms_print.specs.Canonical.{IsNumeral}
use Rattle.gms_print.proofs.Pieces.{Piece, rendered, AreOf, IsGap, ends_line, Good}
use Rattle.gms_print.proofs.Sound.{IsValue, depth}

-- ---- numerals
-- a numeral of that value
pub record ReadsNumeral (f : Frac) (t : List ℕ) : Type 0 where
  pub form : numeral_form t ≡ true
  pub gives : NumeralGives t (Ok f)

-- the decimal of n is a numeral whose value is the exponent n
pub record ReadsExponent (n : ℕ) : Type 0 where
  pub fraction : Frac
  pub reads : ReadsNumeral fraction (decimal n)
  pub is : exponent fraction ≡ Some n

pub record NumeralsRead : Type 0 where
  pub value : (f : Frac) (t : List ℕ) → IsValue f → IsNumeral f t → ReadsNumeral f t
  pub exponent : (n : ℕ) → n ≤ 9 → ReadsExponent n

-- ---- expressions
-- behind a name or a numeral
pub record EndsOperand (rest : List ℕ) : Type 0 where
  pub word : is_of Word (slice_index rest 0) ≡ false
  pub dot : nat_eq (slice_index rest 0) 46 ≡ false

-- each of the names finds its variable, in any case
abbrev pub Knows : List (List ℕ) → List ℕ → Draft → Type 0
Knows names text d = (k : ℕ) → k < length names → (t : Lexeme) → lower (spelling text t) ≡ lower (slice_index_or names k []) → variable_of text d t ≡ Some k

-- the lexemes of a text stand for the expression at that level, in so many parentheses
pub record StandsFor (names : List (List ℕ)) (level : Level) (levels : ℕ) (e : Expression) (text : List ℕ) (ts : List Lexeme) : Type 0 where
  pub written : Written
  pub stands : Stands level ts written
  pub single : is_one_argument written ≡ true
  pub means : (d : Draft) → Knows names text d → meaning text d written ≡ e
  pub faultless : (d : Draft) → Knows names text d → expression_fault text d written ≡ None
  pub shallow : (n : ℕ) (rest : List Lexeme) → n + levels ≤ 64 → too_deep_from n (ts ++ rest) ≡ too_deep_from n rest

-- the bytes t are those of pieces, by the gap of the last of them, whose lexemes stand for the expression
pub record ReadsAt (names : List (List ℕ)) (level : Level) (levels : ℕ) (e : Expression) (t : List ℕ) : Type 0 where
  pub pieces : List ℕ → List Piece
  pub is : (gap : List ℕ) → rendered (pieces gap) ≡ t ++ gap
  pub good : (gap behind : List ℕ) (more : List Piece) → IsGap gap → EndsOperand (gap ++ rendered more ++ behind) → Good behind (ends_line gap) more → Good behind false (pieces gap ++ more)
  pub first : (rest : List ℕ) → nat_eq (slice_index (t ++ rest) 0) 42 ≡ false
  pub stands : (gap text : List ℕ) (ts : List Lexeme) → AreOf text (pieces gap) ts → StandsFor names level levels e text ts

abbrev pub ReadsExpression : List (List ℕ) → Expression → List ℕ → Type 0
ReadsExpression names e t = ReadsAt names Sum (depth e) e t
