-- What the layers above know of tokens.
use Rattle.std.specs.Prelude.{◌≡◌, ◌⊎◌, ℕ, ◌≤◌, Bool, List, ◌++◌, length, All}
use Rattle.emp_lex.specs.declared.token.Token.{Token}
use Rattle.emp_lex.specs.declared.token.TokenKind.{TokenKind}
use Rattle.emp_lex.specs.declared.piece.Step.TheVariants.{Skip, Take, Stop}
use Rattle.emp_lex.specs.declared.piece.Defect.TheVariants.{BadByte}
use Rattle.emp_lex.specs.declared.fault.LexFault.{LexFault}
use Rattle.emp_lex.specs.Tokens.{IsTokenList, IsFirstFault}
use Rattle.emp_lex.specs.Forms.{HasForm, IsFormed}
use Rattle.emp_lex.specs.Passed.{IsPassed}
use Rattle.emp_lex.specs.Pieces.{step}

-- each text has a list of tokens or a first fault, one of them, and not both
pub record OneReading : Type 0 where
  pub some : (text : List ℕ) → ((ts : List Token) × IsTokenList text ts) ⊎ ((f : LexFault) × IsFirstFault text f)
  pub one_list : (text : List ℕ) (ts us : List Token) → IsTokenList text ts → IsTokenList text us → ts ≡ us
  pub one_fault : (text : List ℕ) (f g : LexFault) → IsFirstFault text f → IsFirstFault text g → f ≡ g
  pub not_both : (text : List ℕ) (ts : List Token) (f : LexFault) → IsTokenList text ts → IsFirstFault text f → ⊥

-- the bytes of each token have the form of its kind
pub record TokensHaveForms : Type 0 where
  pub formed : (text : List ℕ) (ts : List Token) → IsTokenList text ts → All (IsFormed text) ts

-- what is passed over are blanks, comments, listed dollar lines and blocks
pub record OnlyNothingIsPassed : Type 0 where
  pub passed : (begins : Bool) (text : List ℕ) (n : ℕ) → step begins text ≡ Skip n → IsPassed begins text n

-- where a token is taken, none that the text begins with is longer; where a byte is bad, the text begins with none
pub record TokensAreLongest : Type 0 where
  pub longest : (begins : Bool) (text : List ℕ) (kind : TokenKind) (n : ℕ) → step begins text ≡ Take kind n → (k : TokenKind) (p bs : List ℕ) → text ≡ p ++ bs → HasForm k p → length p ≤ n
  pub none : (begins : Bool) (text : List ℕ) → step begins text ≡ Stop BadByte → (k : TokenKind) (p bs : List ℕ) → text ≡ p ++ bs → HasForm k p → ⊥
