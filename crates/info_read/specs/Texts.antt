-- Which annotation of a model a text stands for, and the first fault of a text that stands for none.
use Rattle.std.specs.Prelude.{◌≡◌, ◌⊎◌, ℕ, List}
use Rattle.emp_ast.specs.declared.model.Model.{Model}
use Rattle.emp_ast.specs.declared.annot.Annot.{Annot}
use Rattle.emp_lex.specs.declared.token.Token.{Token}
use Rattle.emp_lex.specs.declared.fault.LexFault.{LexFault}
use Rattle.emp_lex.specs.declared.fault.LexFault.TheVariants.{BadByte, LongName, OpenBlock, Dollar, Number, NoMemory as NoMemoryForTokens}
use Rattle.emp_lex.specs.Tokens.{IsTokenList, IsFirstFault, past, start}
use Rattle.info_read.specs.declared.lexeme.Lexeme.{Lexeme}
use Rattle.info_read.specs.declared.fault.InfoFault.{InfoFault}
use Rattle.info_read.specs.declared.fault.InfoFault.TheVariants.{Lex, Syntax, Unknown, WrongKind, NoMemory}
use Rattle.info_read.specs.Lexemes.{AreLexemes}
use Rattle.info_read.specs.Grammar.{Stands}
use Rattle.info_read.specs.Faults.{HasFault}

-- the text is cut into the lexemes
pub record HasLexemes (text : List ℕ) (m : Model) (ts : List Lexeme) : Type 0 where
  pub tokens : List Token
  pub cut : IsTokenList text tokens
  pub are : AreLexemes text m tokens ts

-- the text stands for the annotation of the model
pub record IsInfoText (text : List ℕ) (m : Model) (a : Annot) : Type 0 where
  pub lexemes : List Lexeme
  pub has : HasLexemes text m lexemes
  pub stands : Stands lexemes a

-- the lexemes of the text have that first fault
pub record HasLexemeFault (text : List ℕ) (m : Model) (f : InfoFault) : Type 0 where
  pub lexemes : List Lexeme
  pub has : HasLexemes text m lexemes
  pub fault : HasFault lexemes (past start text) f

-- the first fault of the text
abbrev pub HasInfoFault : List ℕ → Model → InfoFault → Type 0
HasInfoFault text m (Lex f) = IsFirstFault text f
HasInfoFault text m (Syntax p) = HasLexemeFault text m (Syntax p)
HasInfoFault text m (Unknown p) = HasLexemeFault text m (Unknown p)
HasInfoFault text m (WrongKind p) = HasLexemeFault text m (WrongKind p)
HasInfoFault text m NoMemory = ⊥

-- a refusal for want of memory says nothing of the text
abbrev pub RefusesInfo : List ℕ → Model → InfoFault → Type 0
RefusesInfo text m f = (f ≡ NoMemory) ⊎ HasInfoFault text m f

-- what the reader answers to a fault of the lexer
abbrev pub of_lexer : LexFault → InfoFault
of_lexer (BadByte p) = Lex (BadByte p)
of_lexer (LongName p) = Lex (LongName p)
of_lexer (OpenBlock p) = Lex (OpenBlock p)
of_lexer (Dollar p) = Lex (Dollar p)
of_lexer (Number p) = Lex (Number p)
of_lexer NoMemoryForTokens = NoMemory
