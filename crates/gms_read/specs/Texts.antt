-- Which model a text stands for, and the first fault of a text that stands for none.
use Rattle.std.specs.Prelude.{◌≡◌, ◌⊎◌, ℕ, List, Some, None, Result, Ok, Err}
use Rattle.emp_ast.specs.declared.tree.Place.{Place}
use Rattle.emp_ast.specs.declared.model.Model.{Model}
use Rattle.emp_lex.specs.declared.token.Token.{Token}
use Rattle.emp_lex.specs.Tokens.{IsTokenList, IsFirstFault, past, start}
use Rattle.gms_grammar.specs.declared.kind.Kind.{Kind}
use Rattle.gms_grammar.specs.declared.kind.Kind.TheVariants.{Agents}
use Rattle.gms_grammar.specs.declared.lexeme.Lexeme.{Lexeme}
use Rattle.gms_grammar.specs.declared.fault.ModelFault.{ModelFault}
use Rattle.gms_grammar.specs.declared.fault.ModelFault.TheVariants.{Lex, Syntax, Undeclared, Twice, Discrete, Attribute, Function, TooLarge, Undefined, BoundsCross, NoMemory}
use Rattle.gms_grammar.specs.Lexemes.{AreLexemes}
use Rattle.gms_grammar.specs.Nesting.{too_deep}
use Rattle.gms_grammar.specs.Grammar.{Statement, IsFileOf}
use Rattle.gms_grammar.specs.Syntax.{IsWrongAt}
use Rattle.gms_read.specs.Rules.{whole_meaning}

-- the text is cut into the lexemes
pub record HasLexemes (text : List ℕ) (ts : List Lexeme) : Type 0 where
  pub tokens : List Token
  pub cut : IsTokenList text tokens
  pub are : AreLexemes text tokens ts

-- its lexemes are nowhere too deep and stand for the statements
pub record HasStatementsOf (kind : Kind) (text : List ℕ) (ss : List Statement) : Type 0 where
  pub lexemes : List Lexeme
  pub has : HasLexemes text lexemes
  pub level : too_deep lexemes ≡ None
  pub file : IsFileOf kind lexemes ss

abbrev pub HasStatements : List ℕ → List Statement → Type 0
HasStatements text ss = HasStatementsOf Agents text ss

-- the model, or the first broken rule, that the statements of the text give
pub record GivesOf (kind : Kind) (text : List ℕ) (r : Result Model ModelFault) : Type 0 where
  pub statements : List Statement
  pub has : HasStatementsOf kind text statements
  pub is : whole_meaning text statements ≡ r

abbrev pub Gives : List ℕ → Result Model ModelFault → Type 0
Gives text r = GivesOf Agents text r

abbrev pub IsModelText : List ℕ → Model → Type 0
IsModelText text m = Gives text (Ok m)

-- a `(` that opens a 65th level stands at the place
pub record IsTooDeep (text : List ℕ) (p : Place) : Type 0 where
  pub lexemes : List Lexeme
  pub has : HasLexemes text lexemes
  pub is : too_deep lexemes ≡ Some p

-- the lexemes of the text are nowhere too deep, and stop beginning a grammatical text at the place
pub record IsUngrammatical (kind : Kind) (text : List ℕ) (p : Place) : Type 0 where
  pub lexemes : List Lexeme
  pub has : HasLexemes text lexemes
  pub level : too_deep lexemes ≡ None
  pub wrong : IsWrongAt kind lexemes (past start text) p

-- the first fault of a text
abbrev pub HasFaultOf : Kind → List ℕ → ModelFault → Type 0
HasFaultOf kind text (Lex f) = IsFirstFault text f
HasFaultOf kind text (Syntax p) = IsUngrammatical kind text p
HasFaultOf kind text (Undeclared p) = GivesOf kind text (Err (Undeclared p))
HasFaultOf kind text (Twice p) = GivesOf kind text (Err (Twice p))
HasFaultOf kind text (Discrete p) = GivesOf kind text (Err (Discrete p))
HasFaultOf kind text (Attribute p) = GivesOf kind text (Err (Attribute p))
HasFaultOf kind text (Function p) = GivesOf kind text (Err (Function p))
HasFaultOf kind text (TooLarge p) = IsTooDeep text p ⊎ GivesOf kind text (Err (TooLarge p))
HasFaultOf kind text (Undefined e n) = GivesOf kind text (Err (Undefined e n))
HasFaultOf kind text (BoundsCross v n) = GivesOf kind text (Err (BoundsCross v n))
HasFaultOf kind text NoMemory = ⊥

abbrev pub HasFault : List ℕ → ModelFault → Type 0
HasFault text f = HasFaultOf Agents text f

-- a refusal for want of memory says nothing of the text
abbrev pub RefusesModelOf : Kind → List ℕ → ModelFault → Type 0
RefusesModelOf kind text f = (f ≡ NoMemory) ⊎ HasFaultOf kind text f

abbrev pub RefusesModel : List ℕ → ModelFault → Type 0
RefusesModel text f = RefusesModelOf Agents text f
