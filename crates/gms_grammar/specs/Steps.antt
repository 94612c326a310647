-- What the steps of the reader give.
use Rattle.std.specs.Prelude.{◌≡◌, ◌⊎◌, List}
use Rattle.emp_lex.specs.declared.fault.LexFault.{LexFault}
use Rattle.emp_lex.specs.declared.fault.LexFault.TheVariants.{BadByte, LongName, OpenBlock, Dollar, Number, NoMemory as NoMemoryForTokens}
use Rattle.gms_grammar.specs.declared.kind.Kind.{Kind}
use Rattle.gms_grammar.specs.declared.lexeme.Lexeme.{Lexeme}
use Rattle.gms_grammar.specs.declared.item.Item.{Item}
use Rattle.gms_grammar.specs.declared.fault.ModelFault.{ModelFault}
use Rattle.gms_grammar.specs.declared.fault.ModelFault.TheVariants.{Lex, Syntax, NoMemory}
use Rattle.emp_ast.specs.declared.tree.Place.{Place}
use Rattle.gms_grammar.specs.Grammar.{Statement, IsFileOf}
use Rattle.gms_grammar.specs.Syntax.{IsWrongAt}
use Rattle.gms_grammar.specs.Items.{items_of}

-- the items are those of statements for which the lexemes stand
pub record AreItems (k : Kind) (ts : List Lexeme) (items : List Item) : Type 0 where
  pub statements : List Statement
  pub file : IsFileOf k ts statements
  pub are : items ≡ items_of statements

-- the lexemes stop beginning a grammatical text at the place, or memory is wanted
abbrev pub RefusesLexemes : Kind → List Lexeme → Place → ModelFault → Type 0
RefusesLexemes k ts end f = (f ≡ NoMemory) ⊎ ((p : Place) × (f ≡ Syntax p) × IsWrongAt k ts end p)

-- what the reader answers to a fault of the lexer
abbrev pub of_lexer : LexFault → ModelFault
of_lexer (BadByte p) = Lex (BadByte p)
of_lexer (LongName p) = Lex (LongName p)
of_lexer (OpenBlock p) = Lex (OpenBlock p)
of_lexer (Dollar p) = Lex (Dollar p)
of_lexer (Number p) = Lex (Number p)
of_lexer NoMemoryForTokens = NoMemory
