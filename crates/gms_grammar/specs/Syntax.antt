-- Where lexemes stop beginning a grammatical text.
use Rattle.std.specs.Prelude.{◌≡◌, ◌⊎◌, List, [], ◌∷◌, ◌++◌}
use Rattle.emp_ast.specs.declared.tree.Place.{Place}
use Rattle.gms_grammar.specs.declared.kind.Kind.{Kind}
use Rattle.gms_grammar.specs.declared.lexeme.Lexeme.{Lexeme}
use Rattle.gms_grammar.specs.Grammar.{Statement, IsFileOf}

-- some lexemes behind them make them a grammatical text
pub record BeginsText (k : Kind) (ts : List Lexeme) : Type 0 where
  pub rest : List Lexeme
  pub statements : List Statement
  pub file : IsFileOf k (ts ++ rest) statements

abbrev pub StandsForNone : Kind → List Lexeme → Type 0
StandsForNone k ts = (ss : List Statement) → IsFileOf k ts ss → ⊥

-- the lexemes before the one at the place begin a grammatical text, and those up to it begin none
pub record StopsAt (k : Kind) (ts : List Lexeme) (p : Place) : Type 0 where
  pub before : List Lexeme
  pub here : Lexeme
  pub rest : List Lexeme
  pub is : ts ≡ before ++ here ∷ rest
  pub begins : BeginsText k before
  pub stops : BeginsText k (before ++ here ∷ []) → ⊥
  pub place : p ≡ here.place

-- all of them begin a grammatical text and are none; the place is behind the text
pub record IsUnfinished (k : Kind) (ts : List Lexeme) (end p : Place) : Type 0 where
  pub begins : BeginsText k ts
  pub none : StandsForNone k ts
  pub place : p ≡ end

abbrev pub IsWrongAt : Kind → List Lexeme → Place → Place → Type 0
IsWrongAt k ts end p = StopsAt k ts p ⊎ IsUnfinished k ts end p
