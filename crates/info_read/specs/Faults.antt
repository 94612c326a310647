-- The first fault of lexemes that stand for no annotation.
use Rattle.std.specs.Prelude.{◌≡◌, List, [], ◌∷◌, ◌++◌}
use Rattle.emp_ast.specs.declared.tree.Place.{Place}
use Rattle.emp_ast.specs.declared.annot.Annot.{Annot}
use Rattle.info_read.specs.declared.lexeme.Sort.{Sort}
use Rattle.info_read.specs.declared.lexeme.Sort.TheVariants.{Variable, Equation, Unknown}
use Rattle.info_read.specs.declared.lexeme.Lexeme.{Lexeme}
use Rattle.info_read.specs.declared.fault.InfoFault.{InfoFault}
use Rattle.info_read.specs.declared.fault.InfoFault.TheVariants.{Syntax, Unknown as UnknownName, WrongKind}
use Rattle.info_read.specs.Grammar.{Stands}

-- they begin an annotation: with some lexemes behind them they stand for one. Whether the model has names for those is not
-- asked
abbrev pub Begins : List Lexeme → Type 0
Begins ts = (more : List Lexeme) × (a : Annot) × Stands (ts ++ more) a

-- a name of the model
abbrev pub IsKnown : Sort → Type 0
IsKnown (Variable v) = Unit {0}
IsKnown (Equation e) = Unit {0}
IsKnown s = ⊥

abbrev pub IsName : Sort → Type 0
IsName (Variable v) = Unit {0}
IsName (Equation e) = Unit {0}
IsName Unknown = Unit {0}
IsName s = ⊥

-- some name of a model may stand behind them
abbrev pub TakesName : List Lexeme → Type 0
TakesName ts = (t : Lexeme) × IsKnown t.sort × Begins (ts ++ t ∷ [])

-- the lexemes before it begin an annotation, and with it they begin none
pub record IsMisfit (ts before : List Lexeme) (t : Lexeme) : Type 0 where
  pub after : List Lexeme
  pub is : ts ≡ before ++ t ∷ after
  pub begins : Begins before
  pub stops : Begins (before ++ t ∷ []) → ⊥

-- the first fault of the lexemes, where `end` is the place behind the text
pub data HasFault (ts : List Lexeme) (end : Place) : InfoFault → Type 0 where
  -- they begin an annotation and are none
  ends : Begins ts → ((a : Annot) → Stands ts a → ⊥) → HasFault ts end (Syntax end)
  -- a name must stand there, and the model has none such
  unknown : (before : List Lexeme) (t : Lexeme) → IsMisfit ts before t → t.sort ≡ Unknown → TakesName before → HasFault ts end (UnknownName t.place)
  -- a name must stand there, and this one is of the other kind
  wrong_kind : (before : List Lexeme) (t : Lexeme) → IsMisfit ts before t → IsKnown t.sort → TakesName before → HasFault ts end (WrongKind t.place)
  -- what stands there is no name, or no name may stand there
  misplaced : (before : List Lexeme) (t : Lexeme) → IsMisfit ts before t → (IsName t.sort → TakesName before → ⊥) → HasFault ts end (Syntax t.place)
