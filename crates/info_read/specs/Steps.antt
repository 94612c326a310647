-- What the reader of lexemes answers.
use Rattle.std.specs.Prelude.{◌≡◌, ◌⊎◌, List}
use Rattle.emp_ast.specs.declared.tree.Place.{Place}
use Rattle.info_read.specs.declared.lexeme.Lexeme.{Lexeme}
use Rattle.info_read.specs.declared.fault.InfoFault.{InfoFault}
use Rattle.info_read.specs.declared.fault.InfoFault.TheVariants.{NoMemory}
use Rattle.info_read.specs.Faults.{HasFault}

-- the first fault of the lexemes, or the want of memory
abbrev pub RefusesLexemes : List Lexeme → Place → InfoFault → Type 0
RefusesLexemes ts end f = (f ≡ NoMemory) ⊎ HasFault ts end f
