-- Annotations that stand and that do not, of a model with a variable `x` and two equations `f` and `g`.
use Rattle.std.specs.Prelude.{ℕ, false, List, [], ◌∷◌}
use Rattle.emp_ast.specs.declared.tree.Place.{Place}
use Rattle.emp_ast.specs.declared.tree.VarId.{VarId}
use Rattle.emp_ast.specs.declared.tree.EquId.{EquId}
use Rattle.emp_ast.specs.declared.model.Sense.TheVariants.{Min}
use Rattle.emp_ast.specs.declared.annot.Block.{Block}
use Rattle.emp_ast.specs.declared.annot.Block.TheVariants.{Vi as ViBlock}
use Rattle.emp_ast.specs.declared.annot.Annot.{Annot}
use Rattle.info_read.specs.declared.lexeme.Sort.{Sort}
use Rattle.info_read.specs.declared.lexeme.Sort.TheVariants.{Equilibrium, Agent, Vi, Visol, Variable, Equation, Unknown}
use Rattle.info_read.specs.declared.lexeme.Lexeme.{Lexeme}
use Rattle.info_read.specs.declared.fault.InfoFault.TheVariants.{Syntax, Unknown as UnknownName, WrongKind}
use Rattle.info_read.specs.Grammar.{Stands}
use Rattle.info_read.specs.Faults.{HasFault}

-- places of the first line
abbrev pub column : ℕ → Place
column n = record { line = 1; column = n }

abbrev pub at : ℕ → Sort → Lexeme
at n s = record { sort = s; place = column n }

abbrev pub x : VarId
x = record { at = 0 }

abbrev pub f : EquId
f = record { at = 0 }

abbrev pub g : EquId
g = record { at = 1 }

abbrev pub with_blocks : List Block → Annot
with_blocks bs = record { bilevel = false; leader = []; blocks = bs; duals = []; visols = []; implicits = [] }

pub record Examples : Type 0 where
  -- `equilibrium vi f x g` is a pair and a constraint
  pub pair : Stands (at 1 Equilibrium ∷ at 13 Vi ∷ at 16 (Equation f) ∷ at 18 (Variable x) ∷ at 20 (Equation g) ∷ []) (with_blocks (ViBlock [] ((f, x) ∷ []) (g ∷ []) ∷ []))
  -- `equilibrium vi f g x`: no variable may follow the first constraint
  pub late_variable : HasFault (at 1 Equilibrium ∷ at 13 Vi ∷ at 16 (Equation f) ∷ at 18 (Equation g) ∷ at 20 (Variable x) ∷ []) (column 21) (WrongKind (column 20))
  -- `equilibrium min q x`: a variable must follow `min`
  pub no_such_name : HasFault (at 1 Equilibrium ∷ at 13 (Agent Min) ∷ at 17 Unknown ∷ at 19 (Variable x) ∷ []) (column 20) (UnknownName (column 17))
  -- `equilibrium q`: no name may follow
  pub no_name_there : HasFault (at 1 Equilibrium ∷ at 13 Unknown ∷ []) (column 14) (Syntax (column 13))
  -- `equilibrium visol f`: there is no block
  pub no_block : HasFault (at 1 Equilibrium ∷ at 13 Visol ∷ at 19 (Equation f) ∷ []) (column 20) (Syntax (column 20))
