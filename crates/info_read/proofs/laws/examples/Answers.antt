use Rattle.std.proofs.Common.{[], ◌∷◌, refl}
use Rattle.emp_ast.specs.declared.model.Sense.TheVariants.{Min}
use Rattle.info_read.specs.declared.lexeme.Sort.TheVariants.{Equilibrium, Agent, Vi, Visol, Variable, Equation, Unknown}
use Rattle.info_read.specs.Examples.{column, at, x, f, g}
use Rattle.info_read.proofs.Agree.{accepted, stops_there, unfinished}
use Rattle.info_read.proofs.laws.examples.Goals as goal

pub returns : goal.returns
returns c = record {
  pair = accepted (at 1 Equilibrium ∷ at 13 Vi ∷ at 16 (Equation f) ∷ at 18 (Variable x) ∷ at 20 (Equation g) ∷ []) _ refl refl;
  late_variable = stops_there (column 21) (at 1 Equilibrium ∷ at 13 Vi ∷ at 16 (Equation f) ∷ at 18 (Equation g) ∷ []) (at 20 (Variable x)) [] _ refl refl;
  no_such_name = stops_there (column 20) (at 1 Equilibrium ∷ at 13 (Agent Min) ∷ []) (at 17 Unknown) (at 19 (Variable x) ∷ []) _ refl refl;
  no_name_there = stops_there (column 14) (at 1 Equilibrium ∷ []) (at 13 Unknown) [] _ refl refl;
  no_block = unfinished (at 1 Equilibrium ∷ at 13 Visol ∷ at 19 (Equation f) ∷ []) _ refl (column 20) refl;
}
