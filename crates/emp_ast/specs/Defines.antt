-- Which equation defines the objective of a party, in one sentence.
use Rattle.std.specs.Prelude.{◌≡◌, ◌↔◌, ℕ, true, false, slice_get, Some}
use Rattle.emp_ast.specs.declared.model.Relation.TheVariants.{Equal}
use Rattle.emp_ast.specs.declared.model.Equation.{Equation}
use Rattle.emp_ast.specs.declared.model.End.TheVariants.{Open}
use Rattle.emp_ast.specs.declared.model.Sense.{Sense}
use Rattle.emp_ast.specs.declared.model.Variable.{Variable}
use Rattle.emp_ast.specs.declared.model.Model.{Model}
use Rattle.emp_ast.specs.declared.annot.Annot.{Annot}
use Rattle.emp_ast.specs.Occurrence.{occurrences, is_summand_of}
use Rattle.emp_ast.specs.Parties.{Party, objective, is_dual, is_implicit_equation, has_alone, defines}

-- equation e defines the objective of party k
pub record DefinesObjective (m : Model) (a : Annot) (k : Party) (e : ℕ) : Type 0 where
  -- the party is to make variable w least or greatest
  pub sense : Sense
  pub w : ℕ
  pub objective : objective m a k ≡ Some (sense, w)
  -- w has no bound, and is no dual variable
  pub variable : Variable
  pub is_variable : slice_get m.variables w ≡ Some variable
  pub no_lower : variable.low ≡ Open
  pub no_upper : variable.high ≡ Open
  pub no_dual : is_dual a w ≡ false
  -- it is one leaf of all equations
  pub once : occurrences w m.equations ≡ 1
  -- and that leaf is in e, an `=E=` equation, under sums, differences and negations alone
  pub equation : Equation
  pub is_equation : slice_get m.equations e ≡ Some equation
  pub equality : equation.relation ≡ Equal
  pub summand : is_summand_of w equation ≡ true
  -- e is the equation of no implicit variable, and the party has it and no other party does
  pub explicit : is_implicit_equation a e ≡ false
  pub alone : has_alone m a k e ≡ true

-- the test by which equations are sorted says this
abbrev pub DefinesIsSentence : Type 0
DefinesIsSentence = (m : Model) (a : Annot) (k : Party) (e : ℕ) → (defines m a k e ≡ true) ↔ DefinesObjective m a k e
