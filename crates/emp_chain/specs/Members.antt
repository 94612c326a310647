-- What each step from a file to its rows has kept, for its laws to hold, and what the way back of all gives.
use Rattle.std.specs.Prelude.{◌<◌, List, take, length, Result, Ok, Err}
use Rattle.emp_num.specs.declared.frac.Frac.{Frac}
use Rattle.emp_ast.specs.declared.model.Model.{Model}
use Rattle.emp_ast.specs.declared.annot.Annot.{Annot}
use Rattle.emp_owner.specs.declared.owned.Owned.{Owned}
use Rattle.emp_owner.specs.Settled.{AreOwned}
use Rattle.emp_problem.specs.declared.problem.AgentProblem.{AgentProblem}
use Rattle.emp_subst.specs.declared.fault.FillFault.{FillFault}
use Rattle.emp_subst.specs.declared.fault.FillFault.TheVariants.{Wide as WideValue}
use Rattle.emp_subst.specs.Fill.{FillGives}
use Rattle.emp_solution.specs.declared.state.Stated.{Stated}
use Rattle.emp_reform.specs.declared.fault.BackFault.{BackFault}
use Rattle.emp_reform.specs.declared.fault.BackFault.TheVariants.{NoMemory, Wide}
use Rattle.emp_layers.specs.Layers.{IsFilesProblem}
use Rattle.emp_chain.specs.declared.file.FilePoint.{FilePoint}

-- the problem is that of the file, whose owners and definitions are these
pub record IsSubst (m : Model) (a : Annot) (o : Owned) (pr : AgentProblem) : Type 0 where
  pub few : length m.variables < 4294967296
  pub owned : AreOwned m a o
  pub files : IsFilesProblem m a pr

-- the values that `fill` gives for the first numbers of a row point
abbrev pub FilledAt : Model → Annot → Stated → List Frac → Result (List Frac) FillFault → Type 0
FilledAt m a s fs r = FillGives m a s.problem (take (length s.problem.variables) fs) r

abbrev pub ValuesGive : Model → Annot → Stated → List Frac → Result FilePoint BackFault → Type 0
ValuesGive m a s fs (Ok x) = FilledAt m a s fs (Ok x.values)
ValuesGive m a s fs (Err (Wide k)) = FilledAt m a s fs (Err (WideValue (record { at = k })))
ValuesGive m a s fs (Err NoMemory) = Unit {0}
