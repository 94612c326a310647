-- Which rules of ownership the disjunctions of a model can break, and which equations are to be affine.
use Rattle.std.specs.Prelude.{◌≡◌, ◌↔◌, ℕ, ◌<◌, Bool, false, not, List, length}
use Rattle.emp_ast.specs.declared.tree.EquId.{EquId}
use Rattle.emp_ast.specs.declared.model.Model.{Model}
use Rattle.emp_ast.specs.Parties.{leader, defines}
use Rattle.emp_owner.specs.Rules.{equation_times, is_twice, lacks_objective}
use Rattle.emp_owner.specs.Settled.{NoEquation, IsKept}
use Rattle.emp_problem.specs.Class.{is_affine}
use Rattle.emp_disj.specs.Choice.{terms, apart}

-- the equation stands twice in the disjunctions together
abbrev pub twice : List (List EquId) → ℕ → Bool
twice ds e = is_twice (equation_times e (terms ds))

pub record IsOwned (m : Model) (ds : List (List EquId)) : Type 0 where
  pub goal : lacks_objective m.goal ≡ false
  pub once : NoEquation m (twice ds)

-- ---- the laws
-- of the rules of ownership only these two can be broken where the terms are set apart
abbrev pub OwnersAreTwo : Type 0
OwnersAreTwo = (m : Model) (ds : List (List EquId)) → IsOwned m ds ↔ IsKept m (apart ds)

-- every equation but the definition is to be affine
abbrev pub AllButDefinition : Type 0
AllButDefinition = (m : Model) (ds : List (List EquId)) (e : ℕ) → e < length m.equations → is_affine m (apart ds) e ≡ not (defines m (apart ds) leader e)
