-- The variables that are left when each defined objective is put in the place of its variable, and the polynomials over them.
use Rattle.std.specs.Prelude.{ℕ, suc, ◌+◌, cond, nat_eq, List, [], ◌∷◌, ◌++◌, map, filter, slice_get, slice_index_or, Option, Some, None, pos}
use Rattle.emp_ast.specs.declared.model.End.{End}
use Rattle.emp_ast.specs.declared.model.End.TheVariants.{Open}
use Rattle.emp_ast.specs.declared.model.Equation.{Equation}
use Rattle.emp_ast.specs.declared.model.Variable.{Variable}
use Rattle.emp_ast.specs.declared.model.Sense.{Sense}
use Rattle.emp_ast.specs.declared.model.Sense.TheVariants.{Min, Max}
use Rattle.emp_ast.specs.declared.model.Model.{Model}
use Rattle.emp_ast.specs.declared.annot.Block.{Block}
use Rattle.emp_ast.specs.declared.annot.Block.TheVariants.{Agent, Vi}
use Rattle.emp_ast.specs.declared.annot.Annot.{Annot}
use Rattle.emp_ast.specs.Parties.{Party, leader, objective, owns, is_defined}
use Rattle.emp_form.specs.Form.{Form, form_of, negated_form}
use Rattle.emp_form.specs.Expansion.{form}
use Rattle.emp_agents.specs.Given.{difference, given_form}

-- ---- the variables that are left, by number in order of declaration
abbrev pub left_from : Model → Annot → ℕ → List Variable → List ℕ
left_from m a at [] = []
left_from m a at (x ∷ xs) = cond (is_defined m a at) (left_from m a (at + 1) xs) (at ∷ left_from m a (at + 1) xs)

abbrev pub left : Model → Annot → List ℕ
left m a = left_from m a 0 m.variables

-- where the variable stands among these; behind them where it is none
abbrev pub place_in : List ℕ → ℕ → ℕ
place_in [] v = 0
place_in (u ∷ us) v = cond (nat_eq u v) 0 (suc (place_in us v))

abbrev pub place : Model → Annot → ℕ → ℕ
place m a v = place_in (left m a) v

abbrev pub no_variable : Variable
no_variable = record { name = []; low = Open; high = Open }

abbrev pub range_of : Model → ℕ → End × End
range_of m v = ((slice_index_or m.variables v no_variable).low, (slice_index_or m.variables v no_variable).high)

-- those of the leader
abbrev pub leader_own : Model → Annot → List ℕ
leader_own m a = filter (λ v. owns m a leader v) (left m a)

-- ---- polynomials
-- left minus right of the equation of this number; 0 where there is none
abbrev pub equation_form : Option Equation → Form
equation_form (Some q) = form (difference q)
equation_form None = form_of (pos 0) (pos 1)

-- the function of an own variable of a variational inequality, by the equation of its pair: 0 where it has none
abbrev pub function_form : Model → Option ℕ → Form
function_form m (Some e) = equation_form (slice_get m.equations e)
function_form m None = form_of (pos 0) (pos 1)

-- what is to be least: for `max` the opposite
abbrev pub signed : Sense → Form → Form
signed Min f = f
signed Max f = negated_form f

abbrev pub signed_for : Option (Sense × ℕ) → Form → Form
signed_for (Some w) f = signed w.0 f
signed_for None f = f

-- the polynomial of the party's objective as it is to be least
abbrev pub goal_form : Model → Annot → Party → Form
goal_form m a k = signed_for (objective m a k) (given_form m a k)

-- the equations of the functions of a block, one for each own variable: none for those with function zero
abbrev pub block_flow : Block → List (Option ℕ)
block_flow (Agent sense objective vars equs) = []
block_flow (Vi zeros pairs equs) = map (λ z. None) zeros ++ map (λ q. Some q.0.at) pairs
