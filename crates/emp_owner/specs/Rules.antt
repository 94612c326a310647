-- The rules of ownership, each as a test of one variable or equation of a model under an annotation.
use Rattle.std.specs.Prelude.{ℕ, zero, suc, ◌+◌, max, Bool, true, false, cond, ◌&&◌, ◌||◌, not, nat_eq, nat_le, int_le, pos, List, slice_get, Option, Some, None, option_map, length}
use Rattle.std.specs.List.{list_any, count_by, sum_by}
use Rattle.emp_ast.specs.declared.tree.VarId.{VarId}
use Rattle.emp_ast.specs.declared.tree.EquId.{EquId}
use Rattle.emp_ast.specs.declared.model.Relation.{Relation}
use Rattle.emp_ast.specs.declared.model.Relation.TheVariants.{Equal, AtLeast, AtMost, Nothing}
use Rattle.emp_ast.specs.declared.model.End.{End}
use Rattle.emp_ast.specs.declared.model.End.TheVariants.{Open, At}
use Rattle.emp_ast.specs.declared.model.Variable.{Variable}
use Rattle.emp_ast.specs.declared.model.Sense.{Sense}
use Rattle.emp_ast.specs.declared.model.Model.{Model}
use Rattle.emp_ast.specs.declared.annot.Block.{Block}
use Rattle.emp_ast.specs.declared.annot.Block.TheVariants.{Agent, Vi}
use Rattle.emp_ast.specs.declared.annot.Annot.{Annot}
use Rattle.emp_ast.specs.Parties.{block, names_variable, names_equation, is_dual, has_dual, is_implicit_equation, block_variables, listed_equations, functions, some_block_owns, is_goal, is_constraint}

-- ---- how often names are listed
abbrev pub variable_times : ℕ → List VarId → ℕ
variable_times v vs = count_by (λ x. nat_eq x.at v) vs

abbrev pub equation_times : ℕ → List EquId → ℕ
equation_times e es = count_by (λ x. nat_eq x.at e) es

abbrev pub is_twice : ℕ → Bool
is_twice n = nat_le 2 n

-- the variable is in an implicit pair
abbrev pub is_implicit : Annot → ℕ → Bool
is_implicit a v = list_any (λ i. nat_eq i.0.at v) a.implicits

-- as a leader's variable, in a bilevel file: the solve objective counts once, listed or not
abbrev pub leader_namings : Model → Annot → ℕ → ℕ
leader_namings m a v = cond a.bilevel (cond (is_goal m v) (max 1 (variable_times v a.leader)) (variable_times v a.leader)) 0

-- how many blocks own the variable
abbrev pub owners_of : Annot → ℕ → ℕ
owners_of a v = count_by (λ b. names_variable (block_variables b) v) a.blocks

-- as an own variable: all the blocks that list an implicit variable count as one
abbrev pub own_namings : Annot → ℕ → ℕ
own_namings a v = cond (is_implicit a v) (cond (some_block_owns a v) 1 0) (owners_of a v)

-- as a dual variable
abbrev pub dual_namings : Annot → ℕ → ℕ
dual_namings a v = count_by (λ d. nat_eq d.0.at v) a.duals

-- some block lists the equation
abbrev pub is_listed : Annot → ℕ → Bool
is_listed a e = list_any (λ b. names_equation (listed_equations b) e) a.blocks

-- the equation is the function of a pair
abbrev pub is_function : Annot → ℕ → Bool
is_function a e = list_any (λ b. names_equation (functions b) e) a.blocks

-- how often the blocks list the equation, all together
abbrev pub listings : Annot → ℕ → ℕ
listings a e = sum_by (λ b. equation_times e (listed_equations b)) a.blocks

-- how many of the first n blocks have the equation as a constraint
abbrev pub constrained_among : Model → Annot → ℕ → ℕ → ℕ
constrained_among m a e zero = 0
constrained_among m a e (suc k) = constrained_among m a e k + cond (is_constraint m a (block k) e) 1 0

abbrev pub constrained : Model → Annot → ℕ → ℕ
constrained m a e = constrained_among m a e (length a.blocks)

-- ---- relations and bounds
abbrev pub relation_of : Model → ℕ → Option Relation
relation_of m e = option_map (λ q. q.relation) (slice_get m.equations e)

-- the sign of a multiplier of the relation implies that it is at least 0, or at most 0
abbrev pub is_at_least_zero : Option Relation → Bool
is_at_least_zero (Some Equal) = false
is_at_least_zero (Some AtLeast) = true
is_at_least_zero (Some AtMost) = false
is_at_least_zero (Some Nothing) = true
is_at_least_zero None = false

abbrev pub is_at_most_zero : Option Relation → Bool
is_at_most_zero (Some Equal) = false
is_at_most_zero (Some AtLeast) = false
is_at_most_zero (Some AtMost) = true
is_at_most_zero (Some Nothing) = true
is_at_most_zero None = false

-- the sign of a multiplier of the relation implies the lower bound: there is none, or it is at most 0 and the multiplier is not
abbrev pub implies_low : Option Relation → End → Bool
implies_low r Open = true
implies_low r (At f) = is_at_least_zero r && int_le f.num (pos 0)

abbrev pub implies_high : Option Relation → End → Bool
implies_high r Open = true
implies_high r (At f) = is_at_most_zero r && int_le (pos 0) f.num

abbrev pub implies_bounds : Option Relation → Option Variable → Bool
implies_bounds r (Some x) = implies_low r x.low && implies_high r x.high
implies_bounds r None = true

-- ---- roles of an implicit variable
abbrev pub objective_is : Block → ℕ → Bool
objective_is (Agent sense objective vars equs) v = nat_eq objective.at v
objective_is (Vi zeros pairs equs) v = false

abbrev pub pair_names : Block → ℕ → Bool
pair_names (Agent sense objective vars equs) v = false
pair_names (Vi zeros pairs equs) v = list_any (λ q. nat_eq q.1.at v) pairs

-- the objective of a block, or the variable of a pair
abbrev pub has_role : Annot → ℕ → Bool
has_role a v = list_any (λ b. objective_is b v || pair_names b v) a.blocks

-- the solve objective of a bilevel file, or listed after `bilevel`
abbrev pub is_leaders : Model → Annot → ℕ → Bool
is_leaders m a v = a.bilevel && (is_goal m v || names_variable a.leader v)

-- ---- the rules
-- the file is bilevel and the solve statement names no objective
abbrev pub lacks_objective : Option (Sense × VarId) → Bool
lacks_objective (Some g) = false
lacks_objective None = true

abbrev pub leader_missing : Model → Annot → Bool
leader_missing m a = a.bilevel && lacks_objective m.goal

-- in an equilibrium file, in no block and no dual variable
abbrev pub unowned : Annot → ℕ → Bool
unowned a v = not a.bilevel && not (some_block_owns a v) && not (is_dual a v)

-- named twice as a leader's variable, own variable or dual variable; or listed twice in one block; or in two implicit pairs
abbrev pub owned_twice : Model → Annot → ℕ → Bool
owned_twice m a v =
    is_twice (leader_namings m a v + own_namings a v + dual_namings a v) || list_any (λ b. is_twice (variable_times v (block_variables b))) a.blocks || is_twice (count_by (λ i. nat_eq i.0.at v) a.implicits)

-- listed twice in one block; or the function of a pair and listed in any other place; or in an implicit pair and listed, or in
-- two implicit pairs
abbrev pub equation_twice : Annot → ℕ → Bool
equation_twice a e =
    list_any (λ b. is_twice (equation_times e (listed_equations b))) a.blocks || (is_function a e && is_twice (listings a e)) || (is_implicit_equation a e && is_listed a e) || is_twice (count_by (λ i. nat_eq i.1.at e) a.implicits)

-- in an equilibrium file, in no block and in no implicit pair
abbrev pub equation_left : Annot → ℕ → Bool
equation_left a e = not a.bilevel && not (is_listed a e) && not (is_implicit_equation a e)

-- the function of a pair with relation `=L=`
abbrev pub is_upper : Option Relation → Bool
is_upper (Some Equal) = false
is_upper (Some AtLeast) = false
is_upper (Some AtMost) = true
is_upper (Some Nothing) = false
is_upper None = false

abbrev pub vi_relation : Model → Annot → ℕ → Bool
vi_relation m a e = is_function a e && is_upper (relation_of m e)

-- named by `dualvar` or `visol`, and a constraint of no block
abbrev pub not_constraint : Model → Annot → ℕ → Bool
not_constraint m a e = (has_dual a e || names_equation a.visols e) && nat_eq (constrained m a e) 0

-- with a dual variable, a constraint of two or more blocks, and not under `visol`
abbrev pub dual_shared : Model → Annot → ℕ → Bool
dual_shared m a e = has_dual a e && is_twice (constrained m a e) && not (names_equation a.visols e)

-- with two dual variables
abbrev pub dual_twice : Annot → ℕ → Bool
dual_twice a e = is_twice (count_by (λ d. nat_eq d.1.at e) a.duals)

-- a dual variable with a bound that the sign of its multiplier does not imply
abbrev pub dual_bound : Model → Annot → ℕ → Bool
dual_bound m a v = list_any (λ d. nat_eq d.0.at v && not (implies_bounds (relation_of m d.1.at) (slice_get m.variables v))) a.duals

-- in an implicit pair and listed by no block, or an objective, the variable of a pair, a leader's variable or a dual variable
abbrev pub implicit_use : Model → Annot → ℕ → Bool
implicit_use m a v = is_implicit a v && (not (some_block_owns a v) || has_role a v || is_leaders m a v || is_dual a v)

-- in an implicit pair, with a relation other than `=E=`
abbrev pub is_tie : Option Relation → Bool
is_tie (Some Equal) = true
is_tie (Some AtLeast) = false
is_tie (Some AtMost) = false
is_tie (Some Nothing) = false
is_tie None = false

abbrev pub implicit_relation : Model → Annot → ℕ → Bool
implicit_relation m a e = is_implicit_equation a e && not (is_tie (relation_of m e))
