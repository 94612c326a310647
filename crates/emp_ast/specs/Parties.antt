-- The parties of an annotation, which are its blocks and the leader: their own variables, their equations, the equation
-- that defines their objective, and their constraints.
use Rattle.std.specs.Prelude.{◌≡◌, ℕ, zero, suc, ◌+◌, ◌<◌, Bool, true, false, ◌&&◌, ◌||◌, not, nat_eq, List, [], ◌∷◌, ◌++◌, map, filter, length, slice_get, Option, Some, None}
use Rattle.std.specs.List.{list_any}
use Rattle.emp_ast.specs.declared.tree.VarId.{VarId}
use Rattle.emp_ast.specs.declared.tree.EquId.{EquId}
use Rattle.emp_ast.specs.declared.model.Relation.{Relation}
use Rattle.emp_ast.specs.declared.model.Relation.TheVariants.{Equal, AtLeast, AtMost, Nothing}
use Rattle.emp_ast.specs.declared.model.Equation.{Equation}
use Rattle.emp_ast.specs.declared.model.End.{End}
use Rattle.emp_ast.specs.declared.model.End.TheVariants.{Open, At}
use Rattle.emp_ast.specs.declared.model.Sense.{Sense}
use Rattle.emp_ast.specs.declared.model.Variable.{Variable}
use Rattle.emp_ast.specs.declared.model.Model.{Model}
use Rattle.emp_ast.specs.declared.annot.Block.{Block}
use Rattle.emp_ast.specs.declared.annot.Block.TheVariants.{Agent, Vi}
use Rattle.emp_ast.specs.declared.annot.Annot.{Annot}
use Rattle.emp_ast.specs.Occurrence.{occurrences, is_summand_of}

-- the leader, or the block of this number, from 0 in the order of the annotation
pub data Party : Type 0 where
  leader : Party
  block : ℕ → Party

-- ---- lists of variables and equations
abbrev pub names_variable : List VarId → ℕ → Bool
names_variable vs k = list_any (λ v. nat_eq v.at k) vs

abbrev pub names_equation : List EquId → ℕ → Bool
names_equation es k = list_any (λ e. nat_eq e.at k) es

abbrev pub is_dual : Annot → ℕ → Bool
is_dual a v = list_any (λ d. nat_eq d.0.at v) a.duals

abbrev pub has_dual : Annot → ℕ → Bool
has_dual a e = list_any (λ d. nat_eq d.1.at e) a.duals

abbrev pub is_implicit_equation : Annot → ℕ → Bool
is_implicit_equation a e = list_any (λ i. nat_eq i.1.at e) a.implicits

-- ---- blocks
-- an agent owns its objective variable and those that it lists; a variational inequality its variables with function zero
-- and those of its pairs
abbrev pub block_variables : Block → List VarId
block_variables (Agent sense objective vars equs) = objective ∷ vars
block_variables (Vi zeros pairs equs) = zeros ++ map (λ q. q.1) pairs

abbrev pub listed_equations : Block → List EquId
listed_equations (Agent sense objective vars equs) = equs
listed_equations (Vi zeros pairs equs) = map (λ q. q.0) pairs ++ equs

-- the functions of the pairs
abbrev pub functions : Block → List EquId
functions (Agent sense objective vars equs) = []
functions (Vi zeros pairs equs) = map (λ q. q.0) pairs

-- those that the block lists, and then the equation of each implicit variable that it lists, in the order of the implicit pairs
abbrev pub block_equations : Annot → Block → List EquId
block_equations a b = listed_equations b ++ map (λ i. i.1) (filter (λ i. names_variable (block_variables b) i.0.at) a.implicits)

-- ---- own variables
abbrev pub block_owns : Option Block → ℕ → Bool
block_owns (Some b) v = names_variable (block_variables b) v
block_owns None v = false

abbrev pub some_block_owns : Annot → ℕ → Bool
some_block_owns a v = list_any (λ b. names_variable (block_variables b) v) a.blocks

abbrev pub is_goal : Model → ℕ → Bool
is_goal m v = goal_is m.goal v
  where
    goal_is : Option (Sense × VarId) → ℕ → Bool
    goal_is (Some g) v = nat_eq g.1.at v
    goal_is None v = false

-- the leader owns the solve objective, the variables listed after `bilevel`, and each variable that is in no block and is
-- no dual variable
abbrev pub owns : Model → Annot → Party → ℕ → Bool
owns m a leader v = is_goal m v || names_variable a.leader v || (not (some_block_owns a v) && not (is_dual a v))
owns m a (block k) v = block_owns (slice_get a.blocks k) v

-- ---- equations
abbrev pub some_block_has : Annot → ℕ → Bool
some_block_has a e = list_any (λ b. names_equation (block_equations a b) e) a.blocks

-- the numbers from `at` on, as many as there are equations
abbrev pub all_equations : ℕ → List Equation → List EquId
all_equations at [] = []
all_equations at (q ∷ qs) = record { at = at } ∷ all_equations (at + 1) qs

abbrev pub equations_by : Annot → Option Block → List EquId
equations_by a (Some b) = block_equations a b
equations_by a None = []

-- the leader's are those that no block has, in order of declaration
abbrev pub equations : Model → Annot → Party → List EquId
equations m a leader = filter (λ e. not (some_block_has a e.at)) (all_equations 0 m.equations)
equations m a (block k) = equations_by a (slice_get a.blocks k)

-- how many blocks have the equation
abbrev pub holders : Annot → ℕ → ℕ
holders a e = length (filter (λ b. names_equation (block_equations a b) e) a.blocks)

-- the equation is one of the party's and of no other's
abbrev pub has_alone : Model → Annot → Party → ℕ → Bool
has_alone m a leader e = names_equation (equations m a leader) e
has_alone m a (block k) e = names_equation (equations m a (block k)) e && nat_eq (holders a e) 1

-- ---- objectives and the equations that define them
abbrev pub block_objective : Option Block → Option (Sense × ℕ)
block_objective (Some (Agent sense objective vars equs)) = Some (sense, objective.at)
block_objective (Some (Vi zeros pairs equs)) = None
block_objective None = None

abbrev pub goal_objective : Option (Sense × VarId) → Option (Sense × ℕ)
goal_objective (Some g) = Some (g.0, g.1.at)
goal_objective None = None

-- the objective variable of the party, and whether it is to be least or greatest
abbrev pub objective : Model → Annot → Party → Option (Sense × ℕ)
objective m a leader = goal_objective m.goal
objective m a (block k) = block_objective (slice_get a.blocks k)

abbrev pub is_open : End → Bool
is_open Open = true
is_open (At f) = false

abbrev pub has_no_bound : Option Variable → Bool
has_no_bound (Some x) = is_open x.low && is_open x.high
has_no_bound None = false

abbrev pub is_equality : Relation → Bool
is_equality Equal = true
is_equality AtLeast = false
is_equality AtMost = false
is_equality Nothing = false

abbrev pub ties : ℕ → Option Equation → Bool
ties w (Some q) = is_equality q.relation && is_summand_of w q
ties w None = false

-- equation e is such as to define variable w: w has no finite bound and is no dual variable, and is a leaf exactly once in
-- all equations; that leaf is in e, with only sums, differences and negations above it; e has relation `=E=` and is the
-- equation of no implicit variable
abbrev pub can_define : Model → Annot → ℕ → ℕ → Bool
can_define m a e w =
    has_no_bound (slice_get m.variables w) && not (is_dual a w) && nat_eq (occurrences w m.equations) 1 && ties w (slice_get m.equations e) && not (is_implicit_equation a e)

abbrev pub defines_by : Model → Annot → Party → ℕ → Option (Sense × ℕ) → Bool
defines_by m a p e (Some w) = can_define m a e w.1 && has_alone m a p e
defines_by m a p e None = false

-- equation e defines the party's objective: it can, and it is the party's alone; `DefinesObjective` is the same in one
-- sentence
abbrev pub defines : Model → Annot → Party → ℕ → Bool
defines m a p e = defines_by m a p e (objective m a p)

-- the variable is an objective that some equation of the party defines
abbrev pub is_defined_by : Model → Annot → Party → ℕ → Option (Sense × ℕ) → Bool
is_defined_by m a p v (Some w) = nat_eq w.1 v && list_any (λ e. defines m a p e.at) (equations m a p)
is_defined_by m a p v None = false

abbrev pub is_defined_of : Model → Annot → Party → ℕ → Bool
is_defined_of m a p v = is_defined_by m a p v (objective m a p)

abbrev pub some_block_defines : Model → Annot → ℕ → ℕ → Bool
some_block_defines m a v zero = false
some_block_defines m a v (suc k) = is_defined_of m a (block k) v || some_block_defines m a v k

-- the variable is the defined objective of a block, or of the leader in a bilevel file
abbrev pub is_defined : Model → Annot → ℕ → Bool
is_defined m a v = some_block_defines m a v (length a.blocks) || (a.bilevel && is_defined_of m a leader v)

-- ---- constraints
abbrev pub block_functions : Annot → Party → List EquId
block_functions a leader = []
block_functions a (block k) = functions_by (slice_get a.blocks k)
  where
    functions_by : Option Block → List EquId
    functions_by (Some b) = functions b
    functions_by None = []

-- an equation of the party that neither defines its objective nor is the function of a pair
abbrev pub is_constraint : Model → Annot → Party → ℕ → Bool
is_constraint m a p e = names_equation (equations m a p) e && not (defines m a p e) && not (names_equation (block_functions a p) e)

-- the party's constraints in its order
abbrev pub constraints : Model → Annot → Party → List EquId
constraints m a p = filter (λ e. is_constraint m a p e.at) (equations m a p)

-- ---- each own variable, each other variable, each definition, each constraint
abbrev pub EachOwn : Model → Annot → Party → (ℕ → Variable → Type 0) → Type 0
EachOwn m a p P = (v : ℕ) (x : Variable) → slice_get m.variables v ≡ Some x → owns m a p v ≡ true → P v x

abbrev pub EachOther : Model → Annot → Party → (ℕ → Type 0) → Type 0
EachOther m a p P = (v : ℕ) → v < length m.variables → owns m a p v ≡ false → P v

abbrev pub EachDefinition : Model → Annot → Party → (ℕ → Equation → Type 0) → Type 0
EachDefinition m a p P = (e : ℕ) (q : Equation) → slice_get m.equations e ≡ Some q → defines m a p e ≡ true → P e q

abbrev pub EachConstraint : Model → Annot → Party → (ℕ → Equation → Type 0) → Type 0
EachConstraint m a p P = (e : ℕ) (q : Equation) → slice_get m.equations e ≡ Some q → is_constraint m a p e ≡ true → P e q
