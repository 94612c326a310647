-- Definitions as they are looked for: among the equations of a block. This serves the proofs of `settle` alone.
use Rattle.std.specs.Prelude.{◌≡◌, ℕ, ◌+◌, ◌<◌, Bool, true, false, ◌&&◌, ◌||◌, not, nat_eq, List, length, slice_get, Option, Some, None}
use Rattle.std.specs.List.{list_any}
use Rattle.emp_ast.specs.declared.tree.VarId.{VarId}
use Rattle.emp_ast.specs.declared.tree.EquId.{EquId}
use Rattle.emp_ast.specs.declared.model.Sense.{Sense}
use Rattle.emp_ast.specs.declared.model.Model.{Model}
use Rattle.emp_ast.specs.declared.annot.Block.{Block}
use Rattle.emp_ast.specs.declared.annot.Annot.{Annot}
use Rattle.emp_ast.specs.Occurrence.{occurrences}
use Rattle.emp_owner.specs.declared.search.VariableRule.{VariableRule}
use Rattle.emp_owner.specs.declared.search.VariableRule.TheVariants.{NeedsOwner, NeedsOneOwner, NeedsImpliedBounds, NeedsPlainUse}
use Rattle.emp_owner.specs.declared.search.EquationRule.{EquationRule}
use Rattle.emp_owner.specs.declared.search.EquationRule.TheVariants.{NeedsOneListing, NeedsListing, NeedsFunctionRelation, NeedsOneDual, NeedsEquality}
use Rattle.emp_owner.specs.declared.search.ConstraintRule.{ConstraintRule}
use Rattle.emp_owner.specs.declared.search.ConstraintRule.TheVariants.{NeedsConstraint, NeedsOneBlock}
use Rattle.emp_owner.specs.declared.tied.Tied.{Tied}
use Rattle.emp_owner.specs.declared.tied.Tied.TheVariants.{Nothing, One, More}
use Rattle.emp_owner.specs.Rules.{unowned, owned_twice, equation_twice, equation_left, vi_relation, not_constraint, dual_shared, dual_twice, dual_bound, implicit_use, implicit_relation}
use Rattle.emp_owner.specs.Settled.{FirstVariable, NoVariable, FirstEquation, NoEquation}
use Rattle.emp_ast.specs.Parties.{block_owns, some_block_owns, names_equation, block_equations, some_block_has, holders, has_no_bound, is_dual, is_implicit_equation, ties, can_define, block_objective, block_variables, listed_equations, names_variable, functions}

-- w has no finite bound, is no dual variable, and is a leaf once
abbrev pub may_be_defined : Model → Annot → ℕ → Bool
may_be_defined m a w = has_no_bound (slice_get m.variables w) && not (is_dual a w) && nat_eq (occurrences w m.equations) 1

-- e is the equation of no implicit variable and ties w
abbrev pub may_define : Model → Annot → ℕ → ℕ → Bool
may_define m a w e = ties w (slice_get m.equations e) && not (is_implicit_equation a e)

-- what is found among listed equations: one that defines w and is one block's alone, or none
abbrev pub FindsAlone : Model → Annot → ℕ → List EquId → Option EquId → Type 0
FindsAlone m a w equs (Some e) = (names_equation equs e.at ≡ true) × (may_define m a w e.at ≡ true) × (nat_eq (holders a e.at) 1 ≡ true)
FindsAlone m a w equs None = (e : ℕ) → names_equation equs e ≡ true → (may_define m a w e && nat_eq (holders a e) 1) ≡ false

-- what is found among the equations that no block has
abbrev pub FindsLeft : Model → Annot → ℕ → Option EquId → Type 0
FindsLeft m a w (Some e) = (e.at < length m.equations) × (may_define m a w e.at ≡ true) × (some_block_has a e.at ≡ false)
FindsLeft m a w None = (e : ℕ) → e < length m.equations → (may_define m a w e && not (some_block_has a e)) ≡ false

-- equation e defines the objective of the block
abbrev pub defines_for : Model → Annot → Block → ℕ → Option (Sense × ℕ) → Bool
defines_for m a b e (Some w) = can_define m a e w.1 && (names_equation (block_equations a b) e && nat_eq (holders a e) 1)
defines_for m a b e None = false

abbrev pub block_defines : Model → Annot → Block → ℕ → Bool
block_defines m a b e = defines_for m a b e (block_objective (Some b))

abbrev pub IsBlockDefinition : Model → Annot → Block → Option EquId → Type 0
IsBlockDefinition m a b (Some e) = block_defines m a b e.at ≡ true
IsBlockDefinition m a b None = (e : ℕ) → block_defines m a b e ≡ false

-- the entry is equation e
abbrev pub is_entry : Option EquId → ℕ → Bool
is_entry (Some d) e = nat_eq d.at e
is_entry None e = false

-- ---- what a search of pairs and blocks finds
abbrev pub FindsPair : List (VarId × EquId) → ℕ → Option EquId → Type 0
FindsPair pairs v (Some e) = list_any (λ i. nat_eq i.0.at v && nat_eq i.1.at e.at) pairs ≡ true
FindsPair pairs v None = list_any (λ i. nat_eq i.0.at v) pairs ≡ false

-- a block that owns the variable, by its number from 1, or none
abbrev pub FindsBlock : Annot → ℕ → Option ℕ → Type 0
FindsBlock a v (Some n) = (k : ℕ) × (n ≡ k + 1) × (k < length a.blocks) × (block_owns (slice_get a.blocks k) v ≡ true)
FindsBlock a v None = some_block_owns a v ≡ false

-- the first variable or equation that passes a test, or none
abbrev pub FindsVariable : Model → (ℕ → Bool) → Option VarId → Type 0
FindsVariable m test (Some v) = FirstVariable m test v.at
FindsVariable m test None = NoVariable m test

abbrev pub FindsEquation : Model → (ℕ → Bool) → Option EquId → Type 0
FindsEquation m test (Some e) = FirstEquation m test e.at
FindsEquation m test None = NoEquation m test

-- ---- rules of one kind
abbrev pub variable_test : VariableRule → Model → Annot → ℕ → Bool
variable_test NeedsOwner m a = unowned a
variable_test NeedsOneOwner m a = owned_twice m a
variable_test NeedsImpliedBounds m a = dual_bound m a
variable_test NeedsPlainUse m a = implicit_use m a

abbrev pub equation_test : EquationRule → Model → Annot → ℕ → Bool
equation_test NeedsOneListing m a = equation_twice a
equation_test NeedsListing m a = equation_left a
equation_test NeedsFunctionRelation m a = vi_relation m a
equation_test NeedsOneDual m a = dual_twice a
equation_test NeedsEquality m a = implicit_relation m a

abbrev pub constraint_test : ConstraintRule → Model → Annot → ℕ → Bool
constraint_test NeedsConstraint m a = not_constraint m a
constraint_test NeedsOneBlock m a = dual_shared m a

-- a constraint of a block whose definition is the entry
abbrev pub block_constrains : Annot → Block → Option EquId → ℕ → Bool
block_constrains a b d e = names_equation (block_equations a b) e && not (is_entry d e) && not (names_equation (functions b) e)

-- ---- the variables in an implicit pair with an equation
abbrev pub tied_with : Tied → VarId → Tied
tied_with Nothing v = One v
tied_with (One w) v = More
tied_with More v = More

-- one of them passes the test
abbrev pub tied_by : Tied → List (VarId × EquId) → ℕ → (ℕ → Bool) → Bool
tied_by Nothing pairs e test = false
tied_by (One v) pairs e test = test v.at
tied_by More pairs e test = list_any (λ i. nat_eq i.1.at e && test i.0.at) pairs

-- what a test of the variables gives, by those in an implicit pair with e
abbrev pub TellsTied : List (VarId × EquId) → ℕ → Tied → Type 0
TellsTied pairs e t = (test : ℕ → Bool) → list_any (λ i. nat_eq i.1.at e && test i.0.at) pairs ≡ tied_by t pairs e test

-- the block lists the equation, or owns one of them
abbrev pub has_by : Tied → Annot → Block → ℕ → Bool
has_by t a b e = names_equation (listed_equations b) e || tied_by t a.implicits e (names_variable (block_variables b))

-- ---- one entry for each equation: whether exactly one block has it
pub record AreAlone (m : Model) (a : Annot) (list : List Bool) : Type 0 where
  pub count : length list ≡ length m.equations
  pub alone : (e : ℕ) (b : Bool) → slice_get list e ≡ Some b → b ≡ nat_eq (holders a e) 1
