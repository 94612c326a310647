-- What `settle` answers: the first broken rule, or owners and definitions.
use Rattle.std.specs.Prelude.{◌≡◌, ℕ, ◌+◌, ◌<◌, Bool, true, false, ◌&&◌, nat_eq, List, length, slice_get, Option, Some, None, Result, Ok, Err}
use Rattle.std.specs.List.{list_any}
use Rattle.emp_ast.specs.declared.tree.EquId.{EquId}
use Rattle.emp_ast.specs.declared.model.Model.{Model}
use Rattle.emp_ast.specs.declared.annot.Annot.{Annot}
use Rattle.emp_ast.specs.Parties.{Party, leader, block, owns, defines}
use Rattle.emp_owner.specs.declared.owned.Owner.{Owner}
use Rattle.emp_owner.specs.declared.owned.Owner.TheVariants.{Leader, Block, Dual, Implicit}
use Rattle.emp_owner.specs.declared.owned.OwnFault.{OwnFault}
use Rattle.emp_owner.specs.declared.owned.OwnFault.TheVariants.{LeaderMissing, Unowned, OwnedTwice, EquationTwice, EquationLeft, ViRelation, NotConstraint, DualShared, DualTwice, DualBound, ImplicitUse, ImplicitRelation, NoMemory}
use Rattle.emp_owner.specs.declared.owned.Owned.{Owned}
use Rattle.emp_owner.specs.Rules.{is_implicit, leader_missing, unowned, owned_twice, equation_twice, equation_left, vi_relation, not_constraint, dual_shared, dual_twice, dual_bound, implicit_use, implicit_relation}

-- ---- the first broken rule
-- the first of n in order of declaration that passes the test; none of them passes it
abbrev pub IsFirst : ℕ → (ℕ → Bool) → ℕ → Type 0
IsFirst n test k = (k < n) × (test k ≡ true) × ((j : ℕ) → j < k → test j ≡ false)

abbrev pub NoneOf : ℕ → (ℕ → Bool) → Type 0
NoneOf n test = (j : ℕ) → j < n → test j ≡ false

abbrev pub NoVariable : Model → (ℕ → Bool) → Type 0
NoVariable m test = NoneOf (length m.variables) test

abbrev pub NoEquation : Model → (ℕ → Bool) → Type 0
NoEquation m test = NoneOf (length m.equations) test

-- the first rules, as many as the number says, are kept
abbrev pub Kept1 : Model → Annot → Type 0
Kept1 m a = leader_missing m a ≡ false

abbrev pub Kept2 : Model → Annot → Type 0
Kept2 m a = Kept1 m a × NoVariable m (unowned a)

abbrev pub Kept3 : Model → Annot → Type 0
Kept3 m a = Kept2 m a × NoVariable m (owned_twice m a)

abbrev pub Kept4 : Model → Annot → Type 0
Kept4 m a = Kept3 m a × NoEquation m (equation_twice a)

abbrev pub Kept5 : Model → Annot → Type 0
Kept5 m a = Kept4 m a × NoEquation m (equation_left a)

abbrev pub Kept6 : Model → Annot → Type 0
Kept6 m a = Kept5 m a × NoEquation m (vi_relation m a)

abbrev pub Kept7 : Model → Annot → Type 0
Kept7 m a = Kept6 m a × NoEquation m (not_constraint m a)

abbrev pub Kept8 : Model → Annot → Type 0
Kept8 m a = Kept7 m a × NoEquation m (dual_shared m a)

abbrev pub Kept9 : Model → Annot → Type 0
Kept9 m a = Kept8 m a × NoEquation m (dual_twice a)

abbrev pub Kept10 : Model → Annot → Type 0
Kept10 m a = Kept9 m a × NoVariable m (dual_bound m a)

abbrev pub Kept11 : Model → Annot → Type 0
Kept11 m a = Kept10 m a × NoVariable m (implicit_use m a)

-- no rule is broken
abbrev pub IsKept : Model → Annot → Type 0
IsKept m a = Kept11 m a × NoEquation m (implicit_relation m a)

abbrev pub FirstVariable : Model → (ℕ → Bool) → ℕ → Type 0
FirstVariable m test v = IsFirst (length m.variables) test v

abbrev pub FirstEquation : Model → (ℕ → Bool) → ℕ → Type 0
FirstEquation m test e = IsFirst (length m.equations) test e

-- the fault's rule is the first that is broken, and its variable or equation the first that breaks it
abbrev pub IsFirstBroken : Model → Annot → OwnFault → Type 0
IsFirstBroken m a LeaderMissing = leader_missing m a ≡ true
IsFirstBroken m a (Unowned v) = Kept1 m a × FirstVariable m (unowned a) v.at
IsFirstBroken m a (OwnedTwice v) = Kept2 m a × FirstVariable m (owned_twice m a) v.at
IsFirstBroken m a (EquationTwice e) = Kept3 m a × FirstEquation m (equation_twice a) e.at
IsFirstBroken m a (EquationLeft e) = Kept4 m a × FirstEquation m (equation_left a) e.at
IsFirstBroken m a (ViRelation e) = Kept5 m a × FirstEquation m (vi_relation m a) e.at
IsFirstBroken m a (NotConstraint e) = Kept6 m a × FirstEquation m (not_constraint m a) e.at
IsFirstBroken m a (DualShared e) = Kept7 m a × FirstEquation m (dual_shared m a) e.at
IsFirstBroken m a (DualTwice e) = Kept8 m a × FirstEquation m (dual_twice a) e.at
IsFirstBroken m a (DualBound v) = Kept9 m a × FirstVariable m (dual_bound m a) v.at
IsFirstBroken m a (ImplicitUse v) = Kept10 m a × FirstVariable m (implicit_use m a) v.at
IsFirstBroken m a (ImplicitRelation e) = Kept11 m a × FirstEquation m (implicit_relation m a) e.at
IsFirstBroken m a NoMemory = Unit {0}

-- ---- owners and definitions
-- the owner of variable v: the equation of its implicit pair, that of which it is the dual variable, the block that owns it (its
-- number from 1), or the leader of a bilevel file
abbrev pub IsOwner : Model → Annot → ℕ → Owner → Type 0
IsOwner m a v (Implicit e) = list_any (λ i. nat_eq i.0.at v && nat_eq i.1.at e.at) a.implicits ≡ true
IsOwner m a v (Dual e) = list_any (λ d. nat_eq d.0.at v && nat_eq d.1.at e.at) a.duals ≡ true
IsOwner m a v (Block n) = (k : ℕ) × (n ≡ k + 1) × (k < length a.blocks) × (owns m a (block k) v ≡ true) × (is_implicit a v ≡ false)
IsOwner m a v Leader = (a.bilevel ≡ true) × (owns m a leader v ≡ true)

-- the equation that defines the party's objective, or none where none does
abbrev pub IsDefinition : Model → Annot → Party → Option EquId → Type 0
IsDefinition m a p (Some e) = defines m a p e.at ≡ true
IsDefinition m a p None = (e : ℕ) → defines m a p e ≡ false

abbrev pub IsLeaderDefinition : Model → Annot → Bool → Option EquId → Type 0
IsLeaderDefinition m a true o = IsDefinition m a leader o
IsLeaderDefinition m a false o = o ≡ None

-- one entry for each block
pub record AreDefinitions (m : Model) (a : Annot) (list : List (Option EquId)) : Type 0 where
  pub blocks : length list ≡ length a.blocks
  pub defined : (k : ℕ) (d : Option EquId) → slice_get list k ≡ Some d → IsDefinition m a (block k) d

-- one owner for each variable
pub record AreOwners (m : Model) (a : Annot) (list : List Owner) : Type 0 where
  pub count : length list ≡ length m.variables
  pub owners : (v : ℕ) (w : Owner) → slice_get list v ≡ Some w → IsOwner m a v w

-- one owner for each variable, one entry for each block, and in a bilevel file the leader's definition
pub record AreOwned (m : Model) (a : Annot) (o : Owned) : Type 0 where
  pub owners : AreOwners m a o.owners
  pub defined : AreDefinitions m a o.defined
  pub leader : IsLeaderDefinition m a a.bilevel o.leader

abbrev pub SettleGives : Model → Annot → Result Owned OwnFault → Type 0
SettleGives m a (Ok o) = IsKept m a × AreOwned m a o
SettleGives m a (Err f) = IsFirstBroken m a f
