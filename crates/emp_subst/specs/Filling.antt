-- What the parts of `fill` give. This serves proofs; no meaning cites it.
use Rattle.std.specs.Prelude.{◌≡◌, ℕ, ◌<◌, ◌*ℤ◌, false, true, ◌&&◌, cond, nat_eq, List, length, slice_get, Option, Some, None, Result, Ok, Err}
use Rattle.emp_num.specs.declared.frac.Frac.{Frac}
use Rattle.emp_ast.specs.declared.tree.VarId.{VarId}
use Rattle.emp_ast.specs.declared.tree.EquId.{EquId}
use Rattle.emp_ast.specs.declared.model.Sense.{Sense}
use Rattle.emp_ast.specs.declared.model.Model.{Model}
use Rattle.emp_ast.specs.declared.annot.Annot.{Annot}
use Rattle.emp_ast.specs.Parties.{Party, leader, block, objective, is_defined, is_defined_of, some_block_defines}
use Rattle.emp_form.specs.Calls.{Formula, Gives, HasWideCall}
use Rattle.emp_poly.specs.Written.{entry}
use Rattle.emp_problem.specs.declared.problem.AgentProblem.{AgentProblem}
use Rattle.emp_subst.specs.declared.fault.FillFault.{FillFault}
use Rattle.emp_subst.specs.declared.fault.FillFault.TheVariants.{Wide, NoMemory}
use Rattle.emp_subst.specs.Stages.{sign_of, is_max, is_some}
use Rattle.emp_subst.specs.Fill.{IsFold, IsBlockFold, IsLeaderFold, IsFirstWide}

-- what the fold gives, where `Wide` names the variable
abbrev pub FoldGives : Formula → VarId → Result Frac FillFault → Type 0
FoldGives f v (Ok r) = Gives f r × (HasWideCall f → ⊥)
FoldGives f v (Err (Wide w)) = (w ≡ v) × HasWideCall f
FoldGives f v (Err NoMemory) = Unit {0}

-- the value, and for `max` its opposite
pub record IsTurned (s : Sense) (x r : Frac) : Type 0 where
  pub num : r.num ≡ sign_of (is_max s) *ℤ x.num
  pub den : r.den ≡ x.den

pub record TurnsFold (s : Sense) (f : Formula) (r : Frac) : Type 0 where
  pub number : Frac
  pub gives : Gives f number
  pub narrow : HasWideCall f → ⊥
  pub turned : IsTurned s number r

abbrev pub TurnedGives : Sense → Formula → VarId → Result Frac FillFault → Type 0
TurnedGives s f v (Ok r) = TurnsFold s f r
TurnedGives s f v (Err (Wide w)) = (w ≡ v) × HasWideCall f
TurnedGives s f v (Err NoMemory) = Unit {0}

-- the sense of the objective with a definition, where it is the variable
abbrev pub sense_by : Option EquId → Option (Sense × ℕ) → ℕ → Option Sense
sense_by d None v = None
sense_by d (Some w) v = cond (nat_eq w.1 v && is_some d) (Some w.0) None

-- a party whose objective of this sense the variable is, with a definition
abbrev pub Solves : Model → Annot → Party → ℕ → Sense → Type 0
Solves m a k v s = (objective m a k ≡ Some (s, v)) × (is_defined_of m a k v ≡ true)

abbrev pub FindsBlock : Model → Annot → ℕ → Option (ℕ × Sense) → Type 0
FindsBlock m a v (Some t) = (t.0 < length a.blocks) × Solves m a (block t.0) v t.1
FindsBlock m a v None = some_block_defines m a v (length a.blocks) ≡ false

abbrev pub FindsLeader : Model → Annot → ℕ → Option Sense → Type 0
FindsLeader m a v (Some s) = (a.bilevel ≡ true) × Solves m a leader v s
FindsLeader m a v None = (a.bilevel && is_defined_of m a leader v) ≡ false

-- the party's fold of the variable
abbrev pub PartyFold : Model → Annot → AgentProblem → List Frac → ℕ → Party → Formula → Type 0
PartyFold m a pr xs v leader f = IsLeaderFold m a pr xs v f
PartyFold m a pr xs v (block k) f = (h : IsBlockFold m a pr xs v f) × (h.number ≡ k)

-- the value of a variable: what the fold of the party that defines it gives, or its entry
pub record IsValue (m : Model) (a : Annot) (pr : AgentProblem) (xs : List Frac) (v : ℕ) (r : Frac) : Type 0 where
  pub left : is_defined m a v ≡ false → r ≡ entry xs v
  pub fold : (k : Party) (s : Sense) (f : Formula) → Solves m a k v s → PartyFold m a pr xs v k f → TurnsFold s f r

pub record IsWideAt (m : Model) (a : Annot) (pr : AgentProblem) (xs : List Frac) (v : ℕ) : Type 0 where
  pub formula : Formula
  pub fold : IsFold m a pr xs v formula
  pub wide : HasWideCall formula

abbrev pub ValueGives : Model → Annot → AgentProblem → List Frac → VarId → Result Frac FillFault → Type 0
ValueGives m a pr xs v (Ok r) = IsValue m a pr xs v.at r
ValueGives m a pr xs v (Err (Wide w)) = (w ≡ v) × IsWideAt m a pr xs v.at
ValueGives m a pr xs v (Err NoMemory) = Unit {0}

pub record AreValues (m : Model) (a : Annot) (pr : AgentProblem) (xs list : List Frac) : Type 0 where
  pub count : length list ≡ length m.variables
  pub each : (v : ℕ) (r : Frac) → slice_get list v ≡ Some r → IsValue m a pr xs v r

abbrev pub ValuesGive : Model → Annot → AgentProblem → List Frac → Result (List Frac) FillFault → Type 0
ValuesGive m a pr xs (Ok list) = AreValues m a pr xs list
ValuesGive m a pr xs (Err (Wide w)) = IsFirstWide m a pr xs w.at
ValuesGive m a pr xs (Err NoMemory) = Unit {0}
