-- What a party can do while the other variables stand: its given objective, its deviations and its rivals.
-- Throughout, m is the model, a the annotation, k the party, p the point at which the others' variables stand.
use Rattle.std.specs.Prelude.{◌≡◌, ℕ, ◌<◌, ◌≢◌, pos, ◌<ℤ◌, true, length, Option, Some, None}
use Rattle.emp_num.specs.Ratio.{Ratio, SameRatio}
use Rattle.emp_num.specs.Point.{Point, coordinate}
use Rattle.emp_ast.specs.declared.model.Equation.{Equation}
use Rattle.emp_ast.specs.declared.model.Sense.{Sense}
use Rattle.emp_ast.specs.declared.model.Model.{Model}
use Rattle.emp_ast.specs.declared.annot.Annot.{Annot}
use Rattle.emp_ast.specs.Meets.{MeetsEquation, MeetsBounds}
use Rattle.emp_ast.specs.Parties.{Party, leader, block, objective, EachOwn, EachOther, EachDefinition, EachConstraint}

-- one coordinate per variable of the model
abbrev pub Fits : Model → Point → Type 0
Fits m p = length p.nums ≡ length m.variables

-- ---- the given value of an objective
-- the fraction which, put in the place of w's coordinate, makes the equation hold
abbrev pub MakesHold : Equation → ℕ → Point → Ratio → Type 0
MakesHold q w p given = (r : Point) → SameRatio (coordinate r w) given → ((v : ℕ) → v ≢ w → SameRatio (coordinate r v) (coordinate p v)) → MeetsEquation r q

-- for an objective variable: what the equation that defines it gives; where none defines it, its coordinate
pub record IsGivenTo (m : Model) (a : Annot) (k : Party) (w : ℕ) (p : Point) (given : Ratio) : Type 0 where
  pub fraction : pos 0 <ℤ given.bottom
  pub defined : EachDefinition m a k (λ e q. MakesHold q w p given)
  pub otherwise : EachDefinition m a k (λ e q. ⊥) → SameRatio given (coordinate p w)

abbrev pub IsGivenFor : Model → Annot → Party → Option (Sense × ℕ) → Point → Ratio → Type 0
IsGivenFor m a k (Some w) p given = IsGivenTo m a k w.1 p given
IsGivenFor m a k None p given = ⊥

-- the given value of the party's objective at the point
abbrev pub IsGiven : Model → Annot → Party → Point → Ratio → Type 0
IsGiven m a k p given = IsGivenFor m a k (objective m a k) p given

-- the point meets each equation that defines an objective
pub record MeetsDefinitions (m : Model) (a : Annot) (p : Point) : Type 0 where
  pub blocks : (k : ℕ) → k < length a.blocks → EachDefinition m a (block k) (λ e q. MeetsEquation p q)
  pub leads : a.bilevel ≡ true → EachDefinition m a leader (λ e q. MeetsEquation p q)

-- ---- deviations and rivals
-- r agrees with p on every variable that is not the party's own, is within the bounds of the own ones, and meets the
-- equation that defines the objective
pub record IsDeviation (m : Model) (a : Annot) (k : Party) (p r : Point) : Type 0 where
  pub fits : Fits m r
  pub others : EachOther m a k (λ v. SameRatio (coordinate r v) (coordinate p v))
  pub bounds : EachOwn m a k (λ v x. MeetsBounds r v x)
  pub definition : EachDefinition m a k (λ e q. MeetsEquation r q)

-- a deviation that meets the party's constraints
pub record IsRival (m : Model) (a : Annot) (k : Party) (p r : Point) : Type 0 where
  pub deviation : IsDeviation m a k p r
  pub constraints : EachConstraint m a k (λ e q. MeetsEquation r q)

-- the point meets the party's bounds, definition and constraints: it is a rival of itself
abbrev pub IsFeasible : Model → Annot → Party → Point → Type 0
IsFeasible m a k p = IsRival m a k p p
