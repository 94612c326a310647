-- What products and quotients of polynomials give, by the forms that the operands stand for: each outcome with what is so
-- exactly there.
use Rattle.std.specs.Prelude.{◌≡◌, ◌≢◌, ◌⊎◌, ℕ, Bool, true, false, List, Option, Some, None, Result, Ok, Err}
use Rattle.emp_ast.specs.declared.tree.Operator.{Operator}
use Rattle.emp_ast.specs.declared.tree.Operator.TheVariants.{Times, Over}
use Rattle.emp_form.specs.Form.{Form, Monomial, DegreesFit}
use Rattle.emp_form.specs.Expansion.{JoinFits, joined_form, JoinHasDegree, JoinDividesByVariable, JoinDividesByZero}
use Rattle.emp_form.specs.Calls.{Formula, given, divided}
use Rattle.emp_form.specs.Wide.{Fractions, product_at, JoinIsWide, HasLarge}
use Rattle.emp_expand.specs.Factors.{factor, fractions, ordered, In}
use Rattle.emp_expand.specs.Stands.{Stands}
use Rattle.emp_expand.specs.Steps.{Ends, EndsWide}
use Rattle.emp_num.specs.declared.frac.Frac.{Frac}
use Rattle.emp_expand.specs.declared.coefficients.Coefficients.{Coefficients}
use Rattle.emp_expand.specs.declared.sums.PartFault.{PartFault}
use Rattle.emp_expand.specs.declared.sums.PartFault.TheVariants.{NoMemory as PartNoMemory, Wide as PartWide}
use Rattle.emp_expand.specs.declared.products.NodeFault.{NodeFault}
use Rattle.emp_expand.specs.declared.products.NodeFault.TheVariants.{NoMemory, Degree, DivideByVariable, DivideByZero, Wide}

abbrev pub result_at : Bool → Fractions → Fractions → Monomial → Formula
result_at false a b q = product_at a b q.0 q.1
result_at true a b q = divided (given (a q)) (given (b (None, None)))

-- ---- a list of products of variables
-- at the products in the list the finished result, elsewhere nothing
abbrev pub FilledAt : Bool → Coefficients → Coefficients → List Monomial → Monomial → Option Frac → Type 0
FilledAt over a b ks q o = (In q ks × Ends (result_at over (fractions a) (fractions b) q) o) ⊎ ((In q ks → ⊥) × (o ≡ None))

pub record Filled (over : Bool) (a b : Coefficients) (k : Monomial) (old new : Coefficients) : Type 0 where
  pub here : Ends (result_at over (fractions a) (fractions b) k) (factor new k)
  pub others : (q : Monomial) → q ≢ k → factor new q ≡ factor old q

abbrev pub FillsOne : {U : Type 0} → Bool → Coefficients → Coefficients → Monomial → Coefficients → Result U PartFault → Coefficients → Type 0
FillsOne over a b k old (Ok u) new = Filled over a b k old new
FillsOne over a b k old (Err PartWide) new = EndsWide (result_at over (fractions a) (fractions b) k)
FillsOne over a b k old (Err PartNoMemory) new = Unit {0}

abbrev pub Fills : Bool → Coefficients → Coefficients → List Monomial → Result Coefficients PartFault → Type 0
Fills over a b ks (Ok r) = (q : Monomial) → FilledAt over a b ks q (factor r q)
Fills over a b ks (Err PartWide) = (q : Monomial) × EndsWide (result_at over (fractions a) (fractions b) q)
Fills over a b ks (Err PartNoMemory) = Unit {0}

pub record WithOne (i : ℕ) (k : Monomial) (old new : List Monomial) : Type 0 where
  pub kept : (q : Monomial) → In q old → In q new
  pub each : (j : ℕ) → k ≡ (None, Some j) → In (ordered i j) new

pub record WithEach (i : ℕ) (ks old new : List Monomial) : Type 0 where
  pub kept : (q : Monomial) → In q old → In q new
  pub each : (j : ℕ) → In (None, Some j) ks → In (ordered i j) new

pub record WithOthers (k : Monomial) (ks old new : List Monomial) : Type 0 where
  pub kept : (q : Monomial) → In q old → In q new
  pub each : (i j : ℕ) → k ≡ (None, Some i) → In (None, Some j) ks → In (ordered i j) new

pub record WithPairs (is ks old new : List Monomial) : Type 0 where
  pub kept : (q : Monomial) → In q old → In q new
  pub each : (i j : ℕ) → In (None, Some i) is → In (None, Some j) ks → In (ordered i j) new

-- the list has each product of variables of either, and each of a variable of the one with a variable of the other
pub record Covers (a b : Coefficients) (ks : List Monomial) : Type 0 where
  pub first : (q : Monomial) → (In q ks → ⊥) → factor a q ≡ None
  pub second : (q : Monomial) → (In q ks → ⊥) → factor b q ≡ None
  pub pairs : (i j : ℕ) → (In (ordered i j) ks → ⊥) → (factor a (None, Some i) ≡ None) ⊎ (factor b (None, Some j) ≡ None)

-- ---- a part's outcome as a node's
abbrev pub OfPart : PartFault → NodeFault → Type 0
OfPart PartNoMemory n = n ≡ NoMemory
OfPart PartWide n = n ≡ Wide

abbrev pub Kept : Result Coefficients PartFault → Result Coefficients NodeFault → Type 0
Kept (Ok r) (Ok m) = m ≡ r
Kept (Ok r) (Err n) = ⊥
Kept (Err p) (Ok m) = ⊥
Kept (Err p) (Err n) = OfPart p n

-- ---- an operation that has no fault but Wide, where f and g are the operands' forms
abbrev pub JoinEndsWide : Operator → Form → Form → Type 0
JoinEndsWide op f g = JoinIsWide op f g ⊎ HasLarge (joined_form op f g)

abbrev pub Joined : Operator → Form → Form → Result Coefficients PartFault → Type 0
Joined op f g (Ok r) = Stands r (joined_form op f g) × (JoinEndsWide op f g → ⊥)
Joined op f g (Err PartWide) = JoinEndsWide op f g
Joined op f g (Err PartNoMemory) = Unit {0}

abbrev pub TimesGives : Coefficients → Coefficients → Result Coefficients PartFault → Type 0
TimesGives a b r = (f g : Form) → Stands a f → Stands b g → Joined Times f g r

abbrev pub OverGives : Coefficients → Coefficients → Result Coefficients PartFault → Type 0
OverGives a b r = (f g : Form) → Stands a f → Stands b g → Joined Over f g r

abbrev pub DegreesAre : Coefficients → Coefficients → Bool → Type 0
DegreesAre a b true = (f g : Form) → Stands a f → Stands b g → DegreesFit f g
DegreesAre a b false = (f g : Form) → Stands a f → Stands b g → DegreesFit f g → ⊥

-- ---- an operation with its faults
abbrev pub NodeJoined : Operator → Form → Form → Result Coefficients NodeFault → Type 0
NodeJoined op f g (Ok r) = Stands r (joined_form op f g) × JoinFits op f g × (JoinEndsWide op f g → ⊥)
NodeJoined op f g (Err NoMemory) = Unit {0}
NodeJoined op f g (Err Degree) = JoinHasDegree op f g
NodeJoined op f g (Err DivideByVariable) = JoinDividesByVariable op g
NodeJoined op f g (Err DivideByZero) = JoinDividesByZero op g
NodeJoined op f g (Err Wide) = JoinFits op f g × JoinEndsWide op f g

abbrev pub ProductGives : Coefficients → Coefficients → Result Coefficients NodeFault → Type 0
ProductGives a b r = (f g : Form) → Stands a f → Stands b g → NodeJoined Times f g r

abbrev pub QuotientGives : Coefficients → Coefficients → Result Coefficients NodeFault → Type 0
QuotientGives a b r = (f g : Form) → Stands a f → Stands b g → NodeJoined Over f g r
