-- The polynomial of a party's objective: what the equation that defines it gives, and the variable itself where none does.
use Rattle.std.specs.Prelude.{◌≡◌, ◌↔◌, ◌⊎◌, ℕ, suc, ℤ, pos, negsuc, neg_ℤ, ◌+ℤ◌, ◌*ℤ◌, ◌<ℤ◌, Bool, cond, nat_eq, List, [], ◌∷◌, Option, Some, None}
use Rattle.emp_num.specs.Ratio.{Ratio, SameRatio}
use Rattle.emp_num.specs.Point.{Point}
use Rattle.emp_ast.specs.declared.tree.Operator.{Operator}
use Rattle.emp_ast.specs.declared.tree.Operator.TheVariants.{Plus, Minus, Times, Over}
use Rattle.emp_ast.specs.declared.model.Equation.{Equation}
use Rattle.emp_ast.specs.declared.model.Sense.{Sense}
use Rattle.emp_ast.specs.declared.model.Model.{Model}
use Rattle.emp_ast.specs.declared.annot.Annot.{Annot}
use Rattle.emp_ast.specs.Expression.{Expression, number, variable, negated, joined, power, expression_of}
use Rattle.emp_ast.specs.Occurrence.{leaves}
use Rattle.emp_ast.specs.Parties.{Party, objective, defines, EachDefinition}
use Rattle.emp_ast.specs.Rivals.{IsGiven}
use Rattle.emp_form.specs.Form.{Form, form_of, variable_form, form_value}
use Rattle.emp_form.specs.Expansion.{form, IsPolynomial}

-- ---- the sign of a leaf
abbrev pub joined_sign : Operator → ℤ → ℤ → ℤ
joined_sign Plus s t = s +ℤ t
joined_sign Minus s t = s +ℤ neg_ℤ t
joined_sign Times s t = pos 0
joined_sign Over s t = pos 0

-- of the leaves w that stand under sums, differences and negations alone, those that are added less those that are taken away
abbrev pub leaf_sign : ℕ → Expression → ℤ
leaf_sign w (number f) = pos 0
leaf_sign w (variable v) = cond (nat_eq v w) (pos 1) (pos 0)
leaf_sign w (negated e) = neg_ℤ (leaf_sign w e)
leaf_sign w (joined op e f) = joined_sign op (leaf_sign w e) (leaf_sign w f)
leaf_sign w (power e n) = pos 0

abbrev pub IsSign : ℤ → Type 0
IsSign s = (s ≡ pos 1) ⊎ (s ≡ negsuc 0)

-- ---- one variable of a form
-- the form without its term of w
abbrev pub without : ℕ → Form → Form
without w f = record { den = f.den; constant = f.constant; linear = λ i. cond (nat_eq i w) (pos 0) (f.linear i); square = f.square }

-- s times the form
abbrev pub times_form : ℤ → Form → Form
times_form s f = record { den = f.den; constant = s *ℤ f.constant; linear = λ i. s *ℤ f.linear i; square = λ i j. s *ℤ f.square i j }

-- w stands in the form with s alone, and in no product
pub record HasTerm (w : ℕ) (s : ℤ) (f : Form) : Type 0 where
  pub linear : f.linear w ≡ s *ℤ f.den
  pub first : (j : ℕ) → f.square w j ≡ pos 0
  pub second : (i : ℕ) → f.square i w ≡ pos 0

-- ---- the given polynomial
-- left minus right
abbrev pub difference : Equation → Expression
difference q = joined Minus (expression_of q.left.nodes) (expression_of q.right.nodes)

-- what the equation gives for w, whose leaf stands in the difference with sign s: -s times the rest
abbrev pub solved_form : ℕ → Equation → Form
solved_form w q = times_form (neg_ℤ (leaf_sign w (difference q))) (without w (form (difference q)))

-- the first entry whose number passes the test
abbrev pub first_at : {A : Type 0} → (ℕ → Bool) → List A → Option A
first_at test [] = None
first_at test (x ∷ xs) = cond (test 0) (Some x) (first_at (λ e. test (suc e)) xs)

-- the equation that defines the party's objective
abbrev pub definition : Model → Annot → Party → Option Equation
definition m a k = first_at (defines m a k) m.equations

abbrev pub given_by : ℕ → Option Equation → Form
given_by w (Some q) = solved_form w q
given_by w None = variable_form w

abbrev pub given_for : Option (Sense × ℕ) → Option Equation → Form
given_for (Some w) q = given_by w.1 q
given_for None q = form_of (pos 0) (pos 1)

-- the polynomial of the party's objective; 0 where it has none
abbrev pub given_form : Model → Annot → Party → Form
given_form m a k = given_for (objective m a k) (definition m a k)

-- both sides of each equation that defines the party's objective are polynomials
abbrev pub HasPolynomials : Model → Annot → Party → Type 0
HasPolynomials m a k = EachDefinition m a k (λ e q. IsPolynomial (expression_of q.left.nodes) × IsPolynomial (expression_of q.right.nodes))

-- ---- the laws
-- a variable that is no leaf does not stand in the polynomial
abbrev pub AbsentStandsNowhere : Type 0
AbsentStandsNowhere = (w : ℕ) (e : Expression) → leaves w e ≡ 0 → HasTerm w (pos 0) (form e)

-- in the difference of an equation that defines it the objective stands with its leaf's sign, which is 1 or -1, times den; in
-- what the equation gives for it it does not stand
pub record StandsOnce (w : ℕ) (q : Equation) : Type 0 where
  pub sign : IsSign (leaf_sign w (difference q))
  pub term : HasTerm w (leaf_sign w (difference q)) (form (difference q))
  pub gone : HasTerm w (pos 0) (solved_form w q)

abbrev pub ObjectiveStandsOnce : Type 0
ObjectiveStandsOnce = (m : Model) (a : Annot) (k : Party) (w : Sense × ℕ) → objective m a k ≡ Some w → EachDefinition m a k (λ e q. StandsOnce w.1 q)

-- at most one equation defines the objective, and the polynomial is what that one gives
pub record DefinitionGives (m : Model) (a : Annot) (k : Party) (w : ℕ) : Type 0 where
  pub defined : EachDefinition m a k (λ e q. given_form m a k ≡ solved_form w q)
  pub otherwise : EachDefinition m a k (λ e q. ⊥) → given_form m a k ≡ variable_form w

abbrev pub GivenFormIs : Type 0
GivenFormIs = (m : Model) (a : Annot) (k : Party) (w : Sense × ℕ) → objective m a k ≡ Some w → DefinitionGives m a k w.1

-- the given values at a point are the fractions that are equal to the polynomial's value there; no premise is on the length of
-- the point
pub record GivenHasForm (m : Model) (a : Annot) (k : Party) : Type 0 where
  pub den : pos 0 <ℤ (given_form m a k).den
  pub value : (p : Point) (g : Ratio) → IsGiven m a k p g ↔ ((pos 0 <ℤ g.bottom) × SameRatio g (form_value p (given_form m a k)))

abbrev pub GivenIsForm : Type 0
GivenIsForm = (m : Model) (a : Annot) (k : Party) (w : Sense × ℕ) → objective m a k ≡ Some w → HasPolynomials m a k → GivenHasForm m a k
