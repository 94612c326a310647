-- The polynomial of an expression, and the faults of its root that the coefficients of the operands decide.
use Rattle.std.specs.Prelude.{◌≡◌, ◌≢◌, ℕ, ◌+◌, pos, List, take}
use Rattle.emp_ast.specs.declared.tree.Operator.{Operator}
use Rattle.emp_ast.specs.declared.tree.Operator.TheVariants.{Plus, Minus, Times, Over}
use Rattle.emp_ast.specs.declared.tree.Node.{Node}
use Rattle.emp_ast.specs.Expression.{Expression, number, variable, negated, joined, power, expression_of}
use Rattle.emp_form.specs.Form.{Form, form_of, variable_form, negated_form, sum_form, product_form, quotient_form, power_form, IsConstant, DegreesFit, PowerFits}

abbrev pub joined_form : Operator → Form → Form → Form
joined_form Plus f g = sum_form f g
joined_form Minus f g = sum_form f (negated_form g)
joined_form Times f g = product_form f g
joined_form Over f g = quotient_form f g

-- the polynomial of an expression, expanded without bound
abbrev pub form : Expression → Form
form (number f) = form_of f.num f.den
form (variable k) = variable_form k
form (negated e) = negated_form (form e)
form (joined op e f) = joined_form op (form e) (form f)
form (power e n) = power_form (form e) n

-- ---- no fault by the coefficients of the operands
abbrev pub JoinFits : Operator → Form → Form → Type 0
JoinFits Plus f g = Unit {0}
JoinFits Minus f g = Unit {0}
JoinFits Times f g = DegreesFit f g
JoinFits Over f g = IsConstant g × (g.constant ≢ pos 0)

abbrev pub RootFits : Expression → Type 0
RootFits (number f) = Unit {0}
RootFits (variable k) = Unit {0}
RootFits (negated e) = Unit {0}
RootFits (joined op e f) = JoinFits op (form e) (form f)
RootFits (power e n) = PowerFits (form e) n

-- no node of the expression has such a fault
abbrev pub IsPolynomial : Expression → Type 0
IsPolynomial (number f) = Unit {0}
IsPolynomial (variable k) = Unit {0}
IsPolynomial (negated e) = IsPolynomial e
IsPolynomial (joined op e f) = JoinFits op (form e) (form f) × IsPolynomial e × IsPolynomial f
IsPolynomial (power e n) = PowerFits (form e) n × IsPolynomial e

-- ---- the faults of the root
-- the degrees of the factors sum above 2, or n times the degree is above 2
abbrev pub JoinHasDegree : Operator → Form → Form → Type 0
JoinHasDegree Plus f g = ⊥
JoinHasDegree Minus f g = ⊥
JoinHasDegree Times f g = DegreesFit f g → ⊥
JoinHasDegree Over f g = ⊥

abbrev pub HasDegree : Expression → Type 0
HasDegree (number f) = ⊥
HasDegree (variable k) = ⊥
HasDegree (negated e) = ⊥
HasDegree (joined op e f) = JoinHasDegree op (form e) (form f)
HasDegree (power e n) = PowerFits (form e) n → ⊥

abbrev pub JoinDividesByVariable : Operator → Form → Type 0
JoinDividesByVariable Plus g = ⊥
JoinDividesByVariable Minus g = ⊥
JoinDividesByVariable Times g = ⊥
JoinDividesByVariable Over g = IsConstant g → ⊥

-- the divisor has a coefficient other than its constant
abbrev pub DividesByVariable : Expression → Type 0
DividesByVariable (number f) = ⊥
DividesByVariable (variable k) = ⊥
DividesByVariable (negated e) = ⊥
DividesByVariable (joined op e f) = JoinDividesByVariable op (form f)
DividesByVariable (power e n) = ⊥

abbrev pub JoinDividesByZero : Operator → Form → Type 0
JoinDividesByZero Plus g = ⊥
JoinDividesByZero Minus g = ⊥
JoinDividesByZero Times g = ⊥
JoinDividesByZero Over g = IsConstant g × (g.constant ≡ pos 0)

-- the divisor is 0
abbrev pub DividesByZero : Expression → Type 0
DividesByZero (number f) = ⊥
DividesByZero (variable k) = ⊥
DividesByZero (negated e) = ⊥
DividesByZero (joined op e f) = JoinDividesByZero op (form f)
DividesByZero (power e n) = ⊥

-- ---- nodes of a list
-- the expression whose root is node k of nodes in postorder
abbrev pub expression_at : List Node → ℕ → Expression
expression_at nodes k = expression_of (take (k + 1) nodes)
