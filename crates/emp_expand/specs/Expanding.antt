-- What the expansion of a list of nodes gives.
use Rattle.std.specs.Prelude.{◌≡◌, ℕ, ◌<◌, ◌≤◌, Bool, true, false, List, [], ◌∷◌, length, Result, Ok, Err}
use Rattle.emp_num.specs.declared.frac.Frac.{Frac}
use Rattle.emp_ast.specs.declared.tree.Operator.{Operator}
use Rattle.emp_ast.specs.declared.tree.Operator.TheVariants.{Plus, Minus}
use Rattle.emp_ast.specs.declared.tree.Node.{Node}
use Rattle.emp_ast.specs.declared.tree.Node.TheVariants.{Number, Var, Neg, Add, Sub, Mul, Div, Power}
use Rattle.emp_ast.specs.Expression.{Expression, number, variable, negated, takes, first_of, expression_of}
use Rattle.emp_form.specs.Form.{Form}
use Rattle.emp_form.specs.Expansion.{form, RootFits, IsPolynomial, HasDegree, DividesByVariable, DividesByZero, expression_at}
use Rattle.emp_form.specs.Wide.{IsWide, IsFree}
use Rattle.emp_expand.specs.Stands.{Stands}
use Rattle.emp_expand.specs.Joins.{NodeJoined}
use Rattle.emp_expand.specs.declared.coefficients.Coefficients.{Coefficients}
use Rattle.emp_expand.specs.declared.products.NodeFault.{NodeFault}
use Rattle.emp_expand.specs.declared.products.NodeFault.TheVariants.{NoMemory, Degree, DivideByVariable, DivideByZero, Wide}
use Rattle.emp_expand.specs.declared.expand.ExpandFault.{ExpandFault}

-- ---- the root of an expression: its polynomial, or the first fault that it has, in the order of the faults
abbrev pub HasFault : Expression → NodeFault → Type 0
HasFault e NoMemory = Unit {0}
HasFault e Degree = HasDegree e
HasFault e DivideByVariable = DividesByVariable e
HasFault e DivideByZero = DividesByZero e
HasFault e Wide = RootFits e × IsWide e

abbrev pub RootGives : Expression → Result Coefficients NodeFault → Type 0
RootGives e (Ok c) = Stands c (form e) × IsFree e
RootGives e (Err n) = HasFault e n

abbrev pub operator_of : Bool → Operator
operator_of false = Plus
operator_of true = Minus

abbrev pub SumGives : Bool → Coefficients → Coefficients → Result Coefficients NodeFault → Type 0
SumGives minus a b r = (f g : Form) → Stands a f → Stands b g → NodeJoined (operator_of minus) f g r

abbrev pub NegationGives : Coefficients → Result Coefficients NodeFault → Type 0
NegationGives a r = (e : Expression) → Stands a (form e) → RootGives (negated e) r

abbrev pub NumberGives : Frac → Result Coefficients NodeFault → Type 0
NumberGives v r = RootGives (number v) r

abbrev pub VariableGives : ℕ → Result Coefficients NodeFault → Type 0
VariableGives k r = RootGives (variable k) r

-- ---- the stack, its top first, stands for the expressions that no node took yet
abbrev pub AllStand : List Coefficients → List Expression → Type 0
AllStand [] [] = Unit {0}
AllStand [] (e ∷ es) = ⊥
AllStand (c ∷ cs) [] = ⊥
AllStand (c ∷ cs) (e ∷ es) = Stands c (form e) × IsPolynomial e × AllStand cs es

abbrev pub rest_of : List Expression → List Expression
rest_of [] = []
rest_of (e ∷ es) = es

abbrev pub Applies : List Coefficients → Node → Result Coefficients NodeFault → List Coefficients → Type 0
Applies s n r t = (es : List Expression) → AllStand s es → RootGives (first_of (takes n es)) r × AllStand t (rest_of (takes n es)) × (RootFits (first_of (takes n es)) → IsPolynomial (first_of (takes n es))) × (takes n es ≡ first_of (takes n es) ∷ rest_of (takes n es))

-- the stack has the node's operands
abbrev pub HasOperands : ℕ → Node → Type 0
HasOperands h (Number f) = Unit {0}
HasOperands h (Var v) = Unit {0}
HasOperands h (Neg a) = 1 ≤ h
HasOperands h (Add a b) = 2 ≤ h
HasOperands h (Sub a b) = 2 ≤ h
HasOperands h (Mul a b) = 2 ≤ h
HasOperands h (Div a b) = 2 ≤ h
HasOperands h (Power a m) = 1 ≤ h

-- ---- the whole list
-- no node among the first n has a fault
abbrev pub AllFree : List Node → ℕ → Type 0
AllFree nodes n = (j : ℕ) → j < n → IsFree (expression_at nodes j)

pub record Expands (nodes : List Node) (c : Coefficients) : Type 0 where
  pub free : AllFree nodes (length nodes)
  pub polynomial : IsPolynomial (expression_of nodes)
  pub stands : Stands c (form (expression_of nodes))

-- the node is the first that has a fault
pub record Stops (nodes : List Node) (e : ExpandFault) : Type 0 where
  pub within : e.at < length nodes
  pub before : AllFree nodes e.at
  pub fault : HasFault (expression_at nodes e.at) e.fault

abbrev pub ExpandGives : List Node → Result Coefficients ExpandFault → Type 0
ExpandGives nodes (Ok c) = Expands nodes c
ExpandGives nodes (Err e) = Stops nodes e
