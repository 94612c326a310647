-- The canonical text of a model.
use Rattle.std.specs.Prelude.{◌≡◌, ℕ, ◌*◌, ◌^◌, ℤ, pos, negsuc, unsigned_abs, Bool, true, false, not, ◌||◌, List, [], ◌∷◌, ◌++◌, length, All, codes, decimal, Option, Some, None, slice_index_or}
use Rattle.emp_num.specs.declared.frac.Frac.{Frac}
use Rattle.emp_numeral.specs.Numeral.{digit, value_from, trimmed}
use Rattle.emp_ast.specs.declared.tree.VarId.{VarId}
use Rattle.emp_ast.specs.declared.tree.Operator.{Operator}
use Rattle.emp_ast.specs.declared.tree.Operator.TheVariants.{Plus, Minus, Times, Over}
use Rattle.emp_ast.specs.declared.model.Relation.{Relation}
use Rattle.emp_ast.specs.declared.model.Relation.TheVariants.{Equal, AtLeast, AtMost, Nothing}
use Rattle.emp_ast.specs.declared.model.Equation.{Equation}
use Rattle.emp_ast.specs.declared.model.End.{End}
use Rattle.emp_ast.specs.declared.model.End.TheVariants.{Open, At}
use Rattle.emp_ast.specs.declared.model.Variable.{Variable}
use Rattle.emp_ast.specs.declared.model.Sense.{Sense}
use Rattle.emp_ast.specs.declared.model.Sense.TheVariants.{Min, Max}
use Rattle.emp_ast.specs.declared.model.Model.{Model}
use Rattle.emp_ast.specs.Expression.{Expression, number, variable, negated, joined, power}
use Rattle.emp_ast.specs.Nodes.{IsTreeOf}
use Rattle.emp_ast.specs.Names.{variable_names, equation_names}

-- ---- numerals
-- no `.` where the number is whole
abbrev pub with_fraction : List ℕ → List ℕ → List ℕ
with_fraction whole [] = whole
with_fraction whole (b ∷ bs) = whole ++ codes "." ++ b ∷ bs

-- n over d as a decimal: its whole part, and digits behind the `.` of which the last is not 0
pub record IsDecimal (n d : ℕ) (text : List ℕ) : Type 0 where
  pub whole : ℕ
  pub fraction : List ℕ
  pub digits : All (λ b. digit b ≡ true) fraction
  pub ends : trimmed fraction ≡ fraction
  pub value : n * 10 ^ length fraction ≡ d * value_from whole fraction
  pub is : text ≡ with_fraction (decimal whole) fraction

abbrev pub sign_text : ℤ → List ℕ
sign_text (pos n) = []
sign_text (negsuc n) = codes "-"

-- the fraction as a decimal behind its sign
pub record IsNumeral (f : Frac) (text : List ℕ) : Type 0 where
  pub size : List ℕ
  pub decimal : IsDecimal (unsigned_abs f.num) (unsigned_abs f.den) size
  pub is : text ≡ sign_text f.num ++ size

-- ---- expressions
abbrev pub wrapped : Bool → List ℕ → List ℕ
wrapped true text = codes "(" ++ text ++ codes ")"
wrapped false text = text

abbrev pub is_sum_operator : Operator → Bool
is_sum_operator Plus = true
is_sum_operator Minus = true
is_sum_operator Times = false
is_sum_operator Over = false

-- a sum, a difference or a negation
abbrev pub is_sum : Expression → Bool
is_sum (number f) = false
is_sum (variable k) = false
is_sum (negated e) = true
is_sum (joined op e f) = is_sum_operator op
is_sum (power e n) = false

-- a product or a quotient
abbrev pub is_product : Expression → Bool
is_product (number f) = false
is_product (variable k) = false
is_product (negated e) = false
is_product (joined op e f) = not (is_sum_operator op)
is_product (power e n) = false

abbrev pub is_left_wrapped : Operator → Expression → Bool
is_left_wrapped Plus e = false
is_left_wrapped Minus e = false
is_left_wrapped Times e = is_sum e
is_left_wrapped Over e = is_sum e

abbrev pub is_right_wrapped : Operator → Expression → Bool
is_right_wrapped Plus e = is_sum e
is_right_wrapped Minus e = is_sum e
is_right_wrapped Times e = is_sum e || is_product e
is_right_wrapped Over e = is_sum e || is_product e

abbrev pub operator_text : Operator → List ℕ
operator_text Plus = codes " + "
operator_text Minus = codes " - "
operator_text Times = codes "*"
operator_text Over = codes "/"

-- a power of it is printed by `**`: a numeral, a variable, or a power that is itself printed as a call
abbrev pub is_base : Expression → Bool
is_base (number f) = true
is_base (variable k) = true
is_base (negated e) = false
is_base (joined op e f) = false
is_base (power e n) = not (is_base e)

abbrev pub power_text : Bool → List ℕ → ℕ → List ℕ
power_text true text n = text ++ codes "**" ++ decimal n
power_text false text n = codes "power(" ++ text ++ codes "," ++ decimal n ++ codes ")"

-- the text of an expression over variables of these names
pub data Prints (names : List (List ℕ)) : Expression → List ℕ → Type 0 where
  prints_number : (f : Frac) (t : List ℕ) → IsNumeral f t → Prints names (number f) t
  prints_variable : (k : ℕ) → Prints names (variable k) (slice_index_or names k [])
  prints_negated : (e : Expression) (t : List ℕ) → Prints names e t → Prints names (negated e) (codes "-" ++ wrapped (is_sum e) t)
  prints_joined : (op : Operator) (e f : Expression) (t u : List ℕ) → Prints names e t → Prints names f u → Prints names (joined op e f) (wrapped (is_left_wrapped op e) t ++ operator_text op ++ wrapped (is_right_wrapped op f) u)
  prints_power : (e : Expression) (n : ℕ) (t : List ℕ) → Prints names e t → Prints names (power e n) (power_text (is_base e) t n)

-- ---- lines
abbrev pub more_names : List (List ℕ) → List ℕ
more_names [] = codes ";\n"
more_names (n ∷ ns) = codes ", " ++ n ++ more_names ns

-- no line where there are no names
abbrev pub names_line : List ℕ → List (List ℕ) → List ℕ
names_line word [] = []
names_line word (n ∷ ns) = word ++ n ++ more_names ns

abbrev pub relation_text : Relation → List ℕ
relation_text Equal = codes " =e= "
relation_text AtLeast = codes " =g= "
relation_text AtMost = codes " =l= "
relation_text Nothing = codes " =n= "

-- a line for each equation
pub data EquationLines (names : List (List ℕ)) : List Equation → List ℕ → Type 0 where
  no_equations : EquationLines names [] []
  an_equation : (e : Equation) (es : List Equation) (left right : Expression) (t u rest : List ℕ) → IsTreeOf e.left left → IsTreeOf e.right right → Prints names left t → Prints names right u → EquationLines names es rest → EquationLines names (e ∷ es) (e.name ++ codes ".. " ++ t ++ relation_text e.relation ++ u ++ codes ";\n" ++ rest)

-- no line where the end is open
pub data EndLine (name word : List ℕ) : End → List ℕ → Type 0 where
  no_end : EndLine name word Open []
  an_end : (f : Frac) (t : List ℕ) → IsNumeral f t → EndLine name word (At f) (name ++ word ++ t ++ codes ";\n")

pub data BoundLines : List Variable → List ℕ → Type 0 where
  no_variables : BoundLines [] []
  a_variable : (v : Variable) (vs : List Variable) (low high rest : List ℕ) → EndLine v.name (codes ".lo = ") v.low low → EndLine v.name (codes ".up = ") v.high high → BoundLines vs rest → BoundLines (v ∷ vs) (low ++ high ++ rest)

abbrev pub goal_text : List (List ℕ) → Option (Sense × VarId) → List ℕ
goal_text names None = []
goal_text names (Some (Min, v)) = codes " minimizing " ++ slice_index_or names v.at []
goal_text names (Some (Max, v)) = codes " maximizing " ++ slice_index_or names v.at []

abbrev pub last_lines : Model → List ℕ
last_lines m = codes "Model " ++ m.name ++ codes " / all /;\nSolve " ++ m.name ++ codes " using EMP" ++ goal_text (variable_names m) m.goal ++ codes ";\n"

pub record IsCanonical (m : Model) (text : List ℕ) : Type 0 where
  pub equations : List ℕ
  pub bounds : List ℕ
  pub equation_lines : EquationLines (variable_names m) m.equations equations
  pub bound_lines : BoundLines m.variables bounds
  pub is : text ≡ names_line (codes "Variables ") (variable_names m) ++ names_line (codes "Equations ") (equation_names m) ++ equations ++ bounds ++ last_lines m
