-- What the written expressions of a text mean, and the first rule that they break.
use Rattle.std.specs.Prelude.{ℕ, zero, suc, ℤ, pos, Bool, true, false, cond, not, ◌&&◌, nat_le, List, [], ◌∷◌, ◌++◌, bytes_eq, Option, Some, None}
use Rattle.emp_num.specs.declared.frac.Frac.{Frac}
use Rattle.emp_list.specs.Case.{lower}
use Rattle.emp_ast.specs.declared.tree.Place.{Place}
use Rattle.emp_ast.specs.Expression.{Expression, number, variable, negated, joined as joined_with, power}
use Rattle.gms_grammar.specs.declared.lexeme.Word.TheVariants.{Square, Power as PowerWord}
use Rattle.gms_grammar.specs.declared.lexeme.Sign.TheVariants.{Plus, Minus}
use Rattle.gms_grammar.specs.declared.lexeme.Sort.{Sort}
use Rattle.gms_grammar.specs.declared.lexeme.Sort.TheVariants.{Name}
use Rattle.gms_grammar.specs.declared.lexeme.Lexeme.{Lexeme}
use Rattle.gms_read.specs.declared.draft.Draft.{Draft}
use Rattle.gms_read.specs.declared.table.Named.{Named}
use Rattle.gms_read.specs.declared.table.Named.TheVariants.{Variable as VariableName, Equation as EquationName, Model as ModelName}
use Rattle.gms_grammar.specs.declared.fault.ModelFault.{ModelFault}
use Rattle.gms_grammar.specs.declared.fault.ModelFault.TheVariants.{Undeclared, Function}
use Rattle.gms_grammar.specs.Lexemes.{spelling}
use Rattle.gms_grammar.specs.Grammar.{Written, numeral, name, call, listed, grouped, raised, signed, joined}

-- ---- faults
-- the first fault
abbrev pub or_else : Option ModelFault → Option ModelFault → Option ModelFault
or_else (Some f) other = Some f
or_else None other = other

abbrev pub fault_where : Bool → ModelFault → Option ModelFault
fault_where true f = Some f
fault_where false f = None

-- ---- names
-- what a name in lower case is declared as
abbrev pub entry_of : List (List ℕ × Named) → List ℕ → Option Named
entry_of [] key = None
entry_of (e ∷ es) key = cond (bytes_eq e.0 key) (Some e.1) (entry_of es key)

abbrev pub declared_as : List ℕ → Draft → Lexeme → Option Named
declared_as text d t = entry_of d.names (lower (spelling text t))

abbrev pub variable_in : Option Named → Option ℕ
variable_in (Some (VariableName k)) = Some k
variable_in (Some (EquationName k)) = None
variable_in (Some ModelName) = None
variable_in None = None

abbrev pub equation_in : Option Named → Option ℕ
equation_in (Some (VariableName k)) = None
equation_in (Some (EquationName k)) = Some k
equation_in (Some ModelName) = None
equation_in None = None

-- the number of the variable, or of the equation, that was declared before with that name
abbrev pub variable_of : List ℕ → Draft → Lexeme → Option ℕ
variable_of text d t = variable_in (declared_as text d t)

abbrev pub equation_of : List ℕ → Draft → Lexeme → Option ℕ
equation_of text d t = equation_in (declared_as text d t)

abbrev pub is_model_entry : Option Named → Bool
is_model_entry (Some (VariableName k)) = false
is_model_entry (Some (EquationName k)) = false
is_model_entry (Some ModelName) = true
is_model_entry None = false

abbrev pub is_model : List ℕ → Draft → Lexeme → Bool
is_model text d t = is_model_entry (declared_as text d t)

abbrev pub is_none : {X : Type 0} → Option X → Bool
is_none None = true
is_none (Some x) = false

-- ---- expressions
-- a whole number from 0 to 9
abbrev pub small_whole : ℤ → ℤ → Option ℕ
small_whole (pos n) (pos (suc zero)) = cond (nat_le n 9) (Some n) None
small_whole n d = None

abbrev pub exponent : Frac → Option ℕ
exponent f = small_whole f.num f.den

abbrev pub is_exponent : Frac → Bool
is_exponent f = not (is_none (exponent f))

abbrev pub is_one_argument : Written → Bool
is_one_argument (listed a b) = false
is_one_argument e = true

-- one argument and an exponent, which is a single numeral
abbrev pub is_power_of : Written → Written → Bool
is_power_of a (numeral t f) = is_one_argument a && is_exponent f
is_power_of a b = false

abbrev pub is_power : Written → Bool
is_power (listed a b) = is_power_of a b
is_power e = false

-- a square of one argument, or a power
abbrev pub is_function : Sort → Written → Bool
is_function (Name Square) a = is_one_argument a
is_function (Name PowerWord) a = is_power a
is_function s a = false

-- the first rule that an expression breaks
abbrev pub expression_fault : List ℕ → Draft → Written → Option ModelFault
expression_fault text d (numeral t f) = None
expression_fault text d (name t) = fault_where (is_none (variable_of text d t)) (Undeclared t.place)
expression_fault text d (call t a) = or_else (fault_where (not (is_function t.sort a)) (Function t.place)) (expression_fault text d a)
expression_fault text d (listed a b) = or_else (expression_fault text d a) (expression_fault text d b)
expression_fault text d (grouped e) = expression_fault text d e
expression_fault text d (raised e p f) = or_else (expression_fault text d e) (fault_where (not (is_exponent f)) (Function p.place))
expression_fault text d (signed s t e) = expression_fault text d e
expression_fault text d (joined op t e f) = or_else (expression_fault text d e) (expression_fault text d f)

abbrev pub or_zero : Option ℕ → ℕ
or_zero None = 0
or_zero (Some n) = n

-- the second argument, which is a numeral
abbrev pub second_exponent : Written → ℕ
second_exponent (listed a (numeral t f)) = or_zero (exponent f)
second_exponent e = 2

-- the expression that is meant; a list of arguments stands for the first of them
abbrev pub meaning : List ℕ → Draft → Written → Expression
meaning text d (numeral t f) = number f
meaning text d (name t) = variable (or_zero (variable_of text d t))
meaning text d (call t a) = power (meaning text d a) (second_exponent a)
meaning text d (listed a b) = meaning text d a
meaning text d (grouped e) = meaning text d e
meaning text d (raised e p f) = power (meaning text d e) (or_zero (exponent f))
meaning text d (signed Plus t e) = meaning text d e
meaning text d (signed Minus t e) = negated (meaning text d e)
meaning text d (joined op t e f) = joined_with op (meaning text d e) (meaning text d f)

-- the places of its nodes: of the operator, the function's name or the single lexeme
abbrev pub places : Written → List Place
places (numeral t f) = t.place ∷ []
places (name t) = t.place ∷ []
places (call t a) = places a ++ t.place ∷ []
places (listed a b) = places a
places (grouped e) = places e
places (raised e p f) = places e ++ p.place ∷ []
places (signed Plus t e) = places e
places (signed Minus t e) = places e ++ t.place ∷ []
places (joined op t e f) = places e ++ places f ++ t.place ∷ []
