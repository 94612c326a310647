-- What each model has that some text stands for.
use Rattle.std.proofs.Common.{◌≡◌, ◌≢◌, ◌⊎◌, ℕ, ◌+◌, ◌<◌, ◌≤◌, max, Bool, true, false, not, List, [], ◌∷◌, ◌++◌, length, All, AllPairs, Option, Some, None, Ok}
use Rattle.emp_num.specs.declared.frac.Frac.{Frac}
use Rattle.emp_numeral.specs.Numeral.{NumeralGives}
use Rattle.emp_num.specs.Opposite.{opposite}
use Rattle.emp_list.specs.Case.{lower}
use Rattle.emp_ast.specs.declared.tree.VarId.{VarId}
use Rattle.emp_ast.specs.declared.tree.Tree.{Tree}
use Rattle.emp_ast.specs.declared.model.Equation.{Equation}
use Rattle.emp_ast.specs.declared.model.End.{End}
use Rattle.emp_ast.specs.declared.model.End.TheVariants.{Open, At}
use Rattle.emp_ast.specs.declared.model.Variable.{Variable}
use Rattle.emp_ast.specs.declared.model.Sense.{Sense}
use Rattle.emp_ast.specs.declared.model.Model.{Model}
use Rattle.emp_ast.specs.Expression.{Expression, number, variable, negated, joined, power}
use Rattle.emp_ast.specs.Nodes.{IsTreeOf}
use Rattle.emp_ast.specs.Names.{variable_names, equation_names}
use Rattle.emp_lex.specs.Forms.{IsName}
use Rattle.gms_grammar.specs.declared.lexeme.Word.{Word}
use Rattle.gms_grammar.specs.declared.lexeme.Sort.TheVariants.{Name}
use Rattle.gms_grammar.specs.declared.limit.Limit.{Limit}
use Rattle.gms_grammar.specs.declared.limit.Limit.TheVariants.{Below, At as AtLimit, Above}
use Rattle.gms_grammar.specs.Lexemes.{word_sort}
use Rattle.gms_read.specs.Rules.{crosses}
use Rattle.gms_print.specs.Canonical.{is_left_wrapped, is_right_wrapped, is_sum, is_base}

-- a name that is no keyword
pub record IsFree (bs : List ℕ) : Type 0 where
  pub form : IsName bs
  pub word : Word
  pub sort : word_sort bs ≡ Name word

-- the value of a numeral
abbrev pub IsValue : Frac → Type 0
IsValue f = (bs : List ℕ) × NumeralGives bs (Ok f)

-- ---- expressions
abbrev pub deeper : Bool → ℕ → ℕ
deeper true n = n + 1
deeper false n = n

-- how deep the parentheses of the printed text are nested
abbrev pub depth : Expression → ℕ
depth (number f) = 0
depth (variable k) = 0
depth (negated e) = deeper (is_sum e) (depth e)
depth (joined op e f) = max (deeper (is_left_wrapped op e) (depth e)) (deeper (is_right_wrapped op f) (depth f))
depth (power e n) = deeper (not (is_base e)) (depth e)

-- over so many variables
abbrev pub SoundExpression : ℕ → Expression → Type 0
SoundExpression count (number f) = IsValue f
SoundExpression count (variable k) = k < count
SoundExpression count (negated e) = SoundExpression count e
SoundExpression count (joined op e f) = SoundExpression count e × SoundExpression count f
SoundExpression count (power e n) = SoundExpression count e × (n ≤ 9)

pub record SoundTree (count : ℕ) (t : Tree) : Type 0 where
  pub expression : Expression
  pub is : IsTreeOf t expression
  pub sound : SoundExpression count expression
  pub shallow : depth expression ≤ 64

pub record SoundEquation (count : ℕ) (e : Equation) : Type 0 where
  pub left : SoundTree count e.left
  pub right : SoundTree count e.right

-- ---- bounds
abbrev pub SoundEnd : End → Type 0
SoundEnd Open = Unit {0}
SoundEnd (At f) = IsValue f ⊎ IsValue (opposite f)

abbrev pub low_limit : End → Limit
low_limit Open = Below
low_limit (At f) = AtLimit f

abbrev pub high_limit : End → Limit
high_limit Open = Above
high_limit (At f) = AtLimit f

pub record SoundVariable (v : Variable) : Type 0 where
  pub low : SoundEnd v.low
  pub high : SoundEnd v.high
  pub ordered : crosses (low_limit v.low) (high_limit v.high) ≡ false

abbrev pub SoundGoal : ℕ → Option (Sense × VarId) → Type 0
SoundGoal count None = Unit {0}
SoundGoal count (Some (s, v)) = v.at < count

-- ---- models
abbrev pub all_names : Model → List (List ℕ)
all_names m = variable_names m ++ equation_names m ++ m.name ∷ []

pub record Sound (m : Model) : Type 0 where
  pub free : All IsFree (all_names m)
  pub apart : AllPairs (λ a b. lower a ≢ lower b) (all_names m)
  pub few_variables : length m.variables ≤ 512
  pub few_equations : length m.equations ≤ 512
  pub variables : All SoundVariable m.variables
  pub equations : All (SoundEquation (length m.variables)) m.equations
  pub goal : SoundGoal (length m.variables) m.goal
