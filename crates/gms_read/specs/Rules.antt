-- What statements do, one by one in text order: they declare, define and set, or they break a rule. The first rule that is
-- broken is the fault, at the place of its name or operator.
use Rattle.std.specs.Prelude.{ℕ, ◌+◌, Bool, true, false, cond, not, ◌&&◌, nat_lt, int_lt, List, [], ◌∷◌, ◌++◌, length, slice_set, slice_index_or, Option, Some, None, Result, Ok, Err, ◌*ℤ◌}
use Rattle.emp_num.specs.Whole.{whole}
use Rattle.emp_list.specs.Case.{lower}
use Rattle.emp_ast.specs.declared.tree.Place.{Place}
use Rattle.emp_ast.specs.declared.tree.Tree.{Tree}
use Rattle.emp_ast.specs.declared.tree.VarId.{VarId}
use Rattle.emp_ast.specs.declared.model.Relation.{Relation}
use Rattle.emp_ast.specs.declared.model.Equation.{Equation}
use Rattle.emp_ast.specs.declared.model.Variable.{Variable}
use Rattle.emp_ast.specs.declared.model.End.{End}
use Rattle.emp_ast.specs.declared.model.End.TheVariants.{Open as OpenEnd, At as AtEnd}
use Rattle.emp_ast.specs.declared.model.Sense.{Sense}
use Rattle.emp_ast.specs.declared.model.Model.{Model}
use Rattle.emp_ast.specs.Nodes.{nodes_from}
use Rattle.emp_ast.proofs.Nodes.{postorder_of}
use Rattle.gms_grammar.specs.declared.lexeme.Word.TheVariants.{Low, High, Fixed, Level, Marginal}
use Rattle.gms_grammar.specs.declared.lexeme.Domain.{Domain}
use Rattle.gms_grammar.specs.declared.lexeme.Domain.TheVariants.{Free, Positive, Negative, Discrete as DiscreteWord}
use Rattle.gms_grammar.specs.declared.lexeme.Sort.{Sort}
use Rattle.gms_grammar.specs.declared.lexeme.Sort.TheVariants.{Name}
use Rattle.gms_grammar.specs.declared.lexeme.Lexeme.{Lexeme}
use Rattle.gms_grammar.specs.declared.limit.Limit.{Limit}
use Rattle.gms_grammar.specs.declared.limit.Limit.TheVariants.{Below, At, Above}
use Rattle.gms_read.specs.declared.draft.DraftVariable.{DraftVariable}
use Rattle.gms_read.specs.declared.draft.Definition.{Definition}
use Rattle.gms_read.specs.declared.draft.DraftEquation.{DraftEquation}
use Rattle.gms_read.specs.declared.draft.Draft.{Draft}
use Rattle.gms_read.specs.declared.table.Named.{Named}
use Rattle.gms_read.specs.declared.table.Named.TheVariants.{Variable as VariableName, Equation as EquationName, Model as ModelName}
use Rattle.gms_grammar.specs.declared.fault.ModelFault.{ModelFault}
use Rattle.gms_grammar.specs.declared.fault.ModelFault.TheVariants.{Undeclared, Twice, Discrete, Attribute, TooLarge, Undefined, BoundsCross}
use Rattle.gms_grammar.specs.Lexemes.{spelling}
use Rattle.gms_grammar.specs.Grammar.{Written, Statement, empty, variables, equations, definition, setting, model, matched, solve}
pub use Rattle.gms_read.specs.Expressions.{or_else, fault_where, entry_of, declared_as, variable_in, equation_in, variable_of, equation_of, is_model_entry, is_model, is_none, small_whole, exponent, is_exponent, is_one_argument, is_power_of, is_power, is_function, expression_fault, or_zero, second_exponent, meaning, places}
use Rattle.gms_read.specs.Placed.{placed}

-- ---- steps that may break a rule
abbrev pub Step : Type 0
Step = Result Draft ModelFault

-- the one step and then the other
abbrev pub and_then : Step → (Draft → Step) → Step
and_then (Ok d) next = next d
and_then (Err f) next = Err f

abbrev pub unless_fault : Option ModelFault → Step → Step
unless_fault (Some f) next = Err f
unless_fault None next = next

-- ---- declarations
abbrev pub most : ℕ
most = 512

-- the ends that a declaration sets
abbrev pub first_low : Domain → Limit
first_low Free = Below
first_low Positive = At (whole 0)
first_low Negative = Below
first_low DiscreteWord = Below

abbrev pub first_high : Domain → Limit
first_high Free = Above
first_high Positive = Above
first_high Negative = At (whole 0)
first_high DiscreteWord = Above

abbrev pub has_sign : Domain → Bool
has_sign Free = false
has_sign Positive = true
has_sign Negative = true
has_sign DiscreteWord = false

abbrev pub no_variable : DraftVariable
no_variable = record { name = []; low = Below; high = Above; signed = false }

abbrev pub variable_at : Draft → ℕ → DraftVariable
variable_at d k = slice_index_or d.variables k no_variable

abbrev pub with_variable : Draft → ℕ → DraftVariable → Draft
with_variable d k v = record { names = d.names; variables = slice_set d.variables k v; equations = d.equations; model = d.model; goal = d.goal }

-- a new name with its number
abbrev pub add_variable : List ℕ → Domain → Draft → Lexeme → Draft
add_variable text k d t = record {
  names = d.names ++ (lower (spelling text t), VariableName (length d.variables)) ∷ [];
  variables = d.variables ++ (record { name = spelling text t; low = first_low k; high = first_high k; signed = has_sign k }) ∷ [];
  equations = d.equations;
  model = d.model;
  goal = d.goal;
}

abbrev pub add_equation : List ℕ → Draft → Lexeme → Draft
add_equation text d t = record {
  names = d.names ++ (lower (spelling text t), EquationName (length d.equations)) ∷ [];
  variables = d.variables;
  equations = d.equations ++ (record { name = spelling text t; definition = None }) ∷ [];
  model = d.model;
  goal = d.goal;
}

abbrev pub add_model : List ℕ → Draft → Lexeme → Draft
add_model text d t = record {
  names = d.names ++ (lower (spelling text t), ModelName) ∷ [];
  variables = d.variables;
  equations = d.equations;
  model = Some (spelling text t);
  goal = d.goal;
}

-- `positive` and `negative` may name a variable that was declared without them, once
abbrev pub restrict : Domain → Draft → Lexeme → ℕ → Step
restrict k d t at =
    cond (has_sign k && not (variable_at d at).signed)
    (Ok (with_variable d at (record { name = (variable_at d at).name; low = first_low k; high = first_high k; signed = true })))
    (Err (Twice t.place))

abbrev pub declare_new : List ℕ → Domain → Draft → Lexeme → Step
declare_new text k d t = cond (nat_lt (length d.variables) most) (Ok (add_variable text k d t)) (Err (TooLarge t.place))

abbrev pub declare_by : List ℕ → Domain → Draft → Lexeme → Option Named → Step
declare_by text k d t None = declare_new text k d t
declare_by text k d t (Some (VariableName at)) = restrict k d t at
declare_by text k d t (Some (EquationName at)) = Err (Twice t.place)
declare_by text k d t (Some ModelName) = Err (Twice t.place)

abbrev pub declare_variable : List ℕ → Domain → Draft → Lexeme → Step
declare_variable text k d t = declare_by text k d t (declared_as text d t)

abbrev pub declare_equation : List ℕ → Draft → Lexeme → Step
declare_equation text d t =
    cond (is_none (declared_as text d t))
    (cond (nat_lt (length d.equations) most) (Ok (add_equation text d t)) (Err (TooLarge t.place)))
    (Err (Twice t.place))

abbrev pub declare_all : (Draft → Lexeme → Step) → Draft → List Lexeme → Step
declare_all one d [] = Ok d
declare_all one d (t ∷ ts) = and_then (one d t) (λ e. declare_all one e ts)

abbrev pub discrete_fault : Domain → Lexeme → Option ModelFault
discrete_fault Free t = None
discrete_fault Positive t = None
discrete_fault Negative t = None
discrete_fault DiscreteWord t = Some (Discrete t.place)

-- a second model, whatever its name, and a name that is declared already
abbrev pub declare_model : List ℕ → Draft → Lexeme → Step
declare_model text d t = cond (is_none d.model && is_none (declared_as text d t)) (Ok (add_model text d t)) (Err (Twice t.place))

-- ---- matches
-- the equation and the variable are declared before
abbrev pub match_fault : List ℕ → Draft → Lexeme × Lexeme → Option ModelFault
match_fault text d q = or_else (fault_where (is_none (equation_of text d q.0)) (Undeclared q.0.place)) (fault_where (is_none (variable_of text d q.1)) (Undeclared q.1.place))

abbrev pub matches_fault : List ℕ → Draft → List (Lexeme × Lexeme) → Option ModelFault
matches_fault text d [] = None
matches_fault text d (q ∷ qs) = or_else (match_fault text d q) (matches_fault text d qs)

-- ---- definitions
-- an expression with its places
abbrev pub tree_of : List ℕ → Draft → Written → Tree
tree_of text d e = record { nodes = nodes_from 0 (meaning text d e); places = places e; whole = postorder_of (meaning text d e); placed = placed text d e }

abbrev pub no_equation : DraftEquation
no_equation = record { name = []; definition = None }

abbrev pub equation_at : Draft → ℕ → DraftEquation
equation_at d k = slice_index_or d.equations k no_equation

abbrev pub is_defined : Draft → ℕ → Bool
is_defined d k = not (is_none (equation_at d k).definition)

abbrev pub with_sides : Draft → ℕ → Definition → Draft
with_sides d k sides = record {
  names = d.names;
  variables = d.variables;
  equations = slice_set d.equations k (record { name = (equation_at d k).name; definition = Some sides });
  model = d.model;
  goal = d.goal;
}

abbrev pub with_definition : List ℕ → Draft → ℕ → Written → Relation → Written → Draft
with_definition text d k left r right = with_sides d k (record { left = tree_of text d left; relation = r; right = tree_of text d right })

-- the rules of the name that is defined
abbrev pub definition_fault : Draft → Lexeme → Option ℕ → Option ModelFault
definition_fault d t None = Some (Undeclared t.place)
definition_fault d t (Some k) = fault_where (is_defined d k) (Twice t.place)

abbrev pub define : List ℕ → Draft → Lexeme → Written → Relation → Written → Step
define text d t left r right =
    unless_fault (or_else (definition_fault d t (equation_of text d t)) (or_else (expression_fault text d left) (expression_fault text d right)))
    (Ok (with_definition text d (or_zero (equation_of text d t)) left r right))

-- ---- settings
abbrev pub is_infinite : Limit → Bool
is_infinite Below = true
is_infinite (At f) = false
is_infinite Above = true

abbrev pub with_low : Draft → ℕ → Limit → Draft
with_low d k limit = with_variable d k (record { name = (variable_at d k).name; low = limit; high = (variable_at d k).high; signed = (variable_at d k).signed })

abbrev pub with_high : Draft → ℕ → Limit → Draft
with_high d k limit = with_variable d k (record { name = (variable_at d k).name; low = (variable_at d k).low; high = limit; signed = (variable_at d k).signed })

-- start values are ignored
abbrev pub set_variable : Draft → ℕ → Place → Sort → Limit → Step
set_variable d k place (Name Low) limit = Ok (with_low d k limit)
set_variable d k place (Name High) limit = Ok (with_high d k limit)
set_variable d k place (Name Fixed) limit = cond (is_infinite limit) (Err (Attribute place)) (Ok (with_high (with_low d k limit) k limit))
set_variable d k place (Name Level) limit = Ok d
set_variable d k place (Name Marginal) limit = Ok d
set_variable d k place s limit = Err (Attribute place)

abbrev pub set_equation : Draft → Place → Sort → Step
set_equation d place (Name Level) = Ok d
set_equation d place (Name Marginal) = Ok d
set_equation d place s = Err (Attribute place)

-- a setting of the model is ignored
abbrev pub set_by : Draft → Lexeme → Lexeme → Limit → Option Named → Step
set_by d t a limit (Some (VariableName k)) = set_variable d k a.place a.sort limit
set_by d t a limit (Some (EquationName k)) = set_equation d a.place a.sort
set_by d t a limit (Some ModelName) = Ok d
set_by d t a limit None = Err (Undeclared t.place)

-- ---- the solve statement
abbrev pub with_goal : Draft → Option (Sense × VarId) → Draft
with_goal d goal = record { names = d.names; variables = d.variables; equations = d.equations; model = d.model; goal = goal }

abbrev pub aim_at : Draft → Sense → Lexeme → Option ℕ → Step
aim_at d s t None = Err (Undeclared t.place)
aim_at d s t (Some k) = Ok (with_goal d (Some (s, record { at = k })))

abbrev pub aim : List ℕ → Draft → Option (Sense × Lexeme) → Step
aim text d None = Ok (with_goal d None)
aim text d (Some (s, t)) = aim_at d s t (variable_of text d t)

-- ---- statements
abbrev pub after : List ℕ → Draft → Statement → Step
after text d empty = Ok d
after text d (variables k w names) = unless_fault (discrete_fault k w) (declare_all (declare_variable text k) d names)
after text d (equations names) = declare_all (declare_equation text) d names
after text d (definition t left r right) = define text d t left r right
after text d (setting t a limit) = set_by d t a limit (declared_as text d t)
after text d (model t) = declare_model text d t
after text d (matched t qs) = and_then (declare_model text d t) (λ e. unless_fault (matches_fault text e qs) (Ok e))
after text d (solve t goal) = cond (is_model text d t) (aim text d goal) (Err (Undeclared t.place))

abbrev pub after_all : List ℕ → Draft → List Statement → Step
after_all text d [] = Ok d
after_all text d (s ∷ ss) = and_then (after text d s) (λ e. after_all text e ss)

abbrev pub nothing_yet : Draft
nothing_yet = record { names = []; variables = []; equations = []; model = None; goal = None }

-- ---- after the text
abbrev pub undefined_from : ℕ → List DraftEquation → Option ModelFault
undefined_from k [] = None
undefined_from k (e ∷ es) = cond (is_none e.definition) (Some (Undefined (record { at = k }) e.name)) (undefined_from (k + 1) es)

-- the lower bound is above the upper bound, or plus infinity, or the upper bound is minus infinity
abbrev pub crosses : Limit → Limit → Bool
crosses Above high = true
crosses low Below = true
crosses Below (At g) = false
crosses Below Above = false
crosses (At f) (At g) = int_lt (g.num *ℤ f.den) (f.num *ℤ g.den)
crosses (At f) Above = false

abbrev pub crossing_from : ℕ → List DraftVariable → Option ModelFault
crossing_from k [] = None
crossing_from k (v ∷ vs) = cond (crosses v.low v.high) (Some (BoundsCross (record { at = k }) v.name)) (crossing_from (k + 1) vs)

abbrev pub end_of : Limit → End
end_of Below = OpenEnd
end_of (At f) = AtEnd f
end_of Above = OpenEnd

abbrev pub finished_variables : List DraftVariable → List Variable
finished_variables [] = []
finished_variables (v ∷ vs) = (record { name = v.name; low = end_of v.low; high = end_of v.high }) ∷ finished_variables vs

-- an equation with its definition; none where it has none
abbrev pub finished_equation : List ℕ → Option Definition → List Equation
finished_equation name None = []
finished_equation name (Some d) = (record { name = name; left = d.left; right = d.right; relation = d.relation }) ∷ []

abbrev pub finished_equations : List DraftEquation → List Equation
finished_equations [] = []
finished_equations (e ∷ es) = finished_equation e.name e.definition ++ finished_equations es

abbrev pub or_empty : Option (List ℕ) → List ℕ
or_empty None = []
or_empty (Some bs) = bs

abbrev pub finished : Draft → Model
finished d = record { name = or_empty d.model; variables = finished_variables d.variables; equations = finished_equations d.equations; goal = d.goal }

abbrev pub finish_by : Option ModelFault → Draft → Result Model ModelFault
finish_by (Some f) d = Err f
finish_by None d = Ok (finished d)

abbrev pub finish : Draft → Result Model ModelFault
finish d = finish_by (or_else (undefined_from 0 d.equations) (crossing_from 0 d.variables)) d

abbrev pub whole_meaning_by : Step → Result Model ModelFault
whole_meaning_by (Err f) = Err f
whole_meaning_by (Ok d) = finish d

-- the model that the statements of a text stand for, or the first rule that they break
abbrev pub whole_meaning : List ℕ → List Statement → Result Model ModelFault
whole_meaning text ss = whole_meaning_by (after_all text nothing_yet ss)
