-- What items do, one by one.
use Rattle.std.specs.Prelude.{◌≡◌, ◌⊎◌, ℕ, cond, List, [], ◌∷◌, Option, Some, None, Result, Ok, Err}
use Rattle.emp_ast.specs.declared.tree.Tree.{Tree}
use Rattle.emp_ast.specs.Trees.{tree_from}
use Rattle.emp_ast.specs.declared.model.Relation.{Relation}
use Rattle.emp_ast.specs.declared.model.Relation.TheVariants.{Nothing}
use Rattle.gms_grammar.specs.declared.lexeme.Lexeme.{Lexeme}
use Rattle.gms_grammar.specs.declared.item.Item.{Item}
use Rattle.gms_grammar.specs.declared.item.Item.TheVariants.{Begins, Variable, Equation, Defines, Relates, Ends, Number, Name, Enters, Lists, Applies, Groups, Raises, Signs, Joins, Sets, Model, Match, Solves, Aims}
use Rattle.gms_read.specs.declared.draft.Draft.{Draft}
use Rattle.gms_grammar.specs.declared.fault.ModelFault.{ModelFault}
use Rattle.gms_grammar.specs.declared.fault.ModelFault.TheVariants.{Undeclared, NoMemory}
use Rattle.gms_read.specs.declared.progress.Second.TheVariants.{Awaited}
use Rattle.gms_read.specs.declared.progress.Side.{Side}
use Rattle.gms_read.specs.declared.progress.Progress.{Progress}
use Rattle.gms_read.specs.Rules.{Step, equation_of, variable_of, with_sides, or_zero, exponent, definition_fault, discrete_fault, declare_variable, declare_equation, declare_model, match_fault, set_by, declared_as, is_model, with_goal, aim_at}
use Rattle.gms_read.specs.Sides.{no_side, with_second, number_by, name_by, exponent_of, raised_to, raise_by, signed_by, joined_by, entered}

-- a call that changes `new` did what the step gives, or its memory was wanting
abbrev pub Does : {A X : Type 0} → Result A ModelFault → X → Result X ModelFault → Type 0
Does (Ok a) new step = step ≡ Ok new
Does (Err f) new step = (f ≡ NoMemory) ⊎ (step ≡ Err f)

-- between two statements
abbrev pub idle : Draft → Progress
idle d = record { draft = d; equation = 0; left = no_side; relation = Nothing; side = no_side }

abbrev pub with_draft : Progress → Draft → Progress
with_draft p d = record { draft = d; equation = p.equation; left = p.left; relation = p.relation; side = p.side }

abbrev pub with_side : Progress → Side → Progress
with_side p s = record { draft = p.draft; equation = p.equation; left = p.left; relation = p.relation; side = s }

abbrev pub with_equation : Progress → ℕ → Progress
with_equation p k = record { draft = p.draft; equation = k; left = p.left; relation = p.relation; side = p.side }

abbrev pub on_draft : Progress → Step → Result Progress ModelFault
on_draft p (Ok d) = Ok (with_draft p d)
on_draft p (Err f) = Err f

abbrev pub on_side : Progress → Result Side ModelFault → Result Progress ModelFault
on_side p (Ok s) = Ok (with_side p s)
on_side p (Err f) = Err f

-- the definition begins
abbrev pub begun_by : Progress → Option ℕ → Option ModelFault → Result Progress ModelFault
begun_by p k (Some f) = Err f
begun_by p k None = Ok (with_equation p (or_zero k))

abbrev pub begun : List ℕ → Progress → Lexeme → Result Progress ModelFault
begun text p t = begun_by p (equation_of text p.draft t) (definition_fault p.draft t (equation_of text p.draft t))

-- the left side ends
abbrev pub related : Progress → Relation → Progress
related p r = record { draft = p.draft; equation = p.equation; left = p.side; relation = r; side = no_side }

-- the definition, where both sides are expressions
abbrev pub define_by : Draft → ℕ → Option Tree → Relation → Option Tree → Draft
define_by d k (Some left) r (Some right) = with_sides d k (record { left = left; relation = r; right = right })
define_by d k (Some left) r None = d
define_by d k None r right = d

-- the right side ends
abbrev pub ended : Progress → Progress
ended p = idle (define_by p.draft p.equation (tree_from p.left.nodes p.left.places) p.relation (tree_from p.side.nodes p.side.places))

abbrev pub solved : List ℕ → Draft → Lexeme → Step
solved text d t = cond (is_model text d t) (Ok (with_goal d None)) (Err (Undeclared t.place))

abbrev pub begun_variables : Progress → Option ModelFault → Result Progress ModelFault
begun_variables p (Some f) = Err f
begun_variables p None = Ok p

-- one item; `rest` are the items behind it
abbrev pub item_step : List ℕ → Progress → Item → List Item → Result Progress ModelFault
item_step text p (Begins k t) rest = begun_variables p (discrete_fault k t)
item_step text p (Variable k t) rest = on_draft p (declare_variable text k p.draft t)
item_step text p (Equation t) rest = on_draft p (declare_equation text p.draft t)
item_step text p (Defines t) rest = begun text p t
item_step text p (Relates r) rest = Ok (related p r)
item_step text p Ends rest = Ok (ended p)
item_step text p (Number t f) rest = Ok (with_side p (number_by p.side t.place f p.side.second))
item_step text p (Name t) rest = on_side p (name_by p.side t.place (variable_of text p.draft t))
item_step text p (Enters t) rest = on_side p (entered p.side t rest)
item_step text p Lists rest = Ok (with_side p (with_second p.side Awaited))
item_step text p (Applies t) rest = Ok (with_side p (raised_to p.side t.place (exponent_of p.side.second)))
item_step text p Groups rest = Ok p
item_step text p (Raises t f) rest = on_side p (raise_by p.side t.place (exponent f))
item_step text p (Signs s t) rest = Ok (with_side p (signed_by p.side t.place s))
item_step text p (Joins op t) rest = Ok (with_side p (joined_by p.side t.place op))
item_step text p (Sets t a limit) rest = on_draft p (set_by p.draft t a limit (declared_as text p.draft t))
item_step text p (Model t) rest = on_draft p (declare_model text p.draft t)
item_step text p (Match e v) rest = begun_variables p (match_fault text p.draft (e, v))
item_step text p (Solves t) rest = on_draft p (solved text p.draft t)
item_step text p (Aims s t) rest = on_draft p (aim_at p.draft s t (variable_of text p.draft t))

abbrev pub next_step : Result Progress ModelFault → (Progress → Result Progress ModelFault) → Result Progress ModelFault
next_step (Ok p) next = next p
next_step (Err f) next = Err f

-- all of them
abbrev pub all_steps : List ℕ → Progress → List Item → Result Progress ModelFault
all_steps text p [] = Ok p
all_steps text p (i ∷ is) = next_step (item_step text p i is) (λ q. all_steps text q is)
