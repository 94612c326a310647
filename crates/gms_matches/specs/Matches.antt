-- The numbers of the equations and variables that the matches of a text name.
use Rattle.std.specs.Prelude.{ℕ, ◌<◌, List, [], ◌∷◌, ◌++◌, map, length, Option, Some, None}
use Rattle.emp_ast.specs.declared.tree.VarId.{VarId}
use Rattle.emp_ast.specs.declared.tree.EquId.{EquId}
use Rattle.gms_grammar.specs.declared.lexeme.Lexeme.{Lexeme}
use Rattle.gms_grammar.specs.declared.item.Item.{Item}
use Rattle.gms_grammar.specs.declared.item.Item.TheVariants.{Begins, Variable, Equation, Defines, Relates, Ends, Number, Name, Enters, Lists, Applies, Groups, Raises, Signs, Joins, Sets, Model, Match, Solves, Aims}
use Rattle.gms_grammar.specs.Grammar.{Statement, empty, variables, equations, definition, setting, model, matched, solve}
use Rattle.gms_read.specs.declared.draft.Draft.{Draft}
use Rattle.gms_read.specs.Rules.{or_zero, equation_of, variable_of}

-- by the names of a draft
abbrev pub pair_in : List ℕ → Draft → Lexeme × Lexeme → EquId × VarId
pair_in text d q = (record { at = or_zero (equation_of text d q.0) }, record { at = or_zero (variable_of text d q.1) })

abbrev pub matches_of : Statement → List (Lexeme × Lexeme)
matches_of empty = []
matches_of (variables k w names) = []
matches_of (equations names) = []
matches_of (definition t left r right) = []
matches_of (setting t a limit) = []
matches_of (model t) = []
matches_of (matched t qs) = qs
matches_of (solve t goal) = []

abbrev pub matches_in : List ℕ → Draft → List Statement → List (EquId × VarId)
matches_in text d [] = []
matches_in text d (s ∷ ss) = map (pair_in text d) (matches_of s) ++ matches_in text d ss

-- the match that an item is
abbrev pub match_in : Item → Option (Lexeme × Lexeme)
match_in (Begins k t) = None
match_in (Variable k t) = None
match_in (Equation t) = None
match_in (Defines t) = None
match_in (Relates r) = None
match_in Ends = None
match_in (Number t f) = None
match_in (Name t) = None
match_in (Enters t) = None
match_in Lists = None
match_in (Applies t) = None
match_in Groups = None
match_in (Raises t f) = None
match_in (Signs s t) = None
match_in (Joins op t) = None
match_in (Sets t a limit) = None
match_in (Model t) = None
match_in (Match e v) = Some (e, v)
match_in (Solves t) = None
match_in (Aims s t) = None

abbrev pub pair_before : List ℕ → Draft → Option (Lexeme × Lexeme) → List (EquId × VarId) → List (EquId × VarId)
pair_before text d None more = more
pair_before text d (Some q) more = pair_in text d q ∷ more

abbrev pub shown_by : List ℕ → Draft → Item → List (EquId × VarId) → List (EquId × VarId)
shown_by text d i more = pair_before text d (match_in i) more

abbrev pub shown : List ℕ → Draft → List Item → List (EquId × VarId)
shown text d [] = []
shown text d (i ∷ is) = shown_by text d i (shown text d is)

-- both numbers are those of something declared
abbrev pub IsWithin : Draft → EquId × VarId → Type 0
IsWithin d q = (q.0.at < length d.equations) × (q.1.at < length d.variables)
