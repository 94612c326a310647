-- The items of statements.
use Rattle.std.specs.Prelude.{List, [], ◌∷◌, ◌++◌, map, Option, Some, None}
use Rattle.emp_ast.specs.declared.model.Sense.{Sense}
use Rattle.gms_grammar.specs.declared.lexeme.Lexeme.{Lexeme}
use Rattle.gms_grammar.specs.declared.item.Item.{Item}
use Rattle.gms_grammar.specs.declared.item.Item.TheVariants.{Begins, Variable, Equation, Defines, Relates, Ends, Number, Name, Enters, Lists, Applies, Groups, Raises, Signs, Joins, Sets, Model, Match, Solves, Aims}
use Rattle.gms_grammar.specs.Grammar.{Written, numeral, name, call, listed, grouped, raised, signed, joined, Statement, empty, variables, equations, definition, setting, model, matched, solve}

abbrev pub written_items : Written → List Item
written_items (numeral t f) = Number t f ∷ []
written_items (name t) = Name t ∷ []
written_items (call t a) = Enters t ∷ written_items a ++ Applies t ∷ []
written_items (listed a b) = written_items a ++ Lists ∷ written_items b
written_items (grouped e) = written_items e ++ Groups ∷ []
written_items (raised e p f) = written_items e ++ Raises p f ∷ []
written_items (signed s t e) = written_items e ++ Signs s t ∷ []
written_items (joined op t e f) = written_items e ++ written_items f ++ Joins op t ∷ []

abbrev pub goal_items : Option (Sense × Lexeme) → List Item
goal_items None = []
goal_items (Some (s, t)) = Aims s t ∷ []

abbrev pub statement_items : Statement → List Item
statement_items empty = []
statement_items (variables k w names) = Begins k w ∷ map (λ t. Variable k t) names
statement_items (equations names) = map (λ t. Equation t) names
statement_items (definition t left r right) = Defines t ∷ written_items left ++ Relates r ∷ written_items right ++ Ends ∷ []
statement_items (setting t a limit) = Sets t a limit ∷ []
statement_items (model t) = Model t ∷ []
statement_items (matched t qs) = Model t ∷ map (λ q. Match q.0 q.1) qs
statement_items (solve t goal) = Solves t ∷ goal_items goal

abbrev pub items_of : List Statement → List Item
items_of [] = []
items_of (s ∷ ss) = statement_items s ++ items_of ss
