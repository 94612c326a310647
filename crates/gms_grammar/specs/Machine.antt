-- The reader as a machine over a stack of what is still to come.
use Rattle.std.specs.Prelude.{◌≡◌, Bool, true, false, cond, List, [], ◌∷◌, ◌++◌, Option, Some, None}
use Rattle.emp_ast.specs.declared.model.Sense.{Sense}
use Rattle.emp_ast.specs.declared.model.Sense.TheVariants.{Min, Max}
use Rattle.gms_grammar.specs.declared.kind.Kind.{Kind}
use Rattle.gms_grammar.specs.declared.kind.Kind.TheVariants.{Agents, Matches}
use Rattle.gms_grammar.specs.declared.lexeme.Word.TheVariants.{All, Using, Emp, Mcp, Minimizing, Maximizing, Infinity}
use Rattle.gms_grammar.specs.declared.lexeme.Domain.TheVariants.{Free}
use Rattle.gms_grammar.specs.declared.lexeme.Sign.{Sign}
use Rattle.gms_grammar.specs.declared.lexeme.Scale.TheVariants.{Over}
use Rattle.gms_grammar.specs.declared.lexeme.Sort.{Sort}
use Rattle.gms_grammar.specs.declared.lexeme.Sort.TheVariants.{Name, Numeral, Text, Relation as Related, Domain as DomainWord, Variables, Equations, Model, Solve, Sign as Signed, Scale as Scaled, Raise, Equals, Semicolon, Comma, Dot, Dots, Open, Close}
use Rattle.gms_grammar.specs.declared.lexeme.Lexeme.{Lexeme}
use Rattle.gms_grammar.specs.declared.limit.Limit.TheVariants.{At, Above}
use Rattle.gms_grammar.specs.declared.item.Item.{Item}
use Rattle.gms_grammar.specs.declared.item.Item.TheVariants.{Begins, Variable, Equation, Defines, Relates, Ends, Number, Name as NameItem, Enters, Lists, Applies, Groups, Raises, Signs, Joins, Sets, Model as ModelItem, Match as MatchItem, Solves, Aims}
use Rattle.gms_grammar.specs.declared.symbol.Declares.{Declares}
use Rattle.gms_grammar.specs.declared.symbol.Declares.TheVariants.{Variables as ForVariables, Equations as ForEquations}
use Rattle.gms_grammar.specs.declared.symbol.Want.{Want}
use Rattle.gms_grammar.specs.declared.symbol.Want.TheVariants.{Variables as WantVariables, Equals as WantEquals, Slash as WantSlash, Using as WantUsing, Emp as WantEmp, Mcp as WantMcp, Dot as WantDot, Semicolon as WantSemicolon}
use Rattle.gms_grammar.specs.declared.symbol.Symbol.{Symbol}
use Rattle.gms_grammar.specs.declared.symbol.Symbol.TheVariants.{File, Semicolons, Single, Write, Names, OptionalText, MoreNames, AfterName, Attribute, Value, SignedValue, Comparison, ModelName, Everything, MatchEquation, MatchVariable, MoreMatches, SolveName, Goal, Aim, Sum, Factor, AfterLeaf, MorePower, Exponent, MoreFactors, MoreTerms, MoreArguments, Closing}
use Rattle.gms_grammar.specs.declared.symbol.Next.{Next}
use Rattle.gms_grammar.specs.declared.symbol.Next.TheVariants.{Nothing, One, Two, Three, Four}
use Rattle.gms_grammar.specs.declared.symbol.Move.{Move}
use Rattle.gms_grammar.specs.declared.symbol.Move.TheVariants.{Fail, Skip, Take}
use Rattle.gms_grammar.specs.Grammar.{sum_operator, product_operator, signed_limit}

-- ---- the table
abbrev pub declared : Declares → Lexeme → Item
declared (ForVariables k) t = Variable k t
declared ForEquations t = Equation t

-- the sort of a single lexeme
abbrev pub wanted : Want → Sort
wanted WantVariables = Variables
wanted WantEquals = Equals
wanted WantSlash = Scaled Over
wanted WantUsing = Name Using
wanted WantEmp = Name Emp
wanted WantMcp = Name Mcp
wanted WantDot = Dot
wanted WantSemicolon = Semicolon

abbrev pub is_wanted : Want → Sort → Bool
is_wanted WantVariables Variables = true
is_wanted WantEquals Equals = true
is_wanted WantSlash (Scaled Over) = true
is_wanted WantUsing (Name Using) = true
is_wanted WantEmp (Name Emp) = true
is_wanted WantMcp (Name Mcp) = true
is_wanted WantDot Dot = true
is_wanted WantSemicolon Semicolon = true
is_wanted want q = false

abbrev pub single_move : Want → Sort → Move
single_move want q = cond (is_wanted want q) (Take None Nothing) Fail

-- where a statement begins
abbrev pub file_move : Kind → Sort → Lexeme → Move
file_move kind Semicolon t = Take None (One (File kind))
file_move kind (DomainWord k) t = Take (Some (Begins k t)) (Three (Single WantVariables) (Names (ForVariables k)) (File kind))
file_move kind Variables t = Take (Some (Begins Free t)) (Two (Names (ForVariables Free)) (File kind))
file_move kind Equations t = Take None (Two (Names ForEquations) (File kind))
file_move kind Model t = Take None (Two (ModelName kind) (File kind))
file_move kind Solve t = Take None (Two (SolveName kind) Semicolons)
file_move kind (Name w) t = Take None (Two (AfterName t) (File kind))
file_move kind q t = Fail

abbrev pub semicolons_move : Sort → Move
semicolons_move Semicolon = Take None (One Semicolons)
semicolons_move q = Fail

abbrev pub names_move : Declares → Sort → Lexeme → Move
names_move how (Name w) t = Take (Some (declared how t)) (Two OptionalText (MoreNames how))
names_move how q t = Fail

abbrev pub optional_text_move : Sort → Move
optional_text_move Text = Take None Nothing
optional_text_move q = Skip None

abbrev pub more_names_move : Declares → Sort → Lexeme → Move
more_names_move how (Name w) t = Take (Some (declared how t)) (Two OptionalText (MoreNames how))
more_names_move how Comma t = Take None (One (Names how))
more_names_move how Semicolon t = Take None Nothing
more_names_move how q t = Fail

abbrev pub after_name_move : Lexeme → Sort → Move
after_name_move n Dots = Take (Some (Defines n)) (Two Sum Comparison)
after_name_move n Dot = Take None (One (Attribute n))
after_name_move n q = Fail

abbrev pub attribute_move : Lexeme → Sort → Lexeme → Move
attribute_move n (Name w) t = Take None (Two (Single WantEquals) (Value n t))
attribute_move n q t = Fail

abbrev pub value_move : Lexeme → Lexeme → Sort → Move
value_move n a (Numeral f) = Take (Some (Sets n a (At f))) (One (Single WantSemicolon))
value_move n a (Name Infinity) = Take (Some (Sets n a Above)) (One (Single WantSemicolon))
value_move n a (Signed s) = Take None (One (SignedValue n a s))
value_move n a q = Fail

abbrev pub signed_value_move : Lexeme → Lexeme → Sign → Sort → Move
signed_value_move n a s (Numeral f) = Take (Some (Sets n a (signed_limit s (At f)))) (One (Single WantSemicolon))
signed_value_move n a s (Name Infinity) = Take (Some (Sets n a (signed_limit s Above))) (One (Single WantSemicolon))
signed_value_move n a s q = Fail

abbrev pub comparison_move : Sort → Move
comparison_move (Related r) = Take (Some (Relates r)) (Three Sum (Single WantSemicolon) (Write Ends))
comparison_move q = Fail

-- what the model statement names
abbrev pub parts_of : Kind → Symbol
parts_of Agents = Everything
parts_of Matches = MatchEquation

abbrev pub model_name_move : Kind → Sort → Lexeme → Move
model_name_move kind (Name w) t = Take (Some (ModelItem t)) (Three OptionalText (Single WantSlash) (parts_of kind))
model_name_move kind q t = Fail

abbrev pub everything_move : Sort → Move
everything_move (Name All) = Take None (Two (Single WantSlash) (Single WantSemicolon))
everything_move q = Fail

abbrev pub match_equation_move : Sort → Lexeme → Move
match_equation_move (Name w) t = Take None (Two (Single WantDot) (MatchVariable t))
match_equation_move q t = Fail

abbrev pub match_variable_move : Lexeme → Sort → Lexeme → Move
match_variable_move e (Name w) t = Take (Some (MatchItem e t)) (One MoreMatches)
match_variable_move e q t = Fail

abbrev pub more_matches_move : Sort → Move
more_matches_move Comma = Take None (One MatchEquation)
more_matches_move (Scaled Over) = Take None (One (Single WantSemicolon))
more_matches_move q = Fail

abbrev pub solver_of : Kind → Want
solver_of Agents = WantEmp
solver_of Matches = WantMcp

-- what ends the solve statement
abbrev pub ending_of : Kind → Symbol
ending_of Agents = Goal
ending_of Matches = Single WantSemicolon

abbrev pub solve_name_move : Kind → Sort → Lexeme → Move
solve_name_move kind (Name w) t = Take (Some (Solves t)) (Three (Single WantUsing) (Single (solver_of kind)) (ending_of kind))
solve_name_move kind q t = Fail

abbrev pub goal_move : Sort → Move
goal_move (Name Minimizing) = Take None (Two (Aim Min) (Single WantSemicolon))
goal_move (Name Maximizing) = Take None (Two (Aim Max) (Single WantSemicolon))
goal_move Semicolon = Take None Nothing
goal_move q = Fail

abbrev pub aim_move : Sense → Sort → Lexeme → Move
aim_move s (Name w) t = Take (Some (Aims s t)) Nothing
aim_move s q t = Fail

abbrev pub sum_move : Sort → Lexeme → Move
sum_move (Name w) t = Take None (Four (AfterLeaf t) MorePower MoreFactors MoreTerms)
sum_move (Numeral f) t = Take (Some (Number t f)) (Three MorePower MoreFactors MoreTerms)
sum_move Open t = Take None (Four Sum Closing MoreFactors MoreTerms)
sum_move (Signed s) t = Take None (Four Factor MoreFactors (Write (Signs s t)) MoreTerms)
sum_move q t = Fail

abbrev pub factor_move : Sort → Lexeme → Move
factor_move (Name w) t = Take None (Two (AfterLeaf t) MorePower)
factor_move (Numeral f) t = Take (Some (Number t f)) (One MorePower)
factor_move Open t = Take None (Two Sum Closing)
factor_move q t = Fail

abbrev pub after_leaf_move : Lexeme → Sort → Move
after_leaf_move n Open = Take (Some (Enters n)) (Two Sum (MoreArguments n))
after_leaf_move n q = Skip (Some (NameItem n))

abbrev pub more_power_move : Sort → Lexeme → Move
more_power_move Raise t = Take None (One (Exponent t))
more_power_move q t = Skip None

abbrev pub exponent_move : Lexeme → Sort → Move
exponent_move p (Numeral f) = Take (Some (Raises p f)) Nothing
exponent_move p q = Fail

abbrev pub more_factors_move : Sort → Lexeme → Move
more_factors_move (Scaled s) t = Take None (Three Factor (Write (Joins (product_operator s) t)) MoreFactors)
more_factors_move q t = Skip None

abbrev pub more_terms_move : Sort → Lexeme → Move
more_terms_move (Signed s) t = Take None (Four Factor MoreFactors (Write (Joins (sum_operator s) t)) MoreTerms)
more_terms_move q t = Skip None

abbrev pub more_arguments_move : Lexeme → Sort → Move
more_arguments_move n Comma = Take (Some Lists) (Two Sum (MoreArguments n))
more_arguments_move n Close = Take (Some (Applies n)) Nothing
more_arguments_move n q = Fail

abbrev pub closing_move : Sort → Move
closing_move Close = Take (Some Groups) (One MorePower)
closing_move q = Fail

-- what the symbol does at a lexeme of that sort
abbrev pub move : Symbol → Sort → Lexeme → Move
move (File kind) q t = file_move kind q t
move Semicolons q t = semicolons_move q
move (Single want) q t = single_move want q
move (Write item) q t = Skip (Some item)
move (Names how) q t = names_move how q t
move OptionalText q t = optional_text_move q
move (MoreNames how) q t = more_names_move how q t
move (AfterName n) q t = after_name_move n q
move (Attribute n) q t = attribute_move n q t
move (Value n a) q t = value_move n a q
move (SignedValue n a s) q t = signed_value_move n a s q
move Comparison q t = comparison_move q
move (ModelName kind) q t = model_name_move kind q t
move Everything q t = everything_move q
move MatchEquation q t = match_equation_move q t
move (MatchVariable e) q t = match_variable_move e q t
move MoreMatches q t = more_matches_move q
move (SolveName kind) q t = solve_name_move kind q t
move Goal q t = goal_move q
move (Aim s) q t = aim_move s q t
move Sum q t = sum_move q t
move Factor q t = factor_move q t
move (AfterLeaf n) q t = after_leaf_move n q
move MorePower q t = more_power_move q t
move (Exponent p) q t = exponent_move p q
move MoreFactors q t = more_factors_move q t
move MoreTerms q t = more_terms_move q t
move (MoreArguments n) q t = more_arguments_move n q
move Closing q t = closing_move q

-- ---- the machine
abbrev pub symbols : Next → List Symbol
symbols Nothing = []
symbols (One a) = a ∷ []
symbols (Two a b) = a ∷ b ∷ []
symbols (Three a b c) = a ∷ b ∷ c ∷ []
symbols (Four a b c d) = a ∷ b ∷ c ∷ d ∷ []

-- what is still to come, and what is written
pub record State : Type 0 where
  pub stack : List Symbol
  pub out : List Item

abbrev pub add : List Item → Option Item → List Item
add out None = out
add out (Some item) = out ++ item ∷ []

abbrev pub by_move : Move → List Symbol → List Item → (List Item → Option State) → Option State
by_move Fail s out rest = None
by_move (Skip item) s out rest = rest (add out item)
by_move (Take item next) s out rest = Some (record { stack = symbols next ++ s; out = add out item })

-- one lexeme is taken
abbrev pub step : List Symbol → List Item → Lexeme → Option State
step [] out t = None
step (x ∷ s) out t = by_move (move x t.sort t) s out (λ o. step s o t)

abbrev pub is_over : List Symbol → Bool
is_over (Semicolons ∷ []) = true
is_over s = false

abbrev pub run_from : Option State → List Lexeme → Option (List Item)
run_from None ts = None
run_from (Some q) [] = cond (is_over q.stack) (Some q.out) None
run_from (Some q) (t ∷ ts) = run_from (step q.stack q.out t) ts

-- what is written from that stack on, behind what is written already
abbrev pub run : List Symbol → List Item → List Lexeme → Option (List Item)
run s out ts = run_from (Some (record { stack = s; out = out })) ts

abbrev pub Steps : Option State → List Symbol → List Item → Bool → Type 0
Steps o s out true = o ≡ Some (record { stack = s; out = out })
Steps o s out false = o ≡ None
