-- Where arguments parted by a comma stand in what the grammar gives: in functions alone.
use Rattle.std.proofs.Common.{Bool, true, false, List, [], ◌∷◌}
use Rattle.gms_grammar.specs.declared.kind.Kind.{Kind}
use Rattle.gms_grammar.specs.declared.lexeme.Lexeme.{Lexeme}
use Rattle.gms_grammar.specs.Grammar.{Written, numeral, name, call, listed, grouped, raised, signed, joined, Level, Arguments, Sum, Term, Factor, Primary, Stands, a_numeral, a_name, a_call, a_group, a_primary, a_power, a_factor, a_product, a_term, a_signed, a_sum, an_argument, arguments, Statement, empty, variables, equations, definition, setting, model, matched, solve, IsStatementOf, is_empty, is_variables, is_domain, is_equations, is_definition, is_setting, is_model, is_matched, IsSolveOf, is_solve, is_mcp, IsFileOf, last, then}

-- commas part arguments of functions alone, and of the whole where `many`
abbrev pub IsFormed : Written → Bool → Type 0
IsFormed (numeral t f) many = Unit {0}
IsFormed (name t) many = Unit {0}
IsFormed (call t a) many = IsFormed a true
IsFormed (listed a b) true = IsFormed a true × IsFormed b false
IsFormed (listed a b) false = ⊥
IsFormed (grouped e) many = IsFormed e false
IsFormed (raised e p f) many = IsFormed e false
IsFormed (signed s t e) many = IsFormed e false
IsFormed (joined op t e f) many = IsFormed e false × IsFormed f false

formed_more : (w : Written) → IsFormed w false → IsFormed w true
formed_more (numeral t f) h = tt
formed_more (name t) h = tt
formed_more (call t a) h = h
formed_more (listed a b) h = absurd h
formed_more (grouped e) h = h
formed_more (raised e p f) h = h
formed_more (signed s t e) h = h
formed_more (joined op t e f) h = h

abbrev takes_many : Level → Bool
takes_many Arguments = true
takes_many Sum = false
takes_many Term = false
takes_many Factor = false
takes_many Primary = false

formed_stands : {l : Level} {ts : List Lexeme} {w : Written} → Stands l ts w → IsFormed w (takes_many l)
formed_stands (a_numeral t f s) = tt
formed_stands (a_name t n) = tt
formed_stands (a_call t o c ts a n os h cs) = formed_stands h
formed_stands (a_group o c ts e os h cs) = formed_stands h
formed_stands (a_primary ts e h) = formed_stands h
formed_stands (a_power ts p n f e h ps ns) = formed_stands h
formed_stands (a_factor ts e h) = formed_stands h
formed_stands (a_product ts us t s e f h x k) = (formed_stands h, formed_stands k)
formed_stands (a_term ts e h) = formed_stands h
formed_stands (a_signed t s ts e x h) = formed_stands h
formed_stands (a_sum ts us t s e f h x k) = (formed_stands h, formed_stands k)
formed_stands (an_argument ts e h) = formed_more e (formed_stands h)
formed_stands (arguments ts us c e f h x k) = (formed_stands h, formed_stands k)

abbrev pub IsFormedStatement : Statement → Type 0
IsFormedStatement empty = Unit {0}
IsFormedStatement (variables k w names) = Unit {0}
IsFormedStatement (equations names) = Unit {0}
IsFormedStatement (definition t left r right) = IsFormed left false × IsFormed right false
IsFormedStatement (setting t a limit) = Unit {0}
IsFormedStatement (model t) = Unit {0}
IsFormedStatement (matched t qs) = Unit {0}
IsFormedStatement (solve t goal) = Unit {0}

abbrev pub AreFormed : List Statement → Type 0
AreFormed [] = Unit {0}
AreFormed (s ∷ ss) = IsFormedStatement s × AreFormed ss

formed_statement : {k : Kind} {ts : List Lexeme} {s : Statement} → IsStatementOf k ts s → IsFormedStatement s
formed_statement (is_empty z e) = tt
formed_statement (is_variables v z ts names a b c) = tt
formed_statement (is_domain d v z k ts names a b c e) = tt
formed_statement (is_equations v z ts names a b c) = tt
formed_statement (is_definition t d r z k ts us left right n e h f g i) = (formed_stands h, formed_stands g)
formed_statement (is_setting t d a q z ts limit n e f g h i) = tt
formed_statement (is_model m a b c z ts t e f g h i j) = tt
formed_statement (is_matched m a c z ts us t qs e f g h i j) = tt

formed_solve : {k : Kind} {ts : List Lexeme} {s : Statement} → IsSolveOf k ts s → IsFormedStatement s
formed_solve (is_solve k t u e z ts goal a b c d f g) = tt
formed_solve (is_mcp k t u e z a b c d f) = tt

pub formed_file : {k : Kind} {ts : List Lexeme} {ss : List Statement} → IsFileOf k ts ss → AreFormed ss
formed_file (last ts zs s h z) = (formed_solve h, tt)
formed_file (then ts us s ss h k) = (formed_statement h, formed_file k)
