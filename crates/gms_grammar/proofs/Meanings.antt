-- What each symbol stands for in the grammar, and that the machine keeps to it.
use Rattle.std.proofs.Common.{◌≡◌, Bool, true, false, cond, List, [], ◌∷◌, ◌++◌, map, Option, Some, None, refl, subst, ◌∙◌, append_assoc, append-nil}
use Rattle.std.proofs.lemmas.List.{map-append}
use Rattle.std.specs.Option.{option_to_list}
use Rattle.emp_num.specs.declared.frac.Frac.{Frac}
use Rattle.emp_ast.specs.declared.model.Sense.{Sense}
use Rattle.emp_ast.specs.declared.model.Sense.TheVariants.{Min, Max}
use Rattle.emp_ast.specs.declared.model.Relation.{Relation}
use Rattle.gms_grammar.specs.declared.kind.Kind.{Kind}
use Rattle.gms_grammar.specs.declared.kind.Kind.TheVariants.{Agents, Matches}
use Rattle.gms_grammar.specs.declared.lexeme.Word.TheVariants.{All, Using, Emp, Mcp, Minimizing, Maximizing, Infinity}
use Rattle.gms_grammar.specs.declared.lexeme.Domain.{Domain}
use Rattle.gms_grammar.specs.declared.lexeme.Domain.TheVariants.{Free}
use Rattle.gms_grammar.specs.declared.lexeme.Sign.{Sign}
use Rattle.gms_grammar.specs.declared.lexeme.Scale.{Scale}
use Rattle.gms_grammar.specs.declared.lexeme.Scale.TheVariants.{Over}
use Rattle.gms_grammar.specs.declared.lexeme.Sort.{Sort}
use Rattle.gms_grammar.specs.declared.lexeme.Sort.TheVariants.{Name, Numeral, Text, Relation as Related, Domain as DomainWord, Variables, Equations, Model, Solve, Sign as Signed, Scale as Scaled, Raise, Equals, Semicolon, Comma, Dot, Dots, Open, Close}
use Rattle.gms_grammar.specs.declared.lexeme.Lexeme.{Lexeme}
use Rattle.gms_grammar.specs.declared.limit.Limit.{Limit}
use Rattle.gms_grammar.specs.declared.item.Item.{Item}
use Rattle.gms_grammar.specs.declared.item.Item.TheVariants.{Begins, Defines, Relates, Ends, Number, Name as NameItem, Enters, Lists, Applies, Groups, Raises, Signs, Joins, Sets, Model as ModelItem, Match as MatchItem, Solves, Aims}
use Rattle.gms_grammar.specs.declared.symbol.Declares.{Declares}
use Rattle.gms_grammar.specs.declared.symbol.Declares.TheVariants.{Variables as ForVariables, Equations as ForEquations}
use Rattle.gms_grammar.specs.declared.symbol.Want.{Want}
use Rattle.gms_grammar.specs.declared.symbol.Want.TheVariants.{Variables as WantVariables, Equals as WantEquals, Slash as WantSlash, Using as WantUsing, Emp as WantEmp, Mcp as WantMcp, Dot as WantDot, Semicolon as WantSemicolon}
use Rattle.gms_grammar.specs.declared.symbol.Symbol.{Symbol}
use Rattle.gms_grammar.specs.declared.symbol.Symbol.TheVariants.{File, Semicolons, Single, Write, Names, OptionalText, MoreNames, AfterName, Attribute, Value, SignedValue, Comparison, ModelName, Everything, MatchEquation, MatchVariable, MoreMatches, SolveName, Goal, Aim, Sum as SumSymbol, Factor as FactorSymbol, AfterLeaf, MorePower, Exponent, MoreFactors, MoreTerms, MoreArguments, Closing}
use Rattle.gms_grammar.specs.declared.symbol.Next.{Next}
use Rattle.gms_grammar.specs.declared.symbol.Next.TheVariants.{Nothing, One, Two, Three, Four}
use Rattle.gms_grammar.specs.declared.symbol.Move.{Move}
use Rattle.gms_grammar.specs.declared.symbol.Move.TheVariants.{Fail, Skip, Take}
use Rattle.gms_grammar.specs.Grammar.{Written, IsName, sum_operator, product_operator, signed_limit, Level, Arguments, Sum, Term, Factor, Primary, Stands, a_numeral, a_name, a_call, a_group, a_primary, a_power, a_factor, a_product, a_term, a_signed, a_sum, an_argument, arguments, Statement, IsEntry, bare, described, AreNames, first, next, next_behind_comma, IsUnsigned, finite, infinite, IsLimit, no_sign, with_sign, IsGoal, no_goal, least, greatest, AreMatches, one_match, more_matches, IsStatementOf, is_empty, is_variables, is_domain, is_equations, is_definition, is_setting, is_model, is_matched, IsSolveOf, is_solve, is_mcp, AreSemicolons, none, more, IsFileOf, last, then}
use Rattle.gms_grammar.specs.Items.{written_items, goal_items, statement_items, items_of}
use Rattle.gms_grammar.specs.Machine.{declared, wanted, is_wanted, file_move, semicolons_move, names_move, optional_text_move, more_names_move, after_name_move, attribute_move, value_move, signed_value_move, comparison_move, model_name_move, everything_move, match_equation_move, match_variable_move, more_matches_move, solve_name_move, goal_move, aim_move, sum_move, factor_move, after_leaf_move, more_power_move, exponent_move, more_factors_move, more_terms_move, more_arguments_move, closing_move, move as move_of, symbols}
use Rattle.gms_grammar.specs.Steps.{AreItems}
use Rattle.gms_grammar.proofs.Writing.{Writes, over, takes, skips}

-- ---- lexemes and what they write
data Nil : List Lexeme → List Item → Type 0 where
  nil : Nil [] []

data Split (P Q : List Lexeme → List Item → Type 0) : List Lexeme → List Item → Type 0 where
  split : {ts us : List Lexeme} {v w : List Item} → P ts v → Q us w → Split P Q (ts ++ us) (v ++ w)

data IsAt (level : Level) : List Lexeme → List Item → Type 0 where
  is : {ts : List Lexeme} {e : Written} → Stands level ts e → IsAt level ts (written_items e)

data IsWanted (want : Want) : List Lexeme → List Item → Type 0 where
  single : {t : Lexeme} → t.sort ≡ wanted want → IsWanted want (t ∷ []) []

data IsDone (item : Item) : List Lexeme → List Item → Type 0 where
  done : IsDone item [] (item ∷ [])

data IsText : List Lexeme → List Item → Type 0 where
  no_text : IsText [] []
  a_text : {x : Lexeme} → x.sort ≡ Text → IsText (x ∷ []) []

data HasNames (how : Declares) : List Lexeme → List Item → Type 0 where
  has : {ts names : List Lexeme} → AreNames ts names → HasNames how ts (map (declared how) names)

data IsList (how : Declares) : List Lexeme → List Item → Type 0 where
  list_of : {ts names : List Lexeme} (z : Lexeme) → AreNames ts names → z.sort ≡ Semicolon → IsList how (ts ++ z ∷ []) (map (declared how) names)

abbrev EndsList : Declares → List Lexeme → List Item → Type 0
EndsList how us w = (ts : List Lexeme) (v : List Item) → HasNames how ts v → IsList how (ts ++ us) (v ++ w)

data IsNames (how : Declares) : List Lexeme → List Item → Type 0 where
  names_of : {ts us : List Lexeme} {t : Lexeme} {w : List Item} → IsEntry ts t → EndsList how us w → IsNames how (ts ++ us) (declared how t ∷ w)

data IsOne (k : Kind) : List Lexeme → List Item → Type 0 where
  one_of : {ts : List Lexeme} {s : Statement} → IsStatementOf k ts s → IsOne k ts (statement_items s)

data IsSolved (k : Kind) : List Lexeme → List Item → Type 0 where
  solve_of : {ts : List Lexeme} {s : Statement} → IsSolveOf k ts s → IsSolved k ts (statement_items s)

data IsTail : List Lexeme → List Item → Type 0 where
  tail_of : {ts : List Lexeme} → AreSemicolons ts → IsTail ts []

data IsWhole (k : Kind) : List Lexeme → List Item → Type 0 where
  file_of : {ts : List Lexeme} {ss : List Statement} → IsFileOf k ts ss → IsWhole k ts (items_of ss)

data IsValue (n a : Lexeme) : List Lexeme → List Item → Type 0 where
  value_of : {ts : List Lexeme} {limit : Limit} (z : Lexeme) → IsLimit ts limit → z.sort ≡ Semicolon → IsValue n a (ts ++ z ∷ []) (Sets n a limit ∷ [])

data IsSignedValue (n a : Lexeme) (s : Sign) : List Lexeme → List Item → Type 0 where
  signed_of : {t z : Lexeme} {limit : Limit} → IsUnsigned t limit → z.sort ≡ Semicolon → IsSignedValue n a s (t ∷ z ∷ []) (Sets n a (signed_limit s limit) ∷ [])

data IsComparison : List Lexeme → List Item → Type 0 where
  comparison_of : {r : Lexeme} (z : Lexeme) {ts : List Lexeme} {k : Relation} {e : Written} → r.sort ≡ Related k → Stands Sum ts e → z.sort ≡ Semicolon → IsComparison (r ∷ ts ++ z ∷ []) (Relates k ∷ written_items e ++ Ends ∷ [])

data IsEverything : List Lexeme → List Item → Type 0 where
  everything : {b c z : Lexeme} → b.sort ≡ Name All → c.sort ≡ Scaled Over → z.sort ≡ Semicolon → IsEverything (b ∷ c ∷ z ∷ []) []

-- matches with the `/ ;` behind them
data IsMatchList : List Lexeme → List Item → Type 0 where
  matches_of : {ts : List Lexeme} {qs : List (Lexeme × Lexeme)} (c z : Lexeme) → AreMatches ts qs → c.sort ≡ Scaled Over → z.sort ≡ Semicolon → IsMatchList (ts ++ c ∷ z ∷ []) (map (λ q. MatchItem q.0 q.1) qs)

data IsGoalEnd : List Lexeme → List Item → Type 0 where
  goal_of : {ts : List Lexeme} {goal : Option (Sense × Lexeme)} (z : Lexeme) → IsGoal ts goal → z.sort ≡ Semicolon → IsGoalEnd (ts ++ z ∷ []) (goal_items goal)

data IsAim (s : Sense) : List Lexeme → List Item → Type 0 where
  aim_of : {t : Lexeme} → IsName t → IsAim s (t ∷ []) (Aims s t ∷ [])

data IsExponent (p : Lexeme) : List Lexeme → List Item → Type 0 where
  exponent_of : {n : Lexeme} {f : Frac} → n.sort ≡ Numeral f → IsExponent p (n ∷ []) (Raises p f ∷ [])

data IsCall (n : Lexeme) : List Lexeme → List Item → Type 0 where
  call_of : {ts : List Lexeme} {a : Written} (c : Lexeme) → Stands Arguments ts a → c.sort ≡ Close → IsCall n (ts ++ c ∷ []) (written_items a ++ Applies n ∷ [])

abbrev EndsCall : Lexeme → List Lexeme → List Item → Type 0
EndsCall n us w = (ts : List Lexeme) (v : List Item) → IsAt Arguments ts v → IsCall n (ts ++ us) (v ++ w)

-- what stands behind an expression of the one level makes it one of the other
abbrev Grows : Level → Level → List Lexeme → List Item → Type 0
Grows from to us w = (ts : List Lexeme) (v : List Item) → IsAt from ts v → IsAt to (ts ++ us) (v ++ w)

-- ---- the meaning of a symbol
abbrev Means : Symbol → List Lexeme → List Item → Type 0
Means (File k) ts w = IsWhole k ts w
Means Semicolons ts w = IsTail ts w
Means (Single want) ts w = IsWanted want ts w
Means (Write item) ts w = IsDone item ts w
Means (Names how) ts w = IsNames how ts w
Means OptionalText ts w = IsText ts w
Means (MoreNames how) ts w = EndsList how ts w
Means (AfterName n) ts w = (k : Kind) → IsName n → IsOne k (n ∷ ts) w
Means (Attribute n) ts w = (k : Kind) (d : Lexeme) → IsName n → d.sort ≡ Dot → IsOne k (n ∷ d ∷ ts) w
Means (Value n a) ts w = IsValue n a ts w
Means (SignedValue n a s) ts w = IsSignedValue n a s ts w
Means Comparison ts w = IsComparison ts w
Means (ModelName k) ts w = (m : Lexeme) → m.sort ≡ Model → IsOne k (m ∷ ts) w
Means Everything ts w = IsEverything ts w
Means MatchEquation ts w = IsMatchList ts w
Means (MatchVariable e) ts w = (d : Lexeme) → IsName e → d.sort ≡ Dot → IsMatchList (e ∷ d ∷ ts) w
Means MoreMatches ts w = (e d v : Lexeme) → IsName e → d.sort ≡ Dot → IsName v → IsMatchList (e ∷ d ∷ v ∷ ts) (MatchItem e v ∷ w)
Means (SolveName k) ts w = (s : Lexeme) → s.sort ≡ Solve → IsSolved k (s ∷ ts) w
Means Goal ts w = IsGoalEnd ts w
Means (Aim s) ts w = IsAim s ts w
Means SumSymbol ts w = IsAt Sum ts w
Means FactorSymbol ts w = IsAt Factor ts w
Means (AfterLeaf n) ts w = IsName n → IsAt Primary (n ∷ ts) w
Means MorePower ts w = Grows Primary Factor ts w
Means (Exponent p) ts w = IsExponent p ts w
Means MoreFactors ts w = Grows Term Term ts w
Means MoreTerms ts w = Grows Sum Sum ts w
Means (MoreArguments n) ts w = EndsCall n ts w
Means Closing us w = (o : Lexeme) (ts : List Lexeme) (v : List Item) → o.sort ≡ Open → IsAt Sum ts v → IsAt Factor (o ∷ ts ++ us) (v ++ w)

abbrev MeansNext : Next → List Lexeme → List Item → Type 0
MeansNext Nothing ts w = Nil ts w
MeansNext (One a) ts w = Means a ts w
MeansNext (Two a b) ts w = Split (Means a) (Means b) ts w
MeansNext (Three a b c) ts w = Split (Means a) (Split (Means b) (Means c)) ts w
MeansNext (Four a b c d) ts w = Split (Means a) (Split (Means b) (Split (Means c) (Means d))) ts w

abbrev MeansAll : List Symbol → List Lexeme → List Item → Type 0
MeansAll [] ts w = Nil ts w
MeansAll (x ∷ s) ts w = Split (Means x) (MeansAll s) ts w

-- a move of the symbol at the lexeme keeps to its meaning
abbrev Keeps : Symbol → Lexeme → Move → Type 0
Keeps x t Fail = Unit {0}
Keeps x t (Skip item) = Means x [] (option_to_list item)
Keeps x t (Take item n) = (us : List Lexeme) (w : List Item) → MeansNext n us w → Means x (t ∷ us) (option_to_list item ++ w)

-- ---- statements
one_more : {k : Kind} {ts us : List Lexeme} {v w : List Item} → IsOne k ts v → IsWhole k us w → IsWhole k (ts ++ us) (v ++ w)
one_more {v = v} {w = w} (one_of {ts = ts} {s = s} h) (file_of {ts = us} {ss = ss} k) = file_of (then ts us s ss h k)

solved : {k : Kind} {ts us : List Lexeme} {v w : List Item} → IsSolved k ts v → IsTail us w → IsWhole k (ts ++ us) (v ++ w)
solved (solve_of {ts = ts} {s = s} h) (tail_of {ts = us} k) = file_of (last ts us s h k)

-- ---- lists of names
module _ {how : Declares} where
  has_next : {ts es : List Lexeme} {t : Lexeme} {v : List Item} → HasNames how ts v → IsEntry es t → HasNames how (ts ++ es) (v ++ declared how t ∷ [])
  has_next {es = es} {t = t} (has {ts = ts} {names = names} h) entry =
      subst (λ v. HasNames how (ts ++ es) v) (map-append (declared how) names (t ∷ [])) (has (next ts es names t h entry))

  has_behind_comma : (c : Lexeme) {t : Lexeme} {ts es : List Lexeme} {v : List Item} → HasNames how ts v → c.sort ≡ Comma → IsEntry es t → HasNames how (ts ++ c ∷ es) (v ++ declared how t ∷ [])
  has_behind_comma c {t = t} {es = es} (has {ts = ts} {names = names} h) comma entry =
      subst (λ v. HasNames how (ts ++ c ∷ es) v) (map-append (declared how) names (t ∷ [])) (has (next_behind_comma ts es names c t h comma entry))

  one_list : {ts : List Lexeme} {w : List Item} → IsNames how ts w → IsList how ts w
  one_list (names_of {ts = ts} {t = t} entry ends) = ends ts (declared how t ∷ []) (has (first ts t entry))

  -- a name, a text or none, and the rest
  begins_list : {t : Lexeme} {us : List Lexeme} {w : List Item} → IsName t → Split IsText (EndsList how) us w → IsNames how (t ∷ us) (declared how t ∷ w)
  begins_list {t = t} name (split no_text ends) = names_of (bare t name) ends
  begins_list {t = t} name (split (a_text {x = x} e) ends) = names_of (described t x name e) ends

  goes_on : {us : List Lexeme} {w : List Item} → IsNames how us w → EndsList how us w
  goes_on (names_of {ts = es} {us = us} {t = t} {w = w} entry ends) ts v h = simp append_assoc at (ends (ts ++ es) (v ++ declared how t ∷ []) (has_next h entry))

  goes_on_behind_comma : (c : Lexeme) {us : List Lexeme} {w : List Item} → c.sort ≡ Comma → IsNames how us w → EndsList how (c ∷ us) w
  goes_on_behind_comma c comma (names_of {ts = es} {us = us} {t = t} {w = w} entry ends) ts v h =
      simp append_assoc at (ends (ts ++ c ∷ es) (v ++ declared how t ∷ []) (has_behind_comma c h comma entry))

  ends_list : (z : Lexeme) → z.sort ≡ Semicolon → EndsList how (z ∷ []) []
  ends_list z e ts v (has h) = rw append-nil (list_of z h e)

domain_one : {kind : Kind} {d v : Lexeme} {k : Domain} {ts : List Lexeme} {w : List Item} → d.sort ≡ DomainWord k → v.sort ≡ Variables → IsList (ForVariables k) ts w → IsOne kind (d ∷ v ∷ ts) (Begins k d ∷ w)
domain_one {d = d} {v = v} {k = k} e f (list_of {ts = ts} {names = names} z h g) = one_of (is_domain d v z k ts names e f h g)

domain_file : {kind : Kind} {d : Lexeme} {k : Domain} {us : List Lexeme} {w : List Item} → d.sort ≡ DomainWord k → Split (IsWanted WantVariables) (Split (IsNames (ForVariables k)) (IsWhole kind)) us w → IsWhole kind (d ∷ us) (Begins k d ∷ w)
domain_file e (split (single f) (split names rest)) = one_more (domain_one e f (one_list names)) rest

variables_one : {kind : Kind} {v : Lexeme} {ts : List Lexeme} {w : List Item} → v.sort ≡ Variables → IsList (ForVariables Free) ts w → IsOne kind (v ∷ ts) (Begins Free v ∷ w)
variables_one {v = v} e (list_of {ts = ts} {names = names} z h g) = one_of (is_variables v z ts names e h g)

variables_file : {kind : Kind} {v : Lexeme} {us : List Lexeme} {w : List Item} → v.sort ≡ Variables → Split (IsNames (ForVariables Free)) (IsWhole kind) us w → IsWhole kind (v ∷ us) (Begins Free v ∷ w)
variables_file e (split names rest) = one_more (variables_one e (one_list names)) rest

equations_one : {kind : Kind} {v : Lexeme} {ts : List Lexeme} {w : List Item} → v.sort ≡ Equations → IsList ForEquations ts w → IsOne kind (v ∷ ts) w
equations_one {v = v} e (list_of {ts = ts} {names = names} z h g) = one_of (is_equations v z ts names e h g)

equations_file : {kind : Kind} {v : Lexeme} {us : List Lexeme} {w : List Item} → v.sort ≡ Equations → Split (IsNames ForEquations) (IsWhole kind) us w → IsWhole kind (v ∷ us) w
equations_file e (split names rest) = one_more (equations_one e (one_list names)) rest

model_file : {kind : Kind} {m : Lexeme} {us : List Lexeme} {w : List Item} → m.sort ≡ Model → Split (Means (ModelName kind)) (IsWhole kind) us w → IsWhole kind (m ∷ us) w
model_file {m = m} e (split one rest) = one_more (one m e) rest

solve_file : {kind : Kind} {k : Lexeme} {us : List Lexeme} {w : List Item} → k.sort ≡ Solve → Split (Means (SolveName kind)) IsTail us w → IsWhole kind (k ∷ us) w
solve_file {k = k} e (split one rest) = solved (one k e) rest

name_file : {kind : Kind} {n : Lexeme} {us : List Lexeme} {w : List Item} → IsName n → Split (Means (AfterName n)) (IsWhole kind) us w → IsWhole kind (n ∷ us) w
name_file {kind = kind} name (split one rest) = one_more (one kind name) rest

definition_one : {kind : Kind} {n d : Lexeme} {us : List Lexeme} {w : List Item} → IsName n → d.sort ≡ Dots → Split (IsAt Sum) IsComparison us w → IsOne kind (n ∷ d ∷ us) (Defines n ∷ w)
definition_one {kind = kind} {n = n} {d = d} named e (split (is {ts = ts} {e = left} h) (comparison_of {r = r} z {ts = us} {k = k} {e = right} f g j)) =
    simp append_assoc at (one_of (is_definition {kind = kind} n d r z k ts us left right named e h f g j))

setting_one : {kind : Kind} {n d a : Lexeme} {us : List Lexeme} {w : List Item} → IsName n → d.sort ≡ Dot → IsName a → Split (IsWanted WantEquals) (IsValue n a) us w → IsOne kind (n ∷ d ∷ a ∷ us) w
setting_one {n = n} {d = d} {a = a} name e attribute (split (single {t = q} f) (value_of {ts = ts} {limit = limit} z h g)) =
    one_of (is_setting n d a q z ts limit name e attribute f h g)

unsigned_value : {n a t : Lexeme} {limit : Limit} {us : List Lexeme} {w : List Item} → IsUnsigned t limit → IsWanted WantSemicolon us w → IsValue n a (t ∷ us) (Sets n a limit ∷ w)
unsigned_value {t = t} {limit = limit} h (single {t = z} e) = value_of z (no_sign t limit h) e

signed_value : {n a g : Lexeme} {s : Sign} {us : List Lexeme} {w : List Item} → g.sort ≡ Signed s → IsSignedValue n a s us w → IsValue n a (g ∷ us) w
signed_value {g = g} {s = s} e (signed_of {t = t} {z = z} {limit = limit} h f) = value_of z (with_sign g t s limit e h) f

behind_sign : {n a t : Lexeme} {s : Sign} {limit : Limit} {us : List Lexeme} {w : List Item} → IsUnsigned t limit → IsWanted WantSemicolon us w → IsSignedValue n a s (t ∷ us) (Sets n a (signed_limit s limit) ∷ w)
behind_sign h (single e) = signed_of h e

comparison : {r : Lexeme} {k : Relation} {us : List Lexeme} {w : List Item} → r.sort ≡ Related k → Split (IsAt Sum) (Split (IsWanted WantSemicolon) (IsDone Ends)) us w → IsComparison (r ∷ us) (Relates k ∷ w)
comparison e (split (is h) (split (single {t = z} f) done)) = comparison_of z e h f

model_one : {m t : Lexeme} {us : List Lexeme} {w : List Item} → m.sort ≡ Model → IsName t → Split IsText (Split (IsWanted WantSlash) IsEverything) us w → IsOne Agents (m ∷ t ∷ us) (ModelItem t ∷ w)
model_one {m = m} {t = t} e name (split no_text (split (single {t = a} f) (everything {b = b} {c = c} {z = z} g h j))) =
    one_of (is_model m a b c z (t ∷ []) t e (bare t name) f g h j)
model_one {m = m} {t = t} e name (split (a_text {x = x} k) (split (single {t = a} f) (everything {b = b} {c = c} {z = z} g h j))) =
    one_of (is_model m a b c z (t ∷ x ∷ []) t e (described t x name k) f g h j)

matched_one : {m t : Lexeme} {us : List Lexeme} {w : List Item} → m.sort ≡ Model → IsName t → Split IsText (Split (IsWanted WantSlash) IsMatchList) us w → IsOne Matches (m ∷ t ∷ us) (ModelItem t ∷ w)
matched_one {m = m} {t = t} e name (split no_text (split (single {t = a} f) (matches_of {ts = us} {qs = qs} c z g h j))) =
    one_of (is_matched m a c z (t ∷ []) us t qs e (bare t name) f g h j)
matched_one {m = m} {t = t} e name (split (a_text {x = x} k) (split (single {t = a} f) (matches_of {ts = us} {qs = qs} c z g h j))) =
    one_of (is_matched m a c z (t ∷ x ∷ []) us t qs e (described t x name k) f g h j)

one_match_ends : {e d v c : Lexeme} {us : List Lexeme} {w : List Item} → IsName e → d.sort ≡ Dot → IsName v → c.sort ≡ Scaled Over → IsWanted WantSemicolon us w → IsMatchList (e ∷ d ∷ v ∷ c ∷ us) (MatchItem e v ∷ w)
one_match_ends {e = e} {d = d} {v = v} {c = o} a b c slash (single {t = z} h) = matches_of o z (one_match e d v a b c) slash h

one_match_more : {e d v c : Lexeme} {us : List Lexeme} {w : List Item} → IsName e → d.sort ≡ Dot → IsName v → c.sort ≡ Comma → IsMatchList us w → IsMatchList (e ∷ d ∷ v ∷ c ∷ us) (MatchItem e v ∷ w)
one_match_more {e = e} {d = d} {v = v} {c = c} a b n comma (matches_of {ts = ts} {qs = qs} o z are slash h) = matches_of o z (more_matches e d v c ts qs a b n comma are) slash h

dotted : {e : Lexeme} {us : List Lexeme} {w : List Item} → IsName e → Split (IsWanted WantDot) (Means (MatchVariable e)) us w → IsMatchList (e ∷ us) w
dotted named (split (single {t = d} f) rest) = rest d named f

mcp_one : {k t : Lexeme} {us : List Lexeme} {w : List Item} → k.sort ≡ Solve → IsName t → Split (IsWanted WantUsing) (Split (IsWanted WantMcp) (IsWanted WantSemicolon)) us w → IsSolved Matches (k ∷ t ∷ us) (Solves t ∷ w)
mcp_one {k = k} {t = t} e name (split (single {t = u} f) (split (single {t = p} g) (single {t = z} h))) = solve_of (is_mcp k t u p z e name f g h)

all_of_it : {b : Lexeme} {us : List Lexeme} {w : List Item} → b.sort ≡ Name All → Split (IsWanted WantSlash) (IsWanted WantSemicolon) us w → IsEverything (b ∷ us) w
all_of_it e (split (single f) (single g)) = everything e f g

solve_one : {k t : Lexeme} {us : List Lexeme} {w : List Item} → k.sort ≡ Solve → IsName t → Split (IsWanted WantUsing) (Split (IsWanted WantEmp) IsGoalEnd) us w → IsSolved Agents (k ∷ t ∷ us) (Solves t ∷ w)
solve_one {k = k} {t = t} e name (split (single {t = u} f) (split (single {t = p} g) (goal_of {ts = ts} {goal = goal} z h j))) =
    solve_of (is_solve k t u p z ts goal e name f g h j)

least_goal : {g : Lexeme} {us : List Lexeme} {w : List Item} → g.sort ≡ Name Minimizing → Split (IsAim Min) (IsWanted WantSemicolon) us w → IsGoalEnd (g ∷ us) w
least_goal {g = g} e (split (aim_of {t = t} name) (single {t = z} f)) = goal_of z (least g t e name) f

greatest_goal : {g : Lexeme} {us : List Lexeme} {w : List Item} → g.sort ≡ Name Maximizing → Split (IsAim Max) (IsWanted WantSemicolon) us w → IsGoalEnd (g ∷ us) w
greatest_goal {g = g} e (split (aim_of {t = t} name) (single {t = z} f)) = goal_of z (greatest g t e name) f

-- ---- expressions
name_at : {n : Lexeme} → IsName n → IsAt Primary (n ∷ []) (NameItem n ∷ [])
name_at {n = n} name = is (a_name n name)

call_at : {n o : Lexeme} {us : List Lexeme} {w : List Item} → IsName n → o.sort ≡ Open → IsCall n us w → IsAt Primary (n ∷ o ∷ us) (Enters n ∷ w)
call_at {n = n} {o = o} name e (call_of {ts = ts} {a = a} c h f) = is (a_call n o c ts a name e h f)

argument_at : {us : List Lexeme} {w : List Item} → IsAt Sum us w → IsAt Arguments us w
argument_at (is {ts = ts} {e = e} h) = is (an_argument ts e h)

arguments_at : (c : Lexeme) {ts us : List Lexeme} {v w : List Item} → c.sort ≡ Comma → IsAt Arguments ts v → IsAt Sum us w → IsAt Arguments (ts ++ c ∷ us) (v ++ Lists ∷ w)
arguments_at c g (is {ts = ts} {e = e} h) (is {ts = us} {e = f} k) = is (arguments ts us c e f h g k)

call : {n o : Lexeme} {us : List Lexeme} {w : List Item} → IsName n → o.sort ≡ Open → Split (IsAt Sum) (EndsCall n) us w → IsAt Primary (n ∷ o ∷ us) (Enters n ∷ w)
call name e (split {ts = ts} {v = v} one ends) = call_at name e (ends ts v (argument_at one))

one_argument_more : (c : Lexeme) {n : Lexeme} {us : List Lexeme} {w : List Item} → c.sort ≡ Comma → Split (IsAt Sum) (EndsCall n) us w → EndsCall n (c ∷ us) (Lists ∷ w)
one_argument_more c e (split {ts = us} {us = rest} {v = w} {w = rest_w} one ends) ts v h =
    simp append_assoc at (ends (ts ++ c ∷ us) (v ++ Lists ∷ w) (arguments_at c e h one))

ends_call : (c : Lexeme) {n : Lexeme} → c.sort ≡ Close → EndsCall n (c ∷ []) (Applies n ∷ [])
ends_call c e ts v (is h) = call_of c h e

group_at : (c : Lexeme) {o : Lexeme} {ts : List Lexeme} {v : List Item} → o.sort ≡ Open → c.sort ≡ Close → IsAt Sum ts v → IsAt Primary (o ∷ ts ++ c ∷ []) (v ++ Groups ∷ [])
group_at c {o = o} e f (is {ts = ts} {e = a} h) = is (a_group o c ts a e h f)

group : (c : Lexeme) {us : List Lexeme} {w : List Item} → c.sort ≡ Close → Means MorePower us w → Means Closing (c ∷ us) (Groups ∷ w)
group c {us = us} {w = w} f grows o ts v e h = simp append_assoc at (grows (o ∷ ts ++ c ∷ []) (v ++ Groups ∷ []) (group_at c e f h))

no_power : Means MorePower [] []
no_power ts v (is {e = e} h) = simp append-nil (is (a_primary ts e h))

power : {p : Lexeme} {us : List Lexeme} {w : List Item} → p.sort ≡ Raise → IsExponent p us w → Means MorePower (p ∷ us) w
power {p = p} g (exponent_of {n = n} {f = f} k) ts v (is {e = e} h) = is (a_power ts p n f e h g k)

factor_at : {ts : List Lexeme} {v : List Item} → IsAt Factor ts v → IsAt Term ts v
factor_at (is {ts = ts} {e = e} h) = is (a_factor ts e h)

term_at : {ts : List Lexeme} {v : List Item} → IsAt Term ts v → IsAt Sum ts v
term_at (is {ts = ts} {e = e} h) = is (a_term ts e h)

product_at : (t : Lexeme) {s : Scale} {ts us : List Lexeme} {v w : List Item} → t.sort ≡ Scaled s → IsAt Term ts v → IsAt Factor us w → IsAt Term (ts ++ t ∷ us) (v ++ w ++ Joins (product_operator s) t ∷ [])
product_at t {s = s} g (is {ts = ts} {e = e} h) (is {ts = us} {e = f} k) = is (a_product ts us t s e f h g k)

sum_at : (t : Lexeme) {s : Sign} {ts us : List Lexeme} {v w : List Item} → t.sort ≡ Signed s → IsAt Sum ts v → IsAt Term us w → IsAt Sum (ts ++ t ∷ us) (v ++ w ++ Joins (sum_operator s) t ∷ [])
sum_at t {s = s} g (is {ts = ts} {e = e} h) (is {ts = us} {e = f} k) = is (a_sum ts us t s e f h g k)

signed_at : {t : Lexeme} {s : Sign} {us : List Lexeme} {w : List Item} → t.sort ≡ Signed s → IsAt Term us w → IsAt Sum (t ∷ us) (w ++ Signs s t ∷ [])
signed_at {t = t} {s = s} g (is {ts = ts} {e = e} h) = is (a_signed t s ts e g h)

unchanged : {level : Level} → Grows level level [] []
unchanged ts v h = simp append-nil h

one_factor_more : {t : Lexeme} {s : Scale} {us : List Lexeme} {w : List Item} → t.sort ≡ Scaled s → Split (IsAt Factor) (Split (IsDone (Joins (product_operator s) t)) (Means MoreFactors)) us w → Means MoreFactors (t ∷ us) w
one_factor_more {t = t} {s = s} e (split {ts = us} {v = w} one (split done grows)) ts v h =
    simp append_assoc at (grows (ts ++ t ∷ us) (v ++ w ++ Joins (product_operator s) t ∷ []) (product_at t e h one))

one_term_more : {t : Lexeme} {s : Sign} {us : List Lexeme} {w : List Item} → t.sort ≡ Signed s → Split (IsAt Factor) (Split (Means MoreFactors) (Split (IsDone (Joins (sum_operator s) t)) (Means MoreTerms))) us w → Means MoreTerms (t ∷ us) w
one_term_more {t = t} {s = s} e (split {ts = us} {v = w} one (split {ts = more_us} {v = more_w} factors (split done grows))) ts v h =
    simp append_assoc at (grows (ts ++ t ∷ (us ++ more_us)) (v ++ (w ++ more_w) ++ Joins (sum_operator s) t ∷ []) (sum_at t e h (factors us w (factor_at one))))

-- a factor and what stands behind it
from_factor : {ts us : List Lexeme} {v w : List Item} → IsAt Factor ts v → Split (Means MoreFactors) (Means MoreTerms) us w → IsAt Sum (ts ++ us) (v ++ w)
from_factor {ts = ts} {v = v} h (split {ts = us} {v = w} factors terms) =
    simp append_assoc at (terms (ts ++ us) (v ++ w) (term_at (factors ts v (factor_at h))))

named_factor : {n : Lexeme} {us : List Lexeme} {w : List Item} → IsName n → Split (Means (AfterLeaf n)) (Means MorePower) us w → IsAt Factor (n ∷ us) w
named_factor {n = n} name (split {ts = us} {v = w} leaf power) = power (n ∷ us) w (leaf name)

number_factor : {t : Lexeme} {f : Frac} {us : List Lexeme} {w : List Item} → t.sort ≡ Numeral f → Means MorePower us w → IsAt Factor (t ∷ us) (Number t f ∷ w)
number_factor {t = t} {f = f} e power = power (t ∷ []) (Number t f ∷ []) (is (a_numeral t f e))

group_factor : {o : Lexeme} {us : List Lexeme} {w : List Item} → o.sort ≡ Open → Split (IsAt Sum) (Means Closing) us w → IsAt Factor (o ∷ us) w
group_factor {o = o} e (split {ts = us} {v = w} one closing) = closing o us w e one

named_sum : {n : Lexeme} {us : List Lexeme} {w : List Item} → IsName n → Split (Means (AfterLeaf n)) (Split (Means MorePower) (Split (Means MoreFactors) (Means MoreTerms))) us w → IsAt Sum (n ∷ us) w
named_sum {n = n} name (split leaf (split power rest)) = simp append_assoc at (from_factor (named_factor {n = n} name (split leaf power)) rest)

number_sum : {t : Lexeme} {f : Frac} {us : List Lexeme} {w : List Item} → t.sort ≡ Numeral f → Split (Means MorePower) (Split (Means MoreFactors) (Means MoreTerms)) us w → IsAt Sum (t ∷ us) (Number t f ∷ w)
number_sum e (split power rest) = from_factor (number_factor e power) rest

group_sum : {o : Lexeme} {us : List Lexeme} {w : List Item} → o.sort ≡ Open → Split (IsAt Sum) (Split (Means Closing) (Split (Means MoreFactors) (Means MoreTerms))) us w → IsAt Sum (o ∷ us) w
group_sum {o = o} e (split one (split closing rest)) = simp append_assoc at (from_factor (group_factor {o = o} e (split one closing)) rest)

signed_sum : {t : Lexeme} {s : Sign} {us : List Lexeme} {w : List Item} → t.sort ≡ Signed s → Split (IsAt Factor) (Split (Means MoreFactors) (Split (IsDone (Signs s t)) (Means MoreTerms))) us w → IsAt Sum (t ∷ us) w
signed_sum {t = t} {s = s} e (split {ts = us} {v = w} one (split {ts = more_us} {v = more_w} factors (split done terms))) =
    simp append_assoc at (terms (t ∷ (us ++ more_us)) ((w ++ more_w) ++ Signs s t ∷ []) (signed_at e (factors us w (factor_at one))))

-- ---- the moves
wants : (want : Want) (q : Sort) → is_wanted want q ≡ true → q ≡ wanted want
wants WantVariables Variables e = refl
wants WantEquals Equals e = refl
wants WantSlash (Scaled Over) e = refl
wants WantUsing (Name Using) e = refl
wants WantEmp (Name Emp) e = refl
wants WantMcp (Name Mcp) e = refl
wants WantDot Dot e = refl
wants WantSemicolon Semicolon e = refl
wants want q e = cc

taken : {want : Want} {t : Lexeme} {us : List Lexeme} {w : List Item} → t.sort ≡ wanted want → Nil us w → IsWanted want (t ∷ us) w
taken e nil = single e

keeps_single : (want : Want) (t : Lexeme) (q : Sort) → t.sort ≡ q → (b : Bool) → is_wanted want q ≡ b → Keeps (Single want) t (cond b (Take None Nothing) Fail)
keeps_single want t q e true h = λ us w k. taken (e ∙ wants want q h) k
keeps_single want t q e false h = tt

keeps_file : (kind : Kind) (t : Lexeme) (q : Sort) → t.sort ≡ q → Keeps (File kind) t (file_move kind q t)
keeps_file kind t Semicolon e = λ us w h. one_more (one_of (is_empty t e)) h
keeps_file kind t (DomainWord k) e = λ us w h. domain_file e h
keeps_file kind t Variables e = λ us w h. variables_file e h
keeps_file kind t Equations e = λ us w h. equations_file e h
keeps_file kind t Model e = λ us w h. model_file e h
keeps_file kind t Solve e = λ us w h. solve_file e h
keeps_file kind t (Name k) e = λ us w h. name_file (k, e) h
keeps_file kind t q e = tt

one_semicolon_more : {z : Lexeme} {us : List Lexeme} {w : List Item} → z.sort ≡ Semicolon → IsTail us w → IsTail (z ∷ us) w
one_semicolon_more {z = z} e (tail_of {ts = ts} h) = tail_of (more z ts e h)

keeps_semicolons : (t : Lexeme) (q : Sort) → t.sort ≡ q → Keeps Semicolons t (semicolons_move q)
keeps_semicolons t Semicolon e = λ us w h. one_semicolon_more e h
keeps_semicolons t q e = tt

keeps_names : (how : Declares) (t : Lexeme) (q : Sort) → t.sort ≡ q → Keeps (Names how) t (names_move how q t)
keeps_names how t (Name k) e = λ us w h. begins_list (k, e) h
keeps_names how t q e = tt

optional : {t : Lexeme} {us : List Lexeme} {w : List Item} → t.sort ≡ Text → Nil us w → IsText (t ∷ us) w
optional e nil = a_text e

keeps_optional_text : (t : Lexeme) (q : Sort) → t.sort ≡ q → Keeps OptionalText t (optional_text_move q)
keeps_optional_text t Text e = λ us w h. optional e h
keeps_optional_text t q e = no_text

end_of_list : {how : Declares} (t : Lexeme) {us : List Lexeme} {w : List Item} → t.sort ≡ Semicolon → Nil us w → EndsList how (t ∷ us) w
end_of_list t e nil = ends_list t e

keeps_more_names : (how : Declares) (t : Lexeme) (q : Sort) → t.sort ≡ q → Keeps (MoreNames how) t (more_names_move how q t)
keeps_more_names how t (Name k) e = λ us w h. goes_on (begins_list (k, e) h)
keeps_more_names how t Comma e = λ us w h. goes_on_behind_comma t e h
keeps_more_names how t Semicolon e = λ us w h. end_of_list t e h
keeps_more_names how t q e = tt

keeps_after_name : (n t : Lexeme) (q : Sort) → t.sort ≡ q → Keeps (AfterName n) t (after_name_move n q)
keeps_after_name n t Dots e = λ us w h k named. definition_one named e h
keeps_after_name n t Dot e = λ us w h k named. h k t named e
keeps_after_name n t q e = tt

keeps_attribute : (n t : Lexeme) (q : Sort) → t.sort ≡ q → Keeps (Attribute n) t (attribute_move n q t)
keeps_attribute n t (Name k) e = λ us w h kind d named dot. setting_one named dot (k, e) h
keeps_attribute n t q e = tt

keeps_value : (n a t : Lexeme) (q : Sort) → t.sort ≡ q → Keeps (Value n a) t (value_move n a q)
keeps_value n a t (Numeral f) e = λ us w h. unsigned_value (finite t f e) h
keeps_value n a t (Name Infinity) e = λ us w h. unsigned_value (infinite t e) h
keeps_value n a t (Signed s) e = λ us w h. signed_value e h
keeps_value n a t q e = tt

keeps_signed_value : (n a : Lexeme) (s : Sign) (t : Lexeme) (q : Sort) → t.sort ≡ q → Keeps (SignedValue n a s) t (signed_value_move n a s q)
keeps_signed_value n a s t (Numeral f) e = λ us w h. behind_sign (finite t f e) h
keeps_signed_value n a s t (Name Infinity) e = λ us w h. behind_sign (infinite t e) h
keeps_signed_value n a s t q e = tt

keeps_comparison : (t : Lexeme) (q : Sort) → t.sort ≡ q → Keeps Comparison t (comparison_move q)
keeps_comparison t (Related k) e = λ us w h. comparison e h
keeps_comparison t q e = tt

keeps_model_name : (kind : Kind) (t : Lexeme) (q : Sort) → t.sort ≡ q → Keeps (ModelName kind) t (model_name_move kind q t)
keeps_model_name Agents t (Name k) e = λ us w h m f. model_one f (k, e) h
keeps_model_name Matches t (Name k) e = λ us w h m f. matched_one f (k, e) h
keeps_model_name kind t q e = tt

keeps_everything : (t : Lexeme) (q : Sort) → t.sort ≡ q → Keeps Everything t (everything_move q)
keeps_everything t (Name All) e = λ us w h. all_of_it e h
keeps_everything t q e = tt

closed_match : (t : Lexeme) {us : List Lexeme} {w : List Item} → t.sort ≡ Scaled Over → IsWanted WantSemicolon us w → Means MoreMatches (t ∷ us) w
closed_match t slash h e d v a b c = one_match_ends a b c slash h

further_match : (t : Lexeme) {us : List Lexeme} {w : List Item} → t.sort ≡ Comma → IsMatchList us w → Means MoreMatches (t ∷ us) w
further_match t comma h e d v a b c = one_match_more a b c comma h

keeps_match_equation : (t : Lexeme) (q : Sort) → t.sort ≡ q → Keeps MatchEquation t (match_equation_move q t)
keeps_match_equation t (Name k) e = λ us w h. dotted (k, e) h
keeps_match_equation t q e = tt

keeps_match_variable : (n t : Lexeme) (q : Sort) → t.sort ≡ q → Keeps (MatchVariable n) t (match_variable_move n q t)
keeps_match_variable n t (Name k) e = λ us w h d named dot. h n d t named dot (k, e)
keeps_match_variable n t q e = tt

keeps_more_matches : (t : Lexeme) (q : Sort) → t.sort ≡ q → Keeps MoreMatches t (more_matches_move q)
keeps_more_matches t Comma e = λ us w h. further_match t e h
keeps_more_matches t (Scaled Over) e = λ us w h. closed_match t e h
keeps_more_matches t q e = tt

keeps_solve_name : (kind : Kind) (t : Lexeme) (q : Sort) → t.sort ≡ q → Keeps (SolveName kind) t (solve_name_move kind q t)
keeps_solve_name Agents t (Name k) e = λ us w h s f. solve_one f (k, e) h
keeps_solve_name Matches t (Name k) e = λ us w h s f. mcp_one f (k, e) h
keeps_solve_name kind t q e = tt

without_goal : {t : Lexeme} {us : List Lexeme} {w : List Item} → t.sort ≡ Semicolon → Nil us w → IsGoalEnd (t ∷ us) w
without_goal {t = t} e nil = goal_of t no_goal e

keeps_goal : (t : Lexeme) (q : Sort) → t.sort ≡ q → Keeps Goal t (goal_move q)
keeps_goal t (Name Minimizing) e = λ us w h. least_goal e h
keeps_goal t (Name Maximizing) e = λ us w h. greatest_goal e h
keeps_goal t Semicolon e = λ us w h. without_goal e h
keeps_goal t q e = tt

aimed : {s : Sense} {t : Lexeme} {us : List Lexeme} {w : List Item} → IsName t → Nil us w → IsAim s (t ∷ us) (Aims s t ∷ w)
aimed named nil = aim_of named

keeps_aim : (s : Sense) (t : Lexeme) (q : Sort) → t.sort ≡ q → Keeps (Aim s) t (aim_move s q t)
keeps_aim s t (Name k) e = λ us w h. aimed (k, e) h
keeps_aim s t q e = tt

keeps_sum : (t : Lexeme) (q : Sort) → t.sort ≡ q → Keeps SumSymbol t (sum_move q t)
keeps_sum t (Name k) e = λ us w h. named_sum (k, e) h
keeps_sum t (Numeral f) e = λ us w h. number_sum e h
keeps_sum t Open e = λ us w h. group_sum e h
keeps_sum t (Signed s) e = λ us w h. signed_sum e h
keeps_sum t q e = tt

keeps_factor : (t : Lexeme) (q : Sort) → t.sort ≡ q → Keeps FactorSymbol t (factor_move q t)
keeps_factor t (Name k) e = λ us w h. named_factor (k, e) h
keeps_factor t (Numeral f) e = λ us w h. number_factor e h
keeps_factor t Open e = λ us w h. group_factor e h
keeps_factor t q e = tt

keeps_after_leaf : (n t : Lexeme) (q : Sort) → t.sort ≡ q → Keeps (AfterLeaf n) t (after_leaf_move n q)
keeps_after_leaf n t Open e = λ us w h named. call named e h
keeps_after_leaf n t q e = λ named. name_at named

keeps_more_power : (t : Lexeme) (q : Sort) → t.sort ≡ q → Keeps MorePower t (more_power_move q t)
keeps_more_power t Raise e = λ us w h. power e h
keeps_more_power t q e = no_power

raised : {p t : Lexeme} {f : Frac} {us : List Lexeme} {w : List Item} → t.sort ≡ Numeral f → Nil us w → IsExponent p (t ∷ us) (Raises p f ∷ w)
raised e nil = exponent_of e

keeps_exponent : (p t : Lexeme) (q : Sort) → t.sort ≡ q → Keeps (Exponent p) t (exponent_move p q)
keeps_exponent p t (Numeral f) e = λ us w h. raised e h
keeps_exponent p t q e = tt

keeps_more_factors : (t : Lexeme) (q : Sort) → t.sort ≡ q → Keeps MoreFactors t (more_factors_move q t)
keeps_more_factors t (Scaled s) e = λ us w h. one_factor_more e h
keeps_more_factors t q e = unchanged

keeps_more_terms : (t : Lexeme) (q : Sort) → t.sort ≡ q → Keeps MoreTerms t (more_terms_move q t)
keeps_more_terms t (Signed s) e = λ us w h. one_term_more e h
keeps_more_terms t q e = unchanged

end_of_call : {n : Lexeme} (t : Lexeme) {us : List Lexeme} {w : List Item} → t.sort ≡ Close → Nil us w → EndsCall n (t ∷ us) (Applies n ∷ w)
end_of_call t e nil = ends_call t e

keeps_more_arguments : (n t : Lexeme) (q : Sort) → t.sort ≡ q → Keeps (MoreArguments n) t (more_arguments_move n q)
keeps_more_arguments n t Comma e = λ us w h. one_argument_more t e h
keeps_more_arguments n t Close e = λ us w h. end_of_call t e h
keeps_more_arguments n t q e = tt

keeps_closing : (t : Lexeme) (q : Sort) → t.sort ≡ q → Keeps Closing t (closing_move q)
keeps_closing t Close e = λ us w h. group t e h
keeps_closing t q e = tt

keeps : (x : Symbol) (t : Lexeme) (q : Sort) → t.sort ≡ q → Keeps x t (move_of x q t)
keeps (File kind) t q e = keeps_file kind t q e
keeps Semicolons t q e = keeps_semicolons t q e
keeps (Single want) t q e = keeps_single want t q e (is_wanted want q) refl
keeps (Write item) t q e = done
keeps (Names how) t q e = keeps_names how t q e
keeps OptionalText t q e = keeps_optional_text t q e
keeps (MoreNames how) t q e = keeps_more_names how t q e
keeps (AfterName n) t q e = keeps_after_name n t q e
keeps (Attribute n) t q e = keeps_attribute n t q e
keeps (Value n a) t q e = keeps_value n a t q e
keeps (SignedValue n a s) t q e = keeps_signed_value n a s t q e
keeps Comparison t q e = keeps_comparison t q e
keeps (ModelName kind) t q e = keeps_model_name kind t q e
keeps Everything t q e = keeps_everything t q e
keeps MatchEquation t q e = keeps_match_equation t q e
keeps (MatchVariable n) t q e = keeps_match_variable n t q e
keeps MoreMatches t q e = keeps_more_matches t q e
keeps (SolveName kind) t q e = keeps_solve_name kind t q e
keeps Goal t q e = keeps_goal t q e
keeps (Aim s) t q e = keeps_aim s t q e
keeps SumSymbol t q e = keeps_sum t q e
keeps FactorSymbol t q e = keeps_factor t q e
keeps (AfterLeaf n) t q e = keeps_after_leaf n t q e
keeps MorePower t q e = keeps_more_power t q e
keeps (Exponent p) t q e = keeps_exponent p t q e
keeps MoreFactors t q e = keeps_more_factors t q e
keeps MoreTerms t q e = keeps_more_terms t q e
keeps (MoreArguments n) t q e = keeps_more_arguments n t q e
keeps Closing t q e = keeps_closing t q e

-- ---- the machine
regroup : {P Q R : List Lexeme → List Item → Type 0} {ts : List Lexeme} {w : List Item} → Split P (Split Q R) ts w → Split (Split P Q) R ts w
regroup {P = P} {Q = Q} {R = R} (split {ts = ts} {v = v} p (split {ts = us} {us = rest} {v = w} {w = x} q r)) =
    let h : Split (Split P Q) R (ts ++ us ++ rest) (v ++ w ++ x) = split (split p q) r in
    simp append_assoc at h

regroup_two : {P Q R S : List Lexeme → List Item → Type 0} {ts : List Lexeme} {w : List Item} → Split P (Split Q (Split R S)) ts w → Split (Split P (Split Q R)) S ts w
regroup_two (split p rest) = regroup (split p (regroup rest))

regroup_three : {P Q R S T : List Lexeme → List Item → Type 0} {ts : List Lexeme} {w : List Item} → Split P (Split Q (Split R (Split S T))) ts w → Split (Split P (Split Q (Split R S))) T ts w
regroup_three (split p rest) = regroup (split p (regroup_two rest))

gather : (n : Next) (s : List Symbol) {ts : List Lexeme} {w : List Item} → MeansAll (symbols n ++ s) ts w → Split (MeansNext n) (MeansAll s) ts w
gather Nothing s h = split nil h
gather (One a) s h = h
gather (Two a b) s h = regroup h
gather (Three a b c) s h = regroup_two h
gather (Four a b c d) s h = regroup_three h

one_taken : (x : Symbol) (s : List Symbol) (t : Lexeme) (item : Option Item) (n : Next) {ts : List Lexeme} {w : List Item} → Keeps x t (Take item n) → Split (MeansNext n) (MeansAll s) ts w → MeansAll (x ∷ s) (t ∷ ts) (option_to_list item ++ w)
one_taken x s t None n k (split {ts = us} {v = v} p q) = split (k us v p) q
one_taken x s t (Some item) n k (split {ts = us} {v = v} p q) = split (k us v p) q

means : {s : List Symbol} {ts : List Lexeme} {w : List Item} → Writes s ts w → MeansAll s ts w
means over = split (tail_of none) nil
means (takes {x = x} {s = s} {t = t} {item = item} {next = n} e h) = one_taken x s t item n (subst (Keeps x t) e (keeps x t t.sort refl)) (gather n s (means h))
means (skips {x = x} {t = t} e h) = split (subst (Keeps x t) e (keeps x t t.sort refl)) (means h)

-- ---- what the machine writes is what statements write
whole : {k : Kind} {ts : List Lexeme} {w : List Item} → IsWhole k ts w → AreItems k ts w
whole (file_of {ss = ss} h) = record { statements = ss; file = h; are = refl }

only : {k : Kind} {ts : List Lexeme} {w : List Item} → Split (IsWhole k) Nil ts w → IsWhole k ts w
only (split h nil) = simp append-nil h

pub sound : {k : Kind} {ts : List Lexeme} {w : List Item} → Writes (File k ∷ []) ts w → AreItems k ts w
sound h = whole (only (means h))
