-- Lexemes that stand for statements are read.
use Rattle.std.proofs.Common.{◌≡◌, Bool, true, false, IsTrue, List, [], ◌∷◌, ◌++◌, map, Option, Some, None, refl, ap, append_assoc}
use Rattle.std.proofs.lemmas.List.{map-append}
use Rattle.emp_num.specs.declared.frac.Frac.{Frac}
use Rattle.emp_ast.specs.declared.model.Sense.{Sense}
use Rattle.emp_ast.specs.declared.model.Sense.TheVariants.{Min, Max}
use Rattle.gms_grammar.specs.declared.kind.Kind.{Kind}
use Rattle.gms_grammar.specs.declared.kind.Kind.TheVariants.{Agents, Matches}
use Rattle.gms_grammar.specs.declared.lexeme.Word.{Word}
use Rattle.gms_grammar.specs.declared.lexeme.Sign.{Sign}
use Rattle.gms_grammar.specs.declared.lexeme.Scale.TheVariants.{Over}
use Rattle.gms_grammar.specs.declared.lexeme.Domain.TheVariants.{Free}
use Rattle.gms_grammar.specs.declared.lexeme.Sort.{Sort}
use Rattle.gms_grammar.specs.declared.lexeme.Sort.TheVariants.{Name, Numeral, Text, Semicolon, Comma, Sign as Signed, Scale as Scaled, Raise, Open}
use Rattle.gms_grammar.specs.declared.lexeme.Lexeme.{Lexeme}
use Rattle.gms_grammar.specs.declared.limit.Limit.{Limit}
use Rattle.gms_grammar.specs.declared.limit.Limit.TheVariants.{At, Above}
use Rattle.gms_grammar.specs.declared.item.Item.{Item}
use Rattle.gms_grammar.specs.declared.item.Item.TheVariants.{Begins, Defines, Relates, Ends, Number, Name as NameItem, Enters, Lists, Applies, Groups, Raises, Signs, Joins, Sets, Model as ModelItem, Match as MatchItem, Solves, Aims}
use Rattle.gms_grammar.specs.declared.symbol.Declares.{Declares}
use Rattle.gms_grammar.specs.declared.symbol.Declares.TheVariants.{Variables as ForVariables, Equations as ForEquations}
use Rattle.gms_grammar.specs.declared.symbol.Want.{Want}
use Rattle.gms_grammar.specs.declared.symbol.Want.TheVariants.{Variables as WantVariables, Equals as WantEquals, Slash as WantSlash, Using as WantUsing, Emp as WantEmp, Mcp as WantMcp, Dot as WantDot, Semicolon as WantSemicolon}
use Rattle.gms_grammar.specs.declared.symbol.Symbol.{Symbol}
use Rattle.gms_grammar.specs.declared.symbol.Symbol.TheVariants.{File, Semicolons, Single, Write, Names, OptionalText, MoreNames, AfterName, Attribute, Value, SignedValue, Comparison, ModelName, Everything, MatchEquation, MatchVariable, MoreMatches, SolveName, Goal, Aim, Sum as SumSymbol, Factor as FactorSymbol, AfterLeaf, MorePower, Exponent, MoreFactors, MoreTerms, MoreArguments, Closing}
use Rattle.gms_grammar.specs.declared.symbol.Next.TheVariants.{Nothing, One, Two, Three, Four}
use Rattle.gms_grammar.specs.declared.symbol.Move.TheVariants.{Skip}
use Rattle.gms_grammar.specs.Grammar.{Written, sum_operator, product_operator, signed_limit, Level, Arguments, Sum, Term, Factor, Primary, Stands, a_numeral, a_name, a_call, a_group, a_primary, a_power, a_factor, a_product, a_term, a_signed, a_sum, an_argument, arguments, Statement, IsEntry, bare, described, AreNames, first, next, next_behind_comma, IsUnsigned, finite, infinite, IsLimit, no_sign, with_sign, IsGoal, no_goal, least, greatest, AreMatches, one_match, more_matches, IsStatementOf, is_empty, is_variables, is_domain, is_equations, is_definition, is_setting, is_model, is_matched, IsSolveOf, is_solve, is_mcp, AreSemicolons, none, more, IsFileOf, last, then}
use Rattle.gms_grammar.specs.Items.{written_items, goal_items, statement_items, items_of}
use Rattle.gms_grammar.specs.Machine.{declared, wanted, single_move, after_leaf_move, more_power_move, more_factors_move, more_terms_move, optional_text_move, move}
use Rattle.gms_grammar.proofs.Writing.{Writes, over, takes, skips}

-- ---- what can stand behind a part of an expression
abbrev no_call : Sort → Bool
no_call Open = false
no_call q = true

abbrev no_power : Sort → Bool
no_power Open = false
no_power Raise = false
no_power q = true

abbrev no_factor : Sort → Bool
no_factor Open = false
no_factor Raise = false
no_factor (Scaled s) = false
no_factor q = true

abbrev no_term : Sort → Bool
no_term Open = false
no_term Raise = false
no_term (Scaled s) = false
no_term (Signed s) = false
no_term q = true

power_call : (q : Sort) → IsTrue (no_power q) → IsTrue (no_call q)
power_call Open h = h
power_call q h = refl

factor_power : (q : Sort) → IsTrue (no_factor q) → IsTrue (no_power q)
factor_power Open h = h
factor_power Raise h = h
factor_power q h = refl

term_factor : (q : Sort) → IsTrue (no_term q) → IsTrue (no_factor q)
term_factor Open h = h
term_factor Raise h = h
term_factor (Scaled s) h = h
term_factor q h = refl

leaf_skips : (n : Lexeme) (q : Sort) → IsTrue (no_call q) → after_leaf_move n q ≡ Skip (Some (NameItem n))
leaf_skips n Open h = cc
leaf_skips n q h = refl

power_skips : (t : Lexeme) (q : Sort) → IsTrue (no_power q) → more_power_move q t ≡ Skip None
power_skips t Raise h = cc
power_skips t q h = refl

factors_skip : (t : Lexeme) (q : Sort) → IsTrue (no_factor q) → more_factors_move q t ≡ Skip None
factors_skip t (Scaled s) h = cc
factors_skip t q h = refl

terms_skip : (t : Lexeme) (q : Sort) → IsTrue (no_term q) → more_terms_move q t ≡ Skip None
terms_skip t (Signed s) h = cc
terms_skip t q h = refl

-- ---- where a factor begins
data Starts : List Symbol → List Symbol → Type 0 where
  at_factor : {s : List Symbol} → Starts (FactorSymbol ∷ s) s
  at_sum : {s : List Symbol} → Starts (SumSymbol ∷ s) (MoreFactors ∷ MoreTerms ∷ s)

start_name : {a s : List Symbol} {t : Lexeme} {k : Word} {ts : List Lexeme} {w : List Item} → Starts a s → t.sort ≡ Name k → Writes (AfterLeaf t ∷ MorePower ∷ s) ts w → Writes a (t ∷ ts) w
start_name {t = t} at_factor e h = takes {item = None} {next = Two (AfterLeaf t) MorePower} (ap (λ q. move FactorSymbol q t) e) h
start_name {t = t} at_sum e h = takes {item = None} {next = Four (AfterLeaf t) MorePower MoreFactors MoreTerms} (ap (λ q. move SumSymbol q t) e) h

start_numeral : {a s : List Symbol} {t : Lexeme} {f : Frac} {ts : List Lexeme} {w : List Item} → Starts a s → t.sort ≡ Numeral f → Writes (MorePower ∷ s) ts w → Writes a (t ∷ ts) (Number t f ∷ w)
start_numeral {t = t} {f = f} at_factor e h = takes {item = Some (Number t f)} {next = One MorePower} (ap (λ q. move FactorSymbol q t) e) h
start_numeral {t = t} {f = f} at_sum e h = takes {item = Some (Number t f)} {next = Three MorePower MoreFactors MoreTerms} (ap (λ q. move SumSymbol q t) e) h

start_open : {a s : List Symbol} {t : Lexeme} {ts : List Lexeme} {w : List Item} → Starts a s → t.sort ≡ Open → Writes (SumSymbol ∷ Closing ∷ s) ts w → Writes a (t ∷ ts) w
start_open {t = t} at_factor e h = takes {item = None} {next = Two SumSymbol Closing} (ap (λ q. move FactorSymbol q t) e) h
start_open {t = t} at_sum e h = takes {item = None} {next = Four SumSymbol Closing MoreFactors MoreTerms} (ap (λ q. move SumSymbol q t) e) h

-- ---- expressions are read
abbrev Completes : Level → List Lexeme → Written → Type 0
Completes Primary ts e = (a s : List Symbol) (r : Lexeme) (rest : List Lexeme) (w : List Item) → Starts a s → IsTrue (no_call r.sort) → Writes (MorePower ∷ s) (r ∷ rest) w → Writes a (ts ++ r ∷ rest) (written_items e ++ w)
Completes Factor ts e = (a s : List Symbol) (r : Lexeme) (rest : List Lexeme) (w : List Item) → Starts a s → IsTrue (no_power r.sort) → Writes s (r ∷ rest) w → Writes a (ts ++ r ∷ rest) (written_items e ++ w)
Completes Term ts e = (a s : List Symbol) (r : Lexeme) (rest : List Lexeme) (w : List Item) → Starts a (MoreFactors ∷ s) → IsTrue (no_power r.sort) → Writes (MoreFactors ∷ s) (r ∷ rest) w → Writes a (ts ++ r ∷ rest) (written_items e ++ w)
Completes Sum ts e = (s : List Symbol) (r : Lexeme) (rest : List Lexeme) (w : List Item) → IsTrue (no_factor r.sort) → Writes (MoreTerms ∷ s) (r ∷ rest) w → Writes (SumSymbol ∷ s) (ts ++ r ∷ rest) (written_items e ++ w)
Completes Arguments ts e = (n : Lexeme) (s : List Symbol) (r : Lexeme) (rest : List Lexeme) (w : List Item) → IsTrue (no_term r.sort) → Writes (MoreArguments n ∷ s) (r ∷ rest) w → Writes (SumSymbol ∷ MoreArguments n ∷ s) (ts ++ r ∷ rest) (written_items e ++ w)

complete : {level : Level} {ts : List Lexeme} {e : Written} → Stands level ts e → Completes level ts e
complete (a_numeral t f e) = λ a s r rest w start behind h. start_numeral start e h
complete (a_name t named) = λ a s r rest w start behind h. start_name start named.1 (skips (leaf_skips t r.sort behind) h)
complete (a_call t o c ts e named open_is inner close_is) = λ a s r rest w start behind h.
    let ends : Writes (MoreArguments t ∷ MorePower ∷ s) (c ∷ r ∷ rest) (Applies t ∷ w) = takes {item = Some (Applies t)} {next = Nothing} (ap (λ q. move (MoreArguments t) q c) close_is) h in
    let list = complete inner t (MorePower ∷ s) c (r ∷ rest) (Applies t ∷ w) (ap no_term close_is) ends in
    simp append_assoc (start_name start named.1 (takes {item = Some (Enters t)} {next = Two SumSymbol (MoreArguments t)} (ap (λ q. move (AfterLeaf t) q o) open_is) list))
complete (a_group o c ts e open_is inner close_is) = λ a s r rest w start behind h.
    let ends : Writes (Closing ∷ s) (c ∷ r ∷ rest) (Groups ∷ w) = takes {item = Some Groups} {next = One MorePower} (ap (λ q. move Closing q c) close_is) h in
    let closed : Writes (MoreTerms ∷ Closing ∷ s) (c ∷ r ∷ rest) (Groups ∷ w) = skips (ap (λ q. move MoreTerms q c) close_is) ends in
    simp append_assoc (start_open start open_is (complete inner (Closing ∷ s) c (r ∷ rest) (Groups ∷ w) (ap no_factor close_is) closed))
complete (a_primary ts e inner) = λ a s r rest w start behind h. complete inner a s r rest w start (power_call r.sort behind) (skips (power_skips r r.sort behind) h)
complete (a_power ts p n f e inner raise_is number_is) = λ a s r rest w start behind h.
    let power : Writes (MorePower ∷ s) (p ∷ n ∷ r ∷ rest) (Raises p f ∷ w) = takes {item = None} {next = One (Exponent p)} (ap (λ q. move MorePower q p) raise_is) (takes {item = Some (Raises p f)} {next = Nothing} (ap (λ q. move (Exponent p) q n) number_is) h) in
    simp append_assoc (complete inner a s p (n ∷ r ∷ rest) (Raises p f ∷ w) start (ap no_call raise_is) power)
complete (a_factor ts e inner) = λ a s r rest w start behind h. complete inner a (MoreFactors ∷ s) r rest w start behind h
complete (a_product ts us t k e f left scale_is right) = λ a s r rest w start behind h.
    let joins : Writes (Write (Joins (product_operator k) t) ∷ MoreFactors ∷ s) (r ∷ rest) (Joins (product_operator k) t ∷ w) = skips refl h in
    let factor = complete right (FactorSymbol ∷ Write (Joins (product_operator k) t) ∷ MoreFactors ∷ s) (Write (Joins (product_operator k) t) ∷ MoreFactors ∷ s) r rest (Joins (product_operator k) t ∷ w) at_factor behind joins in
    let factors : Writes (MoreFactors ∷ s) (t ∷ (us ++ r ∷ rest)) (written_items f ++ Joins (product_operator k) t ∷ w) = takes {item = None} {next = Three FactorSymbol (Write (Joins (product_operator k) t)) MoreFactors} (ap (λ q. move MoreFactors q t) scale_is) factor in
    simp append_assoc (complete left a s t (us ++ r ∷ rest) (written_items f ++ Joins (product_operator k) t ∷ w) start (ap no_power scale_is) factors)
complete (a_term ts e inner) = λ s r rest w behind h. complete inner (SumSymbol ∷ s) (MoreTerms ∷ s) r rest w at_sum (factor_power r.sort behind) (skips (factors_skip r r.sort behind) h)
complete (a_signed t k ts e sign_is inner) = λ s r rest w behind h.
    let signs : Writes (Write (Signs k t) ∷ MoreTerms ∷ s) (r ∷ rest) (Signs k t ∷ w) = skips refl h in
    let ends : Writes (MoreFactors ∷ Write (Signs k t) ∷ MoreTerms ∷ s) (r ∷ rest) (Signs k t ∷ w) = skips (factors_skip r r.sort behind) signs in
    let term = complete inner (FactorSymbol ∷ MoreFactors ∷ Write (Signs k t) ∷ MoreTerms ∷ s) (Write (Signs k t) ∷ MoreTerms ∷ s) r rest (Signs k t ∷ w) at_factor (factor_power r.sort behind) ends in
    simp append_assoc (takes {x = SumSymbol} {item = None} {next = Four FactorSymbol MoreFactors (Write (Signs k t)) MoreTerms} (ap (λ q. move SumSymbol q t) sign_is) term)
complete (a_sum ts us t k e f left sign_is right) = λ s r rest w behind h.
    let joins : Writes (Write (Joins (sum_operator k) t) ∷ MoreTerms ∷ s) (r ∷ rest) (Joins (sum_operator k) t ∷ w) = skips refl h in
    let ends : Writes (MoreFactors ∷ Write (Joins (sum_operator k) t) ∷ MoreTerms ∷ s) (r ∷ rest) (Joins (sum_operator k) t ∷ w) = skips (factors_skip r r.sort behind) joins in
    let term = complete right (FactorSymbol ∷ MoreFactors ∷ Write (Joins (sum_operator k) t) ∷ MoreTerms ∷ s) (Write (Joins (sum_operator k) t) ∷ MoreTerms ∷ s) r rest (Joins (sum_operator k) t ∷ w) at_factor (factor_power r.sort behind) ends in
    let terms : Writes (MoreTerms ∷ s) (t ∷ (us ++ r ∷ rest)) (written_items f ++ Joins (sum_operator k) t ∷ w) = takes {item = None} {next = Four FactorSymbol MoreFactors (Write (Joins (sum_operator k) t)) MoreTerms} (ap (λ q. move MoreTerms q t) sign_is) term in
    simp append_assoc (complete left s t (us ++ r ∷ rest) (written_items f ++ Joins (sum_operator k) t ∷ w) (ap no_factor sign_is) terms)
complete (an_argument ts e inner) = λ n s r rest w behind h. complete inner (MoreArguments n ∷ s) r rest w (term_factor r.sort behind) (skips (terms_skip r r.sort behind) h)
complete (arguments ts us c e f left comma_is right) = λ n s r rest w behind h.
    let ends : Writes (MoreTerms ∷ MoreArguments n ∷ s) (r ∷ rest) w = skips (terms_skip r r.sort behind) h in
    let sum = complete right (MoreArguments n ∷ s) r rest w (term_factor r.sort behind) ends in
    let list : Writes (MoreArguments n ∷ s) (c ∷ (us ++ r ∷ rest)) (Lists ∷ (written_items f ++ w)) = takes {item = Some Lists} {next = Two SumSymbol (MoreArguments n)} (ap (λ q. move (MoreArguments n) q c) comma_is) sum in
    simp append_assoc (complete left n s c (us ++ r ∷ rest) (Lists ∷ (written_items f ++ w)) (ap no_term comma_is) list)

-- an expression in front of what is no part of it
expression : {ts : List Lexeme} {e : Written} {s : List Symbol} (r : Lexeme) {rest : List Lexeme} {w : List Item} → Stands Sum ts e → IsTrue (no_term r.sort) → Writes s (r ∷ rest) w → Writes (SumSymbol ∷ s) (ts ++ r ∷ rest) (written_items e ++ w)
expression {s = s} r {rest = rest} {w = w} h behind k = complete h s r rest w (term_factor r.sort behind) (skips (terms_skip r r.sort behind) k)

-- ---- single lexemes
single : {want : Want} {t : Lexeme} {s : List Symbol} {ts : List Lexeme} {w : List Item} → t.sort ≡ wanted want → Writes s ts w → Writes (Single want ∷ s) (t ∷ ts) w
single {want = WantVariables} e h = takes {item = None} {next = Nothing} (ap (λ q. single_move WantVariables q) e) h
single {want = WantEquals} e h = takes {item = None} {next = Nothing} (ap (λ q. single_move WantEquals q) e) h
single {want = WantSlash} e h = takes {item = None} {next = Nothing} (ap (λ q. single_move WantSlash q) e) h
single {want = WantUsing} e h = takes {item = None} {next = Nothing} (ap (λ q. single_move WantUsing q) e) h
single {want = WantEmp} e h = takes {item = None} {next = Nothing} (ap (λ q. single_move WantEmp q) e) h
single {want = WantMcp} e h = takes {item = None} {next = Nothing} (ap (λ q. single_move WantMcp q) e) h
single {want = WantDot} e h = takes {item = None} {next = Nothing} (ap (λ q. single_move WantDot q) e) h
single {want = WantSemicolon} e h = takes {item = None} {next = Nothing} (ap (λ q. single_move WantSemicolon q) e) h

-- ---- lists of names
abbrev no_text : Sort → Bool
no_text Text = false
no_text q = true

text_skips : (q : Sort) → IsTrue (no_text q) → optional_text_move q ≡ Skip None
text_skips Text h = cc
text_skips q h = refl

text_taken : {x : Lexeme} {s : List Symbol} {ts : List Lexeme} {w : List Item} → x.sort ≡ Text → Writes s ts w → Writes (OptionalText ∷ s) (x ∷ ts) w
text_taken e h = takes {item = None} {next = Nothing} (ap optional_text_move e) h

-- a name in front of what is no text
entry_read : {ts : List Lexeme} {t : Lexeme} {a s : List Symbol} (r : Lexeme) {rest : List Lexeme} {v w : List Item} → IsEntry ts t → ((k : Word) (us : List Lexeme) → t.sort ≡ Name k → Writes (OptionalText ∷ s) us w → Writes a (t ∷ us) v) → IsTrue (no_text r.sort) → Writes s (r ∷ rest) w → Writes a (ts ++ r ∷ rest) v
entry_read r {rest = rest} (bare t named) begins behind h = begins named.0 (r ∷ rest) named.1 (skips (text_skips r.sort behind) h)
entry_read r {rest = rest} (described t x named text_is) begins behind h = begins named.0 (x ∷ r ∷ rest) named.1 (text_taken text_is h)

-- the names up to some place are read, whatever stands behind them
abbrev AreRead : Declares → List Symbol → List Lexeme → List Lexeme → Type 0
AreRead how s ts names = (r : Lexeme) (rest : List Lexeme) (w : List Item) → IsTrue (no_text r.sort) → Writes (MoreNames how ∷ s) (r ∷ rest) w → Writes (Names how ∷ s) (ts ++ r ∷ rest) (map (declared how) names ++ w)

module _ {how : Declares} {s : List Symbol} where
  list_begins : {t : Lexeme} {w : List Item} (k : Word) (us : List Lexeme) → t.sort ≡ Name k → Writes (OptionalText ∷ MoreNames how ∷ s) us w → Writes (Names how ∷ s) (t ∷ us) (declared how t ∷ w)
  list_begins {t = t} k us e h = takes {item = Some (declared how t)} {next = Two OptionalText (MoreNames how)} (ap (λ q. move (Names how) q t) e) h

  list_goes_on : {t : Lexeme} {w : List Item} (k : Word) (us : List Lexeme) → t.sort ≡ Name k → Writes (OptionalText ∷ MoreNames how ∷ s) us w → Writes (MoreNames how ∷ s) (t ∷ us) (declared how t ∷ w)
  list_goes_on {t = t} k us e h = takes {item = Some (declared how t)} {next = Two OptionalText (MoreNames how)} (ap (λ q. move (MoreNames how) q t) e) h

  comma_taken : {c : Lexeme} {ts : List Lexeme} {w : List Item} → c.sort ≡ Comma → Writes (Names how ∷ s) ts w → Writes (MoreNames how ∷ s) (c ∷ ts) w
  comma_taken {c = c} e h = takes {item = None} {next = One (Names how)} (ap (λ q. move (MoreNames how) q c) e) h

  one_name_more : (ts names : List Lexeme) {us : List Lexeme} {t : Lexeme} → AreRead how s ts names → IsEntry us t → AreRead how s (ts ++ us) (names ++ t ∷ [])
  one_name_more ts names {t = t} before (bare u named) r rest w behind h =
      simp (append_assoc, map-append) (before t (r ∷ rest) (declared how t ∷ w) (ap no_text named.1) (entry_read r (bare t named) list_goes_on behind h))
  one_name_more ts names {t = t} before (described u x named text_is) r rest w behind h =
      simp (append_assoc, map-append) (before t (x ∷ r ∷ rest) (declared how t ∷ w) (ap no_text named.1) (entry_read r (described t x named text_is) list_goes_on behind h))

  names_read : {ts names : List Lexeme} → AreNames ts names → AreRead how s ts names
  names_read (first ts t entry) = λ r rest w behind h. entry_read r entry list_begins behind h
  names_read (next ts us names t before entry) = one_name_more ts names (names_read before) entry
  names_read (next_behind_comma ts us names c t before comma_is entry) = λ r rest w behind h.
      simp (append_assoc, map-append) (names_read before c (us ++ r ∷ rest) (declared how t ∷ w) (ap no_text comma_is) (comma_taken comma_is (entry_read r entry list_begins behind h)))

  -- names and their `;`
  list_read : {ts names : List Lexeme} (z : Lexeme) {rest : List Lexeme} {w : List Item} → AreNames ts names → z.sort ≡ Semicolon → Writes s rest w → Writes (Names how ∷ s) (ts ++ z ∷ rest) (map (declared how) names ++ w)
  list_read z {rest = rest} {w = w} names e h = names_read names z rest w (ap no_text e) (takes {item = None} {next = Nothing} (ap (λ q. move (MoreNames how) q z) e) h)

-- ---- statements
unsigned_read : {n a t z : Lexeme} {limit : Limit} {s : List Symbol} {rest : List Lexeme} {w : List Item} → IsUnsigned t limit → z.sort ≡ Semicolon → Writes s rest w → Writes (Value n a ∷ s) (t ∷ z ∷ rest) (Sets n a limit ∷ w)
unsigned_read {n = n} {a = a} (finite t f e) z_is h = takes {item = Some (Sets n a (At f))} {next = One (Single WantSemicolon)} (ap (λ q. move (Value n a) q t) e) (single z_is h)
unsigned_read {n = n} {a = a} (infinite t e) z_is h = takes {item = Some (Sets n a Above)} {next = One (Single WantSemicolon)} (ap (λ q. move (Value n a) q t) e) (single z_is h)

signed_read : {n a t z : Lexeme} {k : Sign} {limit : Limit} {s : List Symbol} {rest : List Lexeme} {w : List Item} → IsUnsigned t limit → z.sort ≡ Semicolon → Writes s rest w → Writes (SignedValue n a k ∷ s) (t ∷ z ∷ rest) (Sets n a (signed_limit k limit) ∷ w)
signed_read {n = n} {a = a} {k = k} (finite t f e) z_is h = takes {item = Some (Sets n a (signed_limit k (At f)))} {next = One (Single WantSemicolon)} (ap (λ q. move (SignedValue n a k) q t) e) (single z_is h)
signed_read {n = n} {a = a} {k = k} (infinite t e) z_is h = takes {item = Some (Sets n a (signed_limit k Above))} {next = One (Single WantSemicolon)} (ap (λ q. move (SignedValue n a k) q t) e) (single z_is h)

limit_read : {n a : Lexeme} (z : Lexeme) {ts : List Lexeme} {limit : Limit} {s : List Symbol} {rest : List Lexeme} {w : List Item} → IsLimit ts limit → z.sort ≡ Semicolon → Writes s rest w → Writes (Value n a ∷ s) (ts ++ z ∷ rest) (Sets n a limit ∷ w)
limit_read z (no_sign t limit u) e h = unsigned_read u e h
limit_read {n = n} {a = a} z (with_sign g t k limit g_is u) e h = takes {item = None} {next = One (SignedValue n a k)} (ap (λ q. move (Value n a) q g) g_is) (signed_read u e h)

goal_read : (z : Lexeme) {ts : List Lexeme} {goal : Option (Sense × Lexeme)} {s : List Symbol} {rest : List Lexeme} {w : List Item} → IsGoal ts goal → z.sort ≡ Semicolon → Writes s rest w → Writes (Goal ∷ s) (ts ++ z ∷ rest) (goal_items goal ++ w)
goal_read z no_goal e h = takes {item = None} {next = Nothing} (ap (λ q. move Goal q z) e) h
goal_read z (least g t g_is named) e h = takes {item = None} {next = Two (Aim Min) (Single WantSemicolon)} (ap (λ q. move Goal q g) g_is) (takes {item = Some (Aims Min t)} {next = Nothing} (ap (λ q. move (Aim Min) q t) named.1) (single e h))
goal_read z (greatest g t g_is named) e h = takes {item = None} {next = Two (Aim Max) (Single WantSemicolon)} (ap (λ q. move Goal q g) g_is) (takes {item = Some (Aims Max t)} {next = Nothing} (ap (λ q. move (Aim Max) q t) named.1) (single e h))

-- in front of statements there is a lexeme at which the item is written
written_first : {kind : Kind} {item : Item} {ts : List Lexeme} {w : List Item} → Writes (File kind ∷ []) ts w → Writes (Write item ∷ File kind ∷ []) ts (item ∷ w)
written_first (takes e h) = skips refl (takes e h)
written_first (skips e h) = skips refl (skips e h)

-- matches, and the `/ ;` behind them
matches_read : (c z : Lexeme) {ts rest : List Lexeme} {qs : List (Lexeme × Lexeme)} {s : List Symbol} {w : List Item} → AreMatches ts qs → c.sort ≡ Scaled Over → z.sort ≡ Semicolon → Writes s rest w → Writes (MatchEquation ∷ s) (ts ++ c ∷ z ∷ rest) (map (λ q. MatchItem q.0 q.1) qs ++ w)
matches_read c z (one_match e d v e_is d_is v_is) c_is z_is h =
    takes {item = None} {next = Two (Single WantDot) (MatchVariable e)} (ap (λ q. move MatchEquation q e) e_is.1)
    (single d_is (takes {item = Some (MatchItem e v)} {next = One MoreMatches} (ap (λ q. move (MatchVariable e) q v) v_is.1)
    (takes {item = None} {next = One (Single WantSemicolon)} (ap (λ q. move MoreMatches q c) c_is) (single z_is h))))
matches_read c z (more_matches e d v b ts qs e_is d_is v_is b_is are) c_is z_is h =
    takes {item = None} {next = Two (Single WantDot) (MatchVariable e)} (ap (λ q. move MatchEquation q e) e_is.1)
    (single d_is (takes {item = Some (MatchItem e v)} {next = One MoreMatches} (ap (λ q. move (MatchVariable e) q v) v_is.1)
    (takes {item = None} {next = One MatchEquation} (ap (λ q. move MoreMatches q b) b_is) (matches_read c z are c_is z_is h))))

statement_read : {kind : Kind} {ts : List Lexeme} {st : Statement} {rest : List Lexeme} {w : List Item} → IsStatementOf kind ts st → Writes (File kind ∷ []) rest w → Writes (File kind ∷ []) (ts ++ rest) (statement_items st ++ w)
statement_read {kind = kind} (is_empty z e) h = takes {item = None} {next = One (File kind)} (ap (λ q. move (File kind) q z) e) h
statement_read {kind = kind} (is_variables v z ts names v_is are z_is) h =
    simp append_assoc (takes {item = Some (Begins Free v)} {next = Two (Names (ForVariables Free)) (File kind)} (ap (λ q. move (File kind) q v) v_is) (list_read z are z_is h))
statement_read {kind = kind} (is_domain d v z k ts names d_is v_is are z_is) h =
    simp append_assoc (takes {item = Some (Begins k d)} {next = Three (Single WantVariables) (Names (ForVariables k)) (File kind)} (ap (λ q. move (File kind) q d) d_is) (single v_is (list_read z are z_is h)))
statement_read {kind = kind} (is_equations v z ts names v_is are z_is) h =
    simp append_assoc (takes {item = None} {next = Two (Names ForEquations) (File kind)} (ap (λ q. move (File kind) q v) v_is) (list_read z are z_is h))
statement_read {kind = kind} {rest = rest} {w = w} (is_definition t d r z k ts us left right named d_is left_is r_is right_is z_is) h =
    let ends : Writes (Single WantSemicolon ∷ Write Ends ∷ File kind ∷ []) (z ∷ rest) (Ends ∷ w) = single z_is (written_first h) in
    let tail : Writes (Comparison ∷ File kind ∷ []) (r ∷ (us ++ z ∷ rest)) (Relates k ∷ (written_items right ++ Ends ∷ w)) = takes {item = Some (Relates k)} {next = Three SumSymbol (Single WantSemicolon) (Write Ends)} (ap (λ q. move Comparison q r) r_is) (expression z right_is (ap no_term z_is) ends) in
    simp append_assoc (takes {item = None} {next = Two (AfterName t) (File kind)} (ap (λ q. move (File kind) q t) named.1) (takes {item = Some (Defines t)} {next = Two SumSymbol Comparison} (ap (λ q. move (AfterName t) q d) d_is) (expression r left_is (ap no_term r_is) tail)))
statement_read {kind = kind} (is_setting t d a q z ts limit named d_is attribute q_is limit_is z_is) h =
    simp append_assoc (takes {item = None} {next = Two (AfterName t) (File kind)} (ap (λ q. move (File kind) q t) named.1) (takes {item = None} {next = One (Attribute t)} (ap (λ q. move (AfterName t) q d) d_is) (takes {item = None} {next = Two (Single WantEquals) (Value t a)} (ap (λ q. move (Attribute t) q a) attribute.1) (single q_is (limit_read z limit_is z_is h)))))
statement_read {rest = rest} {w = w} (is_model m a b c z ts t m_is entry a_is b_is c_is z_is) h =
    let ends : Writes (Everything ∷ File Agents ∷ []) (b ∷ c ∷ z ∷ rest) w = takes {item = None} {next = Two (Single WantSlash) (Single WantSemicolon)} (ap (λ q. move Everything q b) b_is) (single c_is (single z_is h)) in
    let tail : Writes (Single WantSlash ∷ Everything ∷ File Agents ∷ []) (a ∷ b ∷ c ∷ z ∷ rest) w = single a_is ends in
    simp append_assoc (takes {item = None} {next = Two (ModelName Agents) (File Agents)} (ap (λ q. move (File Agents) q m) m_is)
    (entry_read a entry (λ k us e g. takes {item = Some (ModelItem t)} {next = Three OptionalText (Single WantSlash) Everything} (ap (λ q. move (ModelName Agents) q t) e) g) (ap no_text a_is) tail))
statement_read {rest = rest} {w = w} (is_matched m a c z ts us t qs m_is entry a_is are c_is z_is) h =
    let tail : Writes (Single WantSlash ∷ MatchEquation ∷ File Matches ∷ []) (a ∷ (us ++ c ∷ z ∷ rest)) (map (λ q. MatchItem q.0 q.1) qs ++ w) = single a_is (matches_read c z are c_is z_is h) in
    simp append_assoc (takes {item = None} {next = Two (ModelName Matches) (File Matches)} (ap (λ q. move (File Matches) q m) m_is)
    (entry_read a entry (λ k us e g. takes {item = Some (ModelItem t)} {next = Three OptionalText (Single WantSlash) MatchEquation} (ap (λ q. move (ModelName Matches) q t) e) g) (ap no_text a_is) tail))

solve_read : {kind : Kind} {ts : List Lexeme} {st : Statement} {rest : List Lexeme} {w : List Item} → IsSolveOf kind ts st → Writes (Semicolons ∷ []) rest w → Writes (File kind ∷ []) (ts ++ rest) (statement_items st ++ w)
solve_read (is_solve k t u e z ts goal k_is named u_is e_is goal_is z_is) h =
    simp append_assoc (takes {item = None} {next = Two (SolveName Agents) Semicolons} (ap (λ q. move (File Agents) q k) k_is) (takes {item = Some (Solves t)} {next = Three (Single WantUsing) (Single WantEmp) Goal} (ap (λ q. move (SolveName Agents) q t) named.1) (single u_is (single e_is (goal_read z goal_is z_is h)))))
solve_read (is_mcp k t u e z k_is named u_is e_is z_is) h =
    takes {item = None} {next = Two (SolveName Matches) Semicolons} (ap (λ q. move (File Matches) q k) k_is) (takes {item = Some (Solves t)} {next = Three (Single WantUsing) (Single WantMcp) (Single WantSemicolon)} (ap (λ q. move (SolveName Matches) q t) named.1) (single u_is (single e_is (single z_is h))))

semicolons_read : {ts : List Lexeme} → AreSemicolons ts → Writes (Semicolons ∷ []) ts []
semicolons_read none = over
semicolons_read (more z ts e h) = takes {item = None} {next = One Semicolons} (ap (λ q. move Semicolons q z) e) (semicolons_read h)

pub file_read : {kind : Kind} {ts : List Lexeme} {ss : List Statement} → IsFileOf kind ts ss → Writes (File kind ∷ []) ts (items_of ss)
file_read (last ts zs s h k) = solve_read h (semicolons_read k)
file_read (then ts us s ss h k) = statement_read h (file_read k)
