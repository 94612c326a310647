-- What is still to come can come: each stack that the machine reaches has lexemes that complete it.
use Rattle.std.proofs.Common.{◌≡◌, Bool, true, false, cond, IsTrue, List, [], ◌∷◌, ◌++◌, Option, Some, None, refl, sym, ap, subst}
use Rattle.std.specs.Option.{option_to_list}
use Rattle.emp_num.specs.Whole.{whole}
use Rattle.emp_ast.specs.declared.model.Sense.{Sense}
use Rattle.emp_ast.specs.declared.model.Relation.TheVariants.{Equal}
use Rattle.gms_grammar.specs.declared.kind.Kind.{Kind}
use Rattle.gms_grammar.specs.declared.kind.Kind.TheVariants.{Agents, Matches}
use Rattle.gms_grammar.specs.declared.lexeme.Word.TheVariants.{All, Infinity, Other, Minimizing, Maximizing}
use Rattle.gms_grammar.specs.declared.lexeme.Scale.TheVariants.{Over}
use Rattle.gms_grammar.specs.declared.lexeme.Sign.{Sign}
use Rattle.gms_grammar.specs.declared.lexeme.Sort.{Sort}
use Rattle.gms_grammar.specs.declared.lexeme.Sort.TheVariants.{Name, Numeral, Text, Relation as Related, Domain as DomainWord, Variables, Equations, Model, Solve, Sign as Signed, Scale as Scaled, Raise, Equals, Semicolon, Comma, Dot, Dots, Open, Close}
use Rattle.gms_grammar.specs.declared.lexeme.Lexeme.{Lexeme}
use Rattle.gms_grammar.specs.declared.limit.Limit.TheVariants.{At}
use Rattle.gms_grammar.specs.declared.item.Item.{Item}
use Rattle.gms_grammar.specs.declared.item.Item.TheVariants.{Relates, Ends, Number, Name as NameItem, Applies, Groups, Raises, Sets, Model as ModelItem, Match as MatchItem, Solves, Aims}
use Rattle.gms_grammar.specs.declared.symbol.Declares.{Declares}
use Rattle.gms_grammar.specs.declared.symbol.Want.{Want}
use Rattle.gms_grammar.specs.declared.symbol.Want.TheVariants.{Variables as WantVariables, Equals as WantEquals, Slash as WantSlash, Using as WantUsing, Emp as WantEmp, Mcp as WantMcp, Dot as WantDot, Semicolon as WantSemicolon}
use Rattle.gms_grammar.specs.declared.symbol.Symbol.{Symbol}
use Rattle.gms_grammar.specs.declared.symbol.Symbol.TheVariants.{File, Semicolons, Single, Write, Names, OptionalText, MoreNames, AfterName, Attribute, Value, SignedValue, Comparison, ModelName, Everything, MatchEquation, MatchVariable, MoreMatches, SolveName, Goal, Aim, Sum as SumSymbol, Factor as FactorSymbol, AfterLeaf, MorePower, Exponent, MoreFactors, MoreTerms, MoreArguments, Closing}
use Rattle.gms_grammar.specs.declared.symbol.Next.{Next}
use Rattle.gms_grammar.specs.declared.symbol.Next.TheVariants.{Nothing, One, Two, Three}
use Rattle.gms_grammar.specs.declared.symbol.Move.{Move}
use Rattle.gms_grammar.specs.declared.symbol.Move.TheVariants.{Fail, Skip, Take}
use Rattle.gms_grammar.specs.Grammar.{signed_limit}
use Rattle.gms_grammar.specs.Machine.{declared, wanted, is_wanted, parts_of, solver_of, ending_of, after_leaf_move, more_power_move, more_factors_move, more_terms_move, optional_text_move, move, symbols, State, add, by_move, step}
use Rattle.gms_grammar.proofs.Writing.{Writes, over, takes, skips}

-- ---- stacks that the machine reaches
-- `/` cannot come first
abbrev pub NoSlash : List Symbol → Type 0
NoSlash [] = Unit {0}
NoSlash (Single WantSlash ∷ s) = ⊥
NoSlash (MoreMatches ∷ s) = ⊥
NoSlash (Write item ∷ s) = NoSlash s
NoSlash (OptionalText ∷ s) = NoSlash s
NoSlash (AfterLeaf n ∷ s) = NoSlash s
NoSlash (MorePower ∷ s) = NoSlash s
NoSlash (MoreFactors ∷ s) = NoSlash s
NoSlash (MoreTerms ∷ s) = NoSlash s
NoSlash (x ∷ s) = Unit {0}

-- at the bottom stands the end of a text, and behind an expression no `/` that is no operator
abbrev pub Settled : List Symbol → Type 0
Settled [] = ⊥
Settled (File k ∷ s) = s ≡ []
Settled (Semicolons ∷ s) = s ≡ []
Settled (SumSymbol ∷ s) = NoSlash s × Settled s
Settled (MoreFactors ∷ s) = NoSlash s × Settled s
Settled (MoreTerms ∷ s) = NoSlash s × Settled s
Settled (x ∷ s) = Settled s

abbrev SettledBy : Move → List Symbol → Type 0
SettledBy Fail s = Unit {0}
SettledBy (Skip item) s = Settled s
SettledBy (Take item next) s = Settled (symbols next ++ s)

single_settled : (b : Bool) (s : List Symbol) → Settled s → SettledBy (cond b (Take None Nothing) Fail) s
single_settled true s h = h
single_settled false s h = tt

-- each move keeps it
settled_by : (x : Symbol) (q : Sort) (t : Lexeme) (s : List Symbol) → Settled (x ∷ s) → SettledBy (move x q t) s
settled_by (File kind) Semicolon t s h = h
settled_by (File kind) (DomainWord k) t s h = h
settled_by (File kind) Variables t s h = h
settled_by (File kind) Equations t s h = h
settled_by (File kind) Model t s h = h
settled_by (File kind) Solve t s h = h
settled_by (File kind) (Name w) t s h = h
settled_by (File kind) q t s h = tt
settled_by Semicolons Semicolon t s h = h
settled_by Semicolons q t s h = tt
settled_by (Single want) q t s h = single_settled (is_wanted want q) s h
settled_by (Write item) q t s h = h
settled_by (Names how) (Name w) t s h = h
settled_by (Names how) q t s h = tt
settled_by OptionalText Text t s h = h
settled_by OptionalText q t s h = h
settled_by (MoreNames how) (Name w) t s h = h
settled_by (MoreNames how) Comma t s h = h
settled_by (MoreNames how) Semicolon t s h = h
settled_by (MoreNames how) q t s h = tt
settled_by (AfterName n) Dots t s h = (tt, h)
settled_by (AfterName n) Dot t s h = h
settled_by (AfterName n) q t s h = tt
settled_by (Attribute n) (Name w) t s h = h
settled_by (Attribute n) q t s h = tt
settled_by (Value n a) (Numeral f) t s h = h
settled_by (Value n a) (Name Infinity) t s h = h
settled_by (Value n a) (Signed k) t s h = h
settled_by (Value n a) q t s h = tt
settled_by (SignedValue n a k) (Numeral f) t s h = h
settled_by (SignedValue n a k) (Name Infinity) t s h = h
settled_by (SignedValue n a k) q t s h = tt
settled_by Comparison (Related r) t s h = (tt, h)
settled_by Comparison q t s h = tt
settled_by (ModelName Agents) (Name w) t s h = h
settled_by (ModelName Matches) (Name w) t s h = h
settled_by (ModelName kind) q t s h = tt
settled_by Everything (Name All) t s h = h
settled_by Everything q t s h = tt
settled_by MatchEquation (Name w) t s h = h
settled_by MatchEquation q t s h = tt
settled_by (MatchVariable e) (Name w) t s h = h
settled_by (MatchVariable e) q t s h = tt
settled_by MoreMatches Comma t s h = h
settled_by MoreMatches (Scaled Over) t s h = h
settled_by MoreMatches q t s h = tt
settled_by (SolveName Agents) (Name w) t s h = h
settled_by (SolveName Matches) (Name w) t s h = h
settled_by (SolveName kind) q t s h = tt
settled_by Goal (Name Minimizing) t s h = h
settled_by Goal (Name Maximizing) t s h = h
settled_by Goal Semicolon t s h = h
settled_by Goal q t s h = tt
settled_by (Aim m) (Name w) t s h = h
settled_by (Aim m) q t s h = tt
settled_by SumSymbol (Name w) t s h = (h.0, h)
settled_by SumSymbol (Numeral f) t s h = (h.0, h)
settled_by SumSymbol Open t s h = (tt, (h.0, h))
settled_by SumSymbol (Signed k) t s h = (h.0, h)
settled_by SumSymbol q t s h = tt
settled_by FactorSymbol (Name w) t s h = h
settled_by FactorSymbol (Numeral f) t s h = h
settled_by FactorSymbol Open t s h = (tt, h)
settled_by FactorSymbol q t s h = tt
settled_by (AfterLeaf n) Open t s h = (tt, h)
settled_by (AfterLeaf n) q t s h = h
settled_by MorePower Raise t s h = h
settled_by MorePower q t s h = h
settled_by (Exponent p) (Numeral f) t s h = h
settled_by (Exponent p) q t s h = tt
settled_by MoreFactors (Scaled k) t s h = h
settled_by MoreFactors q t s h = h.1
settled_by MoreTerms (Signed k) t s h = (h.0, h)
settled_by MoreTerms q t s h = h.1
settled_by (MoreArguments n) Comma t s h = (tt, h)
settled_by (MoreArguments n) Close t s h = h
settled_by (MoreArguments n) q t s h = tt
settled_by Closing Close t s h = h
settled_by Closing q t s h = tt

abbrev state : List Symbol → List Item → State
state s out = record { stack = s; out = out }

inside : (p q : State) → Some p ≡ Some q → p ≡ q
inside p q e = cc

pub settled_step : (s : List Symbol) (out : List Item) (t : Lexeme) (r : List Symbol) (o : List Item) → Settled s → step s out t ≡ Some (state r o) → Settled r
settled_step [] out t r o h e = absurd h
settled_step (x ∷ s) out t r o h e = go (move x t.sort t) (settled_by x t.sort t s h) e (λ i k. settled_step s (add out i) t r o k)
  where
    go : (m : Move) → SettledBy m s → by_move m s out (λ o. step s o t) ≡ Some (state r o) → ((i : Option Item) → Settled s → step s (add out i) t ≡ Some (state r o) → Settled r) → Settled r
    go Fail k e more = let f : ◌≡◌ {A = Option State} None (Some (state r o)) = e in cc
    go (Skip item) k e more = more item k e
    go (Take item next) k e more = subst Settled (ap (λ q. q.stack) (inside (state (symbols next ++ s) (add out item)) (state r o) e)) k

-- ---- lexemes that complete a stack
abbrev lexeme : Sort → Lexeme
lexeme q = record { sort = q; from = 0; to = 0; place = record { line = 1; column = 1 } }

-- no part of what stands before it goes on with it
abbrev is_quiet : Sort → Bool
is_quiet Open = false
is_quiet Raise = false
is_quiet (Signed s) = false
is_quiet Text = false
is_quiet q = true

abbrev is_no_scale : Sort → Bool
is_no_scale (Scaled s) = false
is_no_scale q = true

pub record Ending (s : List Symbol) : Type 0 where
  pub first : Lexeme
  pub more : List Lexeme
  pub written : List Item
  pub writes : Writes s (first ∷ more) written
  pub quiet : IsTrue (is_quiet first.sort)
  pub still : NoSlash s → IsTrue (is_no_scale first.sort)

leaf_on : (n : Lexeme) (q : Sort) → IsTrue (is_quiet q) → after_leaf_move n q ≡ Skip (Some (NameItem n))
leaf_on n Open h = cc
leaf_on n q h = refl

power_on : (t : Lexeme) (q : Sort) → IsTrue (is_quiet q) → more_power_move q t ≡ Skip None
power_on t Raise h = cc
power_on t q h = refl

factors_on : (t : Lexeme) (q : Sort) → IsTrue (is_no_scale q) → more_factors_move q t ≡ Skip None
factors_on t (Scaled s) h = cc
factors_on t q h = refl

terms_on : (t : Lexeme) (q : Sort) → IsTrue (is_quiet q) → more_terms_move q t ≡ Skip None
terms_on t (Signed s) h = cc
terms_on t q h = refl

text_on : (q : Sort) → IsTrue (is_quiet q) → optional_text_move q ≡ Skip None
text_on Text h = cc
text_on q h = refl

-- a symbol that begins with a lexeme of that sort
front : (x : Symbol) (s : List Symbol) (q : Sort) (item : Option Item) (next : Next) → move x q (lexeme q) ≡ Take item next → IsTrue (is_quiet q) → (NoSlash (x ∷ s) → IsTrue (is_no_scale q)) → Ending (symbols next ++ s) → Ending (x ∷ s)
front x s q item next e quiet still r = record {
  first = lexeme q;
  more = r.first ∷ r.more;
  written = option_to_list item ++ r.written;
  writes = takes {item = item} {next = next} e r.writes;
  quiet = quiet;
  still = still;
}

module _ (s : List Symbol) (r : Ending s) where
  end_single : (want : Want) → Ending (Single want ∷ s)
  end_single WantVariables = front (Single WantVariables) s Variables None Nothing refl refl (λ _. refl) r
  end_single WantEquals = front (Single WantEquals) s Equals None Nothing refl refl (λ _. refl) r
  end_single WantSlash = front (Single WantSlash) s (Scaled Over) None Nothing refl refl (λ h. absurd h) r
  end_single WantUsing = front (Single WantUsing) s (wanted WantUsing) None Nothing refl refl (λ _. refl) r
  end_single WantEmp = front (Single WantEmp) s (wanted WantEmp) None Nothing refl refl (λ _. refl) r
  end_single WantMcp = front (Single WantMcp) s (wanted WantMcp) None Nothing refl refl (λ _. refl) r
  end_single WantDot = front (Single WantDot) s Dot None Nothing refl refl (λ _. refl) r
  end_single WantSemicolon = front (Single WantSemicolon) s Semicolon None Nothing refl refl (λ _. refl) r

  end_write : (item : Item) → Ending (Write item ∷ s)
  end_write item = record { first = r.first; more = r.more; written = item ∷ r.written; writes = skips {item = Some item} refl r.writes; quiet = r.quiet; still = r.still }

  end_text : Ending (OptionalText ∷ s)
  end_text = record { first = r.first; more = r.more; written = r.written; writes = skips {item = None} (text_on r.first.sort r.quiet) r.writes; quiet = r.quiet; still = r.still }

  end_leaf : (n : Lexeme) → Ending (AfterLeaf n ∷ s)
  end_leaf n = record { first = r.first; more = r.more; written = NameItem n ∷ r.written; writes = skips {item = Some (NameItem n)} (leaf_on n r.first.sort r.quiet) r.writes; quiet = r.quiet; still = r.still }

  end_power : Ending (MorePower ∷ s)
  end_power = record { first = r.first; more = r.more; written = r.written; writes = skips {item = None} (power_on r.first r.first.sort r.quiet) r.writes; quiet = r.quiet; still = r.still }

  end_factors : NoSlash s → Ending (MoreFactors ∷ s)
  end_factors h = record { first = r.first; more = r.more; written = r.written; writes = skips {item = None} (factors_on r.first r.first.sort (r.still h)) r.writes; quiet = r.quiet; still = r.still }

  end_terms : Ending (MoreTerms ∷ s)
  end_terms = record { first = r.first; more = r.more; written = r.written; writes = skips {item = None} (terms_on r.first r.first.sort r.quiet) r.writes; quiet = r.quiet; still = r.still }

  end_more_names : (how : Declares) → Ending (MoreNames how ∷ s)
  end_more_names how = front (MoreNames how) s Semicolon None Nothing refl refl (λ _. refl) r

  end_goal : Ending (Goal ∷ s)
  end_goal = front Goal s Semicolon None Nothing refl refl (λ _. refl) r

  end_aim : (m : Sense) → Ending (Aim m ∷ s)
  end_aim m = front (Aim m) s (Name Other) (Some (Aims m (lexeme (Name Other)))) Nothing refl refl (λ _. refl) r

  end_exponent : (p : Lexeme) → Ending (Exponent p ∷ s)
  end_exponent p = front (Exponent p) s (Numeral (whole 0)) (Some (Raises p (whole 0))) Nothing refl refl (λ _. refl) r

  end_arguments : (n : Lexeme) → Ending (MoreArguments n ∷ s)
  end_arguments n = front (MoreArguments n) s Close (Some (Applies n)) Nothing refl refl (λ _. refl) r

module _ (s : List Symbol) (r : Ending s) where
  end_names : (how : Declares) → Ending (Names how ∷ s)
  end_names how =
      front (Names how) s (Name Other) (Some (declared how (lexeme (Name Other)))) (Two OptionalText (MoreNames how)) refl refl (λ _. refl) (end_text (MoreNames how ∷ s) (end_more_names s r how))

  end_value : (n a : Lexeme) → Ending (Value n a ∷ s)
  end_value n a = front (Value n a) s (Numeral (whole 0)) (Some (Sets n a (At (whole 0)))) (One (Single WantSemicolon)) refl refl (λ _. refl) (end_single s r WantSemicolon)

  end_signed_value : (n a : Lexeme) (k : Sign) → Ending (SignedValue n a k ∷ s)
  end_signed_value n a k =
      front (SignedValue n a k) s (Numeral (whole 0)) (Some (Sets n a (signed_limit k (At (whole 0))))) (One (Single WantSemicolon)) refl refl (λ _. refl) (end_single s r WantSemicolon)

  end_everything : Ending (Everything ∷ s)
  end_everything = front Everything s (Name All) None (Two (Single WantSlash) (Single WantSemicolon)) refl refl (λ _. refl) (end_single (Single WantSemicolon ∷ s) (end_single s r WantSemicolon) WantSlash)

  end_more_matches : Ending (MoreMatches ∷ s)
  end_more_matches = front MoreMatches s (Scaled Over) None (One (Single WantSemicolon)) refl refl (λ h. absurd h) (end_single s r WantSemicolon)

  end_ending : (kind : Kind) → Ending (ending_of kind ∷ s)
  end_ending Agents = end_goal s r
  end_ending Matches = end_single s r WantSemicolon

  end_closing : Ending (Closing ∷ s)
  end_closing = front Closing s Close (Some Groups) (One MorePower) refl refl (λ _. refl) (end_power s r)

  end_factor : Ending (FactorSymbol ∷ s)
  end_factor = front FactorSymbol s (Numeral (whole 0)) (Some (Number (lexeme (Numeral (whole 0))) (whole 0))) (One MorePower) refl refl (λ _. refl) (end_power s r)

  end_sum : NoSlash s → Ending (SumSymbol ∷ s)
  end_sum h =
      front SumSymbol s (Numeral (whole 0)) (Some (Number (lexeme (Numeral (whole 0))) (whole 0))) (Three MorePower MoreFactors MoreTerms) refl refl (λ _. refl)
      (end_power (MoreFactors ∷ MoreTerms ∷ s) (end_factors (MoreTerms ∷ s) (end_terms s r) h))

module _ (s : List Symbol) (r : Ending s) where
  end_attribute : (n : Lexeme) → Ending (Attribute n ∷ s)
  end_attribute n =
      front (Attribute n) s (Name Other) None (Two (Single WantEquals) (Value n (lexeme (Name Other)))) refl refl (λ _. refl) (end_single (Value n (lexeme (Name Other)) ∷ s) (end_value s r n (lexeme (Name Other))) WantEquals)

  end_comparison : Ending (Comparison ∷ s)
  end_comparison =
      front Comparison s (Related Equal) (Some (Relates Equal)) (Three SumSymbol (Single WantSemicolon) (Write Ends)) refl refl (λ _. refl)
      (end_sum (Single WantSemicolon ∷ Write Ends ∷ s) (end_single (Write Ends ∷ s) (end_write s r Ends) WantSemicolon) tt)

  end_match_variable : (e : Lexeme) → Ending (MatchVariable e ∷ s)
  end_match_variable e = front (MatchVariable e) s (Name Other) (Some (MatchItem e (lexeme (Name Other)))) (One MoreMatches) refl refl (λ _. refl) (end_more_matches s r)

  end_match_equation : Ending (MatchEquation ∷ s)
  end_match_equation = front MatchEquation s (Name Other) None (Two (Single WantDot) (MatchVariable (lexeme (Name Other)))) refl refl (λ _. refl) (end_single (MatchVariable (lexeme (Name Other)) ∷ s) (end_match_variable (lexeme (Name Other))) WantDot)

  end_parts : (kind : Kind) → Ending (parts_of kind ∷ s)
  end_parts Agents = end_everything s r
  end_parts Matches = end_match_equation

  end_model_name : (kind : Kind) → Ending (ModelName kind ∷ s)
  end_model_name kind =
      front (ModelName kind) s (Name Other) (Some (ModelItem (lexeme (Name Other)))) (Three OptionalText (Single WantSlash) (parts_of kind)) refl refl (λ _. refl)
      (end_text (Single WantSlash ∷ parts_of kind ∷ s) (end_single (parts_of kind ∷ s) (end_parts kind) WantSlash))

  end_solve_name : (kind : Kind) → Ending (SolveName kind ∷ s)
  end_solve_name kind =
      front (SolveName kind) s (Name Other) (Some (Solves (lexeme (Name Other)))) (Three (Single WantUsing) (Single (solver_of kind)) (ending_of kind)) refl refl (λ _. refl)
      (end_single (Single (solver_of kind) ∷ ending_of kind ∷ s) (end_single (ending_of kind ∷ s) (end_ending s r kind) (solver_of kind)) WantUsing)

end_semicolons : Ending (Semicolons ∷ [])
end_semicolons = record { first = lexeme Semicolon; more = []; written = []; writes = takes {item = None} {next = One Semicolons} refl over; quiet = refl; still = λ _. refl }

end_file : (kind : Kind) → Ending (File kind ∷ [])
end_file kind = front (File kind) [] Solve None (Two (SolveName kind) Semicolons) refl refl (λ _. refl) (end_solve_name (Semicolons ∷ []) end_semicolons kind)

pub completes : (s : List Symbol) → Settled s → Ending s
completes [] h = absurd h
completes (File kind ∷ s) h = subst (λ r. Ending (File kind ∷ r)) (sym h) (end_file kind)
completes (Semicolons ∷ s) h = subst (λ r. Ending (Semicolons ∷ r)) (sym h) end_semicolons
completes (Single want ∷ s) h = end_single s (completes s h) want
completes (Write item ∷ s) h = end_write s (completes s h) item
completes (Names how ∷ s) h = end_names s (completes s h) how
completes (OptionalText ∷ s) h = end_text s (completes s h)
completes (MoreNames how ∷ s) h = end_more_names s (completes s h) how
completes (AfterName n ∷ s) h = front (AfterName n) s Dot None (One (Attribute n)) refl refl (λ _. refl) (end_attribute s (completes s h) n)
completes (Attribute n ∷ s) h = end_attribute s (completes s h) n
completes (Value n a ∷ s) h = end_value s (completes s h) n a
completes (SignedValue n a k ∷ s) h = end_signed_value s (completes s h) n a k
completes (Comparison ∷ s) h = end_comparison s (completes s h)
completes (ModelName kind ∷ s) h = end_model_name s (completes s h) kind
completes (Everything ∷ s) h = end_everything s (completes s h)
completes (MatchEquation ∷ s) h = end_match_equation s (completes s h)
completes (MatchVariable e ∷ s) h = end_match_variable s (completes s h) e
completes (MoreMatches ∷ s) h = end_more_matches s (completes s h)
completes (SolveName kind ∷ s) h = end_solve_name s (completes s h) kind
completes (Goal ∷ s) h = end_goal s (completes s h)
completes (Aim m ∷ s) h = end_aim s (completes s h) m
completes (SumSymbol ∷ s) h = end_sum s (completes s h.1) h.0
completes (FactorSymbol ∷ s) h = end_factor s (completes s h)
completes (AfterLeaf n ∷ s) h = end_leaf s (completes s h) n
completes (MorePower ∷ s) h = end_power s (completes s h)
completes (Exponent p ∷ s) h = end_exponent s (completes s h) p
completes (MoreFactors ∷ s) h = end_factors s (completes s h.1) h.0
completes (MoreTerms ∷ s) h = end_terms s (completes s h.1)
completes (MoreArguments n ∷ s) h = end_arguments s (completes s h) n
completes (Closing ∷ s) h = end_closing s (completes s h)
