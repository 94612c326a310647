-- From the steps of the reader to what a text stands for.
use Rattle.std.proofs.Common.{◌≡◌, ℕ, ◌+◌, Bool, true, false, cond, not, ◌&&◌, List, length, [], ◌∷◌, Option, Some, None, sym, ap, subst, ◌∙◌, inl, inr}
use Rattle.std.specs.Prelude.{nat_lt, Result, Ok, Err, MatchResult}
use Rattle.emp_ast.specs.declared.tree.Place.{Place}
use Rattle.emp_ast.specs.declared.model.Model.{Model as WholeModel}
use Rattle.emp_ast.specs.declared.model.Sense.{Sense}
use Rattle.emp_lex.specs.declared.token.Token.{Token}
use Rattle.emp_lex.specs.Tokens.{IsTokenList}
use Rattle.gms_grammar.specs.declared.kind.Kind.{Kind}
use Rattle.gms_grammar.specs.declared.lexeme.Lexeme.{Lexeme}
use Rattle.gms_grammar.specs.declared.lexeme.Domain.{Domain}
use Rattle.gms_grammar.specs.declared.lexeme.Domain.TheVariants.{Free, Positive, Negative, Discrete as DiscreteWord}
use Rattle.gms_grammar.specs.declared.lexeme.Sort.{Sort}
use Rattle.gms_grammar.specs.declared.lexeme.Sort.TheVariants.{Name}
use Rattle.gms_grammar.specs.declared.lexeme.Word.TheVariants.{Low, High, Fixed, Level, Marginal}
use Rattle.gms_grammar.specs.declared.item.Item.{Item}
use Rattle.gms_read.specs.declared.draft.Draft.{Draft}
use Rattle.gms_read.specs.declared.draft.DraftVariable.{DraftVariable}
use Rattle.gms_grammar.specs.declared.limit.Limit.{Limit}
use Rattle.gms_read.specs.declared.table.Named.{Named}
use Rattle.gms_read.specs.declared.table.Named.TheVariants.{Variable as VariableName, Equation as EquationName, Model as ModelName}
use Rattle.gms_grammar.specs.declared.fault.ModelFault.{ModelFault}
use Rattle.gms_grammar.specs.declared.fault.ModelFault.TheVariants.{Lex, Syntax, Undeclared, Twice, Discrete, Attribute, Function, TooLarge, Undefined, BoundsCross, NoMemory}
use Rattle.gms_read.specs.declared.draft.DraftEquation.{DraftEquation}
use Rattle.gms_grammar.specs.Lexemes.{AreLexemes}
use Rattle.gms_grammar.specs.Nesting.{too_deep}
use Rattle.gms_grammar.specs.Grammar.{Written, numeral, name, call, listed, grouped, raised, signed, joined, Statement, empty, variables, equations, definition, setting, model, matched, solve}
use Rattle.gms_read.specs.Rules.{Step, most, is_none, has_sign, first_low, first_high, variable_at, with_variable, add_variable, add_equation, add_model, is_infinite, with_low, with_high, is_model, crosses, and_then, or_else, unless_fault, fault_where, expression_fault, declare_by, declare_variable, declare_equation, declare_all, discrete_fault, definition_fault, set_variable, set_equation, set_by, aim_at, aim, match_fault, matches_fault, declare_model, after, after_all, nothing_yet, undefined_from, crossing_from, finish_by, finish, whole_meaning_by, whole_meaning, declared_as, variable_of, equation_of}
use Rattle.gms_read.specs.Texts.{HasLexemes, GivesOf, HasFaultOf, RefusesModelOf}
use Rattle.gms_grammar.specs.Steps.{AreItems}
use Rattle.gms_read.specs.Steps.{DraftsAll, FinishesAs, HasDraft}

-- ---- the faults that rules have
-- no fault of tokens or of the grammar
abbrev pub IsRule : ModelFault → Type 0
IsRule (Lex f) = ⊥
IsRule (Syntax p) = ⊥
IsRule NoMemory = ⊥
IsRule f = Unit {0}

abbrev pub MayFault : Option ModelFault → Type 0
MayFault None = Unit {0}
MayFault (Some f) = IsRule f

abbrev pub MayStep : Step → Type 0
MayStep (Ok d) = Unit {0}
MayStep (Err f) = IsRule f

either : (a b : Option ModelFault) → MayFault a → MayFault b → MayFault (or_else a b)
either None b h k = k
either (Some f) b h k = h

where_fault : (b : Bool) (f : ModelFault) → IsRule f → MayFault (fault_where b f)
where_fault true f h = h
where_fault false f h = tt

unless : (o : Option ModelFault) (s : Step) → MayFault o → MayStep s → MayStep (unless_fault o s)
unless None s h k = k
unless (Some f) s h k = h

step_of : (b : Bool) (s t : Step) → MayStep s → MayStep t → MayStep (cond b s t)
step_of true s t h k = h
step_of false s t h k = k

both : (s : Step) (next : Draft → Step) → MayStep s → ((d : Draft) → MayStep (next d)) → MayStep (and_then s next)
both (Ok d) next h k = k d
both (Err f) next h k = h

expression_rule : (text : List ℕ) (d : Draft) (e : Written) → MayFault (expression_fault text d e)
expression_rule text d (numeral t f) = tt
expression_rule text d (name t) = where_fault _ (Undeclared t.place) tt
expression_rule text d (call t a) = either _ _ (where_fault _ (Function t.place) tt) (expression_rule text d a)
expression_rule text d (listed a b) = either _ _ (expression_rule text d a) (expression_rule text d b)
expression_rule text d (grouped e) = expression_rule text d e
expression_rule text d (raised e p f) = either _ _ (expression_rule text d e) (where_fault _ (Function p.place) tt)
expression_rule text d (signed s t e) = expression_rule text d e
expression_rule text d (joined op t e f) = either _ _ (expression_rule text d e) (expression_rule text d f)

variable_rule : (text : List ℕ) (k : Domain) (d : Draft) (t : Lexeme) (n : Option Named) → MayStep (declare_by text k d t n)
variable_rule text k d t None = step_of (nat_lt (length d.variables) most) (Ok (add_variable text k d t)) (Err (TooLarge t.place)) tt tt
variable_rule text k d t (Some (VariableName at)) =
    step_of (has_sign k && not (variable_at d at).signed) (Ok (with_variable d at (record { name = (variable_at d at).name; low = first_low k; high = first_high k; signed = true }))) (Err (Twice t.place)) tt tt
variable_rule text k d t (Some (EquationName at)) = tt
variable_rule text k d t (Some ModelName) = tt

equation_rule : (text : List ℕ) (d : Draft) (t : Lexeme) → MayStep (declare_equation text d t)
equation_rule text d t =
    let inner : Step = cond (nat_lt (length d.equations) most) (Ok (add_equation text d t)) (Err (TooLarge t.place)) in
    step_of (is_none (declared_as text d t)) inner (Err (Twice t.place)) (step_of (nat_lt (length d.equations) most) (Ok (add_equation text d t)) (Err (TooLarge t.place)) tt tt) tt

all_rule : (one : Draft → Lexeme → Step) → ((d : Draft) (t : Lexeme) → MayStep (one d t)) → (d : Draft) (ts : List Lexeme) → MayStep (declare_all one d ts)
all_rule one h d [] = tt
all_rule one h d (t ∷ ts) = both (one d t) (λ e. declare_all one e ts) (h d t) (λ e. all_rule one h e ts)

discrete_rule : (k : Domain) (t : Lexeme) → MayFault (discrete_fault k t)
discrete_rule Free t = tt
discrete_rule Positive t = tt
discrete_rule Negative t = tt
discrete_rule DiscreteWord t = tt

definition_rule : (d : Draft) (t : Lexeme) (k : Option ℕ) → MayFault (definition_fault d t k)
definition_rule d t None = tt
definition_rule d t (Some k) = where_fault _ (Twice t.place) tt

set_variable_rule : (d : Draft) (k : ℕ) (p : Place) (s : Sort) (limit : Limit) → MayStep (set_variable d k p s limit)
set_variable_rule d k p (Name Low) limit = tt
set_variable_rule d k p (Name High) limit = tt
set_variable_rule d k p (Name Fixed) limit = step_of (is_infinite limit) (Err (Attribute p)) (Ok (with_high (with_low d k limit) k limit)) tt tt
set_variable_rule d k p (Name Level) limit = tt
set_variable_rule d k p (Name Marginal) limit = tt
set_variable_rule d k p s limit = tt

set_equation_rule : (d : Draft) (p : Place) (s : Sort) → MayStep (set_equation d p s)
set_equation_rule d p (Name Level) = tt
set_equation_rule d p (Name Marginal) = tt
set_equation_rule d p s = tt

set_rule : (d : Draft) (t a : Lexeme) (limit : Limit) (n : Option Named) → MayStep (set_by d t a limit n)
set_rule d t a limit (Some (VariableName k)) = set_variable_rule d k a.place a.sort limit
set_rule d t a limit (Some (EquationName k)) = set_equation_rule d a.place a.sort
set_rule d t a limit (Some ModelName) = tt
set_rule d t a limit None = tt

aim_at_rule : (d : Draft) (s : Sense) (t : Lexeme) (k : Option ℕ) → MayStep (aim_at d s t k)
aim_at_rule d s t None = tt
aim_at_rule d s t (Some k) = tt

aim_rule : (text : List ℕ) (d : Draft) (goal : Option (Sense × Lexeme)) → MayStep (aim text d goal)
aim_rule text d None = tt
aim_rule text d (Some g) = aim_at_rule d g.0 g.1 (variable_of text d g.1)

match_rule : (text : List ℕ) (d : Draft) (qs : List (Lexeme × Lexeme)) → MayFault (matches_fault text d qs)
match_rule text d [] = tt
match_rule text d (q ∷ qs) =
    either (match_fault text d q) (matches_fault text d qs)
    (either (fault_where (is_none (equation_of text d q.0)) (Undeclared q.0.place)) (fault_where (is_none (variable_of text d q.1)) (Undeclared q.1.place)) (where_fault (is_none (equation_of text d q.0)) (Undeclared q.0.place) tt) (where_fault (is_none (variable_of text d q.1)) (Undeclared q.1.place) tt))
    (match_rule text d qs)

model_rule : (text : List ℕ) (d : Draft) (t : Lexeme) → MayStep (declare_model text d t)
model_rule text d t = step_of (is_none d.model && is_none (declared_as text d t)) (Ok (add_model text d t)) (Err (Twice t.place)) tt tt

after_rule : (text : List ℕ) (d : Draft) (s : Statement) → MayStep (after text d s)
after_rule text d empty = tt
after_rule text d (variables k w names) = unless _ _ (discrete_rule k w) (all_rule (declare_variable text k) (λ e t. variable_rule text k e t (declared_as text e t)) d names)
after_rule text d (equations names) = all_rule (declare_equation text) (equation_rule text) d names
after_rule text d (definition t left r right) =
    unless _ _ (either _ _ (definition_rule d t (equation_of text d t)) (either _ _ (expression_rule text d left) (expression_rule text d right))) tt
after_rule text d (setting t a limit) = set_rule d t a limit (declared_as text d t)
after_rule text d (model t) = model_rule text d t
after_rule text d (matched t qs) = both (declare_model text d t) (λ e. unless_fault (matches_fault text e qs) (Ok e)) (model_rule text d t) (λ e. unless (matches_fault text e qs) (Ok e) (match_rule text e qs) tt)
after_rule text d (solve t goal) = step_of (is_model text d t) (aim text d goal) (Err (Undeclared t.place)) (aim_rule text d goal) tt

after_all_rule : (text : List ℕ) (d : Draft) (ss : List Statement) → MayStep (after_all text d ss)
after_all_rule text d [] = tt
after_all_rule text d (s ∷ ss) = both (after text d s) (λ e. after_all text e ss) (after_rule text d s) (λ e. after_all_rule text e ss)

undefined_rule : (k : ℕ) (es : List DraftEquation) → MayFault (undefined_from k es)
undefined_rule k [] = tt
undefined_rule k (e ∷ es) = go (is_none e.definition) (undefined_rule (k + 1) es)
  where
    go : (b : Bool) → MayFault (undefined_from (k + 1) es) → MayFault (cond b (Some (Undefined (record { at = k }) e.name)) (undefined_from (k + 1) es))
    go true h = tt
    go false h = h

crossing_rule : (k : ℕ) (vs : List DraftVariable) → MayFault (crossing_from k vs)
crossing_rule k [] = tt
crossing_rule k (v ∷ vs) = go (crosses v.low v.high) (crossing_rule (k + 1) vs)
  where
    go : (b : Bool) → MayFault (crossing_from (k + 1) vs) → MayFault (cond b (Some (BoundsCross (record { at = k }) v.name)) (crossing_from (k + 1) vs))
    go true h = tt
    go false h = h

finish_rule : (o : Option ModelFault) (d : Draft) (f : ModelFault) → MayFault o → finish_by o d ≡ Err f → IsRule f
finish_rule None d f h e = cc
finish_rule (Some g) d f h e = let q : g ≡ f = cc in subst IsRule q h

step_fault : (s : Step) (f : ModelFault) → MayStep s → s ≡ Err f → IsRule f
step_fault s f h e = subst MayStep e h

pub meaning_rule : (text : List ℕ) (ss : List Statement) (f : ModelFault) → whole_meaning text ss ≡ Err f → IsRule f
meaning_rule text ss f e = go (after_all text nothing_yet ss) (after_all_rule text nothing_yet ss) e
  where
    go : (s : Step) → MayStep s → whole_meaning_by s ≡ Err f → IsRule f
    go (Err g) h k = step_fault (Err g) f h (let q : ◌≡◌ {A = Result WholeModel ModelFault} (Err g) (Err f) = k in cc)
    go (Ok d) h k = finish_rule _ d f (either _ _ (undefined_rule 0 d.equations) (crossing_rule 0 d.variables)) k

module _ (kind : Kind) where
  -- ---- what a refusal says
  pub rule_fault : (text : List ℕ) (f : ModelFault) → IsRule f → GivesOf kind text (Err f) → HasFaultOf kind text f
  rule_fault text (Lex f) h g = absurd h
  rule_fault text (Syntax p) h g = absurd h
  rule_fault text (Undeclared p) h g = g
  rule_fault text (Twice p) h g = g
  rule_fault text (Discrete p) h g = g
  rule_fault text (Attribute p) h g = g
  rule_fault text (Function p) h g = g
  rule_fault text (TooLarge p) h g = inr g
  rule_fault text (Undefined e n) h g = g
  rule_fault text (BoundsCross v n) h g = g
  rule_fault text NoMemory h g = absurd h

  rule_refused : (text : List ℕ) (f : ModelFault) → IsRule f → GivesOf kind text (Err f) → RefusesModelOf kind text f
  rule_refused text f h g = inr (rule_fault text f h g)

  no_memory : (text : List ℕ) (f : ModelFault) → f ≡ NoMemory → RefusesModelOf kind text f
  no_memory text f e = inl e

  -- a text whose lexemes are nowhere too deep and stand for the statements of the items
  pub record HasItems (text : List ℕ) (items : List Item) : Type 0 where
    pub lexemes : List Lexeme
    pub has : HasLexemes text lexemes
    pub level : too_deep lexemes ≡ None
    pub are : AreItems kind lexemes items

  pub has_items : (text : List ℕ) (ts cut : List Token) (ls nested parsed : List Lexeme) (items given : List Item) → IsTokenList text ts → cut ≡ ts → AreLexemes text cut ls → nested ≡ ls → None ≡ too_deep nested → parsed ≡ ls → AreItems kind parsed items → given ≡ items → HasItems text given
  has_items text ts cut ls nested parsed items given t p a q d r i g = record {
    lexemes = ls;
    has = record { tokens = ts; cut = t; are = subst (λ x. AreLexemes text x ls) p a };
    level = ap too_deep (sym q) ∙ sym d;
    are = subst (AreItems kind ls) (sym g) (subst (λ x. AreItems kind x items) r i);
  }

  gives : (text : List ℕ) (items : List Item) (r : Result WholeModel ModelFault) → (h : HasItems text items) → whole_meaning text h.are.statements ≡ r → GivesOf kind text r
  gives text items r h e = record { statements = h.are.statements; has = record { lexemes = h.lexemes; has = h.has; level = h.level; file = h.are.file }; is = e }

  pub perform_refused : (text : List ℕ) (items : List Item) (f : ModelFault) → HasItems text items → DraftsAll kind text items (Err f) → RefusesModelOf kind text f
  perform_refused text items f h (inl e) = no_memory text f e
  perform_refused text items f h (inr d) =
      let q = d h.lexemes h.are.statements h.are.file h.are.are in
      rule_refused text f (step_fault _ f (after_all_rule text nothing_yet h.are.statements) q) (gives text items (Err f) h (ap whole_meaning_by q))

  pub has_draft : (text : List ℕ) (items given : List Item) (d : Draft) → HasItems text given → DraftsAll kind text given (Ok d) → given ≡ items → HasDraft kind text items d
  has_draft text items given d h a g = record {
    statements = h.are.statements;
    has = record { lexemes = h.lexemes; has = h.has; level = h.level; file = h.are.file };
    are = sym g ∙ h.are.are;
    drafted = a h.lexemes h.are.statements h.are.file h.are.are;
  }

  pub finish_gives : (text : List ℕ) (items : List Item) (d : Draft) (r : Result WholeModel ModelFault) → HasDraft kind text items d → FinishesAs (finish d) r → MatchResult r (λ m. GivesOf kind text (Ok m)) (RefusesModelOf kind text)
  finish_gives text items d (Ok m) h e = record { statements = h.statements; has = h.has; is = ap whole_meaning_by h.drafted ∙ e }
  finish_gives text items d (Err f) h (inl e) = no_memory text f e
  finish_gives text items d (Err f) h (inr e) =
      rule_refused text f (finish_rule _ d f (either _ _ (undefined_rule 0 d.equations) (crossing_rule 0 d.variables)) e) (record { statements = h.statements; has = h.has; is = ap whole_meaning_by h.drafted ∙ e })
