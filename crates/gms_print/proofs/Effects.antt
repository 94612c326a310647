-- What the statements of a printed model do, from no declaration on.
use Rattle.std.proofs.Common.{◌≡◌, ◌≢◌, ℕ, zero, suc, ◌+◌, ◌<◌, ◌≤◌, true, false, cond, List, [], ◌∷◌, ◌++◌, map, length, All, AllPairs, Option, Some, None, Ok, Err, slice_index_or, slice_set, refl, sym, ap, subst, ◌∙◌, arith, append_assoc}
use Rattle.std.proofs.lemmas.Bool.{lt-ltb}
use Rattle.std.proofs.lemmas.List.Elements.{All-head, All-tail}
use Rattle.std.proofs.lemmas.List.{append-nil, length_push, get_or_at, set_at, length-map}
use Rattle.emp_list.specs.Case.{lower}
use Rattle.emp_ast.specs.declared.tree.Tree.{Tree}
use Rattle.emp_ast.specs.declared.tree.VarId.{VarId}
use Rattle.emp_ast.specs.declared.model.Relation.{Relation}
use Rattle.emp_ast.specs.declared.model.Equation.{Equation}
use Rattle.emp_ast.specs.declared.model.End.{End}
use Rattle.emp_ast.specs.declared.model.End.TheVariants.{Open as OpenEnd, At as AtEnd}
use Rattle.emp_ast.specs.declared.model.Variable.{Variable}
use Rattle.emp_ast.specs.declared.model.Sense.{Sense}
use Rattle.emp_ast.specs.declared.model.Model.{Model}
use Rattle.emp_ast.specs.Nodes.{nodes_from}
use Rattle.emp_ast.specs.Names.{variable_names, equation_names, SameEquations, SameModel}
use Rattle.emp_num.specs.declared.frac.Frac.{Frac}
use Rattle.gms_grammar.specs.declared.lexeme.Word.{Word}
use Rattle.gms_grammar.specs.declared.lexeme.Word.TheVariants.{Low, High}
use Rattle.gms_grammar.specs.declared.lexeme.Domain.TheVariants.{Free}
use Rattle.gms_grammar.specs.declared.lexeme.Sort.TheVariants.{Name}
use Rattle.gms_grammar.specs.declared.lexeme.Lexeme.{Lexeme}
use Rattle.gms_grammar.specs.declared.limit.Limit.{Limit}
use Rattle.gms_grammar.specs.declared.limit.Limit.TheVariants.{Below, At, Above}
use Rattle.gms_read.specs.declared.draft.DraftVariable.{DraftVariable}
use Rattle.gms_read.specs.declared.draft.Definition.{Definition}
use Rattle.gms_read.specs.declared.draft.DraftEquation.{DraftEquation}
use Rattle.gms_read.specs.declared.draft.Draft.{Draft}
use Rattle.gms_read.specs.declared.table.Named.TheVariants.{Variable as VariableName, Equation as EquationName, Model as ModelName}
use Rattle.gms_grammar.specs.declared.fault.ModelFault.TheVariants.{Undeclared, TooLarge, BoundsCross}
use Rattle.gms_grammar.specs.Lexemes.{spelling}
use Rattle.gms_grammar.specs.Grammar.{Written, Statement, variables, equations, definition, setting, model, solve}
use Rattle.gms_read.specs.Rules.{Step, and_then, or_else, is_model_entry, aim, aim_at, with_goal, add_model, finished, finish, finish_by, whole_meaning, whole_meaning_by, entry_of, declared_as, declare_by, declare_variable, declare_equation, declare_all, add_variable, add_equation, expression_fault, meaning, tree_of, after, after_all, nothing_yet, undefined_from, crossing_from, end_of, finished_variables, finished_equations, is_none, variable_in, with_definition, no_equation, set_by, set_variable, no_variable}
use Rattle.gms_print.proofs.ExpressionReads.{Knows}
use Rattle.gms_print.proofs.Sound.{low_limit, high_limit, SoundVariable, SoundGoal, Sound, all_names}
use Rattle.gms_print.proofs.Tables.{Entries, Distinct, distinct, distinct_front, distinct_behind, MissAll, miss_none, miss_more, miss_front, table, finds_variables, finds_equations, entry_behind, entry_here, variable_entries, equation_entries, FindsVariables, FindsEquations, finds_more}

-- ---- drafts
-- no model and no objective yet
abbrev pub stage : Entries → List DraftVariable → List DraftEquation → Draft
stage names vs es = record { names = names; variables = vs; equations = es; model = None; goal = None }

abbrev pub open_variable : List ℕ → DraftVariable
open_variable name = record { name = name; low = Below; high = Above; signed = false }

abbrev pub empty_equation : List ℕ → DraftEquation
empty_equation name = record { name = name; definition = None }

-- ---- declarations
declares_one : (text : List ℕ) (d : Draft) (t : Lexeme) → declared_as text d t ≡ None → length d.variables < 512 → declare_variable text Free d t ≡ Ok (add_variable text Free d t)
declares_one text d t h l = ap (declare_by text Free d t) h ∙ ap (λ b. cond b (Ok (add_variable text Free d t)) (Err (TooLarge t.place))) (lt-ltb (length d.variables) 512 l)

pub declares_variables : (text : List ℕ) (ts : List Lexeme) (es : Entries) (vs : List DraftVariable) → MissAll es (map (spelling text) ts) → Distinct (map (spelling text) ts) → length vs + length ts ≤ 512
    → declare_all (declare_variable text Free) (stage es vs []) ts ≡ Ok (stage (es ++ variable_entries (length vs) (map (spelling text) ts)) (vs ++ map open_variable (map (spelling text) ts)) [])
declares_variables text [] es vs m d l = λ i. Ok (stage (sym (append-nil es) i) (sym (append-nil vs) i) [])
declares_variables text (t ∷ ts) es vs m d l =
    let n = spelling text t in
    let fs = es ++ (lower n, VariableName (length vs)) ∷ [] in
    let ws = vs ++ open_variable n ∷ [] in
    let names = map (spelling text) ts in
    let size : length ws ≡ length vs + 1 = length_push vs (open_variable n) in
    let p : fs ++ variable_entries (length ws) names ≡ es ++ variable_entries (length vs) (n ∷ names) = append_assoc es ((lower n, VariableName (length vs)) ∷ []) (variable_entries (length ws) names) ∙ ap (λ k. es ++ (lower n, VariableName (length vs)) ∷ variable_entries k names) size in
    let q : ws ++ map open_variable names ≡ vs ++ map open_variable (n ∷ names) = append_assoc vs (open_variable n ∷ []) (map open_variable names) in
    ap (λ r. and_then r (λ e. declare_all (declare_variable text Free) e ts)) (declares_one text (stage es vs []) t m.0 (omega arith))
    ∙ declares_variables text ts fs ws (miss_more es (lower n) (VariableName (length vs)) names m.1 d.0) d.1 (omega (arith, size))
    ∙ (λ i. Ok (stage (p i) (q i) []))

equation_one : (text : List ℕ) (d : Draft) (t : Lexeme) → declared_as text d t ≡ None → length d.equations < 512 → declare_equation text d t ≡ Ok (add_equation text d t)
equation_one text d t h l = rw (h, lt-ltb (length d.equations) 512 l) refl

pub declares_equations : (text : List ℕ) (ts : List Lexeme) (names : Entries) (vs : List DraftVariable) (es : List DraftEquation) → MissAll names (map (spelling text) ts) → Distinct (map (spelling text) ts) → length es + length ts ≤ 512
    → declare_all (declare_equation text) (stage names vs es) ts ≡ Ok (stage (names ++ equation_entries (length es) (map (spelling text) ts)) vs (es ++ map empty_equation (map (spelling text) ts)))
declares_equations text [] names vs es m d l = λ i. Ok (stage (sym (append-nil names) i) vs (sym (append-nil es) i))
declares_equations text (t ∷ ts) names vs es m d l =
    let n = spelling text t in
    let more = map (spelling text) ts in
    let size : length (es ++ empty_equation n ∷ []) ≡ length es + 1 = length_push es (empty_equation n) in
    let p : (names ++ (lower n, EquationName (length es)) ∷ []) ++ equation_entries (length (es ++ empty_equation n ∷ [])) more ≡ names ++ equation_entries (length es) (n ∷ more) = append_assoc names ((lower n, EquationName (length es)) ∷ []) (equation_entries (length (es ++ empty_equation n ∷ [])) more) ∙ ap (λ k. names ++ (lower n, EquationName (length es)) ∷ equation_entries k more) size in
    let q : (es ++ empty_equation n ∷ []) ++ map empty_equation more ≡ es ++ map empty_equation (n ∷ more) = append_assoc es (empty_equation n ∷ []) (map empty_equation more) in
    ap (λ r. and_then r (λ e. declare_all (declare_equation text) e ts)) (equation_one text (stage names vs es) t m.0 (omega arith))
    ∙ declares_equations text ts (names ++ (lower n, EquationName (length es)) ∷ []) vs (es ++ empty_equation n ∷ []) (miss_more names (lower n) (EquationName (length es)) more m.1 d.0) d.1 (omega (arith, size))
    ∙ (λ i. Ok (stage (p i) vs (q i)))

-- names that are apart from those that were declared are not in the table either
pub miss_variables : (es : Entries) (k : ℕ) (ns os : List (List ℕ)) → MissAll es (ns ++ os) → Distinct (ns ++ os) → MissAll (es ++ variable_entries k ns) os
miss_variables es k [] os m d = subst (λ fs. MissAll fs os) (sym (append-nil es)) m
miss_variables es k (n ∷ ns) os m d =
    subst (λ fs. MissAll fs os) (append_assoc es ((lower n, VariableName k) ∷ []) (variable_entries (k + 1) ns))
    (miss_variables (es ++ (lower n, VariableName k) ∷ []) (k + 1) ns os (miss_more es (lower n) (VariableName k) (ns ++ os) m.1 d.0) d.1)

pub miss_equations : (es : Entries) (k : ℕ) (ns os : List (List ℕ)) → MissAll es (ns ++ os) → Distinct (ns ++ os) → MissAll (es ++ equation_entries k ns) os
miss_equations es k [] os m d = subst (λ fs. MissAll fs os) (sym (append-nil es)) m
miss_equations es k (n ∷ ns) os m d =
    subst (λ fs. MissAll fs os) (append_assoc es ((lower n, EquationName k) ∷ []) (equation_entries (k + 1) ns))
    (miss_equations (es ++ (lower n, EquationName k) ∷ []) (k + 1) ns os (miss_more es (lower n) (EquationName k) (ns ++ os) m.1 d.0) d.1)

-- ---- one statement after another
after_each : (text : List ℕ) (r : Step) (ss more : List Statement) → ((e : Draft) → after_all text e (ss ++ more) ≡ and_then (after_all text e ss) (λ f. after_all text f more))
    → and_then r (λ e. after_all text e (ss ++ more)) ≡ and_then (and_then r (λ e. after_all text e ss)) (λ f. after_all text f more)
after_each text (Ok e) ss more h = h e
after_each text (Err f) ss more h = refl

after_append : (text : List ℕ) (d : Draft) (ss more : List Statement) → after_all text d (ss ++ more) ≡ and_then (after_all text d ss) (λ e. after_all text e more)
after_append text d [] more = refl
after_append text d (s ∷ ss) more = after_each text (after text d s) ss more (λ e. after_append text e ss more)

pub after_then : (text : List ℕ) (d e : Draft) (r : Step) (ss more : List Statement) → after_all text d ss ≡ Ok e → after_all text e more ≡ r → after_all text d (ss ++ more) ≡ r
after_then text d e r ss more p q = after_append text d ss more ∙ ap (λ x. and_then x (λ f. after_all text f more)) p ∙ q

after_one : (text : List ℕ) (d e : Draft) (r : Step) (s : Statement) (more : List Statement) → after text d s ≡ Ok e → after_all text e more ≡ r → after_all text d (s ∷ more) ≡ r
after_one text d e r s more p q = ap (λ x. and_then x (λ f. after_all text f more)) p ∙ q

-- ---- names that are found from a number on
abbrev pub EquationsFound : Entries → ℕ → List (List ℕ) → Type 0
EquationsFound names j [] = Unit {0}
EquationsFound names j (n ∷ ns) = (entry_of names (lower n) ≡ Some (EquationName j)) × EquationsFound names (j + 1) ns

abbrev pub VariablesFound : Entries → ℕ → List (List ℕ) → Type 0
VariablesFound names j [] = Unit {0}
VariablesFound names j (n ∷ ns) = (entry_of names (lower n) ≡ Some (VariableName j)) × VariablesFound names (j + 1) ns

pub equations_found : (names : Entries) (j : ℕ) (ns : List (List ℕ)) → ((k : ℕ) → k < length ns → entry_of names (lower (slice_index_or ns k [])) ≡ Some (EquationName (j + k))) → EquationsFound names j ns
equations_found names j [] h = tt
equations_found names j (n ∷ ns) h = (h zero (omega arith) ∙ ap (λ i. Some (EquationName i)) (omega arith), equations_found names (j + 1) ns (λ k l. h (suc k) (omega arith) ∙ ap (λ i. Some (EquationName i)) (omega arith)))

pub variables_found : (names : Entries) (j : ℕ) (ns : List (List ℕ)) → ((k : ℕ) → k < length ns → entry_of names (lower (slice_index_or ns k [])) ≡ Some (VariableName (j + k))) → VariablesFound names j ns
variables_found names j [] h = tt
variables_found names j (n ∷ ns) h = (h zero (omega arith) ∙ ap (λ i. Some (VariableName i)) (omega arith), variables_found names (j + 1) ns (λ k l. h (suc k) (omega arith) ∙ ap (λ i. Some (VariableName i)) (omega arith)))

pub knows : (names : List (List ℕ)) (text : List ℕ) (d : Draft) → FindsVariables d.names names → Knows names text d
knows names text d h k l t e = ap (λ key. variable_in (entry_of d.names key)) e ∙ ap variable_in (h k l)

-- ---- definitions
-- whatever the draft that knows the names, the expression is that of the tree
pub record Means (names : List (List ℕ)) (text : List ℕ) (w : Written) (t : Tree) : Type 0 where
  pub faultless : (d : Draft) → Knows names text d → expression_fault text d w ≡ None
  pub means : (d : Draft) → Knows names text d → nodes_from 0 (meaning text d w) ≡ t.nodes

pub record Defines (names : List (List ℕ)) (text : List ℕ) (e : Equation) (s : Statement) : Type 0 where
  pub head : Lexeme
  pub left : Written
  pub right : Written
  pub is : s ≡ definition head left e.relation right
  pub spelled : lower (spelling text head) ≡ lower e.name
  pub left_means : Means names text left e.left
  pub right_means : Means names text right e.right

abbrev pub AreDefinitions : List (List ℕ) → List ℕ → List Equation → List Statement → Type 0
AreDefinitions names text [] [] = Unit {0}
AreDefinitions names text (e ∷ es) (s ∷ ss) = Defines names text e s × AreDefinitions names text es ss
AreDefinitions names text [] (s ∷ ss) = ⊥
AreDefinitions names text (e ∷ es) [] = ⊥

defines_one : (text : List ℕ) (d : Draft) (t : Lexeme) (k : ℕ) (left right : Written) (r : Relation) → declared_as text d t ≡ Some (EquationName k) → is_none (slice_index_or d.equations k no_equation).definition ≡ true → expression_fault text d left ≡ None → expression_fault text d right ≡ None
    → after text d (definition t left r right) ≡ Ok (with_definition text d k left r right)
defines_one text d t k left right r h n l m = rw (h, n, l, m) refl

abbrev pub equation_names_of : List Equation → List (List ℕ)
equation_names_of es = map (λ e. e.name) es

abbrev pub variable_names_of : List Variable → List (List ℕ)
variable_names_of vs = map (λ v. v.name) vs

-- the equations behind those that are defined become defined
pub record Defined (text : List ℕ) (names : Entries) (vs : List DraftVariable) (done : List DraftEquation) (es : List Equation) (ss : List Statement) : Type 0 where
  pub new : List DraftEquation
  pub all : (k : ℕ) → undefined_from k new ≡ None
  pub same : SameEquations es (finished_equations new)
  pub is : after_all text (stage names vs (done ++ map empty_equation (equation_names_of es))) ss ≡ Ok (stage names vs (done ++ new))

pub defined : (text : List ℕ) (known : List (List ℕ)) (names : Entries) (vs : List DraftVariable) (j : ℕ) (done : List DraftEquation) (es : List Equation) (ss : List Statement)
    → FindsVariables names known → length done ≡ j → EquationsFound names j (equation_names_of es) → AreDefinitions known text es ss → Defined text names vs done es ss
defined text known names vs j done [] [] f p h a = record { new = []; all = λ k. refl; same = tt; is = refl }
defined text known names vs j done [] (s ∷ ss) f p h a = absurd a
defined text known names vs j done (e ∷ es) [] f p h a = absurd a
defined text known names vs j done (e ∷ es) (s ∷ ss) f p h a =
    let def = a.0 in
    let more = map empty_equation (equation_names_of es) in
    let d : Draft = stage names vs (done ++ empty_equation e.name ∷ more) in
    let k : Knows known text d = knows known text d f in
    let sides : Definition = record { left = tree_of text d def.left; relation = e.relation; right = tree_of text d def.right } in
    let x : DraftEquation = record { name = e.name; definition = Some sides } in
    let entry : declared_as text d def.head ≡ Some (EquationName j) = ap (entry_of names) def.spelled ∙ h.0 in
    let here : slice_index_or (done ++ empty_equation e.name ∷ more) j no_equation ≡ empty_equation e.name = get_or_at done (empty_equation e.name) more no_equation j p in
    let open_ : is_none (slice_index_or (done ++ empty_equation e.name ∷ more) j no_equation).definition ≡ true = ap (λ y. is_none y.definition) here in
    let step : after text d s ≡ Ok (with_definition text d j def.left e.relation def.right) = ap (after text d) def.is ∙ defines_one text d def.head j def.left def.right e.relation entry open_ (def.left_means.faultless d k) (def.right_means.faultless d k) in
    let es_is : slice_set (done ++ empty_equation e.name ∷ more) j (record { name = (slice_index_or (done ++ empty_equation e.name ∷ more) j no_equation).name; definition = Some sides }) ≡ (done ++ x ∷ []) ++ more =
    ap (λ y. slice_set (done ++ empty_equation e.name ∷ more) j (record { name = y.name; definition = Some sides })) here
    ∙ set_at done (empty_equation e.name) more x j p
    ∙ sym (append_assoc done (x ∷ []) more) in
    let next : after text d s ≡ Ok (stage names vs ((done ++ x ∷ []) ++ more)) = step ∙ (λ i. Ok (stage names vs (es_is i))) in
    let rest = defined text known names vs (j + 1) (done ++ x ∷ []) es ss f (length_push done x ∙ ap (λ n. n + 1) p) h.1 a.1 in
    record {
      new = x ∷ rest.new;
      all = λ i. rest.all (i + 1);
      same = (record { name = refl; left = sym (def.left_means.means d k); right = sym (def.right_means.means d k); relation = refl }, rest.same);
      is = after_one text d (stage names vs ((done ++ x ∷ []) ++ more)) (Ok (stage names vs (done ++ x ∷ rest.new))) s ss next (rest.is ∙ (λ i. Ok (stage names vs (append_assoc done (x ∷ []) rest.new i))));
    }

-- ---- bounds
-- a setting of a finite end, and none of an open one
pub data SetsEnd (text name : List ℕ) (word : Word) : End → List Statement → Type 0 where
  sets_none : SetsEnd text name word OpenEnd []
  sets_end : (t a : Lexeme) (f : Frac) → spelling text t ≡ name → a.sort ≡ Name word → SetsEnd text name word (AtEnd f) (setting t a (At f) ∷ [])

pub data AreBounds (text : List ℕ) : List Variable → List Statement → Type 0 where
  no_bounds : AreBounds text [] []
  some_bounds : (v : Variable) (vs : List Variable) (low high rest : List Statement) → SetsEnd text v.name Low v.low low → SetsEnd text v.name High v.high high → AreBounds text vs rest → AreBounds text (v ∷ vs) (low ++ (high ++ rest))

abbrev pub drafted : List ℕ → Limit → Limit → DraftVariable
drafted name low high = record { name = name; low = low; high = high; signed = false }

abbrev pub bounded : Variable → DraftVariable
bounded v = drafted v.name (low_limit v.low) (high_limit v.high)

low_set : (text name : List ℕ) (e : End) (ss : List Statement) → SetsEnd text name Low e ss → (names : Entries) (j : ℕ) (done rest : List DraftVariable) (high : Limit) (es : List DraftEquation) → entry_of names (lower name) ≡ Some (VariableName j) → length done ≡ j
    → after_all text (stage names (done ++ drafted name Below high ∷ rest) es) ss ≡ Ok (stage names (done ++ drafted name (low_limit e) high ∷ rest) es)
low_set text name e ss sets_none names j done rest high es h p = refl
low_set text name e ss (sets_end t a f n w) names j done rest high es h p =
    let d : Draft = stage names (done ++ drafted name Below high ∷ rest) es in
    let entry : declared_as text d t ≡ Some (VariableName j) = ap (λ bs. entry_of names (lower bs)) n ∙ h in
    let here : slice_index_or (done ++ drafted name Below high ∷ rest) j no_variable ≡ drafted name Below high = get_or_at done (drafted name Below high) rest no_variable j p in
    let are : slice_set (done ++ drafted name Below high ∷ rest) j (record { name = (slice_index_or (done ++ drafted name Below high ∷ rest) j no_variable).name; low = At f; high = (slice_index_or (done ++ drafted name Below high ∷ rest) j no_variable).high; signed = (slice_index_or (done ++ drafted name Below high ∷ rest) j no_variable).signed }) ≡ done ++ drafted name (At f) high ∷ rest =
    ap (λ y. slice_set (done ++ drafted name Below high ∷ rest) j (record { name = y.name; low = At f; high = y.high; signed = y.signed })) here
    ∙ set_at done (drafted name Below high) rest (drafted name (At f) high) j p in
    let step : after text d (setting t a (At f)) ≡ Ok (stage names (done ++ drafted name (At f) high ∷ rest) es) = ap (set_by d t a (At f)) entry ∙ ap (λ s. set_variable d j a.place s (At f)) w ∙ (λ i. Ok (stage names (are i) es)) in
    after_one text d (stage names (done ++ drafted name (At f) high ∷ rest) es) (Ok (stage names (done ++ drafted name (At f) high ∷ rest) es)) (setting t a (At f)) [] step refl

high_set : (text name : List ℕ) (e : End) (ss : List Statement) → SetsEnd text name High e ss → (names : Entries) (j : ℕ) (done rest : List DraftVariable) (low : Limit) (es : List DraftEquation) → entry_of names (lower name) ≡ Some (VariableName j) → length done ≡ j
    → after_all text (stage names (done ++ drafted name low Above ∷ rest) es) ss ≡ Ok (stage names (done ++ drafted name low (high_limit e) ∷ rest) es)
high_set text name e ss sets_none names j done rest low es h p = refl
high_set text name e ss (sets_end t a f n w) names j done rest low es h p =
    let d : Draft = stage names (done ++ drafted name low Above ∷ rest) es in
    let entry : declared_as text d t ≡ Some (VariableName j) = ap (λ bs. entry_of names (lower bs)) n ∙ h in
    let here : slice_index_or (done ++ drafted name low Above ∷ rest) j no_variable ≡ drafted name low Above = get_or_at done (drafted name low Above) rest no_variable j p in
    let are : slice_set (done ++ drafted name low Above ∷ rest) j (record { name = (slice_index_or (done ++ drafted name low Above ∷ rest) j no_variable).name; low = (slice_index_or (done ++ drafted name low Above ∷ rest) j no_variable).low; high = At f; signed = (slice_index_or (done ++ drafted name low Above ∷ rest) j no_variable).signed }) ≡ done ++ drafted name low (At f) ∷ rest =
    ap (λ y. slice_set (done ++ drafted name low Above ∷ rest) j (record { name = y.name; low = y.low; high = At f; signed = y.signed })) here
    ∙ set_at done (drafted name low Above) rest (drafted name low (At f)) j p in
    let step : after text d (setting t a (At f)) ≡ Ok (stage names (done ++ drafted name low (At f) ∷ rest) es) = ap (set_by d t a (At f)) entry ∙ ap (λ s. set_variable d j a.place s (At f)) w ∙ (λ i. Ok (stage names (are i) es)) in
    after_one text d (stage names (done ++ drafted name low (At f) ∷ rest) es) (Ok (stage names (done ++ drafted name low (At f) ∷ rest) es)) (setting t a (At f)) [] step refl

pub bounds_set : (text : List ℕ) (names : Entries) (vs : List Variable) (ss : List Statement) → AreBounds text vs ss → (j : ℕ) (done : List DraftVariable) (es : List DraftEquation) → length done ≡ j → VariablesFound names j (variable_names_of vs)
    → after_all text (stage names (done ++ map open_variable (variable_names_of vs)) es) ss ≡ Ok (stage names (done ++ map bounded vs) es)
bounds_set text names vs ss no_bounds j done es p h = refl
bounds_set text names vs ss (some_bounds v us low high rest a b m) j done es p h =
    let more = map open_variable (variable_names_of us) in
    let d0 : Draft = stage names (done ++ drafted v.name Below Above ∷ map open_variable (variable_names_of us)) es in
    let d1 : Draft = stage names (done ++ drafted v.name (low_limit v.low) Above ∷ map open_variable (variable_names_of us)) es in
    let d2 : Draft = stage names (done ++ bounded v ∷ map open_variable (variable_names_of us)) es in
    let d3 : Draft = stage names (done ++ bounded v ∷ map bounded us) es in
    let first = low_set text v.name v.low low a names j done more Above es h.0 p in
    let second = high_set text v.name v.high high b names j done more (low_limit v.low) es h.0 p in
    let others = bounds_set text names us rest m (j + 1) (done ++ bounded v ∷ []) es (length_push done (bounded v) ∙ ap (λ n. n + 1) p) h.1 in
    let third : after_all text d2 rest ≡ Ok d3 = subst (λ xs. after_all text (stage names xs es) rest ≡ Ok d3) (append_assoc done (bounded v ∷ []) more) (others ∙ (λ i. Ok (stage names (append_assoc done (bounded v ∷ []) (map bounded us) i) es))) in
    after_then text d0 d1 (Ok d3) low (high ++ rest) first (after_then text d1 d2 (Ok d3) high rest second third)

end_low : (e : End) → end_of (low_limit e) ≡ e
end_low OpenEnd = refl
end_low (AtEnd f) = refl

end_high : (e : End) → end_of (high_limit e) ≡ e
end_high OpenEnd = refl
end_high (AtEnd f) = refl

pub bounds_finished : (vs : List Variable) → finished_variables (map bounded vs) ≡ vs
bounds_finished [] = refl
bounds_finished (v ∷ vs) = λ i. (record { name = v.name; low = end_low v.low i; high = end_high v.high i }) ∷ bounds_finished vs i

pub none_crossing : (k : ℕ) (vs : List Variable) → All SoundVariable vs → crossing_from k (map bounded vs) ≡ None
none_crossing k [] h = refl
none_crossing k (v ∷ vs) h =
    let here = All-head SoundVariable v vs h in
    ap (λ b. cond b (Some (BoundsCross (record { at = k }) v.name)) (crossing_from (k + 1) (map bounded vs))) here.ordered ∙ none_crossing (k + 1) vs (All-tail SoundVariable v vs h)

-- ---- the whole
pub data DeclaresVariables (text : List ℕ) : List (List ℕ) → List Statement → Type 0 where
  no_variables : DeclaresVariables text [] []
  some_variables : (names : List (List ℕ)) (w : Lexeme) (ts : List Lexeme) → map (spelling text) ts ≡ names → DeclaresVariables text names (variables Free w ts ∷ [])

pub data DeclaresEquations (text : List ℕ) : List (List ℕ) → List Statement → Type 0 where
  no_equations : DeclaresEquations text [] []
  some_equations : (names : List (List ℕ)) (ts : List Lexeme) → map (spelling text) ts ≡ names → DeclaresEquations text names (equations ts ∷ [])

abbrev pub Aims : List ℕ → List (List ℕ) → Option (Sense × VarId) → Option (Sense × Lexeme) → Type 0
Aims text names None None = Unit {0}
Aims text names (Some (s, v)) (Some (r, t)) = (r ≡ s) × (spelling text t ≡ slice_index_or names v.at [])
Aims text names None (Some g) = ⊥
Aims text names (Some g) None = ⊥

-- the statements of a printed model
pub record AreStatements (m : Model) (text : List ℕ) (ss : List Statement) : Type 0 where
  pub declared_variables : List Statement
  pub declared_equations : List Statement
  pub definitions : List Statement
  pub bounds : List Statement
  pub named : Lexeme
  pub solved : Lexeme
  pub goal : Option (Sense × Lexeme)
  pub declares_variables : DeclaresVariables text (variable_names m) declared_variables
  pub declares_equations : DeclaresEquations text (equation_names m) declared_equations
  pub defines : AreDefinitions (variable_names m) text m.equations definitions
  pub sets : AreBounds text m.variables bounds
  pub names : spelling text named ≡ m.name
  pub solves : lower (spelling text solved) ≡ lower m.name
  pub aims : Aims text (variable_names m) m.goal goal
  pub is : ss ≡ declared_variables ++ (declared_equations ++ (definitions ++ (bounds ++ model named ∷ solve solved goal ∷ [])))

variables_stage : (text : List ℕ) (names : List (List ℕ)) (ss : List Statement) → DeclaresVariables text names ss → Distinct names → length names ≤ 512
    → after_all text nothing_yet ss ≡ Ok (stage (variable_entries 0 names) (map open_variable names) [])
variables_stage text names ss no_variables d l = refl
variables_stage text names ss (some_variables ns w ts e) d l =
    after_one text nothing_yet (stage (variable_entries 0 names) (map open_variable names) []) (Ok (stage (variable_entries 0 names) (map open_variable names) [])) (variables Free w ts) []
    (subst (λ xs. declare_all (declare_variable text Free) nothing_yet ts ≡ Ok (stage (variable_entries 0 xs) (map open_variable xs) [])) e
    (declares_variables text ts [] [] (miss_none (map (spelling text) ts)) (subst Distinct (sym e) d) (omega (arith, l, ap length e, length-map ts (spelling text)))))
    refl

equations_stage : (text : List ℕ) (names : List (List ℕ)) (ss : List Statement) → DeclaresEquations text names ss → (es : Entries) (vs : List DraftVariable) → MissAll es names → Distinct names → length names ≤ 512
    → after_all text (stage es vs []) ss ≡ Ok (stage (es ++ equation_entries 0 names) vs (map empty_equation names))
equations_stage text names ss no_equations es vs m d l = λ i. Ok (stage (sym (append-nil es) i) vs [])
equations_stage text names ss (some_equations ns ts e) es vs m d l =
    after_one text (stage es vs []) (stage (es ++ equation_entries 0 names) vs (map empty_equation names)) (Ok (stage (es ++ equation_entries 0 names) vs (map empty_equation names))) (equations ts) []
    (subst (λ xs. declare_all (declare_equation text) (stage es vs []) ts ≡ Ok (stage (es ++ equation_entries 0 xs) vs (map empty_equation xs))) e
    (declares_equations text ts es vs [] (subst (MissAll es) (sym e) m) (subst Distinct (sym e) d) (omega (arith, l, ap length e, length-map ts (spelling text)))))
    refl

model_stage : (text : List ℕ) (es : Entries) (vs : List DraftVariable) (eqs : List DraftEquation) (t : Lexeme) → entry_of es (lower (spelling text t)) ≡ None → after text (stage es vs eqs) (model t) ≡ Ok (add_model text (stage es vs eqs) t)
model_stage text es vs eqs t h = rw h refl

aim_done : (text : List ℕ) (names : List (List ℕ)) (d : Draft) (g : Option (Sense × VarId)) (goal : Option (Sense × Lexeme)) → Aims text names g goal → SoundGoal (length names) g → Knows names text d → aim text d goal ≡ Ok (with_goal d g)
aim_done text names d None None h l k = refl
aim_done text names d (Some (s, v)) (Some (r, t)) h l k = ap (aim_at d r t) (k v.at l t (ap lower h.1)) ∙ ap (λ s. Ok (with_goal d (Some (s, v)))) h.0
aim_done text names d None (Some g) h l k = absurd h
aim_done text names d (Some g) None h l k = absurd h

-- the draft behind all statements
abbrev pub last_draft : Model → List DraftEquation → Draft
last_draft m new = record {
  names = table (variable_names m) (equation_names m) ++ (lower m.name, ModelName) ∷ [];
  variables = map bounded m.variables;
  equations = new;
  model = Some m.name;
  goal = m.goal;
}

solve_stage : (text : List ℕ) (m : Model) (new : List DraftEquation) (t : Lexeme) (goal : Option (Sense × Lexeme)) → lower (spelling text t) ≡ lower m.name → Aims text (variable_names m) m.goal goal → SoundGoal (length (variable_names m)) m.goal
    → entry_of (table (variable_names m) (equation_names m)) (lower m.name) ≡ None → FindsVariables (table (variable_names m) (equation_names m)) (variable_names m)
    → after text (with_goal (last_draft m new) None) (solve t goal) ≡ Ok (last_draft m new)
solve_stage text m new t goal e a g h f =
    let d = with_goal (last_draft m new) None in
    let names = table (variable_names m) (equation_names m) in
    let entry : declared_as text (with_goal (last_draft m new) None) t ≡ Some ModelName = ap (entry_of (names ++ (lower m.name, ModelName) ∷ [])) e ∙ entry_behind names ((lower m.name, ModelName) ∷ []) (lower m.name) h ∙ entry_here [] (lower m.name) ModelName in
    let k : Knows (variable_names m) text (with_goal (last_draft m new) None) = knows (variable_names m) text d (finds_more names ((lower m.name, ModelName) ∷ []) (variable_names m) f) in
    ap (λ n. cond (is_model_entry n) (aim text d goal) (Err (Undeclared t.place))) entry ∙ aim_done text (variable_names m) d m.goal goal a g k

finishes : (d : Draft) → undefined_from 0 d.equations ≡ None → crossing_from 0 d.variables ≡ None → finish d ≡ Ok (finished d)
finishes d h k = ap (λ f. finish_by (or_else f (crossing_from 0 d.variables)) d) h ∙ ap (λ f. finish_by f d) k

-- what a text with such statements stands for
pub record MeansModel (m : Model) (text : List ℕ) (ss : List Statement) : Type 0 where
  pub model : Model
  pub is : whole_meaning text ss ≡ Ok model
  pub same : SameModel m model

-- what the statements of a model need to be performed
pub record Fitting (m : Model) : Type 0 where
  pub apart : AllPairs (λ a b. lower a ≢ lower b) (all_names m)
  pub few_variables : length m.variables ≤ 512
  pub few_equations : length m.equations ≤ 512
  pub variables : All SoundVariable m.variables
  pub goal : SoundGoal (length m.variables) m.goal

pub fitting : {m : Model} → Sound m → Fitting m
fitting s = record { apart = s.apart; few_variables = s.few_variables; few_equations = s.few_equations; variables = s.variables; goal = s.goal }

pub means_model : (m : Model) (text : List ℕ) (ss : List Statement) → Fitting m → AreStatements m text ss → MeansModel m text ss
means_model m text ss s a =
    let vs = variable_names m in
    let es = equation_names m in
    let names = table (variable_names m) (equation_names m) in
    let all : Distinct (variable_names m ++ equation_names m ++ m.name ∷ []) = distinct (all_names m) s.apart in
    let apart : Distinct (variable_names m ++ (equation_names m ++ m.name ∷ [])) = subst Distinct (append_assoc vs es (m.name ∷ [])) all in
    let both : Distinct (variable_names m ++ equation_names m) = distinct_front (vs ++ es) (m.name ∷ []) all in
    let behind : Distinct (equation_names m ++ m.name ∷ []) = distinct_behind vs (es ++ m.name ∷ []) apart in
    let miss : MissAll (variable_entries 0 (variable_names m)) (equation_names m ++ m.name ∷ []) = miss_variables [] 0 vs (es ++ m.name ∷ []) (miss_none (vs ++ (es ++ m.name ∷ []))) apart in
    let free : MissAll (table (variable_names m) (equation_names m)) (m.name ∷ []) = miss_equations (variable_entries 0 vs) 0 es (m.name ∷ []) miss behind in
    let finds : FindsVariables (table (variable_names m) (equation_names m)) (variable_names m) = finds_variables vs es both in
    let finds_e : FindsEquations (table (variable_names m) (equation_names m)) (equation_names m) = finds_equations vs es both in
    let size : length (variable_names m) ≡ length m.variables = length-map m.variables (λ v. v.name) in
    let e_size : length (equation_names m) ≡ length m.equations = length-map m.equations (λ e. e.name) in
    let d1 : Draft = stage (variable_entries 0 vs) (map open_variable vs) [] in
    let d2 : Draft = stage names (map open_variable vs) (map empty_equation es) in
    let def = defined text vs names (map open_variable vs) 0 [] m.equations a.definitions finds refl (equations_found names 0 es (λ k l. finds_e k l ∙ ap (λ i. Some (EquationName i)) (omega arith))) a.defines in
    let d3 : Draft = stage names (map open_variable vs) def.new in
    let d4 : Draft = stage names (map bounded m.variables) def.new in
    let d5 : Draft = with_goal (last_draft m def.new) None in
    let d6 : Draft = last_draft m def.new in
    let first = variables_stage text vs a.declared_variables a.declares_variables (distinct_front vs es both) (omega (arith, size, s.few_variables)) in
    let second = equations_stage text es a.declared_equations a.declares_equations (variable_entries 0 vs) (map open_variable vs) (miss_front (variable_entries 0 vs) es (m.name ∷ []) miss) (distinct_behind vs es both) (omega (arith, e_size, s.few_equations)) in
    let fourth = bounds_set text names m.variables a.bounds a.sets 0 [] def.new refl (variables_found names 0 vs (λ k l. finds k l ∙ ap (λ i. Some (VariableName i)) (omega arith))) in
    let fifth : after text d4 (model a.named) ≡ Ok d5 =
    model_stage text names (map bounded m.variables) def.new a.named (ap (λ bs. entry_of names (lower bs)) a.names ∙ free.0)
    ∙ ap (λ bs. Ok (record { names = names ++ (lower bs, ModelName) ∷ []; variables = map bounded m.variables; equations = def.new; model = Some bs; goal = None })) a.names in
    let sixth : after text d5 (solve a.solved a.goal) ≡ Ok d6 = solve_stage text m def.new a.solved a.goal a.solves a.aims (subst (λ n. SoundGoal n m.goal) (sym size) s.goal) free.0 finds in
    let whole : after_all text nothing_yet ss ≡ Ok d6 =
    ap (after_all text nothing_yet) a.is
    ∙ after_then text nothing_yet d1 (Ok d6) a.declared_variables (a.declared_equations ++ (a.definitions ++ (a.bounds ++ model a.named ∷ solve a.solved a.goal ∷ []))) first
    (after_then text d1 d2 (Ok d6) a.declared_equations (a.definitions ++ (a.bounds ++ model a.named ∷ solve a.solved a.goal ∷ [])) second
    (after_then text d2 d3 (Ok d6) a.definitions (a.bounds ++ model a.named ∷ solve a.solved a.goal ∷ []) def.is
    (after_then text d3 d4 (Ok d6) a.bounds (model a.named ∷ solve a.solved a.goal ∷ []) fourth
    (after_one text d4 d5 (Ok d6) (model a.named) (solve a.solved a.goal ∷ []) fifth
    (after_one text d5 d6 (Ok d6) (solve a.solved a.goal) [] sixth refl))))) in
    record {
      model = finished d6;
      is = ap whole_meaning_by whole ∙ finishes d6 (def.all 0) (none_crossing 0 m.variables s.variables);
      same = record { name = refl; variables = sym (bounds_finished m.variables); equations = def.same; goal = refl };
    }
