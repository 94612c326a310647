-- The items of statements do what the statements do.
use Rattle.std.proofs.Common.{◌≡◌, ◌⊎◌, ℕ, ◌+◌, ◌<◌, ◌≤◌, Bool, true, false, cond, List, [], ◌∷◌, ◌++◌, map, length, get_or, drop, slice_range, Option, Some, None, Result, Ok, Err, IsErrAnd, inl, inr, refl, sym, ap, ◌∙◌, append_assoc}
use Rattle.std.proofs.lemmas.List.{at_drop_more, at_drop_all, take_rest}
use Rattle.emp_ast.specs.declared.tree.Tree.{Tree}
use Rattle.emp_ast.specs.declared.model.Relation.{Relation}
use Rattle.emp_ast.specs.declared.model.Relation.TheVariants.{Nothing}
use Rattle.emp_ast.specs.Nodes.{root, nodes_from}
use Rattle.emp_ast.specs.Trees.{tree_from}
use Rattle.emp_ast.proofs.Trees.{tree_from_is}
use Rattle.emp_ast.specs.declared.model.Sense.{Sense}
use Rattle.gms_grammar.specs.declared.kind.Kind.{Kind}
use Rattle.gms_grammar.specs.declared.lexeme.Domain.TheVariants.{Free, Positive, Negative, Discrete as DiscreteWord}
use Rattle.gms_grammar.specs.declared.lexeme.Lexeme.{Lexeme}
use Rattle.gms_grammar.specs.declared.item.Item.{Item}
use Rattle.gms_grammar.specs.declared.item.Item.TheVariants.{Variable, Equation, Relates, Ends, Match, Aims}
use Rattle.gms_read.specs.declared.draft.Draft.{Draft}
use Rattle.gms_grammar.specs.declared.fault.ModelFault.{ModelFault}
use Rattle.gms_grammar.specs.declared.fault.ModelFault.TheVariants.{Undeclared, NoMemory}
use Rattle.gms_read.specs.declared.progress.Second.TheVariants.{Absent}
use Rattle.gms_read.specs.declared.progress.Side.{Side}
use Rattle.gms_read.specs.declared.progress.Progress.{Progress}
use Rattle.gms_grammar.specs.Grammar.{Written, Statement, empty, variables, equations, definition, setting, model, matched, solve, IsFileOf}
use Rattle.gms_grammar.specs.Items.{written_items, statement_items, items_of}
use Rattle.gms_read.specs.Steps.{DraftsAll}
use Rattle.gms_read.specs.Rules.{Step, and_then, or_else, unless_fault, or_zero, equation_of, variable_of, declared_as, is_model, expression_fault, meaning, places, tree_of, definition_fault, with_definition, define, declare_variable, declare_equation, declare_model, match_fault, matches_fault, declare_all, set_by, with_goal, aim_at, aim, after, after_all, nothing_yet}
use Rattle.gms_read.specs.Sides.{no_side}
use Rattle.gms_read.specs.Performing.{idle, with_equation, define_by, ended, on_draft, begun_by, begun_variables, solved, item_step, next_step, all_steps}
use Rattle.gms_grammar.proofs.Formed.{IsFormed, IsFormedStatement, AreFormed, formed_file}
use Rattle.gms_read.proofs.Expressions.{unless, read_written}

-- a step, and what comes behind it
abbrev pub go_on : Step → (Draft → Result Progress ModelFault) → Result Progress ModelFault
go_on (Ok d) next = next d
go_on (Err f) next = Err f

-- ---- items that do one step
one_step : (text : List ℕ) (d : Draft) (r : Step) (rest : List Item) → next_step (on_draft (idle d) r) (λ q. all_steps text q rest) ≡ go_on r (λ e. all_steps text (idle e) rest)
one_step text d (Ok e) rest = refl
one_step text d (Err f) rest = refl

each_step : (text : List ℕ) (one : Draft → Lexeme → Step) (item : Lexeme → Item) → ((d : Draft) (t : Lexeme) (rest : List Item) → item_step text (idle d) (item t) rest ≡ on_draft (idle d) (one d t)) → (names : List Lexeme) (d : Draft) (rest : List Item) → all_steps text (idle d) (map item names ++ rest) ≡ go_on (declare_all one d names) (λ e. all_steps text (idle e) rest)
each_step text one item h [] d rest = refl
each_step text one item h (t ∷ ts) d rest =
    ap (λ r. next_step r (λ q. all_steps text q (map item ts ++ rest))) (h d t (map item ts ++ rest))
    ∙ go (one d t) (λ e. each_step text one item h ts e rest)
  where
    go : (r : Step) → ((e : Draft) → all_steps text (idle e) (map item ts ++ rest) ≡ go_on (declare_all one e ts) (λ e. all_steps text (idle e) rest)) → next_step (on_draft (idle d) r) (λ q. all_steps text q (map item ts ++ rest)) ≡ go_on (and_then r (λ e. declare_all one e ts)) (λ e. all_steps text (idle e) rest)
    go (Ok e) ih = ih e
    go (Err f) ih = refl

-- ---- definitions
unless_both : (a b : Option ModelFault) (d : Draft) (next : Draft → Result Progress ModelFault) → unless a (unless b (next d)) ≡ go_on (unless_fault (or_else a b) (Ok d)) next
unless_both (Some f) b d next = refl
unless_both None (Some f) d next = refl
unless_both None None d next = refl

-- a side that is the written expression
abbrev whole_side : List ℕ → Draft → Written → Side
whole_side text d e = record { nodes = nodes_from 0 (meaning text d e); places = places e; roots = root 0 (meaning text d e) ∷ []; second = Absent }

both_trees : (text : List ℕ) (d : Draft) (k : ℕ) (left right : Written) (r : Relation) → define_by d k (tree_from (nodes_from 0 (meaning text d left)) (places left)) r (tree_from (nodes_from 0 (meaning text d right)) (places right)) ≡ with_definition text d k left r right
both_trees text d k left right r =
    ap (λ o. define_by d k o r (tree_from (nodes_from 0 (meaning text d right)) (places right))) (tree_from_is (tree_of text d left))
    ∙ ap (λ o. define_by d k (Some (tree_of text d left)) r o) (tree_from_is (tree_of text d right))

-- both sides, where the name's rules are kept
read_sides : (text : List ℕ) (d : Draft) (k : ℕ) (left right : Written) (r : Relation) → IsFormed left false → IsFormed right false → (rest : List Item) → all_steps text (with_equation (idle d) k) (written_items left ++ Relates r ∷ written_items right ++ Ends ∷ [] ++ rest) ≡ unless (expression_fault text d left) (unless (expression_fault text d right) (all_steps text (idle (with_definition text d k left r right)) rest))
read_sides text d k left right r h j rest =
    let p : Progress = with_equation (idle d) k in
    let q : Progress = record { draft = d; equation = k; left = whole_side text d left; relation = r; side = p.side } in
    ap (all_steps text p) (append_assoc (written_items left ++ Relates r ∷ written_items right) (Ends ∷ []) rest ∙ append_assoc (written_items left) (Relates r ∷ written_items right) (Ends ∷ rest))
    ∙ read_written text p left h [] [] [] (Relates r ∷ (written_items right ++ Ends ∷ rest))
    ∙ ap (unless (expression_fault text d left))
    (read_written text q right j [] [] [] (Ends ∷ rest)
    ∙ ap (λ e. unless (expression_fault text d right) (all_steps text (idle e) rest)) (both_trees text d k left right r))

perform_definition : (text : List ℕ) (d : Draft) (t : Lexeme) (left right : Written) (r : Relation) → IsFormed left false → IsFormed right false → (rest : List Item) → all_steps text (idle d) (statement_items (definition t left r right) ++ rest) ≡ go_on (define text d t left r right) (λ e. all_steps text (idle e) rest)
perform_definition text d t left right r h j rest = go (equation_of text d t) (definition_fault d t (equation_of text d t))
  where
    go : (o : Option ℕ) (f : Option ModelFault) → next_step (begun_by (idle d) o f) (λ q. all_steps text q (written_items left ++ Relates r ∷ written_items right ++ Ends ∷ [] ++ rest)) ≡ go_on (unless_fault (or_else f (or_else (expression_fault text d left) (expression_fault text d right))) (Ok (with_definition text d (or_zero o) left r right))) (λ e. all_steps text (idle e) rest)
    go o (Some f) = refl
    go o None =
        read_sides text d (or_zero o) left right r h j rest
        ∙ unless_both (expression_fault text d left) (expression_fault text d right) (with_definition text d (or_zero o) left r right) (λ e. all_steps text (idle e) rest)

-- ---- the objective
perform_solve : (text : List ℕ) (d : Draft) (t : Lexeme) (goal : Option (Sense × Lexeme)) (rest : List Item) → all_steps text (idle d) (statement_items (solve t goal) ++ rest) ≡ go_on (cond (is_model text d t) (aim text d goal) (Err (Undeclared t.place))) (λ e. all_steps text (idle e) rest)
perform_solve text d t None rest = one_step text d (solved text d t) rest
perform_solve text d t (Some (s, u)) rest = go (is_model text d t)
  where
    go : (b : Bool) → next_step (on_draft (idle d) (cond b (Ok (with_goal d None)) (Err (Undeclared t.place)))) (λ q. all_steps text q (Aims s u ∷ rest)) ≡ go_on (cond b (aim_at d s u (variable_of text d u)) (Err (Undeclared t.place))) (λ e. all_steps text (idle e) rest)
    go false = refl
    go true = aims (variable_of text d u)
      where
        aims : (o : Option ℕ) → next_step (on_draft (idle (with_goal d None)) (aim_at (with_goal d None) s u o)) (λ q. all_steps text q rest) ≡ go_on (aim_at d s u o) (λ e. all_steps text (idle e) rest)
        aims None = refl
        aims (Some k) = refl

-- ---- matches
perform_matches : (text : List ℕ) (d : Draft) (qs : List (Lexeme × Lexeme)) (rest : List Item) → all_steps text (idle d) (map (λ q. Match q.0 q.1) qs ++ rest) ≡ go_on (unless_fault (matches_fault text d qs) (Ok d)) (λ e. all_steps text (idle e) rest)
perform_matches text d [] rest = refl
perform_matches text d (q ∷ qs) rest = go (match_fault text d q) (perform_matches text d qs rest)
  where
    go : (o : Option ModelFault) → all_steps text (idle d) (map (λ q. Match q.0 q.1) qs ++ rest) ≡ go_on (unless_fault (matches_fault text d qs) (Ok d)) (λ e. all_steps text (idle e) rest) → next_step (begun_variables (idle d) o) (λ p. all_steps text p (map (λ q. Match q.0 q.1) qs ++ rest)) ≡ go_on (unless_fault (or_else o (matches_fault text d qs)) (Ok d)) (λ e. all_steps text (idle e) rest)
    go None h = h
    go (Some f) h = refl

perform_matched : (text : List ℕ) (d : Draft) (t : Lexeme) (qs : List (Lexeme × Lexeme)) (rest : List Item) → all_steps text (idle d) (statement_items (matched t qs) ++ rest) ≡ go_on (after text d (matched t qs)) (λ e. all_steps text (idle e) rest)
perform_matched text d t qs rest = one_step text d (declare_model text d t) (map (λ q. Match q.0 q.1) qs ++ rest) ∙ go (declare_model text d t)
  where
    go : (r : Step) → go_on r (λ e. all_steps text (idle e) (map (λ q. Match q.0 q.1) qs ++ rest)) ≡ go_on (and_then r (λ e. unless_fault (matches_fault text e qs) (Ok e))) (λ e. all_steps text (idle e) rest)
    go (Ok e) = perform_matches text e qs rest
    go (Err f) = refl

-- ---- statements
perform_statement : (text : List ℕ) (d : Draft) (s : Statement) → IsFormedStatement s → (rest : List Item) → all_steps text (idle d) (statement_items s ++ rest) ≡ go_on (after text d s) (λ e. all_steps text (idle e) rest)
perform_statement text d empty h rest = refl
perform_statement text d (variables DiscreteWord w names) h rest = refl
perform_statement text d (variables Free w names) h rest = each_step text (declare_variable text Free) (λ t. Variable Free t) (λ d t rest. refl) names d rest
perform_statement text d (variables Positive w names) h rest = each_step text (declare_variable text Positive) (λ t. Variable Positive t) (λ d t rest. refl) names d rest
perform_statement text d (variables Negative w names) h rest = each_step text (declare_variable text Negative) (λ t. Variable Negative t) (λ d t rest. refl) names d rest
perform_statement text d (equations names) h rest = each_step text (declare_equation text) (λ t. Equation t) (λ d t rest. refl) names d rest
perform_statement text d (definition t left r right) h rest = perform_definition text d t left right r h.0 h.1 rest
perform_statement text d (setting t a limit) h rest = one_step text d (set_by d t a limit (declared_as text d t)) rest
perform_statement text d (model t) h rest = one_step text d (declare_model text d t) rest
perform_statement text d (matched t qs) h rest = perform_matched text d t qs rest
perform_statement text d (solve t goal) h rest = perform_solve text d t goal rest

perform_statements : (text : List ℕ) (ss : List Statement) → AreFormed ss → (d : Draft) → all_steps text (idle d) (items_of ss) ≡ go_on (after_all text d ss) (λ e. Ok (idle e))
perform_statements text [] h d = refl
perform_statements text (s ∷ ss) h d = perform_statement text d s h.0 (items_of ss) ∙ go (after text d s) (λ e. perform_statements text ss h.1 e)
  where
    go : (r : Step) → ((e : Draft) → all_steps text (idle e) (items_of ss) ≡ go_on (after_all text e ss) (λ e. Ok (idle e))) → go_on r (λ e. all_steps text (idle e) (items_of ss)) ≡ go_on (and_then r (λ e. after_all text e ss)) (λ e. Ok (idle e))
    go (Ok e) ih = ih e
    go (Err f) ih = refl

-- ---- whole files
abbrev draft_of : Result Progress ModelFault → Step
draft_of (Ok p) = Ok p.draft
draft_of (Err f) = Err f

draft_of_idle : (r : Step) → draft_of (go_on r (λ e. Ok (idle e))) ≡ r
draft_of_idle (Ok d) = refl
draft_of_idle (Err f) = refl

-- what the statements do is what their items do
pub after_items : {k : Kind} (text : List ℕ) (ts : List Lexeme) (ss : List Statement) → IsFileOf k ts ss → after_all text nothing_yet ss ≡ draft_of (all_steps text (idle nothing_yet) (items_of ss))
after_items text ts ss h = sym (ap draft_of (perform_statements text ss (formed_file h) nothing_yet) ∙ draft_of_idle (after_all text nothing_yet ss))

-- statements with the same items do the same
pub same_drafts : {k : Kind} (text : List ℕ) (ts us : List Lexeme) (ss tt : List Statement) → IsFileOf k ts ss → IsFileOf k us tt → items_of ss ≡ items_of tt → after_all text nothing_yet ss ≡ after_all text nothing_yet tt
same_drafts text ts us ss tt h k e =
    after_items text ts ss h ∙ ap (λ is. draft_of (all_steps text (idle nothing_yet) is)) e ∙ sym (after_items text us tt k)

-- ---- the loop
pub drafts_ok : (text : List ℕ) (items : List Item) (p : Progress) → all_steps text (idle nothing_yet) items ≡ Ok p → (k : Kind) → DraftsAll k text items (Ok p.draft)
drafts_ok text items p e kind ts ss h k = after_items text ts ss h ∙ ap (λ is. draft_of (all_steps text (idle nothing_yet) is)) (sym k) ∙ ap draft_of e

pub drafts_err : (text : List ℕ) (items : List Item) (f : ModelFault) → all_steps text (idle nothing_yet) items ≡ Err f → (k : Kind) → DraftsAll k text items (Err f)
drafts_err text items f e kind = inr (λ ts ss h k. after_items text ts ss h ∙ ap (λ is. draft_of (all_steps text (idle nothing_yet) is)) (sym k) ∙ ap draft_of e)

-- the items behind one
items_behind : (is : List Item) (k : ℕ) → slice_range is k (length is) ≡ drop k is
items_behind is k = take_rest is k

steps-drop : (text : List ℕ) (p : Progress) (is : List Item) (k : ℕ) (i : Item) → k < length is → i ≡ get_or is k i → all_steps text p (drop k is) ≡ next_step (item_step text p i (slice_range is (k + 1) (length is))) (λ q. all_steps text q (drop (k + 1) is))
steps-drop text p is k i h e =
    at_drop_more (all_steps text p) is k i h
    ∙ ap (λ j. next_step (item_step text p j (drop (k + 1) is)) (λ q. all_steps text q (drop (k + 1) is))) (sym e)
    ∙ ap (λ l. next_step (item_step text p i l) (λ q. all_steps text q (drop (k + 1) is))) (sym (items_behind is (k + 1)))

pub steps_more : (text : List ℕ) (p q : Progress) (is : List Item) (k : ℕ) (i : Item) → k < length is → i ≡ get_or is k i → item_step text p i (slice_range is (k + 1) (length is)) ≡ Ok q → all_steps text p (drop k is) ≡ all_steps text q (drop (k + 1) is)
steps_more text p q is k i h e s = steps-drop text p is k i h e ∙ ap (λ r. next_step r (λ q. all_steps text q (drop (k + 1) is))) s

pub steps_err : (text : List ℕ) (p : Progress) (is : List Item) (k : ℕ) (i : Item) (f : ModelFault) → k < length is → i ≡ get_or is k i → item_step text p i (slice_range is (k + 1) (length is)) ≡ Err f → all_steps text p (drop k is) ≡ Err f
steps_err text p is k i f h e s = steps-drop text p is k i h e ∙ ap (λ r. next_step r (λ q. all_steps text q (drop (k + 1) is))) s

pub steps_all : (text : List ℕ) (p : Progress) (is : List Item) (k : ℕ) → length is ≤ k → all_steps text p (drop k is) ≡ Ok p
steps_all text p is k h = at_drop_all (all_steps text p) is k h

-- the fault of a step is that of the whole
pub drafts_fault : (text : List ℕ) (p : Progress) (is : List Item) (k : ℕ) (i : Item) (f : ModelFault) (r : Result Draft ModelFault) → IsErrAnd r (λ g. g ≡ f) → k < length is → i ≡ get_or is k i → (f ≡ NoMemory) ⊎ (item_step text p i (slice_range is (k + 1) (length is)) ≡ Err f) → all_steps text p (drop k is) ≡ all_steps text (idle nothing_yet) is → (kind : Kind) → DraftsAll kind text is r
drafts_fault text p is k i f (Ok d) g h e m s kind = absurd g
drafts_fault text p is k i f (Err z) g h e (inl m) s kind = inl (g ∙ m)
drafts_fault text p is k i f (Err z) g h e (inr m) s kind = drafts_err text is z (sym s ∙ steps_err text p is k i f h e m ∙ ap Err (sym g)) kind

pub ruleset performing = (steps_more, steps_all, drafts_ok)

-- ---- the end of a definition
pub ended_is : (p : Progress) (l r a b : Side) (left right : Option Tree) (d : Draft) → l ≡ p.left → r ≡ p.side → left ≡ tree_from l.nodes l.places → right ≡ tree_from r.nodes r.places → d ≡ define_by p.draft p.equation left p.relation right → a ≡ no_side → b ≡ no_side → ended p ≡ record { draft = d; equation = 0; left = a; relation = Nothing; side = b }
ended_is p l r a b left right d hl hr ha hb hd na nb =
    let f : left ≡ tree_from p.left.nodes p.left.places = ha ∙ ap (λ s. tree_from s.nodes s.places) hl in
    let g : right ≡ tree_from p.side.nodes p.side.places = hb ∙ ap (λ s. tree_from s.nodes s.places) hr in
    let e : define_by p.draft p.equation (tree_from p.left.nodes p.left.places) p.relation (tree_from p.side.nodes p.side.places) ≡ d = ap (λ o. define_by p.draft p.equation o p.relation (tree_from p.side.nodes p.side.places)) (sym f) ∙ ap (λ o. define_by p.draft p.equation left p.relation o) (sym g) ∙ sym hd in
    λ i. record { draft = e i; equation = 0; left = sym na i; relation = Nothing; side = sym nb i }
