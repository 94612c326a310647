-- Definitions as they are looked for are those of the parties.
use Rattle.std.proofs.Common.{◌≡◌, ◌⊎◌, inl, inr, ℕ, zero, suc, ◌+◌, ◌<◌, ◌≤◌, ◌≢◌, min, Bool, true, false, cond, ◌&&◌, ◌||◌, not, nat_eq, List, [], ◌∷◌, length, get_or, Option, Some, None, arith, refl, sym, ap, ap₂, subst, ◌∙◌}
use Rattle.std.specs.Prelude.{slice_get, filter}
use Rattle.std.specs.List.{list_any}
use Rattle.std.proofs.lemmas.Bool.{eq-eqb, ne_eqb, eqb-true, and_parts, and_from, cases_eq, cases_lt, false≢true}
use Rattle.emp_ast.specs.declared.tree.VarId.{VarId}
use Rattle.emp_ast.specs.declared.tree.EquId.{EquId}
use Rattle.emp_ast.specs.declared.model.Equation.{Equation}
use Rattle.emp_ast.specs.declared.model.Variable.{Variable}
use Rattle.emp_ast.specs.declared.model.Sense.{Sense}
use Rattle.emp_ast.specs.declared.model.Model.{Model}
use Rattle.emp_ast.specs.declared.annot.Block.{Block}
use Rattle.emp_ast.specs.declared.annot.Block.TheVariants.{Agent, Vi}
use Rattle.emp_ast.specs.declared.annot.Annot.{Annot}
use Rattle.emp_ast.specs.Expression.{expression_of}
use Rattle.emp_ast.specs.Occurrence.{equation_leaves, occurrences, is_summand, is_summand_of}
use Rattle.emp_ast.proofs.Given.{summand_leaf}
use Rattle.emp_ast.specs.Parties.{names_variable, names_equation, block_variables, block_equations, listed_equations, some_block_has, holders, has_no_bound, is_dual, is_implicit_equation, ties, can_define, has_alone, defines_by, defines, is_equality, block_objective, equations_by, functions, block_functions, is_constraint, block, leader, equations, all_equations}
use Rattle.emp_owner.specs.Rules.{constrained_among}
use Rattle.emp_owner.specs.NodeLeaves.{AreCounts}
use Rattle.emp_owner.specs.Finding.{may_be_defined, may_define, FindsAlone, FindsLeft, block_defines, IsBlockDefinition, AreAlone, is_entry, block_constrains}
use Rattle.emp_owner.specs.Settled.{IsDefinition, AreDefinitions}
use Rattle.emp_owner.proofs.Lists.{any_filter, block_has, get_is}

-- ---- a leaf once, by the counts
once_min : (n : ℕ) → nat_eq (min n 2) 1 ≡ nat_eq n 1
once_min n = go (cases_eq n 1)
  where
    go : (n ≡ 1) ⊎ (n ≢ 1) → nat_eq (min n 2) 1 ≡ nat_eq n 1
    go (inl e) = eq-eqb (min n 2) 1 (omega arith) ∙ sym (eq-eqb n 1 e)
    go (inr e) = ne_eqb (min n 2) 1 (λ h. e (omega arith)) ∙ sym (ne_eqb n 1 e)

there : (xs : List Variable) (w : ℕ) → has_no_bound (slice_get xs w) ≡ true → w < length xs
there [] w h = absurd (false≢true h)
there (x ∷ xs) zero h = omega arith
there (x ∷ xs) (suc w) h = let l = there xs w h in omega arith

pub once_by_counts : (m : Model) (counts : List ℕ) (w : ℕ) → AreCounts (length m.variables) m.equations counts → has_no_bound (slice_get m.variables w) ≡ true → nat_eq (get_or counts w 0) 1 ≡ nat_eq (occurrences w m.equations) 1
once_by_counts m counts w a h = sym (once_min (get_or counts w 0)) ∙ (ap (λ n. nat_eq n 1) (a.leaves w (there m.variables w h)) ∙ once_min (occurrences w m.equations))

-- ---- what can define is what may define what may be defined
and_shift : (a b c d : Bool) → (a && b && c && d) ≡ (a && b && (c && d))
and_shift true true c d = refl
and_shift true false c d = refl
and_shift false b c d = refl

pub can_by_may : (m : Model) (a : Annot) (e w : ℕ) → can_define m a e w ≡ (may_be_defined m a w && may_define m a w e)
can_by_may m a e w =
    let x = has_no_bound (slice_get m.variables w) && not (is_dual a w) in
    and_shift x (nat_eq (occurrences w m.equations) 1) (ties w (slice_get m.equations e)) (not (is_implicit_equation a e))

-- ---- the definition of a block
agent_some : (m : Model) (a : Annot) (b : Block) (w e : ℕ) → may_be_defined m a w ≡ true → names_equation (listed_equations b) e ≡ true → may_define m a w e ≡ true → nat_eq (holders a e) 1 ≡ true → (can_define m a e w && (names_equation (block_equations a b) e && nat_eq (holders a e) 1)) ≡ true
agent_some m a b w e may listed does alone =
    let has : names_equation (block_equations a b) e ≡ true = block_has a b e ∙ ap (λ x. x || list_any (λ i. nat_eq i.1.at e && names_variable (block_variables b) i.0.at) a.implicits) listed in
    and_from _ _ (can_by_may m a e w ∙ and_from _ _ may does) (and_from _ _ has alone)

-- an equation that the block has and does not list is that of an implicit variable
tied : (pairs : List (VarId × EquId)) (b : Block) (e : ℕ) → list_any (λ i. nat_eq i.1.at e && names_variable (block_variables b) i.0.at) pairs ≡ true → list_any (λ i. nat_eq i.1.at e) pairs ≡ true
tied [] b e h = h
tied (p ∷ pairs) b e h = go (nat_eq p.1.at e) refl h (tied pairs b e)
  where
    go : (x : Bool) → nat_eq p.1.at e ≡ x → ((nat_eq p.1.at e && names_variable (block_variables b) p.0.at) || list_any (λ i. nat_eq i.1.at e && names_variable (block_variables b) i.0.at) pairs) ≡ true → (list_any (λ i. nat_eq i.1.at e && names_variable (block_variables b) i.0.at) pairs ≡ true → list_any (λ i. nat_eq i.1.at e) pairs ≡ true) → (nat_eq p.1.at e || list_any (λ i. nat_eq i.1.at e) pairs) ≡ true
    go true is k rest = rw is refl
    go false is k rest = rw is (rest (subst (λ x. ((x && names_variable (block_variables b) p.0.at) || list_any (λ i. nat_eq i.1.at e && names_variable (block_variables b) i.0.at) pairs) ≡ true) is k))

not_true : (b : Bool) → (b ≡ true → ⊥) → b ≡ false
not_true true h = absurd (h refl)
not_true false h = refl

agent_none : (m : Model) (a : Annot) (b : Block) (w : ℕ) → ((e : ℕ) → names_equation (listed_equations b) e ≡ true → (may_define m a w e && nat_eq (holders a e) 1) ≡ false) → (e : ℕ) → (can_define m a e w && (names_equation (block_equations a b) e && nat_eq (holders a e) 1)) ≡ false
agent_none m a b w none e = not_true _ (λ h.
    let parts = and_parts (can_define m a e w) _ h in
    let has = and_parts (names_equation (block_equations a b) e) _ parts.1 in
    let does = (and_parts (may_be_defined m a w) (may_define m a w e) (sym (can_by_may m a e w) ∙ parts.0)).1 in
    go (names_equation (listed_equations b) e) refl has.0 has.1 does)
  where
    go : (x : Bool) → names_equation (listed_equations b) e ≡ x → names_equation (block_equations a b) e ≡ true → nat_eq (holders a e) 1 ≡ true → may_define m a w e ≡ true → ⊥
    go true listed has alone does = false≢true (sym (none e listed) ∙ and_from _ _ does alone)
    go false listed has alone does =
        let rest : list_any (λ i. nat_eq i.1.at e && names_variable (block_variables b) i.0.at) a.implicits ≡ true = sym (block_has a b e ∙ ap (λ x. x || list_any (λ i. nat_eq i.1.at e && names_variable (block_variables b) i.0.at) a.implicits) listed) ∙ has in
        let implicit : is_implicit_equation a e ≡ true = tied a.implicits b e rest in
        let no = (and_parts (ties w (slice_get m.equations e)) (not (is_implicit_equation a e)) does).1 in
        false≢true (ap not (sym implicit) ∙ no)

pub agent_found : (m : Model) (a : Annot) (s : Sense) (w : VarId) (vars : List VarId) (equs : List EquId) (o : Option EquId) → may_be_defined m a w.at ≡ true → FindsAlone m a w.at equs o → IsBlockDefinition m a (Agent s w vars equs) o
agent_found m a s w vars equs (Some e) may f = agent_some m a (Agent s w vars equs) w.at e.at may f.0 f.1 f.2
agent_found m a s w vars equs None may f = agent_none m a (Agent s w vars equs) w.at f

pub agent_not : (m : Model) (a : Annot) (s : Sense) (w : VarId) (vars : List VarId) (equs : List EquId) → may_be_defined m a w.at ≡ false → IsBlockDefinition m a (Agent s w vars equs) None
agent_not m a s w vars equs fails = λ e. ap (λ x. x && (names_equation (block_equations a (Agent s w vars equs)) e && nat_eq (holders a e) 1)) (can_by_may m a e w.at ∙ ap (λ x. x && may_define m a w.at e) fails)

pub block_defines_is : (m : Model) (a : Annot) (k : ℕ) (b : Block) (e : ℕ) → slice_get a.blocks k ≡ Some b → defines m a (block k) e ≡ block_defines m a b e
block_defines_is m a k (Agent s w vars equs) e at = ap (λ o. defines_by m a (block k) e (block_objective o)) at ∙ ap (λ o. can_define m a e w.at && (names_equation (equations_by a o) e && nat_eq (holders a e) 1)) at
block_defines_is m a k (Vi zeros pairs equs) e at = ap (λ o. defines_by m a (block k) e (block_objective o)) at

pub definition_at : (m : Model) (a : Annot) (k : ℕ) (b : Block) (o : Option EquId) → slice_get a.blocks k ≡ Some b → IsBlockDefinition m a b o → IsDefinition m a (block k) o
definition_at m a k b (Some e) at h = block_defines_is m a k b e.at at ∙ h
definition_at m a k b None at h = λ e. block_defines_is m a k b e at ∙ h e

-- ---- the definition of the leader
pub from_number : (e n : ℕ) (qs : List Equation) → names_equation (all_equations n qs) e ≡ true → e < n + length qs
from_number e n [] h = absurd (false≢true h)
from_number e n (q ∷ qs) h = go (cases_eq n e) h (from_number e (n + 1) qs)
  where
    go : (n ≡ e) ⊎ (n ≢ e) → (nat_eq n e || names_equation (all_equations (n + 1) qs) e) ≡ true → (names_equation (all_equations (n + 1) qs) e ≡ true → e < n + 1 + length qs) → e < n + suc (length qs)
    go (inl same) k rest = omega arith
    go (inr other) k rest = let l = rest (subst (λ x. (x || names_equation (all_equations (n + 1) qs) e) ≡ true) (ne_eqb n e other) k) in omega arith

pub number_there : (e n : ℕ) (qs : List Equation) → n ≤ e → e < n + length qs → names_equation (all_equations n qs) e ≡ true
number_there e n [] l h = absurd (omega arith)
number_there e n (q ∷ qs) l h = go (cases_eq n e) (number_there e (n + 1) qs)
  where
    go : (n ≡ e) ⊎ (n ≢ e) → (n + 1 ≤ e → e < n + 1 + length qs → names_equation (all_equations (n + 1) qs) e ≡ true) → (nat_eq n e || names_equation (all_equations (n + 1) qs) e) ≡ true
    go (inl same) rest = ap (λ x. x || names_equation (all_equations (n + 1) qs) e) (eq-eqb n e same)
    go (inr other) rest = ap (λ x. x || names_equation (all_equations (n + 1) qs) e) (ne_eqb n e other) ∙ rest (omega arith) (omega arith)

-- what names e among those that pass a test of the number
pub named_passing : (e : ℕ) (test : ℕ → Bool) (es : List EquId) → names_equation (filter (λ x. test x.at) es) e ≡ (names_equation es e && test e)
named_passing e test [] = refl
named_passing e test (x ∷ es) = any_filter (λ y. nat_eq y.at e) (λ y. test y.at) (x ∷ es) ∙ both (x ∷ es)
  where
    same : (n : ℕ) → (nat_eq n e && test n) ≡ (nat_eq n e && test e)
    same n = go (cases_eq n e)
      where
        go : (n ≡ e) ⊎ (n ≢ e) → (nat_eq n e && test n) ≡ (nat_eq n e && test e)
        go (inl h) = ap (λ k. nat_eq n e && test k) h
        go (inr h) = ap (λ b. b && test n) (ne_eqb n e h) ∙ sym (ap (λ b. b && test e) (ne_eqb n e h))

    apart : (a b c : Bool) → ((a && c) || (b && c)) ≡ ((a || b) && c)
    apart true true true = refl
    apart true true false = refl
    apart true false true = refl
    apart true false false = refl
    apart false b c = refl

    both : (ys : List EquId) → list_any (λ y. nat_eq y.at e && test y.at) ys ≡ (names_equation ys e && test e)
    both [] = refl
    both (y ∷ ys) = ap₂ (λ b c. b || c) (same y.at) (both ys) ∙ apart (nat_eq y.at e) (names_equation ys e) (test e)

pub leader_named : (m : Model) (a : Annot) (e : ℕ) → names_equation (equations m a leader) e ≡ (names_equation (all_equations 0 m.equations) e && not (some_block_has a e))
leader_named m a e = named_passing e (λ n. not (some_block_has a n)) (all_equations 0 m.equations)

pub leader_found : (m : Model) (a : Annot) (g : Sense × VarId) (o : Option EquId) → m.goal ≡ Some g → may_be_defined m a g.1.at ≡ true → FindsLeft m a g.1.at o → IsDefinition m a leader o
leader_found m a g (Some e) is may f =
    rw is (and_from _ _ (can_by_may m a e.at g.1.at ∙ and_from _ _ may f.1) (leader_named m a e.at ∙ and_from _ _ (number_there e.at 0 m.equations (omega arith) (omega (arith, f.0))) (ap not f.2)))
leader_found m a g None is may f = λ e. rw is (not_true _ (λ h.
    let parts = and_parts (can_define m a e g.1.at) _ h in
    let named = and_parts (names_equation (all_equations 0 m.equations) e) (not (some_block_has a e)) (sym (leader_named m a e) ∙ parts.1) in
    let within = from_number e 0 m.equations named.0 in
    let does = (and_parts (may_be_defined m a g.1.at) (may_define m a g.1.at e) (sym (can_by_may m a e g.1.at) ∙ parts.0)).1 in
    false≢true (sym (f e (omega arith)) ∙ and_from _ _ does named.1)))

pub leader_not : (m : Model) (a : Annot) (g : Sense × VarId) → m.goal ≡ Some g → may_be_defined m a g.1.at ≡ false → IsDefinition m a leader None
leader_not m a g is fails = λ e. rw is (ap (λ x. x && has_alone m a leader e) (can_by_may m a e g.1.at ∙ ap (λ x. x && may_define m a g.1.at e) fails))

pub leader_none : (m : Model) (a : Annot) → m.goal ≡ None → IsDefinition m a leader None
leader_none m a is = λ e. rw is refl

-- ---- one equation alone defines an objective
summand_leaves : (w : ℕ) (c : Equation) → is_summand_of w c ≡ true → 1 ≤ equation_leaves w c
summand_leaves w c h = go (is_summand w (expression_of c.left.nodes)) refl h
  where
    go : (b : Bool) → is_summand w (expression_of c.left.nodes) ≡ b → (is_summand w (expression_of c.left.nodes) || is_summand w (expression_of c.right.nodes)) ≡ true → 1 ≤ equation_leaves w c
    go true is k = let l = summand_leaf w (expression_of c.left.nodes) is in omega arith
    go false is k = let l = summand_leaf w (expression_of c.right.nodes) (subst (λ b. (b || is_summand w (expression_of c.right.nodes)) ≡ true) is k) in omega arith

pub tie_leaves : (w : ℕ) (q : Equation) → ties w (Some q) ≡ true → 1 ≤ equation_leaves w q
tie_leaves w q h = summand_leaves w q (and_parts (is_equality q.relation) (is_summand_of w q) h).1

one_tie : (w : ℕ) (qs : List Equation) (e : ℕ) → ties w (slice_get qs e) ≡ true → 1 ≤ occurrences w qs
one_tie w [] e h = absurd (false≢true h)
one_tie w (q ∷ qs) zero h = let l = tie_leaves w q h in omega arith
one_tie w (q ∷ qs) (suc e) h = let l = one_tie w qs e h in omega arith

pub two_ties : (w : ℕ) (qs : List Equation) (d e : ℕ) → d ≢ e → ties w (slice_get qs d) ≡ true → ties w (slice_get qs e) ≡ true → 2 ≤ occurrences w qs
two_ties w [] d e n h k = absurd (false≢true h)
two_ties w (q ∷ qs) zero zero n h k = absurd (n refl)
two_ties w (q ∷ qs) zero (suc e) n h k = let l = tie_leaves w q h in let j = one_tie w qs e k in omega arith
two_ties w (q ∷ qs) (suc d) zero n h k = let l = tie_leaves w q k in let j = one_tie w qs d h in omega arith
two_ties w (q ∷ qs) (suc d) (suc e) n h k = let l = two_ties w qs d e (λ s. n (ap suc s)) h k in omega arith

pub can_tie : (m : Model) (a : Annot) (e w : ℕ) → can_define m a e w ≡ true → (occurrences w m.equations ≡ 1) × (ties w (slice_get m.equations e) ≡ true)
can_tie m a e w h =
    let both = and_parts (may_be_defined m a w) (may_define m a w e) (sym (can_by_may m a e w) ∙ h) in
    let one = and_parts (has_no_bound (slice_get m.variables w) && not (is_dual a w)) (nat_eq (occurrences w m.equations) 1) both.0 in
    (eqb-true (occurrences w m.equations) 1 one.1, (and_parts (ties w (slice_get m.equations e)) (not (is_implicit_equation a e)) both.1).0)

one_defines : (m : Model) (a : Annot) (b : Block) (d e : ℕ) → block_defines m a b d ≡ true → block_defines m a b e ≡ true → d ≡ e
one_defines m a (Agent s w vars equs) d e h k = go (cases_eq d e)
  where
    go : (d ≡ e) ⊎ (d ≢ e) → d ≡ e
    go (inl same) = same
    go (inr other) =
        let x = can_tie m a d w.at (and_parts (can_define m a d w.at) _ h).0 in
        let y = can_tie m a e w.at (and_parts (can_define m a e w.at) _ k).0 in
        let l = two_ties w.at m.equations d e other x.1 y.1 in
        absurd (omega (arith, x.0))
one_defines m a (Vi zeros pairs equs) d e h k = absurd (false≢true h)

entry_is : (m : Model) (a : Annot) (b : Block) (d : Option EquId) (e : ℕ) → IsBlockDefinition m a b d → is_entry d e ≡ block_defines m a b e
entry_is m a b (Some d) e h = go (cases_eq d.at e)
  where
    go : (d.at ≡ e) ⊎ (d.at ≢ e) → nat_eq d.at e ≡ block_defines m a b e
    go (inl same) = eq-eqb d.at e same ∙ sym (subst (λ k. block_defines m a b k ≡ true) same h)
    go (inr other) = ne_eqb d.at e other ∙ sym (not_true (block_defines m a b e) (λ k. other (one_defines m a b d.at e h k)))
entry_is m a b None e h = sym (h e)

block_definition_at : (m : Model) (a : Annot) (k : ℕ) (b : Block) (o : Option EquId) → slice_get a.blocks k ≡ Some b → IsDefinition m a (block k) o → IsBlockDefinition m a b o
block_definition_at m a k b (Some e) at h = sym (block_defines_is m a k b e.at at) ∙ h
block_definition_at m a k b None at h = λ e. sym (block_defines_is m a k b e at) ∙ h e

functions_at : (a : Annot) (k : ℕ) (b : Block) → slice_get a.blocks k ≡ Some b → block_functions a (block k) ≡ functions b
functions_at a k b at = rw at refl

-- ---- constraints of a block, by its definition
pub constrains_is : (m : Model) (a : Annot) (k : ℕ) (b : Block) (d : Option EquId) (e : ℕ) → slice_get a.blocks k ≡ Some b → IsDefinition m a (block k) d → block_constrains a b d e ≡ is_constraint m a (block k) e
constrains_is m a k b d e at h =
    let one : is_entry d e ≡ defines m a (block k) e = entry_is m a b d e (block_definition_at m a k b d at h) ∙ sym (block_defines_is m a k b e at) in
    ap₂ (λ x y. x && not y && not (names_equation (functions b) e)) (ap (λ o. names_equation (equations_by a o) e) (sym at)) one
    ∙ ap (λ fs. names_equation (equations m a (block k)) e && not (defines m a (block k) e) && not (names_equation fs e)) (sym (functions_at a k b at))

pub constrains_at : (m : Model) (a : Annot) (list : List (Option EquId)) (k : ℕ) (b : Block) (d : Option EquId) (e : ℕ) → AreDefinitions m a list → k < length a.blocks → b ≡ get_or a.blocks k b → d ≡ get_or list k d → block_constrains a b d e ≡ is_constraint m a (block k) e
constrains_at m a list k b d e are l is_b is_d = constrains_is m a k b d e (get_is a.blocks k b l is_b) (are.defined k d (get_is list k d (omega (arith, are.blocks)) is_d))

pub constrained_more : (m : Model) (a : Annot) (e k : ℕ) → constrained_among m a e (k + 1) ≡ constrained_among m a e k + cond (is_constraint m a (block k) e) 1 0
constrained_more m a e k = let step : k + 1 ≡ suc k = omega arith in ap (constrained_among m a e) step

-- ---- equations that one block alone has, by the table
entry_of : (list : List Bool) (e : ℕ) → e < length list → slice_get list e ≡ Some (get_or list e false)
entry_of [] e l = absurd (omega arith)
entry_of (b ∷ list) zero l = refl
entry_of (b ∷ list) (suc e) l = entry_of list e (omega arith)

entry_past : (list : List Bool) (e : ℕ) → length list ≤ e → get_or list e false ≡ false
entry_past [] e l = refl
entry_past (b ∷ list) zero l = absurd (omega arith)
entry_past (b ∷ list) (suc e) l = entry_past list e (omega arith)

no_equation : (w : ℕ) (qs : List Equation) (e : ℕ) → length qs ≤ e → ties w (slice_get qs e) ≡ false
no_equation w [] e l = refl
no_equation w (q ∷ qs) zero l = absurd (omega arith)
no_equation w (q ∷ qs) (suc e) l = no_equation w qs e (omega arith)

and_false : (b : Bool) → (b && false) ≡ false
and_false true = refl
and_false false = refl

and_true : (b : Bool) → (b && true) ≡ b
and_true true = refl
and_true false = refl

pub alone_is : (m : Model) (a : Annot) (list : List Bool) (w e : ℕ) → AreAlone m a list → get_or list e false ≡ true → may_define m a w e ≡ (may_define m a w e && nat_eq (holders a e) 1)
alone_is m a list w e are h = go (cases_lt e (length list))
  where
    go : (e < length list) ⊎ (length list ≤ e) → may_define m a w e ≡ (may_define m a w e && nat_eq (holders a e) 1)
    go (inl l) = sym (ap (λ b. may_define m a w e && b) (sym (are.alone e (get_or list e false) (entry_of list e l)) ∙ h) ∙ and_true (may_define m a w e))
    go (inr l) = absurd (false≢true (sym (entry_past list e l) ∙ h))

pub alone_not : (m : Model) (a : Annot) (list : List Bool) (w e : ℕ) → AreAlone m a list → get_or list e false ≡ false → (may_define m a w e && nat_eq (holders a e) 1) ≡ false
alone_not m a list w e are h = go (cases_lt e (length list))
  where
    go : (e < length list) ⊎ (length list ≤ e) → (may_define m a w e && nat_eq (holders a e) 1) ≡ false
    go (inl l) = ap (λ b. may_define m a w e && b) (sym (are.alone e (get_or list e false) (entry_of list e l)) ∙ h) ∙ and_false (may_define m a w e)
    go (inr l) = ap (λ b. b && not (is_implicit_equation a e) && nat_eq (holders a e) 1) (no_equation w m.equations e (omega (arith, are.count)))

pub ruleset knowing = (alone_is, alone_not)

pub ruleset counting = (once_by_counts)

pub ruleset defining = (agent_found, agent_not, leader_found, leader_not, leader_none)
