-- The equations that define objectives: each is one party's, no constraint and no function, and its objective is a leaf of no other.
use Rattle.std.proofs.Common.{◌≡◌, ◌⊎◌, inl, inr, ℕ, zero, suc, ◌+◌, ◌<◌, ◌≤◌, ℤ, pos, neg_ℤ, ◌*ℤ◌, Bool, true, false, cond, not, ◌&&◌, ◌||◌, nat_eq, List, [], ◌∷◌, ◌++◌, map, length, Option, Some, None, arith, refl, sym, ap, subst, ◌∙◌}
use Rattle.std.specs.Prelude.{slice_get, filter}
use Rattle.std.specs.List.{list_any, count_by}
use Rattle.std.proofs.lemmas.Bool.{eqb-true, eq-eqb, ne_eqb, not-true, and_parts, or_cases, or_left, false≢true, cases_Bool, cases_eq}
use Rattle.std.proofs.lemmas.Option.{same_Some}
use Rattle.std.proofs.lemmas.List.Folds.{list_any-append}
use Rattle.std.proofs.lemmas.List.Sums.{length-filter}
use lib.IntN.{zero-*ℤ, *ℤ-zero}
use Rattle.emp_ast.specs.declared.tree.VarId.{VarId}
use Rattle.emp_ast.specs.declared.tree.EquId.{EquId}
use Rattle.emp_ast.specs.declared.model.Equation.{Equation}
use Rattle.emp_ast.specs.declared.model.Sense.{Sense}
use Rattle.emp_ast.specs.declared.model.Sense.TheVariants.{Min, Max}
use Rattle.emp_ast.specs.declared.model.Model.{Model}
use Rattle.emp_ast.specs.declared.annot.Block.{Block}
use Rattle.emp_ast.specs.declared.annot.Block.TheVariants.{Agent, Vi}
use Rattle.emp_ast.specs.declared.annot.Annot.{Annot}
use Rattle.emp_ast.specs.Occurrence.{equation_leaves, occurrences, is_summand_of}
use Rattle.emp_ast.specs.Parties.{Party, leader, block, names_variable, names_equation, functions, block_equations, block_variables, block_owns, some_block_owns, is_goal, is_dual, owns, some_block_has, equations_by, equations, all_equations, holders, has_alone, block_objective, objective, has_no_bound, is_equality, is_implicit_equation, ties, can_define, defines_by, defines, is_defined_by, is_defined_of, some_block_defines, is_defined, block_functions, is_constraint}
use Rattle.emp_ast.proofs.Given.{summand_leaf}
use Rattle.emp_owner.proofs.Lists.{any_filter}
use Rattle.emp_form.specs.Form.{Form, variable_form, negated_form}
use Rattle.emp_form.specs.Expansion.{form}
use Rattle.emp_game.specs.Game.{names}
use Rattle.emp_agents.specs.Given.{without, times_form, HasTerm, difference, solved_form, given_form, DefinitionGives}
use Rattle.emp_agents.proofs.Terms.{no_linear, absent}
use Rattle.emp_agents.proofs.Given.{objective_stands_once, given_form_is}
use Rattle.emp_problem.specs.Left.{left, signed}
use Rattle.emp_owner.specs.Rules.{is_function}
use Rattle.emp_problem.specs.Class.{some_block_constrains, is_affine, IsClassFile}
use Rattle.emp_meaning.specs.Ties.{IsParty}
use Rattle.emp_meaning.proofs.TieLists.{any_at, any_source, count_two}
use Rattle.emp_meaning.proofs.Places.{left_named, some_defines, defined_objective, agent_at, own_defined}
use Rattle.emp_meaning.proofs.TieForms.{StandsNot}

-- ---- whose an equation is
record HolderAt (a : Annot) (i e : ℕ) : Type 0 where
  pub holder : Block
  pub at : slice_get a.blocks i ≡ Some holder
  pub has : names_equation (block_equations a holder) e ≡ true

holder_at : (m : Model) (a : Annot) (i e : ℕ) → names_equation (equations m a (block i)) e ≡ true → HolderAt a i e
holder_at m a i e h = go (slice_get a.blocks i) refl h
  where
    go : (o : Option Block) → slice_get a.blocks i ≡ o → names_equation (equations_by a o) e ≡ true → HolderAt a i e
    go (Some b) s h = record { holder = b; at = s; has = h }
    go None s h = absurd (false≢true h)

holder_some : (m : Model) (a : Annot) (i e : ℕ) → names_equation (equations m a (block i)) e ≡ true → some_block_has a e ≡ true
holder_some m a i e h = let o = holder_at m a i e h in any_at (λ b. names_equation (block_equations a b) e) a.blocks i o.holder o.at o.has

leader_none : (m : Model) (a : Annot) (e : ℕ) → names_equation (equations m a leader) e ≡ true → some_block_has a e ≡ false
leader_none m a e h =
    let s = any_source (λ (x : EquId). nat_eq x.at e && not (some_block_has a x.at)) (all_equations 0 m.equations) (sym (any_filter (λ (x : EquId). nat_eq x.at e) (λ (x : EquId). not (some_block_has a x.at)) (all_equations 0 m.equations)) ∙ h) in
    let parts = and_parts (nat_eq s.entry.at e) (not (some_block_has a s.entry.at)) s.passes in
    ap (some_block_has a) (sym (eqb-true s.entry.at e parts.0)) ∙ not-true (some_block_has a s.entry.at) parts.1

alone_names : (m : Model) (a : Annot) (k : Party) (e : ℕ) → has_alone m a k e ≡ true → names_equation (equations m a k) e ≡ true
alone_names m a leader e h = h
alone_names m a (block k) e h = (and_parts (names_equation (equations m a (block k)) e) (nat_eq (holders a e) 1) h).0

pub one_holder : (m : Model) (a : Annot) (k p : Party) (e : ℕ) → has_alone m a k e ≡ true → names_equation (equations m a p) e ≡ true → p ≡ k
one_holder m a leader leader e h s = refl
one_holder m a leader (block j) e h s = absurd (false≢true (sym (leader_none m a e h) ∙ holder_some m a j e s))
one_holder m a (block i) leader e h s = absurd (false≢true (sym (leader_none m a e s) ∙ holder_some m a i e (alone_names m a (block i) e h)))
one_holder m a (block i) (block j) e h s = go (cases_eq j i)
  where
    go : (j ≡ i) ⊎ (j ≡ i → ⊥) → block j ≡ block i
    go (inl same) = ap block same
    go (inr ne) =
        let parts = and_parts (names_equation (equations m a (block i)) e) (nat_eq (holders a e) 1) h in
        let one : holders a e ≡ 1 = eqb-true (holders a e) 1 parts.1 in
        let x = holder_at m a j e s in
        let y = holder_at m a i e parts.0 in
        let two : 2 ≤ count_by (λ b. names_equation (block_equations a b) e) a.blocks = count_two (λ b. names_equation (block_equations a b) e) a.blocks j i x.holder y.holder ne x.at y.at x.has y.has in
        let count : holders a e ≡ count_by (λ b. names_equation (block_equations a b) e) a.blocks = length-filter (λ b. names_equation (block_equations a b) e) a.blocks in
        absurd (omega (arith, one, two, count))

-- ---- an equation that defines
pub record Defining (m : Model) (a : Annot) (k : Party) (v e : ℕ) : Type 0 where
  pub equation : Equation
  pub at : slice_get m.equations e ≡ Some equation
  pub is : defines m a k e ≡ true
  pub occurs : occurrences v m.equations ≡ 1
  pub alone : has_alone m a k e ≡ true
  pub leaf : 1 ≤ equation_leaves v equation

can_parts : (m : Model) (a : Annot) (e w : ℕ) → can_define m a e w ≡ true → (occurrences w m.equations ≡ 1) × (ties w (slice_get m.equations e) ≡ true)
can_parts m a e w h =
    let free = has_no_bound (slice_get m.variables w) && not (is_dual a w) in
    let once = nat_eq (occurrences w m.equations) 1 in
    let tied = ties w (slice_get m.equations e) in
    let first = and_parts (free && once && tied) (not (is_implicit_equation a e)) h in
    let second = and_parts (free && once) tied first.0 in
    (eqb-true (occurrences w m.equations) 1 (and_parts free once second.0).1, second.1)

pub defining : (m : Model) (a : Annot) (k : Party) (w : Sense × ℕ) (e : ℕ) → objective m a k ≡ Some w → defines m a k e ≡ true → Defining m a k w.1 e
defining m a k w e is d = go (slice_get m.equations e) refl
  where
    by : can_define m a e w.1 && has_alone m a k e ≡ true
    by = subst (λ o. defines_by m a k e o ≡ true) is d

    parts : (can_define m a e w.1 ≡ true) × (has_alone m a k e ≡ true)
    parts = and_parts (can_define m a e w.1) (has_alone m a k e) by

    tied : (occurrences w.1 m.equations ≡ 1) × (ties w.1 (slice_get m.equations e) ≡ true)
    tied = can_parts m a e w.1 parts.0

    go : (o : Option Equation) → slice_get m.equations e ≡ o → Defining m a k w.1 e
    go (Some q) s =
        let t = and_parts (is_equality q.relation) (is_summand_of w.1 q) (subst (λ x. ties w.1 x ≡ true) s tied.1) in
        record { equation = q; at = s; is = d; occurs = tied.0; alone = parts.1; leaf = summand_leaf w.1 (difference q) t.1 }
    go None s = absurd (false≢true (subst (λ x. ties w.1 x ≡ true) s tied.1))

leaves_within : (w : ℕ) (qs : List Equation) (e : ℕ) (c : Equation) → slice_get qs e ≡ Some c → equation_leaves w c ≤ occurrences w qs
leaves_within w [] e c at = cc
leaves_within w (q ∷ qs) zero c at = let same : q ≡ c = cc in subst (λ d. equation_leaves w d ≤ equation_leaves w q + occurrences w qs) same (omega arith)
leaves_within w (q ∷ qs) (suc e) c at = let l = leaves_within w qs e c at in omega arith

-- a variable that is a leaf once is a leaf of no second equation
other_leaves : (w : ℕ) (qs : List Equation) → occurrences w qs ≤ 1 → (e f : ℕ) (c d : Equation) → slice_get qs e ≡ Some c → slice_get qs f ≡ Some d → (e ≡ f → ⊥) → 1 ≤ equation_leaves w c → equation_leaves w d ≤ 0
other_leaves w [] h e f c d at there ne l = cc
other_leaves w (q ∷ qs) h zero zero c d at there ne l = absurd (ne refl)
other_leaves w (q ∷ qs) h zero (suc f) c d at there ne l =
    let same : c ≡ q = cc in
    let here : 1 ≤ equation_leaves w q = subst (λ x. 1 ≤ equation_leaves w x) same l in
    let rest = leaves_within w qs f d there in
    omega arith
other_leaves w (q ∷ qs) h (suc e) zero c d at there ne l =
    let same : q ≡ d = cc in
    let rest = leaves_within w qs e c at in
    let here : equation_leaves w q ≤ 0 = omega arith in
    subst (λ x. equation_leaves w x ≤ 0) same here
other_leaves w (q ∷ qs) h (suc e) (suc f) c d at there ne l = other_leaves w qs (omega arith) e f c d at there (λ s. ne (ap suc s)) l

-- ---- the party that defines a variable
pub record DefinedBy (m : Model) (a : Annot) (v : ℕ) : Type 0 where
  pub party : Party
  pub is_party : IsParty a party
  pub goal : Sense × ℕ
  pub is : objective m a party ≡ Some goal
  pub same : goal.1 ≡ v
  pub number : ℕ
  pub defining : Defining m a party goal.1 number

pub party_defined : (m : Model) (a : Annot) (k : Party) (v : ℕ) → IsParty a k → is_defined_of m a k v ≡ true → DefinedBy m a v
party_defined m a k v party h =
    let o = defined_objective m a k v h in
    let s = any_source (λ (x : EquId). defines m a k x.at) (equations m a k) o.some in
    record { party = k; is_party = party; goal = o.goal; is = o.is; same = o.same; number = s.entry.at; defining = defining m a k o.goal s.entry.at o.is s.passes }

pub defined_by : (m : Model) (a : Annot) (v : ℕ) → is_defined m a v ≡ true → DefinedBy m a v
defined_by m a v h = go (or_cases (some_block_defines m a v (length a.blocks)) (a.bilevel && is_defined_of m a leader v) h)
  where
    go : (some_block_defines m a v (length a.blocks) ≡ true) ⊎ (a.bilevel && is_defined_of m a leader v ≡ true) → DefinedBy m a v
    go (inl e) = let b = some_defines m a v (length a.blocks) e in party_defined m a (block b.number) v b.below b.is
    go (inr e) = let parts = and_parts a.bilevel (is_defined_of m a leader v) e in party_defined m a leader v parts.0 parts.1

-- where it defines none, no equation defines its objective
pub none_defines : (m : Model) (a : Annot) (k : Party) (w : Sense × ℕ) → objective m a k ≡ Some w → is_defined_of m a k w.1 ≡ false → (e : ℕ) → defines m a k e ≡ true → ⊥
none_defines m a k w is none e d =
    let h = defining m a k w e is d in
    let s = any_source (λ (x : EquId). nat_eq x.at e) (equations m a k) (alone_names m a k e h.alone) in
    let same : s.entry.at ≡ e = eqb-true s.entry.at e s.passes in
    let some : list_any (λ (x : EquId). defines m a k x.at) (equations m a k) ≡ true = any_at (λ (x : EquId). defines m a k x.at) (equations m a k) s.index s.entry s.at (ap (defines m a k) same ∙ d) in
    false≢true (sym none ∙ (ap (is_defined_by m a k w.1) is ∙ (ap (λ b. b && list_any (λ (x : EquId). defines m a k x.at) (equations m a k)) (eq-eqb w.1 w.1 refl) ∙ some)))

-- ---- constraints and functions define nothing
function_in : (a : Annot) (b : Block) (e : ℕ) → names_equation (functions b) e ≡ true → names_equation (block_equations a b) e ≡ true
function_in a (Agent sense target vars equs) e h = absurd (false≢true h)
function_in a (Vi zeros pairs equs) e h =
    let test = λ (x : EquId). nat_eq x.at e in
    let tied = map (λ (i : VarId × EquId). i.1) (filter (λ (i : VarId × EquId). names_variable (block_variables (Vi zeros pairs equs)) i.0.at) a.implicits) in
    let listed = map (λ (q : EquId × VarId). q.0) pairs in
    list_any-append test (listed ++ equs) tied
    ∙ or_left (list_any test (listed ++ equs)) (list_any test tied) (list_any-append test listed equs ∙ or_left (list_any test listed) (list_any test equs) h)

some_constrains : (m : Model) (a : Annot) (e n : ℕ) → some_block_constrains m a e n ≡ true → (i : ℕ) × (is_constraint m a (block i) e ≡ true)
some_constrains m a e zero h = absurd (false≢true h)
some_constrains m a e (suc n) h = go (or_cases (is_constraint m a (block n) e) (some_block_constrains m a e n) h) (λ r. some_constrains m a e n r)
  where
    go : (is_constraint m a (block n) e ≡ true) ⊎ (some_block_constrains m a e n ≡ true) → (some_block_constrains m a e n ≡ true → (i : ℕ) × (is_constraint m a (block i) e ≡ true)) → (i : ℕ) × (is_constraint m a (block i) e ≡ true)
    go (inl s) rest = (n, s)
    go (inr s) rest = rest s

constraint_not : (m : Model) (a : Annot) (k p : Party) (w : Sense × ℕ) (e : ℕ) → objective m a k ≡ Some w → defines m a k e ≡ true → is_constraint m a p e ≡ true → ⊥
constraint_not m a k p w e is d h =
    let outer = and_parts (names_equation (equations m a p) e && not (defines m a p e)) (not (names_equation (block_functions a p) e)) h in
    let inner = and_parts (names_equation (equations m a p) e) (not (defines m a p e)) outer.0 in
    let same : p ≡ k = one_holder m a k p e (defining m a k w e is d).alone inner.0 in
    false≢true (sym (not-true (defines m a p e) inner.1) ∙ (ap (λ x. defines m a x e) same ∙ d))

function_not : (m : Model) (a : Annot) (k : Party) (w : Sense × ℕ) (e : ℕ) → objective m a k ≡ Some w → defines m a k e ≡ true → is_function a e ≡ true → ⊥
function_not m a k w e is d h =
    let s = any_source (λ b. names_equation (functions b) e) a.blocks h in
    let has : names_equation (equations m a (block s.index)) e ≡ true = ap (λ o. names_equation (equations_by a o) e) s.at ∙ function_in a s.entry e s.passes in
    let same : block s.index ≡ k = one_holder m a k (block s.index) e (defining m a k w e is d).alone has in
    let goal : block_objective (Some s.entry) ≡ Some w = ap block_objective (sym s.at) ∙ (ap (objective m a) same ∙ is) in
    go s.entry s.passes goal
  where
    go : (b : Block) → names_equation (functions b) e ≡ true → block_objective (Some b) ≡ Some w → ⊥
    go (Agent sense target vars equs) n g = false≢true n
    go (Vi zeros pairs equs) n g = cc

pub affine_not : (m : Model) (a : Annot) (k : Party) (w : Sense × ℕ) (e : ℕ) → objective m a k ≡ Some w → is_affine m a e ≡ true → defines m a k e ≡ true → ⊥
affine_not m a k w e is h d = go (or_cases (some_block_constrains m a e (length a.blocks)) ((a.bilevel && is_constraint m a leader e) || is_function a e) h)
  where
    rest : (a.bilevel && is_constraint m a leader e ≡ true) ⊎ (is_function a e ≡ true) → ⊥
    rest (inl s) = constraint_not m a k leader w e is d (and_parts a.bilevel (is_constraint m a leader e) s).1
    rest (inr s) = function_not m a k w e is d s

    go : (some_block_constrains m a e (length a.blocks) ≡ true) ⊎ ((a.bilevel && is_constraint m a leader e) || is_function a e ≡ true) → ⊥
    go (inl s) = let c = some_constrains m a e (length a.blocks) s in constraint_not m a k (block c.0) w e is d c.1
    go (inr s) = rest (or_cases (a.bilevel && is_constraint m a leader e) (is_function a e) s)

-- ---- defined variables stand in no polynomial of the game
pub unnamed_defined : (m : Model) (a : Annot) (v : ℕ) → v < length m.variables → names (left m a) v ≡ false → is_defined m a v ≡ true
unnamed_defined m a v within h = go (cases_Bool (is_defined m a v))
  where
    go : (is_defined m a v ≡ true) ⊎ (is_defined m a v ≡ false) → is_defined m a v ≡ true
    go (inl e) = e
    go (inr e) = absurd (false≢true (sym h ∙ left_named m a v within e))

-- in an equation that does not define it
absent_from : (m : Model) (a : Annot) (v e : ℕ) (q : Equation) → slice_get m.equations e ≡ Some q → (d : DefinedBy m a v) → (d.number ≡ e → ⊥) → HasTerm v (pos 0) (form (difference q))
absent_from m a v e q at d ne =
    let h = d.defining in
    let occurs : occurrences d.goal.1 m.equations ≤ 1 = (let o = h.occurs in omega (arith, o)) in
    let none : equation_leaves d.goal.1 q ≤ 0 = other_leaves d.goal.1 m.equations occurs d.number e h.equation q h.at at ne h.leaf in
    absent v (difference q) (subst (λ x. equation_leaves x q ≤ 0) d.same none)

pub affine_without : (m : Model) (a : Annot) (e : ℕ) (q : Equation) → slice_get m.equations e ≡ Some q → is_affine m a e ≡ true → StandsNot (length m.variables) (left m a) (form (difference q))
affine_without m a e q at affine v within h =
    let d = defined_by m a v (unnamed_defined m a v within h) in
    absent_from m a v e q at d (λ s. affine_not m a d.party d.goal e d.is affine (subst (λ i. defines m a d.party i ≡ true) s d.defining.is))

none_solved : (v w : ℕ) (s : ℤ) (f : Form) → HasTerm v (pos 0) f → HasTerm v (pos 0) (times_form s (without w f))
none_solved v w s f h = record {
  linear = ap (λ z. s *ℤ z) (go (nat_eq v w)) ∙ (*ℤ-zero s ∙ sym (zero-*ℤ f.den));
  first = λ j. ap (λ z. s *ℤ z) (h.first j) ∙ *ℤ-zero s;
  second = λ i. ap (λ z. s *ℤ z) (h.second i) ∙ *ℤ-zero s;
}
  where
    go : (b : Bool) → cond b (pos 0) (f.linear v) ≡ pos 0
    go true = refl
    go false = no_linear v f h

none_variable : (v w : ℕ) → (v ≡ w → ⊥) → HasTerm v (pos 0) (variable_form w)
none_variable v w ne = record { linear = ap (λ (b : Bool). cond b (pos 1) (pos 0)) (ne_eqb v w ne); first = λ j. refl; second = λ i. refl }

none_negated : (v : ℕ) (f : Form) → HasTerm v (pos 0) f → HasTerm v (pos 0) (negated_form f)
none_negated v f h = record {
  linear = ap neg_ℤ (no_linear v f h) ∙ sym (zero-*ℤ f.den);
  first = λ j. ap neg_ℤ (h.first j);
  second = λ i. ap neg_ℤ (h.second i);
}

objective_owned : (m : Model) (a : Annot) (k : Party) (w : Sense × ℕ) → objective m a k ≡ Some w → owns m a k w.1 ≡ true
objective_owned m a leader w is = or_left (is_goal m w.1 || names_variable a.leader w.1) (not (some_block_owns a w.1) && not (is_dual a w.1)) (or_left (is_goal m w.1) (names_variable a.leader w.1) (go m.goal refl))
  where
    go : (g : Option (Sense × VarId)) → m.goal ≡ g → is_goal m w.1 ≡ true
    go (Some g) e = grind arith
    go None e = cc
objective_owned m a (block k) w is = let o = agent_at a k w is in ap (λ b. block_owns b w.1) o.at ∙ o.owned

pub given_without : (m : Model) (a : Annot) (k : Party) (w : Sense × ℕ) → IsClassFile m a → IsParty a k → objective m a k ≡ Some w → StandsNot (length m.variables) (left m a) (given_form m a k)
given_without m a k w class party is v within h = go (cases_Bool (is_defined_of m a k w.1))
  where
    defined : is_defined m a v ≡ true
    defined = unnamed_defined m a v within h

    forms : DefinitionGives m a k w.1
    forms = given_form_is m a k w is

    here : (e : ℕ) → Defining m a k w.1 e → HasTerm v (pos 0) (given_form m a k)
    here e d = subst (λ f. HasTerm v (pos 0) f) (sym (forms.defined e d.equation d.at d.is)) (by (cases_eq v w.1))
      where
        by : (v ≡ w.1) ⊎ (v ≡ w.1 → ⊥) → HasTerm v (pos 0) (solved_form w.1 d.equation)
        by (inl s) = subst (λ x. HasTerm x (pos 0) (solved_form w.1 d.equation)) (sym s) (objective_stands_once m a k w is e d.equation d.at d.is).gone
        by (inr ne) =
            let o = defined_by m a v defined in
            let other : o.number ≡ e → ⊥ = λ s. (
            let one : o.party ≡ k = one_holder m a k o.party e d.alone (subst (λ i. names_equation (equations m a o.party) i ≡ true) s (alone_names m a o.party o.number o.defining.alone)) in
            ne (sym o.same ∙ ap (λ (g : Sense × ℕ). g.1) (same_Some o.goal w (sym o.is ∙ (ap (objective m a) one ∙ is))))) in
            none_solved v w.1 _ (form (difference d.equation)) (absent_from m a v e d.equation d.at o other)

    go : (is_defined_of m a k w.1 ≡ true) ⊎ (is_defined_of m a k w.1 ≡ false) → HasTerm v (pos 0) (given_form m a k)
    go (inl s) =
        let o = defined_objective m a k w.1 s in
        let x = any_source (λ (x : EquId). defines m a k x.at) (equations m a k) o.some in
        here x.entry.at (defining m a k w x.entry.at is x.passes)
    go (inr s) = subst (λ f. HasTerm v (pos 0) f) (sym (forms.otherwise (λ e q at d. none_defines m a k w is s e d))) (none_variable v w.1 other)
      where
        other : v ≡ w.1 → ⊥
        other e = false≢true (sym s ∙ own_defined m a class.kept k w.1 party (subst (λ x. x < length m.variables) e within) (objective_owned m a k w is) (subst (λ x. is_defined m a x ≡ true) e defined))

pub signed_without : (s : Sense) (n : ℕ) (vs : List ℕ) (f : Form) → StandsNot n vs f → StandsNot n vs (signed s f)
signed_without Min n vs f h = h
signed_without Max n vs f h = λ v l q. none_negated v f (h v l q)
