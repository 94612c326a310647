-- Definitions as they are kept are those of the parties.
use Rattle.std.proofs.Common.{◌≡◌, ◌≢◌, ◌⊎◌, inl, inr, ℕ, zero, suc, ◌+◌, ◌<◌, ◌≤◌, Bool, true, false, ◌&&◌, ◌||◌, not, nat_eq, List, [], ◌∷◌, length, get_or, Option, Some, None, arith, refl, sym, ap, ap₂, subst, ◌∙◌}
use Rattle.std.specs.Prelude.{slice_get}
use Rattle.std.specs.List.{list_any}
use Rattle.std.proofs.lemmas.Bool.{eq-eqb, ne_eqb, and_parts, or_left, or_right, cases_eq, false≢true}
use Rattle.emp_ast.specs.declared.tree.EquId.{EquId}
use Rattle.emp_ast.specs.declared.model.Equation.{Equation}
use Rattle.emp_ast.specs.declared.model.Sense.{Sense}
use Rattle.emp_ast.specs.declared.model.Model.{Model}
use Rattle.emp_ast.specs.declared.annot.Block.{Block}
use Rattle.emp_ast.specs.declared.annot.Annot.{Annot}
use Rattle.emp_ast.specs.Parties.{Party, leader, block, names_equation, equations, objective, block_objective, goal_objective, can_define, has_alone, holders, ties, defines_by, defines, is_defined_by, is_defined_of, some_block_defines, is_constraint, some_block_has}
use Rattle.emp_owner.specs.Finding.{is_entry}
use Rattle.emp_owner.specs.Settled.{IsDefinition, IsLeaderDefinition, AreDefinitions}
use Rattle.emp_owner.proofs.Defining.{two_ties, can_tie, leader_named, number_there, constrains_at}
use Rattle.emp_owner.proofs.Lists.{get_is}
use Rattle.emp_problem.specs.Class.{some_block_constrains}
use Rattle.emp_subst.specs.Stages.{is_some, is_solved_by, is_solved, EntryFits}

-- ---- the equation that defines an objective is one of the party's
any_found : (test : ℕ → Bool) (es : List EquId) (e : ℕ) → names_equation es e ≡ true → test e ≡ true → list_any (λ x. test x.at) es ≡ true
any_found test [] e h t = h
any_found test (x ∷ xs) e h t = go (cases_eq x.at e) (λ k. any_found test xs e k t)
  where
    go : (x.at ≡ e) ⊎ (x.at ≢ e) → (names_equation xs e ≡ true → list_any (λ x. test x.at) xs ≡ true) → (test x.at || list_any (λ x. test x.at) xs) ≡ true
    go (inl same) rest = or_left (test x.at) (list_any (λ x. test x.at) xs) (ap test same ∙ t)
    go (inr other) rest = or_right (test x.at) (list_any (λ x. test x.at) xs) (rest (sym (ap (λ b. b || names_equation xs e) (ne_eqb x.at e other)) ∙ h))

any_none : (test : ℕ → Bool) (es : List EquId) → ((e : ℕ) → test e ≡ false) → list_any (λ x. test x.at) es ≡ false
any_none test [] h = refl
any_none test (x ∷ xs) h = ap₂ (λ b c. b || c) (h x.at) (any_none test xs h)

pub defines_parts : (m : Model) (a : Annot) (p : Party) (w : Sense × ℕ) (e : ℕ) → objective m a p ≡ Some w → defines m a p e ≡ true → (can_define m a e w.1 ≡ true) × (has_alone m a p e ≡ true)
defines_parts m a p w e is d = and_parts (can_define m a e w.1) (has_alone m a p e) (subst (λ o. defines_by m a p e o ≡ true) is d)

alone_named : (m : Model) (a : Annot) (p : Party) (e : ℕ) → has_alone m a p e ≡ true → names_equation (equations m a p) e ≡ true
alone_named m a leader e h = h
alone_named m a (block k) e h = (and_parts (names_equation (equations m a (block k)) e) (nat_eq (holders a e) 1) h).0

defines_some : (m : Model) (a : Annot) (p : Party) (e : ℕ) (o : Option (Sense × ℕ)) → objective m a p ≡ o → defines m a p e ≡ true → names_equation (equations m a p) e ≡ true
defines_some m a p e (Some w) is d = alone_named m a p e (defines_parts m a p w e is d).1
defines_some m a p e None is d = absurd (false≢true (subst (λ o. defines_by m a p e o ≡ true) is d))

some_is : (m : Model) (a : Annot) (p : Party) (d : Option EquId) → IsDefinition m a p d → is_some d ≡ list_any (λ e. defines m a p e.at) (equations m a p)
some_is m a p (Some e) h = sym (any_found (defines m a p) (equations m a p) e.at (defines_some m a p e.at (objective m a p) refl h) h)
some_is m a p None h = sym (any_none (defines m a p) (equations m a p) h)

solved_by : (m : Model) (a : Annot) (p : Party) (d : Option EquId) (v : ℕ) (o : Option (Sense × ℕ)) → IsDefinition m a p d → is_solved_by d o v ≡ is_defined_by m a p v o
solved_by m a p d v None h = refl
solved_by m a p d v (Some w) h = ap (λ b. nat_eq w.1 v && b) (some_is m a p d h)

pub solved_of : (m : Model) (a : Annot) (p : Party) (d : Option EquId) (v : ℕ) → IsDefinition m a p d → is_solved_by d (objective m a p) v ≡ is_defined_of m a p v
solved_of m a p d v h = solved_by m a p d v (objective m a p) h

pub solved_is : (m : Model) (a : Annot) (k : ℕ) (b : Block) (d : Option EquId) (v : ℕ) → slice_get a.blocks k ≡ Some b → IsDefinition m a (block k) d → is_solved b d v ≡ is_defined_of m a (block k) v
solved_is m a k b d v at h = ap (λ o. is_solved_by d (block_objective o) v) (sym at) ∙ solved_of m a (block k) d v h

pub solved_at : (m : Model) (a : Annot) (list : List (Option EquId)) (k : ℕ) (b : Block) (d : Option EquId) (v : ℕ) → AreDefinitions m a list → k < length a.blocks → b ≡ get_or a.blocks k b → d ≡ get_or list k d → is_solved b d v ≡ is_defined_of m a (block k) v
solved_at m a list k b d v are l is_b is_d = solved_is m a k b d v (get_is a.blocks k b l is_b) (are.defined k d (get_is list k d (omega (arith, are.blocks)) is_d))

-- ---- the blocks one by one
pub some_defines : (m : Model) (a : Annot) (v k n : ℕ) → k < n → is_defined_of m a (block k) v ≡ true → some_block_defines m a v n ≡ true
some_defines m a v k zero l h = absurd (omega arith)
some_defines m a v k (suc n) l h = go (cases_eq k n) (λ j. some_defines m a v k n j h)
  where
    go : (k ≡ n) ⊎ (k ≢ n) → (k < n → some_block_defines m a v n ≡ true) → (is_defined_of m a (block n) v || some_block_defines m a v n) ≡ true
    go (inl same) rest = or_left (is_defined_of m a (block n) v) (some_block_defines m a v n) (ap (λ j. is_defined_of m a (block j) v) (sym same) ∙ h)
    go (inr other) rest = or_right (is_defined_of m a (block n) v) (some_block_defines m a v n) (rest (omega arith))

pub none_defines : (m : Model) (a : Annot) (v n : ℕ) → is_defined_of m a (block n) v ≡ false → some_block_defines m a v n ≡ false → some_block_defines m a v (n + 1) ≡ false
none_defines m a v n h k = let step : n + 1 ≡ suc n = omega arith in ap (some_block_defines m a v) step ∙ ap₂ (λ b c. b || c) h k

pub some_constrains : (m : Model) (a : Annot) (e k n : ℕ) → k < n → is_constraint m a (block k) e ≡ true → some_block_constrains m a e n ≡ true
some_constrains m a e k zero l h = absurd (omega arith)
some_constrains m a e k (suc n) l h = go (cases_eq k n) (λ j. some_constrains m a e k n j h)
  where
    go : (k ≡ n) ⊎ (k ≢ n) → (k < n → some_block_constrains m a e n ≡ true) → (is_constraint m a (block n) e || some_block_constrains m a e n) ≡ true
    go (inl same) rest = or_left (is_constraint m a (block n) e) (some_block_constrains m a e n) (ap (λ j. is_constraint m a (block j) e) (sym same) ∙ h)
    go (inr other) rest = or_right (is_constraint m a (block n) e) (some_block_constrains m a e n) (rest (omega arith))

pub none_constrains : (m : Model) (a : Annot) (e n : ℕ) → is_constraint m a (block n) e ≡ false → some_block_constrains m a e n ≡ false → some_block_constrains m a e (n + 1) ≡ false
none_constrains m a e n h k = let step : n + 1 ≡ suc n = omega arith in ap (some_block_constrains m a e) step ∙ ap₂ (λ b c. b || c) h k

pub all_blocks : (f : ℕ → Bool) (n k : ℕ) → n ≤ k → k ≤ n → f k ≡ false → f n ≡ false
all_blocks f n k l j h = let same : n ≡ k = omega arith in ap f same ∙ h

-- ---- the leader
pub leader_defined : (m : Model) (a : Annot) (d : Option EquId) (v : ℕ) → IsLeaderDefinition m a a.bilevel d → (a.bilevel && is_solved_by d (goal_objective m.goal) v) ≡ (a.bilevel && is_defined_of m a leader v)
leader_defined m a d v h = go a.bilevel h
  where
    go : (b : Bool) → IsLeaderDefinition m a b d → (b && is_solved_by d (goal_objective m.goal) v) ≡ (b && is_defined_of m a leader v)
    go true k = solved_of m a leader d v k
    go false k = refl

one_defines : (m : Model) (a : Annot) (p : Party) (d e : ℕ) (o : Option (Sense × ℕ)) → objective m a p ≡ o → defines m a p d ≡ true → defines m a p e ≡ true → d ≡ e
one_defines m a p d e None is h k = absurd (false≢true (subst (λ o. defines_by m a p d o ≡ true) is h))
one_defines m a p d e (Some w) is h k = go (cases_eq d e)
  where
    go : (d ≡ e) ⊎ (d ≢ e) → d ≡ e
    go (inl same) = same
    go (inr other) =
        let x = can_tie m a d w.1 (defines_parts m a p w d is h).0 in
        let y = can_tie m a e w.1 (defines_parts m a p w e is k).0 in
        let l = two_ties w.1 m.equations d e other x.1 y.1 in
        absurd (omega (arith, x.0))

pub entry_defines : (m : Model) (a : Annot) (p : Party) (d : Option EquId) (e : ℕ) → IsDefinition m a p d → is_entry d e ≡ defines m a p e
entry_defines m a p None e h = sym (h e)
entry_defines m a p (Some d) e h = go (cases_eq d.at e)
  where
    not_true : (b : Bool) → (b ≡ true → ⊥) → b ≡ false
    not_true true n = absurd (n refl)
    not_true false n = refl

    go : (d.at ≡ e) ⊎ (d.at ≢ e) → nat_eq d.at e ≡ defines m a p e
    go (inl same) = eq-eqb d.at e same ∙ sym (ap (defines m a p) (sym same) ∙ h)
    go (inr other) = ne_eqb d.at e other ∙ sym (not_true (defines m a p e) (λ k. other (one_defines m a p d.at e (objective m a p) refl h k)))

pub leader_names : (m : Model) (a : Annot) (e : ℕ) → e < length m.equations → names_equation (equations m a leader) e ≡ not (some_block_has a e)
leader_names m a e l = leader_named m a e ∙ ap (λ b. b && not (some_block_has a e)) (number_there e 0 m.equations (omega arith) (omega arith))

swapped : (x y : Bool) → (y && x) ≡ (x && y && true)
swapped true true = refl
swapped true false = refl
swapped false true = refl
swapped false false = refl

pub leader_constrains_is : (m : Model) (a : Annot) (d : Option EquId) (e : ℕ) → IsDefinition m a leader d → e < length m.equations → (not (is_entry d e) && not (some_block_has a e)) ≡ is_constraint m a leader e
leader_constrains_is m a d e h l = swapped (not (some_block_has a e)) (not (is_entry d e)) ∙ ap₂ (λ x y. x && not y && true) (sym (leader_names m a e l)) (entry_defines m a leader d e h)

pub ruleset solving = (solved_at, some_defines, none_defines, all_blocks)

pub ruleset constraining = (constrains_at, some_constrains, none_constrains, all_blocks)

-- ---- a definition is an equation that is there
there : (w : ℕ) (qs : List Equation) (e : ℕ) → ties w (slice_get qs e) ≡ true → e < length qs
there w [] e h = absurd (false≢true h)
there w (q ∷ qs) zero h = omega arith
there w (q ∷ qs) (suc e) h = let l = there w qs e h in omega arith

pub definition_fits : (m : Model) (a : Annot) (p : Party) (d : Option EquId) → IsDefinition m a p d → EntryFits (length m.equations) d
definition_fits m a p None h = tt
definition_fits m a p (Some e) h = go (objective m a p) refl
  where
    go : (o : Option (Sense × ℕ)) → objective m a p ≡ o → e.at < length m.equations
    go None is = absurd (false≢true (subst (λ o. defines_by m a p e.at o ≡ true) is h))
    go (Some w) is = there w.1 m.equations e.at (can_tie m a e.at w.1 (defines_parts m a p w e.at is h).0).1

pub definition_at : (m : Model) (a : Annot) (list : List (Option EquId)) (k : ℕ) (d : Option EquId) → AreDefinitions m a list → k < length a.blocks → d ≡ get_or list k d → IsDefinition m a (block k) d
definition_at m a list k d are l is = are.defined k d (get_is list k d (omega (arith, are.blocks)) is)

pub leader_definition : (m : Model) (a : Annot) (d : Option EquId) → IsLeaderDefinition m a a.bilevel d → a.bilevel ≡ true → IsDefinition m a leader d
leader_definition m a d h b = subst (λ x. IsLeaderDefinition m a x d) b h
