-- The own variables of a block differ, and its rules are of different equations.
use Rattle.std.proofs.Common.{◌≡◌, ◌⊎◌, inl, inr, ℕ, ◌+◌, ◌<◌, ◌≤◌, Bool, true, false, ◌&&◌, ◌||◌, cond, nat_eq, List, [], ◌∷◌, ◌++◌, All, length, map, Some, arith, refl, sym, ap, ap₂, subst, ◌∙◌}
use Rattle.std.specs.Prelude.{slice_get, filter}
use Rattle.std.specs.List.{list_any, count_by}
use Rattle.std.proofs.lemmas.Bool.{eq-eqb, eqb-true, leb-false, or_cases, or_parts, or_left, or_right, and_cases, cases_Bool, false≢true, false_from_ne_true}
use Rattle.emp_ast.specs.declared.tree.VarId.{VarId}
use Rattle.emp_ast.specs.declared.tree.EquId.{EquId}
use Rattle.emp_ast.specs.declared.model.Model.{Model}
use Rattle.emp_ast.specs.declared.annot.Block.{Block}
use Rattle.emp_ast.specs.declared.annot.Annot.{Annot}
use Rattle.emp_ast.specs.Parties.{block, names_variable, names_equation, is_implicit_equation, block_variables, listed_equations, block_equations, equations_by, constraints, is_constraint}
use Rattle.emp_ast.specs.Convex.{counted, counted_by}
use Rattle.emp_game.specs.Game.{names, AreApart}
use Rattle.emp_owner.specs.Rules.{variable_times, equation_times, is_twice, is_listed, is_function, listings, leader_namings, own_namings, dual_namings, equation_twice}
use Rattle.emp_problem.specs.declared.problem.Rule.{Rule}
use Rattle.emp_problem.specs.declared.problem.AgentProblem.{AgentProblem}
use Rattle.emp_problem.specs.ProblemOf.{AreRulesFor, IsProblemOf}
use Rattle.emp_problem.specs.Class.{IsClassFile}
use Rattle.emp_subst.proofs.Constraints.{all_head, all_tail, equations_fit}
use Rattle.emp_subst.proofs.Owners.{count_cons, any_at}
use Rattle.emp_subst.proofs.Keeping.{fit_at, block_fit, parts_all}

-- ---- counts
any_counts : {X : Type 0} (p : X → Bool) (xs : List X) → list_any p xs ≡ true → 1 ≤ count_by p xs
any_counts p [] h = absurd (false≢true h)
any_counts p (x ∷ xs) h = go (or_cases (p x) (list_any p xs) h) (any_counts p xs)
  where
    go : (p x ≡ true) ⊎ (list_any p xs ≡ true) → (list_any p xs ≡ true → 1 ≤ count_by p xs) → 1 ≤ count_by p (x ∷ xs)
    go (inl here) rest = let c = count_cons p x xs ∙ ap (λ b. cond b 1 0 + count_by p xs) here in omega (arith, c)
    go (inr later) rest = let c = count_cons p x xs in let l = rest later in omega (arith, c, l)

none_counts : {X : Type 0} (p : X → Bool) (xs : List X) → list_any p xs ≡ false → count_by p xs ≡ 0
none_counts p [] h = refl
none_counts p (x ∷ xs) h =
    let both = or_parts (p x) (list_any p xs) h in count_cons p x xs ∙ ap₂ (λ b n. cond b 1 0 + n) both.0 (none_counts p xs both.1)

count_append : {X : Type 0} (p : X → Bool) (xs ys : List X) → count_by p (xs ++ ys) ≡ count_by p xs + count_by p ys
count_append p [] ys = omega arith
count_append p (x ∷ xs) ys =
    let c = count_cons p x (xs ++ ys) in
    let d = count_cons p x xs in
    let e = count_append p xs ys in
    omega (arith, c, d, e)

-- ---- numbers that are named once
named_by : {X : Type 0} (f : X → ℕ) (xs : List X) (k : ℕ) → names (map f xs) k ≡ list_any (λ x. nat_eq (f x) k) xs
named_by f [] k = refl
named_by f (x ∷ xs) k = ap (λ b. nat_eq (f x) k || b) (named_by f xs k)

apart_few : {X : Type 0} (f : X → ℕ) (xs : List X) → ((k : ℕ) → list_any (λ x. nat_eq (f x) k) xs ≡ true → count_by (λ x. nat_eq (f x) k) xs ≤ 1) → AreApart (map f xs)
apart_few f [] h = tt
apart_few f (x ∷ xs) h = (other, apart_few f xs later)
  where
    other : names (map f xs) (f x) ≡ false
    other = false_from_ne_true (names (map f xs) (f x)) (λ named.
        let one = any_counts (λ y. nat_eq (f y) (f x)) xs (sym (named_by f xs (f x)) ∙ named) in
        let c = count_cons (λ y. nat_eq (f y) (f x)) x xs ∙ ap (λ b. cond b 1 0 + count_by (λ y. nat_eq (f y) (f x)) xs) (eq-eqb (f x) (f x) refl) in
        let few = h (f x) (or_left (nat_eq (f x) (f x)) (list_any (λ y. nat_eq (f y) (f x)) xs) (eq-eqb (f x) (f x) refl)) in
        omega (arith, one, c, few))

    later : (k : ℕ) → list_any (λ y. nat_eq (f y) k) xs ≡ true → count_by (λ y. nat_eq (f y) k) xs ≤ 1
    later k named =
        let few = h k (or_right (nat_eq (f x) k) (list_any (λ y. nat_eq (f y) k) xs) named) in let c = count_cons (λ y. nat_eq (f y) k) x xs in omega (arith, few, c)

fewer_names : {X : Type 0} (f : X → ℕ) (p : X → Bool) (xs : List X) (k : ℕ) → names (map f xs) k ≡ false → names (map f (filter p xs)) k ≡ false
fewer_names f p [] k h = refl
fewer_names f p (x ∷ xs) k h =
    let both = or_parts (nat_eq (f x) k) (names (map f xs) k) h in go (p x) both.0 (fewer_names f p xs k both.1)
  where
    go : (b : Bool) → nat_eq (f x) k ≡ false → names (map f (filter p xs)) k ≡ false → names (map f (cond b (x ∷ filter p xs) (filter p xs))) k ≡ false
    go true e rest = ap₂ (λ b c. b || c) e rest
    go false e rest = rest

apart_filter : {X : Type 0} (f : X → ℕ) (p : X → Bool) (xs : List X) → AreApart (map f xs) → AreApart (map f (filter p xs))
apart_filter f p [] h = tt
apart_filter f p (x ∷ xs) h = go (p x) (apart_filter f p xs h.1)
  where
    go : (b : Bool) → AreApart (map f (filter p xs)) → AreApart (map f (cond b (x ∷ filter p xs) (filter p xs)))
    go true rest = (fewer_names f p xs (f x) h.0, rest)
    go false rest = rest

named_below : {X : Type 0} (f : X → ℕ) (n : ℕ) (xs : List X) (k : ℕ) → All (λ x. f x < n) xs → list_any (λ x. nat_eq (f x) k) xs ≡ true → k < n
named_below f n [] k all h = absurd (false≢true h)
named_below f n (x ∷ xs) k all h = go (or_cases (nat_eq (f x) k) (list_any (λ x. nat_eq (f x) k) xs) h) (named_below f n xs k (all_tail (λ x. f x < n) x xs all))
  where
    go : (nat_eq (f x) k ≡ true) ⊎ (list_any (λ x. nat_eq (f x) k) xs ≡ true) → (list_any (λ x. nat_eq (f x) k) xs ≡ true → k < n) → k < n
    go (inl here) rest = subst (λ j. j < n) (eqb-true (f x) k here) (all_head (λ x. f x < n) x xs all)
    go (inr later) rest = rest later

-- ---- own variables
variables_once : (m : Model) (a : Annot) (k : ℕ) (b : Block) → IsClassFile m a → slice_get a.blocks k ≡ Some b → AreApart (map (λ v. v.at) (block_variables b))
variables_once m a k b class at = apart_few (λ v. v.at) (block_variables b) once
  where
    once : (v : ℕ) → list_any (λ x. nat_eq x.at v) (block_variables b) ≡ true → count_by (λ x. nat_eq x.at v) (block_variables b) ≤ 1
    once v named =
        let l = named_below (λ x. x.at) (length m.variables) (block_variables b) v (block_fit (length m.variables) (length m.equations) b (fit_at m a k b class.fits at)) named in
        let kept = class.kept.0.0.0.0.0.0.0.0.0.1 v l in
        let first = is_twice (leader_namings m a v + own_namings a v + dual_namings a v) in
        let second = list_any (λ c. is_twice (variable_times v (block_variables c))) a.blocks in
        let none = (or_parts first second (or_parts (first || second) (is_twice (count_by (λ i. nat_eq i.0.at v) a.implicits)) kept).0).1 in
        let few = leb-false 2 (variable_times v (block_variables b)) (false_from_ne_true (is_twice (variable_times v (block_variables b))) (λ h. false≢true (sym none ∙ any_at (λ c. is_twice (variable_times v (block_variables c))) a.blocks k b at h))) in
        omega (arith, few)

own_apart : (m : Model) (a : Annot) (k : ℕ) (b : Block) → IsClassFile m a → slice_get a.blocks k ≡ Some b → AreApart (map (λ v. v.at) (counted m a k))
own_apart m a k b class at =
    subst (λ o. AreApart (map (λ v. v.at) (counted_by m a k o))) (sym at) (apart_filter (λ v. v.at) _ (block_variables b) (variables_once m a k b class at))

-- ---- rules
fewer_tied : (p : VarId × EquId → Bool) (pairs : List (VarId × EquId)) (e : ℕ) → count_by (λ x. nat_eq x.at e) (map (λ i. i.1) (filter p pairs)) ≤ count_by (λ i. nat_eq i.1.at e) pairs
fewer_tied p [] e = omega arith
fewer_tied p (i ∷ pairs) e = go (p i) (fewer_tied p pairs e)
  where
    go : (b : Bool) → count_by (λ x. nat_eq x.at e) (map (λ i. i.1) (filter p pairs)) ≤ count_by (λ i. nat_eq i.1.at e) pairs → count_by (λ x. nat_eq x.at e) (map (λ i. i.1) (cond b (i ∷ filter p pairs) (filter p pairs))) ≤ count_by (λ i. nat_eq i.1.at e) (i ∷ pairs)
    go true h = let c = count_cons (λ x. nat_eq x.at e) i.1 (map (λ i. i.1) (filter p pairs)) in let d = count_cons (λ j. nat_eq j.1.at e) i pairs in omega (arith, h, c, d)
    go false h = let d = count_cons (λ j. nat_eq j.1.at e) i pairs in omega (arith, h, d)

equations_once : (m : Model) (a : Annot) (k : ℕ) (b : Block) → IsClassFile m a → slice_get a.blocks k ≡ Some b → AreApart (map (λ e. e.at) (block_equations a b))
equations_once m a k b class at = apart_few (λ e. e.at) (block_equations a b) once
  where
    once : (e : ℕ) → list_any (λ x. nat_eq x.at e) (block_equations a b) ≡ true → count_by (λ x. nat_eq x.at e) (block_equations a b) ≤ 1
    once e named = go (cases_Bool (is_listed a e))
      where
        inside : e < length m.equations
        inside = named_below (λ x. x.at) (length m.equations) (block_equations a b) e (equations_fit m a b class.fits (fit_at m a k b class.fits at)) named

        kept : equation_twice a e ≡ false
        kept = class.kept.0.0.0.0.0.0.0.0.1 e inside

        parts : (((list_any (λ c. is_twice (equation_times e (listed_equations c))) a.blocks || (is_function a e && is_twice (listings a e))) || (is_implicit_equation a e && is_listed a e)) ≡ false) × (is_twice (count_by (λ i. nat_eq i.1.at e) a.implicits) ≡ false)
        parts = or_parts _ _ kept

        not_twice : is_twice (equation_times e (listed_equations b)) ≡ false
        not_twice = false_from_ne_true (is_twice (equation_times e (listed_equations b))) (λ h. false≢true (sym (or_parts _ _ (or_parts _ _ parts.0).0).0 ∙ any_at (λ c. is_twice (equation_times e (listed_equations c))) a.blocks k b at h))

        whole : count_by (λ x. nat_eq x.at e) (block_equations a b) ≤ equation_times e (listed_equations b) + count_by (λ i. nat_eq i.1.at e) a.implicits
        whole =
            let c = count_append (λ x. nat_eq x.at e) (listed_equations b) (map (λ i. i.1) (filter (λ i. names_variable (block_variables b) i.0.at) a.implicits)) in
            let d = fewer_tied (λ i. names_variable (block_variables b) i.0.at) a.implicits e in
            omega (arith, c, d)

        go : (is_listed a e ≡ true) ⊎ (is_listed a e ≡ false) → count_by (λ x. nat_eq x.at e) (block_equations a b) ≤ 1
        go (inl listed) = untied (and_cases (is_implicit_equation a e) (is_listed a e) (or_parts _ _ parts.0).1)
          where
            untied : (is_implicit_equation a e ≡ false) ⊎ (is_listed a e ≡ false) → count_by (λ x. nat_eq x.at e) (block_equations a b) ≤ 1
            untied (inl none) = let zero_tied = none_counts (λ i. nat_eq i.1.at e) a.implicits none in let few = leb-false 2 (equation_times e (listed_equations b)) not_twice in omega (arith, whole, zero_tied, few)
            untied (inr none) = absurd (false≢true (sym none ∙ listed))
        go (inr none) =
            let zero_listed = none_counts (λ x. nat_eq x.at e) (listed_equations b) (false_from_ne_true (names_equation (listed_equations b) e) (λ h. false≢true (sym none ∙ any_at (λ c. names_equation (listed_equations c) e) a.blocks k b at h))) in
            let few = leb-false 2 (count_by (λ i. nat_eq i.1.at e) a.implicits) parts.1 in
            omega (arith, whole, zero_listed, few)

rule_equations : (m : Model) (es : List EquId) (rs : List Rule) → AreRulesFor m es rs → map (λ r. r.equation.at) rs ≡ map (λ e. e.at) es
rule_equations m [] [] h = refl
rule_equations m [] (r ∷ rs) h = absurd h
rule_equations m (e ∷ es) [] h = absurd h
rule_equations m (e ∷ es) (r ∷ rs) h = ap₂ (λ x ys. x ∷ ys) (ap (λ (d : EquId). d.at) h.0.equation) (rule_equations m es rs h.1)

rules_apart : (m : Model) (a : Annot) (k : ℕ) (b : Block) → IsClassFile m a → slice_get a.blocks k ≡ Some b → AreApart (map (λ e. e.at) (constraints m a (block k)))
rules_apart m a k b class at =
    subst (λ o. AreApart (map (λ e. e.at) (filter (λ e. is_constraint m a (block k) e.at) (equations_by a o)))) (sym at)
    (apart_filter (λ e. e.at) (λ e. is_constraint m a (block k) e.at) (block_equations a b) (equations_once m a k b class at))

pub apart_keeps : (m : Model) (a : Annot) (pr : AgentProblem) → IsClassFile m a → IsProblemOf m a pr → All (λ b. AreApart (map (λ v. v.at) b.own) × AreApart (map (λ r. r.equation.at) b.rules)) pr.blocks
apart_keeps m a pr class problem =
    parts_all m a pr (λ b. AreApart (map (λ v. v.at) b.own) × AreApart (map (λ r. r.equation.at) b.rules)) problem
    (λ k b p at is. (subst (λ vs. AreApart (map (λ v. v.at) vs)) (sym is.own) (own_apart m a k b class at), subst AreApart (sym (rule_equations m (constraints m a (block k)) p.rules is.rules)) (rules_apart m a k b class at)))
