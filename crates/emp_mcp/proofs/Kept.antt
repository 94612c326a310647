-- The rules of ownership of a file with one variational inequality that lists each variable and each equation once.
use Rattle.std.proofs.Common.{◌≡◌, ◌⊎◌, inl, inr, ℕ, zero, suc, ◌+◌, ◌<◌, Bool, true, false, cond, ◌&&◌, ◌||◌, not, nat_eq, List, [], ◌∷◌, ◌++◌, map, length, Some, arith, refl, sym, ap, ap₂, subst, ◌∙◌}
use Rattle.std.specs.Prelude.{filter, slice_get, slice_index_or, option_map}
use Rattle.std.specs.List.{list_any, count_by}
use Rattle.std.proofs.lemmas.Bool.{eq-eqb, eqb-true, cases_Bool, false≢true}
use Rattle.std.proofs.lemmas.Option.{same_Some}
use Rattle.std.proofs.lemmas.List.{length-map}
use Rattle.std.proofs.lemmas.List.Sums.{sum_by-cons}
use Rattle.std.proofs.Math.Bool.{and-false}
use Rattle.emp_ast.specs.declared.tree.VarId.{VarId}
use Rattle.emp_ast.specs.declared.model.Relation.{Relation}
use Rattle.emp_ast.specs.declared.model.Relation.TheVariants.{Equal, AtLeast, AtMost, Nothing}
use Rattle.emp_ast.specs.declared.model.Equation.{Equation}
use Rattle.emp_ast.specs.declared.model.Model.{Model}
use Rattle.emp_ast.specs.Parties.{names_variable, names_equation}
use Rattle.emp_owner.specs.Rules.{variable_times, equation_times, is_twice, is_upper, relation_of, unowned, owned_twice, equation_twice, equation_left, vi_relation}
use Rattle.emp_owner.specs.Settled.{IsKept}
use Rattle.emp_owner.proofs.Lists.{count_map, vi_owns_times, vi_lists_times}
use Rattle.emp_mcp.specs.Complementary.{Match, is_matched, is_of_problem, is_matched_equation}
use Rattle.emp_mcp.specs.Block.{vi_file}
use Rattle.emp_mcp.specs.Target.{problem_variables, problem_equations, place_in, no_variable, unmatched, pair_over, matched_pairs, target_annot, IsEquationOver, AreEquationsOver, IsTarget, AreMatches}
use Rattle.emp_mcp.proofs.Places.{kept_at, kept_found, has_get}
use Rattle.emp_mcp.proofs.Blocks.{any_at}
use Rattle.emp_mcp.proofs.Targets.{matched_of}
use Rattle.emp_mcp.specs.Laws.{TargetsAreKept}

-- ---- counts
module _ {X : Type 0} (p : X → Bool) where
  count_cons : (x : X) (xs : List X) → count_by p (x ∷ xs) ≡ cond (p x) 1 0 + count_by p xs
  count_cons x xs = sum_by-cons (λ y. cond (p y) 1 0) x xs

  count_none : (xs : List X) → ((i : ℕ) (x : X) → slice_get xs i ≡ Some x → p x ≡ false) → count_by p xs ≡ 0
  count_none [] h = refl
  count_none (x ∷ xs) h = count_cons x xs ∙ ap₂ (λ b n. cond b 1 0 + n) (h 0 x refl) (count_none xs (λ i y at. h (suc i) y at))

  count_once : (xs : List X) (i : ℕ) (x : X) → slice_get xs i ≡ Some x → p x ≡ true → ((j : ℕ) (y : X) → slice_get xs j ≡ Some y → p y ≡ true → j ≡ i) → count_by p xs ≡ 1
  count_once [] i x at is h = cc
  count_once (y ∷ xs) zero x at is h =
      let rest : count_by p xs ≡ 0 = count_none xs (λ j z there. other z (λ e. let q = h (suc j) z there e in absurd (omega (arith, q)))) in
      count_cons y xs ∙ ap₂ (λ b n. cond b 1 0 + n) (ap p (same_Some y x at) ∙ is) rest
    where
      other : (z : X) → (p z ≡ true → ⊥) → p z ≡ false
      other z n = go (cases_Bool (p z))
        where
          go : (p z ≡ true) ⊎ (p z ≡ false) → p z ≡ false
          go (inl e) = absurd (n e)
          go (inr e) = e
  count_once (y ∷ xs) (suc i) x at is h =
      count_cons y xs ∙ ap₂ (λ b n. cond b 1 0 + n) (first (cases_Bool (p y))) (count_once xs i x at is (λ j z there e. let q = h (suc j) z there e in omega (arith, q)))
    where
      first : (p y ≡ true) ⊎ (p y ≡ false) → p y ≡ false
      first (inl e) = let q = h 0 y refl e in absurd (omega (arith, q))
      first (inr e) = e

  count_any : (xs : List X) → count_by p xs ≡ 1 → list_any p xs ≡ true
  count_any [] e = absurd (omega (arith, e))
  count_any (x ∷ xs) e = go (p x) refl (sym (count_cons x xs) ∙ e) (count_any xs)
    where
      go : (b : Bool) → p x ≡ b → cond (p x) 1 0 + count_by p xs ≡ 1 → (count_by p xs ≡ 1 → list_any p xs ≡ true) → (p x || list_any p xs) ≡ true
      go true f h more = ap (λ b. b || list_any p xs) f
      go false f h more = ap (λ b. b || list_any p xs) f ∙ more (let g : ◌≡◌ {A = ℕ} (cond (p x) 1 0) 0 = ap (λ b. cond b 1 0) f in omega (arith, g, h))

count_filter : {X : Type 0} (p q : X → Bool) (xs : List X) → count_by p (filter q xs) ≡ count_by (λ x. q x && p x) xs
count_filter p q [] = refl
count_filter {X} p q (x ∷ xs) = go (q x) refl (count_filter p q xs) ∙ sym (count_cons (λ y. q y && p y) x xs)
  where
    go : (b : Bool) → q x ≡ b → count_by p (filter q xs) ≡ count_by (λ y. q y && p y) xs → count_by p (cond (q x) (x ∷ filter q xs) (filter q xs)) ≡ cond (q x && p x) 1 0 + count_by (λ y. q y && p y) xs
    go true e h = ap (λ b. count_by p (cond b (x ∷ filter q xs) (filter q xs))) e ∙ (count_cons p x (filter q xs) ∙ (ap (λ n. cond (p x) 1 0 + n) h ∙ ap (λ b. cond (b && p x) 1 0 + count_by (λ y. q y && p y) xs) (sym e)))
    go false e h = ap (λ b. count_by p (cond b (x ∷ filter q xs) (filter q xs))) e ∙ (h ∙ (let z : count_by (λ y. q y && p y) xs ≡ 0 + count_by (λ y. q y && p y) xs = omega arith in z ∙ ap (λ b. cond (b && p x) 1 0 + count_by (λ y. q y && p y) xs) (sym e)))

-- ---- the rules
pub record ListsOnce (t : Model) (zeros : List VarId) (pairs : List Match) : Type 0 where
  pub variables : (v : ℕ) → v < length t.variables → variable_times v (zeros ++ map (λ q. q.1) pairs) ≡ 1
  pub equations : (e : ℕ) → e < length t.equations → equation_times e (map (λ q. q.0) pairs ++ []) ≡ 1
  pub relations : (e : ℕ) → e < length t.equations → is_upper (relation_of t e) ≡ false

module _ (t : Model) (zeros : List VarId) (pairs : List Match) (h : ListsOnce t zeros pairs) where
  owned : (v : ℕ) → v < length t.variables → names_variable (zeros ++ map (λ q. q.1) pairs) v ≡ true
  owned v l = count_any (λ x. nat_eq x.at v) (zeros ++ map (λ q. q.1) pairs) (h.variables v l)

  listed : (e : ℕ) → e < length t.equations → names_equation (map (λ q. q.0) pairs ++ []) e ≡ true
  listed e l = count_any (λ x. nat_eq x.at e) (map (λ q. q.0) pairs ++ []) (h.equations e l)

  none_unowned : (v : ℕ) → v < length t.variables → unowned (vi_file zeros pairs) v ≡ false
  none_unowned v l = ap (λ b. not false && not (b || false) && not false) (owned v l)

  none_owned_twice : (v : ℕ) → v < length t.variables → owned_twice t (vi_file zeros pairs) v ≡ false
  none_owned_twice v l = ap₂ (λ b n. is_twice (0 + (0 + cond b 1 0) + 0) || (is_twice n || false) || is_twice 0) (owned v l) (h.variables v l)

  none_twice : (e : ℕ) → e < length t.equations → equation_twice (vi_file zeros pairs) e ≡ false
  none_twice e l =
      ap (λ n. (is_twice n || false) || ((names_equation (map (λ q. q.0) pairs) e || false) && is_twice (0 + n)) || false || is_twice 0) (h.equations e l)
      ∙ ap (λ b. (false || false) || b || false || false) (and-false (names_equation (map (λ q. q.0) pairs) e || false))

  none_left : (e : ℕ) → e < length t.equations → equation_left (vi_file zeros pairs) e ≡ false
  none_left e l = ap (λ b. not false && not (b || false) && not false) (listed e l)

  none_upper : (e : ℕ) → e < length t.equations → vi_relation t (vi_file zeros pairs) e ≡ false
  none_upper e l = ap (λ b. (names_equation (map (λ q. q.0) pairs) e || false) && b) (h.relations e l) ∙ and-false (names_equation (map (λ q. q.0) pairs) e || false)

  kept : IsKept t (vi_file zeros pairs)
  kept = ((((((((((((refl, none_unowned), none_owned_twice), none_twice), none_left), none_upper), λ e l. refl), λ e l. refl), λ e l. refl), λ v l. refl), λ v l. refl)), λ e l. refl)

-- a list that passes the test somewhere
any_has : {X : Type 0} (p : X → Bool) (xs : List X) → list_any p xs ≡ true → (i : ℕ) × (x : X) × (slice_get xs i ≡ Some x) × (p x ≡ true)
any_has p [] e = absurd (false≢true e)
any_has {X} p (x ∷ xs) e = go (p x) refl e (any_has p xs)
  where
    go : (b : Bool) → p x ≡ b → (b || list_any p xs) ≡ true → (list_any p xs ≡ true → (i : ℕ) × (y : X) × (slice_get xs i ≡ Some y) × (p y ≡ true)) → (i : ℕ) × (y : X) × (slice_get (x ∷ xs) i ≡ Some y) × (p y ≡ true)
    go true f g more = (0, x, refl, f)
    go false f g more = let r = more g in (suc r.0, r.1, r.2, r.3)

-- the equation of the target and the model's
over_has : (m : Model) (vs es : List ℕ) (rs : List Equation) (k : ℕ) (r : Equation) → AreEquationsOver m vs es rs → slice_get rs k ≡ Some r → (e : ℕ) × (slice_get es k ≡ Some e) × ((q : Equation) → slice_get m.equations e ≡ Some q → IsEquationOver vs q r)
over_has m vs [] [] k r h at = cc
over_has m vs [] (s ∷ rs) k r h at = absurd h
over_has m vs (e ∷ es) [] k r h at = absurd h
over_has m vs (e ∷ es) (s ∷ rs) zero r h at = (e, refl, λ q g. subst (λ z. IsEquationOver vs q z) (same_Some s r at) (h.0 q g))
over_has m vs (e ∷ es) (s ∷ rs) (suc k) r h at = over_has m vs es rs k r h.1 at

over_length : (m : Model) (vs es : List ℕ) (rs : List Equation) → AreEquationsOver m vs es rs → length rs ≡ length es
over_length m vs [] [] h = refl
over_length m vs [] (r ∷ rs) h = absurd h
over_length m vs (e ∷ es) [] h = absurd h
over_length m vs (e ∷ es) (r ∷ rs) h = ap suc (over_length m vs es rs h.1)

not_upper : (r : Relation) → (r ≡ AtMost → ⊥) → is_upper (Some r) ≡ false
not_upper Equal n = refl
not_upper AtLeast n = refl
not_upper AtMost n = absurd (n refl)
not_upper Nothing n = refl

-- ---- the target
module _ (m : Model) (ms : List Match) (t : Model) (h : AreMatches m ms) (is : IsTarget m ms t) where
  abbrev vs : List ℕ
  vs = problem_variables m ms

  abbrev es : List ℕ
  es = problem_equations m ms

  -- the number that stands at a place, and no other, has the place
  placed : (k v : ℕ) → slice_get vs k ≡ Some v → (u : ℕ) → u < length m.variables → is_of_problem m ms u ≡ true → nat_eq (place_in vs u) k ≡ true → u ≡ v
  placed k v at u l o e =
      let here : slice_get vs (place_in vs u) ≡ Some u = kept_found (is_of_problem m ms) 0 m.variables u (omega arith) (omega (arith, l)) o in
      same_Some u v (sym here ∙ (ap (slice_get vs) (eqb-true (place_in vs u) k e) ∙ at))

  placed_equation : (k e : ℕ) → slice_get es k ≡ Some e → (u : ℕ) → u < length m.equations → is_matched_equation ms u ≡ true → nat_eq (place_in es u) k ≡ true → u ≡ e
  placed_equation k e at u l o f =
      let here : slice_get es (place_in es u) ≡ Some u = kept_found (is_matched_equation ms) 0 m.equations u (omega arith) (omega (arith, l)) o in
      same_Some u e (sym here ∙ (ap (slice_get es) (eqb-true (place_in es u) k f) ∙ at))

  variables_once : (k : ℕ) → k < length t.variables → variable_times k (unmatched m ms ++ map (λ q. q.1) (matched_pairs m ms)) ≡ 1
  variables_once k l =
      vi_owns_times (unmatched m ms) (matched_pairs m ms) k
      ∙ (ap₂ (λ a b. a + b)
      (count_map (λ x. nat_eq x.at k) (λ v. record { at = place_in vs v }) (filter (λ v. not (is_matched ms v)) vs) ∙ count_filter (λ v. nat_eq (place_in vs v) k) (λ v. not (is_matched ms v)) vs)
      (count_map (λ q. nat_eq q.1.at k) (pair_over es vs) ms)
      ∙ go found.0 found.1 (is_matched ms found.0) refl)
    where
      found : (v : ℕ) × (slice_get vs k ≡ Some v)
      found = let n : length t.variables ≡ length vs = ap length is.variables ∙ length-map vs (λ u. slice_index_or m.variables u no_variable) in has_get vs k (omega (arith, n, l))

      no_other : (v : ℕ) → slice_get vs k ≡ Some v → is_matched ms v ≡ true → (u : ℕ) → u < length m.variables → is_of_problem m ms u ≡ true → (b : Bool) → nat_eq (place_in vs u) k ≡ b → (not (is_matched ms u) && nat_eq (place_in vs u) k) ≡ false
      no_other v at matched u l o true e = ap (λ b. not b && nat_eq (place_in vs u) k) (ap (is_matched ms) (placed k v at u l o e) ∙ matched)
      no_other v at matched u l o false e = ap (λ b. not (is_matched ms u) && b) e ∙ and-false (not (is_matched ms u))

      no_match : (v : ℕ) → slice_get vs k ≡ Some v → is_matched ms v ≡ false → (i : ℕ) (q : Match) → slice_get ms i ≡ Some q → (b : Bool) → nat_eq (place_in vs q.1.at) k ≡ b → b ≡ false
      no_match v at none i q there true e =
          let same = placed k v at q.1.at (h.variables i q there) (matched_of m ms t h is i q there) e in
          absurd (false≢true (sym none ∙ (ap (is_matched ms) (sym same) ∙ any_at (λ r. nat_eq r.1.at q.1.at) ms i q there (eq-eqb q.1.at q.1.at refl))))
      no_match v at none i q there false e = refl

      both : (b c : Bool) → (not b && c) ≡ true → c ≡ true
      both true c e = absurd (false≢true e)
      both false c e = e

      go : (v : ℕ) → slice_get vs k ≡ Some v → (b : Bool) → is_matched ms v ≡ b → count_by (λ u. not (is_matched ms u) && nat_eq (place_in vs u) k) vs + count_by (λ q. nat_eq (place_in vs q.1.at) k) ms ≡ 1
      go v at true e =
          let kept = kept_at (is_of_problem m ms) 0 m.variables k v at in
          let first : count_by (λ u. not (is_matched ms u) && nat_eq (place_in vs u) k) vs ≡ 0 =
          count_none (λ u. not (is_matched ms u) && nat_eq (place_in vs u) k) vs (λ i u there. let q = kept_at (is_of_problem m ms) 0 m.variables i u there in let w = q.to in no_other v at e u (omega (arith, w)) q.passes (nat_eq (place_in vs u) k) refl) in
          let r = any_has (λ q. nat_eq q.1.at v) ms e in
          let same : r.1.1.at ≡ v = eqb-true r.1.1.at v r.3 in
          let second : count_by (λ q. nat_eq (place_in vs q.1.at) k) ms ≡ 1 =
          count_once (λ q. nat_eq (place_in vs q.1.at) k) ms r.0 r.1 r.2 (eq-eqb (place_in vs r.1.1.at) k (ap (place_in vs) same ∙ kept.place)) (λ j y there f. h.variable_once j r.0 y r.1 there r.2 (placed k v at y.1.at (h.variables j y there) (matched_of m ms t h is j y there) f ∙ sym same)) in
          ap₂ (λ a b. a + b) first second
      go v at false e =
          let kept = kept_at (is_of_problem m ms) 0 m.variables k v at in
          let first : count_by (λ u. not (is_matched ms u) && nat_eq (place_in vs u) k) vs ≡ 1 =
          count_once (λ u. not (is_matched ms u) && nat_eq (place_in vs u) k) vs k v at (ap₂ (λ b c. not b && c) e (eq-eqb (place_in vs v) k kept.place)) (λ j u there f. sym (kept_at (is_of_problem m ms) 0 m.variables j u there).place ∙ eqb-true (place_in vs u) k (both (is_matched ms u) (nat_eq (place_in vs u) k) f)) in
          let second : count_by (λ q. nat_eq (place_in vs q.1.at) k) ms ≡ 0 =
          count_none (λ q. nat_eq (place_in vs q.1.at) k) ms (λ i q there. no_match v at e i q there (nat_eq (place_in vs q.1.at) k) refl) in
          ap₂ (λ a b. a + b) first second

  equation_found : (k : ℕ) → k < length t.equations → (e : ℕ) × (slice_get es k ≡ Some e)
  equation_found k l = let n = over_length m vs es t.equations is.equations in has_get es k (omega (arith, n, l))

  equations_once : (k : ℕ) → k < length t.equations → equation_times k (map (λ q. q.0) (matched_pairs m ms) ++ []) ≡ 1
  equations_once k l =
      let f = equation_found k l in
      let kept = kept_at (is_matched_equation ms) 0 m.equations k f.0 f.1 in
      let r = any_has (λ q. nat_eq q.0.at f.0) ms kept.passes in
      let same : r.1.0.at ≡ f.0 = eqb-true r.1.0.at f.0 r.3 in
      let one : count_by (λ q. nat_eq (place_in es q.0.at) k) ms ≡ 1 =
      count_once (λ q. nat_eq (place_in es q.0.at) k) ms r.0 r.1 r.2 (eq-eqb (place_in es r.1.0.at) k (ap (place_in es) same ∙ kept.place)) (λ j y there g. h.equation_once j r.0 y r.1 there r.2 (placed_equation k f.0 f.1 y.0.at (h.equations j y there) (any_at (λ z. nat_eq z.0.at y.0.at) ms j y there (eq-eqb y.0.at y.0.at refl)) g ∙ sym same)) in
      vi_lists_times (matched_pairs m ms) [] k ∙ ap (λ n. n + 0) (count_map (λ q. nat_eq q.0.at k) (pair_over es vs) ms ∙ one)

  relations_hold : (k : ℕ) → k < length t.equations → is_upper (relation_of t k) ≡ false
  relations_hold k l =
      let r = has_get t.equations k l in
      let o = over_has m vs es t.equations k r.0 is.equations r.1 in
      let kept = kept_at (is_matched_equation ms) 0 m.equations k o.0 o.1 in
      let w = kept.to in
      let q = has_get m.equations o.0 (omega (arith, w)) in
      let x = any_has (λ z. nat_eq z.0.at o.0) ms kept.passes in
      ap is_upper (ap (option_map (λ z. z.relation)) r.1 ∙ ap Some (o.2 q.0 q.1).relation)
      ∙ not_upper q.0.relation (h.relation x.0 x.1 q.0 x.2 (ap (slice_get m.equations) (eqb-true x.1.0.at o.0 x.3) ∙ q.1))

  pub target_kept : IsKept t (target_annot m ms)
  target_kept = kept t (unmatched m ms) (matched_pairs m ms) record { variables = variables_once; equations = equations_once; relations = relations_hold }

pub targets_are_kept : TargetsAreKept
targets_are_kept m ms t h is = target_kept m ms t h is
