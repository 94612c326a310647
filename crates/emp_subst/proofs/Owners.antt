-- An objective that an equation may define is owned by its party alone.
use Rattle.std.proofs.Common.{◌≡◌, ◌≢◌, ◌⊎◌, inl, inr, ℕ, zero, suc, ◌+◌, ◌<◌, ◌≤◌, max, Bool, true, false, ◌||◌, not, cond, nat_eq, List, [], ◌∷◌, length, get_or, Option, Some, None, arith, refl, sym, ap, ap₂, subst, ◌∙◌}
use Rattle.std.specs.Prelude.{slice_get}
use Rattle.std.specs.List.{list_any, count_by}
use Rattle.std.proofs.lemmas.Bool.{eq-eqb, leb-false, and_from, or_parts, or_left, or_right, cases_eq, cases_Bool, false≢true}
use Rattle.std.proofs.lemmas.Option.{same_Some, slice_get_within, slice_get-get_or}
use Rattle.std.proofs.lemmas.List.Sums.{sum_by-cons}
use Rattle.emp_ast.specs.declared.tree.VarId.{VarId}
use Rattle.emp_ast.specs.declared.model.Sense.{Sense}
use Rattle.emp_ast.specs.declared.model.Model.{Model}
use Rattle.emp_ast.specs.declared.annot.Block.{Block}
use Rattle.emp_ast.specs.declared.annot.Block.TheVariants.{Agent, Vi}
use Rattle.emp_ast.specs.declared.annot.Annot.{Annot}
use Rattle.emp_ast.specs.Parties.{leader, block, names_variable, block_variables, block_owns, owns, is_goal, is_dual, some_block_owns, objective, block_objective, goal_objective}
use Rattle.emp_owner.specs.Rules.{is_implicit, leader_namings, owners_of, own_namings, dual_namings, is_twice, variable_times, objective_is, pair_names, has_role, is_leaders, owned_twice, implicit_use}
use Rattle.emp_owner.specs.Settled.{IsKept}
use Rattle.emp_problem.specs.Class.{BlockFits, AnnotFits, GoalFits}

-- ---- counts
pub count_cons : {X : Type 0} (p : X → Bool) (x : X) (xs : List X) → count_by p (x ∷ xs) ≡ cond (p x) 1 0 + count_by p xs
count_cons p x xs = sum_by-cons (λ y. cond (p y) 1 0) x xs

first_counts : {X : Type 0} (p : X → Bool) (x : X) (xs : List X) → p x ≡ true → count_by p (x ∷ xs) ≡ 1 + count_by p xs
first_counts p x xs h = count_cons p x xs ∙ ap (λ b. cond b 1 0 + count_by p xs) h

pub count_one : {X : Type 0} (p : X → Bool) (xs : List X) (i : ℕ) (x : X) → slice_get xs i ≡ Some x → p x ≡ true → 1 ≤ count_by p xs
count_one p [] i x at h = cc
count_one p (y ∷ xs) zero x at h = let c = first_counts p y xs (ap p (same_Some y x at) ∙ h) in omega (arith, c)
count_one p (y ∷ xs) (suc i) x at h = let l = count_one p xs i x at h in let c = count_cons p y xs in omega (arith, c, l)

pub count_two : {X : Type 0} (p : X → Bool) (xs : List X) (i j : ℕ) (x y : X) → slice_get xs i ≡ Some x → slice_get xs j ≡ Some y → p x ≡ true → p y ≡ true → i ≢ j → 2 ≤ count_by p xs
count_two p [] i j x y at there h k n = cc
count_two p (z ∷ xs) zero zero x y at there h k n = absurd (n refl)
count_two p (z ∷ xs) zero (suc j) x y at there h k n =
    let c = first_counts p z xs (ap p (same_Some z x at) ∙ h) in let l = count_one p xs j y there k in omega (arith, c, l)
count_two p (z ∷ xs) (suc i) zero x y at there h k n =
    let c = first_counts p z xs (ap p (same_Some z y there) ∙ k) in let l = count_one p xs i x at h in omega (arith, c, l)
count_two p (z ∷ xs) (suc i) (suc j) x y at there h k n = let l = count_two p xs i j x y at there h k (λ e. n (ap suc e)) in let c = count_cons p z xs in omega (arith, c, l)

pub any_at : {X : Type 0} (p : X → Bool) (xs : List X) (i : ℕ) (x : X) → slice_get xs i ≡ Some x → p x ≡ true → list_any p xs ≡ true
any_at p [] i x at h = cc
any_at p (y ∷ xs) zero x at h = or_left (p y) (list_any p xs) (ap p (same_Some y x at) ∙ h)
any_at p (y ∷ xs) (suc i) x at h = or_right (p y) (list_any p xs) (any_at p xs i x at h)

-- ---- an agent's objective
-- the block with this objective
pub record ObjectiveOf (a : Annot) (k v : ℕ) : Type 0 where
  pub block : Block
  pub is : slice_get a.blocks k ≡ Some block
  pub named : names_variable (block_variables block) v ≡ true
  pub role : objective_is block v ≡ true

pub objective_of : (m : Model) (a : Annot) (k v : ℕ) (s : Sense) → objective m a (block k) ≡ Some (s, v) → ObjectiveOf a k v
objective_of m a k v s h = go (slice_get a.blocks k) refl h
  where
    go : (o : Option Block) → slice_get a.blocks k ≡ o → block_objective o ≡ Some (s, v) → ObjectiveOf a k v
    go None at e = cc
    go (Some (Vi zeros pairs equs)) at e = cc
    go (Some (Agent t w vars equs)) at e =
        let same : nat_eq w.at v ≡ true = eq-eqb w.at v (ap (λ x. x.1) (same_Some (t, w.at) (s, v) e)) in
        record { block = Agent t w vars equs; is = at; named = or_left (nat_eq w.at v) (names_variable vars v) same; role = same }

-- in a file that breaks no rule the objective of a block is no implicit variable, and is named once
pub record OwnedOnce (m : Model) (a : Annot) (v : ℕ) : Type 0 where
  pub few : leader_namings m a v + owners_of a v + dual_namings a v ≤ 1

pub objective_once : (m : Model) (a : Annot) (k v : ℕ) → IsKept m a → v < length m.variables → ObjectiveOf a k v → OwnedOnce m a v
objective_once m a k v kept l o = record { few = go (cases_Bool (is_implicit a v)) }
  where
    twice : owned_twice m a v ≡ false
    twice = kept.0.0.0.0.0.0.0.0.0.1 v l

    used : implicit_use m a v ≡ false
    used = kept.0.1 v l

    role : has_role a v ≡ true
    role = any_at (λ b. objective_is b v || pair_names b v) a.blocks k o.block o.is (or_left (objective_is o.block v) (pair_names o.block v) o.role)

    owned : some_block_owns a v ≡ true
    owned = any_at (λ b. names_variable (block_variables b) v) a.blocks k o.block o.is o.named

    sum : is_twice (leader_namings m a v + own_namings a v + dual_namings a v) ≡ false
    sum =
        (or_parts (is_twice (leader_namings m a v + own_namings a v + dual_namings a v)) (list_any (λ b. is_twice (variable_times v (block_variables b))) a.blocks)
        (or_parts (is_twice (leader_namings m a v + own_namings a v + dual_namings a v) || list_any (λ b. is_twice (variable_times v (block_variables b))) a.blocks) (is_twice (count_by (λ i. nat_eq i.0.at v) a.implicits)) twice).0).0

    go : (is_implicit a v ≡ true) ⊎ (is_implicit a v ≡ false) → leader_namings m a v + owners_of a v + dual_namings a v ≤ 1
    go (inl h) = absurd (false≢true (sym used ∙ and_from (is_implicit a v) (not (some_block_owns a v) || has_role a v || is_leaders m a v || is_dual a v) h (or_left (not (some_block_owns a v) || has_role a v || is_leaders m a v) (is_dual a v) (or_left (not (some_block_owns a v) || has_role a v) (is_leaders m a v) (or_right (not (some_block_owns a v)) (has_role a v) role)))))
    go (inr h) =
        let same : own_namings a v ≡ owners_of a v = ap (λ b. cond b (cond (some_block_owns a v) 1 0) (owners_of a v)) h in
        let below = leb-false 2 (leader_namings m a v + own_namings a v + dual_namings a v) sum in
        omega (arith, same, below)

-- ---- one party alone
pub owner_at : (m : Model) (a : Annot) (k v : ℕ) → owns m a (block k) v ≡ true → (b : Block) × (slice_get a.blocks k ≡ Some b) × (names_variable (block_variables b) v ≡ true)
owner_at m a k v h = go (slice_get a.blocks k) refl h
  where
    go : (o : Option Block) → slice_get a.blocks k ≡ o → block_owns o v ≡ true → (b : Block) × (slice_get a.blocks k ≡ Some b) × (names_variable (block_variables b) v ≡ true)
    go None at e = absurd (false≢true e)
    go (Some b) at e = (b, at, e)

pub one_block : (m : Model) (a : Annot) (k j v : ℕ) (s : Sense) → IsKept m a → v < length m.variables → objective m a (block k) ≡ Some (s, v) → owns m a (block j) v ≡ true → k ≡ j
one_block m a k j v s kept l is h = go (cases_eq k j)
  where
    go : (k ≡ j) ⊎ (k ≢ j) → k ≡ j
    go (inl same) = same
    go (inr other) =
        let o = objective_of m a k v s is in
        let w = owner_at m a j v h in
        let few = (objective_once m a k v kept l o).few in
        let two = count_two (λ b. names_variable (block_variables b) v) a.blocks k j o.block w.0 o.is w.1 o.named w.2 other in
        absurd (omega (arith, few, two))

pub named_leader : (m : Model) (a : Annot) (v : ℕ) → a.bilevel ≡ true → is_goal m v ≡ true → 1 ≤ leader_namings m a v
named_leader m a v b g =
    let same : leader_namings m a v ≡ max 1 (variable_times v a.leader) = ap₂ (λ x y. cond x (cond y (max 1 (variable_times v a.leader)) (variable_times v a.leader)) 0) b g in
    omega (arith, same)

pub goal_named : (m : Model) (v : ℕ) (s : Sense) → goal_objective m.goal ≡ Some (s, v) → is_goal m v ≡ true
goal_named m v s h = go m.goal refl h
  where
    go : (g : Option (Sense × VarId)) → m.goal ≡ g → goal_objective g ≡ Some (s, v) → is_goal m v ≡ true
    go None at e = cc
    go (Some g) at e = rw at (eq-eqb g.1.at v (ap (λ x. x.1) (same_Some (g.0, g.1.at) (s, v) e)))

pub not_leader : (m : Model) (a : Annot) (k v : ℕ) (s t : Sense) → IsKept m a → v < length m.variables → objective m a (block k) ≡ Some (s, v) → a.bilevel ≡ true → objective m a leader ≡ Some (t, v) → ⊥
not_leader m a k v s t kept l is b goal =
    let o = objective_of m a k v s is in
    let few = (objective_once m a k v kept l o).few in
    let one = named_leader m a v b (goal_named m v t goal) in
    let two = count_one (λ b. names_variable (block_variables b) v) a.blocks k o.block o.is o.named in
    omega (arith, few, one, two)

-- ---- the objectives are variables of the model
pub objective_fits : (m : Model) (a : Annot) (k v : ℕ) (s : Sense) → AnnotFits m a → objective m a (block k) ≡ Some (s, v) → v < length m.variables
objective_fits m a k v s fits h = go (slice_get a.blocks k) refl h
  where
    go : (o : Option Block) → slice_get a.blocks k ≡ o → block_objective o ≡ Some (s, v) → v < length m.variables
    go None at e = cc
    go (Some (Vi zeros pairs equs)) at e = cc
    go (Some (Agent t w vars equs)) at e =
        let same : w.at ≡ v = ap (λ x. x.1) (same_Some (t, w.at) (s, v) e) in
        let there : slice_get a.blocks k ≡ Some (get_or a.blocks k (Agent t w vars equs)) = slice_get-get_or a.blocks k (Agent t w vars equs) (slice_get_within a.blocks k (Agent t w vars equs) at) in
        let fit : BlockFits (length m.variables) (length m.equations) (get_or a.blocks k (Agent t w vars equs)) = fits.blocks k (Agent t w vars equs) (slice_get_within a.blocks k (Agent t w vars equs) at) in
        let here : BlockFits (length m.variables) (length m.equations) (Agent t w vars equs) = subst (λ (b : Block). BlockFits (length m.variables) (length m.equations) b) (same_Some (get_or a.blocks k (Agent t w vars equs)) (Agent t w vars equs) (sym there ∙ at)) fit in
        subst (λ n. n < length m.variables) same here.0

pub leader_fits : (m : Model) (v : ℕ) (s : Sense) → GoalFits m → goal_objective m.goal ≡ Some (s, v) → v < length m.variables
leader_fits m v s fits h = go m.goal refl h
  where
    go : (g : Option (Sense × VarId)) → m.goal ≡ g → goal_objective g ≡ Some (s, v) → v < length m.variables
    go None at e = cc
    go (Some g) at e = subst (λ n. n < length m.variables) (ap (λ x. x.1) (same_Some (g.0, g.1.at) (s, v) e)) (fit g at)
      where
        fit : (g : Sense × VarId) → m.goal ≡ Some g → g.1.at < length m.variables
        fit g at = simp at at fits
