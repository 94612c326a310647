-- A variable is the defined objective of one party at most, which is found.
use Rattle.std.proofs.Common.{◌≡◌, ◌⊎◌, inl, inr, ℕ, zero, suc, ◌<◌, ◌≤◌, true, cond, length, arith, refl, ap, ◌∙◌}
use Rattle.std.proofs.lemmas.Bool.{or_left, cases_lt, cond-true, cond-false, false_from_ne_true}
use Rattle.emp_ast.specs.declared.model.Model.{Model}
use Rattle.emp_ast.specs.declared.annot.Annot.{Annot}
use Rattle.emp_ast.specs.Parties.{Party, leader, block, names_variable, block_variables, some_block_owns, is_goal, is_defined_of}
use Rattle.emp_owner.specs.Rules.{is_implicit, owners_of, own_namings}
use Rattle.emp_owner.specs.Settled.{IsKept}
use Rattle.emp_meaning.specs.Ties.{IsParty}
use Rattle.emp_meaning.proofs.TieLists.{any_at, count_two}
use Rattle.emp_meaning.proofs.Places.{block_objective_at, goal_named, namings_short, objective_not_implicit, own_counted, goal_counted}

two_blocks : (m : Model) (a : Annot) (i j v : ℕ) → IsKept m a → v < length m.variables → is_defined_of m a (block i) v ≡ true → is_defined_of m a (block j) v ≡ true → i < j → ⊥
two_blocks m a i j v kept l h k order =
    let one = block_objective_at m a i v h in
    let two = block_objective_at m a j v k in
    let many = count_two (λ b. names_variable (block_variables b) v) a.blocks i j one.agent two.agent (λ e. omega (arith, order, e)) one.at two.at one.owned two.owned in
    let own : own_namings a v ≡ owners_of a v = cond-false (is_implicit a v) (cond (some_block_owns a v) 1 0) (owners_of a v) (objective_not_implicit m a kept v i l one) in
    let few = namings_short m a kept v l in
    omega (arith, few, many, own)

leader_and_block : (m : Model) (a : Annot) (k v : ℕ) → IsKept m a → v < length m.variables → a.bilevel ≡ true → is_defined_of m a leader v ≡ true → is_defined_of m a (block k) v ≡ true → ⊥
leader_and_block m a k v kept l bilevel h d =
    let agent = block_objective_at m a k v d in
    let one = own_counted a v (any_at (λ b. names_variable (block_variables b) v) a.blocks k agent.agent agent.at agent.owned) in
    let two = goal_counted m a v bilevel (or_left (is_goal m v) (names_variable a.leader v) (goal_named m a v h)) in
    let few = namings_short m a kept v l in
    omega (arith, few, one, two)

-- ---- the party
-- the last of the first n blocks that defines the variable, and else the leader
abbrev pub chosen : Model → Annot → ℕ → ℕ → Party
chosen m a v zero = leader
chosen m a v (suc k) = cond (is_defined_of m a (block k) v) (block k) (chosen m a v k)

chosen_leader : (m : Model) (a : Annot) (v n : ℕ) → ((k : ℕ) → is_defined_of m a (block k) v ≡ true → ⊥) → chosen m a v n ≡ leader
chosen_leader m a v zero none = refl
chosen_leader m a v (suc k) none = cond-false (is_defined_of m a (block k) v) (block k) (chosen m a v k) (false_from_ne_true (is_defined_of m a (block k) v) (none k)) ∙ chosen_leader m a v k none

chosen_block : (m : Model) (a : Annot) (v n k : ℕ) → k < n → is_defined_of m a (block k) v ≡ true → ((j : ℕ) → k < j → is_defined_of m a (block j) v ≡ true → ⊥) → chosen m a v n ≡ block k
chosen_block m a v zero k l h last = absurd (omega arith)
chosen_block m a v (suc n) k l h last = go (cases_lt k n) (λ s. chosen_block m a v n k s h last)
  where
    go : (k < n) ⊎ (n ≤ k) → (k < n → chosen m a v n ≡ block k) → chosen m a v (suc n) ≡ block k
    go (inl s) rest = cond-false (is_defined_of m a (block n) v) (block n) (chosen m a v n) (false_from_ne_true (is_defined_of m a (block n) v) (last n s)) ∙ rest s
    go (inr s) rest =
        let same : n ≡ k = omega arith in
        cond-true (is_defined_of m a (block n) v) (block n) (chosen m a v n) (ap (λ i. is_defined_of m a (block i) v) same ∙ h) ∙ ap block same

pub chosen_is : (m : Model) (a : Annot) (k : Party) (v : ℕ) → IsKept m a → v < length m.variables → IsParty a k → is_defined_of m a k v ≡ true → chosen m a v (length a.blocks) ≡ k
chosen_is m a leader v kept l party h = chosen_leader m a v (length a.blocks) (λ k d. leader_and_block m a k v kept l party h d)
chosen_is m a (block k) v kept l party h = chosen_block m a v (length a.blocks) k party h (λ j order d. two_blocks m a k j v kept l h d order)
