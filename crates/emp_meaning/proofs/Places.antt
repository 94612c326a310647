-- The variables that are left, their places, and that a defined objective is owned by its own party alone.
use Rattle.std.proofs.Common.{◌≡◌, ◌⊎◌, inl, inr, ℕ, zero, suc, ◌+◌, ◌<◌, ◌≤◌, max, Bool, true, false, cond, ◌&&◌, ◌||◌, not, nat_eq, List, [], ◌∷◌, length, Option, Some, None, arith, refl, sym, ap, subst, ◌∙◌}
use Rattle.std.specs.Prelude.{slice_get}
use Rattle.std.specs.List.{list_any, count_by}
use Rattle.std.proofs.lemmas.Bool.{eqb-true, and_parts, or_cases, or_parts, or_left, or_right, leb-false, false≢true, cases_eq}
use Rattle.emp_ast.specs.declared.tree.VarId.{VarId}
use Rattle.emp_ast.specs.declared.model.Variable.{Variable}
use Rattle.emp_ast.specs.declared.model.Sense.{Sense}
use Rattle.emp_ast.specs.declared.model.Model.{Model}
use Rattle.emp_ast.specs.declared.annot.Block.{Block}
use Rattle.emp_ast.specs.declared.annot.Block.TheVariants.{Agent, Vi}
use Rattle.emp_ast.specs.declared.annot.Annot.{Annot}
use Rattle.emp_ast.specs.Parties.{Party, leader, block, names_variable, block_variables, block_owns, some_block_owns, is_goal, is_dual, owns, block_objective, objective, equations, defines, is_defined_by, is_defined_of, some_block_defines, is_defined}
use Rattle.emp_owner.specs.Rules.{variable_times, is_twice, is_implicit, leader_namings, owners_of, own_namings, dual_namings, objective_is, pair_names, has_role, is_leaders, owned_twice, implicit_use}
use Rattle.emp_owner.specs.Settled.{IsKept}
use Rattle.emp_game.specs.Game.{names, AreApart}
use Rattle.emp_game.proofs.Slopes.{eqb_refl}
use Rattle.emp_problem.specs.Left.{left_from, left, place}
use Rattle.emp_problem.specs.Class.{IsClassFile}
use Rattle.emp_meaning.specs.Ties.{left_at, IsParty, Places}
use Rattle.emp_meaning.proofs.TieLists.{any_at, count_any, count_two, place_there, named_at, placed_at}

-- ---- the variables that are left
pub record IsLeft (m : Model) (a : Annot) (at n v : ℕ) : Type 0 where
  pub from : at ≤ v
  pub below : v < at + n
  pub free : is_defined m a v ≡ false

left_within : (m : Model) (a : Annot) (at : ℕ) (xs : List Variable) (v : ℕ) → names (left_from m a at xs) v ≡ true → IsLeft m a at (length xs) v
left_within m a at [] v h = absurd (false≢true h)
left_within m a at (x ∷ xs) v h = go (λ r. rest (left_within m a (at + 1) xs v r)) (is_defined m a at) refl
  where
    rest : IsLeft m a (at + 1) (length xs) v → IsLeft m a at (length (x ∷ xs)) v
    rest l =
        let from : at + 1 ≤ v = l.from in
        let below : v < at + 1 + length xs = l.below in
        record { from = omega arith; below = omega arith; free = l.free }

    go : (names (left_from m a (at + 1) xs) v ≡ true → IsLeft m a at (length (x ∷ xs)) v) → (b : Bool) → is_defined m a at ≡ b → IsLeft m a at (length (x ∷ xs)) v
    go on true e = on (sym (ap (λ (b : Bool). names (cond b (left_from m a (at + 1) xs) (at ∷ left_from m a (at + 1) xs)) v) e) ∙ h)
    go on false e = here (or_cases (nat_eq at v) (names (left_from m a (at + 1) xs) v) (sym (ap (λ (b : Bool). names (cond b (left_from m a (at + 1) xs) (at ∷ left_from m a (at + 1) xs)) v) e) ∙ h))
      where
        here : (nat_eq at v ≡ true) ⊎ (names (left_from m a (at + 1) xs) v ≡ true) → IsLeft m a at (length (x ∷ xs)) v
        here (inl s) = let same : at ≡ v = eqb-true at v s in record { from = omega arith; below = omega arith; free = ap (is_defined m a) (sym same) ∙ e }
        here (inr r) = on r

left_has : (m : Model) (a : Annot) (at : ℕ) (xs : List Variable) (v : ℕ) → at ≤ v → v < at + length xs → is_defined m a v ≡ false → names (left_from m a at xs) v ≡ true
left_has m a at [] v from below free = absurd (omega arith)
left_has m a at (x ∷ xs) v from below free = go (λ l. left_has m a (at + 1) xs v l (omega arith) free) (cases_eq at v)
  where
    later : List ℕ
    later = left_from m a (at + 1) xs

    go : (at + 1 ≤ v → names later v ≡ true) → (at ≡ v) ⊎ (at ≡ v → ⊥) → names (left_from m a at (x ∷ xs)) v ≡ true
    go on (inl e) = ap (λ (b : Bool). names (cond b later (at ∷ later)) v) (ap (is_defined m a) e ∙ free) ∙ or_left (nat_eq at v) (names later v) (ap (λ z. nat_eq at z) (sym e) ∙ eqb_refl at)
    go on (inr ne) = kept (is_defined m a at) (on (above at v from ne))
      where
        above : (i j : ℕ) → i ≤ j → (i ≡ j → ⊥) → i + 1 ≤ j
        above i j l n = grind (arith, l, n)

        kept : (b : Bool) → names later v ≡ true → names (cond b later (at ∷ later)) v ≡ true
        kept true r = r
        kept false r = or_right (nat_eq at v) (names later v) r

left_apart : (m : Model) (a : Annot) (at : ℕ) (xs : List Variable) → AreApart (left_from m a at xs)
left_apart m a at [] = tt
left_apart m a at (x ∷ xs) = go (is_defined m a at) (left_apart m a (at + 1) xs)
  where
    later : List ℕ
    later = left_from m a (at + 1) xs

    absent : (b : Bool) → names later at ≡ b → b ≡ false
    absent true h = absurd (let l = left_within m a (at + 1) xs at h in let from : at + 1 ≤ at = l.from in omega arith)
    absent false h = refl

    go : (b : Bool) → AreApart later → AreApart (cond b later (at ∷ later))
    go true r = r
    go false r = (absent (names later at) refl, r)

pub are_left_apart : (m : Model) (a : Annot) → AreApart (left m a)
are_left_apart m a = left_apart m a 0 m.variables

pub named_left : (m : Model) (a : Annot) (v : ℕ) → names (left m a) v ≡ true → (v < length m.variables) × (is_defined m a v ≡ false)
named_left m a v h = let l = left_within m a 0 m.variables v h in let below : v < 0 + length m.variables = l.below in (omega arith, l.free)

pub left_named : (m : Model) (a : Annot) (v : ℕ) → v < length m.variables → is_defined m a v ≡ false → names (left m a) v ≡ true
left_named m a v within free = left_has m a 0 m.variables v (omega arith) (let l : v < length m.variables = within in omega arith) free

-- ---- defined objectives
pub record Objective (m : Model) (a : Annot) (k : Party) (v : ℕ) : Type 0 where
  pub goal : Sense × ℕ
  pub is : objective m a k ≡ Some goal
  pub same : goal.1 ≡ v
  pub some : list_any (λ e. defines m a k e.at) (equations m a k) ≡ true

pub defined_objective : (m : Model) (a : Annot) (k : Party) (v : ℕ) → is_defined_of m a k v ≡ true → Objective m a k v
defined_objective m a k v h = go (objective m a k) refl h
  where
    go : (o : Option (Sense × ℕ)) → objective m a k ≡ o → is_defined_by m a k v o ≡ true → Objective m a k v
    go (Some w) e d =
        let parts = and_parts (nat_eq w.1 v) (list_any (λ e. defines m a k e.at) (equations m a k)) d in
        record { goal = w; is = e; same = eqb-true w.1 v parts.0; some = parts.1 }
    go None e d = absurd (false≢true d)

-- an agent, of which the variable is the objective
pub record AgentAt (a : Annot) (j v : ℕ) : Type 0 where
  pub agent : Block
  pub at : slice_get a.blocks j ≡ Some agent
  pub role : objective_is agent v ≡ true
  pub owned : names_variable (block_variables agent) v ≡ true

pub agent_at : (a : Annot) (j : ℕ) (w : Sense × ℕ) → block_objective (slice_get a.blocks j) ≡ Some w → AgentAt a j w.1
agent_at a j w h = go (slice_get a.blocks j) refl h
  where
    go : (o : Option Block) → slice_get a.blocks j ≡ o → block_objective o ≡ Some w → AgentAt a j w.1
    go (Some (Agent sense target vars equs)) e s =
        let same : target.at ≡ w.1 = cc in
        record {
          agent = Agent sense target vars equs;
          at = e;
          role = ap (λ z. nat_eq target.at z) (sym same) ∙ eqb_refl target.at;
          owned = or_left (nat_eq target.at w.1) (names_variable vars w.1) (ap (λ z. nat_eq target.at z) (sym same) ∙ eqb_refl target.at);
        }
    go (Some (Vi zeros pairs equs)) e s = cc
    go None e s = cc

pub block_objective_at : (m : Model) (a : Annot) (j v : ℕ) → is_defined_of m a (block j) v ≡ true → AgentAt a j v
block_objective_at m a j v h = let o = defined_objective m a (block j) v h in subst (AgentAt a j) o.same (agent_at a j o.goal o.is)

pub goal_named : (m : Model) (a : Annot) (v : ℕ) → is_defined_of m a leader v ≡ true → is_goal m v ≡ true
goal_named m a v h = go m.goal refl
  where
    o : Objective m a leader v
    o = defined_objective m a leader v h

    go : (g : Option (Sense × VarId)) → m.goal ≡ g → is_goal m v ≡ true
    go (Some g) e = grind arith
    go None e = cc

pub record DefinedBlock (m : Model) (a : Annot) (v n : ℕ) : Type 0 where
  pub number : ℕ
  pub below : number < n
  pub is : is_defined_of m a (block number) v ≡ true

pub some_defines : (m : Model) (a : Annot) (v n : ℕ) → some_block_defines m a v n ≡ true → DefinedBlock m a v n
some_defines m a v zero h = absurd (false≢true h)
some_defines m a v (suc n) h = go (or_cases (is_defined_of m a (block n) v) (some_block_defines m a v n) h) (λ r. some_defines m a v n r)
  where
    go : (is_defined_of m a (block n) v ≡ true) ⊎ (some_block_defines m a v n ≡ true) → (some_block_defines m a v n ≡ true → DefinedBlock m a v n) → DefinedBlock m a v (suc n)
    go (inl e) rest = record { number = n; below = omega arith; is = e }
    go (inr e) rest = let r = rest e in let below : r.number < n = r.below in record { number = r.number; below = omega arith; is = r.is }

pub defines_some : (m : Model) (a : Annot) (v n k : ℕ) → k < n → is_defined_of m a (block k) v ≡ true → some_block_defines m a v n ≡ true
defines_some m a v zero k l h = absurd (omega arith)
defines_some m a v (suc n) k l h = go (λ s. defines_some m a v n k s h) (cases_eq n k)
  where
    less : (k n : ℕ) → k < suc n → (n ≡ k → ⊥) → k < n
    less k n l ne = grind (arith, l, ne)

    go : (k < n → some_block_defines m a v n ≡ true) → (n ≡ k) ⊎ (n ≡ k → ⊥) → some_block_defines m a v (suc n) ≡ true
    go on (inl e) = or_left (is_defined_of m a (block n) v) (some_block_defines m a v n) (ap (λ i. is_defined_of m a (block i) v) e ∙ h)
    go on (inr ne) = or_right (is_defined_of m a (block n) v) (some_block_defines m a v n) (on (less k n l ne))

-- a party's defined objective is a defined variable
pub party_defines : (m : Model) (a : Annot) (k : Party) (v : ℕ) → IsParty a k → is_defined_of m a k v ≡ true → is_defined m a v ≡ true
party_defines m a leader v is h = or_right (some_block_defines m a v (length a.blocks)) (a.bilevel && is_defined_of m a leader v) (ap (λ b. b && is_defined_of m a leader v) is ∙ h)
party_defines m a (block k) v is h = or_left (some_block_defines m a v (length a.blocks)) (a.bilevel && is_defined_of m a leader v) (defines_some m a v (length a.blocks) k is h)

-- ---- no variable is named twice
kept_use : (m : Model) (a : Annot) → IsKept m a → (v : ℕ) → v < length m.variables → implicit_use m a v ≡ false
kept_use m a h v l = h.0.1 v l

pub namings_short : (m : Model) (a : Annot) → IsKept m a → (v : ℕ) → v < length m.variables → leader_namings m a v + own_namings a v < 2
namings_short m a h v l =
    let twice : owned_twice m a v ≡ false = h.0.0.0.0.0.0.0.0.0.1 v l in
    let three = leader_namings m a v + own_namings a v + dual_namings a v in
    let listed = list_any (λ b. is_twice (variable_times v (block_variables b))) a.blocks in
    let first = or_parts (is_twice three || listed) (is_twice (count_by (λ i. nat_eq i.0.at v) a.implicits)) twice in
    let less : three < 2 = leb-false 2 three (or_parts (is_twice three) listed first.0).0 in
    omega arith

-- an agent's objective is in no implicit pair
pub objective_not_implicit : (m : Model) (a : Annot) → IsKept m a → (v j : ℕ) → v < length m.variables → AgentAt a j v → is_implicit a v ≡ false
objective_not_implicit m a h v j l at = go (is_implicit a v) refl
  where
    role : has_role a v ≡ true
    role = any_at (λ b. objective_is b v || pair_names b v) a.blocks j at.agent at.at (or_left (objective_is at.agent v) (pair_names at.agent v) at.role)

    uses : ℕ → Bool
    uses v = not (some_block_owns a v) || has_role a v || is_leaders m a v || is_dual a v

    used : uses v ≡ true
    used = or_left (not (some_block_owns a v) || has_role a v || is_leaders m a v) (is_dual a v) (or_left (not (some_block_owns a v) || has_role a v) (is_leaders m a v) (or_right (not (some_block_owns a v)) (has_role a v) role))

    go : (b : Bool) → is_implicit a v ≡ b → is_implicit a v ≡ false
    go true e = absurd (false≢true (sym (kept_use m a h v l) ∙ (ap (λ b. b && uses v) e ∙ used)))
    go false e = e

pub own_counted : (a : Annot) (v : ℕ) → some_block_owns a v ≡ true → 1 ≤ own_namings a v
own_counted a v h = go (is_implicit a v) refl
  where
    go : (b : Bool) → is_implicit a v ≡ b → 1 ≤ own_namings a v
    go true e = subst (λ n. 1 ≤ n) (sym (ap (λ (b : Bool). cond b (cond (some_block_owns a v) 1 0) (owners_of a v)) e ∙ ap (λ (b : Bool). cond b 1 0) h)) (omega arith)
    go false e = subst (λ n. 1 ≤ n) (sym (ap (λ (b : Bool). cond b (cond (some_block_owns a v) 1 0) (owners_of a v)) e)) (count_any (λ b. names_variable (block_variables b) v) a.blocks h)

pub goal_counted : (m : Model) (a : Annot) (v : ℕ) → a.bilevel ≡ true → is_goal m v || names_variable a.leader v ≡ true → 1 ≤ leader_namings m a v
goal_counted m a v bilevel h = subst (λ n. 1 ≤ n) (sym (ap (λ (b : Bool). cond b (cond (is_goal m v) (max 1 (variable_times v a.leader)) (variable_times v a.leader)) 0) bilevel)) (go (is_goal m v) refl)
  where
    above : (n : ℕ) → 1 ≤ max 1 n
    above n = omega arith

    go : (b : Bool) → is_goal m v ≡ b → 1 ≤ cond (is_goal m v) (max 1 (variable_times v a.leader)) (variable_times v a.leader)
    go true e = subst (λ (b : Bool). 1 ≤ cond b (max 1 (variable_times v a.leader)) (variable_times v a.leader)) (sym e) (above (variable_times v a.leader))
    go false e = subst (λ (b : Bool). 1 ≤ cond b (max 1 (variable_times v a.leader)) (variable_times v a.leader)) (sym e) (count_any (λ x. nat_eq x.at v) a.leader (sym (ap (λ b. b || names_variable a.leader v) e) ∙ h))

record OwnerAt (a : Annot) (i v : ℕ) : Type 0 where
  pub owner : Block
  pub at : slice_get a.blocks i ≡ Some owner
  pub owned : names_variable (block_variables owner) v ≡ true

owner_at : (a : Annot) (i v : ℕ) → block_owns (slice_get a.blocks i) v ≡ true → OwnerAt a i v
owner_at a i v h = go (slice_get a.blocks i) refl h
  where
    go : (o : Option Block) → slice_get a.blocks i ≡ o → block_owns o v ≡ true → OwnerAt a i v
    go (Some b) e h = record { owner = b; at = e; owned = h }
    go None e h = absurd (false≢true h)

pub owner_owns : (a : Annot) (i v : ℕ) → block_owns (slice_get a.blocks i) v ≡ true → some_block_owns a v ≡ true
owner_owns a i v h = let o = owner_at a i v h in any_at (λ b. names_variable (block_variables b) v) a.blocks i o.owner o.at o.owned

-- ---- a defined objective is owned by its own party alone
own_of_block : (m : Model) (a : Annot) → IsKept m a → (k : Party) (v j : ℕ) → IsParty a k → v < length m.variables → owns m a k v ≡ true → is_defined_of m a (block j) v ≡ true → is_defined_of m a k v ≡ true
own_of_block m a h leader v j is l o d = absurd (let one = goal_counted m a v is (named leads) in let two = own_counted a v some in let less = namings_short m a h v l in omega arith)
  where
    at : AgentAt a j v
    at = block_objective_at m a j v d

    some : some_block_owns a v ≡ true
    some = any_at (λ b. names_variable (block_variables b) v) a.blocks j at.agent at.at at.owned

    leads : (is_goal m v || names_variable a.leader v ≡ true) ⊎ (not (some_block_owns a v) && not (is_dual a v) ≡ true)
    leads = or_cases (is_goal m v || names_variable a.leader v) (not (some_block_owns a v) && not (is_dual a v)) o

    named : (is_goal m v || names_variable a.leader v ≡ true) ⊎ (not (some_block_owns a v) && not (is_dual a v) ≡ true) → is_goal m v || names_variable a.leader v ≡ true
    named (inl e) = e
    named (inr e) = absurd (false≢true (sym (ap (λ b. not b && not (is_dual a v)) some) ∙ e))
own_of_block m a h (block i) v j is l o d = go (cases_eq i j)
  where
    at : AgentAt a j v
    at = block_objective_at m a j v d

    other : OwnerAt a i v
    other = owner_at a i v o

    go : (i ≡ j) ⊎ (i ≡ j → ⊥) → is_defined_of m a (block i) v ≡ true
    go (inl e) = ap (λ n. is_defined_of m a (block n) v) e ∙ d
    go (inr ne) =
        let two : 2 ≤ owners_of a v = count_two (λ b. names_variable (block_variables b) v) a.blocks i j other.owner at.agent ne other.at at.at other.owned at.owned in
        let same : own_namings a v ≡ owners_of a v = ap (λ (b : Bool). cond b (cond (some_block_owns a v) 1 0) (owners_of a v)) (objective_not_implicit m a h v j l at) in
        let less = namings_short m a h v l in
        absurd (omega arith)

own_of_leader : (m : Model) (a : Annot) → IsKept m a → (k : Party) (v : ℕ) → v < length m.variables → owns m a k v ≡ true → a.bilevel ≡ true → is_defined_of m a leader v ≡ true → is_defined_of m a k v ≡ true
own_of_leader m a h leader v l o bilevel d = d
own_of_leader m a h (block i) v l o bilevel d =
    let one = goal_counted m a v bilevel (or_left (is_goal m v) (names_variable a.leader v) (goal_named m a v d)) in
    let two = own_counted a v (owner_owns a i v o) in
    let less = namings_short m a h v l in
    absurd (omega arith)

pub own_defined : (m : Model) (a : Annot) → IsKept m a → (k : Party) (v : ℕ) → IsParty a k → v < length m.variables → owns m a k v ≡ true → is_defined m a v ≡ true → is_defined_of m a k v ≡ true
own_defined m a h k v is l o d = go (or_cases (some_block_defines m a v (length a.blocks)) (a.bilevel && is_defined_of m a leader v) d)
  where
    go : (some_block_defines m a v (length a.blocks) ≡ true) ⊎ (a.bilevel && is_defined_of m a leader v ≡ true) → is_defined_of m a k v ≡ true
    go (inl e) = let b = some_defines m a v (length a.blocks) e in own_of_block m a h k v b.number is l o b.is
    go (inr e) = let parts = and_parts a.bilevel (is_defined_of m a leader v) e in own_of_leader m a h k v l o parts.0 parts.1

pub places : (m : Model) (a : Annot) → IsClassFile m a → Places m a
places m a class = record { placed = λ v within free. place_there (left m a) v (left_named m a v within free); at = at; own = own_defined m a class.kept }
  where
    at : (i : ℕ) → i < length (left m a) → (left_at m a i < length m.variables) × (is_defined m a (left_at m a i) ≡ false) × (place m a (left_at m a i) ≡ i)
    at i l =
        let n = named_left m a (left_at m a i) (named_at (left m a) i l) in
        (n.0, n.1, placed_at (left m a) i (are_left_apart m a) l)
