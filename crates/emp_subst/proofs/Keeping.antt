-- What the problem of a file keeps.
use Rattle.std.proofs.Common.{◌≡◌, ◌≢◌, ◌⊎◌, inl, inr, ℕ, zero, suc, ◌+◌, ◌<◌, ◌≤◌, Bool, true, false, ◌&&◌, ◌||◌, not, cond, nat_eq, List, [], ◌∷◌, ◌++◌, All, length, get_or, map, Option, Some, None, length-append, arith, refl, sym, ap, ap₂, subst, ◌∙◌}
use Rattle.std.specs.Prelude.{slice_get, filter}
use Rattle.std.specs.List.{list_any, count_by}
use Rattle.std.proofs.lemmas.Bool.{eq-eqb, ne_eqb, and_parts, and_from, or_cases, or_parts, or_left, or_right, leb-false, not-true, cases_eq, cases_Bool, false≢true, false_from_ne_true}
use Rattle.std.proofs.lemmas.List.{length-map}
use Rattle.std.proofs.lemmas.Option.{same_Some, slice_get_within, slice_get-get_or}
use Rattle.emp_ast.specs.declared.tree.VarId.{VarId}
use Rattle.emp_ast.specs.declared.tree.EquId.{EquId}
use Rattle.emp_ast.specs.declared.model.Variable.{Variable}
use Rattle.emp_ast.specs.declared.model.Model.{Model}
use Rattle.emp_ast.specs.declared.annot.Block.{Block}
use Rattle.emp_ast.specs.declared.annot.Block.TheVariants.{Agent, Vi}
use Rattle.emp_ast.specs.declared.annot.Annot.{Annot}
use Rattle.emp_ast.specs.Parties.{leader, block, objective, owns, block_owns, block_variables, names_variable, is_goal, is_dual, has_no_bound, is_implicit_equation, ties, some_block_owns, is_defined, is_defined_of, is_defined_by, some_block_defines}
use Rattle.emp_ast.specs.Occurrence.{occurrences}
use Rattle.emp_ast.specs.Convex.{counted, counted_by}
use Rattle.emp_owner.specs.Rules.{is_implicit, leader_namings, owners_of, own_namings, dual_namings, is_twice, variable_times, has_role, is_leaders, implicit_use}
use Rattle.emp_owner.specs.Settled.{IsKept}
use Rattle.emp_poly.specs.declared.quad.Lin.{Lin}
use Rattle.emp_problem.specs.declared.problem.Purpose.{Purpose}
use Rattle.emp_problem.specs.declared.problem.Purpose.TheVariants.{Goal, Flow}
use Rattle.emp_problem.specs.declared.problem.BlockPart.{BlockPart}
use Rattle.emp_problem.specs.declared.problem.LeaderPart.{LeaderPart}
use Rattle.emp_problem.specs.declared.problem.AgentProblem.{AgentProblem}
use Rattle.emp_problem.specs.Left.{left_from, left, place_in, leader_own, block_flow}
use Rattle.emp_problem.specs.Problem.{left_of, place_of, HasFunctions, LeaderFits}
use Rattle.emp_problem.specs.ProblemOf.{left_variable, AreFlowsFor, IsPurposeFor, IsBlockFor, LeadsFor, IsProblemOf}
use Rattle.emp_problem.specs.Class.{VariablesFit, BlockFits, AnnotFits, IsClassFile}
use Rattle.emp_subst.specs.Keeps.{RisesFrom}
use Rattle.emp_subst.proofs.Constraints.{all_cons, all_head, all_tail, all_append, all_filter, all_map}
use Rattle.emp_subst.proofs.Defined.{defines_parts}
use Rattle.emp_subst.proofs.Owners.{count_one, one_block, named_leader, owner_at, goal_named}
use Rattle.emp_subst.proofs.Turning.{defined_objective, part_count, block_at}
use Rattle.emp_subst.proofs.Absent.{DefinedBy, defined_by}
use Rattle.emp_subst.proofs.Filled.{LeftEntry, left_entry}
use Rattle.emp_subst.proofs.LeftLists.{same_default}

-- ---- the variables that are left
numbers : (m : Model) (vs : List ℕ) → map (λ v. v.variable.at) (map (left_variable m) vs) ≡ vs
numbers m [] = refl
numbers m (v ∷ vs) = ap (λ ys. v ∷ ys) (numbers m vs)

left_is : (m : Model) (a : Annot) (pr : AgentProblem) → IsProblemOf m a pr → left_of pr ≡ left m a
left_is m a pr h = ap (map (λ v. v.variable.at)) h.variables ∙ numbers m (left m a)

count_is : (m : Model) (a : Annot) (pr : AgentProblem) → IsProblemOf m a pr → length pr.variables ≡ length (left m a)
count_is m a pr h = ap length h.variables ∙ length-map (left m a) (left_variable m)

from_less : (vs : List ℕ) (n k : ℕ) → n ≤ k → RisesFrom k vs → RisesFrom n vs
from_less [] n k l h = tt
from_less (v ∷ vs) n k l h = (let j = h.0 in omega arith, h.1)

rises : (m : Model) (a : Annot) (at : ℕ) (xs : List Variable) → RisesFrom at (left_from m a at xs)
rises m a at [] = tt
rises m a at (x ∷ xs) = go (is_defined m a at) (rises m a (at + 1) xs)
  where
    go : (b : Bool) → RisesFrom (at + 1) (left_from m a (at + 1) xs) → RisesFrom at (cond b (left_from m a (at + 1) xs) (at ∷ left_from m a (at + 1) xs))
    go true h = from_less (left_from m a (at + 1) xs) at (at + 1) (omega arith) h
    go false h = let e : at + 1 ≡ suc at = omega arith in (omega arith, subst (λ n. RisesFrom n (left_from m a (at + 1) xs)) e h)

few_left : (m : Model) (a : Annot) (at : ℕ) (xs : List Variable) → length (left_from m a at xs) ≤ length xs
few_left m a at [] = omega arith
few_left m a at (x ∷ xs) = go (is_defined m a at) (few_left m a (at + 1) xs)
  where
    go : (b : Bool) → length (left_from m a (at + 1) xs) ≤ length xs → length (cond b (left_from m a (at + 1) xs) (at ∷ left_from m a (at + 1) xs)) ≤ suc (length xs)
    go true h = omega arith
    go false h = omega arith

placed : (m : Model) (a : Annot) (at : ℕ) (xs : List Variable) (v : ℕ) → at ≤ v → v < at + length xs → is_defined m a v ≡ false → place_in (left_from m a at xs) v < length (left_from m a at xs)
placed m a at [] v l k free = absurd (omega arith)
placed m a at (x ∷ xs) v l k free = go (cases_eq at v) (is_defined m a at) refl (λ below. placed m a (at + 1) xs v below (omega arith) free)
  where
    go : (at ≡ v) ⊎ (at ≢ v) → (b : Bool) → is_defined m a at ≡ b → (at + 1 ≤ v → place_in (left_from m a (at + 1) xs) v < length (left_from m a (at + 1) xs)) → place_in (cond b (left_from m a (at + 1) xs) (at ∷ left_from m a (at + 1) xs)) v < length (cond b (left_from m a (at + 1) xs) (at ∷ left_from m a (at + 1) xs))
    go (inl same) true is rest = absurd (false≢true (sym free ∙ (ap (is_defined m a) (sym same) ∙ is)))
    go (inl same) false is rest = subst (λ b. cond b 0 (suc (place_in (left_from m a (at + 1) xs) v)) < suc (length (left_from m a (at + 1) xs))) (sym (eq-eqb at v same)) (omega arith)
    go (inr other) true is rest = rest (omega arith)
    go (inr other) false is rest = subst (λ b. cond b 0 (suc (place_in (left_from m a (at + 1) xs) v)) < suc (length (left_from m a (at + 1) xs))) (sym (ne_eqb at v other)) (let j = rest (omega arith) in omega arith)

place_there : (m : Model) (a : Annot) (pr : AgentProblem) (v : VarId) → IsProblemOf m a pr → v.at < length m.variables → is_defined m a v.at ≡ false → place_of pr v < length pr.variables
place_there m a pr v h l free =
    subst (λ vs. place_in vs v.at < length pr.variables) (sym (left_is m a pr h))
    (let j = placed m a 0 m.variables v.at (omega arith) (omega arith) free in let n = count_is m a pr h in omega (arith, j, n))

-- ---- own variables
-- the solve objective of a bilevel file is no block's
goal_no_block : (m : Model) (a : Annot) (k v : ℕ) → IsKept m a → v < length m.variables → a.bilevel ≡ true → is_goal m v ≡ true → owns m a (block k) v ≡ true → ⊥
goal_no_block m a k v kept l b g own = go (cases_Bool (is_implicit a v))
  where
    leads : is_leaders m a v ≡ true
    leads = and_from a.bilevel (is_goal m v || names_variable a.leader v) b (or_left (is_goal m v) (names_variable a.leader v) g)

    used : implicit_use m a v ≡ false
    used = kept.0.1 v l

    sum : is_twice (leader_namings m a v + own_namings a v + dual_namings a v) ≡ false
    sum =
        (or_parts (is_twice (leader_namings m a v + own_namings a v + dual_namings a v)) (list_any (λ b. is_twice (variable_times v (block_variables b))) a.blocks)
        (or_parts (is_twice (leader_namings m a v + own_namings a v + dual_namings a v) || list_any (λ b. is_twice (variable_times v (block_variables b))) a.blocks) (is_twice (count_by (λ i. nat_eq i.0.at v) a.implicits)) (kept.0.0.0.0.0.0.0.0.0.1 v l)).0).0

    go : (is_implicit a v ≡ true) ⊎ (is_implicit a v ≡ false) → ⊥
    go (inl h) = false≢true (sym used ∙ and_from (is_implicit a v) (not (some_block_owns a v) || has_role a v || is_leaders m a v || is_dual a v) h (or_left (not (some_block_owns a v) || has_role a v || is_leaders m a v) (is_dual a v) (or_right (not (some_block_owns a v) || has_role a v) (is_leaders m a v) leads)))
    go (inr h) =
        let same : own_namings a v ≡ owners_of a v = ap (λ b. cond b (cond (some_block_owns a v) 1 0) (owners_of a v)) h in
        let below = leb-false 2 (leader_namings m a v + own_namings a v + dual_namings a v) sum in
        let one = named_leader m a v b g in
        let w = owner_at m a k v own in
        let two = count_one (λ b. names_variable (block_variables b) v) a.blocks k w.0 w.1 w.2 in
        omega (arith, same, below, one, two)

own_free : (m : Model) (a : Annot) (k v : ℕ) → IsKept m a → v < length m.variables → owns m a (block k) v ≡ true → is_defined_of m a (block k) v ≡ false → is_defined m a v ≡ false
own_free m a k v kept l own free = false_from_ne_true (is_defined m a v) (λ h. go (or_cases (some_block_defines m a v (length a.blocks)) (a.bilevel && is_defined_of m a leader v) h))
  where
    some : (n : ℕ) → some_block_defines m a v n ≡ true → ⊥
    some zero h = false≢true h
    some (suc n) h = here (or_cases (is_defined_of m a (block n) v) (some_block_defines m a v n) h) (some n)
      where
        here : (is_defined_of m a (block n) v ≡ true) ⊎ (some_block_defines m a v n ≡ true) → (some_block_defines m a v n ≡ true → ⊥) → ⊥
        here (inl d) rest =
            let s = defined_objective m a (block n) v d in
            let same : n ≡ k = one_block m a n k v s.0 kept l s.1 own in
            false≢true (sym free ∙ (ap (λ j. is_defined_of m a (block j) v) (sym same) ∙ d))
        here (inr later) rest = rest later

    go : (some_block_defines m a v (length a.blocks) ≡ true) ⊎ ((a.bilevel && is_defined_of m a leader v) ≡ true) → ⊥
    go (inl h) = some (length a.blocks) h
    go (inr h) =
        let both = and_parts a.bilevel (is_defined_of m a leader v) h in
        let s = defined_objective m a leader v both.1 in
        goal_no_block m a k v kept l both.0 (goal_named m v s.0 s.1) own

self_named : (vs : List VarId) → All (λ v. names_variable vs v.at ≡ true) vs
self_named [] i d l = absurd (omega arith)
self_named (v ∷ vs) zero d l = or_left (nat_eq v.at v.at) (names_variable vs v.at) (eq-eqb v.at v.at refl)
self_named (v ∷ vs) (suc i) d l = or_right (nat_eq v.at (get_or vs i d).at) (names_variable vs (get_or vs i d).at) (self_named vs i d (omega arith))

pub block_fit : (v n : ℕ) (b : Block) → BlockFits v n b → VariablesFit v (block_variables b)
block_fit v n (Agent s w vars equs) h = all_cons (λ x. x.at < v) w vars h.0 h.1
block_fit v n (Vi zeros pairs equs) h = all_append (λ x. x.at < v) zeros (map (λ q. q.1) pairs) h.0 (all_map (λ q. q.1) (λ q. (q.0.at < n) × (q.1.at < v)) (λ x. x.at < v) (λ q k. k.1) pairs h.1)

all_both : {X : Type 0} (P Q R : X → Type 0) → ((x : X) → P x → Q x → R x) → (xs : List X) → All P xs → All Q xs → All R xs
all_both P Q R f xs h k i d l = f (get_or xs i d) (h i d l) (k i d l)

-- what passes a test and has P
all_passing : {X : Type 0} (P Q : X → Type 0) (p : X → Bool) → ((x : X) → p x ≡ true → P x → Q x) → (xs : List X) → All P xs → All Q (filter p xs)
all_passing P Q p f [] h = λ i d l. absurd (omega arith)
all_passing P Q p f (x ∷ xs) h = go (p x) refl (all_passing P Q p f xs (all_tail P x xs h))
  where
    go : (b : Bool) → p x ≡ b → All Q (filter p xs) → All Q (cond b (x ∷ filter p xs) (filter p xs))
    go true is k = all_cons Q x (filter p xs) (f x is (all_head P x xs h)) k
    go false is k = k

pub fit_at : (m : Model) (a : Annot) (k : ℕ) (b : Block) → AnnotFits m a → slice_get a.blocks k ≡ Some b → BlockFits (length m.variables) (length m.equations) b
fit_at m a k b fits at =
    let l = slice_get_within a.blocks k b at in
    subst (λ (c : Block). BlockFits (length m.variables) (length m.equations) c) (same_Some (get_or a.blocks k b) b (sym (slice_get-get_or a.blocks k b l) ∙ at)) (fits.blocks k b l)

counted_placed : (m : Model) (a : Annot) (pr : AgentProblem) (k : ℕ) (b : Block) → IsClassFile m a → IsProblemOf m a pr → slice_get a.blocks k ≡ Some b → All (λ v. place_of pr v < length pr.variables) (counted m a k)
counted_placed m a pr k b class problem at =
    subst (λ o. All (λ v. place_of pr v < length pr.variables) (counted_by m a k o)) (sym at)
    (all_passing (λ v. (v.at < length m.variables) × (names_variable (block_variables b) v.at ≡ true)) (λ v. place_of pr v < length pr.variables) (λ v. not (is_defined_of m a (block k) v.at))
    (λ v free h. place_there m a pr v problem h.0 (own_free m a k v.at class.kept h.0 (ap (λ o. block_owns o v.at) at ∙ h.1) (not-true (is_defined_of m a (block k) v.at) free)))
    (block_variables b) (all_both (λ v. v.at < length m.variables) (λ v. names_variable (block_variables b) v.at ≡ true) (λ v. (v.at < length m.variables) × (names_variable (block_variables b) v.at ≡ true)) (λ v x y. (x, y)) (block_variables b) (block_fit (length m.variables) (length m.equations) b (fit_at m a k b class.fits at)) (self_named (block_variables b))))

-- each part with its block
pub parts_all : (m : Model) (a : Annot) (pr : AgentProblem) (P : BlockPart → Type 0) → IsProblemOf m a pr → ((k : ℕ) (b : Block) (p : BlockPart) → slice_get a.blocks k ≡ Some b → IsBlockFor m a k b p → P p) → All P pr.blocks
parts_all m a pr P problem f i d l =
    let c = part_count m a pr problem in
    let b = block_there a.blocks i (omega arith) in
    f i b.0 (get_or pr.blocks i d) b.1 (block_at m a pr i b.0 (get_or pr.blocks i d) problem b.1 (slice_get-get_or pr.blocks i d l))
  where
    block_there : {X : Type 0} (xs : List X) (n : ℕ) → n < length xs → (x : X) × (slice_get xs n ≡ Some x)
    block_there [] n l = absurd (omega arith)
    block_there (x ∷ xs) zero l = (x, refl)
    block_there (x ∷ xs) (suc n) l = block_there xs n (omega arith)

pub own_keeps : (m : Model) (a : Annot) (pr : AgentProblem) → IsClassFile m a → IsProblemOf m a pr → All (λ b. All (λ v. place_of pr v < length pr.variables) b.own) pr.blocks
own_keeps m a pr class problem =
    parts_all m a pr (λ b. All (λ v. place_of pr v < length pr.variables) b.own) problem (λ k b p at is. subst (λ vs. All (λ v. place_of pr v < length pr.variables) vs) (sym is.own) (counted_placed m a pr k b class problem at))

-- ---- functions
flows_count : (m : Model) (gs : List (Option ℕ)) (ls : List Lin) → AreFlowsFor m gs ls → length ls ≡ length gs
flows_count m [] [] h = refl
flows_count m [] (l ∷ ls) h = absurd h
flows_count m (g ∷ gs) [] h = absurd h
flows_count m (g ∷ gs) (l ∷ ls) h = ap suc (flows_count m gs ls h.1)

pass_all : {X : Type 0} (p : X → Bool) → ((x : X) → p x ≡ true) → (xs : List X) → filter p xs ≡ xs
pass_all p h [] = refl
pass_all p h (x ∷ xs) = ap (λ b. cond b (x ∷ filter p xs) (filter p xs)) (h x) ∙ ap (λ ys. x ∷ ys) (pass_all p h xs)

functions_at : (m : Model) (a : Annot) (k : ℕ) (b : Block) (own : List VarId) (p : Purpose) → slice_get a.blocks k ≡ Some b → own ≡ counted m a k → IsPurposeFor m a k b p → HasFunctions own p
functions_at m a k (Agent s w vars equs) own (Goal q) at is h = tt
functions_at m a k (Agent s w vars equs) own (Flow fs) at is h = absurd h
functions_at m a k (Vi zeros pairs equs) own (Goal q) at is h = absurd h
functions_at m a k (Vi zeros pairs equs) own (Flow fs) at is h =
    let none : (v : VarId) → not (is_defined_of m a (block k) v.at) ≡ true = λ v. subst (λ o. not (is_defined_by m a (block k) v.at o) ≡ true) (sym (objective_none at)) refl in
    let all : own ≡ zeros ++ map (λ q. q.1) pairs = is ∙ (ap (counted_by m a k) at ∙ pass_all (λ v. not (is_defined_of m a (block k) v.at)) none (zeros ++ map (λ q. q.1) pairs)) in
    let mine : length own ≡ length zeros + length pairs = ap length all ∙ (length-append zeros (map (λ q. q.1) pairs) ∙ ap (λ n. length zeros + n) (length-map pairs (λ q. q.1))) in
    let theirs : length (block_flow (Vi zeros pairs equs)) ≡ length zeros + length pairs =
    length-append (map (λ z. None) zeros) (map (λ q. Some q.0.at) pairs) ∙ ap₂ (λ n j. n + j) (length-map zeros (λ z. None)) (length-map pairs (λ q. Some q.0.at)) in
    flows_count m (block_flow (Vi zeros pairs equs)) fs h ∙ (theirs ∙ sym mine)
  where
    objective_none : slice_get a.blocks k ≡ Some (Vi zeros pairs equs) → objective m a (block k) ≡ None
    objective_none e = rw e refl

pub functions_keep : (m : Model) (a : Annot) (pr : AgentProblem) → IsProblemOf m a pr → All (λ b. HasFunctions b.own b.purpose) pr.blocks
functions_keep m a pr problem = parts_all m a pr (λ b. HasFunctions b.own b.purpose) problem (λ k b p at is. functions_at m a k b p.own p.purpose at is.own is.purpose)

-- ---- dual variables
defined_no_dual : (m : Model) (a : Annot) (v : ℕ) → is_defined m a v ≡ true → is_dual a v ≡ false
defined_no_dual m a v h =
    let by : DefinedBy m a v = defined_by m a v h in
    let can = (defines_parts m a by.party (by.sense, v) by.number by.objective by.defines).0 in
    let bound = has_no_bound (slice_get m.variables v) in
    let one = and_parts (bound && not (is_dual a v) && nat_eq (occurrences v m.equations) 1 && ties v (slice_get m.equations by.number)) (not (is_implicit_equation a by.number)) can in
    let two = and_parts (bound && not (is_dual a v) && nat_eq (occurrences v m.equations) 1) (ties v (slice_get m.equations by.number)) one.0 in
    let three = and_parts (bound && not (is_dual a v)) (nat_eq (occurrences v m.equations) 1) two.0 in
    not-true (is_dual a v) (and_parts bound (not (is_dual a v)) three.0).1

dual_there : (ds : List (VarId × EquId)) → All (λ d. list_any (λ x. nat_eq x.0.at d.0.at) ds ≡ true) ds
dual_there [] i d l = absurd (omega arith)
dual_there (d ∷ ds) zero e l = or_left (nat_eq d.0.at d.0.at) (list_any (λ x. nat_eq x.0.at d.0.at) ds) (eq-eqb d.0.at d.0.at refl)
dual_there (d ∷ ds) (suc i) e l = or_right (nat_eq d.0.at (get_or ds i e).0.at) (list_any (λ x. nat_eq x.0.at (get_or ds i e).0.at) ds) (dual_there ds i e (omega arith))

pub duals_keep : (m : Model) (a : Annot) (pr : AgentProblem) → IsClassFile m a → IsProblemOf m a pr → All (λ d. place_of pr d.0 < length pr.variables) pr.duals
duals_keep m a pr class problem =
    subst (λ ds. All (λ d. place_of pr d.0 < length pr.variables) ds) (sym problem.duals)
    (all_both (λ d. (d.0.at < length m.variables) × (d.1.at < length m.equations)) (λ d. is_dual a d.0.at ≡ true) (λ d. place_of pr d.0 < length pr.variables)
    (λ d fit dual. place_there m a pr d.0 problem fit.0 (false_from_ne_true (is_defined m a d.0.at) (λ h. false≢true (sym (defined_no_dual m a d.0.at h) ∙ dual))))
    a.duals class.fits.duals (dual_there a.duals))

-- ---- the leader
all_left : (m : Model) (a : Annot) → All (λ v. (v < length m.variables) × (is_defined m a v ≡ false)) (left m a)
all_left m a i d l =
    let h : LeftEntry m a [] i = left_entry m a [] i l in
    subst (λ v. (v < length m.variables) × (is_defined m a v ≡ false)) (same_default (left m a) i 0 d l) (h.inside, h.free)

pub leader_keeps : (m : Model) (a : Annot) (pr : AgentProblem) → IsProblemOf m a pr → LeaderFits pr pr.leader
leader_keeps m a pr problem = go a.bilevel pr.leader problem.leads
  where
    go : (b : Bool) (o : Option LeaderPart) → LeadsFor m a b o → LeaderFits pr o
    go true None h = absurd h
    go false None h = tt
    go false (Some l) h = absurd h
    go true (Some l) h =
        subst (λ vs. All (λ v. place_of pr v < length pr.variables) vs) (sym h.own)
        (all_map (λ v. record { at = v }) (λ v. (v < length m.variables) × (is_defined m a v ≡ false)) (λ v. place_of pr v < length pr.variables) (λ v k. place_there m a pr (record { at = v }) problem k.0 k.1) (leader_own m a)
        (all_filter (λ v. (v < length m.variables) × (is_defined m a v ≡ false)) (λ v. owns m a leader v) (left m a) (all_left m a)))

pub rising_keeps : (m : Model) (a : Annot) (pr : AgentProblem) → IsProblemOf m a pr → RisesFrom 0 (left_of pr)
rising_keeps m a pr problem = subst (λ vs. RisesFrom 0 vs) (sym (left_is m a pr problem)) (rises m a 0 m.variables)

pub few_keep : (m : Model) (a : Annot) (pr : AgentProblem) → IsProblemOf m a pr → length pr.variables ≤ length m.variables
few_keep m a pr problem = let n = count_is m a pr problem in let f = few_left m a 0 m.variables in omega (arith, n, f)
