-- The variables that are left and the own ones among them, as lists.
use Rattle.std.proofs.Common.{◌≡◌, ℕ, zero, suc, ◌+◌, ◌<◌, ◌≤◌, Bool, true, false, not, cond, List, [], ◌∷◌, ◌++◌, length, get_or, take, map, Option, Some, arith, refl, sym, ap, ap₂, ◌∙◌}
use Rattle.std.specs.Prelude.{slice_get, filter}
use Rattle.std.proofs.lemmas.List.{take_more, take_all, append-nil, map-append, length-take-le}
use Rattle.emp_ast.specs.declared.tree.VarId.{VarId}
use Rattle.emp_ast.specs.declared.tree.EquId.{EquId}
use Rattle.emp_ast.specs.declared.model.Variable.{Variable}
use Rattle.emp_ast.specs.declared.model.Model.{Model}
use Rattle.emp_ast.specs.declared.annot.Block.{Block}
use Rattle.emp_ast.specs.declared.annot.Annot.{Annot}
use Rattle.emp_ast.specs.Parties.{leader, block, owns, is_defined, is_defined_of, block_variables}
use Rattle.emp_ast.specs.Convex.{counted, counted_by}
use Rattle.emp_owner.specs.Settled.{IsDefinition}
use Rattle.emp_problem.specs.declared.problem.LeftVariable.{LeftVariable}
use Rattle.emp_problem.specs.Left.{left_from, left, no_variable, leader_own}
use Rattle.emp_problem.specs.ProblemOf.{left_variable}
use Rattle.emp_subst.specs.Stages.{is_solved}
use Rattle.emp_subst.proofs.Defined.{solved_is}

-- ---- the variables that are left
left_push : (m : Model) (a : Annot) (at : ℕ) (xs : List Variable) (x : Variable) → left_from m a at (xs ++ x ∷ []) ≡ left_from m a at xs ++ cond (is_defined m a (at + length xs)) [] ((at + length xs) ∷ [])
left_push m a at [] x = let e : at + 0 ≡ at = omega arith in rw e refl
left_push m a at (y ∷ xs) x =
    let e : at + suc (length xs) ≡ at + 1 + length xs = omega arith in
    rw e (go (is_defined m a at) (left_push m a (at + 1) xs x))
  where
    go : (b : Bool) → left_from m a (at + 1) (xs ++ x ∷ []) ≡ left_from m a (at + 1) xs ++ cond (is_defined m a (at + 1 + length xs)) [] ((at + 1 + length xs) ∷ []) → cond b (left_from m a (at + 1) (xs ++ x ∷ [])) (at ∷ left_from m a (at + 1) (xs ++ x ∷ [])) ≡ cond b (left_from m a (at + 1) xs) (at ∷ left_from m a (at + 1) xs) ++ cond (is_defined m a (at + 1 + length xs)) [] ((at + 1 + length xs) ∷ [])
    go true h = h
    go false h = ap (λ ys. at ∷ ys) h

left_more : (m : Model) (a : Annot) (n : ℕ) (b : Bool) → n < length m.variables → is_defined m a n ≡ b → left_from m a 0 (take (n + 1) m.variables) ≡ left_from m a 0 (take n m.variables) ++ cond b [] (n ∷ [])
left_more m a n b l is =
    ap (left_from m a 0) (take_more m.variables n no_variable l)
    ∙ (left_push m a 0 (take n m.variables) (get_or m.variables n no_variable)
    ∙ ap (λ ys. left_from m a 0 (take n m.variables) ++ ys)
    (ap (λ k. cond (is_defined m a k) [] (k ∷ [])) (let k = length-take-le n m.variables (omega arith) in omega (arith, k)) ∙ ap (λ c. cond c [] (n ∷ [])) is))

pub same_default : {X : Type 0} (xs : List X) (i : ℕ) (d e : X) → i < length xs → get_or xs i d ≡ get_or xs i e
same_default [] i d e l = absurd (omega arith)
same_default (x ∷ xs) zero d e l = refl
same_default (x ∷ xs) (suc i) d e l = same_default xs i d e (omega arith)

pub left_is : (m : Model) (n : ℕ) (v : VarId) (x : Variable) → n < length m.variables → v.at ≡ n → x ≡ get_or m.variables n x → record { variable = v; low = x.low; high = x.high } ≡ left_variable m n
left_is m n v x l at is = same v (get_or m.variables n no_variable) at (is ∙ same_default m.variables n x no_variable l)
  where
    same : (v : VarId) (y : Variable) → v.at ≡ n → x ≡ y → ◌≡◌ {A = LeftVariable} (record { variable = v; low = x.low; high = x.high }) (record { variable = record { at = n }; low = y.low; high = y.high })
    same v y e f = rw (sym e, f) refl

pub lefts_keep : (m : Model) (a : Annot) (out : List LeftVariable) (n : ℕ) (y : LeftVariable) → n < length m.variables → is_defined m a n ≡ false → y ≡ left_variable m n → out ≡ map (left_variable m) (left_from m a 0 (take n m.variables)) → out ++ y ∷ [] ≡ map (left_variable m) (left_from m a 0 (take (n + 1) m.variables))
lefts_keep m a out n y l is e h =
    ap₂ (λ ys z. ys ++ z ∷ []) h e ∙ (sym (map-append (left_variable m) (left_from m a 0 (take n m.variables)) (n ∷ [])) ∙ ap (map (left_variable m)) (sym (left_more m a n false l is)))

pub lefts_pass : (m : Model) (a : Annot) (out : List LeftVariable) (n : ℕ) → n < length m.variables → is_defined m a n ≡ true → out ≡ map (left_variable m) (left_from m a 0 (take n m.variables)) → out ≡ map (left_variable m) (left_from m a 0 (take (n + 1) m.variables))
lefts_pass m a out n l is h = h ∙ ap (map (left_variable m)) (sym (left_more m a n true l is ∙ append-nil (left_from m a 0 (take n m.variables))))

pub lefts_done : (m : Model) (a : Annot) (out : List LeftVariable) (n : ℕ) → length m.variables ≤ n → out ≡ map (left_variable m) (left_from m a 0 (take n m.variables)) → out ≡ map (left_variable m) (left m a)
lefts_done m a out n l h = h ∙ ap (λ xs. map (left_variable m) (left_from m a 0 xs)) (take_all n m.variables l)

-- ---- the leader's
chosen_variables : (m : Model) (a : Annot) (vs : List ℕ) → map (λ x. x.variable) (filter (λ x. owns m a leader x.variable.at) (map (left_variable m) vs)) ≡ map (λ v. record { at = v }) (filter (λ v. owns m a leader v) vs)
chosen_variables m a [] = refl
chosen_variables m a (v ∷ vs) = go (owns m a leader v) (chosen_variables m a vs)
  where
    go : (b : Bool) → map (λ x. x.variable) (filter (λ x. owns m a leader x.variable.at) (map (left_variable m) vs)) ≡ map (λ v. record { at = v }) (filter (λ v. owns m a leader v) vs) → map (λ x. x.variable) (cond b (left_variable m v ∷ filter (λ x. owns m a leader x.variable.at) (map (left_variable m) vs)) (filter (λ x. owns m a leader x.variable.at) (map (left_variable m) vs))) ≡ map (λ v. record { at = v }) (cond b (v ∷ filter (λ v. owns m a leader v) vs) (filter (λ v. owns m a leader v) vs))
    go true h = ap (λ ys. (record { at = v }) ∷ ys) h
    go false h = h

pub own_done : (m : Model) (a : Annot) (out : List VarId) (xs : List LeftVariable) (i : ℕ) → xs ≡ map (left_variable m) (left m a) → length xs ≤ i → out ≡ map (λ x. x.variable) (filter (λ x. owns m a leader x.variable.at) (take i xs)) → out ≡ map (λ v. record { at = v }) (leader_own m a)
own_done m a out xs i is l h =
    h ∙ (ap (λ ys. map (λ x. x.variable) (filter (λ x. owns m a leader x.variable.at) ys)) (take_all i xs l ∙ is) ∙ chosen_variables m a (left m a))

-- ---- a block's
same_tests : (p q : VarId → Bool) (vs : List VarId) → ((v : VarId) → p v ≡ q v) → filter p vs ≡ filter q vs
same_tests p q [] h = refl
same_tests p q (v ∷ vs) h = ap₂ (λ b (ys : List VarId). cond b (v ∷ ys) ys) (h v) (same_tests p q vs h)

pub own_is : (m : Model) (a : Annot) (k : ℕ) (b : Block) (d : Option EquId) → slice_get a.blocks k ≡ Some b → IsDefinition m a (block k) d → filter (λ v. not (is_solved b d v.at)) (block_variables b) ≡ counted m a k
own_is m a k b d at h =
    same_tests (λ v. not (is_solved b d v.at)) (λ v. not (is_defined_of m a (block k) v.at)) (block_variables b) (λ v. ap not (solved_is m a k b d v.at at h)) ∙ ap (counted_by m a k) (sym at)

pub ruleset lefts = (lefts_keep, lefts_pass, lefts_done, left_is)
