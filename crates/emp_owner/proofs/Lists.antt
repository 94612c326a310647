-- Lists that are mapped, joined and filtered, and what a block names.
use Rattle.std.proofs.Common.{◌≡◌, ℕ, ◌+◌, ◌<◌, min, Bool, true, false, cond, ◌&&◌, ◌||◌, nat_eq, List, [], ◌∷◌, ◌++◌, map, length, take, get_or, arith, refl, sym, ap, ap₂, subst, ◌∙◌, ◌⊎◌, inl, inr, zero, suc, Some}
use Rattle.std.specs.Prelude.{filter, slice_get, Result, Ok, Err, IfOk}
use Rattle.std.specs.List.{list_any, count_by}
use Rattle.std.proofs.lemmas.Bool.{eq-eqb, ne_eqb, leb-true, leb-false, cases_eq, false≢true}
use Rattle.std.proofs.lemmas.Option.{same_Some}
use Rattle.std.proofs.lemmas.List.Folds.{list_any-append, list_any_at, list_any_more}
use Rattle.std.proofs.lemmas.List.Sums.{sum_by-cons, sum_by-append, sum_by_more}
use Rattle.emp_ast.specs.declared.tree.VarId.{VarId}
use Rattle.emp_ast.specs.declared.tree.EquId.{EquId}
use Rattle.emp_ast.specs.declared.annot.Block.{Block}
use Rattle.emp_ast.specs.declared.annot.Annot.{Annot}
use Rattle.emp_ast.specs.Parties.{names_variable, names_equation, block_variables, listed_equations, block_equations}
use Rattle.emp_owner.specs.Rules.{variable_times, equation_times, is_twice}

pub any_map : {X Y : Type 0} (p : Y → Bool) (f : X → Y) (xs : List X) → list_any p (map f xs) ≡ list_any (λ x. p (f x)) xs
any_map p f [] = refl
any_map p f (x ∷ xs) = ap (λ b. p (f x) || b) (any_map p f xs)

pub any_filter : {X : Type 0} (p q : X → Bool) (xs : List X) → list_any p (filter q xs) ≡ list_any (λ x. p x && q x) xs
any_filter p q [] = refl
any_filter {X} p q (x ∷ xs) = go (q x) (p x) refl refl (any_filter p q xs)
  where
    go : (b c : Bool) → q x ≡ b → p x ≡ c → list_any p (filter q xs) ≡ list_any (λ y. p y && q y) xs → list_any p (cond (q x) (x ∷ filter q xs) (filter q xs)) ≡ ((p x && q x) || list_any (λ y. p y && q y) xs)
    go true true e f h = rw (e, f) refl
    go true false e f h = rw (e, f) h
    go false true e f h = rw (e, f) h
    go false false e f h = rw (e, f) h

pub count_map : {X Y : Type 0} (p : Y → Bool) (f : X → Y) (xs : List X) → count_by p (map f xs) ≡ count_by (λ x. p (f x)) xs
count_map p f [] = refl
count_map p f (x ∷ xs) = sum_by-cons (λ y. cond (p y) 1 0) (f x) (map f xs) ∙ (ap (λ n. cond (p (f x)) 1 0 + n) (count_map p f xs) ∙ sym (sum_by-cons (λ y. cond (p (f y)) 1 0) x xs))

-- ---- a variational inequality
pub vi_owns : (zeros : List VarId) (pairs : List (EquId × VarId)) (v : ℕ) → names_variable (zeros ++ map (λ q. q.1) pairs) v ≡ (names_variable zeros v || list_any (λ q. nat_eq q.1.at v) pairs)
vi_owns zeros pairs v = list_any-append (λ x. nat_eq x.at v) zeros (map (λ q. q.1) pairs) ∙ ap (λ b. names_variable zeros v || b) (any_map (λ x. nat_eq x.at v) (λ q. q.1) pairs)

pub vi_owns_times : (zeros : List VarId) (pairs : List (EquId × VarId)) (v : ℕ) → variable_times v (zeros ++ map (λ q. q.1) pairs) ≡ variable_times v zeros + count_by (λ q. nat_eq q.1.at v) pairs
vi_owns_times zeros pairs v = sum_by-append (λ x. cond (nat_eq x.at v) 1 0) zeros (map (λ q. q.1) pairs) ∙ ap (λ n. variable_times v zeros + n) (count_map (λ x. nat_eq x.at v) (λ q. q.1) pairs)

pub vi_functions : (pairs : List (EquId × VarId)) (e : ℕ) → names_equation (map (λ q. q.0) pairs) e ≡ list_any (λ q. nat_eq q.0.at e) pairs
vi_functions pairs e = any_map (λ x. nat_eq x.at e) (λ q. q.0) pairs

pub vi_lists : (pairs : List (EquId × VarId)) (equs : List EquId) (e : ℕ) → names_equation (map (λ q. q.0) pairs ++ equs) e ≡ (list_any (λ q. nat_eq q.0.at e) pairs || names_equation equs e)
vi_lists pairs equs e = list_any-append (λ x. nat_eq x.at e) (map (λ q. q.0) pairs) equs ∙ ap (λ b. b || names_equation equs e) (vi_functions pairs e)

pub vi_lists_times : (pairs : List (EquId × VarId)) (equs : List EquId) (e : ℕ) → equation_times e (map (λ q. q.0) pairs ++ equs) ≡ count_by (λ q. nat_eq q.0.at e) pairs + equation_times e equs
vi_lists_times pairs equs e = sum_by-append (λ x. cond (nat_eq x.at e) 1 0) (map (λ q. q.0) pairs) equs ∙ ap (λ n. n + equation_times e equs) (count_map (λ x. nat_eq x.at e) (λ q. q.0) pairs)

-- ---- the equations of a block
pub block_has : (a : Annot) (b : Block) (e : ℕ) → names_equation (block_equations a b) e ≡ (names_equation (listed_equations b) e || list_any (λ i. nat_eq i.1.at e && names_variable (block_variables b) i.0.at) a.implicits)
block_has a b e =
    list_any-append (λ x. nat_eq x.at e) (listed_equations b) (map (λ i. i.1) (filter (λ i. names_variable (block_variables b) i.0.at) a.implicits))
    ∙ ap (λ c. names_equation (listed_equations b) e || c) (any_map (λ x. nat_eq x.at e) (λ i. i.1) (filter (λ i. names_variable (block_variables b) i.0.at) a.implicits) ∙ any_filter (λ i. nat_eq i.1.at e) (λ i. names_variable (block_variables b) i.0.at) a.implicits)

pub agent_owns_times : (w : VarId) (vars : List VarId) (v : ℕ) → variable_times v (w ∷ vars) ≡ variable_times v (w ∷ []) + variable_times v vars
agent_owns_times w vars v = sum_by-append (λ x. cond (nat_eq x.at v) 1 0) (w ∷ []) vars

-- ---- counts of which 2 stands for more
pub capped_is_twice : (n : ℕ) → nat_eq (min n 2) 2 ≡ is_twice n
capped_is_twice n = go (is_twice n) refl
  where
    go : (b : Bool) → is_twice n ≡ b → nat_eq (min n 2) 2 ≡ b
    go true h = eq-eqb (min n 2) 2 (let l = leb-true 2 n h in omega arith)
    go false h = ne_eqb (min n 2) 2 (λ e. let l = leb-false 2 n h in omega arith)

pub twice_by : (a b n : ℕ) → n ≡ a + b → is_twice (a + b) ≡ is_twice n
twice_by a b n e = ap is_twice (sym e)

-- ---- steps of searches
pub named_at : (equs : List EquId) (i : ℕ) (x : EquId) → i < length equs → x ≡ get_or equs i x → names_equation equs x.at ≡ true
named_at equs i x l is = list_any_at (λ y. nat_eq y.at x.at) equs i x l (ap (λ y. nat_eq y.at x.at) (sym is) ∙ eq-eqb x.at x.at refl)

pub none_more : (test : ℕ → Bool) (equs : List EquId) (i : ℕ) (x : EquId) → i < length equs → x ≡ get_or equs i x → test x.at ≡ false → ((e : ℕ) → names_equation (take i equs) e ≡ true → test e ≡ false) → (e : ℕ) → names_equation (take (i + 1) equs) e ≡ true → test e ≡ false
none_more test equs i x l is fails before e h = go (names_equation (take i equs) e) refl (cases_eq x.at e)
  where
    more : names_equation (take (i + 1) equs) e ≡ (names_equation (take i equs) e || nat_eq x.at e)
    more = list_any_more (λ y. nat_eq y.at e) equs i x l ∙ ap (λ y. names_equation (take i equs) e || nat_eq y.at e) (sym is)

    go : (b : Bool) → names_equation (take i equs) e ≡ b → (x.at ≡ e) ⊎ (x.at ≡ e → ⊥) → test e ≡ false
    go true was c = before e was
    go false was (inl same) = ap test (sym same) ∙ fails
    go false was (inr other) = absurd (false≢true (sym (more ∙ ap₂ (λ b c. b || c) was (ne_eqb x.at e other)) ∙ h))

pub each_pushed : {X : Type 0} (P : ℕ → X → Type 0) (xs : List X) (x : X) → ((k : ℕ) (y : X) → slice_get xs k ≡ Some y → P k y) → P (length xs) x → (k : ℕ) (y : X) → slice_get (xs ++ x ∷ []) k ≡ Some y → P k y
each_pushed P [] x each h zero y at = subst (λ z. P 0 z) (same_Some x y at) h
each_pushed P [] x each h (suc k) y at = cc
each_pushed P (z ∷ xs) x each h zero y at = each 0 y at
each_pushed P (z ∷ xs) x each h (suc k) y at = each_pushed (λ k y. P (suc k) y) xs x (λ k y at. each (suc k) y at) h k y at

pub get_is : {X : Type 0} (xs : List X) (i : ℕ) (x : X) → i < length xs → x ≡ get_or xs i x → slice_get xs i ≡ Some x
get_is [] i x l is = absurd (omega arith)
get_is (y ∷ xs) zero x l is = ap Some (sym is)
get_is (y ∷ xs) (suc i) x l is = get_is xs i x (omega arith) is

pub if_ok : {X E : Type 0} (P Q : X → Type 0) (r : Result X E) → ((x : X) → P x → Q x) → IfOk r P → IfOk r Q
if_ok P Q (Ok x) f h = f x h
if_ok P Q (Err e) f h = h

pub ruleset listing = (vi_owns, vi_functions, vi_lists)

pub ruleset capping = (capped_is_twice)

pub ruleset searching = (named_at, none_more)

pub ruleset adding = (sum_by_more)
