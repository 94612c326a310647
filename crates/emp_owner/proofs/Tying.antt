-- The variables in an implicit pair with an equation, and which blocks have it by them.
use Rattle.std.proofs.Common.{◌≡◌, ℕ, ◌+◌, ◌<◌, ◌≤◌, Bool, true, false, cond, ◌&&◌, ◌||◌, nat_eq, List, [], ◌∷◌, length, take, get_or, refl, sym, ap, ap₂, subst, ◌∙◌}
use Rattle.std.specs.List.{list_any, count_by}
use Rattle.std.proofs.lemmas.List.{take_all}
use Rattle.std.proofs.lemmas.List.Folds.{list_any_more}
use Rattle.std.proofs.lemmas.List.Sums.{sum_by-cons, length-filter}
use Rattle.emp_ast.specs.declared.tree.VarId.{VarId}
use Rattle.emp_ast.specs.declared.tree.EquId.{EquId}
use Rattle.emp_ast.specs.declared.annot.Block.{Block}
use Rattle.emp_ast.specs.declared.annot.Annot.{Annot}
use Rattle.emp_ast.specs.Parties.{names_variable, names_equation, block_variables, listed_equations, block_equations, some_block_has, holders}
use Rattle.emp_owner.specs.declared.tied.Tied.{Tied}
use Rattle.emp_owner.specs.declared.tied.Tied.TheVariants.{Nothing, One, More}
use Rattle.emp_owner.specs.Finding.{tied_with, TellsTied, has_by}
use Rattle.emp_owner.proofs.Lists.{block_has}

or_false : (b : Bool) → (b || false) ≡ b
or_false true = refl
or_false false = refl

-- ---- one pair more
pair_more : (pairs : List (VarId × EquId)) (i : ℕ) (q : VarId × EquId) (e : ℕ) (b : Bool) (test : ℕ → Bool) → i < length pairs → q ≡ get_or pairs i q → nat_eq q.1.at e ≡ b → list_any (λ i. nat_eq i.1.at e && test i.0.at) (take (i + 1) pairs) ≡ (list_any (λ i. nat_eq i.1.at e && test i.0.at) (take i pairs) || (b && test q.0.at))
pair_more pairs i q e b test l is h =
    list_any_more (λ p. nat_eq p.1.at e && test p.0.at) pairs i q l
    ∙ ap (λ c. list_any (λ p. nat_eq p.1.at e && test p.0.at) (take i pairs) || c) (ap (λ p. nat_eq p.1.at e && test p.0.at) (sym is) ∙ ap (λ c. c && test q.0.at) h)

pub tells_none : (e : ℕ) → TellsTied [] e Nothing
tells_none e test = refl

pub tells_more : (pairs : List (VarId × EquId)) (i : ℕ) (q : VarId × EquId) (e : ℕ) (t : Tied) → i < length pairs → q ≡ get_or pairs i q → nat_eq q.1.at e ≡ true → TellsTied (take i pairs) e t → TellsTied (take (i + 1) pairs) e (tied_with t q.0)
tells_more pairs i q e Nothing l is h before = λ test. pair_more pairs i q e true test l is h ∙ ap (λ c. c || test q.0.at) (before test)
tells_more pairs i q e (One v) l is h before = λ test. refl
tells_more pairs i q e More l is h before = λ test. refl

pub tells_same : (pairs : List (VarId × EquId)) (i : ℕ) (q : VarId × EquId) (e : ℕ) (t : Tied) → i < length pairs → q ≡ get_or pairs i q → nat_eq q.1.at e ≡ false → TellsTied (take i pairs) e t → TellsTied (take (i + 1) pairs) e t
tells_same pairs i q e Nothing l is h before = λ test. pair_more pairs i q e false test l is h ∙ ap (λ c. c || false) (before test)
tells_same pairs i q e (One v) l is h before = λ test. pair_more pairs i q e false test l is h ∙ (ap (λ c. c || false) (before test) ∙ or_false (test v.at))
tells_same pairs i q e More l is h before = λ test. refl

pub tells_all : (pairs : List (VarId × EquId)) (i e : ℕ) (t : Tied) → length pairs ≤ i → TellsTied (take i pairs) e t → TellsTied pairs e t
tells_all pairs i e t l h = subst (λ xs. TellsTied xs e t) (take_all i pairs l) h

-- ---- which blocks have the equation
pub has_is : (t : Tied) (a : Annot) (b : Block) (e : ℕ) → TellsTied a.implicits e t → has_by t a b e ≡ names_equation (block_equations a b) e
has_is t a b e tells = sym (block_has a b e ∙ ap (λ c. names_equation (listed_equations b) e || c) (tells (names_variable (block_variables b))))

any_same : {X : Type 0} (p q : X → Bool) → ((x : X) → p x ≡ q x) → (xs : List X) → list_any p xs ≡ list_any q xs
any_same p q same [] = refl
any_same p q same (x ∷ xs) = ap₂ (λ b c. b || c) (same x) (any_same p q same xs)

count_same : {X : Type 0} (p q : X → Bool) → ((x : X) → p x ≡ q x) → (xs : List X) → count_by p xs ≡ count_by q xs
count_same p q same [] = refl
count_same p q same (x ∷ xs) =
    sum_by-cons (λ y. cond (p y) 1 0) x xs ∙ (ap₂ (λ b n. cond b 1 0 + n) (same x) (count_same p q same xs) ∙ sym (sum_by-cons (λ y. cond (q y) 1 0) x xs))

pub some_has_is : (t : Tied) (a : Annot) (e : ℕ) → TellsTied a.implicits e t → list_any (λ b. has_by t a b e) a.blocks ≡ some_block_has a e
some_has_is t a e tells = any_same (λ b. has_by t a b e) (λ b. names_equation (block_equations a b) e) (λ b. has_is t a b e tells) a.blocks

pub holders_is : (t : Tied) (a : Annot) (e : ℕ) → TellsTied a.implicits e t → count_by (λ b. has_by t a b e) a.blocks ≡ holders a e
holders_is t a e tells =
    count_same (λ b. has_by t a b e) (λ b. names_equation (block_equations a b) e) (λ b. has_is t a b e tells) a.blocks
    ∙ sym (length-filter (λ b. names_equation (block_equations a b) e) a.blocks)

pub ruleset tying = (tells_none, tells_more, tells_same, tells_all)

pub ruleset having = (has_is)
