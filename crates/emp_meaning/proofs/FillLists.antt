-- Lists whose entries differ, and what is left of them when they are mapped and filtered.
use Rattle.std.proofs.Common.{◌≡◌, ◌⊎◌, inl, inr, ℕ, ◌+◌, ◌<◌, ◌≤◌, Bool, true, false, ◌||◌, cond, nat_eq, List, [], ◌∷◌, All, map, get_or, arith, refl, sym, ap, ◌∙◌}
use Rattle.std.specs.Prelude.{slice_get, Some}
use Rattle.std.specs.List.{list_any, filter, count_by}
use Rattle.std.proofs.lemmas.Bool.{eq-eqb, false≢true, cases_Bool, false_from_ne_true}
use Rattle.std.proofs.lemmas.Option.{slice_get-get_or}
use Rattle.std.proofs.lemmas.List.Elements.{All-head, All-tail}
use Rattle.emp_game.specs.Game.{names, AreApart}
use Rattle.emp_meaning.proofs.TieLists.{one_if, count_cons, any_at, count_any, map_source, filter_source}
use Rattle.emp_meaning.proofs.PriceLists.{all_here}

pub not_here : {X : Type 0} (test : X → Bool) (xs : List X) (i : ℕ) (x : X) → slice_get xs i ≡ Some x → list_any test xs ≡ false → test x ≡ false
not_here test xs i x at none = false_from_ne_true (test x) (λ h. false≢true (sym none ∙ any_at test xs i x at h))

-- ---- how many pass a test
pub count_none : {X : Type 0} (test : X → Bool) (xs : List X) → list_any test xs ≡ false → count_by test xs ≡ 0
count_none test [] h = refl
count_none test (x ∷ xs) h = go (cases_Bool (test x)) (count_none test xs)
  where
    go : (test x ≡ true) ⊎ (test x ≡ false) → (list_any test xs ≡ false → count_by test xs ≡ 0) → count_by test (x ∷ xs) ≡ 0
    go (inl s) rest = absurd (false≢true (sym h ∙ ap (λ b. b || list_any test xs) s))
    go (inr s) rest =
        let c = count_cons test x xs in
        let none : one_if (test x) ≡ 0 = ap one_if s in
        let r = rest (sym (ap (λ b. b || list_any test xs) s) ∙ h) in
        omega (arith, c, none, r)

pub count_filter : {X : Type 0} (test keep : X → Bool) (xs : List X) → count_by test (filter keep xs) ≤ count_by test xs
count_filter test keep [] = omega arith
count_filter test keep (x ∷ xs) = go (cases_Bool (keep x)) (count_filter test keep xs)
  where
    go : (keep x ≡ true) ⊎ (keep x ≡ false) → count_by test (filter keep xs) ≤ count_by test xs → count_by test (filter keep (x ∷ xs)) ≤ count_by test (x ∷ xs)
    go (inl s) rest =
        let kept : count_by test (filter keep (x ∷ xs)) ≡ one_if (test x) + count_by test (filter keep xs) = ap (λ b. count_by test (cond b (x ∷ filter keep xs) (filter keep xs))) s ∙ count_cons test x (filter keep xs) in
        let all = count_cons test x xs in
        omega (arith, kept, all, rest)
    go (inr s) rest =
        let kept : count_by test (filter keep (x ∷ xs)) ≡ count_by test (filter keep xs) = ap (λ b. count_by test (cond b (x ∷ filter keep xs) (filter keep xs))) s in
        let all = count_cons test x xs in
        omega (arith, kept, all, rest)

-- ---- lists that are filtered
pub all_filter_with : {X : Type 0} (test : X → Bool) (P Q : X → Type 0) → ((x : X) → P x → test x ≡ true → Q x) → (xs : List X) → All P xs → All Q (filter test xs)
all_filter_with test P Q f xs all = λ i d l.
    let x = get_or (filter test xs) i d in
    let s = filter_source test xs i x (slice_get-get_or (filter test xs) i d l) in
    f x (all_here P xs s.index x s.at all) s.passes

-- ---- entries that differ
-- entries with property P have different values of f where they have different numbers
abbrev pub Tells : {X : Type 0} → (X → ℕ) → (X → ℕ) → (X → Type 0) → Type 0
Tells {X} at f P = (x y : X) → P x → P y → f x ≡ f y → at x ≡ at y

absent : {X : Type 0} (at f : X → ℕ) (P : X → Type 0) → Tells at f P → (x : X) (xs : List X) → P x → All P xs → count_by (λ y. nat_eq (at y) (at x)) xs ≡ 0 → names (map f xs) (f x) ≡ false
absent at f P tells x xs px all none =
    false_from_ne_true (names (map f xs) (f x)) (λ h.
    let s = map_source f xs (f x) h in
    let same = tells s.entry x (all_here P xs s.index s.entry s.at all) px s.is in
    let one = count_any (λ y. nat_eq (at y) (at x)) xs (any_at (λ y. nat_eq (at y) (at x)) xs s.index s.entry s.at (eq-eqb (at s.entry) (at x) same)) in
    omega (arith, one, none))

-- entries of which each number stands once are apart
pub apart_map : {X : Type 0} (at f : X → ℕ) (P : X → Type 0) (n : ℕ) → Tells at f P → ((x : X) → P x → at x < n) → (xs : List X) → All P xs → ((v : ℕ) → v < n → count_by (λ x. nat_eq (at x) v) xs < 2) → AreApart (map f xs)
apart_map at f P n tells below [] all once = tt
apart_map at f P n tells below (x ∷ xs) all once = (
  absent at f P tells x xs px (All-tail P x xs all)
      (
      let c = count_cons (λ y. nat_eq (at y) (at x)) x xs in
      let one : one_if (nat_eq (at x) (at x)) ≡ 1 = ap one_if (eq-eqb (at x) (at x) refl) in
      let o = once (at x) (below x px) in
      omega (arith, c, one, o)
      ),
  apart_map at f P n tells below xs (All-tail P x xs all) (λ v l. let c = count_cons (λ y. nat_eq (at y) v) x xs in let o = once v l in omega (arith, c, o)),
)
  where
    px : P x
    px = All-head P x xs all
