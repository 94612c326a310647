-- Counts of the entries of a list that pass a test, and lists of numbers that differ.
use Rattle.std.proofs.Common.{◌≡◌, ◌⊎◌, inl, inr, ℕ, zero, suc, ◌+◌, ◌<◌, ◌≤◌, Bool, true, false, cond, ◌||◌, nat_eq, List, [], ◌∷◌, map, length, slice_index_or, Some, arith, refl, sym, ap, subst, ◌∙◌}
use Rattle.std.specs.Prelude.{slice_get, filter}
use Rattle.std.specs.List.{list_any, count_by}
use Rattle.std.proofs.lemmas.Bool.{eqb-true, or_cases, or_left, or_right, false≢true, cases_Bool}
use Rattle.std.proofs.lemmas.Option.{same_Some}
use Rattle.std.proofs.lemmas.List.Sums.{sum_by-cons}
use Rattle.emp_game.specs.Game.{names, AreApart}
use Rattle.emp_game.proofs.Slopes.{eqb_refl}
use Rattle.emp_problem.specs.Left.{place_in}

pub same_truth : (b c : Bool) → (b ≡ true → c ≡ true) → (c ≡ true → b ≡ true) → b ≡ c
same_truth true c f g = sym (f refl)
same_truth false true f g = g refl
same_truth false false f g = refl

-- ---- counts
abbrev pub one_if : Bool → ℕ
one_if b = cond b 1 0

pub count_cons : {X : Type 0} (p : X → Bool) (x : X) (xs : List X) → count_by p (x ∷ xs) ≡ one_if (p x) + count_by p xs
count_cons p x xs = sum_by-cons (λ y. one_if (p y)) x xs

pub any_at : {X : Type 0} (p : X → Bool) (xs : List X) (i : ℕ) (x : X) → slice_get xs i ≡ Some x → p x ≡ true → list_any p xs ≡ true
any_at p [] i x at h = cc
any_at p (y ∷ ys) zero x at h = let same : y ≡ x = cc in or_left (p y) (list_any p ys) (ap p same ∙ h)
any_at p (y ∷ ys) (suc i) x at h = or_right (p y) (list_any p ys) (any_at p ys i x at h)

pub count_any : {X : Type 0} (p : X → Bool) (xs : List X) → list_any p xs ≡ true → 1 ≤ count_by p xs
count_any p [] h = absurd (false≢true h)
count_any p (x ∷ xs) h = go (or_cases (p x) (list_any p xs) h) (λ l. count_any p xs l)
  where
    go : (p x ≡ true) ⊎ (list_any p xs ≡ true) → (list_any p xs ≡ true → 1 ≤ count_by p xs) → 1 ≤ count_by p (x ∷ xs)
    go (inl e) rest =
        let c = count_cons p x xs in
        let one : one_if (p x) ≡ 1 = ap one_if e in
        omega (arith, c, one)
    go (inr e) rest =
        let c = count_cons p x xs in
        let l = rest e in
        omega (arith, c, l)

pub count_two : {X : Type 0} (p : X → Bool) (xs : List X) (i j : ℕ) (x y : X) → (i ≡ j → ⊥) → slice_get xs i ≡ Some x → slice_get xs j ≡ Some y → p x ≡ true → p y ≡ true → 2 ≤ count_by p xs
count_two p [] i j x y ne at there h k = cc
count_two p (z ∷ zs) zero zero x y ne at there h k = absurd (ne refl)
count_two p (z ∷ zs) zero (suc j) x y ne at there h k =
    let same : z ≡ x = cc in
    let c = count_cons p z zs in
    let one : one_if (p z) ≡ 1 = ap one_if (ap p same ∙ h) in
    let l = count_any p zs (any_at p zs j y there k) in
    omega (arith, c, one, l)
count_two p (z ∷ zs) (suc i) zero x y ne at there h k =
    let same : z ≡ y = cc in
    let c = count_cons p z zs in
    let one : one_if (p z) ≡ 1 = ap one_if (ap p same ∙ k) in
    let l = count_any p zs (any_at p zs i x at h) in
    omega (arith, c, one, l)
count_two p (z ∷ zs) (suc i) (suc j) x y ne at there h k =
    let c = count_cons p z zs in
    let l = count_two p zs i j x y (λ e. ne (ap suc e)) at there h k in
    omega (arith, c, l)

-- ---- places in a list of numbers
pub place_there : (vs : List ℕ) (v : ℕ) → names vs v ≡ true → (place_in vs v < length vs) × (slice_index_or vs (place_in vs v) 0 ≡ v)
place_there [] v h = absurd (false≢true h)
place_there (u ∷ us) v h = go (nat_eq u v) refl (λ r. place_there us v r)
  where
    Stands : ℕ → Type 0
    Stands k = (k < length (u ∷ us)) × (slice_index_or (u ∷ us) k 0 ≡ v)

    go : (b : Bool) → nat_eq u v ≡ b → (names us v ≡ true → (place_in us v < length us) × (slice_index_or us (place_in us v) 0 ≡ v)) → Stands (cond (nat_eq u v) 0 (suc (place_in us v)))
    go true e rest = subst (λ (b : Bool). Stands (cond b 0 (suc (place_in us v)))) (sym e) (omega arith, eqb-true u v e)
    go false e rest =
        let r = rest (sym (ap (λ b. b || names us v) e) ∙ h) in
        let less : place_in us v < length us = r.0 in
        subst (λ (b : Bool). Stands (cond b 0 (suc (place_in us v)))) (sym e) (omega arith, r.1)

pub named_at : (vs : List ℕ) (i : ℕ) → i < length vs → names vs (slice_index_or vs i 0) ≡ true
named_at [] i h = absurd (omega arith)
named_at (u ∷ us) zero h = or_left (nat_eq u u) (names us u) (eqb_refl u)
named_at (u ∷ us) (suc i) h = or_right (nat_eq u (slice_index_or us i 0)) (names us (slice_index_or us i 0)) (named_at us i (omega arith))

pub placed_at : (vs : List ℕ) (i : ℕ) → AreApart vs → i < length vs → place_in vs (slice_index_or vs i 0) ≡ i
placed_at [] i a h = absurd (omega arith)
placed_at (u ∷ us) zero a h = ap (λ (b : Bool). cond b 0 (suc (place_in us u))) (eqb_refl u)
placed_at (u ∷ us) (suc i) a h = go (placed_at us i a.1 (omega arith)) (cases_Bool (nat_eq u (slice_index_or us i 0)))
  where
    v : ℕ
    v = slice_index_or us i 0

    go : place_in us v ≡ i → (nat_eq u v ≡ true) ⊎ (nat_eq u v ≡ false) → place_in (u ∷ us) v ≡ suc i
    go rest (inl e) = absurd (false≢true (sym a.0 ∙ (ap (names us) (eqb-true u v e) ∙ named_at us i (omega arith))))
    go rest (inr e) = ap (λ (b : Bool). cond b 0 (suc (place_in us v))) e ∙ ap suc rest

-- ---- lists that are mapped
pub record Source {X : Type 0} (f : X → ℕ) (xs : List X) (i : ℕ) : Type 0 where
  pub index : ℕ
  pub entry : X
  pub at : slice_get xs index ≡ Some entry
  pub is : f entry ≡ i

pub map_source : {X : Type 0} (f : X → ℕ) (xs : List X) (i : ℕ) → names (map f xs) i ≡ true → Source f xs i
map_source f [] i h = absurd (false≢true h)
map_source {X} f (x ∷ xs) i h = go (or_cases (nat_eq (f x) i) (names (map f xs) i) h) (λ r. map_source f xs i r)
  where
    go : (nat_eq (f x) i ≡ true) ⊎ (names (map f xs) i ≡ true) → (names (map f xs) i ≡ true → Source f xs i) → Source f (x ∷ xs) i
    go (inl e) rest = record { index = 0; entry = x; at = refl; is = eqb-true (f x) i e }
    go (inr e) rest = let r = rest e in record { index = suc r.index; entry = r.entry; at = r.at; is = r.is }

pub map_named : {X : Type 0} (f : X → ℕ) (xs : List X) (k : ℕ) (x : X) → slice_get xs k ≡ Some x → names (map f xs) (f x) ≡ true
map_named f [] k x at = cc
map_named f (y ∷ ys) zero x at = let same : y ≡ x = cc in or_left (nat_eq (f y) (f x)) (names (map f ys) (f x)) (ap (λ z. nat_eq (f y) (f z)) (sym same) ∙ eqb_refl (f y))
map_named f (y ∷ ys) (suc k) x at = or_right (nat_eq (f y) (f x)) (names (map f ys) (f x)) (map_named f ys k x at)

pub record Passing {X : Type 0} (p : X → Bool) (xs : List X) : Type 0 where
  pub index : ℕ
  pub entry : X
  pub at : slice_get xs index ≡ Some entry
  pub passes : p entry ≡ true

pub any_source : {X : Type 0} (p : X → Bool) (xs : List X) → list_any p xs ≡ true → Passing p xs
any_source p [] h = absurd (false≢true h)
any_source {X} p (x ∷ xs) h = go (or_cases (p x) (list_any p xs) h) (λ r. any_source p xs r)
  where
    go : (p x ≡ true) ⊎ (list_any p xs ≡ true) → (list_any p xs ≡ true → Passing p xs) → Passing p (x ∷ xs)
    go (inl e) rest = record { index = 0; entry = x; at = refl; passes = e }
    go (inr e) rest = let r = rest e in record { index = suc r.index; entry = r.entry; at = r.at; passes = r.passes }

-- ---- lists that are filtered
pub record Kept {X : Type 0} (p : X → Bool) (xs : List X) (x : X) : Type 0 where
  pub index : ℕ
  pub at : slice_get xs index ≡ Some x
  pub passes : p x ≡ true

pub filter_source : {X : Type 0} (p : X → Bool) (xs : List X) (k : ℕ) (x : X) → slice_get (filter p xs) k ≡ Some x → Kept p xs x
filter_source p [] k x at = cc
filter_source {X} p (y ∷ ys) k x at = go (p y) refl k at (λ j e. filter_source p ys j x e)
  where
    go : (b : Bool) → p y ≡ b → (k : ℕ) → slice_get (cond (p y) (y ∷ filter p ys) (filter p ys)) k ≡ Some x → ((j : ℕ) → slice_get (filter p ys) j ≡ Some x → Kept p ys x) → Kept p (y ∷ ys) x
    go true e zero at rest =
        let same : y ≡ x = same_Some y x (sym (ap (λ (b : Bool). slice_get (cond b (y ∷ filter p ys) (filter p ys)) 0) e) ∙ at) in
        record { index = 0; at = ap Some same; passes = ap p (sym same) ∙ e }
    go true e (suc k) at rest = let r = rest k (sym (ap (λ (b : Bool). slice_get (cond b (y ∷ filter p ys) (filter p ys)) (suc k)) e) ∙ at) in record { index = suc r.index; at = r.at; passes = r.passes }
    go false e k at rest = let r = rest k (sym (ap (λ (b : Bool). slice_get (cond b (y ∷ filter p ys) (filter p ys)) k) e) ∙ at) in record { index = suc r.index; at = r.at; passes = r.passes }

pub record Index {X : Type 0} (xs : List X) (x : X) : Type 0 where
  pub index : ℕ
  pub at : slice_get xs index ≡ Some x

pub filter_has : {X : Type 0} (p : X → Bool) (xs : List X) (k : ℕ) (x : X) → slice_get xs k ≡ Some x → p x ≡ true → Index (filter p xs) x
filter_has p [] k x at h = cc
filter_has p (y ∷ ys) zero x at h =
    let same : y ≡ x = same_Some y x at in
    subst (λ (b : Bool). Index (cond b (y ∷ filter p ys) (filter p ys)) x) (sym (ap p same ∙ h)) (record { index = 0; at = at })
filter_has {X} p (y ∷ ys) (suc k) x at h = go (p y) (filter_has p ys k x at h)
  where
    go : (b : Bool) → Index (filter p ys) x → Index (cond b (y ∷ filter p ys) (filter p ys)) x
    go true r = record { index = suc r.index; at = r.at }
    go false r = r

pub filter_all : {X : Type 0} (test : X → Bool) → ((x : X) → test x ≡ true) → (xs : List X) → filter test xs ≡ xs
filter_all test h [] = refl
filter_all test h (x ∷ xs) = ap (λ b. cond b (x ∷ filter test xs) (filter test xs)) (h x) ∙ ap (λ ys. x ∷ ys) (filter_all test h xs)
