-- Lists that are put one by one at the end of others.
use Rattle.std.proofs.Common.{◌≡◌, ◌<◌, ◌≤◌, ℕ, ◌+◌, Bool, true, false, cond, List, [], ◌∷◌, ◌++◌, length, get_or, take, map, sym, ap, ◌∙◌, append_assoc, refl}
use Rattle.std.specs.Prelude.{filter}
use Rattle.std.proofs.lemmas.List.{map-append, take_more, take_all, append-nil}
use Rattle.std.proofs.lemmas.List.Elements.{filter-append}

-- what is made of each value, with one value more
more : {X Y : Type 0} (f : List X → List Y) → ((xs ys : List X) → f (xs ++ ys) ≡ f xs ++ f ys) → (start out new : List Y) (xs : List X) (i : ℕ) (x : X) → i < length xs → x ≡ get_or xs i x → new ≡ f (x ∷ []) → out ≡ start ++ f (take i xs) → out ++ new ≡ start ++ f (take (i + 1) xs)
more f append start out new xs i x h e n g =
    ap (λ ys. ys ++ new) g
    ∙ (append_assoc start (f (take i xs)) new
    ∙ ap (λ ys. start ++ ys)
    (ap (λ ys. f (take i xs) ++ ys) (n ∙ ap (λ y. f (y ∷ [])) e) ∙ (sym (append (take i xs) (get_or xs i x ∷ [])) ∙ ap f (sym (take_more xs i x h)))))

all : {X Y : Type 0} (f : List X → List Y) (start out : List Y) (xs : List X) (i : ℕ) → length xs ≤ i → out ≡ start ++ f (take i xs) → out ≡ start ++ f xs
all f start out xs i h g = g ∙ ap (λ ys. start ++ f ys) (take_all i xs h)

pub put_one : {X : Type 0} (start out xs : List X) (i : ℕ) (x : X) → i < length xs → x ≡ get_or xs i x → out ≡ start ++ take i xs → out ++ x ∷ [] ≡ start ++ take (i + 1) xs
put_one start out xs i x h e g = more (λ ys. ys) (λ xs ys. refl) start out (x ∷ []) xs i x h e refl g

pub put_all : {X : Type 0} (start out xs : List X) (i : ℕ) → length xs ≤ i → out ≡ start ++ take i xs → out ≡ start ++ xs
put_all start out xs i h g = all (λ ys. ys) start out xs i h g

pub map_one : {X Y : Type 0} (f : X → Y) (start out : List Y) (xs : List X) (i : ℕ) (x : X) (y : Y) → i < length xs → x ≡ get_or xs i x → y ≡ f x → out ≡ start ++ map f (take i xs) → out ++ y ∷ [] ≡ start ++ map f (take (i + 1) xs)
map_one f start out xs i x y h e s g = more (map f) (map-append f) start out (y ∷ []) xs i x h e (ap (λ z. z ∷ []) s) g

pub map_all : {X Y : Type 0} (f : X → Y) (start out : List Y) (xs : List X) (i : ℕ) → length xs ≤ i → out ≡ start ++ map f (take i xs) → out ≡ start ++ map f xs
map_all f start out xs i h g = all (map f) start out xs i h g

-- ---- those that pass a test
kept : {X : Type 0} (p : X → Bool) (x : X) (b : Bool) → p x ≡ b → filter p (x ∷ []) ≡ cond b (x ∷ []) []
kept p x b e = ap (λ c. cond c (x ∷ []) []) e

map_filter : {X Y : Type 0} (f : X → Y) (p : X → Bool) (xs ys : List X) → map f (filter p (xs ++ ys)) ≡ map f (filter p xs) ++ map f (filter p ys)
map_filter f p xs ys = ap (map f) (filter-append p xs ys) ∙ map-append f (filter p xs) (filter p ys)

pub chosen_one : {X Y : Type 0} (f : X → Y) (p : X → Bool) (start out : List Y) (xs : List X) (i : ℕ) (x : X) (y : Y) → i < length xs → x ≡ get_or xs i x → y ≡ f x → p x ≡ true → out ≡ start ++ map f (filter p (take i xs)) → out ++ y ∷ [] ≡ start ++ map f (filter p (take (i + 1) xs))
chosen_one f p start out xs i x y h e s t g =
    more (λ ys. map f (filter p ys)) (map_filter f p) start out (y ∷ []) xs i x h e (ap (λ z. z ∷ []) s ∙ ap (map f) (sym (kept p x true t))) g

pub chosen_none : {X Y : Type 0} (f : X → Y) (p : X → Bool) (start out : List Y) (xs : List X) (i : ℕ) (x : X) → i < length xs → x ≡ get_or xs i x → p x ≡ false → out ≡ start ++ map f (filter p (take i xs)) → out ≡ start ++ map f (filter p (take (i + 1) xs))
chosen_none f p start out xs i x h e t g =
    sym (append-nil out) ∙ more (λ ys. map f (filter p ys)) (map_filter f p) start out [] xs i x h e (ap (map f) (sym (kept p x false t))) g

pub chosen_all : {X Y : Type 0} (f : X → Y) (p : X → Bool) (start out : List Y) (xs : List X) (i : ℕ) → length xs ≤ i → out ≡ start ++ map f (filter p (take i xs)) → out ≡ start ++ map f (filter p xs)
chosen_all f p start out xs i h g = all (λ ys. map f (filter p ys)) start out xs i h g

pub kept_one : {X : Type 0} (p : X → Bool) (out xs : List X) (i : ℕ) (x : X) → i < length xs → x ≡ get_or xs i x → p x ≡ true → out ≡ filter p (take i xs) → out ++ x ∷ [] ≡ filter p (take (i + 1) xs)
kept_one p out xs i x h e t g = more (filter p) (filter-append p) [] out (x ∷ []) xs i x h e (sym (kept p x true t)) g

pub kept_none : {X : Type 0} (p : X → Bool) (out xs : List X) (i : ℕ) (x : X) → i < length xs → x ≡ get_or xs i x → p x ≡ false → out ≡ filter p (take i xs) → out ≡ filter p (take (i + 1) xs)
kept_none p out xs i x h e t g = sym (append-nil out) ∙ more (filter p) (filter-append p) [] out [] xs i x h e (sym (kept p x false t)) g

pub kept_all : {X : Type 0} (p : X → Bool) (out xs : List X) (i : ℕ) → length xs ≤ i → out ≡ filter p (take i xs) → out ≡ filter p xs
kept_all p out xs i h g = all (filter p) [] out xs i h g

pub ruleset putting = (put_one, put_all, map_one, map_all, chosen_one, chosen_none, chosen_all, kept_one, kept_none, kept_all, append-nil)
