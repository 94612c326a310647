-- Files that are stored in order: one more, all, and one that is cut.
use Rattle.std.proofs.Common.{◌≡◌, ℕ, ◌+◌, ◌<◌, ◌≤◌, inl, inr, List, [], ◌∷◌, ◌++◌, map, take, drop, length, get_or, Option, refl, sym, ap, subst, subst₂, ◌∙◌}
use Rattle.std.proofs.lemmas.List.{take_all}
use Rattle.emp_desk.specs.Desk.{Place, stores, Contents, Told, KeepsAll, Stores, StoresPrefix, NoneFalls, Rose}
use Rattle.emp_command.specs.Course.{StoresAll, StoresPart, SomeStoreRose}
use Rattle.emp_command.proofs.Telling.{told_join, rose_second}
use Rattle.emp_command.proofs.Texts.{map-append, take-one, cut-one, kept_here}

-- what is stored after files and outputs were kept
stores_after : (name bytes : List ℕ) (x y z : Contents) → KeepsAll x y → Stores name bytes y z → Stores name bytes x z
stores_after name bytes x y z h k = record { here = k.here; others = λ o n. k.others o n ∙ h.files o; said = k.said ∙ h.said }

cut_after : (name bytes : List ℕ) (x y z : Contents) → KeepsAll x y → StoresPrefix name bytes y z → StoresPrefix name bytes x z
cut_after name bytes x y z h k = record { here = k.here; others = λ o n. k.others o n ∙ h.files o; said = k.said ∙ h.said }

all_more : (ss : List (List ℕ × List ℕ)) (s : List ℕ × List ℕ) (x y z : Contents) → StoresAll ss x y → Stores s.0 s.1 y z → StoresAll (ss ++ s ∷ []) x z
all_more [] s x y z h k = (z, stores_after s.0 s.1 x y z h k, record { files = λ name. refl; said = refl })
all_more (t ∷ ss) s x y z h k = (h.0, h.1, all_more ss s h.0 y z h.2 k)

part_more : (ss ts : List (List ℕ × List ℕ)) (s : List ℕ × List ℕ) (x y z : Contents) → StoresAll ss x y → StoresPrefix s.0 s.1 y z → StoresPart (ss ++ s ∷ ts) x z
part_more [] ts s x y z h k = inl (cut_after s.0 s.1 x y z h k)
part_more (t ∷ ss) ts s x y z h k = inr (h.0, h.1, part_more ss ts s h.0 y z h.2 k)

rose_among : (ss ts : List (List ℕ × List ℕ)) (s : List ℕ × List ℕ) (f0 f1 : Place → ℕ) → Rose (f0 (stores s.0)) (f1 (stores s.0)) → SomeStoreRose (ss ++ s ∷ ts) f0 f1
rose_among [] ts s f0 f1 h = inl h
rose_among (t ∷ ss) ts s f0 f1 h = inr (rose_among ss ts s f0 f1 h)

module _ {X : Type 0} (f : X → List ℕ × List ℕ) (xs : List X) (i : ℕ) (x : X) (below : i < length xs) (is : x ≡ get_or xs i x) where
  files_are : map f xs ≡ map f (take i xs) ++ f x ∷ map f (drop (i + 1) xs)
  files_are = ap (map f) (cut-one xs i x below is) ∙ map-append f (take i xs) (x ∷ drop (i + 1) xs)

  more_are : map f (take (i + 1) xs) ≡ map f (take i xs) ++ f x ∷ []
  more_are = ap (map f) (take-one xs i x below is) ∙ map-append f (take i xs) (x ∷ [])

  pub one_stored : (name bytes : List ℕ) (t0 t1 t2 : Option Contents) → name ≡ (f x).0 → bytes ≡ (f x).1 → Told (StoresAll (map f (take i xs))) t0 t1 → Told (Stores name bytes) t1 t2 → Told (StoresAll (map f (take (i + 1) xs))) t0 t2
  one_stored name bytes t0 t1 t2 d e h k =
      told_join (StoresAll (map f (take i xs))) (Stores (f x).0 (f x).1) (StoresAll (map f (take (i + 1) xs))) (λ a b c p q. subst (λ ss. StoresAll ss a c) (sym more_are) (all_more (map f (take i xs)) (f x) a b c p q)) t0 t1 t2 h (subst₂ (λ n bs. Told (Stores n bs) t1 t2) d e k)

  pub one_cut : (name bytes : List ℕ) (t0 t1 t2 : Option Contents) → name ≡ (f x).0 → bytes ≡ (f x).1 → Told (StoresAll (map f (take i xs))) t0 t1 → Told (StoresPrefix name bytes) t1 t2 → Told (StoresPart (map f xs)) t0 t2
  one_cut name bytes t0 t1 t2 d e h k =
      told_join (StoresAll (map f (take i xs))) (StoresPrefix (f x).0 (f x).1) (StoresPart (map f xs)) (λ a b c p q. subst (λ ss. StoresPart ss a c) (sym files_are) (part_more (map f (take i xs)) (map f (drop (i + 1) xs)) (f x) a b c p q)) t0 t1 t2 h (subst₂ (λ n bs. Told (StoresPrefix n bs) t1 t2) d e k)

  pub one_rose : (name : List ℕ) (f0 f1 f2 : Place → ℕ) → name ≡ (f x).0 → NoneFalls f0 f1 → Rose (f1 (stores name)) (f2 (stores name)) → SomeStoreRose (map f xs) f0 f2
  one_rose name f0 f1 f2 d first h =
      subst (λ ss. SomeStoreRose ss f0 f2) (sym files_are) (rose_among (map f (take i xs)) (map f (drop (i + 1) xs)) (f x) f0 f2 (subst (λ n. Rose (f0 (stores n)) (f2 (stores n))) d (rose_second (f0 (stores name)) (f1 (stores name)) (f2 (stores name)) h (first (stores name)))))

pub all_stored : {X : Type 0} (f : X → List ℕ × List ℕ) (xs : List X) (i : ℕ) (t0 t1 : Option Contents) → length xs ≤ i → Told (StoresAll (map f (take i xs))) t0 t1 → Told (StoresAll (map f xs)) t0 t1
all_stored f xs i t0 t1 h k = subst (λ ys. Told (StoresAll (map f ys)) t0 t1) (take_all i xs h) k

pub none_stored : (t : Option Contents) → Told (StoresAll []) t t
none_stored t = kept_here t

pub ruleset storing = (one_stored, one_cut, one_rose, all_stored, none_stored)
