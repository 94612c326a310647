-- Texts of files in order: one more, and all.
use Rattle.std.proofs.Common.{◌≡◌, ℕ, ◌+◌, ◌<◌, ◌≤◌, List, [], ◌∷◌, ◌++◌, map, take, drop, length, get_or, Option, Some, None, refl, sym, ap, ap₂, subst, ◌∙◌, arith}
use Rattle.std.proofs.lemmas.List.{length-map, take_all, take_more, drop_more, take-append-drop, length-take}
use Rattle.emp_desk.specs.Desk.{Place, Contents, Told, KeepsAll, NoneFalls, loads}
use Rattle.emp_command.specs.declared.refusal.Refusal.{Refusal}
use Rattle.emp_command.specs.declared.refusal.Refusal.TheVariants.{BadWords, BadWork, BadFirms, Unread, TooLong, Unwritten, NoMemory}
use Rattle.emp_command.specs.Course.{FilesFit, limit_of}
use Rattle.emp_command.specs.Refusals.{IsFile, IsLong, IsUnloaded, HoldTexts, SomeUnloaded, TextsFit}
use Rattle.emp_command.proofs.Telling.{told_join, told_both, told_map, rose_second}

fit_more : (x : Contents) (k : ℕ) (names : List (List ℕ)) (name : List ℕ) → FilesFit x k names → length (x.holds name) ≤ limit_of (k + length names) → FilesFit x k (names ++ name ∷ [])
fit_more x k [] name h l = (subst (λ j. length (x.holds name) ≤ limit_of j) (let e : k + 0 ≡ k = omega arith in e) l, tt)
fit_more x k (n ∷ names) name h l = (h.0, fit_more x (k + 1) names name h.1 (subst (λ j. length (x.holds name) ≤ limit_of j) (let e : k + length (n ∷ names) ≡ k + 1 + length names = omega arith in e) l))

pub map-append : {X Y : Type 0} (f : X → Y) (xs ys : List X) → map f (xs ++ ys) ≡ map f xs ++ map f ys
map-append f [] ys = refl
map-append f (x ∷ xs) ys = ap (λ zs. f x ∷ zs) (map-append f xs ys)

pub take-one : {X : Type 0} (xs : List X) (i : ℕ) (x : X) → i < length xs → x ≡ get_or xs i x → take (i + 1) xs ≡ take i xs ++ x ∷ []
take-one xs i x h e = take_more xs i x h ∙ ap (λ y. take i xs ++ y ∷ []) (sym e)

pub cut-one : {X : Type 0} (xs : List X) (i : ℕ) (x : X) → i < length xs → x ≡ get_or xs i x → xs ≡ take i xs ++ x ∷ drop (i + 1) xs
cut-one xs i x h e = sym (take-append-drop i xs) ∙ ap (λ ys. take i xs ++ ys) (drop_more xs i x h ∙ ap (λ y. y ∷ drop (i + 1) xs) (sym e))

size-taken : {X Y : Type 0} (f : X → Y) (xs : List X) (i : ℕ) → i < length xs → length (map f (take i xs)) ≡ i
size-taken f xs i h = let a = length-map (take i xs) f in let b = length-take i xs in omega arith

none_kept : (t : Option Contents) → Told KeepsAll t t
none_kept None = tt
none_kept (Some x) = record { files = λ name. refl; said = refl }

pub keeps_on : (x y z : Contents) → KeepsAll x y → KeepsAll y z → KeepsAll x z
keeps_on x y z h k = record { files = λ name. k.files name ∙ h.files name; said = k.said ∙ h.said }

module _ {X : Type 0} (f : X → List ℕ) (xs : List X) (i : ℕ) (x : X) (below : i < length xs) (is : x ≡ get_or xs i x) (t0 t1 t2 : Option Contents) (keeps : Told KeepsAll t0 t1) where
  pub one_more : (name bytes : List ℕ) (texts : List (List ℕ)) → name ≡ f x → Told (HoldTexts 1 (map f (take i xs)) texts) t0 t1 → Told (IsFile name (i + 1) bytes) t1 t2 → Told (HoldTexts 1 (map f (take (i + 1) xs)) (texts ++ bytes ∷ [])) t0 t2
  one_more name bytes texts e held loaded =
      told_join (λ a b. HoldTexts 1 (map f (take i xs)) texts a b × KeepsAll a b) (IsFile name (i + 1) bytes) (HoldTexts 1 (map f (take (i + 1) xs)) (texts ++ bytes ∷ [])) step t0 t1 t2
      (told_both (HoldTexts 1 (map f (take i xs)) texts) KeepsAll (λ a b. HoldTexts 1 (map f (take i xs)) texts a b × KeepsAll a b) (λ a b h k. (h, k)) t0 t1 held keeps) loaded
    where
      names_are : map f (take (i + 1) xs) ≡ map f (take i xs) ++ f x ∷ []
      names_are = ap (map f) (take-one xs i x below is) ∙ map-append f (take i xs) (x ∷ [])

      step : (a b c : Contents) → HoldTexts 1 (map f (take i xs)) texts a b × KeepsAll a b → IsFile name (i + 1) bytes b c → HoldTexts 1 (map f (take (i + 1) xs)) (texts ++ bytes ∷ []) a c
      step a b c h l =
          let holds : a.holds (f x) ≡ bytes = sym (h.1.files (f x)) ∙ ap b.holds (sym e) ∙ l.holds in
          let size : length (map f (take i xs)) ≡ i = size-taken f xs i below in
          let number : i + 1 ≡ 1 + length (map f (take i xs)) = omega arith in
          let short : length (a.holds (f x)) ≤ limit_of (i + 1) = subst (λ bs. length bs ≤ limit_of (i + 1)) (sym holds) l.fits in
          record {
            fit = subst (λ ns. FilesFit a 1 ns) (sym names_are) (fit_more a 1 (map f (take i xs)) (f x) h.0.fit (subst (λ j. length (a.holds (f x)) ≤ limit_of j) number short));
            texts_are = ap₂ (λ ts b'. ts ++ b' ∷ []) h.0.texts_are (sym holds) ∙ sym (map-append a.holds (map f (take i xs)) (f x ∷ [])) ∙ ap (map a.holds) (sym names_are);
          }

  module _ (f0 f1 f2 : Place → ℕ) (first : NoneFalls f0 f1) where
    later_unloaded : (name : List ℕ) (k : ℕ) (r : Refusal) → IsUnloaded name k f1 f2 t1 t2 r → IsUnloaded name k f0 f2 t0 t2 r
    later_unloaded name k BadWords h = absurd h
    later_unloaded name k BadWork h = absurd h
    later_unloaded name k BadFirms h = absurd h
    later_unloaded name k (Unread j) h = (h.0, rose_second (f0 (loads name)) (f1 (loads name)) (f2 (loads name)) h.1 (first (loads name)))
    later_unloaded name k (TooLong j most) h = (h.0, h.1, told_join KeepsAll (IsLong name k) (IsLong name k) (λ a b c g l. subst (λ bs. limit_of k < length bs) (g.files name) l) t0 t1 t2 keeps h.2)
    later_unloaded name k Unwritten h = absurd h
    later_unloaded name k NoMemory h = tt

    pub one_unloaded : (name : List ℕ) (texts : List (List ℕ)) (r : Refusal) → name ≡ f x → Told (HoldTexts 1 (map f (take i xs)) texts) t0 t1 → Told KeepsAll t1 t2 → IsUnloaded name (i + 1) f1 f2 t1 t2 r → SomeUnloaded (map f xs) f0 f2 t0 t2 r
    one_unloaded name texts r e held after h = record {
      earlier = map f (take i xs);
      name = f x;
      later = map f (drop (i + 1) xs);
      files = ap (map f) (cut-one xs i x below is) ∙ map-append f (take i xs) (x ∷ drop (i + 1) xs);
      fit = told_join (HoldTexts 1 (map f (take i xs)) texts) KeepsAll (λ a c. FilesFit a 1 (map f (take i xs))) (λ a b c k l. k.fit) t0 t1 t2 held after;
      why = subst (λ n. IsUnloaded n (length (map f (take i xs)) + 1) f0 f2 t0 t2 r) e (subst (λ j. IsUnloaded name j f0 f2 t0 t2 r) number (later_unloaded name (i + 1) r h));
    }
      where
        number : i + 1 ≡ length (map f (take i xs)) + 1
        number = let size : length (map f (take i xs)) ≡ i = size-taken f xs i below in omega arith

pub all_held : {X : Type 0} (f : X → List ℕ) (xs : List X) (i : ℕ) (texts : List (List ℕ)) (t0 t1 : Option Contents) → length xs ≤ i → Told (HoldTexts 1 (map f (take i xs)) texts) t0 t1 → Told (HoldTexts 1 (map f xs) texts) t0 t1
all_held f xs i texts t0 t1 h k = subst (λ ys. Told (HoldTexts 1 (map f ys) texts) t0 t1) (take_all i xs h) k

pub held_as : (names texts others : List (List ℕ)) (t0 t1 : Option Contents) → others ≡ texts → Told (HoldTexts 1 names texts) t0 t1 → Told (HoldTexts 1 names others) t0 t1
held_as names texts others t0 t1 e h = subst (λ ts. Told (HoldTexts 1 names ts) t0 t1) (sym e) h

pub none_held : (t : Option Contents) → Told (HoldTexts 1 [] []) t t
none_held t = told_map KeepsAll (HoldTexts 1 [] []) (λ x y k. record { fit = tt; texts_are = refl }) t t (none_kept t)

pub kept_on : (t0 t1 t2 : Option Contents) → Told KeepsAll t0 t1 → Told KeepsAll t1 t2 → Told KeepsAll t0 t2
kept_on t0 t1 t2 h k = told_join KeepsAll KeepsAll KeepsAll keeps_on t0 t1 t2 h k

pub kept_here : (t : Option Contents) → Told KeepsAll t t
kept_here t = none_kept t

text_more : (k : ℕ) (ts : List (List ℕ)) (t : List ℕ) → TextsFit k ts → length t ≤ limit_of (k + length ts) → TextsFit k (ts ++ t ∷ [])
text_more k [] t h l = (subst (λ j. length t ≤ limit_of j) (let e : k + 0 ≡ k = omega arith in e) l, tt)
text_more k (u ∷ ts) t h l = (h.0, text_more (k + 1) ts t h.1 (subst (λ j. length t ≤ limit_of j) (let e : k + length (u ∷ ts) ≡ k + 1 + length ts = omega arith in e) l))

pub one_fits : (i : ℕ) (ts : List (List ℕ)) (t : List ℕ) → length ts ≡ i → TextsFit 1 ts → length t ≤ limit_of (i + 1) → TextsFit 1 (ts ++ t ∷ [])
one_fits i ts t e h l = text_more 1 ts t h (subst (λ j. length t ≤ limit_of j) (let n : i + 1 ≡ 1 + length ts = omega arith in n) l)

pub ruleset loading = (one_fits, kept_here, kept_on, none_held, one_more, one_unloaded, all_held)
