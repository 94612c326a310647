-- What words of known letters say, and lists of few words.
use Rattle.std.proofs.Common.{◌≡◌, ℕ, ◌+◌, ◌<◌, ◌≤◌, List, [], ◌∷◌, All, map, take, codes, length, get_or, slice_index_or, Option, Some, None, refl, sym, ap, ap₂, subst, subst₂, ◌∙◌, arith}
use Rattle.std.proofs.lemmas.List.{length-map, get_or-map, take_all}
use Rattle.std.proofs.lemmas.List.Elements.{All-more}
use Rattle.std.specs.List.{IsSplitAt}
use Rattle.emp_command.specs.Words.{IsFileWord, AreFileWords, IsNumber, Asks, IsPlain, solve, check, print, make, migrate, pieces, HasSolveOptions, cert, work, cert_and_work, work_and_cert, HasSaveOption, save, HasWorkOption, limited}
use Rattle.emp_command.specs.Requests.{key_text, verb_text, asks}
use Rattle.emp_command.specs.declared.words.Verb.{Verb}
use Rattle.emp_command.specs.declared.words.Verb.TheVariants.{Solve, Check, Print, Make, Migrate, Pieces}
use Rattle.emp_command.specs.declared.words.Key.{Key}
use Rattle.emp_command.specs.declared.words.Key.TheVariants.{Cert, Work, Save}

pub cert_said : (value file : List ℕ) → file ≡ value → IsFileWord value → HasSolveOptions (codes "--cert" ∷ value ∷ []) (Some file) 1000000
cert_said value file v h = subst (λ y. HasSolveOptions (codes "--cert" ∷ value ∷ []) (Some y) 1000000) (sym v) (cert value h)

pub work_said : (value : List ℕ) (n : ℕ) → IsNumber value n → HasSolveOptions (codes "--work" ∷ value ∷ []) None n
work_said value n h = work value n h

pub save_said : (value file : List ℕ) → file ≡ value → IsFileWord value → HasSaveOption (codes "--save" ∷ value ∷ []) (Some file)
save_said value file v h = subst (λ y. HasSaveOption (codes "--save" ∷ value ∷ []) (Some y)) (sym v) (save value h)

pub ruleset wording = (cert_said, work_said, save_said)

pub cert_first : (file number : List ℕ) (o : Option (List ℕ)) (n : ℕ) → o ≡ Some file → IsFileWord file → IsNumber number n → HasSolveOptions (codes "--cert" ∷ file ∷ codes "--work" ∷ number ∷ []) o n
cert_first file number o n e f h = subst (λ y. HasSolveOptions (codes "--cert" ∷ file ∷ codes "--work" ∷ number ∷ []) y n) (sym e) (cert_and_work file number n f h)

pub number_first : (number file : List ℕ) (o : Option (List ℕ)) (n : ℕ) → o ≡ Some file → IsFileWord file → IsNumber number n → HasSolveOptions (codes "--work" ∷ number ∷ codes "--cert" ∷ file ∷ []) o n
number_first number file o n e f h = subst (λ y. HasSolveOptions (codes "--work" ∷ number ∷ codes "--cert" ∷ file ∷ []) y n) (sym e) (work_and_cert number file n h f)

-- ---- a word that is no key begins no options
abbrev pub IsNoKey : List ℕ → Type 0
IsNoKey word = (k : Key) → word ≡ key_text k → ⊥

pub no_key_of_one : (key value : List ℕ) → IsNoKey key → (o : Option (List ℕ)) (n : ℕ) → HasSolveOptions (key ∷ value ∷ []) o n → ⊥
no_key_of_one key value h o n (cert f i) = h Cert refl
no_key_of_one key value h o n (work w m i) = h Work refl

pub no_key_of_two : (key value other last : List ℕ) → IsNoKey key → (o : Option (List ℕ)) (n : ℕ) → HasSolveOptions (key ∷ value ∷ other ∷ last ∷ []) o n → ⊥
no_key_of_two key value other last h o n (cert_and_work f w m i j) = h Cert refl
no_key_of_two key value other last h o n (work_and_cert w f m i j) = h Work refl

pub no_key_to_save : (key value : List ℕ) → IsNoKey key → (o : Option (List ℕ)) → HasSaveOption (key ∷ value ∷ []) o → ⊥
no_key_to_save key value h o (save f i) = h Save refl

pub no_key_to_limit : (key value : List ℕ) → IsNoKey key → (n : ℕ) → HasWorkOption (key ∷ value ∷ []) n → ⊥
no_key_to_limit key value h n (limited w m i) = h Work refl

pub work_limited : (value : List ℕ) (n : ℕ) → IsNumber value n → HasWorkOption (codes "--work" ∷ value ∷ []) n
work_limited value n h = limited value n h

pub ruleset unkeyed = (work_limited, no_key_of_one, no_key_of_two, no_key_to_save, no_key_to_limit, save_said)

pub no_key_after_cert : (file key number : List ℕ) → IsNoKey key → (o : Option (List ℕ)) (n : ℕ) → HasSolveOptions (codes "--cert" ∷ file ∷ key ∷ number ∷ []) o n → ⊥
no_key_after_cert file key number h o n (cert_and_work f w m i j) = h Work refl

pub no_key_after_work : (number key file : List ℕ) → IsNoKey key → (o : Option (List ℕ)) (n : ℕ) → HasSolveOptions (codes "--work" ∷ number ∷ key ∷ file ∷ []) o n → ⊥
no_key_after_work number key file h o n (work_and_cert w f m i j) = h Cert refl

pub ruleset ordering = (cert_first, number_first, no_key_after_cert, no_key_after_work)

-- ---- lists of so many words
pub no_words : {X : Type 0} (f : X → List ℕ) (ws : List X) → length ws < 1 → map f ws ≡ []
no_words f [] h = refl
no_words f (w ∷ ws) h = absurd (omega arith)

four_of : {X : Type 0} (f : X → List ℕ) (ws : List X) (a b c d : X) → 4 ≤ length ws → length ws < 5 → a ≡ slice_index_or ws 0 a → b ≡ slice_index_or ws 1 b → c ≡ slice_index_or ws 2 c → d ≡ slice_index_or ws 3 d → f a ∷ f b ∷ f c ∷ f d ∷ [] ≡ map f ws
four_of f (v ∷ w ∷ x ∷ y ∷ []) a b c d h k p q r s = ap₂ (λ l m. f l ∷ m) p (ap₂ (λ l m. f l ∷ m) q (ap₂ (λ l m. f l ∷ m) r (ap (λ l. f l ∷ []) s)))
four_of f [] a b c d h k p q r s = absurd (omega arith)
four_of f (v ∷ []) a b c d h k p q r s = absurd (omega arith)
four_of f (v ∷ w ∷ []) a b c d h k p q r s = absurd (omega arith)
four_of f (v ∷ w ∷ x ∷ []) a b c d h k p q r s = absurd (omega arith)
four_of f (v ∷ w ∷ x ∷ y ∷ z ∷ ws) a b c d h k p q r s = absurd (omega arith)

pub four_words : {X : Type 0} (f : X → List ℕ) (ws : List X) (a b c d : X) (k l m n : List ℕ) → 4 ≤ length ws → length ws < 5 → a ≡ slice_index_or ws 0 a → b ≡ slice_index_or ws 1 b → c ≡ slice_index_or ws 2 c → d ≡ slice_index_or ws 3 d → k ≡ f a → l ≡ f b → m ≡ f c → n ≡ f d → k ∷ l ∷ m ∷ n ∷ [] ≡ map f ws
four_words f ws a b c d k l m n h i p q r s t u v w =
    ap₂ (λ x y. x ∷ y) t (ap₂ (λ x y. x ∷ y) u (ap₂ (λ x y. x ∷ y) v (ap (λ x. x ∷ []) w))) ∙ four_of f ws a b c d h i p q r s

-- ---- words that name files
named_at : {X : Type 0} (f : X → List ℕ) (xs : List X) (i : ℕ) (x : X) → i < length xs → x ≡ get_or xs i x → get_or (map f xs) i [] ≡ f x
named_at f xs i x h e = get_or-map f xs i x [] h ∙ ap f (sym e)

pub all_named_so_far : {X : Type 0} (f : X → List ℕ) (xs : List X) (i : ℕ) (x : X) → i < length xs → x ≡ get_or xs i x → IsFileWord (f x) → All IsFileWord (take i (map f xs)) → All IsFileWord (take (i + 1) (map f xs))
all_named_so_far f xs i x h e k before =
    let l : i < length (map f xs) = omega (arith, length-map xs f) in
    All-more IsFileWord (map f xs) i [] l before (subst IsFileWord (sym (named_at f xs i x h e)) k)

pub all_named : {X : Type 0} (f : X → List ℕ) (xs : List X) (i : ℕ) → length xs ≤ i → All IsFileWord (take i (map f xs)) → All IsFileWord (map f xs)
all_named f xs i h before =
    let l : length (map f xs) ≤ i = omega (arith, length-map xs f) in
    subst (λ ys. All IsFileWord ys) (take_all i (map f xs) l) before

pub one_unnamed : {X : Type 0} (f : X → List ℕ) (xs : List X) (i : ℕ) (x : X) → i < length xs → x ≡ get_or xs i x → (IsFileWord (f x) → ⊥) → All IsFileWord (map f xs) → ⊥
one_unnamed f xs i x h e n a = let l : i < length (map f xs) = omega (arith, length-map xs f) in n (subst IsFileWord (named_at f xs i x h e) (a i [] l))

pub ruleset naming = (all_named_so_far, all_named, one_unnamed)

-- ---- what is asked
pub solve_asks : {X : Type 0} (f : X → List ℕ) (ws files os : List X) (o : Option (List ℕ)) (n : ℕ) → IsSplitAt ws 2 files os → AreFileWords (map f files) → HasSolveOptions (map f os) o n → Asks (codes "solve" ∷ map f ws) (asks Solve (map f files) o n)
solve_asks f (v ∷ w ∷ ws) files os o n h a s =
    subst₂ (λ xs ys. AreFileWords (map f xs) → HasSolveOptions (map f ys) o n → Asks (codes "solve" ∷ f v ∷ f w ∷ map f ws) (asks Solve (map f xs) o n)) (sym h.1) (sym h.2) (λ b t. solve (f v) (f w) (map f ws) o n (b 0 [] (omega arith)) (b 1 [] (omega arith)) t) a s
solve_asks f [] files os o n h a s = absurd (omega (arith, h.0))
solve_asks f (v ∷ []) files os o n h a s = absurd (omega (arith, h.0))

pub pieces_asks : {X : Type 0} (f : X → List ℕ) (ws files os : List X) (n : ℕ) → IsSplitAt ws 2 files os → AreFileWords (map f files) → HasWorkOption (map f os) n → Asks (codes "pieces" ∷ map f ws) (asks Pieces (map f files) None n)
pieces_asks f (v ∷ w ∷ ws) files os n h a s =
    subst₂ (λ xs ys. AreFileWords (map f xs) → HasWorkOption (map f ys) n → Asks (codes "pieces" ∷ f v ∷ f w ∷ map f ws) (asks Pieces (map f xs) None n)) (sym h.1) (sym h.2) (λ b t. pieces (f v) (f w) (map f ws) n (b 0 [] (omega arith)) (b 1 [] (omega arith)) t) a s
pieces_asks f [] files os n h a s = absurd (omega (arith, h.0))
pieces_asks f (v ∷ []) files os n h a s = absurd (omega (arith, h.0))

pub print_asks : {X : Type 0} (f : X → List ℕ) (ws : List X) → length ws ≡ 2 → AreFileWords (map f ws) → Asks (codes "print" ∷ map f ws) (asks Print (map f ws) None 1000000)
print_asks f (v ∷ w ∷ []) h a = print (f v) (f w) (a 0 [] (omega arith)) (a 1 [] (omega arith))
print_asks f [] h a = absurd (omega arith)
print_asks f (v ∷ []) h a = absurd (omega arith)
print_asks f (v ∷ w ∷ x ∷ ws) h a = absurd (omega arith)

pub check_asks : {X : Type 0} (f : X → List ℕ) (ws : List X) → length ws ≡ 3 → AreFileWords (map f ws) → Asks (codes "check" ∷ map f ws) (asks Check (map f ws) None 1000000)
check_asks f (v ∷ w ∷ x ∷ []) h a = check (f v) (f w) (f x) (a 0 [] (omega arith)) (a 1 [] (omega arith)) (a 2 [] (omega arith))
check_asks f [] h a = absurd (omega arith)
check_asks f (v ∷ []) h a = absurd (omega arith)
check_asks f (v ∷ w ∷ []) h a = absurd (omega arith)
check_asks f (v ∷ w ∷ x ∷ y ∷ ws) h a = absurd (omega arith)

pub migrate_asks : {X : Type 0} (f : X → List ℕ) (ws : List X) (x : X) (o : List ℕ) → length ws ≡ 4 → x ≡ slice_index_or ws 3 x → o ≡ f x → AreFileWords (map f ws) → Asks (codes "migrate" ∷ map f ws) (asks Migrate (map f (take 3 ws)) (Some o) 1000000)
migrate_asks f (u ∷ v ∷ w ∷ y ∷ []) x o h e i a =
    subst (λ z. Asks (codes "migrate" ∷ f u ∷ f v ∷ f w ∷ f y ∷ []) (asks Migrate (f u ∷ f v ∷ f w ∷ []) (Some z) 1000000)) (ap f (sym e) ∙ sym i) (migrate (f u) (f v) (f w) (f y) (a 0 [] (omega arith)) (a 1 [] (omega arith)) (a 2 [] (omega arith)) (a 3 [] (omega arith)))
migrate_asks f [] x o h e i a = absurd (omega arith)
migrate_asks f (u ∷ []) x o h e i a = absurd (omega arith)
migrate_asks f (u ∷ v ∷ []) x o h e i a = absurd (omega arith)
migrate_asks f (u ∷ v ∷ w ∷ []) x o h e i a = absurd (omega arith)
migrate_asks f (u ∷ v ∷ w ∷ y ∷ z ∷ ws) x o h e i a = absurd (omega arith)

pub make_asks : {X : Type 0} (f : X → List ℕ) (ws numbers os : List X) (x y : X) (k l : List ℕ) (seed firms : ℕ) (o : Option (List ℕ)) → IsSplitAt ws 2 numbers os → x ≡ slice_index_or numbers 0 x → y ≡ slice_index_or numbers 1 y → k ≡ f x → l ≡ f y → IsNumber k seed → IsNumber l firms → HasSaveOption (map f os) o → Asks (codes "make" ∷ map f ws) (record { verb = Make; files = []; output = o; work = 1000000; seed = seed; firms = firms })
make_asks f (v ∷ w ∷ ws) numbers os x y k l seed firms o h d e i j m n s =
    let first : k ≡ f v = i ∙ ap f (d ∙ ap (λ xs. slice_index_or xs 0 x) h.1) in
    let second : l ≡ f w = j ∙ ap f (e ∙ ap (λ xs. slice_index_or xs 1 y) h.1) in
    make (f v) (f w) seed firms (map f ws) o (subst (λ z. IsNumber z seed) first m) (subst (λ z. IsNumber z firms) second n) (subst (λ xs. HasSaveOption (map f xs) o) h.2 s)
make_asks f [] numbers os x y k l seed firms o h d e i j m n s = absurd (omega (arith, h.0))
make_asks f (v ∷ []) numbers os x y k l seed firms o h d e i j m n s = absurd (omega (arith, h.0))

-- ---- a word that is no verb
pub no_verb_asks : (w : List ℕ) (ws : List (List ℕ)) → ((v : Verb) → w ≡ verb_text v → ⊥) → IsPlain (w ∷ ws) → ⊥
no_verb_asks w ws h (a, solve m i os o n k l t) = h Solve refl
no_verb_asks w ws h (a, check m i c k l t) = h Check refl
no_verb_asks w ws h (a, print m i k l) = h Print refl
no_verb_asks w ws h (a, make s f seed firms os o k l t) = h Make refl
no_verb_asks w ws h (a, migrate m i c o k l t u) = h Migrate refl
no_verb_asks w ws h (a, pieces m i os n k l t) = h Pieces refl

pub no_first_asks : {X : Type 0} (f : X → List ℕ) (ws rest : List X) (x : X) (w : List ℕ) → ws ≡ x ∷ rest → w ≡ f x → ((v : Verb) → w ≡ verb_text v → ⊥) → IsPlain (map f ws) → ⊥
no_first_asks f ws rest x w e i h p = no_verb_asks w (map f rest) h (subst (λ y. IsPlain (y ∷ map f rest)) (sym i) (subst (λ ys. IsPlain (map f ys)) e p))
