-- Words that stand each after a space, up to the line's end.
use Rattle.std.proofs.Common.{◌≡◌, ◌≢◌, ◌⊎◌, inl, inr, ℕ, zero, suc, ◌+◌, ◌-◌, ◌<◌, ◌≤◌, Bool, true, false, ◌&&◌, ◌||◌, nat_eq, nat_lt, ℤ, pos, unsigned_abs, List, [], ◌∷◌, ◌++◌, map, length, drop, arith, refl, sym, ap, subst, ◌∙◌, append_assoc, append-nil, length-append, eqb-true, All}
use Rattle.std.specs.Fmt.{signed_decimal}
use Rattle.std.proofs.lemmas.Bool.{and_parts, and_from, cases_eq, cases_Bool, true≢false, lt-ltb, le-ltb, eqb-false, cond-true, cond-false}
use Rattle.std.proofs.lemmas.Int.{ints, to_z-of_z}
use Rattle.std.proofs.lemmas.List.Elements.{All-nil, All-cons, All-append, All-head, All-tail}
use Rattle.emp_num.specs.Exact.{IsNarrow, IsWide}
use Rattle.emp_numeral.specs.FracText.{fraction_text}
use Rattle.emp_numeral.specs.Numeral.{digit, first}
use Rattle.emp_num.specs.Whole.{zero_below_limit}
use Rattle.emp_num.specs.declared.frac.Frac.{Frac}
use Rattle.emp_cert_text.specs.Text.{spaced}
use Rattle.emp_cert_text.specs.Words.{are_digits, is_whole, whole, IsFraction, first_word, after_word}
use Rattle.emp_cert_text.specs.Lines.{AreWords, IsWhole, PushesWhole, PushesFraction, NumbersGive, FractionsGive}
use Rattle.std.specs.Prelude.{Ok, Err}
use Rattle.emp_cert_text.specs.declared.lines.LineFault.{LineFault}
use Rattle.emp_cert_text.specs.declared.lines.LineFault.TheVariants.{Range, Syntax, NoMemory}
use Rattle.emp_cert_text.proofs.Adding.{spaced-append}
use Rattle.emp_cert_text.proofs.Numbers.{digit_range, count_digits, below_zero_is, count_is, signed_is, whole_text, fraction_is}

-- ---- bytes above 32
abbrev pub are_plain : List ℕ → Bool
are_plain [] = true
are_plain (b ∷ bs) = nat_lt 32 b && are_plain bs

pub plain_append : (xs ys : List ℕ) → are_plain xs ≡ true → are_plain ys ≡ true → are_plain (xs ++ ys) ≡ true
plain_append [] ys h k = k
plain_append (x ∷ xs) ys h k =
    let p = and_parts (nat_lt 32 x) (are_plain xs) h in
    and_from (nat_lt 32 x) (are_plain (xs ++ ys)) p.0 (plain_append xs ys p.1 k)

plain_digits : (w : List ℕ) → are_digits w ≡ true → are_plain w ≡ true
plain_digits [] h = refl
plain_digits (b ∷ bs) h =
    let p = and_parts (digit b) (are_digits bs) h in
    let r = digit_range b p.0 in
    and_from (nat_lt 32 b) (are_plain bs) (lt-ltb 32 b (omega (arith, r.0))) (plain_digits bs p.1)

pub plain_whole : (w : List ℕ) → IsWhole w → are_plain w ≡ true
plain_whole w h = go (cases_eq (first w) 45)
  where
    go : (first w ≡ 45) ⊎ (first w ≢ 45) → are_plain w ≡ true
    go (inl e) =
        let z = below_zero_is w h e in
        ap are_plain z.parts ∙ plain_digits (drop 1 w) (count_digits (drop 1 w) z.count)
    go (inr e) = plain_digits w (count_digits w (count_is w h e).count)

pub plain_fraction : (w : List ℕ) → IsFraction w → are_plain w ≡ true
plain_fraction w (inl h) = plain_whole w h
plain_fraction w (inr q) = ap are_plain q.parts ∙ plain_append q.num (47 ∷ q.den) (plain_whole q.num q.num_whole) (plain_digits q.den (count_digits q.den q.den_count))

pub first_plain : (w u : List ℕ) → are_plain w ≡ true → first u ≤ 32 → first_word (w ++ u) ≡ w
first_plain [] [] h l = refl
first_plain [] (x ∷ u) h l = cond-false (nat_lt 32 x) (x ∷ first_word u) [] (le-ltb 32 x l)
first_plain (b ∷ bs) u h l =
    let p = and_parts (nat_lt 32 b) (are_plain bs) h in
    cond-true (nat_lt 32 b) (b ∷ first_word (bs ++ u)) [] p.0 ∙ ap (λ x. b ∷ x) (first_plain bs u p.1 l)

pub after_plain : (w u : List ℕ) → are_plain w ≡ true → first u ≤ 32 → after_word (w ++ u) ≡ u
after_plain [] [] h l = refl
after_plain [] (x ∷ u) h l = cond-false (nat_lt 32 x) (after_word u) (x ∷ u) (le-ltb 32 x l)
after_plain (b ∷ bs) u h l =
    let p = and_parts (nat_lt 32 b) (are_plain bs) h in
    cond-true (nat_lt 32 b) (after_word (bs ++ u)) (b ∷ (bs ++ u)) p.0 ∙ after_plain bs u p.1 l

pub word_parts : (t : List ℕ) → t ≡ first_word t ++ after_word t
word_parts [] = refl
word_parts (b ∷ bs) = go (cases_Bool (nat_lt 32 b)) (word_parts bs)
  where
    go : (nat_lt 32 b ≡ true) ⊎ (nat_lt 32 b ≡ false) → bs ≡ first_word bs ++ after_word bs → b ∷ bs ≡ first_word (b ∷ bs) ++ after_word (b ∷ bs)
    go (inl e) r = rw (cond-true (nat_lt 32 b) (b ∷ first_word bs) [] e, cond-true (nat_lt 32 b) (after_word bs) (b ∷ bs) e) (ap (λ x. b ∷ x) r)
    go (inr e) r = rw (cond-false (nat_lt 32 b) (b ∷ first_word bs) [] e, cond-false (nat_lt 32 b) (after_word bs) (b ∷ bs) e) refl

-- ---- one word more
abbrev pub Plain : (List ℕ → Type 0) → Type 0
Plain P = (w : List ℕ) → P w → are_plain w ≡ true

pub words_first : (P : List ℕ → Type 0) (n : ℕ) (t : List ℕ) → AreWords P n t → first t ≤ 32
words_first P zero t h = omega (arith, ap first h)
words_first P (suc n) t h = omega (arith, ap first h.2)

pub record Peeled (P : List ℕ → Type 0) (n : ℕ) (t : List ℕ) : Type 0 where
  pub space : first t ≡ 32
  pub word : P (first_word (drop 1 t))
  pub rest : AreWords P n (after_word (drop 1 t))

pub peel : (P : List ℕ → Type 0) → Plain P → (n : ℕ) (t : List ℕ) → AreWords P (suc n) t → Peeled P n t
peel P plain n t h =
    let l : first h.1 ≤ 32 = words_first P n h.1 h.4 in
    let d : drop 1 t ≡ h.0 ++ h.1 = ap (drop 1) h.2 in
    record {
      space = ap first h.2;
      word = subst (λ (x : List ℕ). P x) (sym (ap first_word d ∙ first_plain h.0 h.1 (plain h.0 h.3) l)) h.3;
      rest = subst (λ (x : List ℕ). AreWords P n x) (sym (ap after_word d ∙ after_plain h.0 h.1 (plain h.0 h.3) l)) h.4;
    }

pub space_parts : (t : List ℕ) → first t ≡ 32 → t ≡ 32 ∷ (first_word (drop 1 t) ++ after_word (drop 1 t))
space_parts [] e = absurd (omega (arith, e))
space_parts (b ∷ bs) e = ap (λ x. x ∷ bs) e ∙ ap (λ x. 32 ∷ x) (word_parts bs)

pub unpeel : (P : List ℕ → Type 0) (n : ℕ) (t : List ℕ) → Peeled P n t → AreWords P (suc n) t
unpeel P n t h = (first_word (drop 1 t), after_word (drop 1 t), space_parts t h.space, h.word, h.rest)

-- ---- words of values
abbrev pub Written : {A : Type 0} → (A → List ℕ) → (A → Type 0) → List ℕ → Type 0
Written {A} text N w = (a : A) × N a × (w ≡ text a)

abbrev pub SomeWords : (List ℕ → Type 0) → List ℕ → Type 0
SomeWords P t = (n : ℕ) × AreWords P n t

pub written_words : {A : Type 0} (text : A → List ℕ) (N : A → Type 0) (xs : List A) → All N xs → AreWords (Written text N) (length xs) (spaced (map text xs) ++ 10 ∷ [])
written_words text N [] h = refl
written_words text N (x ∷ xs) h = (text x, spaced (map text xs) ++ 10 ∷ [], ap (λ z. 32 ∷ z) (append_assoc (text x) (spaced (map text xs)) (10 ∷ [])), (x, All-head N x xs h, refl), written_words text N xs (All-tail N x xs h))

-- ---- reading
abbrev pub SoFar : {A : Type 0} → (A → List ℕ) → (A → Type 0) → List ℕ → List ℕ → List A → Bool → Type 0
SoFar text N start rest out false = (start ≡ spaced (map text out) ++ rest) × (SomeWords (Written text N) start → SomeWords (Written text N) rest)
SoFar text N start rest out true = SomeWords (Written text N) start → ⊥

pub record Reading {A : Type 0} (text : A → List ℕ) (N : A → Type 0) (P : List ℕ → Type 0) (count done : ℕ) (start rest : List ℕ) (out : List A) (outside : Bool) : Type 0 where
  pub to : AreWords P count start → AreWords P (count - done) rest
  pub back : AreWords P (count - done) rest → AreWords P count start
  pub size : length out ≡ done
  pub all : All N out
  pub so_far : SoFar text N start rest out outside

pub reading_none : {A : Type 0} (text : A → List ℕ) (N : A → Type 0) (P : List ℕ → Type 0) (count : ℕ) (start : List ℕ) → Reading text N P count 0 start start [] false
reading_none text N P count start = let n : count - 0 ≡ count = omega arith in record { to = λ h. subst (λ k. AreWords P k start) (sym n) h; back = λ h. subst (λ k. AreWords P k start) n h; size = refl; all = All-nil N; so_far = (refl, λ h. h) }

-- the next word is one of a value, or one that is outside its range
pub data Pushed {A : Type 0} (text : A → List ℕ) (N : A → Type 0) (w : List ℕ) (old new : List A) : Bool → Type 0 where
  inside : (a : A) → new ≡ old ++ a ∷ [] → N a → w ≡ text a → Pushed text N w old new false
  beyond : (a : A) → new ≡ old ++ a ∷ [] → N a → (Written text N w → ⊥) → Pushed text N w old new true

peel_some : (P : List ℕ → Type 0) → Plain P → (t : List ℕ) → first t ≡ 32 → SomeWords P t → P (first_word (drop 1 t)) × SomeWords P (after_word (drop 1 t))
peel_some P plain t e (zero, h) = absurd (omega (arith, e, ap first h))
peel_some P plain t e (suc n, h) = let p = peel P plain n t h in (p.word, (n, p.rest))

spaced_on : {A : Type 0} (text : A → List ℕ) (start rest w u : List ℕ) (out new : List A) (a : A) → start ≡ spaced (map text out) ++ rest → rest ≡ 32 ∷ (w ++ u) → w ≡ text a → new ≡ out ++ a ∷ [] → start ≡ spaced (map text new) ++ u
spaced_on text start rest w u out new a e f g h =
    let one : 32 ∷ (w ++ u) ≡ spaced (text a ∷ []) ++ u = ap (λ x. 32 ∷ (x ++ u)) (g ∙ sym (append-nil (text a))) in
    e ∙ (ap (λ x. spaced (map text out) ++ x) (f ∙ one)
    ∙ (sym (append_assoc (spaced (map text out)) (spaced (text a ∷ [])) u)
    ∙ ap (λ x. x ++ u) (sym (spaced-append (map text out) (text a ∷ [])) ∙ (ap spaced (sym (map_more text out a)) ∙ ap (λ x. spaced (map text x)) (sym h)))))
  where
    map_more : {A : Type 0} (text : A → List ℕ) (xs : List A) (a : A) → map text (xs ++ a ∷ []) ≡ map text xs ++ text a ∷ []
    map_more text [] a = refl
    map_more text (x ∷ xs) a = ap (λ z. text x ∷ z) (map_more text xs a)

so_far_on : {A : Type 0} (text : A → List ℕ) (N : A → Type 0) (start rest : List ℕ) (out new : List A) (outside wide : Bool) → Plain (Written text N) → first rest ≡ 32 → SoFar text N start rest out outside → Pushed text N (first_word (drop 1 rest)) out new wide → SoFar text N start (after_word (drop 1 rest)) new (outside || wide)
so_far_on text N start rest out new true wide plain e h p = h
so_far_on text N start rest out new false false plain e h (inside a f n g) =
    (spaced_on text start rest (first_word (drop 1 rest)) (after_word (drop 1 rest)) out new a h.0 (space_parts rest e) g f, λ s. (peel_some (Written text N) plain rest e (h.1 s)).1)
so_far_on text N start rest out new false true plain e h (beyond a f n g) = λ s. g (peel_some (Written text N) plain rest e (h.1 s)).0

pushed_size : {A : Type 0} (text : A → List ℕ) (N : A → Type 0) (w : List ℕ) (old new : List A) (b : Bool) → Pushed text N w old new b → length new ≡ length old + 1
pushed_size text N w old new false (inside a f n g) = ap length f ∙ length-append old (a ∷ [])
pushed_size text N w old new true (beyond a f n g) = ap length f ∙ length-append old (a ∷ [])

pushed_all : {A : Type 0} (text : A → List ℕ) (N : A → Type 0) (w : List ℕ) (old new : List A) (b : Bool) → Pushed text N w old new b → All N old → All N new
pushed_all text N w old new false (inside a f n g) h = subst (λ xs. All N xs) (sym f) (All-append N old (a ∷ []) h (All-cons N a [] n (All-nil N)))
pushed_all text N w old new true (beyond a f n g) h = subst (λ xs. All N xs) (sym f) (All-append N old (a ∷ []) h (All-cons N a [] n (All-nil N)))

pub reading_on : {A : Type 0} (text : A → List ℕ) (N : A → Type 0) (P : List ℕ → Type 0) (count done : ℕ) (start rest : List ℕ) (out new : List A) (outside wide : Bool) → Plain P → Plain (Written text N) → done < count → first rest ≡ 32 → P (first_word (drop 1 rest)) → Pushed text N (first_word (drop 1 rest)) out new wide → Reading text N P count done start rest out outside → Reading text N P count (done + 1) start (after_word (drop 1 rest)) new (outside || wide)
reading_on text N P count done start rest out new outside wide plain typed l e p q h =
    let n : count - done ≡ suc (count - (done + 1)) = omega arith in
    record {
      to = λ a. (peel P plain (count - (done + 1)) rest (subst (λ k. AreWords P k rest) n (h.to a))).rest;
      back = λ a. h.back (subst (λ k. AreWords P k rest) (sym n) (unpeel P (count - (done + 1)) rest (record { space = e; word = p; rest = a })));
      size = omega (arith, pushed_size text N (first_word (drop 1 rest)) out new wide q, h.size);
      all = pushed_all text N (first_word (drop 1 rest)) out new wide q h.all;
      so_far = so_far_on text N start rest out new outside wide typed e h.so_far q;
    }

pub no_space : {A : Type 0} (text : A → List ℕ) (N : A → Type 0) (P : List ℕ → Type 0) (count done : ℕ) (start rest : List ℕ) (out : List A) (outside : Bool) → Plain P → done < count → first rest ≢ 32 → Reading text N P count done start rest out outside → AreWords P count start → ⊥
no_space text N P count done start rest out outside plain l e h a =
    let n : count - done ≡ suc (count - (done + 1)) = omega arith in
    e (peel P plain (count - (done + 1)) rest (subst (λ k. AreWords P k rest) n (h.to a))).space

pub no_word : {A : Type 0} (text : A → List ℕ) (N : A → Type 0) (P : List ℕ → Type 0) (count done : ℕ) (start rest : List ℕ) (out : List A) (outside : Bool) → Plain P → done < count → (P (first_word (drop 1 rest)) → ⊥) → Reading text N P count done start rest out outside → AreWords P count start → ⊥
no_word text N P count done start rest out outside plain l e h a =
    let n : count - done ≡ suc (count - (done + 1)) = omega arith in
    e (peel P plain (count - (done + 1)) rest (subst (λ k. AreWords P k rest) n (h.to a))).word

pub no_end : {A : Type 0} (text : A → List ℕ) (N : A → Type 0) (P : List ℕ → Type 0) (count done : ℕ) (start rest : List ℕ) (out : List A) (outside : Bool) → count ≤ done → (rest ≡ 10 ∷ [] → ⊥) → Reading text N P count done start rest out outside → AreWords P count start → ⊥
no_end text N P count done start rest out outside l e h a =
    let n : count - done ≡ 0 = omega arith in
    e (subst (λ k. AreWords P k rest) n (h.to a))

pub at_end : {A : Type 0} (text : A → List ℕ) (N : A → Type 0) (P : List ℕ → Type 0) (count done : ℕ) (start rest : List ℕ) (out : List A) (outside : Bool) → count ≤ done → rest ≡ 10 ∷ [] → Reading text N P count done start rest out outside → AreWords P count start
at_end text N P count done start rest out outside l e h =
    let n : count - done ≡ 0 = omega arith in
    h.back (subst (λ k. AreWords P k rest) (sym n) e)

-- ---- whole numbers and fractions
pub not_whole : (w : List ℕ) → is_whole w ≡ false → IsWhole w → ⊥
not_whole w e h = true≢false (sym h ∙ e)

pub not_narrow : (w : List ℕ) → IsWide (whole w) → (z : ℤ) → IsNarrow z → w ≡ signed_decimal z → ⊥
not_narrow w h z n e = absurd (omega (arith, h, n, ap unsigned_abs (ap whole e ∙ (signed_is z n).1)))

pub ruleset pushing = (to_z-of_z, zero_below_limit, not_whole, not_narrow, whole_text)

abbrev pub AnyFrac : Frac → Type 0
AnyFrac f = Unit {0}

pub pushed_whole : (w : List ℕ) (old new : List ℤ) (b : Bool) → PushesWhole w old new (Ok b) → IsWhole w × Pushed signed_decimal IsNarrow w old new b
pushed_whole w old new false h = (h.3, inside h.0 h.1 h.2 h.4)
pushed_whole w old new true h = (h.1, beyond (pos 0) h.0 (omega (arith, ints)) (λ z. h.2 z.0 z.1 z.2))

pub pushed_fraction : (w : List ℕ) (old new : List Frac) (b : Bool) → PushesFraction w old new (Ok b) → IsFraction w × Pushed fraction_text AnyFrac w old new b
pushed_fraction w old new false h = (h.2, inside h.0 h.1 tt h.3)
pushed_fraction w old new true h = (h.2, beyond h.0 h.1 tt (λ f. h.3 f.0 f.2))

pub plain_signed : Plain (Written signed_decimal IsNarrow)
plain_signed w h = ap are_plain h.2 ∙ plain_whole (signed_decimal h.0) (signed_is h.0 h.1).0

pub plain_frac : Plain (Written fraction_text AnyFrac)
plain_frac w h = ap are_plain h.2 ∙ plain_fraction (fraction_text h.0) (fraction_is h.0)

-- the numbers that were read, or why none were
pub numbers_end : (count done : ℕ) (start rest : List ℕ) (out : List ℤ) → count ≤ done → done ≤ count → rest ≡ 10 ∷ [] → Reading signed_decimal IsNarrow IsWhole count done start rest out false → NumbersGive start count (Ok out)
numbers_end count done start rest out l m e h = (h.so_far.0 ∙ ap (λ x. spaced (map signed_decimal out) ++ x) e, omega (arith, h.size), h.all)

pub numbers_beyond : (count done : ℕ) (start rest : List ℕ) (out : List ℤ) (outside : Bool) → count ≤ done → outside ≡ true → rest ≡ 10 ∷ [] → Reading signed_decimal IsNarrow IsWhole count done start rest out outside → NumbersGive start count (Err Range)
numbers_beyond count done start rest out outside l o e h = (
  at_end signed_decimal IsNarrow IsWhole count done start rest out outside l e h,
  λ z. (subst (λ (b : Bool). SoFar signed_decimal IsNarrow start rest out b) o h.so_far) (length z.0, subst (λ t. AreWords (Written signed_decimal IsNarrow) (length z.0) t) (sym z.2) (written_words signed_decimal IsNarrow z.0 z.1)),
)

pub all_fracs : (fs : List Frac) → All AnyFrac fs
all_fracs [] = All-nil AnyFrac
all_fracs (f ∷ fs) = All-cons AnyFrac f fs tt (all_fracs fs)

pub fractions_end : (count done : ℕ) (start rest : List ℕ) (out : List Frac) → count ≤ done → done ≤ count → rest ≡ 10 ∷ [] → Reading fraction_text AnyFrac IsFraction count done start rest out false → FractionsGive start count (Ok out)
fractions_end count done start rest out l m e h = (h.so_far.0 ∙ ap (λ x. spaced (map fraction_text out) ++ x) e, omega (arith, h.size))

pub fractions_beyond : (count done : ℕ) (start rest : List ℕ) (out : List Frac) (outside : Bool) → count ≤ done → outside ≡ true → rest ≡ 10 ∷ [] → Reading fraction_text AnyFrac IsFraction count done start rest out outside → FractionsGive start count (Err Range)
fractions_beyond count done start rest out outside l o e h = (
  at_end fraction_text AnyFrac IsFraction count done start rest out outside l e h,
  λ z. (subst (λ (b : Bool). SoFar fraction_text AnyFrac start rest out b) o h.so_far) (length z.0, subst (λ t. AreWords (Written fraction_text AnyFrac) (length z.0) t) (sym z.1) (written_words fraction_text AnyFrac z.0 (all_fracs z.0))),
)

-- ---- steps of the reading of numbers
pub numbers_on : (count done : ℕ) (start rest w u : List ℕ) (out new : List ℤ) (outside wide : Bool) → done < count → nat_eq (first rest) 32 ≡ true → w ≡ first_word (drop 1 rest) → u ≡ after_word (drop 1 rest) → PushesWhole w out new (Ok wide) → Reading signed_decimal IsNarrow IsWhole count done start rest out outside → Reading signed_decimal IsNarrow IsWhole count (done + 1) start u new (outside || wide)
numbers_on count done start rest w u out new outside wide l s e f h r =
    let g = pushed_whole (first_word (drop 1 rest)) out new wide (subst (λ (x : List ℕ). PushesWhole x out new (Ok wide)) e h) in
    subst (λ (x : List ℕ). Reading signed_decimal IsNarrow IsWhole count (done + 1) start x new (outside || wide)) (sym f)
    (reading_on signed_decimal IsNarrow IsWhole count done start rest out new outside wide plain_whole plain_signed l (eqb-true (first rest) 32 s) g.0 g.1 r)

pub numbers_no_space : (count done : ℕ) (start rest : List ℕ) (out : List ℤ) (outside : Bool) → done < count → nat_eq (first rest) 32 ≡ false → Reading signed_decimal IsNarrow IsWhole count done start rest out outside → AreWords IsWhole count start → ⊥
numbers_no_space count done start rest out outside l s r = no_space signed_decimal IsNarrow IsWhole count done start rest out outside plain_whole l (eqb-false (first rest) 32 s) r

pub numbers_fault : (count done : ℕ) (start rest w : List ℕ) (out new : List ℤ) (outside : Bool) (e : LineFault) → done < count → w ≡ first_word (drop 1 rest) → PushesWhole w out new (Err e) → Reading signed_decimal IsNarrow IsWhole count done start rest out outside → NumbersGive start count (Err e)
numbers_fault count done start rest w out new outside Range l f h r = absurd h
numbers_fault count done start rest w out new outside Syntax l f h r = no_word signed_decimal IsNarrow IsWhole count done start rest out outside plain_whole l (λ p. h (subst (λ (x : List ℕ). IsWhole x) (sym f) p)) r
numbers_fault count done start rest w out new outside NoMemory l f h r = tt

-- ---- steps of the reading of fractions
pub fractions_on : (count done : ℕ) (start rest w u : List ℕ) (out new : List Frac) (outside wide : Bool) → done < count → nat_eq (first rest) 32 ≡ true → w ≡ first_word (drop 1 rest) → u ≡ after_word (drop 1 rest) → PushesFraction w out new (Ok wide) → Reading fraction_text AnyFrac IsFraction count done start rest out outside → Reading fraction_text AnyFrac IsFraction count (done + 1) start u new (outside || wide)
fractions_on count done start rest w u out new outside wide l s e f h r =
    let g = pushed_fraction (first_word (drop 1 rest)) out new wide (subst (λ (x : List ℕ). PushesFraction x out new (Ok wide)) e h) in
    subst (λ (x : List ℕ). Reading fraction_text AnyFrac IsFraction count (done + 1) start x new (outside || wide)) (sym f)
    (reading_on fraction_text AnyFrac IsFraction count done start rest out new outside wide plain_fraction plain_frac l (eqb-true (first rest) 32 s) g.0 g.1 r)

pub fractions_no_space : (count done : ℕ) (start rest : List ℕ) (out : List Frac) (outside : Bool) → done < count → nat_eq (first rest) 32 ≡ false → Reading fraction_text AnyFrac IsFraction count done start rest out outside → AreWords IsFraction count start → ⊥
fractions_no_space count done start rest out outside l s r = no_space fraction_text AnyFrac IsFraction count done start rest out outside plain_fraction l (eqb-false (first rest) 32 s) r

pub fractions_fault : (count done : ℕ) (start rest w : List ℕ) (out new : List Frac) (outside : Bool) (e : LineFault) → done < count → w ≡ first_word (drop 1 rest) → PushesFraction w out new (Err e) → Reading fraction_text AnyFrac IsFraction count done start rest out outside → FractionsGive start count (Err e)
fractions_fault count done start rest w out new outside Range l f h r = absurd h
fractions_fault count done start rest w out new outside Syntax l f h r = no_word fraction_text AnyFrac IsFraction count done start rest out outside plain_fraction l (λ p. h (subst (λ (x : List ℕ). IsFraction x) (sym f) p)) r
fractions_fault count done start rest w out new outside NoMemory l f h r = tt
