-- What the lexemes of a text are, and what the statements have for which they stand.
use Rattle.std.proofs.Common.{◌≡◌, ◌⊎◌, inl, inr, ℕ, ◌≤◌, ℤ, pos, zero, suc, negsuc, neg_ℤ, max, Bool, true, false, not, ◌&&◌, List, [], ◌∷◌, ◌++◌, codes, Ok, refl, sym, ap, subst, ◌∙◌, arith}
use Rattle.std.specs.Prelude.{bytes_eq, slice_range}
use Rattle.std.specs.List.{AllByRecursion as Each}
use Rattle.std.proofs.lemmas.Bool.{both_ways, and_parts, not-true, cond_both}
use Rattle.std.proofs.Math.Nat.{le-max_left, le-max_right}
use Rattle.std.proofs.lemmas.List.Elements.{recursion_from_All}
use Rattle.emp_num.specs.declared.frac.Frac.{Frac}
use Rattle.emp_numeral.specs.Numeral.{NumeralGives}
use Rattle.emp_num.specs.Opposite.{opposite}
use Rattle.emp_num.proofs.Same.{frac_eq}
use Rattle.emp_list.specs.Case.{lower}
use Rattle.emp_lex.specs.declared.token.Token.{Token}
use Rattle.emp_lex.specs.declared.token.TokenKind.{TokenKind}
use Rattle.emp_lex.specs.declared.token.TokenKind.TheVariants.{Name as NameKind, Numeral as NumeralKind, Text as TextKind, Relation as RelationKind, Symbol as SymbolKind}
use Rattle.emp_lex.specs.Forms.{HasForm, IsFormed}
use Rattle.emp_lex.proofs.TokenBytes.{tokens_formed}
use Rattle.gms_grammar.specs.declared.kind.Kind.{Kind}
use Rattle.gms_grammar.specs.declared.lexeme.Word.{Word}
use Rattle.gms_grammar.specs.declared.lexeme.Word.TheVariants.{Other}
use Rattle.gms_grammar.specs.declared.lexeme.Sign.{Sign}
use Rattle.gms_grammar.specs.declared.lexeme.Sign.TheVariants.{Plus, Minus}
use Rattle.gms_grammar.specs.declared.lexeme.Scale.TheVariants.{Times, Over}
use Rattle.gms_grammar.specs.declared.lexeme.Sort.{Sort}
use Rattle.gms_grammar.specs.declared.lexeme.Sort.TheVariants.{Name, Numeral, Sign as Signed, Scale as Scaled, Raise, Equals, Semicolon, Comma, Dot, Dots, Open, Close}
use Rattle.gms_grammar.specs.declared.lexeme.Lexeme.{Lexeme}
use Rattle.gms_read.specs.declared.draft.Draft.{Draft}
use Rattle.gms_grammar.specs.declared.limit.Limit.{Limit}
use Rattle.gms_grammar.specs.declared.limit.Limit.TheVariants.{Below, At, Above}
use Rattle.gms_grammar.specs.Lexemes.{of_words, words, keywords, word_sort, symbol_sort, IsSort, spelling, IsLexeme, AreLexemes}
use Rattle.gms_grammar.specs.Grammar.{Written, numeral, name, call, listed, grouped, raised, signed, joined, Level, Sum, Stands, a_numeral, a_name, a_call, a_group, a_primary, a_power, a_factor, a_product, a_term, a_signed, a_sum, an_argument, arguments, IsEntry, bare, described, AreNames, first, next, next_behind_comma, signed_limit, IsUnsigned, finite, infinite, IsLimit, no_sign, with_sign, Statement, empty, variables, equations, definition, setting, model, matched, solve, AreMatches, one_match, more_matches, IsStatementOf, is_empty, is_variables, is_domain, is_equations, is_definition, is_setting, is_model, is_matched}
use Rattle.gms_read.specs.Texts.{HasLexemes}
use Rattle.gms_read.specs.Rules.{meaning}
use Rattle.gms_print.proofs.Sound.{IsFree, IsValue, depth}
use Rattle.gms_print.proofs.Depths.{nest, fits, Rises, rises, rises_one, rises_more, rises_both, rises_left, flat_sort}

pub each_parts : {X : Type 0} (P : X → Type 0) (xs ys : List X) → Each P (xs ++ ys) → Each P xs × Each P ys
each_parts P [] ys h = (tt, h)
each_parts P (x ∷ xs) ys h = let t = each_parts P xs ys h.1 in ((h.0, t.0), t.1)

pub each_append : {X : Type 0} (P : X → Type 0) (xs ys : List X) → Each P xs → Each P ys → Each P (xs ++ ys)
each_append P [] ys h k = k
each_append P (x ∷ xs) ys h k = (h.0, each_append P xs ys h.1 k)

-- ---- sorts of words and symbols
abbrev pub none_passes : (Sort → Bool) → List (List ℕ × Sort) → Bool
none_passes p [] = true
none_passes p (w ∷ ws) = not (p w.1) && none_passes p ws

pub of_words_fails : (p : Sort → Bool) (other : Sort) (ws : List (List ℕ × Sort)) (bs : List ℕ) → p other ≡ false → none_passes p ws ≡ true → p (of_words other ws bs) ≡ false
of_words_fails p other [] bs h k = h
of_words_fails p other (w ∷ ws) bs h k =
    let a = and_parts (not (p w.1)) (none_passes p ws) k in
    cond_both (bytes_eq bs w.0) w.1 (of_words other ws bs) (λ s. p s ≡ false) (λ _. not-true (p w.1) a.0) (λ _. of_words_fails p other ws bs h a.1)

abbrev pub symbols : List (List ℕ × Sort)
symbols =
    (codes "+", Signed Plus) ∷ (codes "-", Signed Minus) ∷ (codes "*", Scaled Times) ∷ (codes "/", Scaled Over) ∷ (codes "**", Raise) ∷ (codes ";", Semicolon) ∷ (codes ",", Comma) ∷ (codes ".", Dot) ∷ (codes "..", Dots) ∷ (codes "(", Open) ∷ (codes ")", Close) ∷ []

abbrev is_name_sort : Sort → Bool
is_name_sort (Name w) = true
is_name_sort s = false

abbrev is_numeral_sort : Sort → Bool
is_numeral_sort (Numeral f) = true
is_numeral_sort s = false

symbol_no_name : (bs : List ℕ) → is_name_sort (symbol_sort bs) ≡ false
symbol_no_name bs = of_words_fails is_name_sort Equals symbols bs refl refl

symbol_no_numeral : (bs : List ℕ) → is_numeral_sort (symbol_sort bs) ≡ false
symbol_no_numeral bs = of_words_fails is_numeral_sort Equals symbols bs refl refl

word_no_numeral : (bs : List ℕ) → is_numeral_sort (word_sort bs) ≡ false
word_no_numeral bs = of_words_fails is_numeral_sort (Name (of_words Other words (lower bs))) keywords (lower bs) refl refl

-- ---- lexemes
-- a name is no keyword, and a numeral has its value
pub record IsGood (text : List ℕ) (t : Lexeme) : Type 0 where
  pub name : (w : Word) → t.sort ≡ Name w → IsFree (spelling text t)
  pub value : (f : Frac) → t.sort ≡ Numeral f → IsValue f

no_name : (s : Sort) (w : Word) → is_name_sort s ≡ false → s ≡ Name w → ⊥
no_name s w h e = both_ways (is_name_sort s) h (ap is_name_sort e)

no_numeral : (s : Sort) (f : Frac) → is_numeral_sort s ≡ false → s ≡ Numeral f → ⊥
no_numeral s f h e = both_ways (is_numeral_sort s) h (ap is_numeral_sort e)

name_free : (kind : TokenKind) (bs : List ℕ) (s : Sort) (w : Word) → HasForm kind bs → IsSort kind bs s → s ≡ Name w → IsFree bs
name_free NameKind bs s w h k e = record { form = h; word = w; sort = sym k ∙ e }
name_free NumeralKind bs s w h k e = absurd (no_name s w (ap is_name_sort k.1) e)
name_free TextKind bs s w h k e = absurd (no_name s w (ap is_name_sort k) e)
name_free RelationKind bs s w h k e = absurd (no_name s w (ap is_name_sort k) e)
name_free SymbolKind bs s w h k e = absurd (no_name s w (ap is_name_sort k ∙ symbol_no_name bs) e)

same_numeral : (f g : Frac) → ◌≡◌ {A = Sort} (Numeral f) (Numeral g) → f ≡ g
same_numeral f g e = cc

-- a lexeme that is a numeral has the value of its bytes
pub numeral_gives : (kind : TokenKind) (bs : List ℕ) (s : Sort) (f : Frac) → IsSort kind bs s → s ≡ Numeral f → NumeralGives bs (Ok f)
numeral_gives NameKind bs s f k e = absurd (no_numeral s f (ap is_numeral_sort k ∙ word_no_numeral bs) e)
numeral_gives NumeralKind bs s f k e = subst (λ g. NumeralGives bs (Ok g)) (same_numeral k.0 f (sym k.1 ∙ e)) k.2
numeral_gives TextKind bs s f k e = absurd (no_numeral s f (ap is_numeral_sort k) e)
numeral_gives RelationKind bs s f k e = absurd (no_numeral s f (ap is_numeral_sort k) e)
numeral_gives SymbolKind bs s f k e = absurd (no_numeral s f (ap is_numeral_sort k ∙ symbol_no_numeral bs) e)

good_lexeme : (text : List ℕ) (k : Token) (t : Lexeme) → IsFormed text k → IsLexeme text k t → IsGood text t
good_lexeme text k t h i =
    let form : HasForm k.kind (spelling text t) = subst (λ a. HasForm k.kind (slice_range text a t.to)) (sym i.from) (subst (λ b. HasForm k.kind (slice_range text k.from b)) (sym i.to) h) in
    record { name = λ w e. name_free k.kind (spelling text t) t.sort w form i.sort e; value = λ f e. (spelling text t, numeral_gives k.kind (spelling text t) t.sort f i.sort e) }

good_list : (text : List ℕ) (ks : List Token) (ts : List Lexeme) → Each (IsFormed text) ks → AreLexemes text ks ts → Each (IsGood text) ts
good_list text [] [] h k = tt
good_list text [] (t ∷ ts) h k = absurd k
good_list text (s ∷ ks) [] h k = absurd k
good_list text (s ∷ ks) (t ∷ ts) h k = (good_lexeme text s t h.0 k.0, good_list text ks ts h.1 k.1)

pub good_lexemes : (text : List ℕ) (ts : List Lexeme) → HasLexemes text ts → Each (IsGood text) ts
good_lexemes text ts h = good_list text h.tokens ts (recursion_from_All (IsFormed text) h.tokens (tokens_formed text h.tokens h.cut)) h.are

-- ---- expressions
-- the numerals have their values
abbrev pub HasValues : Written → Type 0
HasValues (numeral t f) = IsValue f
HasValues (name t) = Unit {0}
HasValues (call t a) = HasValues a
HasValues (listed a b) = HasValues a × HasValues b
HasValues (grouped e) = HasValues e
HasValues (raised e p f) = HasValues e
HasValues (signed s t e) = HasValues e
HasValues (joined op t e f) = HasValues e × HasValues f

has_values : (text : List ℕ) (level : Level) (ts : List Lexeme) (e : Written) → Stands level ts e → Each (IsGood text) ts → HasValues e
has_values text level ts e (a_numeral t f i) g = g.0.value f i
has_values text level ts e (a_name t i) g = tt
has_values text level ts e (a_call t o c us a i j s k) g = has_values text _ us a s (each_parts (IsGood text) us (c ∷ []) g.1.1).0
has_values text level ts e (a_group o c us a i s j) g = has_values text _ us a s (each_parts (IsGood text) us (c ∷ []) g.1).0
has_values text level ts e (a_primary us a s) g = has_values text _ us a s g
has_values text level ts e (a_power us p n f a s i j) g = has_values text _ us a s (each_parts (IsGood text) us (p ∷ n ∷ []) g).0
has_values text level ts e (a_factor us a s) g = has_values text _ us a s g
has_values text level ts e (a_product us vs t k a b s i r) g =
    let p = each_parts (IsGood text) us (t ∷ vs) g in
    (has_values text _ us a s p.0, has_values text _ vs b r p.1.1)
has_values text level ts e (a_term us a s) g = has_values text _ us a s g
has_values text level ts e (a_signed t k us a i s) g = has_values text _ us a s g.1
has_values text level ts e (a_sum us vs t k a b s i r) g =
    let p = each_parts (IsGood text) us (t ∷ vs) g in
    (has_values text _ us a s p.0, has_values text _ vs b r p.1.1)
has_values text level ts e (an_argument us a s) g = has_values text _ us a s g
has_values text level ts e (arguments us vs c a b s i r) g =
    let p = each_parts (IsGood text) us (c ∷ vs) g in
    (has_values text _ us a s p.0, has_values text _ vs b r p.1.1)

-- a side of a definition
pub record GoodSide (text : List ℕ) (e : Written) : Type 0 where
  pub values : HasValues e
  pub shallow : (d : Draft) → depth (meaning text d e) ≤ 64

good_side : (text : List ℕ) (ts : List Lexeme) (e : Written) → Stands Sum ts e → Each (IsGood text) ts → nest e ≤ 64 → GoodSide text e
good_side text ts e s g l = record { values = has_values text Sum ts e s g; shallow = λ d. let h : depth (meaning text d e) ≤ nest e = fits text d Sum ts e s in omega arith }

-- ---- limits
-- the value of a numeral, or its opposite
abbrev pub SoundLimit : Limit → Type 0
SoundLimit Below = Unit {0}
SoundLimit (At f) = IsValue f ⊎ IsValue (opposite f)
SoundLimit Above = Unit {0}

opposite_back : (f : Frac) → opposite (opposite f) ≡ f
opposite_back f = frac_eq (opposite (opposite f)) f (back f.num) refl
  where
    back : (z : ℤ) → neg_ℤ (neg_ℤ z) ≡ z
    back (pos zero) = refl
    back (pos (suc n)) = refl
    back (negsuc n) = refl

sound_signed : (text : List ℕ) (s : Sign) (t : Lexeme) (limit : Limit) → IsUnsigned t limit → IsGood text t → SoundLimit (signed_limit s limit)
sound_signed text Plus t limit (finite u f i) g = inl (g.value f i)
sound_signed text Plus t limit (infinite u i) g = tt
sound_signed text Minus t limit (finite u f i) g = inr (subst IsValue (sym (opposite_back f)) (g.value f i))
sound_signed text Minus t limit (infinite u i) g = tt

sound_limit : (text : List ℕ) (ts : List Lexeme) (limit : Limit) → IsLimit ts limit → Each (IsGood text) ts → SoundLimit limit
sound_limit text ts limit (no_sign t l i) g = sound_signed text Plus t l i g.0
sound_limit text ts limit (with_sign k t s l i j) g = sound_signed text s t l j g.1.0

-- ---- names
abbrev pub FreeName : List ℕ → Lexeme → Type 0
FreeName text t = IsFree (spelling text t)

entry_free : (text : List ℕ) (ts : List Lexeme) (t : Lexeme) → IsEntry ts t → Each (IsGood text) ts → FreeName text t
entry_free text ts t (bare u i) g = g.0.name i.0 i.1
entry_free text ts t (described u x i j) g = g.0.name i.0 i.1

names_free : (text : List ℕ) (ts names : List Lexeme) → AreNames ts names → Each (IsGood text) ts → Each (FreeName text) names
names_free text ts names (first us t i) g = (entry_free text us t i g, tt)
names_free text ts names (next us vs ns t i j) g =
    let p = each_parts (IsGood text) us vs g in
    each_append (FreeName text) ns (t ∷ []) (names_free text us ns i p.0) (entry_free text vs t j p.1, tt)
names_free text ts names (next_behind_comma us vs ns c t i k j) g =
    let p = each_parts (IsGood text) us (c ∷ vs) g in
    each_append (FreeName text) ns (t ∷ []) (names_free text us ns i p.0) (entry_free text vs t j p.1.1, tt)

entry_rises : (ts : List Lexeme) (t : Lexeme) → IsEntry ts t → Rises ts 0
entry_rises ts t (bare u i) = rises_one u (flat_sort u _ i.1 (λ n. refl))
entry_rises ts t (described u x i j) = rises_more u (x ∷ []) 0 (flat_sort u _ i.1 (λ n. refl)) (rises_one x (flat_sort x _ j (λ n. refl)))

names_rise : (ts names : List Lexeme) → AreNames ts names → Rises ts 0
names_rise ts names (first us t i) = entry_rises us t i
names_rise ts names (next us vs ns t i j) = rises_left us vs 0 (names_rise us ns i) (entry_rises vs t j)
names_rise ts names (next_behind_comma us vs ns c t i k j) = rises_left us (c ∷ vs) 0 (names_rise us ns i) (rises_more c vs 0 (flat_sort c _ k (λ n. refl)) (entry_rises vs t j))

-- ---- statements
abbrev pub height : Statement → ℕ
height empty = 0
height (variables k w names) = 0
height (equations names) = 0
height (definition t left r right) = max (nest left) (nest right)
height (setting t a limit) = 0
height (model t) = 0
height (matched t qs) = 0
height (solve t goal) = 0

unsigned_rises : (t : Lexeme) (limit : Limit) → IsUnsigned t limit → Rises (t ∷ []) 0
unsigned_rises t limit (finite u f i) = rises_one u (flat_sort u _ i (λ n. refl))
unsigned_rises t limit (infinite u i) = rises_one u (flat_sort u _ i (λ n. refl))

limit_rises : (ts : List Lexeme) (limit : Limit) → IsLimit ts limit → Rises ts 0
limit_rises ts limit (no_sign t l i) = unsigned_rises t l i
limit_rises ts limit (with_sign k t s l i j) = rises_more k (t ∷ []) 0 (flat_sort k _ i (λ n. refl)) (unsigned_rises t l j)

ended_rises : (ts : List Lexeme) (z : Lexeme) (k : ℕ) → z.sort ≡ Semicolon → Rises ts k → Rises (ts ++ z ∷ []) k
ended_rises ts z k i r = rises_left ts (z ∷ []) k r (rises_one z (flat_sort z _ i (λ n. refl)))

matches_rise : (ts : List Lexeme) (qs : List (Lexeme × Lexeme)) → AreMatches ts qs → Rises ts 0
matches_rise ts qs (one_match e d v i j k) = rises_more e (d ∷ v ∷ []) 0 (flat_sort e _ i.1 (λ n. refl)) (rises_more d (v ∷ []) 0 (flat_sort d _ j (λ n. refl)) (rises_one v (flat_sort v _ k.1 (λ n. refl))))
matches_rise ts qs (more_matches e d v c us rs i j k l m) =
    rises_more e (d ∷ v ∷ c ∷ us) 0 (flat_sort e _ i.1 (λ n. refl))
    (rises_more d (v ∷ c ∷ us) 0 (flat_sort d _ j (λ n. refl))
    (rises_more v (c ∷ us) 0 (flat_sort v _ k.1 (λ n. refl)) (rises_more c us 0 (flat_sort c _ l (λ n. refl)) (matches_rise us rs m))))

pub statement_rises : {kind : Kind} (ts : List Lexeme) (s : Statement) → IsStatementOf kind ts s → Rises ts (height s)
statement_rises ts s (is_empty z i) = rises_one z (flat_sort z _ i (λ n. refl))
statement_rises ts s (is_variables v z us names i a j) = rises_more v (us ++ z ∷ []) 0 (flat_sort v _ i (λ n. refl)) (ended_rises us z 0 j (names_rise us names a))
statement_rises ts s (is_domain d v z k us names h i a j) = rises_more d (v ∷ us ++ z ∷ []) 0 (flat_sort d _ h (λ n. refl)) (rises_more v (us ++ z ∷ []) 0 (flat_sort v _ i (λ n. refl)) (ended_rises us z 0 j (names_rise us names a)))
statement_rises ts s (is_equations v z us names i a j) = rises_more v (us ++ z ∷ []) 0 (flat_sort v _ i (λ n. refl)) (ended_rises us z 0 j (names_rise us names a))
statement_rises ts s (is_definition t d r z k us vs left right i j a l b m) =
    let h = max (nest left) (nest right) in
    let sides = rises_both us (r ∷ vs) (nest left) (nest right) (rises Sum us left a) (rises_more r vs (nest right) (flat_sort r _ l (λ n. refl)) (rises Sum vs right b)) in
    rises_more t (d ∷ us ++ r ∷ vs ++ z ∷ []) h (flat_sort t _ i.1 (λ n. refl)) (rises_more d (us ++ r ∷ vs ++ z ∷ []) h (flat_sort d _ j (λ n. refl)) (ended_rises (us ++ r ∷ vs) z h m sides))
statement_rises ts s (is_setting t d a q z us limit i j k l b m) =
    rises_more t (d ∷ a ∷ q ∷ us ++ z ∷ []) 0 (flat_sort t _ i.1 (λ n. refl))
    (rises_more d (a ∷ q ∷ us ++ z ∷ []) 0 (flat_sort d _ j (λ n. refl))
    (rises_more a (q ∷ us ++ z ∷ []) 0 (flat_sort a _ k.1 (λ n. refl))
    (rises_more q (us ++ z ∷ []) 0 (flat_sort q _ l (λ n. refl)) (ended_rises us z 0 m (limit_rises us limit b)))))
statement_rises ts s (is_model m a b c z us t i e j k l n) =
    rises_more m (us ++ a ∷ b ∷ c ∷ z ∷ []) 0 (flat_sort m _ i (λ n. refl))
    (rises_left us (a ∷ b ∷ c ∷ z ∷ []) 0 (entry_rises us t e)
    (rises_more a (b ∷ c ∷ z ∷ []) 0 (flat_sort a _ j (λ n. refl))
    (rises_more b (c ∷ z ∷ []) 0 (flat_sort b _ k (λ n. refl))
    (rises_more c (z ∷ []) 0 (flat_sort c _ l (λ n. refl)) (rises_one z (flat_sort z _ n (λ n. refl)))))))
statement_rises ts s (is_matched m a c z us vs t qs i e j k l n) =
    rises_more m (us ++ a ∷ vs ++ c ∷ z ∷ []) 0 (flat_sort m _ i (λ n. refl))
    (rises_left (us ++ a ∷ vs) (c ∷ z ∷ []) 0
    (rises_left us (a ∷ vs) 0 (entry_rises us t e) (rises_more a vs 0 (flat_sort a _ j (λ n. refl)) (matches_rise vs qs k)))
    (rises_more c (z ∷ []) 0 (flat_sort c _ l (λ n. refl)) (rises_one z (flat_sort z _ n (λ n. refl)))))

-- declared names are free, numerals have their values, and expressions are shallow
abbrev pub GoodStatement : List ℕ → Statement → Type 0
GoodStatement text empty = Unit {0}
GoodStatement text (variables k w names) = Each (FreeName text) names
GoodStatement text (equations names) = Each (FreeName text) names
GoodStatement text (definition t left r right) = GoodSide text left × GoodSide text right
GoodStatement text (setting t a limit) = SoundLimit limit
GoodStatement text (model t) = FreeName text t
GoodStatement text (matched t qs) = FreeName text t
GoodStatement text (solve t goal) = Unit {0}

pub good_statement : {kind : Kind} (text : List ℕ) (ts : List Lexeme) (s : Statement) → IsStatementOf kind ts s → Each (IsGood text) ts → height s ≤ 64 → GoodStatement text s
good_statement text ts s (is_empty z i) g l = tt
good_statement text ts s (is_variables v z us names i a j) g l = names_free text us names a (each_parts (IsGood text) us (z ∷ []) g.1).0
good_statement text ts s (is_domain d v z k us names h i a j) g l = names_free text us names a (each_parts (IsGood text) us (z ∷ []) g.1.1).0
good_statement text ts s (is_equations v z us names i a j) g l = names_free text us names a (each_parts (IsGood text) us (z ∷ []) g.1).0
good_statement text ts s (is_definition t d r z k us vs left right i j a e b m) g l =
    let p = each_parts (IsGood text) us (r ∷ vs) (each_parts (IsGood text) (us ++ r ∷ vs) (z ∷ []) g.1.1).0 in
    let x : nest left ≤ max (nest left) (nest right) = le-max_left (nest left) (nest right) in
    let y : nest right ≤ max (nest left) (nest right) = le-max_right (nest left) (nest right) in
    (good_side text us left a p.0 (omega arith), good_side text vs right b p.1.1 (omega arith))
good_statement text ts s (is_setting t d a q z us limit i j k e b m) g l = sound_limit text us limit b (each_parts (IsGood text) us (z ∷ []) g.1.1.1.1).0
good_statement text ts s (is_model m a b c z us t i e j k h n) g l = entry_free text us t e (each_parts (IsGood text) us (a ∷ b ∷ c ∷ z ∷ []) g.1).0
good_statement text ts s (is_matched m a c z us vs t qs i e j k h n) g l = entry_free text us t e (each_parts (IsGood text) us (a ∷ vs) (each_parts (IsGood text) (us ++ a ∷ vs) (c ∷ z ∷ []) g.1).0).0
