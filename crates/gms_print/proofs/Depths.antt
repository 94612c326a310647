-- How deep the parentheses of the lexemes of an expression are nested, and that its print is no deeper.
use Rattle.std.proofs.Common.{◌≡◌, ℕ, ◌+◌, ◌-◌, ◌≤◌, max, Bool, true, false, cond, not, ◌||◌, List, [], ◌∷◌, ◌++◌, Option, Some, None, refl, ap, subst, ◌∙◌, arith, append_assoc}
use Rattle.std.specs.Prelude.{nat_lt}
use Rattle.std.proofs.lemmas.Bool.{ltb-false}
use Rattle.std.proofs.Math.Nat.{le-max_left, le-max_right, max-le}
use Rattle.emp_ast.specs.declared.tree.Place.{Place}
use Rattle.emp_ast.specs.declared.tree.Operator.TheVariants.{Plus as AddOperator, Minus as SubOperator, Times as MulOperator, Over as DivOperator}
use Rattle.emp_ast.specs.Expression.{Expression, number, variable, negated, joined as joined_with, power}
use Rattle.gms_grammar.specs.declared.lexeme.Sort.{Sort}
use Rattle.gms_grammar.specs.declared.lexeme.Sort.TheVariants.{Open, Close}
use Rattle.gms_grammar.specs.declared.lexeme.Sign.{Sign}
use Rattle.gms_grammar.specs.declared.lexeme.Sign.TheVariants.{Plus, Minus}
use Rattle.gms_grammar.specs.declared.lexeme.Scale.{Scale}
use Rattle.gms_grammar.specs.declared.lexeme.Scale.TheVariants.{Times, Over}
use Rattle.gms_grammar.specs.declared.lexeme.Lexeme.{Lexeme}
use Rattle.gms_read.specs.declared.draft.Draft.{Draft}
use Rattle.gms_grammar.specs.Nesting.{level_behind, too_deep_from}
use Rattle.gms_grammar.specs.Grammar.{Written, numeral, name, call, listed, grouped, raised, signed, joined, Level, Arguments, Sum, Term, Factor, Primary, Stands, a_numeral, a_name, a_call, a_group, a_primary, a_power, a_factor, a_product, a_term, a_signed, a_sum, an_argument, arguments, sum_operator, product_operator}
use Rattle.gms_read.specs.Rules.{meaning}
use Rattle.gms_print.specs.Canonical.{is_sum, is_product, is_base}
use Rattle.gms_print.proofs.Sound.{deeper, depth}

-- how deep the parentheses and the arguments of an expression are nested as it is written
abbrev pub nest : Written → ℕ
nest (numeral t f) = 0
nest (name t) = 0
nest (call t a) = nest a + 1
nest (listed a b) = max (nest a) (nest b)
nest (grouped e) = nest e + 1
nest (raised e p f) = nest e
nest (signed s t e) = nest e
nest (joined op t e f) = max (nest e) (nest f)

-- ---- the print is no deeper than what is written
-- what is printed in parentheses where an expression of that level is wanted
abbrev pub is_wrapped : Level → Expression → Bool
is_wrapped Arguments m = false
is_wrapped Sum m = false
is_wrapped Term m = is_sum m
is_wrapped Factor m = is_sum m || is_product m
is_wrapped Primary m = not (is_base m)

-- the depth of an expression where one of that level is wanted
abbrev pub depth_at : Level → Expression → ℕ
depth_at level m = deeper (is_wrapped level m) (depth m)

deeper_most : (b : Bool) (n k : ℕ) → n ≤ k → deeper b n ≤ k + 1
deeper_most true n k h = omega arith
deeper_most false n k h = omega arith

bare_most : (b : Bool) (n k : ℕ) → deeper b n ≤ k → n ≤ k
bare_most true n k h = omega arith
bare_most false n k h = h

-- an argument of a call is one deeper, however the power is printed
call_most : (b : Bool) (n k : ℕ) → n ≤ k → deeper (not (not b)) (deeper (not b) n) ≤ k + 1
call_most true n k h = omega arith
call_most false n k h = omega arith

factor_from_primary : (m : Expression) (k : ℕ) → depth_at Primary m ≤ k → depth_at Factor m ≤ k
factor_from_primary (number f) k h = h
factor_from_primary (variable i) k h = h
factor_from_primary (negated e) k h = h
factor_from_primary (joined_with AddOperator e f) k h = h
factor_from_primary (joined_with SubOperator e f) k h = h
factor_from_primary (joined_with MulOperator e f) k h = h
factor_from_primary (joined_with DivOperator e f) k h = h
factor_from_primary (power e n) k h = bare_most (not (is_base (power e n))) (depth (power e n)) k h

term_from_factor : (m : Expression) (k : ℕ) → depth_at Factor m ≤ k → depth_at Term m ≤ k
term_from_factor (number f) k h = h
term_from_factor (variable i) k h = h
term_from_factor (negated e) k h = h
term_from_factor (joined_with AddOperator e f) k h = h
term_from_factor (joined_with SubOperator e f) k h = h
term_from_factor (joined_with MulOperator e f) k h = bare_most true (depth (joined_with MulOperator e f)) k h
term_from_factor (joined_with DivOperator e f) k h = bare_most true (depth (joined_with DivOperator e f)) k h
term_from_factor (power e n) k h = h

both_most : (a b j k : ℕ) → a ≤ j → b ≤ k → max a b ≤ max j k
both_most a b j k p q =
    let l : j ≤ max j k = le-max_left j k in
    let r : k ≤ max j k = le-max_right j k in
    max-le (omega arith) (omega arith)

-- a product or a sum is no deeper than the deeper of its sides
product_fits : (s : Scale) (e f : Expression) (j k : ℕ) → depth_at Term e ≤ j → depth_at Factor f ≤ k → depth_at Term (joined_with (product_operator s) e f) ≤ max j k
product_fits Times e f j k p q = both_most _ _ j k p q
product_fits Over e f j k p q = both_most _ _ j k p q

sum_fits : (s : Sign) (e f : Expression) (j k : ℕ) → depth e ≤ j → depth_at Term f ≤ k → depth (joined_with (sum_operator s) e f) ≤ max j k
sum_fits Plus e f j k p q = both_most _ _ j k p q
sum_fits Minus e f j k p q = both_most _ _ j k p q

module _ (text : List ℕ) (d : Draft) where
  signed_fits : (s : Sign) (t : Lexeme) (e : Written) (k : ℕ) → depth_at Term (meaning text d e) ≤ k → depth (meaning text d (signed s t e)) ≤ k
  signed_fits Plus t e k h = bare_most (is_sum (meaning text d e)) (depth (meaning text d e)) k h
  signed_fits Minus t e k h = h

  pub fits : (level : Level) (ts : List Lexeme) (e : Written) → Stands level ts e → depth_at level (meaning text d e) ≤ nest e
  fits level ts e (a_numeral t f i) = omega arith
  fits level ts e (a_name t i) = omega arith
  fits level ts e (a_call t o c us a i j s k) = call_most (is_base (meaning text d a)) (depth (meaning text d a)) (nest a) (fits Arguments us a s)
  fits level ts e (a_group o c us a i s j) = deeper_most (not (is_base (meaning text d a))) (depth (meaning text d a)) (nest a) (fits Sum us a s)
  fits level ts e (a_primary us a s) = factor_from_primary (meaning text d a) (nest a) (fits Primary us a s)
  fits level ts e (a_power us p n f a s i j) = fits Primary us a s
  fits level ts e (a_factor us a s) = term_from_factor (meaning text d a) (nest a) (fits Factor us a s)
  fits level ts e (a_product us vs t g a b s i r) = product_fits g (meaning text d a) (meaning text d b) (nest a) (nest b) (fits Term us a s) (fits Factor vs b r)
  fits level ts e (a_term us a s) = bare_most (is_sum (meaning text d a)) (depth (meaning text d a)) (nest a) (fits Term us a s)
  fits level ts e (a_signed t g us a i s) = signed_fits g t a (nest a) (fits Term us a s)
  fits level ts e (a_sum us vs t g a b s i r) = sum_fits g (meaning text d a) (meaning text d b) (nest a) (nest b) (fits Sum us a s) (fits Term vs b r)
  fits level ts e (an_argument us a s) = fits Sum us a s
  fits level ts e (arguments us vs c a b s i r) = let l : nest a ≤ max (nest a) (nest b) = le-max_left (nest a) (nest b) in let h : depth (meaning text d a) ≤ nest a = fits Arguments us a s in omega arith

-- ---- what is written is no deeper than the lexemes
-- with n levels open before the lexemes none is past the 64th, the height is within, and as many are open behind them
abbrev pub Rises : List Lexeme → ℕ → Type 0
Rises ts height = (n : ℕ) (rest : List Lexeme) → n ≤ 64 → too_deep_from n (ts ++ rest) ≡ None → (n + height ≤ 64) × (too_deep_from n rest ≡ None)

-- a lexeme that opens and closes no level
abbrev pub IsFlat : Lexeme → Type 0
IsFlat t = (n : ℕ) → level_behind n t.sort ≡ n

step : (n m : ℕ) (t : Lexeme) (ts : List Lexeme) → level_behind n t.sort ≡ m → too_deep_from n (t ∷ ts) ≡ None → (m ≤ 64) × (too_deep_from m ts ≡ None)
step n m t ts e h = go (nat_lt 64 m) refl (subst (λ k. cond (nat_lt 64 k) (Some t.place) (too_deep_from k ts) ≡ None) e h)
  where
    go : (b : Bool) → nat_lt 64 m ≡ b → cond b (Some t.place) (too_deep_from m ts) ≡ None → (m ≤ 64) × (too_deep_from m ts ≡ None)
    go true q k = absurd (let z : ◌≡◌ {A = Option Place} (Some t.place) None = k in cc)
    go false q k = (ltb-false 64 m q, k)

pub rises_none : Rises [] 0
rises_none n rest l h = (omega arith, h)

pub rises_more : (t : Lexeme) (ts : List Lexeme) (k : ℕ) → IsFlat t → Rises ts k → Rises (t ∷ ts) k
rises_more t ts k f r n rest l h = r n rest l (step n n t (ts ++ rest) (f n) h).1

pub rises_one : (t : Lexeme) → IsFlat t → Rises (t ∷ []) 0
rises_one t f = rises_more t [] 0 f rises_none

-- the first part, and what stands behind it
pub rises_both : (ts us : List Lexeme) (j k : ℕ) → Rises ts j → Rises us k → Rises (ts ++ us) (max j k)
rises_both ts us j k p q n rest l h =
    let a = p n (us ++ rest) l (subst (λ zs. too_deep_from n zs ≡ None) (append_assoc ts us rest) h) in
    let b = q n rest l a.1 in
    (under n j k a.0 b.0, b.1)
  where
    under : (n j k : ℕ) → n + j ≤ 64 → n + k ≤ 64 → n + max j k ≤ 64
    under n j k a b = let m : max j k ≤ 64 - n = max-le (omega arith) (omega arith) in omega arith

pub rises_left : (ts us : List Lexeme) (j : ℕ) → Rises ts j → Rises us 0 → Rises (ts ++ us) j
rises_left ts us j p q n rest l h =
    let a = p n (us ++ rest) l (subst (λ zs. too_deep_from n zs ≡ None) (append_assoc ts us rest) h) in
    (a.0, (q n rest l a.1).1)

pub rises_group : (o c : Lexeme) (ts : List Lexeme) (k : ℕ) → o.sort ≡ Open → c.sort ≡ Close → Rises ts k → Rises (o ∷ ts ++ c ∷ []) (k + 1)
rises_group o c ts k i j r n rest l h =
    let a = step n (n + 1) o ((ts ++ c ∷ []) ++ rest) (ap (level_behind n) i) h in
    let b = r (n + 1) (c ∷ rest) a.0 (subst (λ zs. too_deep_from (n + 1) zs ≡ None) (append_assoc ts (c ∷ []) rest) a.1) in
    let e : n + 1 - 1 ≡ n = omega arith in
    (omega (arith, b.0), (step (n + 1) n c rest (ap (level_behind (n + 1)) j ∙ e) b.1).1)

pub flat_sort : (t : Lexeme) (s : Sort) → t.sort ≡ s → ((n : ℕ) → level_behind n s ≡ n) → IsFlat t
flat_sort t s e f n = ap (level_behind n) e ∙ f n

pub rises : (level : Level) (ts : List Lexeme) (e : Written) → Stands level ts e → Rises ts (nest e)
rises level ts e (a_numeral t f i) = rises_one t (flat_sort t _ i (λ n. refl))
rises level ts e (a_name t i) = rises_one t (flat_sort t _ i.1 (λ n. refl))
rises level ts e (a_call t o c us a i j s k) = rises_more t (o ∷ us ++ c ∷ []) (nest a + 1) (flat_sort t _ i.1 (λ n. refl)) (rises_group o c us (nest a) j k (rises Arguments us a s))
rises level ts e (a_group o c us a i s j) = rises_group o c us (nest a) i j (rises Sum us a s)
rises level ts e (a_primary us a s) = rises Primary us a s
rises level ts e (a_power us p n f a s i j) = rises_left us (p ∷ n ∷ []) (nest a) (rises Primary us a s) (rises_more p (n ∷ []) 0 (flat_sort p _ i (λ n. refl)) (rises_one n (flat_sort n _ j (λ n. refl))))
rises level ts e (a_factor us a s) = rises Factor us a s
rises level ts e (a_product us vs t g a b s i r) = rises_both us (t ∷ vs) (nest a) (nest b) (rises Term us a s) (rises_more t vs (nest b) (flat_sort t _ i (λ n. refl)) (rises Factor vs b r))
rises level ts e (a_term us a s) = rises Term us a s
rises level ts e (a_signed t g us a i s) = rises_more t us (nest a) (flat_sort t _ i (λ n. refl)) (rises Term us a s)
rises level ts e (a_sum us vs t g a b s i r) = rises_both us (t ∷ vs) (nest a) (nest b) (rises Sum us a s) (rises_more t vs (nest b) (flat_sort t _ i (λ n. refl)) (rises Term vs b r))
rises level ts e (an_argument us a s) = rises Sum us a s
rises level ts e (arguments us vs c a b s i r) = rises_both us (c ∷ vs) (nest a) (nest b) (rises Arguments us a s) (rises_more c vs (nest b) (flat_sort c _ i (λ n. refl)) (rises Sum vs b r))
