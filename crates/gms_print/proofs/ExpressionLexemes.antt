-- Lexemes that stand for printed expressions.
use Rattle.std.proofs.Common.{◌≡◌, ℕ, ◌+◌, ◌<◌, ◌≤◌, max, true, false, cond, not, ◌&&◌, nat_lt, List, [], ◌∷◌, ◌++◌, length, slice_index_or, Option, Some, None, refl, ap, ◌∙◌, arith, append_assoc}
use Rattle.std.proofs.lemmas.Bool.Decides.{nat_tests}
use Rattle.emp_num.specs.declared.frac.Frac.{Frac}
use Rattle.emp_list.specs.Case.{lower}
use Rattle.emp_ast.specs.declared.tree.Operator.{Operator}
use Rattle.emp_ast.specs.declared.tree.Operator.TheVariants.{Plus, Minus, Times, Over}
use Rattle.emp_ast.specs.Expression.{Expression, number, variable, negated, joined, power}
use Rattle.gms_grammar.specs.declared.lexeme.Word.{Word}
use Rattle.gms_grammar.specs.declared.lexeme.Word.TheVariants.{Power as PowerWord}
use Rattle.gms_grammar.specs.declared.lexeme.Sign.TheVariants.{Plus as PlusSign, Minus as MinusSign}
use Rattle.gms_grammar.specs.declared.lexeme.Scale.TheVariants.{Times as TimesScale, Over as OverScale}
use Rattle.gms_grammar.specs.declared.lexeme.Sort.{Sort}
use Rattle.gms_grammar.specs.declared.lexeme.Sort.TheVariants.{Name, Numeral, Sign, Scale, Raise, Comma, Open, Close}
use Rattle.gms_grammar.specs.declared.lexeme.Lexeme.{Lexeme}
use Rattle.gms_grammar.specs.declared.fault.ModelFault.{ModelFault}
use Rattle.gms_grammar.specs.declared.fault.ModelFault.TheVariants.{Undeclared, Function}
use Rattle.gms_grammar.specs.Lexemes.{spelling}
use Rattle.gms_grammar.specs.Nesting.{level_behind, too_deep_from}
use Rattle.gms_grammar.specs.Grammar.{Written, numeral, name, call, listed, grouped, raised, signed, joined as joined_written, Level, Sum, Term, Factor, Primary, Stands, a_numeral, a_name, a_call, a_group, a_primary, a_power, a_factor, a_product, a_term, a_signed, a_sum, an_argument, arguments}
use Rattle.gms_read.specs.Rules.{or_else, fault_where, is_none, or_zero, exponent, is_exponent, is_one_argument, is_function, meaning, expression_fault}
use Rattle.gms_print.proofs.ExpressionReads.{StandsFor}

-- ---- nesting
at_most_64 : (m : ℕ) → m ≤ 64 → nat_lt 64 m ≡ false
at_most_64 m h = grind (arith, nat_tests)

one_level : (n m : ℕ) (t : Lexeme) (ts : List Lexeme) → level_behind n t.sort ≡ m → m ≤ 64 → too_deep_from n (t ∷ ts) ≡ too_deep_from m ts
one_level n m t ts e l = ap (λ k. cond (nat_lt 64 k) (Some t.place) (too_deep_from k ts)) e ∙ ap (λ b. cond b (Some t.place) (too_deep_from m ts)) (at_most_64 m l)

-- lexemes that are nested at most so deep leave no level open
abbrev IsShallow : ℕ → List Lexeme → Type 0
IsShallow k ts = (n : ℕ) (rest : List Lexeme) → n + k ≤ 64 → too_deep_from n (ts ++ rest) ≡ too_deep_from n rest

flat : (t : Lexeme) (s : Sort) → t.sort ≡ s → ((n : ℕ) → level_behind n s ≡ n) → IsShallow 0 (t ∷ [])
flat t s h same n rest l = one_level n n t rest (ap (level_behind n) h ∙ same n) (omega (arith, l))

side_by_side : (k l : ℕ) (ts us : List Lexeme) → IsShallow k ts → IsShallow l us → IsShallow (max k l) (ts ++ us)
side_by_side k l ts us f g n rest m = ap (too_deep_from n) (append_assoc ts us rest) ∙ (f n (us ++ rest) (omega (arith, m)) ∙ g n rest (omega (arith, m)))

behind_flat : (k : ℕ) (t : Lexeme) (ts : List Lexeme) → IsShallow 0 (t ∷ []) → IsShallow k ts → IsShallow k (t ∷ ts)
behind_flat k t ts f g n rest m = f n (ts ++ rest) (omega (arith, m)) ∙ g n rest m

within : (k : ℕ) (o c : Lexeme) (ts : List Lexeme) → o.sort ≡ Open → c.sort ≡ Close → IsShallow k ts → IsShallow (k + 1) (o ∷ ts ++ c ∷ [])
within k o c ts h i f n rest l =
    let opens : too_deep_from n (o ∷ ts ++ c ∷ [] ++ rest) ≡ too_deep_from (n + 1) (ts ++ c ∷ [] ++ rest) = one_level n (n + 1) o (ts ++ c ∷ [] ++ rest) (ap (level_behind n) h) (omega (arith, l)) in
    let inside : too_deep_from (n + 1) (ts ++ c ∷ [] ++ rest) ≡ too_deep_from (n + 1) (c ∷ rest) = ap (too_deep_from (n + 1)) (append_assoc ts (c ∷ []) rest) ∙ f (n + 1) (c ∷ rest) (omega (arith, l)) in
    let closes : too_deep_from (n + 1) (c ∷ rest) ≡ too_deep_from n rest = one_level (n + 1) n c rest (ap (level_behind (n + 1)) i ∙ omega arith) (omega (arith, l)) in
    opens ∙ (inside ∙ closes)

fewer : (k l : ℕ) (ts : List Lexeme) → k ≤ l → IsShallow k ts → IsShallow l ts
fewer k l ts h f n rest m = f n rest (omega (arith, h, m))

-- ---- one lexeme
pub numeral_stands : (names : List (List ℕ)) (f : Frac) (text : List ℕ) (t : Lexeme) → t.sort ≡ Numeral f → StandsFor names Primary 0 (number f) text (t ∷ [])
numeral_stands names f text t h = record {
  written = numeral t f;
  stands = a_numeral t f h;
  single = refl;
  means = λ d k. refl;
  faultless = λ d k. refl;
  shallow = flat t (Numeral f) h (λ n. refl);
}

pub name_stands : (names : List (List ℕ)) (k : ℕ) (w : Word) (text : List ℕ) (t : Lexeme) → k < length names → t.sort ≡ Name w → spelling text t ≡ slice_index_or names k [] → StandsFor names Primary 0 (variable k) text (t ∷ [])
name_stands names k w text t below h e = record {
  written = name t;
  stands = a_name t (w, h);
  single = refl;
  means = λ d knows. ap (λ o. variable (or_zero o)) (knows k below t (ap lower e));
  faultless = λ d knows. ap (λ o. fault_where (is_none o) (Undeclared t.place)) (knows k below t (ap lower e));
  shallow = flat t (Name w) h (λ n. refl);
}

-- ---- in parentheses
pub grouped_stands : {names : List (List ℕ)} {k : ℕ} {e : Expression} {text : List ℕ} {ts : List Lexeme} (o c : Lexeme) → o.sort ≡ Open → c.sort ≡ Close → StandsFor names Sum k e text ts → StandsFor names Primary (k + 1) e text (o ∷ ts ++ c ∷ [])
grouped_stands {k = k} {ts = ts} o c h i s = record {
  written = grouped s.written;
  stands = a_group o c ts s.written h s.stands i;
  single = refl;
  means = s.means;
  faultless = s.faultless;
  shallow = within k o c ts h i s.shallow;
}

-- ---- behind a minus
pub negated_stands : {names : List (List ℕ)} {k : ℕ} {e : Expression} {text : List ℕ} {ts : List Lexeme} (t : Lexeme) → t.sort ≡ Sign MinusSign → StandsFor names Term k e text ts → StandsFor names Sum k (negated e) text (t ∷ ts)
negated_stands {k = k} {ts = ts} t h s = record {
  written = signed MinusSign t s.written;
  stands = a_signed t MinusSign ts s.written h s.stands;
  single = refl;
  means = λ d knows. ap negated (s.means d knows);
  faultless = s.faultless;
  shallow = behind_flat k t ts (flat t (Sign MinusSign) h (λ n. refl)) s.shallow;
}

-- ---- joined
abbrev pub left_level : Operator → Level
left_level Plus = Sum
left_level Minus = Sum
left_level Times = Term
left_level Over = Term

abbrev pub right_level : Operator → Level
right_level Plus = Term
right_level Minus = Term
right_level Times = Factor
right_level Over = Factor

abbrev pub operator_sort : Operator → Sort
operator_sort Plus = Sign PlusSign
operator_sort Minus = Sign MinusSign
operator_sort Times = Scale TimesScale
operator_sort Over = Scale OverScale

joined_level : (op : Operator) (ts us : List Lexeme) (t : Lexeme) (e f : Written) → Stands (left_level op) ts e → t.sort ≡ operator_sort op → Stands (right_level op) us f → Stands (left_level op) (ts ++ t ∷ us) (joined_written op t e f)
joined_level Plus ts us t e f h i k = a_sum ts us t PlusSign e f h i k
joined_level Minus ts us t e f h i k = a_sum ts us t MinusSign e f h i k
joined_level Times ts us t e f h i k = a_product ts us t TimesScale e f h i k
joined_level Over ts us t e f h i k = a_product ts us t OverScale e f h i k

same_level : (op : Operator) (n : ℕ) → level_behind n (operator_sort op) ≡ n
same_level Plus n = refl
same_level Minus n = refl
same_level Times n = refl
same_level Over n = refl

pub no_faults : (a b : Option ModelFault) → a ≡ None → b ≡ None → or_else a b ≡ None
no_faults a b h k = ap (λ x. or_else x b) h ∙ k

pub joined_stands : {names : List (List ℕ)} {k l : ℕ} {e f : Expression} {text : List ℕ} {ts us : List Lexeme} (op : Operator) (t : Lexeme) → t.sort ≡ operator_sort op → StandsFor names (left_level op) k e text ts → StandsFor names (right_level op) l f text us → StandsFor names (left_level op) (max k l) (joined op e f) text (ts ++ t ∷ us)
joined_stands {k = k} {l = l} {e = e} {f = f} {text = text} {ts = ts} {us = us} op t h a b = record {
  written = joined_written op t a.written b.written;
  stands = joined_level op ts us t a.written b.written a.stands h b.stands;
  single = refl;
  means = λ d knows. ap (λ x. joined op x (meaning text d b.written)) (a.means d knows) ∙ ap (λ y. joined op e y) (b.means d knows);
  faultless = λ d knows. no_faults (expression_fault text d a.written) (expression_fault text d b.written) (a.faultless d knows) (b.faultless d knows);
  shallow = side_by_side k l ts (t ∷ us) a.shallow (behind_flat l t us (flat t (operator_sort op) h (same_level op)) b.shallow);
}

-- ---- raised
exponent_fault : (f : Frac) (n : ℕ) (fault : ModelFault) → exponent f ≡ Some n → fault_where (not (is_exponent f)) fault ≡ None
exponent_fault f n fault h = ap (λ o. fault_where (not (not (is_none o))) fault) h

pub raised_stands : {names : List (List ℕ)} {k : ℕ} {e : Expression} {text : List ℕ} {ts : List Lexeme} (p t : Lexeme) (f : Frac) (n : ℕ) → p.sort ≡ Raise → t.sort ≡ Numeral f → exponent f ≡ Some n → StandsFor names Primary k e text ts → StandsFor names Factor k (power e n) text (ts ++ p ∷ t ∷ [])
raised_stands {k = k} {e = e} {text = text} {ts = ts} p t f n h i x s = record {
  written = raised s.written p f;
  stands = a_power ts p t f s.written s.stands h i;
  single = refl;
  means = λ d knows. ap (λ y. power y (or_zero (exponent f))) (s.means d knows) ∙ ap (λ o. power e (or_zero o)) x;
  faultless = λ d knows. no_faults (expression_fault text d s.written) (fault_where (not (is_exponent f)) (Function p.place)) (s.faultless d knows) (exponent_fault f n (Function p.place) x);
  shallow = fewer (max k 0) k (ts ++ p ∷ t ∷ []) (omega arith) (side_by_side k 0 ts (p ∷ t ∷ []) s.shallow (behind_flat 0 p (t ∷ []) (flat p Raise h (λ n. refl)) (flat t (Numeral f) i (λ n. refl))));
}

-- ---- the call of `power`
is_a_function : (s : Sort) (a : Written) (t : Lexeme) (f : Frac) (n : ℕ) → s ≡ Name PowerWord → is_one_argument a ≡ true → exponent f ≡ Some n → is_function s (listed a (numeral t f)) ≡ true
is_a_function s a t f n h i x = ap (λ y. is_function y (listed a (numeral t f))) h ∙ (ap (λ b. b && is_exponent f) i ∙ ap (λ o. not (is_none o)) x)

pub call_stands : {names : List (List ℕ)} {k : ℕ} {e : Expression} {text : List ℕ} {ts : List Lexeme} (w o m t c : Lexeme) (f : Frac) (n : ℕ) → w.sort ≡ Name PowerWord → o.sort ≡ Open → m.sort ≡ Comma → t.sort ≡ Numeral f → c.sort ≡ Close → exponent f ≡ Some n → StandsFor names Sum k e text ts → StandsFor names Primary (k + 1) (power e n) text (w ∷ o ∷ (ts ++ m ∷ t ∷ []) ++ c ∷ [])
call_stands {names = names} {k = k} {e = e} {text = text} {ts = ts} w o m t c f n hw ho hm ht hc x s = record {
  written = call w (listed s.written (numeral t f));
  stands = a_call w o c (ts ++ m ∷ t ∷ []) (listed s.written (numeral t f)) (PowerWord, hw) ho (arguments ts (t ∷ []) m s.written (numeral t f) (an_argument ts s.written s.stands) hm (single_sum t f ht)) hc;
  single = refl;
  means = λ d knows. ap (λ y. power y (or_zero (exponent f))) (s.means d knows) ∙ ap (λ o. power e (or_zero o)) x;
  faultless = λ d knows. no_faults (fault_where (not (is_function w.sort (listed s.written (numeral t f)))) (Function w.place)) (or_else (expression_fault text d s.written) None) function (no_faults (expression_fault text d s.written) None (s.faultless d knows) refl);
  shallow = call_shallow;
}
  where
    single_sum : (t : Lexeme) (f : Frac) → t.sort ≡ Numeral f → Stands Sum (t ∷ []) (numeral t f)
    single_sum t f h = a_term (t ∷ []) (numeral t f) (a_factor (t ∷ []) (numeral t f) (a_primary (t ∷ []) (numeral t f) (a_numeral t f h)))

    arguments_shallow : IsShallow k (ts ++ m ∷ t ∷ [])
    arguments_shallow = fewer (max k 0) k (ts ++ m ∷ t ∷ []) (omega arith) (side_by_side k 0 ts (m ∷ t ∷ []) s.shallow (behind_flat 0 m (t ∷ []) (flat m Comma hm (λ n. refl)) (flat t (Numeral f) ht (λ n. refl))))

    call_shallow : IsShallow (k + 1) (w ∷ o ∷ (ts ++ m ∷ t ∷ []) ++ c ∷ [])
    call_shallow = behind_flat (k + 1) w (o ∷ (ts ++ m ∷ t ∷ []) ++ c ∷ []) (flat w (Name PowerWord) hw (λ n. refl)) (within k o c (ts ++ m ∷ t ∷ []) ho hc arguments_shallow)

    function : fault_where (not (is_function w.sort (listed s.written (numeral t f)))) (Function w.place) ≡ None
    function = ap (λ b. fault_where (not b) (Function w.place)) (is_a_function w.sort s.written t f n hw s.single x)

-- ---- looser levels
pub loosened : {names : List (List ℕ)} {k : ℕ} {level other : Level} {e : Expression} {text : List ℕ} {ts : List Lexeme} → ((us : List Lexeme) (w : Written) → Stands level us w → Stands other us w) → StandsFor names level k e text ts → StandsFor names other k e text ts
loosened {ts = ts} up s = record {
  written = s.written;
  stands = up ts s.written s.stands;
  single = s.single;
  means = s.means;
  faultless = s.faultless;
  shallow = s.shallow;
}
