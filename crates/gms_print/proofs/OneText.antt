-- A model has one canonical text.
use Rattle.std.proofs.Common.{◌≡◌, ◌⊎◌, inl, inr, ℕ, zero, suc, ◌+◌, ◌-◌, ◌*◌, ◌^◌, ◌<◌, ◌≤◌, Bool, true, false, cond, nat_eq, nat_lt, unsigned_abs, List, [], ◌∷◌, ◌++◌, length, codes, decimal, arith, refl, sym, ap, ap₂, subst, ◌∙◌, append_assoc, length-append}
use Rattle.std.specs.Prelude.{All, slice_index_or}
use Rattle.std.proofs.lemmas.Int.{ints}
use Rattle.std.proofs.lemmas.Bool.{and_parts, ltb-true}
use Rattle.std.proofs.lemmas.List.Elements.{All-head, All-tail, All-nil, All-cons, All-append}
use Rattle.std.proofs.lemmas.List.{append-nil}
use Rattle.std.proofs.Math.Nat.{pow-suc, mul_assoc, eq_of_mul-eq-mul_left}
use Rattle.std.proofs.lemmas.Nat.{pow-add}
use Rattle.emp_num.specs.declared.frac.Frac.{Frac}
use Rattle.emp_numeral.specs.Numeral.{digit, value_from, trimmed, before_trimmed}
use Rattle.emp_ast.specs.declared.tree.Tree.{Tree}
use Rattle.emp_ast.specs.declared.model.Equation.{Equation}
use Rattle.emp_ast.specs.declared.model.End.{End}
use Rattle.emp_ast.specs.declared.model.End.TheVariants.{Open, At}
use Rattle.emp_ast.specs.declared.model.Variable.{Variable}
use Rattle.emp_ast.specs.declared.model.Model.{Model}
use Rattle.emp_ast.specs.Expression.{Expression, number, variable, negated, joined, power, expression_of}
use Rattle.emp_ast.specs.Nodes.{IsTreeOf}
use Rattle.emp_ast.specs.Names.{variable_names, equation_names}
use Rattle.emp_ast.proofs.Nodes.{stands_of}
use Rattle.gms_print.specs.Canonical.{with_fraction, IsDecimal, sign_text, IsNumeral, wrapped, is_sum, is_left_wrapped, is_right_wrapped, operator_text, is_base, power_text, Prints, prints_number, prints_variable, prints_negated, prints_joined, prints_power, relation_text, EquationLines, no_equations, an_equation, EndLine, no_end, an_end, BoundLines, no_variables, a_variable, names_line, last_lines, IsCanonical}

-- ---- digits
abbrev AreDigits : List ℕ → Type 0
AreDigits bs = All (λ b. digit b ≡ true) bs

digit_range : (b : ℕ) → digit b ≡ true → (48 ≤ b) × (b ≤ 57)
digit_range b h =
    let p = and_parts (nat_lt 47 b) (nat_lt b 58) h in
    let l = ltb-true 47 b p.0 in
    let k = ltb-true b 58 p.1 in
    (omega arith, omega arith)

-- two numbers with as many digits behind them
same_digits : (n m : ℕ) (xs ys : List ℕ) → length xs ≡ length ys → AreDigits xs → AreDigits ys → value_from n xs ≡ value_from m ys → (n ≡ m) × (xs ≡ ys)
same_digits n m [] [] l h k e = (e, refl)
same_digits n m [] (y ∷ ys) l h k e = absurd (omega arith)
same_digits n m (x ∷ xs) [] l h k e = absurd (omega arith)
same_digits n m (x ∷ xs) (y ∷ ys) l h k e =
    let r = same_digits (n * 10 + (x - 48)) (m * 10 + (y - 48)) xs ys (omega arith) (All-tail (λ b. digit b ≡ true) x xs h) (All-tail (λ b. digit b ≡ true) y ys k) e in
    let a = digit_range x (All-head (λ b. digit b ≡ true) x xs h) in
    let c = digit_range y (All-head (λ b. digit b ≡ true) y ys k) in
    let s = r.0 in
    let f : n ≡ m = omega (arith, s, a.0, a.1, c.0, c.1) in
    let g : x ≡ y = omega (arith, s, a.0, a.1, c.0, c.1) in
    (f, ap₂ (λ (b : ℕ) (bs : List ℕ). b ∷ bs) g r.1)

abbrev zeros : ℕ → List ℕ
zeros zero = []
zeros (suc k) = zeros k ++ 48 ∷ []

value_last : (n : ℕ) (xs : List ℕ) (b : ℕ) → value_from n (xs ++ b ∷ []) ≡ value_from n xs * 10 + (b - 48)
value_last n [] b = refl
value_last n (x ∷ xs) b = value_last (n * 10 + (x - 48)) xs b

value_zeros : (n : ℕ) (xs : List ℕ) (k : ℕ) → value_from n (xs ++ zeros k) ≡ value_from n xs * 10 ^ k
value_zeros n xs zero = ap (value_from n) (append-nil xs) ∙ (let e : value_from n xs ≡ value_from n xs * 1 = omega arith in e)
value_zeros n xs (suc k) =
    ap (value_from n) (sym (append_assoc xs (zeros k) (48 ∷ [])))
    ∙ (value_last n (xs ++ zeros k) 48
    ∙ (let h = value_zeros n xs k in
    let p : 10 ^ suc k ≡ 10 ^ k * 10 = pow-suc 10 k in
    let e : value_from n (xs ++ zeros k) * 10 + 0 ≡ value_from n xs * 10 ^ suc k = omega (arith, h, ap (λ z. value_from n xs * z) p) in
    e))

zeros_length : (k : ℕ) → length (zeros k) ≡ k
zeros_length zero = refl
zeros_length (suc k) = length-append (zeros k) (48 ∷ []) ∙ (let h = zeros_length k in let e : length (zeros k) + 1 ≡ suc k = omega (arith, h) in e)

zeros_are : (k : ℕ) → AreDigits (zeros k)
zeros_are zero = All-nil (λ b. digit b ≡ true)
zeros_are (suc k) = All-append (λ b. digit b ≡ true) (zeros k) (48 ∷ []) (zeros_are k) (All-cons (λ b. digit b ≡ true) 48 [] refl (All-nil (λ b. digit b ≡ true)))

-- ---- no zero at the end
trimmed_short : (xs : List ℕ) → length (trimmed xs) ≤ length xs
trimmed_short [] = omega arith
trimmed_short (x ∷ xs) = go (trimmed xs) (trimmed_short xs)
  where
    go : (ys : List ℕ) → length ys ≤ length xs → length (before_trimmed x ys) ≤ suc (length xs)
    go [] h = by (nat_eq x 48)
      where
        by : (b : Bool) → length (cond b [] (x ∷ [])) ≤ suc (length xs)
        by true = omega arith
        by false = omega arith
    go (y ∷ ys) h = omega arith

trimmed_last : (xs : List ℕ) → trimmed (xs ++ 48 ∷ []) ≡ trimmed xs
trimmed_last [] = refl
trimmed_last (x ∷ xs) = ap (before_trimmed x) (trimmed_last xs)

no_zeros : (xs ys : List ℕ) (k : ℕ) → trimmed ys ≡ ys → ys ≡ xs ++ zeros k → k ≡ 0
no_zeros xs ys zero t e = refl
no_zeros xs ys (suc k) t e =
    let f : ys ≡ (xs ++ zeros k) ++ 48 ∷ [] = e ∙ sym (append_assoc xs (zeros k) (48 ∷ [])) in
    let g : trimmed (xs ++ zeros k) ≡ ys = sym (trimmed_last (xs ++ zeros k)) ∙ (ap trimmed (sym f) ∙ t) in
    let l = ap (λ (bs : List ℕ). length bs) f in
    let m = length-append (xs ++ zeros k) (48 ∷ []) in
    let n = ap (λ (bs : List ℕ). length bs) g in
    absurd (omega (arith, l, m, n, trimmed_short (xs ++ zeros k)))

-- ---- decimals
cancelled : (d a b : ℕ) → 0 < d → d * a ≡ d * b → a ≡ b
cancelled d a b p e = eq_of_mul-eq-mul_left d p a b e

-- the value of one, times a power of ten for each place that the other has more
shorter_first : (n d : ℕ) (s t : List ℕ) → 0 < d → (h : IsDecimal n d s) (k : IsDecimal n d t) (more : ℕ) → length k.fraction ≡ length h.fraction + more → value_from h.whole h.fraction * 10 ^ more ≡ value_from k.whole k.fraction
shorter_first n d s t p h k more l =
    let a = value_from h.whole h.fraction in
    let b = value_from k.whole k.fraction in
    let x = 10 ^ length h.fraction in
    let y = 10 ^ more in
    let xy : 10 ^ length k.fraction ≡ x * y = ap (λ z. 10 ^ z) l ∙ pow-add 10 (length h.fraction) more in
    let first : d * (a * y) ≡ n * x * y = sym (mul_assoc d a y) ∙ ap (λ z. z * y) (sym h.value) in
    let second : n * x * y ≡ d * b = mul_assoc n x y ∙ (ap (λ z. n * z) (sym xy) ∙ k.value) in
    cancelled d (a * y) b p (first ∙ second)

one_way : (n d : ℕ) (s t : List ℕ) → 0 < d → (h : IsDecimal n d s) (k : IsDecimal n d t) → length h.fraction ≤ length k.fraction → s ≡ t
one_way n d s t p h k l =
    let more = length k.fraction - length h.fraction in
    let e : length k.fraction ≡ length h.fraction + more = omega arith in
    let v : value_from h.whole (h.fraction ++ zeros more) ≡ value_from k.whole k.fraction = value_zeros h.whole h.fraction more ∙ shorter_first n d s t p h k more e in
    let long : length (h.fraction ++ zeros more) ≡ length k.fraction = length-append h.fraction (zeros more) ∙ (let z = zeros_length more in let g : length h.fraction + length (zeros more) ≡ length k.fraction = omega (arith, z, e) in g) in
    let r = same_digits h.whole k.whole (h.fraction ++ zeros more) k.fraction long (All-append (λ b. digit b ≡ true) h.fraction (zeros more) h.digits (zeros_are more)) k.digits v in
    let none : more ≡ 0 = no_zeros h.fraction k.fraction more k.ends (sym r.1) in
    let f : h.fraction ≡ k.fraction = sym (append-nil h.fraction) ∙ (ap (λ j. h.fraction ++ zeros j) (sym none) ∙ r.1) in
    h.is ∙ (ap₂ (λ (w : ℕ) (g : List ℕ). with_fraction (decimal w) g) r.0 f ∙ sym k.is)

one_decimal : (n d : ℕ) (s t : List ℕ) → 0 < d → IsDecimal n d s → IsDecimal n d t → s ≡ t
one_decimal n d s t p h k = go (order (length h.fraction) (length k.fraction))
  where
    order : (a b : ℕ) → (a ≤ b) ⊎ (b ≤ a)
    order a b = grind arith

    go : (length h.fraction ≤ length k.fraction) ⊎ (length k.fraction ≤ length h.fraction) → s ≡ t
    go (inl l) = one_way n d s t p h k l
    go (inr l) = sym (one_way n d t s p k h l)

one_numeral : (f : Frac) (s t : List ℕ) → IsNumeral f s → IsNumeral f t → s ≡ t
one_numeral f s t h k =
    let p : 0 < unsigned_abs f.den = (let above = f.positive in omega (arith, ints, above)) in
    h.is ∙ (ap (λ (z : List ℕ). sign_text f.num ++ z) (one_decimal (unsigned_abs f.num) (unsigned_abs f.den) h.size k.size p h.decimal k.decimal) ∙ sym k.is)

-- ---- expressions
abbrev PrintedAs : List (List ℕ) → Expression → List ℕ → Type 0
PrintedAs names (number f) t = IsNumeral f t
PrintedAs names (variable k) t = t ≡ slice_index_or names k []
PrintedAs names (negated e) t = (u : List ℕ) × PrintedAs names e u × (t ≡ codes "-" ++ wrapped (is_sum e) u)
PrintedAs names (joined op e f) t = (u : List ℕ) × (v : List ℕ) × PrintedAs names e u × PrintedAs names f v × (t ≡ wrapped (is_left_wrapped op e) u ++ operator_text op ++ wrapped (is_right_wrapped op f) v)
PrintedAs names (power e n) t = (u : List ℕ) × PrintedAs names e u × (t ≡ power_text (is_base e) u n)

printed_as : (names : List (List ℕ)) (e : Expression) (t : List ℕ) → Prints names e t → PrintedAs names e t
printed_as names e t (prints_number f u h) = h
printed_as names e t (prints_variable k) = refl
printed_as names e t (prints_negated f u h) = (u, printed_as names f u h, refl)
printed_as names e t (prints_joined op f g u v h k) = (u, v, printed_as names f u h, printed_as names g v k, refl)
printed_as names e t (prints_power f n u h) = (u, printed_as names f u h, refl)

printed_one : (names : List (List ℕ)) (e : Expression) (s t : List ℕ) → PrintedAs names e s → PrintedAs names e t → s ≡ t
printed_one names (number f) s t h k = one_numeral f s t h k
printed_one names (variable n) s t h k = h ∙ sym k
printed_one names (negated e) s t h k = h.2 ∙ (ap (λ (u : List ℕ). codes "-" ++ wrapped (is_sum e) u) (printed_one names e h.0 k.0 h.1 k.1) ∙ sym k.2)
printed_one names (joined op e f) s t h k =
    h.4 ∙ (ap₂ (λ (u v : List ℕ). wrapped (is_left_wrapped op e) u ++ operator_text op ++ wrapped (is_right_wrapped op f) v) (printed_one names e h.0 k.0 h.2 k.2) (printed_one names f h.1 k.1 h.3 k.3) ∙ sym k.4)
printed_one names (power e n) s t h k = h.2 ∙ (ap (λ (u : List ℕ). power_text (is_base e) u n) (printed_one names e h.0 k.0 h.1 k.1) ∙ sym k.2)

-- the tree of both expressions is one, so these are one
side_one : (names : List (List ℕ)) (tree : Tree) (e f : Expression) (s t : List ℕ) → IsTreeOf tree e → IsTreeOf tree f → Prints names e s → Prints names f t → s ≡ t
side_one names tree e f s t h k p q =
    let same : f ≡ e = sym (stands_of f) ∙ (ap expression_of (sym k ∙ h) ∙ stands_of e) in
    printed_one names e s t (printed_as names e s p) (subst (λ (x : Expression). PrintedAs names x t) same (printed_as names f t q))

-- ---- lines
record OneLine (names : List (List ℕ)) (e : Equation) (es : List Equation) (bytes : List ℕ) : Type 0 where
  left : Expression
  right : Expression
  t : List ℕ
  u : List ℕ
  rest : List ℕ
  left_is : IsTreeOf e.left left
  right_is : IsTreeOf e.right right
  prints_left : Prints names left t
  prints_right : Prints names right u
  lines : EquationLines names es rest
  are : bytes ≡ e.name ++ codes ".. " ++ t ++ relation_text e.relation ++ u ++ codes ";\n" ++ rest

abbrev LinesAs : List (List ℕ) → List Equation → List ℕ → Type 0
LinesAs names [] bytes = bytes ≡ []
LinesAs names (e ∷ es) bytes = OneLine names e es bytes

lines_as : (names : List (List ℕ)) (es : List Equation) (bytes : List ℕ) → EquationLines names es bytes → LinesAs names es bytes
lines_as names es bytes no_equations = refl
lines_as names es bytes (an_equation e fs left right t u rest i j p q h) = record { left = left; right = right; t = t; u = u; rest = rest; left_is = i; right_is = j; prints_left = p; prints_right = q; lines = h; are = refl }

line_parts : (e : Equation) (t v u w r s : List ℕ) → t ≡ v → u ≡ w → r ≡ s → e.name ++ codes ".. " ++ t ++ relation_text e.relation ++ u ++ codes ";\n" ++ r ≡ e.name ++ codes ".. " ++ v ++ relation_text e.relation ++ w ++ codes ";\n" ++ s
line_parts e t v u w r s f g h = rw (f, g, h) refl

lines_one : (names : List (List ℕ)) (es : List Equation) (s t : List ℕ) → LinesAs names es s → LinesAs names es t → s ≡ t
lines_one names [] s t h k = h ∙ sym k
lines_one names (e ∷ es) s t h k =
    h.are
    ∙ (line_parts e h.t k.t h.u k.u h.rest k.rest (side_one names e.left h.left k.left h.t k.t h.left_is k.left_is h.prints_left k.prints_left) (side_one names e.right h.right k.right h.u k.u h.right_is k.right_is h.prints_right k.prints_right)
    (lines_one names es h.rest k.rest (lines_as names es h.rest h.lines) (lines_as names es k.rest k.lines))
    ∙ sym k.are)

abbrev EndAs : List ℕ → List ℕ → End → List ℕ → Type 0
EndAs name word Open bytes = bytes ≡ []
EndAs name word (At f) bytes = (t : List ℕ) × IsNumeral f t × (bytes ≡ name ++ word ++ t ++ codes ";\n")

end_as : (name word : List ℕ) (end : End) (bytes : List ℕ) → EndLine name word end bytes → EndAs name word end bytes
end_as name word end bytes no_end = refl
end_as name word end bytes (an_end f t h) = (t, h, refl)

end_one : (name word : List ℕ) (end : End) (s t : List ℕ) → EndAs name word end s → EndAs name word end t → s ≡ t
end_one name word Open s t h k = h ∙ sym k
end_one name word (At f) s t h k = h.2 ∙ (ap (λ (u : List ℕ). name ++ word ++ u ++ codes ";\n") (one_numeral f h.0 k.0 h.1 k.1) ∙ sym k.2)

abbrev BoundsAs : List Variable → List ℕ → Type 0
BoundsAs [] bytes = bytes ≡ []
BoundsAs (v ∷ vs) bytes = (low : List ℕ) × (high : List ℕ) × (rest : List ℕ) × EndLine v.name (codes ".lo = ") v.low low × EndLine v.name (codes ".up = ") v.high high × BoundLines vs rest × (bytes ≡ low ++ high ++ rest)

bounds_as : (vs : List Variable) (bytes : List ℕ) → BoundLines vs bytes → BoundsAs vs bytes
bounds_as vs bytes no_variables = refl
bounds_as vs bytes (a_variable v us low high rest l h r) = (low, high, rest, l, h, r, refl)

bound_parts : (a b c d e f : List ℕ) → a ≡ b → c ≡ d → e ≡ f → a ++ c ++ e ≡ b ++ d ++ f
bound_parts a b c d e f g h i = rw (g, h, i) refl

bounds_one : (vs : List Variable) (s t : List ℕ) → BoundsAs vs s → BoundsAs vs t → s ≡ t
bounds_one [] s t h k = h ∙ sym k
bounds_one (v ∷ vs) s t h k =
    h.6
    ∙ (bound_parts h.0 k.0 h.1 k.1 h.2 k.2 (end_one v.name (codes ".lo = ") v.low h.0 k.0 (end_as v.name (codes ".lo = ") v.low h.0 h.3) (end_as v.name (codes ".lo = ") v.low k.0 k.3))
    (end_one v.name (codes ".up = ") v.high h.1 k.1 (end_as v.name (codes ".up = ") v.high h.1 h.4) (end_as v.name (codes ".up = ") v.high k.1 k.4))
    (bounds_one vs h.2 k.2 (bounds_as vs h.2 h.5) (bounds_as vs k.2 k.5))
    ∙ sym k.6)

pub one_text : (m : Model) (s t : List ℕ) → IsCanonical m s → IsCanonical m t → s ≡ t
one_text m s t h k =
    let es = lines_one (variable_names m) m.equations h.equations k.equations (lines_as (variable_names m) m.equations h.equations h.equation_lines) (lines_as (variable_names m) m.equations k.equations k.equation_lines) in
    let bs = bounds_one m.variables h.bounds k.bounds (bounds_as m.variables h.bounds h.bound_lines) (bounds_as m.variables k.bounds k.bound_lines) in
    h.is ∙ (ap₂ (λ (x y : List ℕ). names_line (codes "Variables ") (variable_names m) ++ names_line (codes "Equations ") (equation_names m) ++ x ++ y ++ last_lines m) es bs ∙ sym k.is)
