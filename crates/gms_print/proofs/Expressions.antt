-- A printed expression reads back.
use Rattle.std.proofs.Common.{◌≡◌, ℕ, Bool, true, false, not, ◌||◌, List, [], length, All, refl}
use Rattle.emp_ast.specs.declared.tree.Operator.{Operator}
use Rattle.emp_ast.specs.declared.tree.Operator.TheVariants.{Plus, Minus, Times, Over}
use Rattle.emp_ast.specs.Expression.{Expression, number, variable, negated, joined, power}
use Rattle.gms_grammar.specs.declared.lexeme.Lexeme.{Lexeme}
use Rattle.gms_grammar.specs.Grammar.{Written, Level, Sum, Term, Factor, Primary, Stands, a_primary, a_factor, a_term}
use Rattle.gms_print.specs.Canonical.{wrapped, is_sum, is_product, is_left_wrapped, is_right_wrapped, is_base, power_text, Prints, prints_number, prints_variable, prints_negated, prints_joined, prints_power}
use Rattle.gms_print.proofs.Sound.{IsFree, deeper, depth, SoundExpression}
use Rattle.gms_print.proofs.ExpressionReads.{NumeralsRead, ReadsExponent, ReadsAt, ReadsExpression}
use Rattle.gms_print.proofs.ExpressionLexemes.{left_level, right_level}
use Rattle.gms_print.proofs.ExpressionForms.{reads_number, reads_variable, reads_grouped, reads_negated, reads_joined, reads_raised, reads_call, reads_looser}

-- ---- the level at which an expression is printed
abbrev power_level : Bool → Level
power_level true = Factor
power_level false = Primary

abbrev level : Expression → Level
level (number f) = Primary
level (variable k) = Primary
level (negated e) = Sum
level (joined op e f) = left_level op
level (power e n) = power_level (is_base e)

primary_term : (ts : List Lexeme) (w : Written) → Stands Primary ts w → Stands Term ts w
primary_term ts w h = a_factor ts w (a_primary ts w h)

primary_sum : (ts : List Lexeme) (w : Written) → Stands Primary ts w → Stands Sum ts w
primary_sum ts w h = a_term ts w (primary_term ts w h)

power_factor : (b : Bool) (ts : List Lexeme) (w : Written) → Stands (power_level b) ts w → Stands Factor ts w
power_factor true ts w h = h
power_factor false ts w h = a_primary ts w h

power_primary : (b : Bool) → not b ≡ true → (ts : List Lexeme) (w : Written) → Stands (power_level b) ts w → Stands Primary ts w
power_primary true b ts w h = absurd (let f : false ≡ true = b in cc)
power_primary false b ts w h = h

to_sum : (e : Expression) (ts : List Lexeme) (w : Written) → Stands (level e) ts w → Stands Sum ts w
to_sum (number f) ts w h = primary_sum ts w h
to_sum (variable k) ts w h = primary_sum ts w h
to_sum (negated e) ts w h = h
to_sum (joined Plus e f) ts w h = h
to_sum (joined Minus e f) ts w h = h
to_sum (joined Times e f) ts w h = a_term ts w h
to_sum (joined Over e f) ts w h = a_term ts w h
to_sum (power e n) ts w h = a_term ts w (a_factor ts w (power_factor (is_base e) ts w h))

to_term : (e : Expression) → is_sum e ≡ false → (ts : List Lexeme) (w : Written) → Stands (level e) ts w → Stands Term ts w
to_term (number f) s ts w h = primary_term ts w h
to_term (variable k) s ts w h = primary_term ts w h
to_term (negated e) s ts w h = absurd (let f : true ≡ false = s in cc)
to_term (joined Plus e f) s ts w h = absurd (let f : true ≡ false = s in cc)
to_term (joined Minus e f) s ts w h = absurd (let f : true ≡ false = s in cc)
to_term (joined Times e f) s ts w h = h
to_term (joined Over e f) s ts w h = h
to_term (power e n) s ts w h = a_factor ts w (power_factor (is_base e) ts w h)

to_factor : (e : Expression) → (is_sum e || is_product e) ≡ false → (ts : List Lexeme) (w : Written) → Stands (level e) ts w → Stands Factor ts w
to_factor (number f) s ts w h = a_primary ts w h
to_factor (variable k) s ts w h = a_primary ts w h
to_factor (negated e) s ts w h = absurd (let f : true ≡ false = s in cc)
to_factor (joined Plus e f) s ts w h = absurd (let f : true ≡ false = s in cc)
to_factor (joined Minus e f) s ts w h = absurd (let f : true ≡ false = s in cc)
to_factor (joined Times e f) s ts w h = absurd (let f : true ≡ false = s in cc)
to_factor (joined Over e f) s ts w h = absurd (let f : true ≡ false = s in cc)
to_factor (power e n) s ts w h = power_factor (is_base e) ts w h

to_primary : (e : Expression) → is_base e ≡ true → (ts : List Lexeme) (w : Written) → Stands (level e) ts w → Stands Primary ts w
to_primary (number f) s ts w h = h
to_primary (variable k) s ts w h = h
to_primary (negated e) s ts w h = absurd (let f : false ≡ true = s in cc)
to_primary (joined op e f) s ts w h = absurd (let f : false ≡ true = s in cc)
to_primary (power e n) s ts w h = power_primary (is_base e) s ts w h

-- ---- operands
-- an operand at a level, in parentheses where it stands at a looser one
at_level : {names : List (List ℕ)} {k : ℕ} {e : Expression} {t : List ℕ} (b : Bool) (other : Level) → ((ts : List Lexeme) (w : Written) → Stands Primary ts w → Stands other ts w) → (b ≡ false → (ts : List Lexeme) (w : Written) → Stands (level e) ts w → Stands other ts w) → ReadsAt names (level e) k e t → ReadsAt names other (deeper b k) e (wrapped b t)
at_level {e = e} true other up over r = reads_looser up (reads_grouped (reads_looser (to_sum e) r))
at_level false other up over r = reads_looser (over refl) r

left_operand : {names : List (List ℕ)} {k : ℕ} {t : List ℕ} (op : Operator) (e : Expression) → ReadsAt names (level e) k e t → ReadsAt names (left_level op) (deeper (is_left_wrapped op e) k) e (wrapped (is_left_wrapped op e) t)
left_operand Plus e r = reads_looser (to_sum e) r
left_operand Minus e r = reads_looser (to_sum e) r
left_operand Times e r = at_level (is_sum e) Term primary_term (to_term e) r
left_operand Over e r = at_level (is_sum e) Term primary_term (to_term e) r

right_operand : {names : List (List ℕ)} {k : ℕ} {t : List ℕ} (op : Operator) (e : Expression) → ReadsAt names (level e) k e t → ReadsAt names (right_level op) (deeper (is_right_wrapped op e) k) e (wrapped (is_right_wrapped op e) t)
right_operand Plus e r = at_level (is_sum e) Term primary_term (to_term e) r
right_operand Minus e r = at_level (is_sum e) Term primary_term (to_term e) r
right_operand Times e r = at_level (is_sum e || is_product e) Factor a_primary (to_factor e) r
right_operand Over e r = at_level (is_sum e || is_product e) Factor a_primary (to_factor e) r

-- ---- powers
power_by : {names : List (List ℕ)} {k : ℕ} {t : List ℕ} (b : Bool) (e : Expression) (n : ℕ) → is_base e ≡ b → ReadsExponent n → ReadsAt names (level e) k e t → ReadsAt names (power_level b) (deeper (not b) k) (power e n) (power_text b t n)
power_by true e n h x r = reads_raised n x (reads_looser (to_primary e h) r)
power_by false e n h x r = reads_call n x (reads_looser (to_sum e) r)

-- ---- expressions
printed : {names : List (List ℕ)} {e : Expression} {t : List ℕ} → NumeralsRead → All IsFree names → Prints names e t → SoundExpression (length names) e → ReadsAt names (level e) (depth e) e t
printed {names = names} numerals free (prints_number f t h) s = reads_number names f t (numerals.value f t s h)
printed {names = names} numerals free (prints_variable k) s = reads_variable names k s (free k [] s)
printed numerals free (prints_negated e t h) s = reads_negated (at_level (is_sum e) Term primary_term (to_term e) (printed numerals free h s))
printed numerals free (prints_joined op e f t u h i) s = reads_joined op (left_operand op e (printed numerals free h s.0)) (right_operand op f (printed numerals free i s.1))
printed numerals free (prints_power e n t h) s = power_by (is_base e) e n refl (numerals.exponent n s.1) (printed numerals free h s.0)

-- a printed expression reads back
pub reads_expression : (names : List (List ℕ)) (e : Expression) (t : List ℕ) → NumeralsRead → All IsFree names → SoundExpression (length names) e → Prints names e t → ReadsExpression names e t
reads_expression names e t numerals free s h = reads_looser (to_sum e) (printed numerals free h s)
