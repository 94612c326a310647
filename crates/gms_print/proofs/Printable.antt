-- A model that some text stands for is printed: each of its numbers has a decimal.
use Rattle.std.proofs.Common.{◌≡◌, ◌⊎◌, inl, inr, ℕ, zero, suc, ◌*◌, ◌^◌, ◌<◌, ◌≤◌, ℤ, pos, negsuc, unsigned_abs, Bool, true, false, List, [], ◌++◌, length, Ok, arith, refl, sym, ap, subst, ◌∙◌}
use Prim.Native.Nat.{◌∣◌}
use Rattle.std.proofs.Math.Nat.{dvd-mul_left, pow-le-pow_right}
use Rattle.std.proofs.lemmas.Int.{unsigned_abs-mul}
use Rattle.std.proofs.lemmas.Nat.Gcd.{dvd_refl, dvd-zero}
use Rattle.std.proofs.lemmas.List.Elements.{All-weaker}
use Rattle.emp_num.specs.declared.frac.Frac.{Frac}
use Rattle.emp_num.specs.FracSpec.{IsQuotient}
use Rattle.emp_numeral.specs.Numeral.{FormedSmall, DecimalGives, FormGives, numeral_form, mantissa, whole_of, fraction_of, tail_of, scale, exponent_negative, exponent_digits, value_from}
use Rattle.emp_num.specs.Opposite.{opposite}
use Rattle.emp_num.proofs.Lowest.{gauss, coprime-IsGcd}
use Rattle.emp_numeral.proofs.Numerals.{power_above}
use Rattle.emp_ast.specs.declared.tree.Tree.{Tree}
use Rattle.emp_ast.specs.declared.model.End.{End}
use Rattle.emp_ast.specs.declared.model.End.TheVariants.{Open, At}
use Rattle.emp_ast.specs.declared.model.Model.{Model}
use Rattle.emp_ast.specs.Expression.{Expression, number, variable, negated, joined, power}
use Rattle.gms_print.specs.Decimals.{Adds, HasPlaces, HasDecimal}
use Rattle.gms_print.specs.Marks.{HasDecimals, IsPrintable}
use Rattle.gms_print.specs.Lines.{IsPrintableEquation, IsPrintableEnd, IsPrintableVariable, IsPrintableModel}
use Rattle.gms_print.proofs.Sound.{IsValue, SoundExpression, SoundTree, SoundEquation, SoundEnd, SoundVariable, Sound}

-- ---- numbers
few_places : (k : ℕ) → 10 ^ k < 2 ^ 126 → k ≤ 37
few_places k h = go (le_or_more k)
  where
    le_or_more : (n : ℕ) → (n ≤ 37) ⊎ (38 ≤ n)
    le_or_more n = grind arith

    go : (k ≤ 37) ⊎ (38 ≤ k) → k ≤ 37
    go (inl l) = l
    go (inr l) = let above : 10 ^ 38 ≤ 10 ^ k = pow-le-pow_right (omega arith) l in absurd (omega (arith, above, h))

sizes : (f : Frac) (t b : ℕ) → IsQuotient f (pos t) (pos b) → unsigned_abs f.num * b ≡ t * unsigned_abs f.den
sizes f t b q = sym (unsigned_abs-mul f.num (pos b)) ∙ (ap unsigned_abs q ∙ unsigned_abs-mul (pos t) f.den)

-- the denominator divides what the value is written over
divides_bottom : (f : Frac) (t b : ℕ) → IsQuotient f (pos t) (pos b) → unsigned_abs f.den ∣ b
divides_bottom f t b q =
    gauss (unsigned_abs f.den) (unsigned_abs f.num) b (coprime-IsGcd f.num f.den f.lowest)
    (subst (λ x. unsigned_abs f.den ∣ x) (sym (sizes f t b q)) (dvd-mul_left (unsigned_abs f.den) t))

-- 0 has the denominator 1
zero_den : (f : Frac) → unsigned_abs f.num ≡ 0 → unsigned_abs f.den ≡ 1
zero_den f e = f.lowest (unsigned_abs f.den) (subst (λ x. unsigned_abs f.den ∣ x) (sym e) (dvd-zero (unsigned_abs f.den))) (dvd_refl (unsigned_abs f.den))

zero_factor : (n b : ℕ) → 0 < b → n * b ≡ 0 → n ≡ 0
zero_factor zero b h e = refl
zero_factor (suc n) b h e = absurd (omega (arith, e))

one_place : (f : Frac) → unsigned_abs f.den ∣ 1 → HasPlaces (unsigned_abs f.den)
one_place f h = record { places = 0; few = omega arith; divides = h }

decimal_places : (f : Frac) (m : ℕ) (s : ℤ) → DecimalGives m s (Ok f) → HasPlaces (unsigned_abs f.den)
decimal_places f m (pos n) h = one_place f (divides_bottom f (m * 10 ^ n) 1 h.0)
decimal_places f m (negsuc n) h = go h.1
  where
    go : (m ≡ 0) ⊎ FormedSmall m (negsuc n) → HasPlaces (unsigned_abs f.den)
    go (inl e) =
        let none : unsigned_abs f.num * 10 ^ suc n ≡ 0 = sizes f m (10 ^ suc n) h.0 ∙ ap (λ x. x * unsigned_abs f.den) e ∙ omega arith in
        one_place f (subst (λ x. unsigned_abs f.den ∣ x) (zero_den f (zero_factor (unsigned_abs f.num) (10 ^ suc n) (power_above (suc n)) none)) (dvd_refl (unsigned_abs f.den)))
    go (inr k) = record { places = suc n; few = few_places (suc n) k.2; divides = divides_bottom f m (10 ^ suc n) h.0 }

form_decimal : (b : Bool) (m : ℕ) (s : ℤ) (f : Frac) → FormGives b m s (Ok f) → DecimalGives m s (Ok f)
form_decimal true m s f h = h
form_decimal false m s f h = absurd h

pub value_has_decimal : (f : Frac) → IsValue f → HasDecimal f
value_has_decimal f h =
    let t = h.0 in
    let m = mantissa (whole_of t) (fraction_of t) in
    let s = scale (fraction_of t) (exponent_negative (tail_of t)) (value_from 0 (exponent_digits (tail_of t))) in
    decimal_places f m s (form_decimal (numeral_form t) m s f h.1)

pub end_has_decimal : (f : Frac) → IsValue f ⊎ IsValue (opposite f) → HasDecimal f
end_has_decimal f (inl h) = value_has_decimal f h
end_has_decimal f (inr h) = value_has_decimal (opposite f) h

-- ---- expressions and models
sound_decimals : (count : ℕ) (e : Expression) → SoundExpression count e → HasDecimals e
sound_decimals count (number f) h = value_has_decimal f h
sound_decimals count (variable k) h = tt
sound_decimals count (negated e) h = sound_decimals count e h
sound_decimals count (joined op e f) h = (sound_decimals count e h.0, sound_decimals count f h.1)
sound_decimals count (power e n) h = sound_decimals count e h.0

printable_tree : (count : ℕ) (t : Tree) → SoundTree count t → IsPrintable t
printable_tree count t h = record { expression = h.expression; is = h.is; decimals = sound_decimals count h.expression h.sound }

printable_end : (e : End) → SoundEnd e → IsPrintableEnd e
printable_end Open h = tt
printable_end (At f) h = end_has_decimal f h

-- every model that is sound is printed
pub printable_model : (m : Model) → Sound m → IsPrintableModel m
printable_model m h =
    let count = length m.variables in
    record {
      equations = All-weaker (SoundEquation count) IsPrintableEquation (λ e s. record { left = printable_tree count e.left s.left; right = printable_tree count e.right s.right }) m.equations h.equations;
      variables = All-weaker SoundVariable IsPrintableVariable (λ v s. record { low = printable_end v.low s.low; high = printable_end v.high s.high }) m.variables h.variables;
    }

-- what is written behind no text is the text itself
pub alone : (P : List ℕ → Type 0) (start out : List ℕ) → start ≡ [] → Adds P start out → P out
alone P start out e g = subst (λ t. P t) (sym (g.is ∙ ap (λ s. s ++ g.text) e)) g.fact
