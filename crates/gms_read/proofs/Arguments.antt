-- The arguments of a function, as the items behind its name tell.
use Rattle.std.proofs.Common.{◌≡◌, ℕ, ◌+◌, ◌-◌, ◌<◌, ◌≤◌, Bool, true, false, cond, ◌&&◌, nat_eq, List, [], ◌∷◌, ◌++◌, length, get_or, drop, refl, sym, ap, ◌∙◌, arith, append_assoc, to_z-of_z}
use Rattle.std.proofs.lemmas.List.{at_drop_more, at_drop_all}
use Rattle.std.proofs.lemmas.Bool.Decides.{nat_tests}
use Rattle.emp_num.specs.declared.frac.Frac.{Frac}
use Rattle.emp_ast.specs.declared.tree.Operator.{Operator}
use Rattle.gms_grammar.specs.declared.lexeme.Word.TheVariants.{Square, Power as PowerWord}
use Rattle.gms_grammar.specs.declared.lexeme.Sort.{Sort}
use Rattle.gms_grammar.specs.declared.lexeme.Sort.TheVariants.{Name as IsName}
use Rattle.gms_grammar.specs.declared.lexeme.Sign.{Sign}
use Rattle.gms_grammar.specs.declared.lexeme.Lexeme.{Lexeme}
use Rattle.gms_grammar.specs.declared.item.Item.{Item}
use Rattle.gms_grammar.specs.declared.item.Item.TheVariants.{Number, Name, Enters, Lists, Applies, Groups, Raises, Signs, Joins}
use Rattle.gms_read.specs.declared.shape.Shape.{Shape}
use Rattle.gms_read.specs.declared.shape.Shape.TheVariants.{One, Awaiting, Powered, Other}
use Rattle.gms_grammar.specs.Grammar.{Written, numeral, name, call, listed, grouped, raised, signed, joined}
use Rattle.gms_grammar.specs.Items.{written_items}
use Rattle.gms_read.specs.Rules.{is_exponent, is_one_argument, is_power_of, is_power, is_function}
use Rattle.gms_read.specs.Shapes.{closes, depth_behind, shape_behind, shape_from, accepts}
use Rattle.gms_grammar.proofs.Formed.{IsFormed}

pub ruleset exponents = (to_z-of_z)

-- ---- the loop
pub shape_from-drop : (d : ℕ) (s : Shape) (is : List Item) (k : ℕ) (i : Item) → k < length is → i ≡ get_or is k i → shape_from d s (drop k is) ≡ cond (closes d i) s (shape_from (depth_behind d i) (cond (nat_eq d 0) (shape_behind s i) s) (drop (k + 1) is))
shape_from-drop d s is k i h e =
    at_drop_more (shape_from d s) is k i h ∙ ap (λ j. cond (closes d j) s (shape_from (depth_behind d j) (cond (nat_eq d 0) (shape_behind s j) s) (drop (k + 1) is))) (sym e)

pub shape_from-all : (d : ℕ) (s : Shape) (is : List Item) (k : ℕ) → length is ≤ k → shape_from d s (drop k is) ≡ Other
shape_from-all d s is k h = at_drop_all (shape_from d s) is k h

pub ruleset shaping = (shape_from-drop, shape_from-all)

-- ---- the items of an expression
-- the shape behind an expression that stands in no inner function
abbrev over : Written → Shape → Shape
over (numeral t f) s = shape_behind s (Number t f)
over (name t) s = shape_behind s (Name t)
over (call t a) s = shape_behind s (Enters t)
over (listed a b) s = over b (shape_behind (over a s) Lists)
over (grouped e) s = shape_behind (over e s) Groups
over (raised e p f) s = shape_behind (over e s) (Raises p f)
over (signed g t e) s = shape_behind (over e s) (Signs g t)
over (joined op t e f) s = shape_behind (over f (over e s)) (Joins op t)

-- an item inside changes no shape
inside : (d : ℕ) (s x : Shape) (n : ℕ) (rest : List Item) → nat_eq d 0 ≡ false → shape_from n (cond (nat_eq d 0) x s) rest ≡ shape_from n s rest
inside d s x n rest h = ap (λ b. shape_from n (cond b x s) rest) h

deeper : (d : ℕ) → nat_eq (d + 1) 0 ≡ false
deeper d = grind (arith, nat_tests)

applied : (d : ℕ) (s x : Shape) (rest : List Item) → cond (nat_eq (d + 1) 0) s (shape_from (d + 1 - 1) (cond (nat_eq (d + 1) 0) x s) rest) ≡ shape_from d s rest
applied d s x rest =
    let e : d + 1 - 1 ≡ d = omega arith in
    ap (λ b. cond b s (shape_from (d + 1 - 1) (cond b x s) rest)) (deeper d) ∙ ap (λ n. shape_from n s rest) e

skips : (w : Written) (d : ℕ) (s : Shape) (rest : List Item) → nat_eq d 0 ≡ false → shape_from d s (written_items w ++ rest) ≡ shape_from d s rest
skips (numeral t f) d s rest h = inside d s (shape_behind s (Number t f)) d rest h
skips (name t) d s rest h = inside d s (shape_behind s (Name t)) d rest h
skips (call t a) d s rest h =
    inside d s (shape_behind s (Enters t)) (d + 1) (written_items a ++ Applies t ∷ [] ++ rest) h
    ∙ ap (shape_from (d + 1) s) (append_assoc (written_items a) (Applies t ∷ []) rest)
    ∙ skips a (d + 1) s (Applies t ∷ rest) (deeper d)
    ∙ applied d s (shape_behind s (Applies t)) rest
skips (listed a b) d s rest h =
    ap (shape_from d s) (append_assoc (written_items a) (Lists ∷ written_items b) rest)
    ∙ skips a d s (Lists ∷ (written_items b ++ rest)) h
    ∙ inside d s (shape_behind s Lists) d (written_items b ++ rest) h
    ∙ skips b d s rest h
skips (grouped e) d s rest h = ap (shape_from d s) (append_assoc (written_items e) (Groups ∷ []) rest) ∙ skips e d s (Groups ∷ rest) h ∙ inside d s (shape_behind s Groups) d rest h
skips (raised e p f) d s rest h = ap (shape_from d s) (append_assoc (written_items e) (Raises p f ∷ []) rest) ∙ skips e d s (Raises p f ∷ rest) h ∙ inside d s (shape_behind s (Raises p f)) d rest h
skips (signed g t e) d s rest h = ap (shape_from d s) (append_assoc (written_items e) (Signs g t ∷ []) rest) ∙ skips e d s (Signs g t ∷ rest) h ∙ inside d s (shape_behind s (Signs g t)) d rest h
skips (joined op t e f) d s rest h =
    ap (shape_from d s) (append_assoc (written_items e ++ written_items f) (Joins op t ∷ []) rest ∙ append_assoc (written_items e) (written_items f) (Joins op t ∷ rest))
    ∙ skips e d s (written_items f ++ Joins op t ∷ rest) h
    ∙ skips f d s (Joins op t ∷ rest) h
    ∙ inside d s (shape_behind s (Joins op t)) d rest h

goes_over : (w : Written) (s : Shape) (rest : List Item) → shape_from 0 s (written_items w ++ rest) ≡ shape_from 0 (over w s) rest
goes_over (numeral t f) s rest = refl
goes_over (name t) s rest = refl
goes_over (call t a) s rest =
    ap (shape_from 1 (shape_behind s (Enters t))) (append_assoc (written_items a) (Applies t ∷ []) rest)
    ∙ skips a 1 (shape_behind s (Enters t)) (Applies t ∷ rest) refl
goes_over (listed a b) s rest =
    ap (shape_from 0 s) (append_assoc (written_items a) (Lists ∷ written_items b) rest)
    ∙ goes_over a s (Lists ∷ (written_items b ++ rest))
    ∙ goes_over b (shape_behind (over a s) Lists) rest
goes_over (grouped e) s rest = ap (shape_from 0 s) (append_assoc (written_items e) (Groups ∷ []) rest) ∙ goes_over e s (Groups ∷ rest)
goes_over (raised e p f) s rest = ap (shape_from 0 s) (append_assoc (written_items e) (Raises p f ∷ []) rest) ∙ goes_over e s (Raises p f ∷ rest)
goes_over (signed g t e) s rest = ap (shape_from 0 s) (append_assoc (written_items e) (Signs g t ∷ []) rest) ∙ goes_over e s (Signs g t ∷ rest)
goes_over (joined op t e f) s rest =
    ap (shape_from 0 s) (append_assoc (written_items e ++ written_items f) (Joins op t ∷ []) rest ∙ append_assoc (written_items e) (written_items f) (Joins op t ∷ rest))
    ∙ goes_over e s (written_items f ++ Joins op t ∷ rest)
    ∙ goes_over f (over e s) (Joins op t ∷ rest)

-- ---- one argument
abbrev plain : Shape → Shape
plain One = One
plain Awaiting = Other
plain Powered = Other
plain Other = Other

abbrev operand : Written → Shape → Shape
operand (numeral t f) s = shape_behind s (Number t f)
operand (name t) s = plain s
operand (call t a) s = plain s
operand (listed a b) s = plain s
operand (grouped e) s = plain s
operand (raised e p f) s = plain s
operand (signed g t e) s = plain s
operand (joined op t e f) s = plain s

-- an item that neither is a numeral nor parts arguments
abbrev IsInner : Item → Type 0
IsInner i = (s : Shape) → shape_behind s i ≡ plain s

plain_plain : (s : Shape) → plain (plain s) ≡ plain s
plain_plain One = refl
plain_plain Awaiting = refl
plain_plain Powered = refl
plain_plain Other = refl

plain_by : (b : Bool) → plain (cond b Powered Other) ≡ Other
plain_by true = refl
plain_by false = refl

plain_number : (s : Shape) (t : Lexeme) (f : Frac) → plain (shape_behind s (Number t f)) ≡ plain s
plain_number One t f = refl
plain_number Awaiting t f = plain_by (is_exponent f)
plain_number Powered t f = refl
plain_number Other t f = refl

plain_operand : (e : Written) (s : Shape) → plain (operand e s) ≡ plain s
plain_operand (numeral t f) s = plain_number s t f
plain_operand (name t) s = plain_plain s
plain_operand (call t a) s = plain_plain s
plain_operand (listed a b) s = plain_plain s
plain_operand (grouped e) s = plain_plain s
plain_operand (raised e p f) s = plain_plain s
plain_operand (signed g t e) s = plain_plain s
plain_operand (joined op t e f) s = plain_plain s

name_inner : (t : Lexeme) → IsInner (Name t)
name_inner t One = refl
name_inner t Awaiting = refl
name_inner t Powered = refl
name_inner t Other = refl

enters_inner : (t : Lexeme) → IsInner (Enters t)
enters_inner t One = refl
enters_inner t Awaiting = refl
enters_inner t Powered = refl
enters_inner t Other = refl

groups_inner : IsInner Groups
groups_inner One = refl
groups_inner Awaiting = refl
groups_inner Powered = refl
groups_inner Other = refl

raises_inner : (p : Lexeme) (f : Frac) → IsInner (Raises p f)
raises_inner p f One = refl
raises_inner p f Awaiting = refl
raises_inner p f Powered = refl
raises_inner p f Other = refl

signs_inner : (g : Sign) (t : Lexeme) → IsInner (Signs g t)
signs_inner g t One = refl
signs_inner g t Awaiting = refl
signs_inner g t Powered = refl
signs_inner g t Other = refl

joins_inner : (op : Operator) (t : Lexeme) → IsInner (Joins op t)
joins_inner op t One = refl
joins_inner op t Awaiting = refl
joins_inner op t Powered = refl
joins_inner op t Other = refl

closed : (e : Written) (s : Shape) (i : Item) → IsInner i → over e s ≡ operand e s → shape_behind (over e s) i ≡ plain s
closed e s i h ih = h (over e s) ∙ ap plain ih ∙ plain_operand e s

over_plain : (w : Written) (s : Shape) → IsFormed w false → over w s ≡ operand w s
over_plain (numeral t f) s h = refl
over_plain (name t) s h = name_inner t s
over_plain (call t a) s h = enters_inner t s
over_plain (listed a b) s h = absurd h
over_plain (grouped e) s h = closed e s Groups groups_inner (over_plain e s h)
over_plain (raised e p f) s h = closed e s (Raises p f) (raises_inner p f) (over_plain e s h)
over_plain (signed g t e) s h = closed e s (Signs g t) (signs_inner g t) (over_plain e s h)
over_plain (joined op t e f) s h =
    closed f (over e s) (Joins op t) (joins_inner op t) (over_plain f (over e s) h.1) ∙ ap plain (over_plain e s h.0) ∙ plain_operand e s

-- ---- all arguments
abbrev shape_of : Written → Shape
shape_of (listed a b) = cond (is_power_of a b) Powered Other
shape_of e = One

listed_behind : (b : Bool) → shape_behind (cond b Powered Other) Lists ≡ Other
listed_behind true = refl
listed_behind false = refl

comma_behind : (a : Written) → shape_behind (shape_of a) Lists ≡ cond (is_one_argument a) Awaiting Other
comma_behind (numeral t f) = refl
comma_behind (name t) = refl
comma_behind (call t a) = refl
comma_behind (listed a b) = listed_behind (is_power_of a b)
comma_behind (grouped e) = refl
comma_behind (raised e p f) = refl
comma_behind (signed g t e) = refl
comma_behind (joined op t e f) = refl

second_number : (t : Lexeme) (f : Frac) (one : Bool) → shape_behind (cond one Awaiting Other) (Number t f) ≡ cond (one && is_exponent f) Powered Other
second_number t f true = refl
second_number t f false = refl

second_plain : (one : Bool) → plain (cond one Awaiting Other) ≡ Other
second_plain true = refl
second_plain false = refl

second_behind : (a b : Written) → operand b (cond (is_one_argument a) Awaiting Other) ≡ cond (is_power_of a b) Powered Other
second_behind a (numeral t f) = second_number t f (is_one_argument a)
second_behind a (name t) = second_plain (is_one_argument a)
second_behind a (call t b) = second_plain (is_one_argument a)
second_behind a (listed b c) = second_plain (is_one_argument a)
second_behind a (grouped e) = second_plain (is_one_argument a)
second_behind a (raised e p f) = second_plain (is_one_argument a)
second_behind a (signed g t e) = second_plain (is_one_argument a)
second_behind a (joined op t e f) = second_plain (is_one_argument a)

over_arguments : (w : Written) → IsFormed w true → over w One ≡ shape_of w
over_arguments (numeral t f) h = refl
over_arguments (name t) h = refl
over_arguments (call t a) h = refl
over_arguments (listed a b) h =
    ap (λ s. over b (shape_behind s Lists)) (over_arguments a h.0)
    ∙ ap (over b) (comma_behind a)
    ∙ over_plain b (cond (is_one_argument a) Awaiting Other) h.1
    ∙ second_behind a b
over_arguments (grouped e) h = over_plain (grouped e) One h
over_arguments (raised e p f) h = over_plain (raised e p f) One h
over_arguments (signed g t e) h = over_plain (signed g t e) One h
over_arguments (joined op t e f) h = over_plain (joined op t e f) One h

-- ---- the functions
one_accepted : (s : Sort) (a : Written) → is_one_argument a ≡ true → is_power a ≡ false → accepts s One ≡ is_function s a
one_accepted (IsName Square) a h k = sym h
one_accepted (IsName PowerWord) a h k = sym k
one_accepted s a h k = refl

power_accepted : (s : Sort) (a b : Written) → accepts s (cond (is_power_of a b) Powered Other) ≡ is_function s (listed a b)
power_accepted s a b = go s (is_power_of a b) (listed a b) refl refl
  where
    go : (s : Sort) (c : Bool) (w : Written) → is_one_argument w ≡ false → is_power w ≡ c → accepts s (cond c Powered Other) ≡ is_function s w
    go (IsName Square) true w h k = sym h
    go (IsName Square) false w h k = sym h
    go (IsName PowerWord) true w h k = sym k
    go (IsName PowerWord) false w h k = sym k
    go s true w h k = refl
    go s false w h k = refl

shape_accepted : (s : Sort) (w : Written) → accepts s (shape_of w) ≡ is_function s w
shape_accepted s (numeral t f) = one_accepted s (numeral t f) refl refl
shape_accepted s (name t) = one_accepted s (name t) refl refl
shape_accepted s (call t a) = one_accepted s (call t a) refl refl
shape_accepted s (listed a b) = power_accepted s a b
shape_accepted s (grouped e) = one_accepted s (grouped e) refl refl
shape_accepted s (raised e p f) = one_accepted s (raised e p f) refl refl
shape_accepted s (signed g t e) = one_accepted s (signed g t e) refl refl
shape_accepted s (joined op t e f) = one_accepted s (joined op t e f) refl refl

-- what is seen ahead is what the rule asks
pub accepted : (s : Sort) (a : Written) (t : Lexeme) (rest : List Item) → IsFormed a true → accepts s (shape_from 0 One (written_items a ++ Applies t ∷ rest)) ≡ is_function s a
accepted s a t rest h = ap (accepts s) (goes_over a One (Applies t ∷ rest) ∙ over_arguments a h) ∙ shape_accepted s a
