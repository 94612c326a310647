-- A numeral token has the form of a numeral.
use Rattle.std.proofs.Common.{◌≡◌, ℕ, ◌+◌, ◌<◌, Bool, true, false, cond, not, ◌&&◌, ◌||◌, IsTrue, List, [], ◌∷◌, ◌++◌, length, All, take, drop, get_or, refl, sym, ap, subst, ◌∙◌, ◌⊎◌, inl, inr, arith, append_assoc, append-nil, zero-add, add-zero}
use Rattle.std.specs.Prelude.{nat_eq}
use Rattle.std.proofs.lemmas.Bool.{eqb-true, eq-eqb, ne_eqb}
use Rattle.std.proofs.lemmas.Bool.Decides.{nat_tests}
use Rattle.std.proofs.lemmas.List.Elements.{All-nil, All-cons, All-head, All-tail}
use Rattle.std.proofs.lemmas.List.{length-append, get_or-append-add}
use Rattle.std.proofs.Math.Seq.{take-append_seam, drop-append-add}
use Rattle.emp_numeral.specs.Numeral.{digit, digits_of, after_digits, first, is_empty, only_digits, exponent_form, numeral_form}
use Rattle.emp_lex.specs.declared.scan.Class.{Class}
use Rattle.emp_lex.specs.declared.scan.Class.TheVariants.{Digit}
use Rattle.emp_lex.specs.Bytes.{is_of, is_digit, is_exponent_mark, is_sign, run_size}
use Rattle.emp_lex.specs.Pieces.{digits_from, mantissa_by, mantissa_size, mark_size, with_mark, exponent_size, with_exponent, numeral_size}

-- ---- runs
abbrev pub Stops : Class → List ℕ → Type 0
Stops class [] = Unit {0}
Stops class (b ∷ bs) = is_of class b ≡ false

pub record Run (class : Class) (text : List ℕ) (n : ℕ) : Type 0 where
  pub run : List ℕ
  pub rest : List ℕ
  pub is : text ≡ run ++ rest
  pub size : n ≡ length run
  pub all : All (λ b. IsTrue (is_of class b)) run
  pub stops : Stops class rest

pub run_is : (class : Class) (text : List ℕ) → Run class text (run_size class text)
run_is class [] = record { run = []; rest = []; is = refl; size = refl; all = All-nil (λ b. IsTrue (is_of class b)); stops = tt }
run_is class (b ∷ bs) = go (is_of class b) refl (run_is class bs)
  where
    go : (t : Bool) → is_of class b ≡ t → Run class bs (run_size class bs) → Run class (b ∷ bs) (cond t (1 + run_size class bs) 0)
    go true e r = record { run = b ∷ r.run; rest = r.rest; is = ap (λ x. b ∷ x) r.is; size = omega (arith, r.size); all = All-cons (λ b. IsTrue (is_of class b)) b r.run e r.all; stops = r.stops }
    go false e r = record { run = []; rest = b ∷ bs; is = refl; size = refl; all = All-nil (λ b. IsTrue (is_of class b)); stops = e }

pub run_seam : (class : Class) (d r : List ℕ) → All (λ b. IsTrue (is_of class b)) d → Stops class r → run_size class (d ++ r) ≡ length d
run_seam class [] [] h e = refl
run_seam class [] (b ∷ bs) h e = rw e refl
run_seam class (x ∷ d) r h e =
    let k = run_seam class d r (All-tail (λ b. IsTrue (is_of class b)) x d h) e in
    let t : is_of class x ≡ true = All-head (λ b. IsTrue (is_of class b)) x d h in
    rw t (omega arith)

-- ---- digits by the words of numerals
one_digit : (b : ℕ) → is_digit b ≡ true → digit b ≡ true
one_digit b h = grind (arith, nat_tests)

no_digit : (b : ℕ) → is_digit b ≡ false → digit b ≡ false
no_digit b h = grind (arith, nat_tests)

abbrev pub AllDigits : List ℕ → Type 0
AllDigits d = All (λ b. IsTrue (is_of Digit b)) d

digits_seam : (d r : List ℕ) → AllDigits d → Stops Digit r → digits_of (d ++ r) ≡ d
digits_seam [] [] h e = refl
digits_seam [] (b ∷ bs) h e = rw (no_digit b e) refl
digits_seam (x ∷ d) r h e =
    let t : is_digit x ≡ true = All-head (λ b. IsTrue (is_of Digit b)) x d h in
    rw (one_digit x t) (ap (λ y. x ∷ y) (digits_seam d r (All-tail (λ b. IsTrue (is_of Digit b)) x d h) e))

after_seam : (d r : List ℕ) → AllDigits d → Stops Digit r → after_digits (d ++ r) ≡ r
after_seam [] [] h e = refl
after_seam [] (b ∷ bs) h e = rw (no_digit b e) refl
after_seam (x ∷ d) r h e =
    let t : is_digit x ≡ true = All-head (λ b. IsTrue (is_of Digit b)) x d h in
    rw (one_digit x t) (after_seam d r (All-tail (λ b. IsTrue (is_of Digit b)) x d h) e)

after_all : (d : List ℕ) → AllDigits d → after_digits d ≡ []
after_all d h = ap after_digits (sym (append-nil d)) ∙ after_seam d [] h tt

some_nonempty : (d : List ℕ) → 0 < length d → is_empty d ≡ false
some_nonempty d h = ne_eqb (length d) 0 (λ e. omega arith)

only : (d : List ℕ) → AllDigits d → 0 < length d → only_digits d ≡ true
only d h l = rw (some_nonempty d l, after_all d h) refl

-- ---- the seam of two parts
seam_at : (q r : List ℕ) (k : ℕ) → get_or (q ++ r) (length q + k) 0 ≡ get_or r k 0
seam_at q r k = get_or-append-add q r k 0

pub seam_here : (q r : List ℕ) → get_or (q ++ r) (length q) 0 ≡ get_or r 0 0
seam_here q r = ap (λ n. get_or (q ++ r) n 0) (sym (add-zero (length q))) ∙ seam_at q r 0

mark_seam : (q r : List ℕ) → mark_size (q ++ r) (length q) ≡ mark_size r 0
mark_seam q r = ap (λ b. cond (is_sign b) 2 1) (seam_at q r 1)

tail_seam : (q r : List ℕ) (k : ℕ) → digits_from (q ++ r) (length q + k) ≡ digits_from r k
tail_seam q r k = ap (run_size Digit) (drop-append-add q r k)

pub exponent_seam : (q r : List ℕ) → exponent_size (q ++ r) (length q) ≡ exponent_size r 0
exponent_seam q r =
    ap (λ b. cond (is_exponent_mark b) (with_mark (mark_size (q ++ r) (length q)) (digits_from (q ++ r) (length q + mark_size (q ++ r) (length q)))) 0) (seam_here q r)
    ∙ ap (λ m. cond (is_exponent_mark (get_or r 0 0)) (with_mark m (digits_from (q ++ r) (length q + m))) 0) (mark_seam q r)
    ∙ ap (λ n. cond (is_exponent_mark (get_or r 0 0)) (with_mark (mark_size r 0) n) 0) (tail_seam q r (mark_size r 0) ∙ ap (digits_from r) (sym (zero-add (mark_size r 0))))

-- ---- the exponent at the head
record Exponent (r : List ℕ) (n : ℕ) : Type 0 where
  part : List ℕ
  rest : List ℕ
  is : r ≡ part ++ rest
  size : n ≡ length part
  form : exponent_form part ≡ true
  stops : Stops Digit part
  no_point : nat_eq (first part) 46 ≡ false

none : (r : List ℕ) (n : ℕ) → n ≡ 0 → Exponent r n
none r n e = record { part = []; rest = r; is = refl; size = e; form = refl; stops = tt; no_point = refl }

pub mark_is : (b : ℕ) → is_exponent_mark b ≡ true → is_digit b ≡ false
mark_is b h = grind (arith, nat_tests)

pub mark_no_point : (b : ℕ) → is_exponent_mark b ≡ true → nat_eq b 46 ≡ false
mark_no_point b h = grind (arith, nat_tests)

pub sign_no_digit : (b : ℕ) → is_digit b ≡ true → is_sign b ≡ false
sign_no_digit b h = grind (arith, nat_tests)

zero_or_more : (n : ℕ) → (n ≡ 0) ⊎ (0 < n)
zero_or_more n = grind arith

or_true : (b : Bool) → (b || true) ≡ true
or_true true = refl
or_true false = refl

with_sign : (c s : ℕ) (ss : List ℕ) → is_exponent_mark c ≡ true → is_sign s ≡ true → Run Digit ss (run_size Digit ss) → Exponent (c ∷ s ∷ ss) (with_mark 2 (run_size Digit ss))
with_sign c s ss e f r = go (zero_or_more (run_size Digit ss))
  where
    go : (run_size Digit ss ≡ 0) ⊎ (0 < run_size Digit ss) → Exponent (c ∷ s ∷ ss) (with_mark 2 (run_size Digit ss))
    go (inl z) = none (c ∷ s ∷ ss) (with_mark 2 (run_size Digit ss)) (rw (eq-eqb (run_size Digit ss) 0 z) refl)
    go (inr l) =
        let some : 0 < length r.run = omega (arith, r.size) in
        record {
          part = c ∷ s ∷ r.run;
          rest = r.rest;
          is = ap (λ x. c ∷ s ∷ x) r.is;
          size = rw (ne_eqb (run_size Digit ss) 0 (λ e. omega arith)) (omega (arith, r.size));
          form = rw (e, f, only r.run r.all some) (or_true (is_empty (c ∷ s ∷ r.run)));
          stops = mark_is c e;
          no_point = mark_no_point c e;
        }

no_sign : (c : ℕ) (cs : List ℕ) → is_exponent_mark c ≡ true → Run Digit cs (run_size Digit cs) → Exponent (c ∷ cs) (with_mark 1 (run_size Digit cs))
no_sign c cs e r = go (zero_or_more (run_size Digit cs))
  where
    head : (d : List ℕ) → AllDigits d → is_sign (first d) ≡ false
    head [] h = refl
    head (x ∷ d) h = sign_no_digit x (All-head (λ b. IsTrue (is_of Digit b)) x d h)

    go : (run_size Digit cs ≡ 0) ⊎ (0 < run_size Digit cs) → Exponent (c ∷ cs) (with_mark 1 (run_size Digit cs))
    go (inl z) = none (c ∷ cs) (with_mark 1 (run_size Digit cs)) (rw (eq-eqb (run_size Digit cs) 0 z) refl)
    go (inr l) =
        let some : 0 < length r.run = omega (arith, r.size) in
        record {
          part = c ∷ r.run;
          rest = r.rest;
          is = ap (λ x. c ∷ x) r.is;
          size = rw (ne_eqb (run_size Digit cs) 0 (λ e. omega arith)) (omega (arith, r.size));
          form = rw (e, head r.run r.all, only r.run r.all some) (or_true (is_empty (c ∷ r.run)));
          stops = mark_is c e;
          no_point = mark_no_point c e;
        }

exponent_is : (r : List ℕ) → Exponent r (exponent_size r 0)
exponent_is [] = none [] 0 refl
exponent_is (c ∷ cs) = go (is_exponent_mark c) refl cs
  where
    signed : (e : is_exponent_mark c ≡ true) (s : ℕ) (ss : List ℕ) (t : Bool) → is_sign s ≡ t → Exponent (c ∷ s ∷ ss) (with_mark (cond t 2 1) (run_size Digit (drop (0 + cond t 2 1) (c ∷ s ∷ ss))))
    signed e s ss true f = with_sign c s ss e f (run_is Digit ss)
    signed e s ss false f = no_sign c (s ∷ ss) e (run_is Digit (s ∷ ss))

    go : (t : Bool) → is_exponent_mark c ≡ t → (cs : List ℕ) → Exponent (c ∷ cs) (cond t (with_mark (mark_size (c ∷ cs) 0) (digits_from (c ∷ cs) (0 + mark_size (c ∷ cs) 0))) 0)
    go false e cs = none (c ∷ cs) 0 refl
    go true e [] = none (c ∷ []) 0 refl
    go true e (s ∷ ss) = signed e s ss (is_sign s) refl

-- ---- numerals at the head
pub record HasNumeral (text : List ℕ) (n : ℕ) : Type 0 where
  pub part : List ℕ
  pub rest : List ℕ
  pub is : text ≡ part ++ rest
  pub size : n ≡ length part
  pub form : numeral_form part ≡ true

plain : (d r : List ℕ) → AllDigits d → Stops Digit r → 0 < length d → Exponent r (exponent_size r 0) → HasNumeral (d ++ r) (length d + exponent_size r 0)
plain d r h k l x = record {
  part = d ++ x.part;
  rest = x.rest;
  is = ap (λ y. d ++ y) x.is ∙ sym (append_assoc d x.part x.rest);
  size = ap (λ n. length d + n) x.size ∙ sym (length-append d x.part);
  form = rw (digits_seam d x.part h x.stops, after_seam d x.part h x.stops, x.no_point, some_nonempty d l, x.form) refl;
}

some_digit : (d f : List ℕ) → 0 < length d + length f → not (is_empty d && is_empty f) ≡ true
some_digit [] f l = rw (some_nonempty f (omega arith)) refl
some_digit (x ∷ d) f l = rw (some_nonempty (x ∷ d) (omega arith)) refl

pointed : (d f r : List ℕ) → AllDigits d → AllDigits f → 0 < length d + length f → Exponent r (exponent_size r 0) → HasNumeral (d ++ (46 ∷ (f ++ r))) (length d + 1 + length f + exponent_size r 0)
pointed d f r h g l x = record {
  part = d ++ (46 ∷ (f ++ x.part));
  rest = x.rest;
  is = ap (λ y. d ++ (46 ∷ (f ++ y))) x.is ∙ ap (λ y. d ++ (46 ∷ y)) (sym (append_assoc f x.part x.rest)) ∙ sym (append_assoc d (46 ∷ (f ++ x.part)) x.rest);
  size = omega (arith, x.size, length-append d (46 ∷ (f ++ x.part)), length-append f x.part);
  form = rw (digits_seam d (46 ∷ (f ++ x.part)) h refl, after_seam d (46 ∷ (f ++ x.part)) h refl, digits_seam f x.part g x.stops, after_seam f x.part g x.stops, some_digit d f l, x.form) refl;
}

pub mantissa_seam : (d r : List ℕ) → AllDigits d → Stops Digit r → mantissa_size (d ++ r) ≡ mantissa_by (nat_eq (get_or r 0 0) 46) (length d) (digits_from r 1)
mantissa_seam d r h k =
    ap (λ n. mantissa_by (nat_eq (get_or (d ++ r) n 0) 46) n (digits_from (d ++ r) (n + 1))) (run_seam Digit d r h k)
    ∙ ap (λ b. mantissa_by (nat_eq b 46) (length d) (digits_from (d ++ r) (length d + 1))) (seam_here d r)
    ∙ ap (λ n. mantissa_by (nat_eq (get_or r 0 0) 46) (length d) n) (tail_seam d r 1)

pub with_some : (text : List ℕ) (n : ℕ) → 0 < n → with_exponent text n ≡ n + exponent_size text n
with_some text n l = rw (ne_eqb n 0 (λ e. omega arith)) refl

with_none : (text : List ℕ) (n : ℕ) → n ≡ 0 → with_exponent text n ≡ 0
with_none text n e = rw (eq-eqb n 0 e) refl

pub pointed_exponent : (d f r : List ℕ) → exponent_size (d ++ (46 ∷ (f ++ r))) (length d + 1 + length f) ≡ exponent_size r 0
pointed_exponent d f r =
    let l : length (d ++ (46 ∷ f)) ≡ length d + 1 + length f = omega (arith, length-append d (46 ∷ f)) in
    ap (λ n. exponent_size (d ++ (46 ∷ (f ++ r))) n) (sym l) ∙ ap (λ t. exponent_size t (length (d ++ (46 ∷ f)))) (sym (append_assoc d (46 ∷ f) r)) ∙ exponent_seam (d ++ (46 ∷ f)) r

plain_numeral : (d r : List ℕ) → AllDigits d → Stops Digit r → nat_eq (get_or r 0 0) 46 ≡ false → 0 < numeral_size (d ++ r) → HasNumeral (d ++ r) (numeral_size (d ++ r))
plain_numeral d r h k t l = go (zero_or_more (length d))
  where
    m : numeral_size (d ++ r) ≡ with_exponent (d ++ r) (length d)
    m = ap (with_exponent (d ++ r)) (mantissa_seam d r h k ∙ ap (λ b. mantissa_by b (length d) (digits_from r 1)) t)

    go : (length d ≡ 0) ⊎ (0 < length d) → HasNumeral (d ++ r) (numeral_size (d ++ r))
    go (inl z) = let e = m ∙ with_none (d ++ r) (length d) z in absurd (omega (arith, e, l))
    go (inr p) =
        let e = m ∙ with_some (d ++ r) (length d) p ∙ ap (λ n. length d + n) (exponent_seam d r) in
        subst (λ n. HasNumeral (d ++ r) n) (sym e) (plain d r h k p (exponent_is r))

point_numeral : (d f r : List ℕ) → AllDigits d → AllDigits f → Stops Digit r → 0 < numeral_size (d ++ (46 ∷ (f ++ r))) → HasNumeral (d ++ (46 ∷ (f ++ r))) (numeral_size (d ++ (46 ∷ (f ++ r))))
point_numeral d f r h g k l = go (zero_or_more (length d + length f))
  where
    m : numeral_size (d ++ (46 ∷ (f ++ r))) ≡ with_exponent (d ++ (46 ∷ (f ++ r))) (mantissa_by true (length d) (length f))
    m = ap (with_exponent (d ++ (46 ∷ (f ++ r)))) (mantissa_seam d (46 ∷ (f ++ r)) h refl ∙ ap (λ n. mantissa_by true (length d) n) (run_seam Digit f r g k))

    none_is : (a b : ℕ) → a + b ≡ 0 → mantissa_by true a b ≡ 0
    none_is a b e = rw (eq-eqb a 0 (omega arith), eq-eqb b 0 (omega arith)) refl

    some_is : (a b : ℕ) → 0 < a + b → mantissa_by true a b ≡ a + 1 + b
    some_is a b e = grind (arith, nat_tests)

    go : (length d + length f ≡ 0) ⊎ (0 < length d + length f) → HasNumeral (d ++ (46 ∷ (f ++ r))) (numeral_size (d ++ (46 ∷ (f ++ r))))
    go (inl z) = let e = m ∙ with_none (d ++ (46 ∷ (f ++ r))) (mantissa_by true (length d) (length f)) (none_is (length d) (length f) z) in absurd (omega (arith, e, l))
    go (inr p) =
        let q : 0 < length d + 1 + length f = omega arith in
        let e = m ∙ ap (with_exponent (d ++ (46 ∷ (f ++ r)))) (some_is (length d) (length f) p) ∙ with_some (d ++ (46 ∷ (f ++ r))) (length d + 1 + length f) q ∙ ap (λ n. length d + 1 + length f + n) (pointed_exponent d f r) in
        subst (λ n. HasNumeral (d ++ (46 ∷ (f ++ r))) n) (sym e) (pointed d f r h g p (exponent_is r))

split_numeral : (d r : List ℕ) → AllDigits d → Stops Digit r → 0 < numeral_size (d ++ r) → HasNumeral (d ++ r) (numeral_size (d ++ r))
split_numeral d [] h k l = plain_numeral d [] h k refl l
split_numeral d (c ∷ cs) h k l = go (nat_eq c 46) refl
  where
    at_point : Run Digit cs (run_size Digit cs) → c ≡ 46 → HasNumeral (d ++ (c ∷ cs)) (numeral_size (d ++ (c ∷ cs)))
    at_point q e =
        let i : c ∷ cs ≡ 46 ∷ (q.run ++ q.rest) = ap (λ x. x ∷ cs) e ∙ ap (λ x. 46 ∷ x) q.is in
        subst (λ y. HasNumeral (d ++ y) (numeral_size (d ++ y))) (sym i) (point_numeral d q.run q.rest h q.all q.stops (subst (λ y. 0 < numeral_size (d ++ y)) i l))

    go : (t : Bool) → nat_eq c 46 ≡ t → HasNumeral (d ++ (c ∷ cs)) (numeral_size (d ++ (c ∷ cs)))
    go true e = at_point (run_is Digit cs) (eqb-true c 46 e)
    go false e = plain_numeral d (c ∷ cs) h k e l

-- what is found as a numeral has its form
pub numeral_found : (text : List ℕ) → 0 < numeral_size text → HasNumeral text (numeral_size text)
numeral_found text l = go (run_is Digit text)
  where
    go : Run Digit text (run_size Digit text) → HasNumeral text (numeral_size text)
    go q = subst (λ y. HasNumeral y (numeral_size y)) (sym q.is) (split_numeral q.run q.rest q.all q.stops (subst (λ y. 0 < numeral_size y) q.is l))

pub numeral_form_found : (text : List ℕ) → 0 < numeral_size text → numeral_form (take (numeral_size text) text) ≡ true
numeral_form_found text l =
    let n = numeral_found text l in
    ap (λ k. numeral_form (take k text)) n.size ∙ ap (λ y. numeral_form (take (length n.part) y)) n.is ∙ ap numeral_form (take-append_seam n.part n.rest) ∙ n.form
