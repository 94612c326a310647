-- Each polynomial has a form, and its value is that of each form that it has.
use Rattle.std.proofs.Common.{◌≡◌, ◌≢◌, ◌⊎◌, inl, inr, ℕ, ◌+◌, ◌<◌, ◌≤◌, ℤ, pos, ◌+ℤ◌, ◌*ℤ◌, ◌<ℤ◌, Bool, true, false, ◌&&◌, ◌||◌, not, cond, List, [], ◌∷◌, arith, refl, sym, ap, ap₂, subst, subst₂, ◌∙◌, length}
use Rattle.std.specs.Prelude.{nat_lt, nat_eq}
use Rattle.std.proofs.lemmas.Int.{ints}
use lib.IntN.{zero-*ℤ, *ℤ-zero}
use borrow.Author.Tests.{ltb-false, ltb-true}
use Rattle.emp_algebra.specs.Vector.{cell}
use Rattle.emp_algebra.proofs.Laws.{mul_pos}
use Rattle.emp_algebra.proofs.Order.{cancel_right}
use Rattle.emp_algebra.proofs.Ring.{var, lit, ◌⊕◌, ◌⊗◌, by_ring}
use Rattle.emp_num.specs.FracSpec.{IsQuotient}
use Rattle.emp_num.specs.Ratio.{Ratio, plus, times, SameRatio}
use Rattle.emp_num.specs.Point.{Point, coordinate}
use Rattle.emp_num.specs.Whole.{whole}
use Rattle.emp_num.specs.declared.frac.Frac.{Frac}
use Rattle.emp_ast.specs.declared.tree.VarId.{VarId}
use Rattle.emp_form.specs.Form.{Form, line, column, quadratic, crossed, top_at, form_value, form_of, unit_at, variable_form, sum_form, product_form, IsConstant, IsLinear}
use Rattle.emp_form.proofs.Lines.{sum_to-below, line-scale, quadratic-scale}
use Rattle.emp_form.proofs.FormLaws.{Entry, entry_number, entry_variable, entry_sum, entry_product}
use Rattle.emp_poly.specs.Terms.{is_not_zero, is_linear_from, comes_from, is_square_from}
use Rattle.emp_poly.specs.Quads.{linear_at, square_at, as_ratio, linear_value, square_value, quad_value, HasForm}
use Rattle.emp_poly.specs.Laws.{SameCoefficients}
use Rattle.emp_poly.specs.declared.quad.Quad.{Quad}

-- ---- the form of a polynomial
abbrev pub term_form : Frac → ℕ → Form
term_form c k = product_form (form_of c.num c.den) (variable_form k)

abbrev pub linear_form : List (VarId × Frac) → Form
linear_form [] = form_of (pos 0) (pos 1)
linear_form (t ∷ ts) = sum_form (term_form t.1 t.0.at) (linear_form ts)

abbrev pub pair_form : Frac → ℕ → ℕ → Form
pair_form c i j = product_form (form_of c.num c.den) (product_form (variable_form i) (variable_form j))

abbrev pub square_form : List (VarId × VarId × Frac) → Form
square_form [] = form_of (pos 0) (pos 1)
square_form (t ∷ ts) = sum_form (pair_form t.2 t.0.at t.1.at) (square_form ts)

abbrev pub parts_form : Frac → List (VarId × Frac) → List (VarId × VarId × Frac) → Form
parts_form c ls ss = sum_form (form_of c.num c.den) (sum_form (linear_form ls) (square_form ss))

abbrev pub quad_form : Quad → Form
quad_form q = parts_form q.constant q.linear q.square

-- ---- values
number_constant : (n d : ℤ) → IsConstant (form_of n d)
number_constant n d = record { linear = λ i. refl; square = λ i j l. refl }

variable_linear : (k : ℕ) → IsLinear (variable_form k)
variable_linear k = record { square = λ i j l. refl }

module _ (p : Point) where
  entry_frac : (c : Frac) → Entry p (as_ratio c) (form_of c.num c.den)
  entry_frac c = entry_number p c.num c.den c.positive

  pub entry_linear : (ts : List (VarId × Frac)) → Entry p (linear_value p ts) (linear_form ts)
  entry_linear [] = entry_number p (pos 0) (pos 1) (omega (arith, ints))
  entry_linear (t ∷ ts) =
      entry_sum p (times (as_ratio t.1) (coordinate p t.0.at)) (linear_value p ts) (term_form t.1 t.0.at) (linear_form ts)
      (entry_product p (as_ratio t.1) (coordinate p t.0.at) (form_of t.1.num t.1.den) (variable_form t.0.at) (inl (number_constant t.1.num t.1.den)) (entry_frac t.1) (entry_variable p t.0.at))
      (entry_linear ts)

  entry_square : (ts : List (VarId × VarId × Frac)) → Entry p (square_value p ts) (square_form ts)
  entry_square [] = entry_number p (pos 0) (pos 1) (omega (arith, ints))
  entry_square (t ∷ ts) =
      entry_sum p (times (as_ratio t.2) (times (coordinate p t.0.at) (coordinate p t.1.at))) (square_value p ts) (pair_form t.2 t.0.at t.1.at) (square_form ts)
      (entry_product p (as_ratio t.2) (times (coordinate p t.0.at) (coordinate p t.1.at)) (form_of t.2.num t.2.den) (product_form (variable_form t.0.at) (variable_form t.1.at)) (inl (number_constant t.2.num t.2.den)) (entry_frac t.2)
      (entry_product p (coordinate p t.0.at) (coordinate p t.1.at) (variable_form t.0.at) (variable_form t.1.at) (inr (inr (variable_linear t.0.at, variable_linear t.1.at))) (entry_variable p t.0.at) (entry_variable p t.1.at)))
      (entry_square ts)

  pub entry_quad : (q : Quad) → Entry p (quad_value p q) (quad_form q)
  entry_quad q =
      entry_sum p (as_ratio q.constant) (plus (linear_value p q.linear) (square_value p q.square)) (form_of q.constant.num q.constant.den) (sum_form (linear_form q.linear) (square_form q.square)) (entry_frac q.constant) (entry_sum p (linear_value p q.linear) (square_value p q.square) (linear_form q.linear) (square_form q.square) (entry_linear q.linear) (entry_square q.square))

-- ---- numbers
zero_of : (z d : ℤ) → IsQuotient (whole 0) z d → z ≡ pos 0
zero_of z d h = by_ring (z ∷ []) (var 0) (var 0 ⊗ lit (pos 1)) refl ∙ (sym h ∙ zero-*ℤ d)

sum_left : (x : Frac) (F d G e : ℤ) → IsQuotient x F d → G ≡ pos 0 → IsQuotient x (e *ℤ F +ℤ d *ℤ G) (d *ℤ e)
sum_left x F d G e h z =
    by_ring (x.num ∷ d ∷ e ∷ []) (var 0 ⊗ (var 1 ⊗ var 2)) (var 2 ⊗ (var 0 ⊗ var 1)) refl ∙ (ap (λ v. e *ℤ v) h ∙ (by_ring (e ∷ F ∷ x.den ∷ d ∷ []) (var 0 ⊗ (var 1 ⊗ var 2)) ((var 0 ⊗ var 1 ⊕ var 3 ⊗ lit (pos 0)) ⊗ var 2) refl ∙ ap (λ v. (e *ℤ F +ℤ d *ℤ v) *ℤ x.den) (sym z)))

sum_right : (x : Frac) (F d G e : ℤ) → F ≡ pos 0 → IsQuotient x G e → IsQuotient x (e *ℤ F +ℤ d *ℤ G) (d *ℤ e)
sum_right x F d G e z h =
    by_ring (x.num ∷ d ∷ e ∷ []) (var 0 ⊗ (var 1 ⊗ var 2)) (var 1 ⊗ (var 0 ⊗ var 2)) refl ∙ (ap (λ v. d *ℤ v) h ∙ (by_ring (e ∷ G ∷ x.den ∷ d ∷ []) (var 3 ⊗ (var 1 ⊗ var 2)) ((var 0 ⊗ lit (pos 0) ⊕ var 3 ⊗ var 1) ⊗ var 2) refl ∙ ap (λ v. (e *ℤ v +ℤ d *ℤ G) *ℤ x.den) (sym z)))

neither : (F d G e : ℤ) → F ≡ pos 0 → G ≡ pos 0 → e *ℤ F +ℤ d *ℤ G ≡ pos 0
neither F d G e h k = ap₂ (λ u v. e *ℤ u +ℤ d *ℤ v) h k ∙ by_ring (d ∷ e ∷ []) (var 1 ⊗ lit (pos 0) ⊕ var 0 ⊗ lit (pos 0)) (lit (pos 0)) refl

-- ---- tests
never : false ≡ true → ⊥
never e = cc

pub both_true : (a b : Bool) → (a && b) ≡ true → (a ≡ true) × (b ≡ true)
both_true true b h = (refl, h)
both_true false b h = absurd (never h)

pub is_same : (i j : ℕ) → nat_eq i j ≡ true → i ≡ j
is_same i j e = grind arith

pub same_is : (i : ℕ) → nat_eq i i ≡ true
same_is i = grind arith

pub apart : (i j : ℕ) → i ≢ j → nat_eq i j ≡ false
apart i j h = grind arith

pub at_least : (i least : ℕ) → not (nat_lt i least) ≡ true → least ≤ i
at_least i least h = go (nat_lt i least) refl h
  where
    go : (t : Bool) → nat_lt i least ≡ t → not t ≡ true → least ≤ i
    go true e h = absurd (never h)
    go false e h = ltb-false i least e

pub number_cases : (i j : ℕ) → (i ≡ j) ⊎ (i ≢ j)
number_cases i j = grind arith

-- ---- linear terms
pub record LinearFacts (t : VarId × Frac) (ts : List (VarId × Frac)) (least : ℕ) : Type 0 where
  pub from : least ≤ t.0.at
  pub some : is_not_zero t.1.num ≡ true
  pub rest : is_linear_from (t.0.at + 1) ts ≡ true

pub linear_facts : (t : VarId × Frac) (ts : List (VarId × Frac)) (least : ℕ) → is_linear_from least (t ∷ ts) ≡ true → LinearFacts t ts least
linear_facts t ts least h =
    let a = both_true (not (nat_lt t.0.at least)) (is_not_zero t.1.num && is_linear_from (t.0.at + 1) ts) h in
    let b = both_true (is_not_zero t.1.num) (is_linear_from (t.0.at + 1) ts) a.1 in
    record { from = at_least t.0.at least a.0; some = b.0; rest = b.1 }

pub linear_below : (ts : List (VarId × Frac)) (least i : ℕ) → is_linear_from least ts ≡ true → i < least → linear_at ts i ≡ whole 0
linear_below [] least i h l = refl
linear_below (t ∷ ts) least i h l =
    let f = linear_facts t ts least h in
    let from : least ≤ t.0.at = f.from in
    ap (λ b. cond b t.1 (linear_at ts i)) (apart t.0.at i (λ e. apart_by t.0.at i least e from l)) ∙ linear_below ts (t.0.at + 1) i f.rest (omega arith)
  where
    apart_by : (v i least : ℕ) → v ≡ i → least ≤ v → i < least → ⊥
    apart_by v i least e h l = omega arith

unit_same : (k : ℕ) → unit_at k k ≡ pos 1
unit_same k = ap (λ t. cond t (pos 1) (pos 0)) (same_is k)

unit_other : (k i : ℕ) → i ≢ k → unit_at k i ≡ pos 0
unit_other k i h = ap (λ t. cond t (pos 1) (pos 0)) (apart i k h)

term_linear : (c : Frac) (k i : ℕ) (z : ℤ) → unit_at k i ≡ z → (term_form c k).linear i ≡ c.num *ℤ z
term_linear c k i z e = ap (λ u. c.num *ℤ u +ℤ pos 0 *ℤ pos 0) e ∙ by_ring (c.num ∷ z ∷ []) (var 0 ⊗ var 1 ⊕ lit (pos 0) ⊗ lit (pos 0)) (var 0 ⊗ var 1) refl

pub linear_has : (ts : List (VarId × Frac)) (least : ℕ) → is_linear_from least ts ≡ true → (i : ℕ) → IsQuotient (linear_at ts i) ((linear_form ts).linear i) (linear_form ts).den
linear_has [] least h i = refl
linear_has (t ∷ ts) least h i = go (number_cases t.0.at i) (λ i. linear_has ts (t.0.at + 1) (linear_facts t ts least h).rest i)
  where
    f : LinearFacts t ts least
    f = linear_facts t ts least h

    go : (t.0.at ≡ i) ⊎ (t.0.at ≢ i) → ((i : ℕ) → IsQuotient (linear_at ts i) ((linear_form ts).linear i) (linear_form ts).den) → IsQuotient (linear_at (t ∷ ts) i) ((linear_form (t ∷ ts)).linear i) (linear_form (t ∷ ts)).den
    go (inl e) rest = subst (λ (i : ℕ). IsQuotient (linear_at (t ∷ ts) i) ((linear_form (t ∷ ts)).linear i) (linear_form (t ∷ ts)).den) e
        (subst (λ (x : Frac). IsQuotient x ((linear_form ts).den *ℤ (term_form t.1 t.0.at).linear t.0.at +ℤ (t.1.den *ℤ pos 1) *ℤ (linear_form ts).linear t.0.at) (t.1.den *ℤ pos 1 *ℤ (linear_form ts).den)) (sym (ap (λ b. cond b t.1 (linear_at ts t.0.at)) (same_is t.0.at)))
        (sum_left t.1 ((term_form t.1 t.0.at).linear t.0.at) (t.1.den *ℤ pos 1) ((linear_form ts).linear t.0.at) (linear_form ts).den
        (ap (λ z. t.1.num *ℤ z) (by_ring (t.1.den ∷ []) (var 0 ⊗ lit (pos 1)) (var 0) refl) ∙ ap (λ z. z *ℤ t.1.den) (by_ring (t.1.num ∷ []) (var 0) (var 0 ⊗ lit (pos 1)) refl ∙ sym (term_linear t.1 t.0.at t.0.at (pos 1) (unit_same t.0.at))))
        (zero_of ((linear_form ts).linear t.0.at) (linear_form ts).den (subst (λ (x : Frac). IsQuotient x ((linear_form ts).linear t.0.at) (linear_form ts).den) (linear_below ts (t.0.at + 1) t.0.at f.rest (omega arith)) (rest t.0.at)))))
    go (inr ne) rest =
        subst (λ (x : Frac). IsQuotient x ((linear_form (t ∷ ts)).linear i) (linear_form (t ∷ ts)).den) (sym (ap (λ b. cond b t.1 (linear_at ts i)) (apart t.0.at i ne)))
        (sum_right (linear_at ts i) ((term_form t.1 t.0.at).linear i) (t.1.den *ℤ pos 1) ((linear_form ts).linear i) (linear_form ts).den (term_linear t.1 t.0.at i (pos 0) (unit_other t.0.at i (λ e. ne (sym e))) ∙ *ℤ-zero t.1.num) (rest i))

-- a linear form has no constant and no quadratic coefficient
crossed_left : (b : ℕ → ℤ) (i j : ℕ) (t : Bool) → cond t (pos 0 *ℤ b i) (pos 0 *ℤ b j +ℤ pos 0 *ℤ b i) ≡ pos 0
crossed_left b i j true = zero-*ℤ (b i)
crossed_left b i j false = by_ring (b i ∷ b j ∷ []) (lit (pos 0) ⊗ var 1 ⊕ lit (pos 0) ⊗ var 0) (lit (pos 0)) refl

pub linear_constant : (ts : List (VarId × Frac)) → (linear_form ts).constant ≡ pos 0
linear_constant [] = refl
linear_constant (t ∷ ts) = neither (t.1.num *ℤ pos 0) (t.1.den *ℤ pos 1) (linear_form ts).constant (linear_form ts).den (*ℤ-zero t.1.num) (linear_constant ts)

pub linear_square : (ts : List (VarId × Frac)) (i j : ℕ) → (linear_form ts).square i j ≡ pos 0
linear_square [] i j = refl
linear_square (t ∷ ts) i j = neither ((term_form t.1 t.0.at).square i j) (t.1.den *ℤ pos 1) ((linear_form ts).square i j) (linear_form ts).den (term_square t.1 t.0.at) (linear_square ts i j)
  where
    term_square : (c : Frac) (k : ℕ) → (term_form c k).square i j ≡ pos 0
    term_square c k = ap (λ z. z +ℤ (c.num *ℤ pos 0 +ℤ pos 0 *ℤ pos 0)) (crossed_left (unit_at k) i j (nat_eq i j)) ∙ by_ring (c.num ∷ []) (lit (pos 0) ⊕ (var 0 ⊗ lit (pos 0) ⊕ lit (pos 0) ⊗ lit (pos 0))) (lit (pos 0)) refl

-- ---- quadratic terms
pub comes_order : (i j u v : ℕ) → comes_from i j u v ≡ true → (u ≤ v) × ((i < u) ⊎ ((i ≡ u) × (j ≤ v)))
comes_order i j u v h =
    let a = both_true (not (nat_lt v u)) (nat_lt i u || (nat_eq i u && not (nat_lt v j))) h in
    (at_least v u a.0, go (nat_lt i u) refl a.1)
  where
    go : (t : Bool) → nat_lt i u ≡ t → (t || (nat_eq i u && not (nat_lt v j))) ≡ true → (i < u) ⊎ ((i ≡ u) × (j ≤ v))
    go true e h = inl (ltb-true i u e)
    go false e h = let b = both_true (nat_eq i u) (not (nat_lt v j)) h in inr (is_same i u b.0, at_least v j b.1)

pub record SquareFacts (t : VarId × VarId × Frac) (ts : List (VarId × VarId × Frac)) (i j : ℕ) : Type 0 where
  pub ordered : t.0.at ≤ t.1.at
  pub from : (i < t.0.at) ⊎ ((i ≡ t.0.at) × (j ≤ t.1.at))
  pub some : is_not_zero t.2.num ≡ true
  pub rest : is_square_from t.0.at (t.1.at + 1) ts ≡ true

pub square_facts : (t : VarId × VarId × Frac) (ts : List (VarId × VarId × Frac)) (i j : ℕ) → is_square_from i j (t ∷ ts) ≡ true → SquareFacts t ts i j
square_facts t ts i j h =
    let a = both_true (comes_from i j t.0.at t.1.at) (is_not_zero t.2.num && is_square_from t.0.at (t.1.at + 1) ts) h in
    let b = both_true (is_not_zero t.2.num) (is_square_from t.0.at (t.1.at + 1) ts) a.1 in
    let c = comes_order i j t.0.at t.1.at a.0 in
    record { ordered = c.0; from = c.1; some = b.0; rest = b.1 }

abbrev pub IsBefore : ℕ → ℕ → ℕ → ℕ → Type 0
IsBefore u v i j = (u < i) ⊎ ((u ≡ i) × (v < j))

pub pair_apart : (a b u v : ℕ) → ((a ≡ u) → (b ≡ v) → ⊥) → (nat_eq a u && nat_eq b v) ≡ false
pair_apart a b u v h = go (nat_eq a u) refl (nat_eq b v) refl
  where
    go : (s : Bool) → nat_eq a u ≡ s → (t : Bool) → nat_eq b v ≡ t → (nat_eq a u && nat_eq b v) ≡ false
    go false e t f = ap (λ s. s && nat_eq b v) e
    go true e false f = ap₂ (λ s t. s && t) e f
    go true e true f = absurd (h (is_same a u e) (is_same b v f))

pub square_below : (ts : List (VarId × VarId × Frac)) (i j u v : ℕ) → is_square_from i j ts ≡ true → IsBefore u v i j → square_at ts u v ≡ whole 0
square_below [] i j u v h l = refl
square_below (t ∷ ts) i j u v h l =
    let f = square_facts t ts i j h in
    ap (λ b. cond b t.2 (square_at ts u v)) (pair_apart t.0.at t.1.at u v (differs t.0.at t.1.at f.from l)) ∙ square_below ts t.0.at (t.1.at + 1) u v f.rest (later t.0.at t.1.at f.from l)
  where
    differs : (a b : ℕ) → (i < a) ⊎ ((i ≡ a) × (j ≤ b)) → IsBefore u v i j → a ≡ u → b ≡ v → ⊥
    differs a b (inl p) (inl q) e g = omega arith
    differs a b (inl p) (inr q) e g = omega (arith, q.0)
    differs a b (inr p) (inl q) e g = omega (arith, p.0)
    differs a b (inr p) (inr q) e g = omega (arith, p.1, q.1)

    later : (a b : ℕ) → (i < a) ⊎ ((i ≡ a) × (j ≤ b)) → IsBefore u v i j → IsBefore u v a (b + 1)
    later a b (inl p) (inl q) = inl (omega arith)
    later a b (inl p) (inr q) = inl (omega (arith, q.0))
    later a b (inr p) (inl q) = inl (omega (arith, p.0))
    later a b (inr p) (inr q) = inr (q.0 ∙ p.0, omega (arith, p.1, q.1))

-- the coefficient of a product of two variables in the product of variables a and b
unit_cases : (k i : ℕ) → ((i ≡ k) × (unit_at k i ≡ pos 1)) ⊎ ((i ≢ k) × (unit_at k i ≡ pos 0))
unit_cases k i = go (number_cases i k)
  where
    go : (i ≡ k) ⊎ (i ≢ k) → ((i ≡ k) × (unit_at k i ≡ pos 1)) ⊎ ((i ≢ k) × (unit_at k i ≡ pos 0))
    go (inl e) = inl (e, subst (λ i. unit_at k i ≡ pos 1) (sym e) (unit_same k))
    go (inr h) = inr (h, unit_other k i h)

zero_product : (x y : ℤ) → (x ≡ pos 0) ⊎ (y ≡ pos 0) → x *ℤ y ≡ pos 0
zero_product x y (inl e) = ap (λ z. z *ℤ y) e ∙ zero-*ℤ y
zero_product x y (inr e) = ap (λ z. x *ℤ z) e ∙ *ℤ-zero x

across_zero : (a b i j : ℕ) → a ≤ b → i < j → unit_at a j *ℤ unit_at b i ≡ pos 0
across_zero a b i j h l = go (unit_cases a j) (unit_cases b i)
  where
    go : ((j ≡ a) × (unit_at a j ≡ pos 1)) ⊎ ((j ≢ a) × (unit_at a j ≡ pos 0)) → ((i ≡ b) × (unit_at b i ≡ pos 1)) ⊎ ((i ≢ b) × (unit_at b i ≡ pos 0)) → unit_at a j *ℤ unit_at b i ≡ pos 0
    go (inr p) q = zero_product (unit_at a j) (unit_at b i) (inl p.1)
    go (inl p) (inr q) = zero_product (unit_at a j) (unit_at b i) (inr q.1)
    go (inl p) (inl q) = absurd (omega (arith, p.0, q.0))

crossed_units : (a b i j : ℕ) → a ≤ b → i ≤ j → crossed (unit_at a) (unit_at b) i j ≡ unit_at a i *ℤ unit_at b j
crossed_units a b i j h l = go (nat_eq i j) refl
  where
    below : (i j : ℕ) → i ≤ j → nat_eq i j ≡ false → i < j
    below i j l e = grind arith

    go : (t : Bool) → nat_eq i j ≡ t → cond t (unit_at a i *ℤ unit_at b i) (unit_at a i *ℤ unit_at b j +ℤ unit_at a j *ℤ unit_at b i) ≡ unit_at a i *ℤ unit_at b j
    go true e = ap (λ k. unit_at a i *ℤ unit_at b k) (is_same i j e)
    go false e = ap (λ z. unit_at a i *ℤ unit_at b j +ℤ z) (across_zero a b i j h (below i j l e)) ∙ by_ring ((unit_at a i *ℤ unit_at b j) ∷ []) (var 0 ⊕ lit (pos 0)) (var 0) refl

pair_square : (c : Frac) (a b i j : ℕ) (z : ℤ) → crossed (unit_at a) (unit_at b) i j ≡ z → (pair_form c a b).square i j ≡ c.num *ℤ z
pair_square c a b i j z e =
    ap₂ (λ x y. x +ℤ (c.num *ℤ (y +ℤ (pos 0 *ℤ pos 0 +ℤ pos 0 *ℤ pos 0)) +ℤ pos 0 *ℤ pos 0 *ℤ pos 0)) (crossed_left (λ i. pos 0 *ℤ unit_at b i +ℤ pos 0 *ℤ unit_at a i) i j (nat_eq i j)) e ∙ by_ring (c.num ∷ z ∷ []) (lit (pos 0) ⊕ (var 0 ⊗ (var 1 ⊕ (lit (pos 0) ⊗ lit (pos 0) ⊕ lit (pos 0) ⊗ lit (pos 0))) ⊕ lit (pos 0) ⊗ lit (pos 0) ⊗ lit (pos 0))) (var 0 ⊗ var 1) refl

square_den : (c : Frac) → pos 1 *ℤ pos 1 ≡ pos 1
square_den c = refl

pub square_has : (ts : List (VarId × VarId × Frac)) (a b : ℕ) → is_square_from a b ts ≡ true → (i j : ℕ) → i ≤ j → IsQuotient (square_at ts i j) ((square_form ts).square i j) (square_form ts).den
square_has [] a b h i j l = refl
square_has (t ∷ ts) a b h i j l = go (number_cases t.0.at i) (number_cases t.1.at j) (λ i j l. square_has ts t.0.at (t.1.at + 1) (square_facts t ts a b h).rest i j l)
  where
    f : SquareFacts t ts a b
    f = square_facts t ts a b h

    other : ((i j : ℕ) → i ≤ j → IsQuotient (square_at ts i j) ((square_form ts).square i j) (square_form ts).den) → ((t.0.at ≡ i) → (t.1.at ≡ j) → ⊥) → unit_at t.0.at i *ℤ unit_at t.1.at j ≡ pos 0 → IsQuotient (square_at (t ∷ ts) i j) ((square_form (t ∷ ts)).square i j) (square_form (t ∷ ts)).den
    other rest ne z =
        subst (λ (x : Frac). IsQuotient x ((square_form (t ∷ ts)).square i j) (square_form (t ∷ ts)).den) (sym (ap (λ b. cond b t.2 (square_at ts i j)) (pair_apart t.0.at t.1.at i j ne)))
        (sum_right (square_at ts i j) ((pair_form t.2 t.0.at t.1.at).square i j) (t.2.den *ℤ (pos 1 *ℤ pos 1)) ((square_form ts).square i j) (square_form ts).den (pair_square t.2 t.0.at t.1.at i j (pos 0) (crossed_units t.0.at t.1.at i j f.ordered l ∙ z) ∙ *ℤ-zero t.2.num) (rest i j l))

    here : ((i j : ℕ) → i ≤ j → IsQuotient (square_at ts i j) ((square_form ts).square i j) (square_form ts).den) → IsQuotient (square_at (t ∷ ts) t.0.at t.1.at) ((square_form (t ∷ ts)).square t.0.at t.1.at) (square_form (t ∷ ts)).den
    here rest =
        subst (λ (x : Frac). IsQuotient x ((square_form (t ∷ ts)).square t.0.at t.1.at) (square_form (t ∷ ts)).den) (sym (ap (λ b. cond b t.2 (square_at ts t.0.at t.1.at)) (ap₂ (λ x y. x && y) (same_is t.0.at) (same_is t.1.at))))
        (sum_left t.2 ((pair_form t.2 t.0.at t.1.at).square t.0.at t.1.at) (t.2.den *ℤ (pos 1 *ℤ pos 1)) ((square_form ts).square t.0.at t.1.at) (square_form ts).den
        (by_ring (t.2.num ∷ t.2.den ∷ []) (var 0 ⊗ (var 1 ⊗ (lit (pos 1) ⊗ lit (pos 1)))) (var 0 ⊗ lit (pos 1) ⊗ var 1) refl ∙ ap (λ z. z *ℤ t.2.den) (sym (pair_square t.2 t.0.at t.1.at t.0.at t.1.at (pos 1) (crossed_units t.0.at t.1.at t.0.at t.1.at f.ordered f.ordered ∙ ap₂ (λ x y. x *ℤ y) (unit_same t.0.at) (unit_same t.1.at)))))
        (zero_of ((square_form ts).square t.0.at t.1.at) (square_form ts).den (subst (λ (x : Frac). IsQuotient x ((square_form ts).square t.0.at t.1.at) (square_form ts).den) (square_below ts t.0.at (t.1.at + 1) t.0.at t.1.at f.rest (inr (refl, omega arith))) (rest t.0.at t.1.at f.ordered))))

    go : (t.0.at ≡ i) ⊎ (t.0.at ≢ i) → (t.1.at ≡ j) ⊎ (t.1.at ≢ j) → ((i j : ℕ) → i ≤ j → IsQuotient (square_at ts i j) ((square_form ts).square i j) (square_form ts).den) → IsQuotient (square_at (t ∷ ts) i j) ((square_form (t ∷ ts)).square i j) (square_form (t ∷ ts)).den
    go (inl e) (inl g) rest = subst₂ (λ (i j : ℕ). IsQuotient (square_at (t ∷ ts) i j) ((square_form (t ∷ ts)).square i j) (square_form (t ∷ ts)).den) e g (here rest)
    go (inr ne) q rest = other rest (λ e g. ne e) (zero_product (unit_at t.0.at i) (unit_at t.1.at j) (inl (unit_other t.0.at i (λ e. ne (sym e)))))
    go (inl e) (inr ne) rest = other rest (λ e g. ne g) (zero_product (unit_at t.0.at i) (unit_at t.1.at j) (inr (unit_other t.1.at j (λ e. ne (sym e)))))

pub square_constant : (ts : List (VarId × VarId × Frac)) → (square_form ts).constant ≡ pos 0
square_constant [] = refl
square_constant (t ∷ ts) = neither (t.2.num *ℤ (pos 0 *ℤ pos 0)) (t.2.den *ℤ (pos 1 *ℤ pos 1)) (square_form ts).constant (square_form ts).den (*ℤ-zero t.2.num) (square_constant ts)

pub square_linear : (ts : List (VarId × VarId × Frac)) (i : ℕ) → (square_form ts).linear i ≡ pos 0
square_linear [] i = refl
square_linear (t ∷ ts) i = neither ((pair_form t.2 t.0.at t.1.at).linear i) (t.2.den *ℤ (pos 1 *ℤ pos 1)) ((square_form ts).linear i) (square_form ts).den (by_ring (t.2.num ∷ unit_at t.0.at i ∷ unit_at t.1.at i ∷ []) (var 0 ⊗ (lit (pos 0) ⊗ var 2 ⊕ lit (pos 0) ⊗ var 1) ⊕ lit (pos 0) ⊗ lit (pos 0) ⊗ lit (pos 0)) (lit (pos 0)) refl) (square_linear ts i)

-- ---- dens
linear_den : (ts : List (VarId × Frac)) → pos 0 <ℤ (linear_form ts).den
linear_den [] = omega (arith, ints)
linear_den (t ∷ ts) = mul_pos (t.1.den *ℤ pos 1) (linear_form ts).den (mul_pos t.1.den (pos 1) t.1.positive (omega (arith, ints))) (linear_den ts)

square_den_above : (ts : List (VarId × VarId × Frac)) → pos 0 <ℤ (square_form ts).den
square_den_above [] = omega (arith, ints)
square_den_above (t ∷ ts) = mul_pos (t.2.den *ℤ (pos 1 *ℤ pos 1)) (square_form ts).den (mul_pos t.2.den (pos 1 *ℤ pos 1) t.2.positive (omega (arith, ints))) (square_den_above ts)

-- ---- the form of a polynomial has its coefficients
pub has_quad_form : (q : Quad) → HasForm q (quad_form q)
has_quad_form q =
    let ld = (linear_form q.linear).den in
    let sd = (square_form q.square).den in
    let c = q.constant in
    record {
      den = mul_pos c.den (ld *ℤ sd) c.positive (mul_pos ld sd (linear_den q.linear) (square_den_above q.square));
      constant = sum_left c c.num c.den (sd *ℤ (linear_form q.linear).constant +ℤ ld *ℤ (square_form q.square).constant) (ld *ℤ sd) refl (neither (linear_form q.linear).constant ld (square_form q.square).constant sd (linear_constant q.linear) (square_constant q.square));
      linear = λ i. sum_right (linear_at q.linear i) (pos 0) c.den (sd *ℤ (linear_form q.linear).linear i +ℤ ld *ℤ (square_form q.square).linear i) (ld *ℤ sd) refl (sum_left (linear_at q.linear i) ((linear_form q.linear).linear i) ld ((square_form q.square).linear i) sd (linear_has q.linear 0 q.linear_kept i) (square_linear q.square i));
      square = λ i j l. sum_right (square_at q.square i j) (pos 0) c.den (sd *ℤ (linear_form q.linear).square i j +ℤ ld *ℤ (square_form q.square).square i j) (ld *ℤ sd) refl (sum_right (square_at q.square i j) ((linear_form q.linear).square i j) ld ((square_form q.square).square i j) sd (linear_square q.linear i j) (square_has q.square 0 0 q.square_kept i j l));
    }

-- ---- forms with the same coefficients have the same value
one_ratio : (x : Frac) (z d w e : ℤ) → IsQuotient x z d → IsQuotient x w e → z *ℤ e ≡ w *ℤ d
one_ratio x z d w e h k =
    cancel_right (z *ℤ e) (w *ℤ d) x.den
    (by_ring (z ∷ e ∷ x.den ∷ []) (var 0 ⊗ var 1 ⊗ var 2) (var 0 ⊗ var 2 ⊗ var 1) refl ∙ (ap (λ y. y *ℤ e) (sym h) ∙ (by_ring (x.num ∷ d ∷ e ∷ []) (var 0 ⊗ var 1 ⊗ var 2) (var 0 ⊗ var 2 ⊗ var 1) refl ∙ (ap (λ y. y *ℤ d) k ∙ by_ring (w ∷ x.den ∷ d ∷ []) (var 0 ⊗ var 1 ⊗ var 2) (var 0 ⊗ var 2 ⊗ var 1) refl))))
    x.positive

pub same_forms : (q : Quad) (f g : Form) → HasForm q f → HasForm q g → SameCoefficients f g
same_forms q f g h k = record {
  constant = one_ratio q.constant f.constant f.den g.constant g.den h.constant k.constant;
  linear = λ i. one_ratio (linear_at q.linear i) (f.linear i) f.den (g.linear i) g.den (h.linear i) (k.linear i);
  square = λ i j l. one_ratio (square_at q.square i j) (f.square i j) f.den (g.square i j) g.den (h.square i j l) (k.square i j l);
}

line_same : (n : ℕ) (a b x : ℕ → ℤ) → ((i : ℕ) → i < n → a i ≡ b i) → line n a x ≡ line n b x
line_same n a b x h = sum_to-below n (λ i. a i *ℤ x i) (λ i. b i *ℤ x i) (λ i l. ap (λ z. z *ℤ x i) (h i l))

quadratic_same : (n : ℕ) (s t : ℕ → ℕ → ℤ) (x : ℕ → ℤ) → ((i j : ℕ) → i ≤ j → s i j ≡ t i j) → quadratic n s x ≡ quadratic n t x
quadratic_same n s t x h =
    sum_to-below n (column s x) (column t x) (λ j l. ap₂ (λ y z. x j *ℤ (y +ℤ z *ℤ x j)) (line_same j (λ i. s i j) (λ i. t i j) x (λ i m. h i j (omega arith))) (h j j (omega arith)))

turned_scale : (z e : ℤ) → z *ℤ e ≡ e *ℤ z
turned_scale z e = by_ring (z ∷ e ∷ []) (var 0 ⊗ var 1) (var 1 ⊗ var 0) refl

top_same : (n : ℕ) (d : ℤ) (x : ℕ → ℤ) (f g : Form) → SameCoefficients f g → g.den *ℤ top_at n d x f ≡ f.den *ℤ top_at n d x g
top_same n d x f g s = sym (scaled_top g.den f) ∙ (between ∙ scaled_top f.den g)
  where
    scaled_top : (k : ℤ) (f : Form) → k *ℤ f.constant *ℤ (d *ℤ d) +ℤ (d *ℤ line n (λ i. k *ℤ f.linear i) x +ℤ quadratic n (λ i j. k *ℤ f.square i j) x) ≡ k *ℤ top_at n d x f
    scaled_top k f =
        ap₂ (λ l q. k *ℤ f.constant *ℤ (d *ℤ d) +ℤ (d *ℤ l +ℤ q)) (line-scale n k f.linear x) (quadratic-scale n k f.square x) ∙ by_ring (k ∷ f.constant ∷ d ∷ line n f.linear x ∷ quadratic n f.square x ∷ [])
        (var 0 ⊗ var 1 ⊗ (var 2 ⊗ var 2) ⊕ (var 2 ⊗ (var 0 ⊗ var 3) ⊕ var 0 ⊗ var 4))
        (var 0 ⊗ (var 1 ⊗ (var 2 ⊗ var 2) ⊕ (var 2 ⊗ var 3 ⊕ var 4)))
        refl

    swap : (z e w c : ℤ) → z *ℤ e ≡ w *ℤ c → e *ℤ z ≡ c *ℤ w
    swap z e w c h = sym (turned_scale z e) ∙ (h ∙ turned_scale w c)

    between : g.den *ℤ f.constant *ℤ (d *ℤ d) +ℤ (d *ℤ line n (λ i. g.den *ℤ f.linear i) x +ℤ quadratic n (λ i j. g.den *ℤ f.square i j) x) ≡ f.den *ℤ g.constant *ℤ (d *ℤ d) +ℤ (d *ℤ line n (λ i. f.den *ℤ g.linear i) x +ℤ quadratic n (λ i j. f.den *ℤ g.square i j) x)
    between = ap₂ (λ c r. c *ℤ (d *ℤ d) +ℤ r) (swap f.constant g.den g.constant f.den s.constant) (ap₂ (λ l q. d *ℤ l +ℤ q) (line_same n (λ i. g.den *ℤ f.linear i) (λ i. f.den *ℤ g.linear i) x (λ i l. swap (f.linear i) g.den (g.linear i) f.den (s.linear i))) (quadratic_same n (λ i j. g.den *ℤ f.square i j) (λ i j. f.den *ℤ g.square i j) x (λ i j l. swap (f.square i j) g.den (g.square i j) f.den (s.square i j l))))

pub same_values : (p : Point) (f g : Form) → SameCoefficients f g → SameRatio (form_value p f) (form_value p g)
same_values p f g s =
    by_ring (top_at (length p.nums) p.den (cell p.nums) f ∷ g.den ∷ p.den ∷ []) (var 0 ⊗ (var 1 ⊗ (var 2 ⊗ var 2))) (var 1 ⊗ var 0 ⊗ (var 2 ⊗ var 2)) refl ∙ (ap (λ z. z *ℤ (p.den *ℤ p.den)) (top_same (length p.nums) p.den (cell p.nums) f g s) ∙ by_ring (top_at (length p.nums) p.den (cell p.nums) g ∷ f.den ∷ p.den ∷ []) (var 1 ⊗ var 0 ⊗ (var 2 ⊗ var 2)) (var 0 ⊗ (var 1 ⊗ (var 2 ⊗ var 2))) refl)

-- ---- equality of quotients goes on
pub ratio_trans : (x y z : Ratio) → pos 0 <ℤ y.bottom → SameRatio x y → SameRatio y z → SameRatio x z
ratio_trans x y z p h k =
    cancel_right (x.top *ℤ z.bottom) (z.top *ℤ x.bottom) y.bottom
    (by_ring (x.top ∷ z.bottom ∷ y.bottom ∷ []) (var 0 ⊗ var 1 ⊗ var 2) (var 0 ⊗ var 2 ⊗ var 1) refl ∙ (ap (λ w. w *ℤ z.bottom) h ∙ (by_ring (y.top ∷ x.bottom ∷ z.bottom ∷ []) (var 0 ⊗ var 1 ⊗ var 2) (var 0 ⊗ var 2 ⊗ var 1) refl ∙ (ap (λ w. w *ℤ x.bottom) k ∙ by_ring (z.top ∷ y.bottom ∷ x.bottom ∷ []) (var 0 ⊗ var 1 ⊗ var 2) (var 0 ⊗ var 2 ⊗ var 1) refl))))
    p

pub form_bottom : (p : Point) (f : Form) → pos 0 <ℤ f.den → pos 0 <ℤ (form_value p f).bottom
form_bottom p f h = mul_pos f.den (p.den *ℤ p.den) h (mul_pos p.den p.den p.positive p.positive)

pub quad_is_form : (p : Point) (q : Quad) (f : Form) → HasForm q f → SameRatio (quad_value p q) (form_value p f)
quad_is_form p q f h =
    ratio_trans (quad_value p q) (form_value p (quad_form q)) (form_value p f) (form_bottom p (quad_form q) (has_quad_form q).den) (entry_quad p q).same (same_values p (quad_form q) f (same_forms q (quad_form q) f (has_quad_form q) h))
