-- The terms of a derivative.
use Rattle.std.proofs.Common.{◌≡◌, ◌≢◌, ◌⊎◌, inl, inr, ℕ, zero, suc, ◌+◌, ◌<◌, ◌≤◌, ℤ, pos, negsuc, ◌*ℤ◌, ◌<ℤ◌, Bool, true, false, ◌&&◌, not, cond, List, [], ◌∷◌, ◌++◌, length, get_or, take, arith, refl, sym, ap, ap₂, subst, subst₂, ◌∙◌, append-nil, append_assoc}
use Rattle.std.specs.Prelude.{nat_lt, nat_eq}
use Rattle.std.proofs.lemmas.Int.{ints}
use Rattle.std.proofs.lemmas.List.{take_more, take_all}
use lib.IntN.{zero-*ℤ}
use borrow.Author.Tests.{ltb-false, ltb-true}
use Rattle.emp_algebra.proofs.Order.{cancel_right}
use Rattle.emp_algebra.proofs.Ring.{var, lit, ◌⊕◌, ◌⊗◌, by_ring}
use Rattle.emp_num.specs.FracSpec.{IsQuotient, MultipliesNarrow, MultipliesWide}
use Rattle.emp_num.specs.Whole.{whole}
use Rattle.emp_num.specs.declared.frac.Frac.{Frac}
use Rattle.emp_num.proofs.Same.{same_value}
use Rattle.emp_ast.specs.declared.tree.VarId.{VarId}
use Rattle.emp_form.specs.Form.{Form}
use Rattle.emp_form.proofs.Formulas.{is_zero}
use Rattle.emp_form.proofs.Running.{multiplies_narrow}
use Rattle.emp_poly.specs.Terms.{is_not_zero, is_linear_from, is_linear, is_square_from}
use Rattle.emp_poly.specs.Quads.{linear_at, square_at, HasForm}
use Rattle.emp_poly.specs.Gradient.{partial_at, partial_form, LinHasForm, DoubleIsWide, IsGradient, derived_one, derived}
use Rattle.emp_poly.specs.declared.quad.Quad.{Quad}
use Rattle.emp_poly.specs.declared.quad.Lin.{Lin}
use Rattle.emp_poly.proofs.QuadForms.{same_is, apart, number_cases, SquareFacts, square_facts, pair_apart}

-- ---- one more term
derived-append : (v : ℕ) (d : Frac) (ts : List (VarId × VarId × Frac)) (t : VarId × VarId × Frac) → derived v d (ts ++ t ∷ []) ≡ derived v d ts ++ derived_one v d t
derived-append v d [] t = append-nil (derived_one v d t)
derived-append v d (u ∷ ts) t = ap (λ r. derived_one v d u ++ r) (derived-append v d ts t) ∙ sym (append_assoc (derived_one v d u) (derived v d ts) (derived_one v d t))

pub derived_more : (v : ℕ) (d : Frac) (ts : List (VarId × VarId × Frac)) (n : ℕ) (t e : VarId × VarId × Frac) (old new : List (VarId × Frac)) → n < length ts → get_or ts n e ≡ t → old ≡ derived v d (take n ts) → new ≡ old ++ derived_one v d t → new ≡ derived v d (take (n + 1) ts)
derived_more v d ts n t e old new h s o p =
    p ∙ (ap (λ r. r ++ derived_one v d t) o ∙ (sym (derived-append v d (take n ts) t) ∙ ap (λ us. derived v d us) (sym (take_more ts n e h ∙ ap (λ u. take n ts ++ u ∷ []) s))))

-- ---- the three kinds of term
data Kind (v a b : ℕ) : Type 0 where
  own : a ≡ v → b ≡ v → Kind v a b
  first : a ≡ v → b ≢ v → Kind v a b
  second : a ≢ v → b ≡ v → Kind v a b
  other : a ≢ v → b ≢ v → Kind v a b

kind : (v a b : ℕ) → Kind v a b
kind v a b = go (number_cases a v) (number_cases b v)
  where
    go : (a ≡ v) ⊎ (a ≢ v) → (b ≡ v) ⊎ (b ≢ v) → Kind v a b
    go (inl e) (inl f) = own e f
    go (inl e) (inr f) = first e f
    go (inr e) (inl f) = second e f
    go (inr e) (inr f) = other e f

equal : (i j : ℕ) → i ≡ j → nat_eq i j ≡ true
equal i j e = subst (λ j. nat_eq i j ≡ true) e (same_is i)

module _ (v : ℕ) (d : Frac) where
  one_first : (t : VarId × VarId × Frac) → t.0.at ≡ v → derived_one v d t ≡ (t.1, cond (nat_eq t.1.at v) d t.2) ∷ []
  one_first t e = ap (λ b. cond b ((t.1, cond (nat_eq t.1.at v) d t.2) ∷ []) (cond (nat_eq t.1.at v) ((t.0, t.2) ∷ []) [])) (equal t.0.at v e)

  one_own : (t : VarId × VarId × Frac) → t.0.at ≡ v → t.1.at ≡ v → derived_one v d t ≡ (t.1, d) ∷ []
  one_own t e f = one_first t e ∙ ap (λ b. (t.1, cond b d t.2) ∷ []) (equal t.1.at v f)

  one_only : (t : VarId × VarId × Frac) → t.0.at ≡ v → t.1.at ≢ v → derived_one v d t ≡ (t.1, t.2) ∷ []
  one_only t e f = one_first t e ∙ ap (λ b. (t.1, cond b d t.2) ∷ []) (apart t.1.at v f)

  one_second : (t : VarId × VarId × Frac) → t.0.at ≢ v → t.1.at ≡ v → derived_one v d t ≡ (t.0, t.2) ∷ []
  one_second t e f = ap₂ (λ b c. cond b ((t.1, cond (nat_eq t.1.at v) d t.2) ∷ []) (cond c ((t.0, t.2) ∷ []) [])) (apart t.0.at v e) (equal t.1.at v f)

  one_other : (t : VarId × VarId × Frac) → t.0.at ≢ v → t.1.at ≢ v → derived_one v d t ≡ []
  one_other t e f = ap₂ (λ b c. cond b ((t.1, cond (nat_eq t.1.at v) d t.2) ∷ []) (cond c ((t.0, t.2) ∷ []) [])) (apart t.0.at v e) (apart t.1.at v f)

  -- ---- order
  -- the partners of the variable in pairs from i, j on have at least the number `least`
  abbrev Low : ℕ → ℕ → ℕ → Type 0
  Low least i j = (a b : ℕ) → a ≤ b → (i < a) ⊎ ((i ≡ a) × (j ≤ b)) → (a ≡ v → least ≤ b) × (b ≡ v → least ≤ a)

  low_later : (least i j a b : ℕ) → a ≤ b → (i < a) ⊎ ((i ≡ a) × (j ≤ b)) → Low least i j → Low least a (b + 1)
  low_later least i j a b l f low x y m g = low x y m (go f g)
    where
      go : (i < a) ⊎ ((i ≡ a) × (j ≤ b)) → (a < x) ⊎ ((a ≡ x) × (b + 1 ≤ y)) → (i < x) ⊎ ((i ≡ x) × (j ≤ y))
      go (inl p) (inl q) = inl (omega arith)
      go (inl p) (inr q) = inl (omega (arith, q.0))
      go (inr p) (inl q) = inl (omega (arith, p.0))
      go (inr p) (inr q) = inr (p.0 ∙ q.0, omega (arith, p.1, q.1))

  -- after the pair of the variable and b
  low_first : (a b : ℕ) → a ≡ v → a ≤ b → Low (b + 1) a (b + 1)
  low_first a b e l x y m g = (ahead g, behind g)
    where
      ahead : (a < x) ⊎ ((a ≡ x) × (b + 1 ≤ y)) → x ≡ v → b + 1 ≤ y
      ahead (inl p) f = absurd (omega (arith, e, f))
      ahead (inr p) f = p.1

      behind : (a < x) ⊎ ((a ≡ x) × (b + 1 ≤ y)) → y ≡ v → b + 1 ≤ x
      behind (inl p) f = absurd (omega (arith, e, f))
      behind (inr p) f = absurd (omega (arith, e, f, p.1))

  -- after the pair of a and the variable
  low_second : (a b : ℕ) → b ≡ v → a < v → Low (a + 1) a (b + 1)
  low_second a b e l x y m g = (ahead g, behind g)
    where
      ahead : (a < x) ⊎ ((a ≡ x) × (b + 1 ≤ y)) → x ≡ v → a + 1 ≤ y
      ahead g f = omega (arith, f)

      behind : (a < x) ⊎ ((a ≡ x) × (b + 1 ≤ y)) → y ≡ v → a + 1 ≤ x
      behind (inl p) f = omega arith
      behind (inr p) f = absurd (omega (arith, e, f, p.1))

  three_true : (a b c : Bool) → a ≡ true → b ≡ true → c ≡ true → (a && (b && c)) ≡ true
  three_true a b c e f g = ap (λ t. t && (b && c)) e ∙ (ap (λ t. t && c) f ∙ g)

  not_below : (i least : ℕ) → least ≤ i → not (nat_lt i least) ≡ true
  not_below i least h = ap (λ t. not t) (at i least h)
    where
      at : (i least : ℕ) → least ≤ i → nat_lt i least ≡ false
      at i least h = grind arith

  one_more : (least : ℕ) (x : VarId) (c : Frac) (rest : List (VarId × Frac)) → least ≤ x.at → is_not_zero c.num ≡ true → is_linear_from (x.at + 1) rest ≡ true → is_linear_from least ((x, c) ∷ rest) ≡ true
  one_more least x c rest h s r = three_true (not (nat_lt x.at least)) (is_not_zero c.num) (is_linear_from (x.at + 1) rest) (not_below x.at least h) s r

  -- the square of the variable has no coefficient, or d is not 0
  abbrev Doubles : List (VarId × VarId × Frac) → Type 0
  Doubles ts = (square_at ts v v ≡ whole 0) ⊎ (is_not_zero d.num ≡ true)

  never : false ≡ true → ⊥
  never e = cc

  own_some : (t : VarId × VarId × Frac) (ts : List (VarId × VarId × Frac)) → t.0.at ≡ v → t.1.at ≡ v → is_not_zero t.2.num ≡ true → Doubles (t ∷ ts) → is_not_zero d.num ≡ true
  own_some t ts e f s (inr h) = h
  own_some t ts e f s (inl h) =
      absurd (never (sym (ap (λ (x : Frac). is_not_zero x.num) (sym (ap (λ b. cond b t.2 (square_at ts v v)) (ap₂ (λ x y. x && y) (equal t.0.at v e) (equal t.1.at v f))) ∙ h)) ∙ s))

  later_doubles : (t : VarId × VarId × Frac) (ts : List (VarId × VarId × Frac)) → (t.0.at ≡ v → t.1.at ≡ v → ⊥) → Doubles (t ∷ ts) → Doubles ts
  later_doubles t ts ne (inl h) = inl (sym (ap (λ b. cond b t.2 (square_at ts v v)) (pair_apart t.0.at t.1.at v v ne)) ∙ h)
  later_doubles t ts ne (inr h) = inr h

  below_variable : (a b : ℕ) → a ≤ b → a ≢ v → b ≡ v → a < v
  below_variable a b l ne e = omega (arith, ne, e)

  pub derived_kept : (ts : List (VarId × VarId × Frac)) (i j least : ℕ) → is_square_from i j ts ≡ true → Low least i j → Doubles ts → is_linear_from least (derived v d ts) ≡ true
  derived_kept [] i j least h low k = refl
  derived_kept (t ∷ ts) i j least h low k = go (kind v t.0.at t.1.at) (λ least low k. derived_kept ts t.0.at (t.1.at + 1) least (square_facts t ts i j h).rest low k)
    where
      f : SquareFacts t ts i j
      f = square_facts t ts i j h

      here : (x : List (VarId × Frac)) → derived_one v d t ≡ x → is_linear_from least (x ++ derived v d ts) ≡ true → is_linear_from least (derived v d (t ∷ ts)) ≡ true
      here x e r = subst (λ x. is_linear_from least (x ++ derived v d ts) ≡ true) (sym e) r

      go : Kind v t.0.at t.1.at → ((least : ℕ) → Low least t.0.at (t.1.at + 1) → Doubles ts → is_linear_from least (derived v d ts) ≡ true) → is_linear_from least (derived v d (t ∷ ts)) ≡ true
      go (own e g) rest =
          let s = own_some t ts e g f.some k in
          here ((t.1, d) ∷ []) (one_own t e g) (one_more least t.1 d (derived v d ts) ((low t.0.at t.1.at f.ordered f.from).0 e) s (rest (t.1.at + 1) (low_first t.0.at t.1.at e f.ordered) (inr s)))
      go (first e g) rest =
          here ((t.1, t.2) ∷ []) (one_only t e g) (one_more least t.1 t.2 (derived v d ts) ((low t.0.at t.1.at f.ordered f.from).0 e) f.some (rest (t.1.at + 1) (low_first t.0.at t.1.at e f.ordered) (later_doubles t ts (λ x y. g y) k)))
      go (second e g) rest =
          here ((t.0, t.2) ∷ []) (one_second t e g) (one_more least t.0 t.2 (derived v d ts) ((low t.0.at t.1.at f.ordered f.from).1 g) f.some (rest (t.0.at + 1) (low_second t.0.at t.1.at g (below_variable t.0.at t.1.at f.ordered e g)) (later_doubles t ts (λ x y. e x) k)))
      go (other e g) rest = here [] (one_other t e g) (rest least (low_later least i j t.0.at t.1.at f.ordered f.from low) (later_doubles t ts (λ x y. e x) k))

  -- ---- coefficients
  abbrev at_list : ℕ → List (VarId × Frac) → List (VarId × Frac) → Frac
  at_list i x rest = linear_at (x ++ rest) i

  skip : (i : ℕ) (x : VarId) (c : Frac) (rest : List (VarId × Frac)) → x.at ≢ i → linear_at ((x, c) ∷ rest) i ≡ linear_at rest i
  skip i x c rest ne = ap (λ b. cond b c (linear_at rest i)) (apart x.at i ne)

  take_it : (i : ℕ) (x : VarId) (c : Frac) (rest : List (VarId × Frac)) → x.at ≡ i → linear_at ((x, c) ∷ rest) i ≡ c
  take_it i x c rest e = ap (λ b. cond b c (linear_at rest i)) (equal x.at i e)

  square_skip : (t : VarId × VarId × Frac) (ts : List (VarId × VarId × Frac)) (i j : ℕ) → (t.0.at ≡ i → t.1.at ≡ j → ⊥) → square_at (t ∷ ts) i j ≡ square_at ts i j
  square_skip t ts i j ne = ap (λ b. cond b t.2 (square_at ts i j)) (pair_apart t.0.at t.1.at i j ne)

  square_take : (t : VarId × VarId × Frac) (ts : List (VarId × VarId × Frac)) (i j : ℕ) → t.0.at ≡ i → t.1.at ≡ j → square_at (t ∷ ts) i j ≡ t.2
  square_take t ts i j e f = ap (λ b. cond b t.2 (square_at ts i j)) (ap₂ (λ x y. x && y) (equal t.0.at i e) (equal t.1.at j f))

  -- of the variable itself: none, or d
  pub derived_own : (ts : List (VarId × VarId × Frac)) → ((square_at ts v v ≡ whole 0) × (linear_at (derived v d ts) v ≡ whole 0)) ⊎ (linear_at (derived v d ts) v ≡ d)
  derived_own [] = inl (refl, refl)
  derived_own (t ∷ ts) = go (kind v t.0.at t.1.at) (derived_own ts)
    where
      pass : (t.0.at ≡ v → t.1.at ≡ v → ⊥) → linear_at (derived v d (t ∷ ts)) v ≡ linear_at (derived v d ts) v → ((square_at ts v v ≡ whole 0) × (linear_at (derived v d ts) v ≡ whole 0)) ⊎ (linear_at (derived v d ts) v ≡ d) → ((square_at (t ∷ ts) v v ≡ whole 0) × (linear_at (derived v d (t ∷ ts)) v ≡ whole 0)) ⊎ (linear_at (derived v d (t ∷ ts)) v ≡ d)
      pass ne e (inl h) = inl (square_skip t ts v v ne ∙ h.0, e ∙ h.1)
      pass ne e (inr h) = inr (e ∙ h)

      go : Kind v t.0.at t.1.at → ((square_at ts v v ≡ whole 0) × (linear_at (derived v d ts) v ≡ whole 0)) ⊎ (linear_at (derived v d ts) v ≡ d) → ((square_at (t ∷ ts) v v ≡ whole 0) × (linear_at (derived v d (t ∷ ts)) v ≡ whole 0)) ⊎ (linear_at (derived v d (t ∷ ts)) v ≡ d)
      go (own e g) rest = inr (ap (λ x. at_list v x (derived v d ts)) (one_own t e g) ∙ take_it v t.1 d (derived v d ts) g)
      go (first e g) rest = pass (λ x y. g y) (ap (λ x. at_list v x (derived v d ts)) (one_only t e g) ∙ skip v t.1 t.2 (derived v d ts) g) rest
      go (second e g) rest = pass (λ x y. e x) (ap (λ x. at_list v x (derived v d ts)) (one_second t e g) ∙ skip v t.0 t.2 (derived v d ts) e) rest
      go (other e g) rest = pass (λ x y. e x) (ap (λ x. at_list v x (derived v d ts)) (one_other t e g)) rest

  -- of a variable before it
  pub derived_before : (ts : List (VarId × VarId × Frac)) (a b i : ℕ) → is_square_from a b ts ≡ true → i < v → linear_at (derived v d ts) i ≡ square_at ts i v
  derived_before [] a b i h l = refl
  derived_before (t ∷ ts) a b i h l = go (kind v t.0.at t.1.at) (derived_before ts t.0.at (t.1.at + 1) i (square_facts t ts a b h).rest l)
    where
      f : SquareFacts t ts a b
      f = square_facts t ts a b h

      beyond : t.0.at ≡ v → t.1.at ≢ i
      beyond e g = apart_by t.0.at t.1.at e f.ordered g
        where
          apart_by : (x y : ℕ) → x ≡ v → x ≤ y → y ≡ i → ⊥
          apart_by x y e m g = omega (arith, e, g)

      not_here : t.0.at ≡ v → t.0.at ≡ i → t.1.at ≡ v → ⊥
      not_here e g k = lt_apart t.0.at e g
        where
          lt_apart : (x : ℕ) → x ≡ v → x ≡ i → ⊥
          lt_apart x e g = omega (arith, e, g)

      go : Kind v t.0.at t.1.at → linear_at (derived v d ts) i ≡ square_at ts i v → linear_at (derived v d (t ∷ ts)) i ≡ square_at (t ∷ ts) i v
      go (own e g) rest = ap (λ x. at_list i x (derived v d ts)) (one_own t e g) ∙ (skip i t.1 d (derived v d ts) (beyond e) ∙ (rest ∙ sym (square_skip t ts i v (not_here e))))
      go (first e g) rest = ap (λ x. at_list i x (derived v d ts)) (one_only t e g) ∙ (skip i t.1 t.2 (derived v d ts) (beyond e) ∙ (rest ∙ sym (square_skip t ts i v (not_here e))))
      go (second e g) rest = ap (λ x. at_list i x (derived v d ts)) (one_second t e g) ∙ at (number_cases t.0.at i)
        where
          at : (t.0.at ≡ i) ⊎ (t.0.at ≢ i) → linear_at ((t.0, t.2) ∷ derived v d ts) i ≡ square_at (t ∷ ts) i v
          at (inl k) = take_it i t.0 t.2 (derived v d ts) k ∙ sym (square_take t ts i v k g)
          at (inr k) = skip i t.0 t.2 (derived v d ts) k ∙ (rest ∙ sym (square_skip t ts i v (λ x y. k x)))
      go (other e g) rest = ap (λ x. at_list i x (derived v d ts)) (one_other t e g) ∙ (rest ∙ sym (square_skip t ts i v (λ x y. g y)))

  -- of a variable after it
  pub derived_after : (ts : List (VarId × VarId × Frac)) (a b i : ℕ) → is_square_from a b ts ≡ true → v < i → linear_at (derived v d ts) i ≡ square_at ts v i
  derived_after [] a b i h l = refl
  derived_after (t ∷ ts) a b i h l = go (kind v t.0.at t.1.at) (derived_after ts t.0.at (t.1.at + 1) i (square_facts t ts a b h).rest l)
    where
      f : SquareFacts t ts a b
      f = square_facts t ts a b h

      own_apart : t.1.at ≡ v → t.1.at ≢ i
      own_apart e g = lt_apart t.1.at e g
        where
          lt_apart : (x : ℕ) → x ≡ v → x ≡ i → ⊥
          lt_apart x e g = omega (arith, e, g)

      before : t.1.at ≡ v → t.0.at ≢ i
      before e g = apart_by t.0.at t.1.at e f.ordered g
        where
          apart_by : (x y : ℕ) → y ≡ v → x ≤ y → x ≡ i → ⊥
          apart_by x y e m g = omega (arith, e, g)

      go : Kind v t.0.at t.1.at → linear_at (derived v d ts) i ≡ square_at ts v i → linear_at (derived v d (t ∷ ts)) i ≡ square_at (t ∷ ts) v i
      go (own e g) rest = ap (λ x. at_list i x (derived v d ts)) (one_own t e g) ∙ (skip i t.1 d (derived v d ts) (own_apart g) ∙ (rest ∙ sym (square_skip t ts v i (λ x y. own_apart g y))))
      go (first e g) rest = ap (λ x. at_list i x (derived v d ts)) (one_only t e g) ∙ at (number_cases t.1.at i)
        where
          at : (t.1.at ≡ i) ⊎ (t.1.at ≢ i) → linear_at ((t.1, t.2) ∷ derived v d ts) i ≡ square_at (t ∷ ts) v i
          at (inl k) = take_it i t.1 t.2 (derived v d ts) k ∙ sym (square_take t ts v i e k)
          at (inr k) = skip i t.1 t.2 (derived v d ts) k ∙ (rest ∙ sym (square_skip t ts v i (λ x y. k y)))
      go (second e g) rest = ap (λ x. at_list i x (derived v d ts)) (one_second t e g) ∙ (skip i t.0 t.2 (derived v d ts) (before g) ∙ (rest ∙ sym (square_skip t ts v i (λ x y. e x))))
      go (other e g) rest = ap (λ x. at_list i x (derived v d ts)) (one_other t e g) ∙ (rest ∙ sym (square_skip t ts v i (λ x y. e x)))

-- ---- twice a coefficient
abbrev pub IsDouble : Frac → Frac → Type 0
IsDouble d c = IsQuotient d (pos 2 *ℤ c.num) (pos 1 *ℤ c.den)

zero_or : (c : Frac) → (c ≡ whole 0) ⊎ (c.num ≢ pos 0)
zero_or c = go c.num refl
  where
    go : (z : ℤ) → c.num ≡ z → (c ≡ whole 0) ⊎ (c.num ≢ pos 0)
    go (pos zero) e = inl (same_value c (whole 0) (ap (λ z. z *ℤ pos 1) e ∙ sym (zero-*ℤ c.den)))
    go (pos (suc n)) e = inr (λ h. some_zero (suc n) (omega arith) (sym e ∙ h))
      where
        some_zero : (n : ℕ) → 0 < n → pos n ≡ pos 0 → ⊥
        some_zero n l h = omega (arith, ints)
    go (negsuc n) e = inr (λ h. below (sym e ∙ h))
      where
        below : negsuc n ≡ pos 0 → ⊥
        below h = omega (arith, ints)

not_zero : (z : ℤ) → z ≢ pos 0 → is_not_zero z ≡ true
not_zero (pos zero) h = absurd (h refl)
not_zero (pos (suc n)) h = refl
not_zero (negsuc n) h = refl

double_some : (d c : Frac) → IsDouble d c → c.num ≢ pos 0 → d.num ≢ pos 0
double_some d c h some e =
    some (cancel_right c.num (pos 0) (pos 2 *ℤ d.den) (by_ring (c.num ∷ d.den ∷ []) (var 0 ⊗ (lit (pos 2) ⊗ var 1)) (lit (pos 2) ⊗ var 0 ⊗ var 1) refl ∙ (sym h ∙ (ap (λ z. z *ℤ (pos 1 *ℤ c.den)) e ∙ (zero-*ℤ (pos 1 *ℤ c.den) ∙ sym (zero-*ℤ (pos 2 *ℤ d.den)))))) (twice_above d.den d.positive))
  where
    twice_above : (z : ℤ) → pos 0 <ℤ z → pos 0 <ℤ (pos 2 *ℤ z)
    twice_above z h = subst (λ x. pos 0 <ℤ x) (by_ring (z ∷ []) (var 0 ⊕ var 0) (lit (pos 2) ⊗ var 0) refl) (omega (arith, ints))

pub doubles : (q : Quad) (v : ℕ) (d : Frac) → IsDouble d (square_at q.square v v) → is_linear (derived v d q.square) ≡ true
doubles q v d h = derived_kept v d q.square 0 0 0 q.square_kept (λ a b l f. ((λ e. omega arith), (λ e. omega arith))) (go (zero_or (square_at q.square v v)))
  where
    go : (square_at q.square v v ≡ whole 0) ⊎ ((square_at q.square v v).num ≢ pos 0) → Doubles v d q.square
    go (inl e) = inl e
    go (inr some) = inr (not_zero d.num (double_some d (square_at q.square v v) h some))

-- ---- the coefficients of the derivative
twice_quotient : (d c : Frac) (z e : ℤ) → IsDouble d c → IsQuotient c z e → IsQuotient d (pos 2 *ℤ z) e
twice_quotient d c z e h k =
    cancel_right (d.num *ℤ e) (pos 2 *ℤ z *ℤ d.den) c.den
    (by_ring (d.num ∷ e ∷ c.den ∷ []) (var 0 ⊗ var 1 ⊗ var 2) (var 0 ⊗ (lit (pos 1) ⊗ var 2) ⊗ var 1) refl ∙ (ap (λ y. y *ℤ e) h ∙ (by_ring (c.num ∷ d.den ∷ e ∷ []) (lit (pos 2) ⊗ var 0 ⊗ var 1 ⊗ var 2) (lit (pos 2) ⊗ (var 0 ⊗ var 2) ⊗ var 1) refl ∙ (ap (λ y. pos 2 *ℤ y *ℤ d.den) k ∙ by_ring (z ∷ c.den ∷ d.den ∷ []) (lit (pos 2) ⊗ (var 0 ⊗ var 1) ⊗ var 2) (lit (pos 2) ⊗ var 0 ⊗ var 2 ⊗ var 1) refl))))
    c.positive

zero_twice : (z e : ℤ) → IsQuotient (whole 0) z e → IsQuotient (whole 0) (pos 2 *ℤ z) e
zero_twice z e h = is_zero (pos 2 *ℤ z) e (ap (λ y. pos 2 *ℤ y) (by_ring (z ∷ []) (var 0) (var 0 ⊗ lit (pos 1)) refl ∙ (sym h ∙ zero-*ℤ e)) ∙ refl)

pub derivative : (q : Quad) (v : ℕ) (d : Frac) (f : Form) (i : ℕ) → IsDouble d (square_at q.square v v) → HasForm q f → IsQuotient (linear_at (derived v d q.square) i) (partial_at f v i) f.den
derivative q v d f i h k = go (number_cases i v)
  where
    own_is : ((square_at q.square v v ≡ whole 0) × (linear_at (derived v d q.square) v ≡ whole 0)) ⊎ (linear_at (derived v d q.square) v ≡ d) → IsQuotient (linear_at (derived v d q.square) v) (pos 2 *ℤ f.square v v) f.den
    own_is (inl c) = subst (λ (x : Frac). IsQuotient x (pos 2 *ℤ f.square v v) f.den) (sym c.1) (zero_twice (f.square v v) f.den (subst (λ (x : Frac). IsQuotient x (f.square v v) f.den) c.0 (k.square v v (omega arith))))
    own_is (inr e) = subst (λ (x : Frac). IsQuotient x (pos 2 *ℤ f.square v v) f.den) (sym e) (twice_quotient d (square_at q.square v v) (f.square v v) f.den h (k.square v v (omega arith)))

    other_is : (t : Bool) → nat_lt i v ≡ t → i ≢ v → IsQuotient (linear_at (derived v d q.square) i) (cond t (f.square i v) (f.square v i)) f.den
    other_is true e ne =
        let l : i < v = ltb-true i v e in
        subst (λ (x : Frac). IsQuotient x (f.square i v) f.den) (sym (derived_before v d q.square 0 0 i q.square_kept l)) (k.square i v (omega arith))
    other_is false e ne =
        let m : v ≤ i = ltb-false i v e in
        let l : v < i = omega (arith, ne) in
        subst (λ (x : Frac). IsQuotient x (f.square v i) f.den) (sym (derived_after v d q.square 0 0 i q.square_kept l)) (k.square v i m)

    go : (i ≡ v) ⊎ (i ≢ v) → IsQuotient (linear_at (derived v d q.square) i) (partial_at f v i) f.den
    go (inl e) = subst (λ i. IsQuotient (linear_at (derived v d q.square) i) (partial_at f v i) f.den) (sym e) (subst (λ t. IsQuotient (linear_at (derived v d q.square) v) (cond t (pos 2 *ℤ f.square v v) (cond (nat_lt v v) (f.square v v) (f.square v v))) f.den) (sym (same_is v)) (own_is (derived_own v d q.square)))
    go (inr ne) = subst (λ t. IsQuotient (linear_at (derived v d q.square) i) (cond t (pos 2 *ℤ f.square v v) (cond (nat_lt i v) (f.square i v) (f.square v i))) f.den) (sym (apart i v ne)) (other_is (nat_lt i v) refl ne)

-- ---- the answer
pub is_double : (d t x : Frac) (ss : List (VarId × VarId × Frac)) (q : Quad) (v : ℕ) → t ≡ whole 2 → x ≡ square_at ss v v → ss ≡ q.square → IsQuotient d (t.num *ℤ x.num) (t.den *ℤ x.den) → IsDouble d (square_at q.square v v)
is_double d t x ss q v two mine same h = subst₂ (λ (t x : Frac). IsQuotient d (t.num *ℤ x.num) (t.den *ℤ x.den)) two (mine ∙ ap (λ ss. square_at ss v v) same) h

pub double_narrow : (t x : Frac) (ss : List (VarId × VarId × Frac)) (q : Quad) (v : ℕ) → t ≡ whole 2 → x ≡ square_at ss v v → ss ≡ q.square → MultipliesNarrow t x → DoubleIsWide q v → ⊥
double_narrow t x ss q v two mine same n w = multiplies_narrow t x n (subst₂ MultipliesWide (sym two) (sym (mine ∙ ap (λ ss. square_at ss v v) same)) w)

pub double_wide : (t x : Frac) (ss : List (VarId × VarId × Frac)) (q : Quad) (v : ℕ) → t ≡ whole 2 → x ≡ square_at ss v v → ss ≡ q.square → MultipliesWide t x → DoubleIsWide q v
double_wide t x ss q v two mine same w = subst₂ MultipliesWide two (mine ∙ ap (λ ss. square_at ss v v) same) w

pub gradient_kept : (q : Quad) (v : ℕ) (d : Frac) (n : ℕ) (ts : List (VarId × Frac)) → IsDouble d (square_at q.square v v) → length q.square ≤ n → ts ≡ derived v d (take n q.square) → is_linear ts ≡ true
gradient_kept q v d n ts h l e = subst (λ ts. is_linear ts ≡ true) (sym (e ∙ ap (λ us. derived v d us) (take_all n q.square l))) (doubles q v d h)

pub gradient_is : (q : Quad) (v : ℕ) (d : Frac) (n : ℕ) (ts ls : List (VarId × Frac)) (l : Lin) → IsDouble d (square_at q.square v v) → (DoubleIsWide q v → ⊥) → length q.square ≤ n → ts ≡ derived v d (take n q.square) → ls ≡ q.linear → l.constant ≡ linear_at ls v → l.linear ≡ ts → IsGradient q v l
gradient_is q v d n ts ls l h narrow m e el ec et = record { partial = partial; narrow = narrow }
  where
    terms : l.linear ≡ derived v d q.square
    terms = et ∙ (e ∙ ap (λ us. derived v d us) (take_all n q.square m))

    partial : (f : Form) → HasForm q f → LinHasForm l (partial_form v f)
    partial f k = record {
      den = k.den;
      constant = subst (λ (x : Frac). IsQuotient x (f.linear v) f.den) (sym (ec ∙ ap (λ ls. linear_at ls v) el)) (k.linear v);
      linear = λ i. subst (λ ts. IsQuotient (linear_at ts i) (partial_at f v i) f.den) (sym terms) (derivative q v d f i h k);
    }
