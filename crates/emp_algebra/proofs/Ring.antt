-- Polynomial identities over the whole numbers, proved by computing: `by_ring` takes the values of the variables and two
-- terms, and equates their values where the two normal forms compute to one. Its last argument is `refl`.
use Rattle.std.proofs.Common.{◌≡◌, ℕ, zero, suc, Bool, true, false, cond, ltb, eqb, eqb-true, List, [], ◌∷◌, get_or, ℤ, pos, negsuc, ◌+ℤ◌, ◌-ℤ◌, ◌*ℤ◌, neg_ℤ, arith, refl, sym, ap, ap₂, ◌∙◌}
use lib.IntN.{+ℤ_assoc, +ℤ_idr, *ℤ-zero, zero-*ℤ}
use Rattle.std.proofs.lemmas.Int.{ints}
use Rattle.emp_algebra.proofs.Laws.{*ℤ-+ℤ, +ℤ-*ℤ, *ℤ_assoc, *ℤ_left_comm, one-*ℤ}

infixl 6 ◌⊕◌ ◌⊖◌
infixl 7 ◌⊗◌
pub data Term : Type 0 where
  var : ℕ → Term
  lit : ℤ → Term
  ◌⊕◌ : Term → Term → Term
  ◌⊖◌ : Term → Term → Term
  ◌⊗◌ : Term → Term → Term
  neg : Term → Term

abbrev pub value : List ℤ → Term → ℤ
value xs (var i) = get_or xs i (pos 0)
value xs (lit z) = z
value xs (s ⊕ t) = value xs s +ℤ value xs t
value xs (s ⊖ t) = value xs s -ℤ value xs t
value xs (s ⊗ t) = value xs s *ℤ value xs t
value xs (neg s) = neg_ℤ (value xs s)

-- ---- normal forms: a sum of monomials in strictly rising order, each with a coefficient that is not 0
pub data Poly : Type 0 where
  none : Poly
  more : ℤ → List ℕ → Poly → Poly

pub data Side : Type 0 where
  before : Side
  same : Side
  after : Side

abbrev pub mono_value : List ℤ → List ℕ → ℤ
mono_value xs [] = pos 1
mono_value xs (i ∷ m) = get_or xs i (pos 0) *ℤ mono_value xs m

abbrev pub poly_value : List ℤ → Poly → ℤ
poly_value xs none = pos 0
poly_value xs (more c m p) = c *ℤ mono_value xs m +ℤ poly_value xs p

abbrev pub by_tests : Bool → Bool → Side → Side
by_tests true b s = s
by_tests false true s = before
by_tests false false s = after

abbrev pub side : List ℕ → List ℕ → Side
side [] [] = same
side [] (j ∷ n) = before
side (i ∷ m) [] = after
side (i ∷ m) (j ∷ n) = by_tests (eqb i j) (ltb i j) (side m n)

abbrev pub keep : ℤ → List ℕ → Poly → Poly
keep (pos zero) m p = p
keep (pos (suc k)) m p = more (pos (suc k)) m p
keep (negsuc k) m p = more (negsuc k) m p

abbrev pub placed : ℤ → List ℕ → ℤ → List ℕ → Poly → Poly → Side → Poly
placed c m d n p rest before = more c m (more d n p)
placed c m d n p rest same = keep (c +ℤ d) m p
placed c m d n p rest after = more d n rest

abbrev pub insert_mono : ℤ → List ℕ → Poly → Poly
insert_mono c m none = keep c m none
insert_mono c m (more d n p) = placed c m d n p (insert_mono c m p) (side m n)

abbrev pub insert_var : ℕ → List ℕ → List ℕ
insert_var i [] = i ∷ []
insert_var i (j ∷ m) = cond (ltb j i) (j ∷ insert_var i m) (i ∷ j ∷ m)

abbrev pub mono_times : List ℕ → List ℕ → List ℕ
mono_times [] n = n
mono_times (i ∷ m) n = insert_var i (mono_times m n)

abbrev pub poly_plus : Poly → Poly → Poly
poly_plus none q = q
poly_plus (more c m p) q = insert_mono c m (poly_plus p q)

abbrev pub scaled : ℤ → List ℕ → Poly → Poly
scaled c m none = none
scaled c m (more d n p) = insert_mono (c *ℤ d) (mono_times m n) (scaled c m p)

abbrev pub poly_times : Poly → Poly → Poly
poly_times none q = none
poly_times (more c m p) q = poly_plus (scaled c m q) (poly_times p q)

abbrev pub normal : Term → Poly
normal (var i) = more (pos 1) (i ∷ []) none
normal (lit z) = keep z [] none
normal (s ⊕ t) = poly_plus (normal s) (normal t)
normal (s ⊖ t) = poly_plus (normal s) (scaled (negsuc 0) [] (normal t))
normal (s ⊗ t) = poly_times (normal s) (normal t)
normal (neg s) = scaled (negsuc 0) [] (normal s)

-- ---- each step keeps the value
by_tests-same : (a b : Bool) (s : Side) → by_tests a b s ≡ same → (a ≡ true) × (s ≡ same)
by_tests-same true b s e = (refl, e)
by_tests-same false true s e = cc
by_tests-same false false s e = cc

side-same : (m n : List ℕ) → side m n ≡ same → m ≡ n
side-same [] [] e = refl
side-same [] (j ∷ n) e = cc
side-same (i ∷ m) [] e = cc
side-same (i ∷ m) (j ∷ n) e =
    let h = by_tests-same (eqb i j) (ltb i j) (side m n) e in
    ap₂ (λ (k : ℕ) (l : List ℕ). k ∷ l) (eqb-true i j h.0) (side-same m n h.1)

module _ (xs : List ℤ) where
  keep_is : (c : ℤ) (m : List ℕ) (p : Poly) → poly_value xs (keep c m p) ≡ c *ℤ mono_value xs m +ℤ poly_value xs p
  keep_is (pos zero) m p = omega (arith, ints)
  keep_is (pos (suc k)) m p = refl
  keep_is (negsuc k) m p = refl

  placed_is : (c : ℤ) (m : List ℕ) (d : ℤ) (n : List ℕ) (p rest : Poly) (s : Side) → side m n ≡ s → poly_value xs rest ≡ c *ℤ mono_value xs m +ℤ poly_value xs p → poly_value xs (placed c m d n p rest s) ≡ c *ℤ mono_value xs m +ℤ (d *ℤ mono_value xs n +ℤ poly_value xs p)
  placed_is c m d n p rest before e h = refl
  placed_is c m d n p rest same e h =
      rw (← side-same m n e) (keep_is (c +ℤ d) m p ∙ (ap (λ z. z +ℤ poly_value xs p) (+ℤ-*ℤ c d (mono_value xs m)) ∙ +ℤ_assoc (c *ℤ mono_value xs m) (d *ℤ mono_value xs m) (poly_value xs p)))
  placed_is c m d n p rest after e h = rw h (left_comm (d *ℤ mono_value xs n) (c *ℤ mono_value xs m) (poly_value xs p))
    where
      left_comm : (a b z : ℤ) → a +ℤ (b +ℤ z) ≡ b +ℤ (a +ℤ z)
      left_comm a b z = omega (arith, ints)

  insert_mono_is : (c : ℤ) (m : List ℕ) (p : Poly) → poly_value xs (insert_mono c m p) ≡ c *ℤ mono_value xs m +ℤ poly_value xs p
  insert_mono_is c m none = keep_is c m none
  insert_mono_is c m (more d n p) = placed_is c m d n p (insert_mono c m p) (side m n) refl (insert_mono_is c m p)

  insert_var_is : (i : ℕ) (m : List ℕ) → mono_value xs (insert_var i m) ≡ get_or xs i (pos 0) *ℤ mono_value xs m
  insert_var_is i [] = refl
  insert_var_is i (j ∷ m) = go (ltb j i) (insert_var_is i m)
    where
      go : (b : Bool) → mono_value xs (insert_var i m) ≡ get_or xs i (pos 0) *ℤ mono_value xs m → mono_value xs (cond b (j ∷ insert_var i m) (i ∷ j ∷ m)) ≡ get_or xs i (pos 0) *ℤ (get_or xs j (pos 0) *ℤ mono_value xs m)
      go true h = ap (λ z. get_or xs j (pos 0) *ℤ z) h ∙ *ℤ_left_comm (get_or xs j (pos 0)) (get_or xs i (pos 0)) (mono_value xs m)
      go false h = refl

  mono_times_is : (m n : List ℕ) → mono_value xs (mono_times m n) ≡ mono_value xs m *ℤ mono_value xs n
  mono_times_is [] n = sym (one-*ℤ (mono_value xs n))
  mono_times_is (i ∷ m) n =
      insert_var_is i (mono_times m n) ∙ (ap (λ z. get_or xs i (pos 0) *ℤ z) (mono_times_is m n) ∙ sym (*ℤ_assoc (get_or xs i (pos 0)) (mono_value xs m) (mono_value xs n)))

  poly_plus_is : (p q : Poly) → poly_value xs (poly_plus p q) ≡ poly_value xs p +ℤ poly_value xs q
  poly_plus_is none q = omega (arith, ints)
  poly_plus_is (more c m p) q =
      insert_mono_is c m (poly_plus p q) ∙ (ap (λ z. c *ℤ mono_value xs m +ℤ z) (poly_plus_is p q) ∙ sym (+ℤ_assoc (c *ℤ mono_value xs m) (poly_value xs p) (poly_value xs q)))

  regroup : (c d a b r : ℤ) → (c *ℤ d) *ℤ (a *ℤ b) +ℤ c *ℤ a *ℤ r ≡ c *ℤ a *ℤ (d *ℤ b +ℤ r)
  regroup c d a b r =
      ap (λ z. z +ℤ c *ℤ a *ℤ r) (*ℤ_assoc c d (a *ℤ b) ∙ (ap (λ z. c *ℤ z) (*ℤ_left_comm d a b) ∙ sym (*ℤ_assoc c a (d *ℤ b)))) ∙ sym (*ℤ-+ℤ (c *ℤ a) (d *ℤ b) r)

  scaled_is : (c : ℤ) (m : List ℕ) (p : Poly) → poly_value xs (scaled c m p) ≡ c *ℤ mono_value xs m *ℤ poly_value xs p
  scaled_is c m none = sym (*ℤ-zero (c *ℤ mono_value xs m))
  scaled_is c m (more d n p) =
      insert_mono_is (c *ℤ d) (mono_times m n) (scaled c m p) ∙ (ap₂ (λ z w. (c *ℤ d) *ℤ z +ℤ w) (mono_times_is m n) (scaled_is c m p) ∙ regroup c d (mono_value xs m) (mono_value xs n) (poly_value xs p))

  poly_times_is : (p q : Poly) → poly_value xs (poly_times p q) ≡ poly_value xs p *ℤ poly_value xs q
  poly_times_is none q = sym (zero-*ℤ (poly_value xs q))
  poly_times_is (more c m p) q =
      poly_plus_is (scaled c m q) (poly_times p q) ∙ (ap₂ (λ z w. z +ℤ w) (scaled_is c m q) (poly_times_is p q) ∙ sym (+ℤ-*ℤ (c *ℤ mono_value xs m) (poly_value xs p) (poly_value xs q)))

  negated_is : (z : ℤ) → negsuc 0 *ℤ pos 1 *ℤ z ≡ neg_ℤ z
  negated_is z = omega (arith, ints)

  var_is : (z : ℤ) → pos 1 *ℤ (z *ℤ pos 1) +ℤ pos 0 ≡ z
  var_is z = +ℤ_idr (pos 1 *ℤ (z *ℤ pos 1)) ∙ (one-*ℤ (z *ℤ pos 1) ∙ lit_is' z)
    where
      lit_is' : (z : ℤ) → z *ℤ pos 1 ≡ z
      lit_is' z = omega (arith, ints)

  lit_is : (z : ℤ) → z *ℤ pos 1 +ℤ pos 0 ≡ z
  lit_is z = omega (arith, ints)

  normal_is : (t : Term) → poly_value xs (normal t) ≡ value xs t
  normal_is (var i) = var_is (get_or xs i (pos 0))
  normal_is (lit z) = keep_is z [] none ∙ lit_is z
  normal_is (s ⊕ t) = poly_plus_is (normal s) (normal t) ∙ ap₂ (λ z w. z +ℤ w) (normal_is s) (normal_is t)
  normal_is (s ⊖ t) =
      poly_plus_is (normal s) (scaled (negsuc 0) [] (normal t)) ∙ ap₂ (λ z w. z +ℤ w) (normal_is s) (scaled_is (negsuc 0) [] (normal t) ∙ (negated_is (poly_value xs (normal t)) ∙ ap neg_ℤ (normal_is t)))
  normal_is (s ⊗ t) = poly_times_is (normal s) (normal t) ∙ ap₂ (λ z w. z *ℤ w) (normal_is s) (normal_is t)
  normal_is (neg s) = scaled_is (negsuc 0) [] (normal s) ∙ (negated_is (poly_value xs (normal s)) ∙ ap neg_ℤ (normal_is s))

pub by_ring : (xs : List ℤ) (s t : Term) → normal s ≡ normal t → value xs s ≡ value xs t
by_ring xs s t e = sym (normal_is xs s) ∙ (ap (poly_value xs) e ∙ normal_is xs t)

-- the same with the variables named by a λ
pub ring2 : (f g : Term → Term → Term) → normal (f (var 0) (var 1)) ≡ normal (g (var 0) (var 1)) → (a b : ℤ) → value (a ∷ b ∷ []) (f (var 0) (var 1)) ≡ value (a ∷ b ∷ []) (g (var 0) (var 1))
ring2 f g e a b = by_ring (a ∷ b ∷ []) (f (var 0) (var 1)) (g (var 0) (var 1)) e

pub ring3 : (f g : Term → Term → Term → Term) → normal (f (var 0) (var 1) (var 2)) ≡ normal (g (var 0) (var 1) (var 2)) → (a b c : ℤ) → value (a ∷ b ∷ c ∷ []) (f (var 0) (var 1) (var 2)) ≡ value (a ∷ b ∷ c ∷ []) (g (var 0) (var 1) (var 2))
ring3 f g e a b c = by_ring (a ∷ b ∷ c ∷ []) (f (var 0) (var 1) (var 2)) (g (var 0) (var 1) (var 2)) e
