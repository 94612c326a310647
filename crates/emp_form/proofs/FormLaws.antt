-- The values of forms and those of nodes.
use Rattle.std.proofs.Common.{◌≡◌, ◌≢◌, ◌⊎◌, inl, inr, ℕ, zero, suc, ◌<◌, ◌≤◌, ℤ, pos, negsuc, neg_ℤ, ◌+ℤ◌, ◌*ℤ◌, ◌<ℤ◌, [], ◌∷◌, length, Option, Some, option_map, Bool, true, false, cond, arith, refl, sym, ap, ap₂, ◌∙◌}
use Rattle.std.specs.Prelude.{nat_eq}
use Rattle.std.proofs.lemmas.Int.{ints}
use Rattle.std.proofs.lemmas.List.{get_or_past}
use lib.IntN.{*ℤ-zero, zero-*ℤ}
use Rattle.emp_algebra.specs.Vector.{cell}
use Rattle.emp_algebra.proofs.Laws.{mul_pos}
use Rattle.emp_algebra.proofs.Order.{linear, mul_lt_right, cancel_right}
use Rattle.emp_algebra.proofs.Ring.{var, lit, neg, ◌⊕◌, ◌⊗◌, by_ring}
use Rattle.emp_num.specs.Ratio.{Ratio, ratio, negated, plus, minus, times, over, over_parts, power, SameRatio}
use Rattle.emp_num.specs.Point.{Point}
use Rattle.emp_form.specs.Form.{Form, line, quadratic, crossed, top_at, form_value, IsLinear, IsConstant, DegreesFit, PowerFits, form_of, unit_at, variable_form, scaled, negated_form, sum_form, product_form, quotient_form, power_form, divided}
use Rattle.emp_ast.specs.declared.tree.Operator.{Operator}
use Rattle.emp_ast.specs.declared.tree.Operator.TheVariants.{Plus, Minus, Times, Over}
use Rattle.emp_ast.specs.Expression.{Expression, number, variable, negated as minus_of, joined, power as power_of}
use Rattle.emp_ast.specs.Value.{both, operation, value}
use Rattle.emp_form.specs.Expansion.{joined_form, form, JoinFits, IsPolynomial}
use Rattle.emp_form.specs.Laws.{ValuesAreForms}
use Rattle.emp_form.proofs.Lines.{line-combine, line-zero, line-scale, line-neg, line-times, line-unit, line-unit_none, quadratic-combine, quadratic-zero, quadratic-scale, quadratic-neg, quadratic-plus}

-- ---- tops
module _ (n : ℕ) (d : ℤ) (x : ℕ → ℤ) where
  top-sum : (f g : Form) → top_at n d x (sum_form f g) ≡ g.den *ℤ top_at n d x f +ℤ f.den *ℤ top_at n d x g
  top-sum f g =
      ap₂ (λ l q. (g.den *ℤ f.constant +ℤ f.den *ℤ g.constant) *ℤ (d *ℤ d) +ℤ (d *ℤ l +ℤ q)) (line-combine n f.linear g.linear x g.den f.den) (quadratic-combine n f.square g.square x g.den f.den) ∙ by_ring (g.den ∷ f.den ∷ f.constant ∷ g.constant ∷ d ∷ line n f.linear x ∷ line n g.linear x ∷ quadratic n f.square x ∷ quadratic n g.square x ∷ [])
      ((var 0 ⊗ var 2 ⊕ var 1 ⊗ var 3) ⊗ (var 4 ⊗ var 4) ⊕ (var 4 ⊗ (var 0 ⊗ var 5 ⊕ var 1 ⊗ var 6) ⊕ (var 0 ⊗ var 7 ⊕ var 1 ⊗ var 8)))
      (var 0 ⊗ (var 2 ⊗ (var 4 ⊗ var 4) ⊕ (var 4 ⊗ var 5 ⊕ var 7)) ⊕ var 1 ⊗ (var 3 ⊗ (var 4 ⊗ var 4) ⊕ (var 4 ⊗ var 6 ⊕ var 8)))
      refl

  top-negated : (f : Form) → top_at n d x (negated_form f) ≡ neg_ℤ (top_at n d x f)
  top-negated f =
      ap₂ (λ l q. neg_ℤ f.constant *ℤ (d *ℤ d) +ℤ (d *ℤ l +ℤ q)) (line-neg n f.linear x) (quadratic-neg n f.square x) ∙ by_ring (f.constant ∷ d ∷ line n f.linear x ∷ quadratic n f.square x ∷ [])
      (neg (var 0) ⊗ (var 1 ⊗ var 1) ⊕ (var 1 ⊗ neg (var 2) ⊕ neg (var 3)))
      (neg (var 0 ⊗ (var 1 ⊗ var 1) ⊕ (var 1 ⊗ var 2 ⊕ var 3)))
      refl

  top-scaled : (k : ℤ) (f : Form) (m : ℤ) → top_at n d x (scaled k f m) ≡ k *ℤ top_at n d x f
  top-scaled k f m =
      ap₂ (λ l q. k *ℤ f.constant *ℤ (d *ℤ d) +ℤ (d *ℤ l +ℤ q)) (line-scale n k f.linear x) (quadratic-scale n k f.square x) ∙ by_ring (k ∷ f.constant ∷ d ∷ line n f.linear x ∷ quadratic n f.square x ∷ [])
      (var 0 ⊗ var 1 ⊗ (var 2 ⊗ var 2) ⊕ (var 2 ⊗ (var 0 ⊗ var 3) ⊕ var 0 ⊗ var 4))
      (var 0 ⊗ (var 1 ⊗ (var 2 ⊗ var 2) ⊕ (var 2 ⊗ var 3 ⊕ var 4)))
      refl

  top-constant : (f : Form) → IsConstant f → top_at n d x f ≡ f.constant *ℤ (d *ℤ d)
  top-constant f h =
      ap₂ (λ l q. f.constant *ℤ (d *ℤ d) +ℤ (d *ℤ l +ℤ q)) (line-zero n f.linear x h.linear) (quadratic-zero n f.square x h.square) ∙ by_ring (f.constant ∷ d ∷ []) (var 0 ⊗ (var 1 ⊗ var 1) ⊕ (var 1 ⊗ lit (pos 0) ⊕ lit (pos 0))) (var 0 ⊗ (var 1 ⊗ var 1)) refl

  abbrev Multiplies : ℤ → ℤ → ℤ → ℤ → ℤ → ℤ → Type 0
  Multiplies c l q e m r = (c *ℤ e *ℤ (d *ℤ d) +ℤ (d *ℤ (c *ℤ m +ℤ e *ℤ l) +ℤ (l *ℤ m +ℤ (c *ℤ r +ℤ e *ℤ q)))) *ℤ (d *ℤ d) ≡ (c *ℤ (d *ℤ d) +ℤ (d *ℤ l +ℤ q)) *ℤ (e *ℤ (d *ℤ d) +ℤ (d *ℤ m +ℤ r))

  first_constant : (c l q e m r : ℤ) → l ≡ pos 0 → q ≡ pos 0 → Multiplies c l q e m r
  first_constant c l q e m r h k =
      rw (h, k)
      (by_ring (c ∷ e ∷ m ∷ r ∷ d ∷ [])
      ((var 0 ⊗ var 1 ⊗ (var 4 ⊗ var 4) ⊕ (var 4 ⊗ (var 0 ⊗ var 2 ⊕ var 1 ⊗ lit (pos 0)) ⊕ (lit (pos 0) ⊗ var 2 ⊕ (var 0 ⊗ var 3 ⊕ var 1 ⊗ lit (pos 0))))) ⊗ (var 4 ⊗ var 4))
      ((var 0 ⊗ (var 4 ⊗ var 4) ⊕ (var 4 ⊗ lit (pos 0) ⊕ lit (pos 0))) ⊗ (var 1 ⊗ (var 4 ⊗ var 4) ⊕ (var 4 ⊗ var 2 ⊕ var 3)))
      refl)

  second_constant : (c l q e m r : ℤ) → m ≡ pos 0 → r ≡ pos 0 → Multiplies c l q e m r
  second_constant c l q e m r h k =
      rw (h, k)
      (by_ring (c ∷ e ∷ l ∷ q ∷ d ∷ [])
      ((var 0 ⊗ var 1 ⊗ (var 4 ⊗ var 4) ⊕ (var 4 ⊗ (var 0 ⊗ lit (pos 0) ⊕ var 1 ⊗ var 2) ⊕ (var 2 ⊗ lit (pos 0) ⊕ (var 0 ⊗ lit (pos 0) ⊕ var 1 ⊗ var 3)))) ⊗ (var 4 ⊗ var 4))
      ((var 0 ⊗ (var 4 ⊗ var 4) ⊕ (var 4 ⊗ var 2 ⊕ var 3)) ⊗ (var 1 ⊗ (var 4 ⊗ var 4) ⊕ (var 4 ⊗ lit (pos 0) ⊕ lit (pos 0))))
      refl)

  both_linear : (c l q e m r : ℤ) → q ≡ pos 0 → r ≡ pos 0 → Multiplies c l q e m r
  both_linear c l q e m r h k =
      rw (h, k)
      (by_ring (c ∷ e ∷ l ∷ m ∷ d ∷ [])
      ((var 0 ⊗ var 1 ⊗ (var 4 ⊗ var 4) ⊕ (var 4 ⊗ (var 0 ⊗ var 3 ⊕ var 1 ⊗ var 2) ⊕ (var 2 ⊗ var 3 ⊕ (var 0 ⊗ lit (pos 0) ⊕ var 1 ⊗ lit (pos 0))))) ⊗ (var 4 ⊗ var 4))
      ((var 0 ⊗ (var 4 ⊗ var 4) ⊕ (var 4 ⊗ var 2 ⊕ lit (pos 0))) ⊗ (var 1 ⊗ (var 4 ⊗ var 4) ⊕ (var 4 ⊗ var 3 ⊕ lit (pos 0))))
      refl)

  multiplies : (f g : Form) → DegreesFit f g → Multiplies f.constant (line n f.linear x) (quadratic n f.square x) g.constant (line n g.linear x) (quadratic n g.square x)
  multiplies f g (inl h) = first_constant f.constant (line n f.linear x) (quadratic n f.square x) g.constant (line n g.linear x) (quadratic n g.square x) (line-zero n f.linear x h.linear) (quadratic-zero n f.square x h.square)
  multiplies f g (inr (inl h)) = second_constant f.constant (line n f.linear x) (quadratic n f.square x) g.constant (line n g.linear x) (quadratic n g.square x) (line-zero n g.linear x h.linear) (quadratic-zero n g.square x h.square)
  multiplies f g (inr (inr h)) = both_linear f.constant (line n f.linear x) (quadratic n f.square x) g.constant (line n g.linear x) (quadratic n g.square x) (quadratic-zero n f.square x h.0.square) (quadratic-zero n g.square x h.1.square)

  top-product : (f g : Form) → DegreesFit f g → top_at n d x (product_form f g) *ℤ (d *ℤ d) ≡ top_at n d x f *ℤ top_at n d x g
  top-product f g h =
      ap₂ (λ l q. (f.constant *ℤ g.constant *ℤ (d *ℤ d) +ℤ (d *ℤ l +ℤ q)) *ℤ (d *ℤ d)) (line-combine n g.linear f.linear x f.constant g.constant)
      (quadratic-plus n (crossed f.linear g.linear) (λ i j. f.constant *ℤ g.square i j +ℤ g.constant *ℤ f.square i j) x ∙ ap₂ (λ y z. y +ℤ z) (line-times n f.linear g.linear x) (quadratic-combine n g.square f.square x f.constant g.constant)) ∙ multiplies f g h

  top-variable : (k : ℕ) (y : ℤ) → line n (unit_at k) x ≡ y → top_at n d x (variable_form k) ≡ d *ℤ y
  top-variable k y h =
      ap₂ (λ l q. pos 0 *ℤ (d *ℤ d) +ℤ (d *ℤ l +ℤ q)) h (quadratic-zero n (λ i j. pos 0) x (λ i j l. refl)) ∙ by_ring (d ∷ y ∷ []) (lit (pos 0) ⊗ (var 0 ⊗ var 0) ⊕ (var 0 ⊗ var 1 ⊕ lit (pos 0))) (var 0 ⊗ var 1) refl

-- ---- quotients over plain numbers: t/b and u/c are F/(f q) and G/(g q)
sums_agree : (t b u c f g q F G : ℤ) → t *ℤ (f *ℤ q) ≡ F *ℤ b → u *ℤ (g *ℤ q) ≡ G *ℤ c → (t *ℤ c +ℤ u *ℤ b) *ℤ (f *ℤ g *ℤ q) ≡ (g *ℤ F +ℤ f *ℤ G) *ℤ (b *ℤ c)
sums_agree t b u c f g q F G h k =
    by_ring (t ∷ b ∷ u ∷ c ∷ f ∷ g ∷ q ∷ []) ((var 0 ⊗ var 3 ⊕ var 2 ⊗ var 1) ⊗ (var 4 ⊗ var 5 ⊗ var 6)) (var 3 ⊗ var 5 ⊗ (var 0 ⊗ (var 4 ⊗ var 6)) ⊕ var 1 ⊗ var 4 ⊗ (var 2 ⊗ (var 5 ⊗ var 6))) refl ∙ (ap₂ (λ y z. c *ℤ g *ℤ y +ℤ b *ℤ f *ℤ z) h k ∙ by_ring (b ∷ c ∷ f ∷ g ∷ F ∷ G ∷ []) (var 1 ⊗ var 3 ⊗ (var 4 ⊗ var 0) ⊕ var 0 ⊗ var 2 ⊗ (var 5 ⊗ var 1)) ((var 3 ⊗ var 4 ⊕ var 2 ⊗ var 5) ⊗ (var 0 ⊗ var 1)) refl)

negations_agree : (t b f q F : ℤ) → t *ℤ (f *ℤ q) ≡ F *ℤ b → neg_ℤ t *ℤ (f *ℤ q) ≡ neg_ℤ F *ℤ b
negations_agree t b f q F h =
    by_ring (t ∷ f ∷ q ∷ []) (neg (var 0) ⊗ (var 1 ⊗ var 2)) (neg (var 0 ⊗ (var 1 ⊗ var 2))) refl ∙ (ap neg_ℤ h ∙ by_ring (F ∷ b ∷ []) (neg (var 0 ⊗ var 1)) (neg (var 0) ⊗ var 1) refl)

products_agree : (t b u c f g q F G H : ℤ) → pos 0 <ℤ q → t *ℤ (f *ℤ q) ≡ F *ℤ b → u *ℤ (g *ℤ q) ≡ G *ℤ c → H *ℤ q ≡ F *ℤ G → t *ℤ u *ℤ (f *ℤ g *ℤ q) ≡ H *ℤ (b *ℤ c)
products_agree t b u c f g q F G H p h k e =
    cancel_right (t *ℤ u *ℤ (f *ℤ g *ℤ q)) (H *ℤ (b *ℤ c)) q
    (by_ring (t ∷ u ∷ f ∷ g ∷ q ∷ []) (var 0 ⊗ var 1 ⊗ (var 2 ⊗ var 3 ⊗ var 4) ⊗ var 4) (var 0 ⊗ (var 2 ⊗ var 4) ⊗ (var 1 ⊗ (var 3 ⊗ var 4))) refl ∙ (ap₂ (λ y z. y *ℤ z) h k ∙ (by_ring (F ∷ b ∷ G ∷ c ∷ []) (var 0 ⊗ var 1 ⊗ (var 2 ⊗ var 3)) (var 0 ⊗ var 2 ⊗ (var 1 ⊗ var 3)) refl ∙ (ap (λ y. y *ℤ (b *ℤ c)) (sym e) ∙ by_ring (H ∷ q ∷ b ∷ c ∷ []) (var 0 ⊗ var 1 ⊗ (var 2 ⊗ var 3)) (var 0 ⊗ (var 2 ⊗ var 3) ⊗ var 1) refl))))
    p

-- u/c is e/g
quotients_agree : (t b u c f g q F e : ℤ) → t *ℤ (f *ℤ q) ≡ F *ℤ b → u *ℤ g ≡ e *ℤ c → t *ℤ c *ℤ (f *ℤ e *ℤ q) ≡ g *ℤ F *ℤ (b *ℤ u)
quotients_agree t b u c f g q F e h k =
    by_ring (t ∷ c ∷ f ∷ e ∷ q ∷ []) (var 0 ⊗ var 1 ⊗ (var 2 ⊗ var 3 ⊗ var 4)) (var 0 ⊗ (var 2 ⊗ var 4) ⊗ (var 3 ⊗ var 1)) refl ∙ (ap₂ (λ y z. y *ℤ z) h (sym k) ∙ by_ring (F ∷ b ∷ u ∷ g ∷ []) (var 0 ⊗ var 1 ⊗ (var 2 ⊗ var 3)) (var 3 ⊗ var 0 ⊗ (var 1 ⊗ var 2)) refl)

-- the same where both are below 0, by their opposites
opposites_agree : (t b u c f g q F e : ℤ) → t *ℤ (f *ℤ q) ≡ F *ℤ b → neg_ℤ u *ℤ g ≡ neg_ℤ e *ℤ c → neg_ℤ (t *ℤ c) *ℤ (f *ℤ e *ℤ q) ≡ neg_ℤ g *ℤ F *ℤ (b *ℤ u)
opposites_agree t b u c f g q F e h k =
    by_ring (t ∷ c ∷ f ∷ e ∷ q ∷ []) (neg (var 0 ⊗ var 1) ⊗ (var 2 ⊗ var 3 ⊗ var 4)) (var 0 ⊗ (var 2 ⊗ var 4) ⊗ (neg (var 3) ⊗ var 1)) refl ∙ (ap₂ (λ y z. y *ℤ z) h (sym k) ∙ by_ring (F ∷ b ∷ u ∷ g ∷ []) (var 0 ⊗ var 1 ⊗ (neg (var 2) ⊗ var 3)) (neg (var 3) ⊗ var 0 ⊗ (var 1 ⊗ var 2)) refl)

-- ---- signs
-- u and e have one sign, where u times a number above 0 is e times another
pub data SameSign : ℤ → ℤ → Type 0 where
  both_above : (m n : ℕ) → SameSign (pos (suc m)) (pos (suc n))
  both_below : (m n : ℕ) → SameSign (negsuc m) (negsuc n)

pub same_sign : (u e g c : ℤ) → pos 0 <ℤ g → pos 0 <ℤ c → e ≢ pos 0 → u *ℤ g ≡ e *ℤ c → SameSign u e
same_sign u (pos zero) g c pg pc h k = absurd (h refl)
same_sign (pos (suc m)) (pos (suc n)) g c pg pc h k = both_above m n
same_sign (negsuc m) (negsuc n) g c pg pc h k = both_below m n
same_sign (pos zero) (pos (suc n)) g c pg pc h k = absurd (omega (arith, linear, mul_pos (pos (suc n)) c (omega (arith, ints)) pc, zero-*ℤ g))
same_sign (negsuc m) (pos (suc n)) g c pg pc h k =
    absurd (omega (arith, linear, mul_pos (pos (suc n)) c (omega (arith, ints)) pc, mul_lt_right (negsuc m) (pos 0) g (omega (arith, ints)) pg, zero-*ℤ g))
same_sign (pos zero) (negsuc n) g c pg pc h k = absurd (omega (arith, linear, mul_lt_right (negsuc n) (pos 0) c (omega (arith, ints)) pc, zero-*ℤ c, zero-*ℤ g))
same_sign (pos (suc m)) (negsuc n) g c pg pc h k =
    absurd (omega (arith, linear, mul_pos (pos (suc m)) g (omega (arith, ints)) pg, mul_lt_right (negsuc n) (pos 0) c (omega (arith, ints)) pc, zero-*ℤ c))

module _ (p : Point) where
  abbrev top : Form → ℤ
  top f = top_at (length p.nums) p.den (cell p.nums) f

  abbrev den2 : ℤ
  den2 = p.den *ℤ p.den

  den2_above : pos 0 <ℤ den2
  den2_above = mul_pos p.den p.den p.positive p.positive

  -- ---- the number is the value of the form
  pub record Entry (r : Ratio) (f : Form) : Type 0 where
    pub bottom : pos 0 <ℤ r.bottom
    pub den : pos 0 <ℤ f.den
    pub same : SameRatio r (form_value p f)

  pub entry_number : (n d : ℤ) → pos 0 <ℤ d → Entry (ratio n d) (form_of n d)
  entry_number n d h = record {
    bottom = h;
    den = h;
    same = by_ring (n ∷ d ∷ den2 ∷ []) (var 0 ⊗ (var 1 ⊗ var 2)) (var 0 ⊗ var 2 ⊗ var 1) refl ∙ ap (λ z. z *ℤ d) (sym (top-constant (length p.nums) p.den (cell p.nums) (form_of n d) (record { linear = λ i. refl; square = λ i j l. refl })));
  }

  variable_line : (k : ℕ) → line (length p.nums) (unit_at k) (cell p.nums) ≡ cell p.nums k
  variable_line k = go (cases k (length p.nums))
    where
      cases : (k n : ℕ) → (k < n) ⊎ (n ≤ k)
      cases k n = grind arith

      go : (k < length p.nums) ⊎ (length p.nums ≤ k) → line (length p.nums) (unit_at k) (cell p.nums) ≡ cell p.nums k
      go (inl l) = line-unit (length p.nums) k (cell p.nums) l
      go (inr l) = line-unit_none (length p.nums) k (cell p.nums) l ∙ sym (get_or_past p.nums k (pos 0) l)

  pub entry_variable : (k : ℕ) → Entry (ratio (cell p.nums k) p.den) (variable_form k)
  entry_variable k = record {
    bottom = p.positive;
    den = omega (arith, ints);
    same = by_ring (cell p.nums k ∷ p.den ∷ []) (var 0 ⊗ (lit (pos 1) ⊗ (var 1 ⊗ var 1))) (var 1 ⊗ var 0 ⊗ var 1) refl ∙ ap (λ z. z *ℤ p.den) (sym (top-variable (length p.nums) p.den (cell p.nums) k (cell p.nums k) (variable_line k)));
  }

  pub entry_negated : (r : Ratio) (f : Form) → Entry r f → Entry (negated r) (negated_form f)
  entry_negated r f h = record {
    bottom = h.bottom;
    den = h.den;
    same = negations_agree r.top r.bottom f.den den2 (top f) h.same ∙ ap (λ z. z *ℤ r.bottom) (sym (top-negated (length p.nums) p.den (cell p.nums) f));
  }

  pub entry_sum : (r s : Ratio) (f g : Form) → Entry r f → Entry s g → Entry (plus r s) (sum_form f g)
  entry_sum r s f g h k = record {
    bottom = mul_pos r.bottom s.bottom h.bottom k.bottom;
    den = mul_pos f.den g.den h.den k.den;
    same = sums_agree r.top r.bottom s.top s.bottom f.den g.den den2 (top f) (top g) h.same k.same ∙ ap (λ z. z *ℤ (r.bottom *ℤ s.bottom)) (sym (top-sum (length p.nums) p.den (cell p.nums) f g));
  }

  pub entry_product : (r s : Ratio) (f g : Form) → DegreesFit f g → Entry r f → Entry s g → Entry (times r s) (product_form f g)
  entry_product r s f g fit h k = record {
    bottom = mul_pos r.bottom s.bottom h.bottom k.bottom;
    den = mul_pos f.den g.den h.den k.den;
    same = products_agree r.top r.bottom s.top s.bottom f.den g.den den2 (top f) (top g) (top (product_form f g)) den2_above h.same k.same (top-product (length p.nums) p.den (cell p.nums) f g fit);
  }

  -- ---- quotients
  abbrev HasEntry : Option Ratio → Form → Type 0
  HasEntry o f = (r : Ratio) × (o ≡ Some r) × Entry r f

  entry_over : (r : Ratio) (u c : ℤ) (f : Form) (e g : ℤ) → SameSign u e → pos 0 <ℤ c → pos 0 <ℤ g → u *ℤ g ≡ e *ℤ c → Entry r f → HasEntry (over_parts r u c) (divided f e g)
  entry_over r u c f e g (both_above m n) pc pg k h = (
    ratio (r.top *ℤ c) (r.bottom *ℤ pos (suc m)),
    refl,
    record {
      bottom = mul_pos r.bottom (pos (suc m)) h.bottom (omega (arith, ints));
      den = mul_pos f.den (pos (suc n)) h.den (omega (arith, ints));
      same = quotients_agree r.top r.bottom (pos (suc m)) c f.den g den2 (top f) (pos (suc n)) h.same k ∙ ap (λ z. z *ℤ (r.bottom *ℤ pos (suc m))) (sym (top-scaled (length p.nums) p.den (cell p.nums) g f (pos (suc n))));
    },
  )
  entry_over r u c f e g (both_below m n) pc pg k h = (
    ratio (neg_ℤ (r.top *ℤ c)) (r.bottom *ℤ pos (suc m)),
    refl,
    record {
      bottom = mul_pos r.bottom (pos (suc m)) h.bottom (omega (arith, ints));
      den = mul_pos f.den (pos (suc n)) h.den (omega (arith, ints));
      same = opposites_agree r.top r.bottom (pos (suc m)) c f.den g den2 (top f) (pos (suc n)) h.same k ∙ ap (λ z. z *ℤ (r.bottom *ℤ pos (suc m))) (sym (top-scaled (length p.nums) p.den (cell p.nums) (neg_ℤ g) f (pos (suc n))));
    },
  )

  -- a constant's value, without the point's den
  constant_value : (s : Ratio) (g : Form) → IsConstant g → Entry s g → s.top *ℤ g.den ≡ g.constant *ℤ s.bottom
  constant_value s g fit k =
      cancel_right (s.top *ℤ g.den) (g.constant *ℤ s.bottom) den2
      (by_ring (s.top ∷ g.den ∷ den2 ∷ []) (var 0 ⊗ var 1 ⊗ var 2) (var 0 ⊗ (var 1 ⊗ var 2)) refl ∙ (k.same ∙ (ap (λ z. z *ℤ s.bottom) (top-constant (length p.nums) p.den (cell p.nums) g fit) ∙ by_ring (g.constant ∷ den2 ∷ s.bottom ∷ []) (var 0 ⊗ var 1 ⊗ var 2) (var 0 ⊗ var 2 ⊗ var 1) refl)))
      den2_above

  entry_quotient : (r s : Ratio) (f g : Form) → IsConstant g → g.constant ≢ pos 0 → Entry r f → Entry s g → HasEntry (over r s) (quotient_form f g)
  entry_quotient r s f g fit some h k =
      let e = constant_value s g fit k in
      entry_over r s.top s.bottom f g.constant g.den (same_sign s.top g.constant g.den s.bottom k.den k.bottom some e) k.bottom k.den e h

  -- ---- powers
  one_constant : IsConstant (form_of (pos 1) (pos 1))
  one_constant = record { linear = λ i. refl; square = λ i j l. refl }

  entry_one : Entry (power (ratio (pos 0) (pos 1)) zero) (form_of (pos 1) (pos 1))
  entry_one = entry_number (pos 1) (pos 1) (omega (arith, ints))

  crossed_none : (t : Bool) (y z : ℤ) → cond t (y *ℤ pos 0) (y *ℤ pos 0 +ℤ z *ℤ pos 0) ≡ pos 0
  crossed_none true y z = *ℤ-zero y
  crossed_none false y z = ap₂ (λ v w. v +ℤ w) (*ℤ-zero y) (*ℤ-zero z)

  linear_once : (f : Form) → IsLinear f → IsLinear (product_form f (form_of (pos 1) (pos 1)))
  linear_once f h = record {
    square = λ i j l. ap₂ (λ z w. z +ℤ (f.constant *ℤ pos 0 +ℤ pos 1 *ℤ w)) (crossed_none (nat_eq i j) (f.linear i) (f.linear j)) (h.square i j l) ∙ by_ring (f.constant ∷ []) (lit (pos 0) ⊕ (var 0 ⊗ lit (pos 0) ⊕ lit (pos 1) ⊗ lit (pos 0))) (lit (pos 0)) refl;
  }

  entry_power : (r : Ratio) (f : Form) (n : ℕ) → PowerFits f n → Entry r f → Entry (power r n) (power_form f n)
  entry_power r f zero fit h = entry_one
  entry_power r f (suc zero) fit h = entry_product r (power r zero) f (form_of (pos 1) (pos 1)) (inr (inl one_constant)) h entry_one
  entry_power r f (suc (suc zero)) fit h =
      entry_product r (power r 1) f (power_form f 1) (inr (inr (fit, linear_once f fit))) h (entry_product r (power r zero) f (form_of (pos 1) (pos 1)) (inr (inl one_constant)) h entry_one)
  entry_power r f (suc (suc (suc n))) fit h = constant_power (suc (suc (suc n)))
    where
      constant_power : (n : ℕ) → Entry (power r n) (power_form f n)
      constant_power zero = entry_one
      constant_power (suc n) = entry_product r (power r n) f (power_form f n) (inl fit) h (constant_power n)

  -- ---- along the expression
  entry_both : (op : Operator) (o q : Option Ratio) (f g : Form) → ((r s : Ratio) → Entry r f → Entry s g → HasEntry (operation op r s) (joined_form op f g)) → HasEntry o f → HasEntry q g → HasEntry (both (operation op) o q) (joined_form op f g)
  entry_both op o q f g step h k =
      let e = step h.0 k.0 h.2 k.2 in
      (e.0, ap₂ (λ a b. both (operation op) a b) h.1 k.1 ∙ e.1, e.2)

  entry_joined : (op : Operator) (f g : Form) → JoinFits op f g → (r s : Ratio) → Entry r f → Entry s g → HasEntry (operation op r s) (joined_form op f g)
  entry_joined Plus f g fit r s h k = (plus r s, refl, entry_sum r s f g h k)
  entry_joined Minus f g fit r s h k = (minus r s, refl, entry_sum r (negated s) f (negated_form g) h (entry_negated s g k))
  entry_joined Times f g fit r s h k = (times r s, refl, entry_product r s f g fit h k)
  entry_joined Over f g fit r s h k = entry_quotient r s f g fit.0 fit.1 h k

  pub entry_of : (e : Expression) → IsPolynomial e → HasEntry (value p e) (form e)
  entry_of (number f) fit = (ratio f.num f.den, refl, entry_number f.num f.den f.positive)
  entry_of (variable k) fit = (ratio (cell p.nums k) p.den, refl, entry_variable k)
  entry_of (minus_of e) fit =
      let h = entry_of e fit in
      (negated h.0, ap (λ o. option_map negated o) h.1, entry_negated h.0 (form e) h.2)
  entry_of (joined op e f) fit =
      entry_both op (value p e) (value p f) (form e) (form f) (entry_joined op (form e) (form f) fit.0) (entry_of e fit.1) (entry_of f fit.2)
  entry_of (power_of e n) fit =
      let h = entry_of e fit.1 in
      (power h.0 n, ap (λ o. option_map (λ x. power x n) o) h.1, entry_power h.0 (form e) n fit.0 h.2)

pub values_are_forms : ValuesAreForms
values_are_forms p e fit =
    let h = entry_of p e fit in
    record { number = h.0; is = h.1; fraction = h.2.bottom; same = h.2.same }
