-- Values of polynomials at sums of two lists of numbers of which one is 0 where the other is not.
use Rattle.std.proofs.Common.{◌≡◌, ℕ, zero, suc, ◌<◌, ◌≤◌, ℤ, pos, ◌+ℤ◌, ◌*ℤ◌, Bool, true, false, cond, length, [], ◌∷◌, arith, refl, sym, ap, ap₂, ◌∙◌}
use lib.IntN.{*ℤ-zero, zero-*ℤ}
use Rattle.std.proofs.lemmas.Bool.{lt-ltb, le-ltb}
use Rattle.emp_algebra.proofs.Ring.{var, lit, ◌⊕◌, ◌⊗◌, by_ring}
use Rattle.emp_algebra.specs.Vector.{cell}
use Rattle.emp_num.specs.Ratio.{SameRatio}
use Rattle.emp_num.specs.Point.{Point}
use Rattle.emp_form.specs.Form.{Form, sum_to, line, column, quadratic, form_value}
use Rattle.emp_form.proofs.Lines.{sum_to-below, sum_to-zero, line-combine, quadratic-zero}
use Rattle.emp_sp.specs.Outcomes.{Outcomes, only, joint_at, HasRandomFactors, put, HasOutcomes, OutcomesKeepValues}

-- ---- lines at sums
line_sum : (n : ℕ) (a x y : ℕ → ℤ) (u v : ℤ) → line n a (λ i. u *ℤ x i +ℤ v *ℤ y i) ≡ u *ℤ line n a x +ℤ v *ℤ line n a y
line_sum zero a x y u v = by_ring (u ∷ v ∷ []) (lit (pos 0)) (var 0 ⊗ lit (pos 0) ⊕ var 1 ⊗ lit (pos 0)) refl
line_sum (suc n) a x y u v =
    ap (λ z. z +ℤ a n *ℤ (u *ℤ x n +ℤ v *ℤ y n)) (line_sum n a x y u v)
    ∙ by_ring (u ∷ v ∷ line n a x ∷ line n a y ∷ a n ∷ x n ∷ y n ∷ []) (var 0 ⊗ var 2 ⊕ var 1 ⊗ var 3 ⊕ var 4 ⊗ (var 0 ⊗ var 5 ⊕ var 1 ⊗ var 6)) (var 0 ⊗ (var 2 ⊕ var 4 ⊗ var 5) ⊕ var 1 ⊗ (var 3 ⊕ var 4 ⊗ var 6)) refl

line_stretched : (n : ℕ) (a x : ℕ → ℤ) (u : ℤ) → line n a (λ i. u *ℤ x i) ≡ u *ℤ line n a x
line_stretched zero a x u = sym (*ℤ-zero u)
line_stretched (suc n) a x u = ap (λ z. z +ℤ a n *ℤ (u *ℤ x n)) (line_stretched n a x u) ∙ by_ring (u ∷ line n a x ∷ a n ∷ x n ∷ []) (var 0 ⊗ var 1 ⊕ var 2 ⊗ (var 0 ⊗ var 3)) (var 0 ⊗ (var 1 ⊕ var 2 ⊗ var 3)) refl

-- ---- products of both kinds
-- the coefficient of i with the first n others
with_all : ℕ → (ℕ → ℕ → ℤ) → (ℕ → ℤ) → ℕ → ℤ
with_all n s y i = line n (joint_at s i) y

abbrev joined : ℕ → (ℕ → ℕ → ℤ) → (ℕ → ℤ) → (ℕ → ℤ) → ℤ
joined n s x y = line n (λ i. line n (joint_at s i) y) x

joint_below : (s : ℕ → ℕ → ℤ) (i w : ℕ) → w < i → joint_at s i w ≡ s w i
joint_below s i w l = ap (λ b. cond b (s w i) (s i w)) (lt-ltb w i l)

joint_from : (s : ℕ → ℕ → ℤ) (i w : ℕ) → i ≤ w → joint_at s i w ≡ s i w
joint_from s i w l = ap (λ b. cond b (s w i) (s i w)) (le-ltb w i l)

-- one variable more
joined_more : (n : ℕ) (s : ℕ → ℕ → ℤ) (x y : ℕ → ℤ) → joined (suc n) s x y ≡ joined n s x y +ℤ (y n *ℤ line n (λ i. s i n) x +ℤ (x n *ℤ line n (λ i. s i n) y +ℤ s n n *ℤ (x n *ℤ y n)))
joined_more n s x y =
    let inner : sum_to n (λ i. (line n (joint_at s i) y +ℤ joint_at s i n *ℤ y n) *ℤ x i) ≡ joined n s x y +ℤ y n *ℤ line n (λ i. s i n) x = step n n (omega arith) in
    let own : line n (joint_at s n) y ≡ line n (λ i. s i n) y = sum_to-below n (λ w. joint_at s n w *ℤ y w) (λ w. s w n *ℤ y w) (λ w l. ap (λ z. z *ℤ y w) (joint_below s n w l)) in
    ap₂ (λ z w. z +ℤ (w +ℤ joint_at s n n *ℤ y n) *ℤ x n) inner own
    ∙ ap (λ w. joined n s x y +ℤ y n *ℤ line n (λ i. s i n) x +ℤ (line n (λ i. s i n) y +ℤ w *ℤ y n) *ℤ x n) (joint_from s n n (omega arith))
    ∙ by_ring (joined n s x y ∷ line n (λ i. s i n) x ∷ line n (λ i. s i n) y ∷ s n n ∷ x n ∷ y n ∷ []) (var 0 ⊕ var 5 ⊗ var 1 ⊕ (var 2 ⊕ var 3 ⊗ var 5) ⊗ var 4) (var 0 ⊕ (var 5 ⊗ var 1 ⊕ (var 4 ⊗ var 2 ⊕ var 3 ⊗ (var 4 ⊗ var 5)))) refl
  where
    step : (n k : ℕ) → k ≤ n → sum_to k (λ i. (line n (joint_at s i) y +ℤ joint_at s i n *ℤ y n) *ℤ x i) ≡ line k (λ i. line n (joint_at s i) y) x +ℤ y n *ℤ line k (λ i. s i n) x
    step n zero l = by_ring (y n ∷ []) (lit (pos 0)) (lit (pos 0) ⊕ var 0 ⊗ lit (pos 0)) refl
    step n (suc k) l =
        ap₂ (λ z w. z +ℤ (line n (joint_at s k) y +ℤ w *ℤ y n) *ℤ x k) (step n k (omega arith)) (joint_from s k n (omega arith))
        ∙ by_ring (line k (λ i. line n (joint_at s i) y) x ∷ y n ∷ line k (λ i. s i n) x ∷ line n (joint_at s k) y ∷ s k n ∷ x k ∷ []) (var 0 ⊕ var 1 ⊗ var 2 ⊕ (var 3 ⊕ var 4 ⊗ var 1) ⊗ var 5) (var 0 ⊕ var 3 ⊗ var 5 ⊕ var 1 ⊗ (var 2 ⊕ var 4 ⊗ var 5)) refl

-- where the one is 0 wherever the other is not
quadratic_sum : (n : ℕ) (s : ℕ → ℕ → ℤ) (x y : ℕ → ℤ) (u v : ℤ) → ((i : ℕ) → x i *ℤ y i ≡ pos 0) → quadratic n s (λ i. u *ℤ x i +ℤ v *ℤ y i) ≡ u *ℤ u *ℤ quadratic n s x +ℤ u *ℤ v *ℤ joined n s x y +ℤ v *ℤ v *ℤ quadratic n s y
quadratic_sum zero s x y u v h = by_ring (u ∷ v ∷ []) (lit (pos 0)) (var 0 ⊗ var 0 ⊗ lit (pos 0) ⊕ var 0 ⊗ var 1 ⊗ lit (pos 0) ⊕ var 1 ⊗ var 1 ⊗ lit (pos 0)) refl
quadratic_sum (suc n) s x y u v h =
    let A = line n (λ i. s i n) x in
    let B = line n (λ i. s i n) y in
    let Q = quadratic n s x in
    let R = quadratic n s y in
    let J = joined n s x y in
    ap₂ (λ z w. z +ℤ (u *ℤ x n +ℤ v *ℤ y n) *ℤ (w +ℤ s n n *ℤ (u *ℤ x n +ℤ v *ℤ y n))) (quadratic_sum n s x y u v h) (line_sum n (λ i. s i n) x y u v)
    ∙ by_ring (u ∷ v ∷ Q ∷ R ∷ J ∷ A ∷ B ∷ s n n ∷ x n ∷ y n ∷ [])
    (var 0 ⊗ var 0 ⊗ var 2 ⊕ var 0 ⊗ var 1 ⊗ var 4 ⊕ var 1 ⊗ var 1 ⊗ var 3 ⊕ (var 0 ⊗ var 8 ⊕ var 1 ⊗ var 9) ⊗ (var 0 ⊗ var 5 ⊕ var 1 ⊗ var 6 ⊕ var 7 ⊗ (var 0 ⊗ var 8 ⊕ var 1 ⊗ var 9)))
    (var 0 ⊗ var 0 ⊗ (var 2 ⊕ var 8 ⊗ (var 5 ⊕ var 7 ⊗ var 8)) ⊕ var 0 ⊗ var 1 ⊗ (var 4 ⊕ (var 9 ⊗ var 5 ⊕ (var 8 ⊗ var 6 ⊕ var 7 ⊗ (var 8 ⊗ var 9)))) ⊕ var 1 ⊗ var 1 ⊗ (var 3 ⊕ var 9 ⊗ (var 6 ⊕ var 7 ⊗ var 9)) ⊕ var 0 ⊗ var 1 ⊗ var 7 ⊗ (var 8 ⊗ var 9))
    refl
    ∙ ap₂ (λ z w. u *ℤ u *ℤ quadratic (suc n) s x +ℤ u *ℤ v *ℤ z +ℤ v *ℤ v *ℤ quadratic (suc n) s y +ℤ u *ℤ v *ℤ s n n *ℤ w) (sym (joined_more n s x y)) (h n)
    ∙ by_ring ((u *ℤ u *ℤ quadratic (suc n) s x +ℤ u *ℤ v *ℤ joined (suc n) s x y +ℤ v *ℤ v *ℤ quadratic (suc n) s y) ∷ (u *ℤ v *ℤ s n n) ∷ []) (var 0 ⊕ var 1 ⊗ lit (pos 0)) (var 0) refl

-- ---- equal numbers below n
line_below : (n : ℕ) (a x y : ℕ → ℤ) → ((i : ℕ) → i < n → x i ≡ y i) → line n a x ≡ line n a y
line_below n a x y h = sum_to-below n (λ i. a i *ℤ x i) (λ i. a i *ℤ y i) (λ i l. ap (λ z. a i *ℤ z) (h i l))

quadratic_below : (n : ℕ) (s : ℕ → ℕ → ℤ) (x y : ℕ → ℤ) → ((i : ℕ) → i < n → x i ≡ y i) → quadratic n s x ≡ quadratic n s y
quadratic_below n s x y h =
    sum_to-below n (column s x) (column s y)
    (λ j l. ap₂ (λ z w. z *ℤ (w +ℤ s j j *ℤ z)) (h j l) (line_below j (λ i. s i j) x y (λ i k. h i (omega (arith, k, l)))))

quadratic_stretched : (n : ℕ) (s : ℕ → ℕ → ℤ) (x : ℕ → ℤ) (u : ℤ) → quadratic n s (λ i. u *ℤ x i) ≡ u *ℤ u *ℤ quadratic n s x
quadratic_stretched zero s x u = by_ring (u ∷ []) (lit (pos 0)) (var 0 ⊗ var 0 ⊗ lit (pos 0)) refl
quadratic_stretched (suc n) s x u =
    ap₂ (λ z w. z +ℤ u *ℤ x n *ℤ (w +ℤ s n n *ℤ (u *ℤ x n))) (quadratic_stretched n s x u) (line_stretched n (λ i. s i n) x u)
    ∙ by_ring (u ∷ quadratic n s x ∷ line n (λ i. s i n) x ∷ s n n ∷ x n ∷ []) (var 0 ⊗ var 0 ⊗ var 1 ⊕ var 0 ⊗ var 4 ⊗ (var 0 ⊗ var 2 ⊕ var 3 ⊗ (var 0 ⊗ var 4))) (var 0 ⊗ var 0 ⊗ (var 1 ⊕ var 4 ⊗ (var 2 ⊕ var 3 ⊗ var 4))) refl

-- ---- numbers of the variables that are not random, and of those that are
module _ (o : Outcomes) (f : Form) (p : Point) (factors : HasRandomFactors o f) (has : HasOutcomes o p) where
  abbrev n : ℕ
  n = length p.nums

  abbrev d : ℤ
  d = p.den

  abbrev g : ℤ
  g = o.den

  abbrev x : ℕ → ℤ
  x i = cell p.nums i

  abbrev y : ℕ → ℤ
  y i = only o.is_random o.nums i

  abbrev a : ℕ → ℤ
  a i = cond (o.is_random i) (pos 0) (cell p.nums i)

  apart : (i : ℕ) → a i *ℤ y i ≡ pos 0
  apart i = go (o.is_random i)
    where
      go : (b : Bool) → cond b (pos 0) (cell p.nums i) *ℤ cond b (o.nums i) (pos 0) ≡ pos 0
      go true = zero-*ℤ (o.nums i)
      go false = *ℤ-zero (cell p.nums i)

  parted : (i : ℕ) → i < n → g *ℤ x i ≡ g *ℤ a i +ℤ d *ℤ y i
  parted i l = go (o.is_random i) (λ e. has i l e)
    where
      go : (b : Bool) → (b ≡ true → cell p.nums i *ℤ o.den ≡ o.nums i *ℤ p.den) → o.den *ℤ cell p.nums i ≡ o.den *ℤ cond b (pos 0) (cell p.nums i) +ℤ p.den *ℤ cond b (o.nums i) (pos 0)
      go true e = by_ring (o.den ∷ cell p.nums i ∷ []) (var 0 ⊗ var 1) (var 1 ⊗ var 0) refl ∙ (e refl ∙ by_ring (o.nums i ∷ p.den ∷ o.den ∷ []) (var 0 ⊗ var 1) (var 2 ⊗ lit (pos 0) ⊕ var 1 ⊗ var 0) refl)
      go false e = by_ring (o.den ∷ cell p.nums i ∷ p.den ∷ []) (var 0 ⊗ var 1) (var 0 ⊗ var 1 ⊕ var 2 ⊗ lit (pos 0)) refl

  -- a product of two that are not random has coefficient 0
  none_left : quadratic n f.square a ≡ pos 0
  none_left = sum_to-zero n (column f.square a) (λ j. col j (o.is_random j) refl)
    where
      cell_left : (i j : ℕ) (b : Bool) → o.is_random i ≡ b → i ≤ j → o.is_random j ≡ false → f.square i j *ℤ cond b (pos 0) (cell p.nums i) ≡ pos 0
      cell_left i j true e l h = *ℤ-zero (f.square i j)
      cell_left i j false e l h = ap (λ z. z *ℤ cell p.nums i) (factors i j l e h) ∙ zero-*ℤ (cell p.nums i)

      line_left : (j k : ℕ) → k ≤ j → o.is_random j ≡ false → line k (λ i. f.square i j) a ≡ pos 0
      line_left j zero l h = refl
      line_left j (suc k) l h = ap₂ (λ z w. z +ℤ w) (line_left j k (omega arith) h) (cell_left k j (o.is_random k) refl (omega arith) h)

      col : (j : ℕ) (b : Bool) → o.is_random j ≡ b → column f.square a j ≡ pos 0
      col j true e = ap (λ b. cond b (pos 0) (cell p.nums j) *ℤ (line j (λ i. f.square i j) a +ℤ f.square j j *ℤ a j)) e ∙ zero-*ℤ (line j (λ i. f.square i j) a +ℤ f.square j j *ℤ a j)
      col j false e = ap₂ (λ z w. a j *ℤ (z +ℤ w)) (line_left j j (omega arith) e) (cell_left j j (o.is_random j) refl (omega arith) e) ∙ *ℤ-zero (a j)

  abbrev linear_left : ℤ
  linear_left = line n f.linear a

  abbrev linear_random : ℤ
  linear_random = line n f.linear y

  abbrev both_kinds : ℤ
  both_kinds = joined n f.square a y

  abbrev square_random : ℤ
  square_random = quadratic n f.square y

  line_parts : g *ℤ line n f.linear x ≡ g *ℤ linear_left +ℤ d *ℤ linear_random
  line_parts = sym (line_stretched n f.linear x g) ∙ (line_below n f.linear (λ i. g *ℤ x i) (λ i. g *ℤ a i +ℤ d *ℤ y i) parted ∙ line_sum n f.linear a y g d)

  square_parts : g *ℤ g *ℤ quadratic n f.square x ≡ g *ℤ d *ℤ both_kinds +ℤ d *ℤ d *ℤ square_random
  square_parts =
      sym (quadratic_stretched n f.square x g)
      ∙ (quadratic_below n f.square (λ i. g *ℤ x i) (λ i. g *ℤ a i +ℤ d *ℤ y i) parted
      ∙ (quadratic_sum n f.square a y g d apart
      ∙ (ap (λ z. g *ℤ g *ℤ z +ℤ g *ℤ d *ℤ both_kinds +ℤ d *ℤ d *ℤ square_random) none_left
      ∙ by_ring (g ∷ d ∷ both_kinds ∷ square_random ∷ []) (var 0 ⊗ var 0 ⊗ lit (pos 0) ⊕ var 0 ⊗ var 1 ⊗ var 2 ⊕ var 1 ⊗ var 1 ⊗ var 3) (var 0 ⊗ var 1 ⊗ var 2 ⊕ var 1 ⊗ var 1 ⊗ var 3) refl)))

  -- the linear part of the affine polynomial
  put_line : line n (put n o f).linear x ≡ g *ℤ g *ℤ linear_left +ℤ g *ℤ both_kinds
  put_line =
      sum_to-below n (λ i. (put n o f).linear i *ℤ x i) (λ i. (g *ℤ g *ℤ f.linear i +ℤ g *ℤ line n (joint_at f.square i) y) *ℤ a i) (λ i l. one i (o.is_random i))
      ∙ line-combine n f.linear (λ i. line n (joint_at f.square i) y) a (g *ℤ g) g
    where
      one : (i : ℕ) (b : Bool) → cond b (pos 0) (g *ℤ (g *ℤ f.linear i +ℤ line n (joint_at f.square i) y)) *ℤ cell p.nums i ≡ (g *ℤ g *ℤ f.linear i +ℤ g *ℤ line n (joint_at f.square i) y) *ℤ cond b (pos 0) (cell p.nums i)
      one i true = zero-*ℤ (cell p.nums i) ∙ sym (*ℤ-zero (g *ℤ g *ℤ f.linear i +ℤ g *ℤ line n (joint_at f.square i) y))
      one i false = ap (λ z. z *ℤ cell p.nums i) (by_ring (g ∷ f.linear i ∷ line n (joint_at f.square i) y ∷ []) (var 0 ⊗ (var 0 ⊗ var 1 ⊕ var 2)) (var 0 ⊗ var 0 ⊗ var 1 ⊕ var 0 ⊗ var 2) refl)

  pub keeps_value : SameRatio (form_value p f) (form_value p (put n o f))
  keeps_value =
      let L = line n f.linear x in
      let Q = quadratic n f.square x in
      let c = f.constant in
      let none : quadratic n (λ i j. pos 0) x ≡ pos 0 = quadratic-zero n (λ i j. pos 0) x (λ i j l. refl) in
      by_ring (c ∷ d ∷ g ∷ L ∷ Q ∷ f.den ∷ []) ((var 0 ⊗ (var 1 ⊗ var 1) ⊕ (var 1 ⊗ var 3 ⊕ var 4)) ⊗ (var 5 ⊗ (var 2 ⊗ var 2) ⊗ (var 1 ⊗ var 1))) ((var 0 ⊗ (var 1 ⊗ var 1) ⊗ (var 2 ⊗ var 2) ⊕ var 1 ⊗ var 2 ⊗ (var 2 ⊗ var 3) ⊕ var 2 ⊗ var 2 ⊗ var 4) ⊗ (var 5 ⊗ (var 1 ⊗ var 1))) refl
      ∙ (ap₂ (λ z w. (c *ℤ (d *ℤ d) *ℤ (g *ℤ g) +ℤ d *ℤ g *ℤ z +ℤ w) *ℤ (f.den *ℤ (d *ℤ d))) line_parts square_parts
      ∙ (by_ring (c ∷ d ∷ g ∷ linear_left ∷ linear_random ∷ both_kinds ∷ square_random ∷ f.den ∷ [])
      ((var 0 ⊗ (var 1 ⊗ var 1) ⊗ (var 2 ⊗ var 2) ⊕ var 1 ⊗ var 2 ⊗ (var 2 ⊗ var 3 ⊕ var 1 ⊗ var 4) ⊕ (var 2 ⊗ var 1 ⊗ var 5 ⊕ var 1 ⊗ var 1 ⊗ var 6)) ⊗ (var 7 ⊗ (var 1 ⊗ var 1)))
      (((var 0 ⊗ (var 2 ⊗ var 2) ⊕ (var 2 ⊗ var 4 ⊕ var 6)) ⊗ (var 1 ⊗ var 1) ⊕ (var 1 ⊗ (var 2 ⊗ var 2 ⊗ var 3 ⊕ var 2 ⊗ var 5) ⊕ lit (pos 0))) ⊗ (var 7 ⊗ (var 1 ⊗ var 1)))
      refl
      ∙ ap₂ (λ z w. ((c *ℤ (g *ℤ g) +ℤ (g *ℤ linear_random +ℤ square_random)) *ℤ (d *ℤ d) +ℤ (d *ℤ z +ℤ w)) *ℤ (f.den *ℤ (d *ℤ d))) (sym put_line) (sym none)))

pub outcomes_keep_values : OutcomesKeepValues
outcomes_keep_values o f p factors has = keeps_value o f p factors has
