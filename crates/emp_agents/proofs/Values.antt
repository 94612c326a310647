-- The value of a form where one variable does not stand in it, and at points that differ in that variable alone.
use Rattle.std.proofs.Common.{◌≡◌, ◌≢◌, ◌⊎◌, inl, inr, ℕ, zero, suc, ◌+◌, ◌<◌, ◌≤◌, ℤ, pos, ◌+ℤ◌, ◌*ℤ◌, Bool, true, false, cond, List, [], ◌∷◌, length, arith, refl, sym, ap, ap₂, ◌∙◌}
use Rattle.std.specs.Prelude.{nat_eq}
use Rattle.std.proofs.lemmas.Bool.{eqb-true, eq-eqb, false≢true}
use Rattle.std.proofs.lemmas.List.{get_or_past}
use lib.IntN.{zero-*ℤ, *ℤ-zero, *ℤ_comm}
use Rattle.emp_algebra.specs.Vector.{cell}
use Rattle.emp_algebra.proofs.Ring.{var, lit, ◌⊕◌, ◌⊗◌, by_ring}
use Rattle.emp_num.specs.Ratio.{SameRatio}
use Rattle.emp_num.specs.Point.{Point, coordinate}
use Rattle.emp_form.specs.Form.{Form, sum_to, line, column, quadratic, top_at, unit_at}
use Rattle.emp_form.proofs.Lines.{sum_to-below, sum_to-zero, sum_to-scale, line-combine, line-unit, line-unit_none, line-scale, quadratic-scale}
use Rattle.emp_agents.specs.Given.{without, times_form, HasTerm}
use Rattle.emp_agents.proofs.Terms.{no_linear}

-- ---- more variables than the point has
abbrev pub same_function : {x y : ℕ → ℤ} → ((i : ℕ) → x i ≡ y i) → x ≡ y
same_function h = λ j i. h i j

pub sum_past : (n m : ℕ) (f : ℕ → ℤ) → m ≤ n → ((i : ℕ) → m ≤ i → f i ≡ pos 0) → sum_to n f ≡ sum_to m f
sum_past zero zero f h e = refl
sum_past zero (suc m) f h e = absurd (omega arith)
sum_past (suc n) m f h e = go (cases m n) (λ l. sum_past n m f l e)
  where
    cases : (m n : ℕ) → (m ≤ n) ⊎ (n < m)
    cases m n = grind arith

    go : (m ≤ n) ⊎ (n < m) → (m ≤ n → sum_to n f ≡ sum_to m f) → sum_to (suc n) f ≡ sum_to m f
    go (inl l) rest = ap₂ (λ x y. x +ℤ y) (rest l) (e n l) ∙ by_ring (sum_to m f ∷ []) (var 0 ⊕ lit (pos 0)) (var 0) refl
    go (inr l) rest = let s : suc n ≡ m = omega arith in ap (λ k. sum_to k f) s

pub top_padded : (n : ℕ) (xs : List ℤ) (d : ℤ) (f : Form) → length xs ≤ n → top_at n d (cell xs) f ≡ top_at (length xs) d (cell xs) f
top_padded n xs d f h =
    ap₂ (λ l q. f.constant *ℤ (d *ℤ d) +ℤ (d *ℤ l +ℤ q))
    (sum_past n (length xs) (λ i. f.linear i *ℤ cell xs i) h (λ i l. ap (λ z. f.linear i *ℤ z) (get_or_past xs i (pos 0) l) ∙ *ℤ-zero (f.linear i)))
    (sum_past n (length xs) (column f.square (cell xs)) h (λ j l. ap (λ z. z *ℤ (line j (λ i. f.square i j) (cell xs) +ℤ f.square j j *ℤ cell xs j)) (get_or_past xs j (pos 0) l) ∙ zero-*ℤ (line j (λ i. f.square i j) (cell xs) +ℤ f.square j j *ℤ cell xs j)))

-- ---- the same point by larger numbers
line_stretched : (n : ℕ) (c : ℤ) (a x : ℕ → ℤ) → line n a (λ i. c *ℤ x i) ≡ c *ℤ line n a x
line_stretched n c a x =
    sum_to-below n (λ i. a i *ℤ (c *ℤ x i)) (λ i. c *ℤ (a i *ℤ x i)) (λ i l. by_ring (a i ∷ c ∷ x i ∷ []) (var 0 ⊗ (var 1 ⊗ var 2)) (var 1 ⊗ (var 0 ⊗ var 2)) refl)
    ∙ sum_to-scale n c (λ i. a i *ℤ x i)

pub quadratic_stretched : (n : ℕ) (c : ℤ) (s : ℕ → ℕ → ℤ) (x : ℕ → ℤ) → quadratic n s (λ i. c *ℤ x i) ≡ c *ℤ c *ℤ quadratic n s x
quadratic_stretched n c s x =
    sum_to-below n (column s (λ i. c *ℤ x i)) (λ j. c *ℤ c *ℤ column s x j)
    (λ j l. ap (λ z. c *ℤ x j *ℤ (z +ℤ s j j *ℤ (c *ℤ x j))) (line_stretched j c (λ i. s i j) x) ∙ by_ring (c ∷ x j ∷ line j (λ i. s i j) x ∷ s j j ∷ []) (var 0 ⊗ var 1 ⊗ (var 0 ⊗ var 2 ⊕ var 3 ⊗ (var 0 ⊗ var 1))) (var 0 ⊗ var 0 ⊗ (var 1 ⊗ (var 2 ⊕ var 3 ⊗ var 1))) refl)
    ∙ sum_to-scale n (c *ℤ c) (column s x)

pub top_stretched : (n : ℕ) (c d : ℤ) (x : ℕ → ℤ) (f : Form) → top_at n (c *ℤ d) (λ i. c *ℤ x i) f ≡ c *ℤ c *ℤ top_at n d x f
top_stretched n c d x f =
    ap₂ (λ l q. f.constant *ℤ (c *ℤ d *ℤ (c *ℤ d)) +ℤ (c *ℤ d *ℤ l +ℤ q)) (line_stretched n c f.linear x) (quadratic_stretched n c f.square x)
    ∙ by_ring (f.constant ∷ c ∷ d ∷ line n f.linear x ∷ quadratic n f.square x ∷ [])
    (var 0 ⊗ (var 1 ⊗ var 2 ⊗ (var 1 ⊗ var 2)) ⊕ (var 1 ⊗ var 2 ⊗ (var 1 ⊗ var 3) ⊕ var 1 ⊗ var 1 ⊗ var 4))
    (var 1 ⊗ var 1 ⊗ (var 0 ⊗ (var 2 ⊗ var 2) ⊕ (var 2 ⊗ var 3 ⊕ var 4)))
    refl

-- at a point, by more variables and larger numbers
pub top_common : (p : Point) (n : ℕ) (c : ℤ) (f : Form) → length p.nums ≤ n → c *ℤ c *ℤ top_at (length p.nums) p.den (cell p.nums) f ≡ top_at n (c *ℤ p.den) (λ i. c *ℤ cell p.nums i) f
top_common p n c f h = ap (λ z. c *ℤ c *ℤ z) (sym (top_padded n p.nums p.den f h)) ∙ sym (top_stretched n c p.den (cell p.nums) f)

-- ---- a variable that does not stand in the form
abbrev pub erased : ℕ → (ℕ → ℤ) → ℕ → ℤ
erased w x i = cond (nat_eq i w) (pos 0) (x i)

term_erased : (w : ℕ) (a x : ℕ → ℤ) → a w ≡ pos 0 → (i : ℕ) → a i *ℤ x i ≡ a i *ℤ erased w x i
term_erased w a x h i = go (nat_eq i w) refl
  where
    go : (b : Bool) → nat_eq i w ≡ b → a i *ℤ x i ≡ a i *ℤ cond b (pos 0) (x i)
    go true q = ap (λ z. z *ℤ x i) (ap a (eqb-true i w q) ∙ h) ∙ (zero-*ℤ (x i) ∙ sym (*ℤ-zero (a i)))
    go false q = refl

line_erased : (n w : ℕ) (a x : ℕ → ℤ) → a w ≡ pos 0 → line n a x ≡ line n a (erased w x)
line_erased n w a x h = sum_to-below n (λ i. a i *ℤ x i) (λ i. a i *ℤ erased w x i) (λ i l. term_erased w a x h i)

column_erased : (w : ℕ) (s : ℕ → ℕ → ℤ) (x : ℕ → ℤ) → ((j : ℕ) → s w j ≡ pos 0) → ((i : ℕ) → s i w ≡ pos 0) → (j : ℕ) → column s x j ≡ column s (erased w x) j
column_erased w s x h k j = ap₂ (λ l t. x j *ℤ (l +ℤ t)) (line_erased j w (λ i. s i j) x (h j)) (term_erased w (s j) x (k j) j) ∙ go (nat_eq j w) refl
  where
    rest : ℤ
    rest = line j (λ i. s i j) (erased w x)

    nothing : j ≡ w → rest ≡ pos 0
    nothing e = sum_to-zero j (λ i. s i j *ℤ erased w x i) (λ i. ap (λ z. z *ℤ erased w x i) (ap (s i) e ∙ k i) ∙ zero-*ℤ (erased w x i))

    go : (b : Bool) → nat_eq j w ≡ b → x j *ℤ (rest +ℤ s j j *ℤ cond b (pos 0) (x j)) ≡ cond b (pos 0) (x j) *ℤ (rest +ℤ s j j *ℤ cond b (pos 0) (x j))
    go true q = ap (λ z. x j *ℤ (z +ℤ s j j *ℤ pos 0)) (nothing (eqb-true j w q)) ∙ by_ring (x j ∷ s j j ∷ rest ∷ []) (var 0 ⊗ (lit (pos 0) ⊕ var 1 ⊗ lit (pos 0))) (lit (pos 0) ⊗ (var 2 ⊕ var 1 ⊗ lit (pos 0))) refl
    go false q = refl

top_erased : (n w : ℕ) (d : ℤ) (x : ℕ → ℤ) (f : Form) → HasTerm w (pos 0) f → top_at n d x f ≡ top_at n d (erased w x) f
top_erased n w d x f h =
    ap₂ (λ l q. f.constant *ℤ (d *ℤ d) +ℤ (d *ℤ l +ℤ q)) (line_erased n w f.linear x (no_linear w f h)) (sum_to-below n (column f.square x) (column f.square (erased w x)) (λ j l. column_erased w f.square x h.first h.second j))

-- points that agree but for w
pub top_apart : (w : ℕ) (f : Form) → HasTerm w (pos 0) f → (p r : Point) → ((v : ℕ) → v ≢ w → SameRatio (coordinate p v) (coordinate r v)) → r.den *ℤ r.den *ℤ top_at (length p.nums) p.den (cell p.nums) f ≡ p.den *ℤ p.den *ℤ top_at (length r.nums) r.den (cell r.nums) f
top_apart w f h p r apart =
    top_common p n r.den f (omega arith)
    ∙ (top_erased n w (r.den *ℤ p.den) (λ i. r.den *ℤ cell p.nums i) f h
    ∙ (ap₂ (λ d x. top_at n d x f) (*ℤ_comm r.den p.den) (same_function same)
    ∙ (sym (top_erased n w (p.den *ℤ r.den) (λ i. p.den *ℤ cell r.nums i) f h)
    ∙ sym (top_common r n p.den f (omega arith)))))
  where
    n : ℕ
    n = length p.nums + length r.nums

    same : (i : ℕ) → erased w (λ i. r.den *ℤ cell p.nums i) i ≡ erased w (λ i. p.den *ℤ cell r.nums i) i
    same i = go (nat_eq i w) refl
      where
        go : (b : Bool) → nat_eq i w ≡ b → cond b (pos 0) (r.den *ℤ cell p.nums i) ≡ cond b (pos 0) (p.den *ℤ cell r.nums i)
        go true q = refl
        go false q = *ℤ_comm r.den (cell p.nums i) ∙ (apart i (λ e. false≢true (sym q ∙ eq-eqb i w e)) ∙ *ℤ_comm (cell r.nums i) p.den)

-- ---- the term of a variable
own_line : (xs : List ℤ) (k : ℕ) → line (length xs) (unit_at k) (cell xs) ≡ cell xs k
own_line xs k = go (cases k (length xs))
  where
    cases : (k n : ℕ) → (k < n) ⊎ (n ≤ k)
    cases k n = grind arith

    go : (k < length xs) ⊎ (length xs ≤ k) → line (length xs) (unit_at k) (cell xs) ≡ cell xs k
    go (inl l) = line-unit (length xs) k (cell xs) l
    go (inr l) = line-unit_none (length xs) k (cell xs) l ∙ sym (get_or_past xs k (pos 0) l)

parted : (w : ℕ) (a : ℕ → ℤ) (i : ℕ) → a i ≡ pos 1 *ℤ cond (nat_eq i w) (pos 0) (a i) +ℤ a w *ℤ unit_at w i
parted w a i = go (nat_eq i w) refl
  where
    go : (b : Bool) → nat_eq i w ≡ b → a i ≡ pos 1 *ℤ cond b (pos 0) (a i) +ℤ a w *ℤ cond b (pos 1) (pos 0)
    go true q = ap a (eqb-true i w q) ∙ by_ring (a w ∷ []) (var 0) (lit (pos 1) ⊗ lit (pos 0) ⊕ var 0 ⊗ lit (pos 1)) refl
    go false q = by_ring (a i ∷ a w ∷ []) (var 0) (lit (pos 1) ⊗ var 0 ⊕ var 1 ⊗ lit (pos 0)) refl

pub top_split : (xs : List ℤ) (d : ℤ) (w : ℕ) (f : Form) → top_at (length xs) d (cell xs) f ≡ top_at (length xs) d (cell xs) (without w f) +ℤ d *ℤ (f.linear w *ℤ cell xs w)
top_split xs d w f =
    let n = length xs in
    let rest = without w f in
    ap (λ l. f.constant *ℤ (d *ℤ d) +ℤ (d *ℤ l +ℤ quadratic (length xs) f.square (cell xs)))
    (ap (λ a. line (length xs) a (cell xs)) (same_function (parted w f.linear))
    ∙ (line-combine (length xs) rest.linear (unit_at w) (cell xs) (pos 1) (f.linear w) ∙ ap (λ z. pos 1 *ℤ line (length xs) rest.linear (cell xs) +ℤ f.linear w *ℤ z) (own_line xs w)))
    ∙ by_ring (f.constant ∷ d ∷ line n rest.linear (cell xs) ∷ f.linear w ∷ cell xs w ∷ quadratic n f.square (cell xs) ∷ [])
    (var 0 ⊗ (var 1 ⊗ var 1) ⊕ (var 1 ⊗ (lit (pos 1) ⊗ var 2 ⊕ var 3 ⊗ var 4) ⊕ var 5))
    (var 0 ⊗ (var 1 ⊗ var 1) ⊕ (var 1 ⊗ var 2 ⊕ var 5) ⊕ var 1 ⊗ (var 3 ⊗ var 4))
    refl

pub top_times : (n : ℕ) (d : ℤ) (x : ℕ → ℤ) (s : ℤ) (f : Form) → top_at n d x (times_form s f) ≡ s *ℤ top_at n d x f
top_times n d x s f =
    ap₂ (λ l q. s *ℤ f.constant *ℤ (d *ℤ d) +ℤ (d *ℤ l +ℤ q)) (line-scale n s f.linear x) (quadratic-scale n s f.square x)
    ∙ by_ring (s ∷ f.constant ∷ d ∷ line n f.linear x ∷ quadratic n f.square x ∷ [])
    (var 0 ⊗ var 1 ⊗ (var 2 ⊗ var 2) ⊕ (var 2 ⊗ (var 0 ⊗ var 3) ⊕ var 0 ⊗ var 4))
    (var 0 ⊗ (var 1 ⊗ (var 2 ⊗ var 2) ⊕ (var 2 ⊗ var 3 ⊕ var 4)))
    refl
