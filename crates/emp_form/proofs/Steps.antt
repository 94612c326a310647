-- The value of a form along a step.
use Rattle.std.proofs.Common.{◌≡◌, ℕ, zero, suc, ◌+◌, ◌<◌, ℤ, pos, ◌+ℤ◌, ◌*ℤ◌, true, false, cond, [], ◌∷◌, arith, refl, sym, ap, ap₂, ◌∙◌}
use Rattle.std.specs.Prelude.{nat_lt, nat_eq}
use Rattle.emp_algebra.proofs.Ring.{var, lit, ◌⊕◌, ◌⊗◌, by_ring}
use Rattle.emp_form.specs.Form.{Form, sum_to, line, quadratic, top_at}
use Rattle.emp_form.specs.Partial.{second_at, partial_form, moved, StepExpands}
use Rattle.emp_form.proofs.Lines.{sum_to-below, sum_to-plus, sum_to-scale, quadratic-zero}

-- ---- second derivatives
same_is : (i : ℕ) → nat_eq i i ≡ true
same_is i = grind arith

below_is : (i n : ℕ) → i < n → nat_eq i n ≡ false
below_is i n h = grind arith

above_is : (i n : ℕ) → i < n → nat_eq n i ≡ false
above_is i n h = grind arith

below_lt : (i n : ℕ) → i < n → nat_lt i n ≡ true
below_lt i n h = grind arith

above_lt : (i n : ℕ) → i < n → nat_lt n i ≡ false
above_lt i n h = grind arith

second_own : (s : ℕ → ℕ → ℤ) (n : ℕ) → second_at s n n ≡ pos 2 *ℤ s n n
second_own s n = ap (λ t. cond t (pos 2 *ℤ s n n) (cond (nat_lt n n) (s n n) (s n n))) (same_is n)

second_before : (s : ℕ → ℕ → ℤ) (n i : ℕ) → i < n → second_at s n i ≡ s i n
second_before s n i h = ap₂ (λ t u. cond t (pos 2 *ℤ s n n) (cond u (s i n) (s n i))) (below_is i n h) (below_lt i n h)

second_after : (s : ℕ → ℕ → ℤ) (k n : ℕ) → k < n → second_at s k n ≡ s k n
second_after s k n h = ap₂ (λ t u. cond t (pos 2 *ℤ s k k) (cond u (s n k) (s k n))) (above_is k n h) (above_lt k n h)

-- ---- lines
line-moved : (n : ℕ) (a x v : ℕ → ℤ) → line n a (moved x v) ≡ line n a x +ℤ line n a v
line-moved zero a x v = refl
line-moved (suc n) a x v =
    ap (λ z. z +ℤ a n *ℤ (x n +ℤ v n)) (line-moved n a x v) ∙ by_ring (line n a x ∷ line n a v ∷ a n ∷ x n ∷ v n ∷ []) (var 0 ⊕ var 1 ⊕ var 2 ⊗ (var 3 ⊕ var 4)) (var 0 ⊕ var 2 ⊗ var 3 ⊕ (var 1 ⊕ var 2 ⊗ var 4)) refl

line-below : (n : ℕ) (a b x : ℕ → ℤ) → ((i : ℕ) → i < n → a i ≡ b i) → line n a x ≡ line n b x
line-below n a b x h = sum_to-below n (λ i. a i *ℤ x i) (λ i. b i *ℤ x i) (λ i l. ap (λ z. z *ℤ x i) (h i l))

-- the slope of the quadratic part
abbrev slope : ℕ → (ℕ → ℕ → ℤ) → (ℕ → ℤ) → (ℕ → ℤ) → ℤ
slope n s x v = sum_to n (λ k. v k *ℤ line n (second_at s k) x)

-- the terms that the last variable adds to the slopes of those before it
added : (n : ℕ) (s : ℕ → ℕ → ℤ) (x v : ℕ → ℤ) → sum_to n (λ k. v k *ℤ line (suc n) (second_at s k) x) ≡ slope n s x v +ℤ x n *ℤ line n (λ k. s k n) v
added n s x v =
    sum_to-below n (λ k. v k *ℤ line (suc n) (second_at s k) x) (λ k. v k *ℤ line n (second_at s k) x +ℤ x n *ℤ (s k n *ℤ v k))
    (λ k l. ap (λ z. v k *ℤ (line n (second_at s k) x +ℤ z *ℤ x n)) (second_after s k n l) ∙ by_ring (v k ∷ line n (second_at s k) x ∷ s k n ∷ x n ∷ []) (var 0 ⊗ (var 1 ⊕ var 2 ⊗ var 3)) (var 0 ⊗ var 1 ⊕ var 3 ⊗ (var 2 ⊗ var 0)) refl) ∙ (sum_to-plus n (λ k. v k *ℤ line n (second_at s k) x) (λ k. x n *ℤ (s k n *ℤ v k)) ∙ ap (λ z. slope n s x v +ℤ z) (sum_to-scale n (x n) (λ k. s k n *ℤ v k)))

last_slope : (n : ℕ) (s : ℕ → ℕ → ℤ) (x : ℕ → ℤ) → line (suc n) (second_at s n) x ≡ line n (λ i. s i n) x +ℤ pos 2 *ℤ s n n *ℤ x n
last_slope n s x = ap₂ (λ y z. y +ℤ z *ℤ x n) (line-below n (second_at s n) (λ i. s i n) x (λ i l. second_before s n i l)) (second_own s n)

quadratic-moved : (n : ℕ) (s : ℕ → ℕ → ℤ) (x v : ℕ → ℤ) → quadratic n s (moved x v) ≡ quadratic n s x +ℤ slope n s x v +ℤ quadratic n s v
quadratic-moved zero s x v = refl
quadratic-moved (suc n) s x v =
    ap₂ (λ q l. q +ℤ (x n +ℤ v n) *ℤ (l +ℤ s n n *ℤ (x n +ℤ v n))) (quadratic-moved n s x v) (line-moved n (λ i. s i n) x v) ∙ (by_ring (quadratic n s x ∷ slope n s x v ∷ quadratic n s v ∷ x n ∷ v n ∷ line n (λ i. s i n) x ∷ line n (λ i. s i n) v ∷ s n n ∷ [])
    (var 0 ⊕ var 1 ⊕ var 2 ⊕ (var 3 ⊕ var 4) ⊗ (var 5 ⊕ var 6 ⊕ var 7 ⊗ (var 3 ⊕ var 4)))
    (var 0 ⊕ var 3 ⊗ (var 5 ⊕ var 7 ⊗ var 3) ⊕ (var 1 ⊕ var 3 ⊗ var 6 ⊕ var 4 ⊗ (var 5 ⊕ lit (pos 2) ⊗ var 7 ⊗ var 3)) ⊕ (var 2 ⊕ var 4 ⊗ (var 6 ⊕ var 7 ⊗ var 4)))
    refl ∙ ap₂ (λ y z. quadratic (suc n) s x +ℤ (y +ℤ v n *ℤ z) +ℤ quadratic (suc n) s v) (sym (added n s x v)) (sym (last_slope n s x)))

-- ---- the whole form
partial_top : (n : ℕ) (d : ℤ) (x : ℕ → ℤ) (f : Form) (k : ℕ) → top_at n d x (partial_form k f) ≡ d *ℤ (d *ℤ f.linear k +ℤ line n (second_at f.square k) x)
partial_top n d x f k =
    ap (λ q. f.linear k *ℤ (d *ℤ d) +ℤ (d *ℤ line n (second_at f.square k) x +ℤ q)) (quadratic-zero n (λ i j. pos 0) x (λ i j l. refl)) ∙ by_ring (f.linear k ∷ d ∷ line n (second_at f.square k) x ∷ []) (var 0 ⊗ (var 1 ⊗ var 1) ⊕ (var 1 ⊗ var 2 ⊕ lit (pos 0))) (var 1 ⊗ (var 1 ⊗ var 0 ⊕ var 2)) refl

slopes : (n : ℕ) (d : ℤ) (x v : ℕ → ℤ) (f : Form) → sum_to n (λ k. v k *ℤ top_at n d x (partial_form k f)) ≡ d *ℤ (d *ℤ line n f.linear v +ℤ slope n f.square x v)
slopes n d x v f =
    sum_to-below n (λ k. v k *ℤ top_at n d x (partial_form k f)) (λ k. d *ℤ (d *ℤ (f.linear k *ℤ v k) +ℤ v k *ℤ line n (second_at f.square k) x))
    (λ k l. ap (λ z. v k *ℤ z) (partial_top n d x f k) ∙ by_ring (v k ∷ d ∷ f.linear k ∷ line n (second_at f.square k) x ∷ []) (var 0 ⊗ (var 1 ⊗ (var 1 ⊗ var 2 ⊕ var 3))) (var 1 ⊗ (var 1 ⊗ (var 2 ⊗ var 0) ⊕ var 0 ⊗ var 3)) refl) ∙ (sum_to-scale n d (λ k. d *ℤ (f.linear k *ℤ v k) +ℤ v k *ℤ line n (second_at f.square k) x) ∙ ap (λ z. d *ℤ z) (sum_to-plus n (λ k. d *ℤ (f.linear k *ℤ v k)) (λ k. v k *ℤ line n (second_at f.square k) x) ∙ ap (λ z. z +ℤ slope n f.square x v) (sum_to-scale n d (λ k. f.linear k *ℤ v k))))

pub step_expands : StepExpands
step_expands n d x v f =
    ap₂ (λ l q. d *ℤ (f.constant *ℤ (d *ℤ d) +ℤ (d *ℤ l +ℤ q))) (line-moved n f.linear x v) (quadratic-moved n f.square x v) ∙ (by_ring (d ∷ f.constant ∷ line n f.linear x ∷ line n f.linear v ∷ quadratic n f.square x ∷ slope n f.square x v ∷ quadratic n f.square v ∷ [])
    (var 0 ⊗ (var 1 ⊗ (var 0 ⊗ var 0) ⊕ (var 0 ⊗ (var 2 ⊕ var 3) ⊕ (var 4 ⊕ var 5 ⊕ var 6))))
    (var 0 ⊗ (var 1 ⊗ (var 0 ⊗ var 0) ⊕ (var 0 ⊗ var 2 ⊕ var 4)) ⊕ var 0 ⊗ (var 0 ⊗ var 3 ⊕ var 5) ⊕ var 0 ⊗ var 6)
    refl ∙ ap (λ z. d *ℤ top_at n d x f +ℤ z +ℤ d *ℤ quadratic n f.square v) (sym (slopes n d x v f)))
