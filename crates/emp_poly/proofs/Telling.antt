-- Forms with the same value at every point have the same coefficients.
use Rattle.std.proofs.Common.{◌≡◌, ◌≢◌, ◌⊎◌, inl, inr, ℕ, zero, suc, ◌+◌, ◌<◌, ◌≤◌, ℤ, pos, negsuc, neg_ℤ, ◌+ℤ◌, ◌*ℤ◌, ◌<ℤ◌, List, [], ◌∷◌, length, set, replicate, arith, refl, sym, ap, ap₂, subst, ◌∙◌}
use Rattle.std.proofs.lemmas.Int.{ints}
use Rattle.std.proofs.lemmas.List.{length-set, length-replicate, get_or-set_same, get_or-set_other, get_or-replicate}
use lib.IntN.{zero-*ℤ, *ℤ-zero}
use Rattle.emp_algebra.specs.Vector.{cell}
use Rattle.emp_algebra.proofs.Laws.{mul_pos}
use Rattle.emp_algebra.proofs.Order.{cancel_right}
use Rattle.emp_algebra.proofs.Ring.{var, lit, neg, ◌⊕◌, ◌⊗◌, by_ring}
use Rattle.emp_num.specs.FracSpec.{IsQuotient}
use Rattle.emp_num.specs.Ratio.{SameRatio}
use Rattle.emp_num.specs.Point.{Point}
use Rattle.emp_num.specs.declared.frac.Frac.{Frac}
use Rattle.emp_num.proofs.Same.{same_value}
use Rattle.emp_form.specs.Form.{Form, sum_to, line, column, quadratic, top_at, form_value}
use Rattle.emp_form.proofs.Lines.{sum_to-below, sum_to-zero, line-combine, quadratic-combine}
use Rattle.emp_poly.specs.Quads.{linear_at, square_at, quad_value}
use Rattle.emp_poly.specs.Laws.{SameCoefficients, SameQuads}
use Rattle.emp_poly.specs.declared.quad.Quad.{Quad}
use Rattle.emp_poly.proofs.QuadForms.{quad_form, has_quad_form, entry_quad, ratio_trans, number_cases}

-- ---- numbers
zero_plus : (z : ℤ) → pos 0 +ℤ z ≡ z
zero_plus z = by_ring (z ∷ []) (lit (pos 0) ⊕ var 0) (var 0) refl

plus_zero : (z : ℤ) → z +ℤ pos 0 ≡ z
plus_zero z = by_ring (z ∷ []) (var 0 ⊕ lit (pos 0)) (var 0) refl

below_apart : (k n i : ℕ) → k < n → i ≡ n → k ≢ i
below_apart k n i l e g = omega arith

-- ---- sums of which few terms are not 0
sum_none : (n : ℕ) (f : ℕ → ℤ) → ((k : ℕ) → k < n → f k ≡ pos 0) → sum_to n f ≡ pos 0
sum_none n f h = sum_to-below n f (λ k. pos 0) h ∙ sum_to-zero n (λ k. pos 0) (λ k. refl)

sum_only : (n i : ℕ) (f : ℕ → ℤ) → i < n → ((k : ℕ) → k < n → k ≢ i → f k ≡ pos 0) → sum_to n f ≡ f i
sum_only zero i f l h = absurd (omega arith)
sum_only (suc n) i f l h = go (number_cases i n) (λ m. sum_only n i f m (λ k b ne. h k (omega arith) ne))
  where
    go : (i ≡ n) ⊎ (i ≢ n) → (i < n → sum_to n f ≡ f i) → sum_to n f +ℤ f n ≡ f i
    go (inl e) rest = ap (λ z. z +ℤ f n) (sum_none n f (λ k b. h k (omega arith) (below_apart k n i b e))) ∙ (zero_plus (f n) ∙ ap f (sym e))
    go (inr ne) rest = ap₂ (λ y z. y +ℤ z) (rest (omega arith)) (h n (omega arith) (λ e. ne (sym e))) ∙ plus_zero (f i)

sum_two : (n i j : ℕ) (f : ℕ → ℤ) → i < j → j < n → ((k : ℕ) → k < n → k ≢ i → k ≢ j → f k ≡ pos 0) → sum_to n f ≡ f i +ℤ f j
sum_two zero i j f l m h = absurd (omega arith)
sum_two (suc n) i j f l m h = go (number_cases j n) (λ m. sum_two n i j f l m (λ k b ne nf. h k (omega arith) ne nf))
  where
    go : (j ≡ n) ⊎ (j ≢ n) → (j < n → sum_to n f ≡ f i +ℤ f j) → sum_to n f +ℤ f n ≡ f i +ℤ f j
    go (inl e) rest = ap₂ (λ y z. y +ℤ z) (sum_only n i f (omega arith) (λ k b ne. h k (omega arith) ne (below_apart k n j b e))) (ap f (sym e))
    go (inr ne) rest = ap₂ (λ y z. y +ℤ z) (rest (omega arith)) (h n (omega arith) (λ e. omega arith) (λ e. ne (sym e))) ∙ plus_zero (f i +ℤ f j)

-- ---- lines and quadratic parts where few coordinates are not 0
line_none : (n : ℕ) (a x : ℕ → ℤ) → ((k : ℕ) → k < n → x k ≡ pos 0) → line n a x ≡ pos 0
line_none n a x h = sum_none n (λ k. a k *ℤ x k) (λ k b. ap (λ z. a k *ℤ z) (h k b) ∙ *ℤ-zero (a k))

line_one : (n i : ℕ) (a x : ℕ → ℤ) → i < n → ((k : ℕ) → k < n → k ≢ i → x k ≡ pos 0) → line n a x ≡ a i *ℤ x i
line_one n i a x l h = sum_only n i (λ k. a k *ℤ x k) l (λ k b ne. ap (λ z. a k *ℤ z) (h k b ne) ∙ *ℤ-zero (a k))

line_two : (n i j : ℕ) (a x : ℕ → ℤ) → i < j → j < n → ((k : ℕ) → k < n → k ≢ i → k ≢ j → x k ≡ pos 0) → line n a x ≡ a i *ℤ x i +ℤ a j *ℤ x j
line_two n i j a x l m h = sum_two n i j (λ k. a k *ℤ x k) l m (λ k b ne nf. ap (λ z. a k *ℤ z) (h k b ne nf) ∙ *ℤ-zero (a k))

column_none : (s : ℕ → ℕ → ℤ) (x : ℕ → ℤ) (k : ℕ) → x k ≡ pos 0 → column s x k ≡ pos 0
column_none s x k e = ap (λ z. z *ℤ (line k (λ i. s i k) x +ℤ s k k *ℤ x k)) e ∙ zero-*ℤ (line k (λ i. s i k) x +ℤ s k k *ℤ x k)

column_one : (s : ℕ → ℕ → ℤ) (x : ℕ → ℤ) (i : ℕ) → ((k : ℕ) → k < i → x k ≡ pos 0) → column s x i ≡ x i *ℤ (s i i *ℤ x i)
column_one s x i h = ap (λ z. x i *ℤ (z +ℤ s i i *ℤ x i)) (line_none i (λ k. s k i) x h) ∙ ap (λ z. x i *ℤ z) (zero_plus (s i i *ℤ x i))

lower_apart : (k i j : ℕ) → k < i → i ≤ j → k ≢ j
lower_apart k i j l m e = omega arith

quadratic_one : (n i : ℕ) (s : ℕ → ℕ → ℤ) (x : ℕ → ℤ) → i < n → ((k : ℕ) → k < n → k ≢ i → x k ≡ pos 0) → quadratic n s x ≡ x i *ℤ (s i i *ℤ x i)
quadratic_one n i s x l h =
    sum_only n i (column s x) l (λ k b ne. column_none s x k (h k b ne)) ∙ column_one s x i (λ k b. h k (omega arith) (lower_apart k i i b (omega arith)))

quadratic_two : (n i j : ℕ) (s : ℕ → ℕ → ℤ) (x : ℕ → ℤ) → i < j → j < n → ((k : ℕ) → k < n → k ≢ i → k ≢ j → x k ≡ pos 0) → quadratic n s x ≡ x i *ℤ (s i i *ℤ x i) +ℤ x j *ℤ (s i j *ℤ x i +ℤ s j j *ℤ x j)
quadratic_two n i j s x l m h =
    sum_two n i j (column s x) l m (λ k b ne nf. column_none s x k (h k b ne nf)) ∙ ap₂ (λ y z. y +ℤ x j *ℤ (z +ℤ s j j *ℤ x j)) (column_one s x i (λ k b. h k (omega arith) (lower_apart k i i b (omega arith)) (lower_apart k i j b (omega arith)))) (line_one j i (λ k. s k j) x l (λ k b ne. h k (omega arith) ne (lower_apart k j j b (omega arith))))

-- ---- points with one coordinate, and with two
abbrev one_spot : ℕ → ℕ → ℤ → List ℤ
one_spot n i z = set (replicate n (pos 0)) i z

one_length : (n i : ℕ) (z : ℤ) → length (one_spot n i z) ≡ n
one_length n i z = length-set (replicate n (pos 0)) i z ∙ length-replicate n (pos 0)

one_here : (n i : ℕ) (z : ℤ) → i < n → cell (one_spot n i z) i ≡ z
one_here n i z l = get_or-set_same (replicate n (pos 0)) i z (pos 0) (subst (λ m. i < m) (sym (length-replicate n (pos 0))) l)

one_other : (n i : ℕ) (z : ℤ) (k : ℕ) → k < n → k ≢ i → cell (one_spot n i z) k ≡ pos 0
one_other n i z k b ne = get_or-set_other (replicate n (pos 0)) i k z (pos 0) ne ∙ get_or-replicate n k (pos 0) (pos 0) b

abbrev two_spots : ℕ → ℕ → ℕ → List ℤ
two_spots n i j = set (one_spot n j (pos 1)) i (pos 1)

two_length : (n i j : ℕ) → length (two_spots n i j) ≡ n
two_length n i j = length-set (one_spot n j (pos 1)) i (pos 1) ∙ one_length n j (pos 1)

two_first : (n i j : ℕ) → i < n → cell (two_spots n i j) i ≡ pos 1
two_first n i j l = get_or-set_same (one_spot n j (pos 1)) i (pos 1) (pos 0) (subst (λ m. i < m) (sym (one_length n j (pos 1))) l)

two_second : (n i j : ℕ) → j < n → j ≢ i → cell (two_spots n i j) j ≡ pos 1
two_second n i j l ne = get_or-set_other (one_spot n j (pos 1)) i j (pos 1) (pos 0) ne ∙ one_here n j (pos 1) l

two_other : (n i j : ℕ) (k : ℕ) → k < n → k ≢ i → k ≢ j → cell (two_spots n i j) k ≡ pos 0
two_other n i j k b ne nf = get_or-set_other (one_spot n j (pos 1)) i k (pos 1) (pos 0) ne ∙ one_other n j (pos 1) k b nf

-- ---- a form that is 0 at every point of whole numbers has no coefficient but 0
abbrev IsZeroAt : Form → List ℤ → Type 0
IsZeroAt h xs = top_at (length xs) (pos 1) (cell xs) h ≡ pos 0

both_signs : (b s : ℤ) → b +ℤ s ≡ pos 0 → neg_ℤ b +ℤ s ≡ pos 0 → (b ≡ pos 0) × (s ≡ pos 0)
both_signs b s e f = (omega (arith, ints), omega (arith, ints))

module _ (h : Form) (none : (xs : List ℤ) → IsZeroAt h xs) where
  no_constant : h.constant ≡ pos 0
  no_constant = by_ring (h.constant ∷ []) (var 0) (var 0 ⊗ (lit (pos 1) ⊗ lit (pos 1)) ⊕ (lit (pos 1) ⊗ lit (pos 0) ⊕ lit (pos 0))) refl ∙ none []

  one_top : (n i : ℕ) (z : ℤ) (xs : List ℤ) → xs ≡ one_spot n i z → length xs ≡ n → i < n → h.linear i *ℤ z +ℤ z *ℤ (h.square i i *ℤ z) ≡ pos 0
  one_top n i z xs e len l =
      let here : cell xs i ≡ z = ap (λ ys. cell ys i) e ∙ one_here n i z l in
      let within : i < length xs = omega arith in
      let other : (k : ℕ) → k < length xs → k ≢ i → cell xs k ≡ pos 0 = λ k b ne. ap (λ ys. cell ys k) e ∙ one_other n i z k (omega arith) ne in
      let value : top_at (length xs) (pos 1) (cell xs) h ≡ h.linear i *ℤ z +ℤ z *ℤ (h.square i i *ℤ z) =
      ap (λ c. c *ℤ (pos 1 *ℤ pos 1) +ℤ (pos 1 *ℤ line (length xs) h.linear (cell xs) +ℤ quadratic (length xs) h.square (cell xs))) no_constant ∙ (ap₂ (λ y w. pos 0 *ℤ (pos 1 *ℤ pos 1) +ℤ (pos 1 *ℤ y +ℤ w)) (line_one (length xs) i h.linear (cell xs) within other ∙ ap (λ y. h.linear i *ℤ y) here) (quadratic_one (length xs) i h.square (cell xs) within other ∙ ap (λ y. y *ℤ (h.square i i *ℤ y)) here) ∙ by_ring (h.linear i ∷ z ∷ h.square i i ∷ [])
      (lit (pos 0) ⊗ (lit (pos 1) ⊗ lit (pos 1)) ⊕ (lit (pos 1) ⊗ (var 0 ⊗ var 1) ⊕ var 1 ⊗ (var 2 ⊗ var 1)))
      (var 0 ⊗ var 1 ⊕ var 1 ⊗ (var 2 ⊗ var 1))
      refl) in
      sym value ∙ none xs

  no_single : (i : ℕ) → (h.linear i ≡ pos 0) × (h.square i i ≡ pos 0)
  no_single i =
      both_signs (h.linear i) (h.square i i)
      (by_ring (h.linear i ∷ h.square i i ∷ []) (var 0 ⊕ var 1) (var 0 ⊗ lit (pos 1) ⊕ lit (pos 1) ⊗ (var 1 ⊗ lit (pos 1))) refl ∙ one_top (i + 1) i (pos 1) (one_spot (i + 1) i (pos 1)) refl (one_length (i + 1) i (pos 1)) (omega arith))
      (by_ring (h.linear i ∷ h.square i i ∷ []) (neg (var 0) ⊕ var 1) (var 0 ⊗ lit (negsuc 0) ⊕ lit (negsuc 0) ⊗ (var 1 ⊗ lit (negsuc 0))) refl ∙ one_top (i + 1) i (negsuc 0) (one_spot (i + 1) i (negsuc 0)) refl (one_length (i + 1) i (negsuc 0)) (omega arith))

  two_top : (n i j : ℕ) (xs : List ℤ) → xs ≡ two_spots n i j → length xs ≡ n → i < j → j < n → h.square i j ≡ pos 0
  two_top n i j xs e len l m =
      let first : cell xs i ≡ pos 1 = ap (λ ys. cell ys i) e ∙ two_first n i j (omega arith) in
      let second : cell xs j ≡ pos 1 = ap (λ ys. cell ys j) e ∙ two_second n i j m (omega arith) in
      let within : j < length xs = omega arith in
      let other : (k : ℕ) → k < length xs → k ≢ i → k ≢ j → cell xs k ≡ pos 0 = λ k b ne nf. ap (λ ys. cell ys k) e ∙ two_other n i j k (omega arith) ne nf in
      let lines : line (length xs) h.linear (cell xs) ≡ pos 0 =
      line_two (length xs) i j h.linear (cell xs) l within other ∙ (ap₂ (λ u v. u *ℤ cell xs i +ℤ v *ℤ cell xs j) (no_single i).0 (no_single j).0 ∙ by_ring (cell xs i ∷ cell xs j ∷ []) (lit (pos 0) ⊗ var 0 ⊕ lit (pos 0) ⊗ var 1) (lit (pos 0)) refl) in
      let squares : quadratic (length xs) h.square (cell xs) ≡ h.square i j =
      quadratic_two (length xs) i j h.square (cell xs) l within other ∙ (ap₂ (λ u v. cell xs i *ℤ (u *ℤ cell xs i) +ℤ cell xs j *ℤ (h.square i j *ℤ cell xs i +ℤ v *ℤ cell xs j)) (no_single i).1 (no_single j).1 ∙ (ap₂ (λ y w. y *ℤ (pos 0 *ℤ y) +ℤ w *ℤ (h.square i j *ℤ y +ℤ pos 0 *ℤ w)) first second ∙ by_ring (h.square i j ∷ []) (lit (pos 1) ⊗ (lit (pos 0) ⊗ lit (pos 1)) ⊕ lit (pos 1) ⊗ (var 0 ⊗ lit (pos 1) ⊕ lit (pos 0) ⊗ lit (pos 1))) (var 0) refl)) in
      let value : top_at (length xs) (pos 1) (cell xs) h ≡ h.square i j =
      ap (λ c. c *ℤ (pos 1 *ℤ pos 1) +ℤ (pos 1 *ℤ line (length xs) h.linear (cell xs) +ℤ quadratic (length xs) h.square (cell xs))) no_constant ∙ (ap₂ (λ y w. pos 0 *ℤ (pos 1 *ℤ pos 1) +ℤ (pos 1 *ℤ y +ℤ w)) lines squares ∙ by_ring (h.square i j ∷ []) (lit (pos 0) ⊗ (lit (pos 1) ⊗ lit (pos 1)) ⊕ (lit (pos 1) ⊗ lit (pos 0) ⊕ var 0)) (var 0) refl) in
      sym value ∙ none xs

  no_square : (i j : ℕ) → i ≤ j → h.square i j ≡ pos 0
  no_square i j l = go (number_cases i j)
    where
      go : (i ≡ j) ⊎ (i ≢ j) → h.square i j ≡ pos 0
      go (inl e) = subst (λ j. h.square i j ≡ pos 0) e (no_single i).1
      go (inr ne) = two_top (j + 1) i j (two_spots (j + 1) i j) refl (two_length (j + 1) i j) (omega arith) (omega arith)

-- ---- the difference of two forms
abbrev apart_form : Form → Form → Form
apart_form f g = record {
  den = pos 1;
  constant = g.den *ℤ f.constant +ℤ neg_ℤ f.den *ℤ g.constant;
  linear = λ i. g.den *ℤ f.linear i +ℤ neg_ℤ f.den *ℤ g.linear i;
  square = λ i j. g.den *ℤ f.square i j +ℤ neg_ℤ f.den *ℤ g.square i j;
}

apart_top : (n : ℕ) (d : ℤ) (x : ℕ → ℤ) (f g : Form) → top_at n d x (apart_form f g) ≡ g.den *ℤ top_at n d x f +ℤ neg_ℤ f.den *ℤ top_at n d x g
apart_top n d x f g =
    ap₂ (λ l q. (g.den *ℤ f.constant +ℤ neg_ℤ f.den *ℤ g.constant) *ℤ (d *ℤ d) +ℤ (d *ℤ l +ℤ q)) (line-combine n f.linear g.linear x g.den (neg_ℤ f.den)) (quadratic-combine n f.square g.square x g.den (neg_ℤ f.den)) ∙ by_ring (g.den ∷ f.den ∷ f.constant ∷ g.constant ∷ d ∷ line n f.linear x ∷ line n g.linear x ∷ quadratic n f.square x ∷ quadratic n g.square x ∷ [])
    ((var 0 ⊗ var 2 ⊕ neg (var 1) ⊗ var 3) ⊗ (var 4 ⊗ var 4) ⊕ (var 4 ⊗ (var 0 ⊗ var 5 ⊕ neg (var 1) ⊗ var 6) ⊕ (var 0 ⊗ var 7 ⊕ neg (var 1) ⊗ var 8)))
    (var 0 ⊗ (var 2 ⊗ (var 4 ⊗ var 4) ⊕ (var 4 ⊗ var 5 ⊕ var 7)) ⊕ neg (var 1) ⊗ (var 3 ⊗ (var 4 ⊗ var 4) ⊕ (var 4 ⊗ var 6 ⊕ var 8)))
    refl

cross_zero : (s t d e : ℤ) → s *ℤ (e *ℤ (pos 1 *ℤ pos 1)) ≡ t *ℤ (d *ℤ (pos 1 *ℤ pos 1)) → e *ℤ s +ℤ neg_ℤ d *ℤ t ≡ pos 0
cross_zero s t d e h =
    by_ring (s ∷ t ∷ d ∷ e ∷ []) (var 3 ⊗ var 0 ⊕ neg (var 2) ⊗ var 1) (var 0 ⊗ (var 3 ⊗ (lit (pos 1) ⊗ lit (pos 1))) ⊕ neg (var 1 ⊗ (var 2 ⊗ (lit (pos 1) ⊗ lit (pos 1))))) refl ∙ (ap (λ z. z +ℤ neg_ℤ (t *ℤ (d *ℤ (pos 1 *ℤ pos 1)))) h ∙ by_ring ((t *ℤ (d *ℤ (pos 1 *ℤ pos 1))) ∷ []) (var 0 ⊕ neg (var 0)) (lit (pos 0)) refl)

crossed_back : (a b d e : ℤ) → e *ℤ a +ℤ neg_ℤ d *ℤ b ≡ pos 0 → a *ℤ e ≡ b *ℤ d
crossed_back a b d e h =
    by_ring (a ∷ b ∷ d ∷ e ∷ []) (var 0 ⊗ var 3) (var 3 ⊗ var 0 ⊕ neg (var 2) ⊗ var 1 ⊕ var 1 ⊗ var 2) refl ∙ (ap (λ z. z +ℤ b *ℤ d) h ∙ zero_plus (b *ℤ d))

apart_none : (f g : Form) → ((p : Point) → SameRatio (form_value p f) (form_value p g)) → (xs : List ℤ) → IsZeroAt (apart_form f g) xs
apart_none f g h xs =
    apart_top (length xs) (pos 1) (cell xs) f g ∙ cross_zero (top_at (length xs) (pos 1) (cell xs) f) (top_at (length xs) (pos 1) (cell xs) g) f.den g.den (h (record { den = pos 1; nums = xs; positive = omega (arith, ints) }))

pub forms_are_same : (f g : Form) → ((p : Point) → SameRatio (form_value p f) (form_value p g)) → SameCoefficients f g
forms_are_same f g h =
    let none = apart_none f g h in
    record {
      constant = crossed_back f.constant g.constant f.den g.den (no_constant (apart_form f g) none);
      linear = λ i. crossed_back (f.linear i) (g.linear i) f.den g.den (no_single (apart_form f g) none i).0;
      square = λ i j l. crossed_back (f.square i j) (g.square i j) f.den g.den (no_square (apart_form f g) none i j l);
    }

-- ---- polynomials
one_fraction : (x y : Frac) (z d w e : ℤ) → pos 0 <ℤ d → pos 0 <ℤ e → IsQuotient x z d → IsQuotient y w e → z *ℤ e ≡ w *ℤ d → x ≡ y
one_fraction x y z d w e pd pe h k s =
    same_value x y
    (cancel_right (x.num *ℤ y.den) (y.num *ℤ x.den) (d *ℤ e)
    (by_ring (x.num ∷ y.den ∷ d ∷ e ∷ []) (var 0 ⊗ var 1 ⊗ (var 2 ⊗ var 3)) (var 0 ⊗ var 2 ⊗ (var 1 ⊗ var 3)) refl ∙ (ap (λ v. v *ℤ (y.den *ℤ e)) h ∙ (by_ring (z ∷ x.den ∷ y.den ∷ e ∷ []) (var 0 ⊗ var 1 ⊗ (var 2 ⊗ var 3)) (var 0 ⊗ var 3 ⊗ (var 1 ⊗ var 2)) refl ∙ (ap (λ v. v *ℤ (x.den *ℤ y.den)) s ∙ (by_ring (w ∷ d ∷ x.den ∷ y.den ∷ []) (var 0 ⊗ var 1 ⊗ (var 2 ⊗ var 3)) (var 0 ⊗ var 3 ⊗ (var 1 ⊗ var 2)) refl ∙ (ap (λ v. v *ℤ (d *ℤ x.den)) (sym k) ∙ by_ring (y.num ∷ e ∷ d ∷ x.den ∷ []) (var 0 ⊗ var 1 ⊗ (var 2 ⊗ var 3)) (var 0 ⊗ var 3 ⊗ (var 2 ⊗ var 1)) refl))))))
    (mul_pos d e pd pe))

forms_agree : (q r : Quad) → ((p : Point) → SameRatio (quad_value p q) (quad_value p r)) → (p : Point) → SameRatio (form_value p (quad_form q)) (form_value p (quad_form r))
forms_agree q r h p =
    let a = entry_quad p q in
    let b = entry_quad p r in
    ratio_trans (form_value p (quad_form q)) (quad_value p q) (form_value p (quad_form r)) a.bottom (sym a.same) (ratio_trans (quad_value p q) (quad_value p r) (form_value p (quad_form r)) b.bottom (h p) b.same)

pub quads_are_same : (q r : Quad) → ((p : Point) → SameRatio (quad_value p q) (quad_value p r)) → SameQuads q r
quads_are_same q r h =
    let f = quad_form q in
    let g = quad_form r in
    let a = has_quad_form q in
    let b = has_quad_form r in
    let s = forms_are_same f g (forms_agree q r h) in
    record {
      constant = one_fraction q.constant r.constant f.constant f.den g.constant g.den a.den b.den a.constant b.constant s.constant;
      linear = λ i. one_fraction (linear_at q.linear i) (linear_at r.linear i) (f.linear i) f.den (g.linear i) g.den a.den b.den (a.linear i) (b.linear i) (s.linear i);
      square = λ i j l. one_fraction (square_at q.square i j) (square_at r.square i j) (f.square i j) f.den (g.square i j) g.den a.den b.den (a.square i j l) (b.square i j l) (s.square i j l);
    }
