-- Steps on some variables, and the form of the second derivatives by them.
use Rattle.std.proofs.Common.{◌≡◌, ℕ, zero, suc, ◌<◌, ◌≤◌, ℤ, pos, negsuc, ◌+ℤ◌, ◌-ℤ◌, ◌*ℤ◌, ◌<ℤ◌, Bool, true, false, cond, ◌||◌, List, [], ◌∷◌, map, take, length, slice_index_or, arith, refl, sym, ap, ap₂, ◌∙◌}
use Rattle.std.specs.Prelude.{nat_eq}
use Rattle.std.proofs.lemmas.Bool.{eqb-true, eq-eqb, false≢true}
use lib.IntN.{*ℤ-zero, *ℤ_comm}
use Rattle.emp_algebra.proofs.Order.{cancel_right}
use Rattle.emp_algebra.proofs.Ring.{var, lit, ◌⊕◌, ◌⊖◌, ◌⊗◌, by_ring}
use Rattle.emp_ast.specs.declared.tree.VarId.{VarId}
use Rattle.emp_ast.specs.Parties.{names_variable}
use Rattle.emp_form.specs.Form.{Form, sum_to, line, quadratic, top_at, unit_at}
use Rattle.emp_form.specs.Partial.{second_at, partial_form, moved}
use Rattle.emp_form.proofs.Lines.{sum_to-below, sum_to-zero, sum_to-scale, line-combine, line-zero, line-unit, quadratic-zero}
use Rattle.emp_form.proofs.Steps.{step_expands}
use Rattle.emp_ldl.specs.Whole as Whole
use Rattle.emp_agents.proofs.Terms.{turned}
use Rattle.emp_agents.proofs.Values.{same_function, erased, quadratic_stretched}

-- ---- a step on variables of a list, the first of them first
abbrev pub spread : List VarId → List ℤ → ℕ → ℤ
spread [] ys = λ i. pos 0
spread (v ∷ vs) [] = λ i. pos 0
spread (v ∷ vs) (y ∷ ys) = λ i. y *ℤ unit_at v.at i +ℤ spread vs ys i

abbrev pub numbers : List VarId → List ℕ
numbers vs = map (λ v. v.at) vs

line_turned : (n : ℕ) (a x : ℕ → ℤ) → line n a x ≡ line n x a
line_turned n a x = sum_to-below n (λ i. a i *ℤ x i) (λ i. x i *ℤ a i) (λ i l. *ℤ_comm (a i) (x i))

no_line : (n : ℕ) (a : ℕ → ℤ) → line n a (λ i. pos 0) ≡ pos 0
no_line n a = sum_to-zero n (λ i. a i *ℤ pos 0) (λ i. *ℤ-zero (a i))

line_shift : (b : ℕ → ℤ) (i : ℕ) (ys : List ℤ) → Whole.line b (suc i) ys ≡ Whole.line (λ k. b (suc k)) i ys
line_shift b i [] = refl
line_shift b i (y ∷ ys) = ap (λ z. b (suc i) *ℤ y +ℤ z) (line_shift b (suc i) ys)

later : (b c : Bool) → c ≡ true → (b || c) ≡ true
later true c q = refl
later false c q = q

pub line_spread : (n : ℕ) (a : ℕ → ℤ) (vs : List VarId) (ys : List ℤ) → length ys ≤ length vs → ((u : ℕ) → names_variable vs u ≡ true → u < n) → line n a (spread vs ys) ≡ Whole.line (λ j. a (slice_index_or (numbers vs) j 0)) 0 ys
line_spread n a [] [] h b = no_line n a
line_spread n a [] (y ∷ ys) h b = absurd (omega arith)
line_spread n a (v ∷ vs) [] h b = no_line n a
line_spread n a (v ∷ vs) (y ∷ ys) h b =
    line_turned n a (spread (v ∷ vs) (y ∷ ys))
    ∙ (ap (λ x. line n x a) (same_function (λ i. by_ring (y ∷ unit_at v.at i ∷ spread vs ys i ∷ []) (var 0 ⊗ var 1 ⊕ var 2) (var 0 ⊗ var 1 ⊕ lit (pos 1) ⊗ var 2) refl))
    ∙ (line-combine n (unit_at v.at) (spread vs ys) a y (pos 1)
    ∙ (ap₂ (λ s t. y *ℤ s +ℤ pos 1 *ℤ t) (line-unit n v.at a (b v.at (ap (λ c. c || names_variable vs v.at) (eq-eqb v.at v.at refl)))) (line_turned n (spread vs ys) a ∙ line_spread n a vs ys (omega arith) (λ u q. b u (later (nat_eq v.at u) (names_variable vs u) q)))
    ∙ (by_ring (y ∷ a v.at ∷ Whole.line (λ j. a (slice_index_or (numbers vs) j 0)) 0 ys ∷ []) (var 0 ⊗ var 1 ⊕ lit (pos 1) ⊗ var 2) (var 1 ⊗ var 0 ⊕ var 2) refl
    ∙ ap (λ z. a v.at *ℤ y +ℤ z) (sym (line_shift (λ j. a (slice_index_or (numbers (v ∷ vs)) j 0)) 0 ys))))))

-- ---- where such a step is 0
no_spread : (vs : List VarId) (i : ℕ) → spread vs [] i ≡ pos 0
no_spread [] i = refl
no_spread (v ∷ vs) i = refl

apart_unit : (k i : ℕ) → nat_eq k i ≡ false → unit_at k i ≡ pos 0
apart_unit k i q = ap (λ (b : Bool). cond b (pos 1) (pos 0)) (turned i k ∙ q)

pub spread_none : (n : ℕ) (vs : List VarId) (ys : List ℤ) (i : ℕ) → length ys ≤ n → names_variable (take n vs) i ≡ false → spread vs ys i ≡ pos 0
spread_none n [] ys i l h = refl
spread_none n (v ∷ vs) [] i l h = refl
spread_none zero (v ∷ vs) (y ∷ ys) i l h = absurd (omega arith)
spread_none (suc n) (v ∷ vs) (y ∷ ys) i l h = go (nat_eq v.at i) refl (λ t. spread_none n vs ys i (omega arith) t)
  where
    go : (b : Bool) → nat_eq v.at i ≡ b → (names_variable (take n vs) i ≡ false → spread vs ys i ≡ pos 0) → spread (v ∷ vs) (y ∷ ys) i ≡ pos 0
    go true q rest = absurd (false≢true (sym h ∙ ap (λ b. b || names_variable (take n vs) i) q))
    go false q rest = ap₂ (λ s t. y *ℤ s +ℤ t) (apart_unit v.at i q) (rest (sym (ap (λ b. b || names_variable (take n vs) i) q) ∙ h)) ∙ by_ring (y ∷ []) (var 0 ⊗ lit (pos 0) ⊕ lit (pos 0)) (lit (pos 0)) refl

-- ---- each step that is 0 off the first n variables is such a step
abbrev pub parts : ℕ → List VarId → (ℕ → ℤ) → List ℤ
parts zero vs x = []
parts (suc n) [] x = []
parts (suc n) (v ∷ vs) x = x v.at ∷ parts n vs (erased v.at x)

pub parts_below : (n : ℕ) (vs : List VarId) (x : ℕ → ℤ) → length (parts n vs x) ≤ n
parts_below zero vs x = omega arith
parts_below (suc n) [] x = omega arith
parts_below (suc n) (v ∷ vs) x = let l = parts_below n vs (erased v.at x) in omega arith

pub parts_within : (n : ℕ) (vs : List VarId) (x : ℕ → ℤ) → length (parts n vs x) ≤ length vs
parts_within zero vs x = omega arith
parts_within (suc n) [] x = omega arith
parts_within (suc n) (v ∷ vs) x = let l = parts_within n vs (erased v.at x) in omega arith

pub spread_parts : (n : ℕ) (vs : List VarId) (x : ℕ → ℤ) → ((i : ℕ) → names_variable (take n vs) i ≡ false → x i ≡ pos 0) → (i : ℕ) → spread vs (parts n vs x) i ≡ x i
spread_parts zero vs x h i = no_spread vs i ∙ sym (h i refl)
spread_parts (suc n) [] x h i = sym (h i refl)
spread_parts (suc n) (v ∷ vs) x h i = ap (λ z. x v.at *ℤ unit_at v.at i +ℤ z) (spread_parts n vs (erased v.at x) (λ j q. none j q (nat_eq j v.at) refl) i) ∙ go (nat_eq i v.at) refl
  where
    none : (j : ℕ) → names_variable (take n vs) j ≡ false → (b : Bool) → nat_eq j v.at ≡ b → erased v.at x j ≡ pos 0
    none j q true e = ap (λ (b : Bool). cond b (pos 0) (x j)) e
    none j q false e = ap (λ (b : Bool). cond b (pos 0) (x j)) e ∙ h j (ap₂ (λ (b c : Bool). b || c) (turned v.at j ∙ e) q)

    go : (b : Bool) → nat_eq i v.at ≡ b → x v.at *ℤ cond b (pos 1) (pos 0) +ℤ cond b (pos 0) (x i) ≡ x i
    go true e = by_ring (x v.at ∷ []) (var 0 ⊗ lit (pos 1) ⊕ lit (pos 0)) (var 0) refl ∙ ap x (sym (eqb-true i v.at e))
    go false e = by_ring (x v.at ∷ x i ∷ []) (var 0 ⊗ lit (pos 0) ⊕ var 1) (var 1) refl

-- ---- second differences
abbrev squares_form : (ℕ → ℕ → ℤ) → Form
squares_form s = record { den = pos 1; constant = pos 0; linear = λ i. pos 0; square = s }

squares_top : (n : ℕ) (x : ℕ → ℤ) (s : ℕ → ℕ → ℤ) → top_at n (pos 1) x (squares_form s) ≡ quadratic n s x
squares_top n x s = ap (λ l. pos 0 *ℤ (pos 1 *ℤ pos 1) +ℤ (pos 1 *ℤ l +ℤ quadratic n s x)) (line-zero n (λ i. pos 0) x (λ i. refl)) ∙ by_ring (quadratic n s x ∷ []) (lit (pos 0) ⊗ (lit (pos 1) ⊗ lit (pos 1)) ⊕ (lit (pos 1) ⊗ lit (pos 0) ⊕ var 0)) (var 0) refl

squares_partial : (n : ℕ) (x : ℕ → ℤ) (s : ℕ → ℕ → ℤ) (k : ℕ) → top_at n (pos 1) x (partial_form k (squares_form s)) ≡ line n (second_at s k) x
squares_partial n x s k =
    ap (λ q. pos 0 *ℤ (pos 1 *ℤ pos 1) +ℤ (pos 1 *ℤ line n (second_at s k) x +ℤ q)) (quadratic-zero n (λ i j. pos 0) x (λ i j l. refl))
    ∙ by_ring (line n (second_at s k) x ∷ []) (lit (pos 0) ⊗ (lit (pos 1) ⊗ lit (pos 1)) ⊕ (lit (pos 1) ⊗ var 0 ⊕ lit (pos 0))) (var 0) refl

-- twice the quadratic part of a step is the form of the second derivatives at the step
twice_quadratic : (n : ℕ) (s : ℕ → ℕ → ℤ) (v : ℕ → ℤ) → pos 2 *ℤ quadratic n s v ≡ sum_to n (λ k. v k *ℤ line n (second_at s k) v)
twice_quadratic n s v =
    let q = quadratic n s v in
    let t = sum_to n (λ k. v k *ℤ line n (second_at s k) v) in
    let double : top_at n (pos 1) (moved v v) (squares_form s) ≡ pos 2 *ℤ pos 2 *ℤ quadratic n s v =
    squares_top n (moved v v) s ∙ (ap (λ x. quadratic n s x) (same_function (λ i. by_ring (v i ∷ []) (var 0 ⊕ var 0) (lit (pos 2) ⊗ var 0) refl)) ∙ quadratic_stretched n (pos 2) s v) in
    let slopes : sum_to n (λ k. v k *ℤ top_at n (pos 1) v (partial_form k (squares_form s))) ≡ t =
    sum_to-below n (λ k. v k *ℤ top_at n (pos 1) v (partial_form k (squares_form s))) (λ k. v k *ℤ line n (second_at s k) v) (λ k l. ap (λ z. v k *ℤ z) (squares_partial n v s k)) in
    let e : pos 1 *ℤ (pos 2 *ℤ pos 2 *ℤ q) ≡ pos 1 *ℤ q +ℤ t +ℤ pos 1 *ℤ q =
    ap (λ z. pos 1 *ℤ z) (sym double) ∙ (step_expands n (pos 1) v v (squares_form s) ∙ ap₂ (λ y z. pos 1 *ℤ y +ℤ z +ℤ pos 1 *ℤ quadratic n s v) (squares_top n v s) slopes) in
    by_ring (q ∷ []) (lit (pos 2) ⊗ var 0) (lit (pos 1) ⊗ (lit (pos 2) ⊗ lit (pos 2) ⊗ var 0) ⊖ lit (pos 1) ⊗ var 0 ⊖ lit (pos 1) ⊗ var 0) refl
    ∙ (ap (λ z. z -ℤ pos 1 *ℤ q -ℤ pos 1 *ℤ q) e ∙ by_ring (q ∷ t ∷ []) (lit (pos 1) ⊗ var 0 ⊕ var 1 ⊕ lit (pos 1) ⊗ var 0 ⊖ lit (pos 1) ⊗ var 0 ⊖ lit (pos 1) ⊗ var 0) (var 1) refl)

abbrev pub back : (ℕ → ℤ) → ℕ → ℤ
back v i = negsuc 0 *ℤ v i

pub second_difference : (n : ℕ) (d : ℤ) (x v : ℕ → ℤ) (f : Form) → pos 0 <ℤ d → top_at n d (moved x v) f +ℤ top_at n d (moved x (back v)) f ≡ pos 2 *ℤ top_at n d x f +ℤ pos 2 *ℤ quadratic n f.square v
second_difference n d x v f h =
    let up = top_at n d (moved x v) f in
    let down = top_at n d (moved x (back v)) f in
    let here = top_at n d x f in
    let t = sum_to n (λ k. v k *ℤ top_at n d x (partial_form k f)) in
    let q = quadratic n f.square v in
    let slopes : sum_to n (λ k. back v k *ℤ top_at n d x (partial_form k f)) ≡ negsuc 0 *ℤ t =
    sum_to-below n (λ k. back v k *ℤ top_at n d x (partial_form k f)) (λ k. negsuc 0 *ℤ (v k *ℤ top_at n d x (partial_form k f))) (λ k l. by_ring (v k ∷ top_at n d x (partial_form k f) ∷ []) (lit (negsuc 0) ⊗ var 0 ⊗ var 1) (lit (negsuc 0) ⊗ (var 0 ⊗ var 1)) refl)
    ∙ sum_to-scale n (negsuc 0) (λ k. v k *ℤ top_at n d x (partial_form k f)) in
    let one : d *ℤ up ≡ d *ℤ here +ℤ t +ℤ d *ℤ q = step_expands n d x v f in
    let two : d *ℤ down ≡ d *ℤ here +ℤ negsuc 0 *ℤ t +ℤ d *ℤ (negsuc 0 *ℤ negsuc 0 *ℤ q) = step_expands n d x (back v) f ∙ ap₂ (λ y z. d *ℤ here +ℤ y +ℤ d *ℤ z) slopes (quadratic_stretched n (negsuc 0) f.square v) in
    cancel_right (up +ℤ down) (pos 2 *ℤ here +ℤ pos 2 *ℤ q) d
    (by_ring (up ∷ down ∷ d ∷ []) ((var 0 ⊕ var 1) ⊗ var 2) (var 2 ⊗ var 0 ⊕ var 2 ⊗ var 1) refl
    ∙ (ap₂ (λ y z. y +ℤ z) one two
    ∙ by_ring (d ∷ here ∷ t ∷ q ∷ []) (var 0 ⊗ var 1 ⊕ var 2 ⊕ var 0 ⊗ var 3 ⊕ (var 0 ⊗ var 1 ⊕ lit (negsuc 0) ⊗ var 2 ⊕ var 0 ⊗ (lit (negsuc 0) ⊗ lit (negsuc 0) ⊗ var 3))) ((lit (pos 2) ⊗ var 1 ⊕ lit (pos 2) ⊗ var 3) ⊗ var 0) refl))
    h

-- ---- as the form of a matrix
abbrev pub seconds : (ℕ → ℕ → ℤ) → List VarId → ℕ → ℕ → ℤ
seconds s vs i j = second_at s (slice_index_or (numbers vs) i 0) (slice_index_or (numbers vs) j 0)

pub quadratic_spread : (n : ℕ) (s : ℕ → ℕ → ℤ) (vs : List VarId) (ys : List ℤ) → length ys ≤ length vs → ((u : ℕ) → names_variable vs u ≡ true → u < n) → pos 2 *ℤ quadratic n s (spread vs ys) ≡ Whole.form (seconds s vs) ys
quadratic_spread n s vs ys h b =
    twice_quadratic n s (spread vs ys)
    ∙ (line_turned n (spread vs ys) (λ k. line n (second_at s k) (spread vs ys))
    ∙ (line_spread n (λ k. line n (second_at s k) (spread vs ys)) vs ys h b
    ∙ ap (λ a. Whole.line a 0 ys) (same_function (λ i. line_spread n (second_at s (slice_index_or (numbers vs) i 0)) vs ys h b))))
