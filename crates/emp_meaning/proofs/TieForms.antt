-- Rows and quadratics of the variables that are left have n times the values of their polynomials.
use Rattle.std.proofs.Common.{◌≡◌, ℕ, zero, suc, ◌<◌, ℤ, pos, ◌+ℤ◌, ◌*ℤ◌, Bool, true, false, cond, ◌&&◌, nat_lt, List, [], ◌∷◌, All, map, length, slice_index_or, arith, refl, sym, ap, ap₂, ◌∙◌}
use Rattle.std.proofs.lemmas.Bool.{lt-ltb, ltb-true}
use Rattle.std.proofs.lemmas.List.{get_or-map, length-map}
use Rattle.std.proofs.lemmas.List.Elements.{All-head, All-tail}
use lib.IntN.{zero-*ℤ, *ℤ-zero}
use Rattle.emp_algebra.specs.Vector.{cell, dot}
use Rattle.emp_algebra.proofs.Ring.{var, ◌⊕◌, ◌⊗◌, by_ring}
use Rattle.emp_systems.specs.Steps.{Quadratic, value_squared}
use Rattle.emp_systems.specs.Steps as Steps
use Rattle.emp_form.specs.Form.{Form, IsLinear, column, top_at}
use Rattle.emp_form.proofs.Lines.{sum_to-below}
use Rattle.emp_game.specs.Game.{Row, names, AreApart}
use Rattle.emp_game.specs.Solved.{value_at}
use Rattle.emp_game.specs.Conditions.{row_of}
use Rattle.emp_left.specs.Left.{selected, row_left, upper, quadratic_left, NamesOnly}
use Rattle.emp_left.proofs.Sums.{linear_left, quadratic_left_is}
use Rattle.emp_agents.specs.Given.{HasTerm}
use Rattle.emp_agents.proofs.Terms.{no_linear}
use Rattle.emp_problem.specs.GameOf.{IsRowOf, IsQuadraticOf}
use Rattle.emp_meaning.proofs.TieLists.{named_at}

-- ---- without the coefficients of variables from number n on
abbrev pub cut : ℕ → Form → Form
cut n f = record {
  den = f.den;
  constant = f.constant;
  linear = λ i. cond (nat_lt i n) (f.linear i) (pos 0);
  square = λ i j. cond (nat_lt i n && nat_lt j n) (f.square i j) (pos 0);
}

inside_linear : (n : ℕ) (f : Form) (i : ℕ) → i < n → (cut n f).linear i ≡ f.linear i
inside_linear n f i l = ap (λ (b : Bool). cond b (f.linear i) (pos 0)) (lt-ltb i n l)

inside_square : (n : ℕ) (f : Form) (i j : ℕ) → i < n → j < n → (cut n f).square i j ≡ f.square i j
inside_square n f i j l h = ap₂ (λ (b c : Bool). cond (b && c) (f.square i j) (pos 0)) (lt-ltb i n l) (lt-ltb j n h)

cut_top : (n : ℕ) (d : ℤ) (x : ℕ → ℤ) (f : Form) → top_at n d x (cut n f) ≡ top_at n d x f
cut_top n d x f =
    ap₂ (λ l q. f.constant *ℤ (d *ℤ d) +ℤ (d *ℤ l +ℤ q))
    (sum_to-below n (λ i. (cut n f).linear i *ℤ x i) (λ i. f.linear i *ℤ x i) (λ i l. ap (λ z. z *ℤ x i) (inside_linear n f i l)))
    (sum_to-below n (column (cut n f).square x) (column f.square x)
    (λ j l.
    ap₂ (λ y z. x j *ℤ (y +ℤ z))
    (sum_to-below j (λ i. (cut n f).square i j *ℤ x i) (λ i. f.square i j *ℤ x i) (λ i h. ap (λ z. z *ℤ x i) (inside_square n f i j (omega arith) l)))
    (ap (λ z. z *ℤ x j) (inside_square n f j j l l))))

zero_either : (b : Bool) (z : ℤ) → (b ≡ true → z ≡ pos 0) → cond b z (pos 0) ≡ pos 0
zero_either true z h = h refl
zero_either false z h = refl

first_of : (b c : Bool) → b && c ≡ true → b ≡ true
first_of true c h = refl
first_of false c h = h

second_of : (b c : Bool) → b && c ≡ true → c ≡ true
second_of true c h = h
second_of false c h = absurd (let e : false ≡ true = h in cc)

-- the variables below n that do not stand in the form are those that are not named
abbrev pub StandsNot : ℕ → List ℕ → Form → Type 0
StandsNot n vs f = (v : ℕ) → v < n → names vs v ≡ false → HasTerm v (pos 0) f

cut_names : (n : ℕ) (vs : List ℕ) (f : Form) → StandsNot n vs f → NamesOnly vs (cut n f)
cut_names n vs f none = record {
  linear = λ i q. zero_either (nat_lt i n) (f.linear i) (λ l. no_linear i f (none i (ltb-true i n l) q));
  first = λ i j l q. zero_either (nat_lt i n && nat_lt j n) (f.square i j) (λ h. (none i (ltb-true i n (first_of (nat_lt i n) (nat_lt j n) h)) q).first j);
  second = λ i j l q. zero_either (nat_lt i n && nat_lt j n) (f.square i j) (λ h. (none j (ltb-true j n (second_of (nat_lt i n) (nat_lt j n) h)) q).second i);
}

cut_linear : (n : ℕ) (f : Form) → IsLinear f → IsLinear (cut n f)
cut_linear n f h = record { square = λ i j l. zero_either (nat_lt i n && nat_lt j n) (f.square i j) (λ _. h.square i j l) }

-- ---- cells in proportion
dot_times : (ks bs xs : List ℤ) (b k : ℤ) → length ks ≡ length bs → ((i : ℕ) → i < length bs → cell ks i *ℤ b ≡ k *ℤ cell bs i) → dot ks xs *ℤ b ≡ k *ℤ dot bs xs
dot_times [] [] xs b k l h = zero-*ℤ b ∙ sym (*ℤ-zero k)
dot_times [] (c ∷ cs) xs b k l h = absurd (omega arith)
dot_times (a ∷ ks) [] xs b k l h = absurd (omega arith)
dot_times (a ∷ ks) (c ∷ cs) [] b k l h = zero-*ℤ b ∙ sym (*ℤ-zero k)
dot_times (a ∷ ks) (c ∷ cs) (x ∷ xs) b k l h =
    by_ring (a ∷ x ∷ dot ks xs ∷ b ∷ []) ((var 0 ⊗ var 1 ⊕ var 2) ⊗ var 3) (var 0 ⊗ var 3 ⊗ var 1 ⊕ var 2 ⊗ var 3) refl
    ∙ (ap₂ (λ y z. y *ℤ x +ℤ z) (h 0 (omega arith)) (dot_times ks cs xs b k (omega arith) (λ i s. h (suc i) (omega arith)))
    ∙ by_ring (k ∷ c ∷ x ∷ dot cs xs ∷ []) (var 0 ⊗ var 1 ⊗ var 2 ⊕ var 0 ⊗ var 3) (var 0 ⊗ (var 1 ⊗ var 2 ⊕ var 3)) refl)

form_times : (ms ns : List (List ℤ)) (xs ys : List ℤ) (b k : ℤ) → length ms ≡ length ns → ((i : ℕ) → i < length ns → dot (row_of ms i) ys *ℤ b ≡ k *ℤ dot (row_of ns i) ys) → Steps.form ms xs ys *ℤ b ≡ k *ℤ Steps.form ns xs ys
form_times [] [] xs ys b k l h = zero-*ℤ b ∙ sym (*ℤ-zero k)
form_times [] (c ∷ cs) xs ys b k l h = absurd (omega arith)
form_times (a ∷ ks) [] xs ys b k l h = absurd (omega arith)
form_times (a ∷ ks) (c ∷ cs) [] ys b k l h = zero-*ℤ b ∙ sym (*ℤ-zero k)
form_times (a ∷ ks) (c ∷ cs) (x ∷ xs) ys b k l h =
    by_ring (x ∷ dot a ys ∷ Steps.form ks xs ys ∷ b ∷ []) ((var 0 ⊗ var 1 ⊕ var 2) ⊗ var 3) (var 0 ⊗ (var 1 ⊗ var 3) ⊕ var 2 ⊗ var 3) refl
    ∙ (ap₂ (λ y z. x *ℤ y +ℤ z) (h 0 (omega arith)) (form_times ks cs xs ys b k (omega arith) (λ i s. h (suc i) (omega arith)))
    ∙ by_ring (k ∷ x ∷ dot c ys ∷ Steps.form cs xs ys ∷ []) (var 1 ⊗ (var 0 ⊗ var 2) ⊕ var 0 ⊗ var 3) (var 0 ⊗ (var 1 ⊗ var 2 ⊕ var 3)) refl)

pub row_of_map : (h : ℕ → List ℤ) (vs : List ℕ) (i : ℕ) → i < length vs → row_of (map h vs) i ≡ h (slice_index_or vs i 0)
row_of_map h [] i l = absurd (omega arith)
row_of_map h (v ∷ vs) zero l = refl
row_of_map h (v ∷ vs) (suc i) l = row_of_map h vs i (omega arith)

row_width : (n : ℕ) (ms : List (List ℤ)) (i : ℕ) → All (λ r. length r ≡ n) ms → i < length ms → length (row_of ms i) ≡ n
row_width n [] i h l = absurd (omega arith)
row_width n (m ∷ ms) zero h l = All-head (λ (r : List ℤ). length r ≡ n) m ms h
row_width n (m ∷ ms) (suc i) h l = row_width n ms i (All-tail (λ (r : List ℤ). length r ≡ n) m ms h) (omega arith)

-- ---- values
row_times : (k : ℤ) (vs : List ℕ) (f : Form) (r : Row) (d : ℤ) (xs : List ℤ) → IsRowOf k vs f r → value_at r d xs *ℤ f.den ≡ k *ℤ value_at (row_left vs f) d xs
row_times k vs f r d xs h =
    let cells = dot_times r.cells (map f.linear vs) xs f.den k (h.count ∙ sym (length-map vs f.linear))
    (λ i l. let s : i < length vs = (let c = length-map vs f.linear in omega arith) in h.each i s ∙ ap (λ z. k *ℤ z) (sym (get_or-map f.linear vs i 0 (pos 0) s))) in
    by_ring (r.constant ∷ d ∷ dot r.cells xs ∷ f.den ∷ []) ((var 0 ⊗ var 1 ⊕ var 2) ⊗ var 3) (var 0 ⊗ var 3 ⊗ var 1 ⊕ var 2 ⊗ var 3) refl
    ∙ (ap₂ (λ y z. y *ℤ d +ℤ z) h.constant cells
    ∙ by_ring (k ∷ f.constant ∷ d ∷ dot (map f.linear vs) xs ∷ []) (var 0 ⊗ var 1 ⊗ var 2 ⊕ var 0 ⊗ var 3) (var 0 ⊗ (var 1 ⊗ var 2 ⊕ var 3)) refl)

quadratic_times : (k : ℤ) (vs : List ℕ) (f : Form) (q : Quadratic) (d : ℤ) (xs : List ℤ) → IsQuadraticOf k vs f q → value_squared q d xs *ℤ f.den ≡ k *ℤ value_squared (quadratic_left vs f) d xs
quadratic_times k vs f q d xs h =
    let cells = dot_times q.linear (map f.linear vs) xs f.den k (h.count ∙ sym (length-map vs f.linear))
    (λ i l. let s : i < length vs = (let c = length-map vs f.linear in omega arith) in h.each i s ∙ ap (λ z. k *ℤ z) (sym (get_or-map f.linear vs i 0 (pos 0) s))) in
    let rows = form_times q.square (quadratic_left vs f).square xs xs f.den k (h.rows ∙ sym (length-map vs (λ u. map (λ v. upper f.square u v) vs))) row in
    by_ring (q.constant ∷ d ∷ dot q.linear xs ∷ Steps.form q.square xs xs ∷ f.den ∷ []) ((var 0 ⊗ (var 1 ⊗ var 1) ⊕ var 1 ⊗ var 2 ⊕ var 3) ⊗ var 4) (var 0 ⊗ var 4 ⊗ (var 1 ⊗ var 1) ⊕ var 1 ⊗ (var 2 ⊗ var 4) ⊕ var 3 ⊗ var 4) refl
    ∙ (ap₂ (λ y z. y *ℤ (d *ℤ d) +ℤ d *ℤ (dot q.linear xs *ℤ f.den) +ℤ z) h.constant rows
    ∙ (ap (λ y. k *ℤ f.constant *ℤ (d *ℤ d) +ℤ d *ℤ y +ℤ k *ℤ Steps.form (quadratic_left vs f).square xs xs) cells
    ∙ by_ring (k ∷ f.constant ∷ d ∷ dot (map f.linear vs) xs ∷ Steps.form (quadratic_left vs f).square xs xs ∷ []) (var 0 ⊗ var 1 ⊗ (var 2 ⊗ var 2) ⊕ var 2 ⊗ (var 0 ⊗ var 3) ⊕ var 0 ⊗ var 4) (var 0 ⊗ (var 1 ⊗ (var 2 ⊗ var 2) ⊕ var 2 ⊗ var 3 ⊕ var 4)) refl))
  where
    row : (i : ℕ) → i < length (quadratic_left vs f).square → dot (row_of q.square i) xs *ℤ f.den ≡ k *ℤ dot (row_of (quadratic_left vs f).square i) xs
    row i l =
        let s : i < length vs = (let c = length-map vs (λ u. map (λ v. upper f.square u v) vs) in omega arith) in
        let u = slice_index_or vs i 0 in
        dot_times (row_of q.square i) (map (λ v. upper f.square u v) vs) xs f.den k (row_width (length vs) q.square i h.widths (let c = h.rows in omega arith) ∙ sym (length-map vs (λ v. upper f.square u v)))
        (λ j b. let t : j < length vs = (let c = length-map vs (λ v. upper f.square u v) in omega arith) in h.products i j s t ∙ ap (λ z. k *ℤ z) (sym (get_or-map (λ v. upper f.square u v) vs j 0 (pos 0) t)))
        ∙ ap (λ r. k *ℤ dot r xs) (sym (row_of_map (λ u. map (λ v. upper f.square u v) vs) vs i s))

-- ---- of the form itself
module _ (k : ℤ) (n : ℕ) (vs : List ℕ) (f : Form) (apart : AreApart vs) (below : (v : ℕ) → names vs v ≡ true → v < n) (none : StandsNot n vs f) where
  under : (i : ℕ) → i < length vs → slice_index_or vs i 0 < n
  under i l = below (slice_index_or vs i 0) (named_at vs i l)

  cut_row : (r : Row) → IsRowOf k vs f r → IsRowOf k vs (cut n f) r
  cut_row r h = record { count = h.count; constant = h.constant; each = λ i l. h.each i l ∙ ap (λ z. k *ℤ z) (sym (inside_linear n f (slice_index_or vs i 0) (under i l))) }

  cut_quadratic : (q : Quadratic) → IsQuadraticOf k vs f q → IsQuadraticOf k vs (cut n f) q
  cut_quadratic q h = record {
    count = h.count;
    constant = h.constant;
    each = λ i l. h.each i l ∙ ap (λ z. k *ℤ z) (sym (inside_linear n f (slice_index_or vs i 0) (under i l)));
    rows = h.rows;
    widths = h.widths;
    products = λ i j l s. h.products i j l s ∙ ap (λ z. k *ℤ cond (nat_lt (slice_index_or vs j 0) (slice_index_or vs i 0)) (pos 0) z) (sym (inside_square n f (slice_index_or vs i 0) (slice_index_or vs j 0) (under i l) (under j s)));
  }

  pub row_value : (r : Row) (d : ℤ) (nums : List ℤ) → IsRowOf k vs f r → IsLinear f → value_at r d (selected vs nums) *ℤ (f.den *ℤ d) ≡ k *ℤ top_at n d (cell nums) f
  row_value r d nums h linear =
      let v = value_at (row_left vs (cut n f)) d (selected vs nums) in
      by_ring (value_at r d (selected vs nums) ∷ f.den ∷ d ∷ []) (var 0 ⊗ (var 1 ⊗ var 2)) (var 0 ⊗ var 1 ⊗ var 2) refl
      ∙ (ap (λ z. z *ℤ d) (row_times k vs (cut n f) r d (selected vs nums) (cut_row r h))
      ∙ (by_ring (k ∷ v ∷ d ∷ []) (var 0 ⊗ var 1 ⊗ var 2) (var 0 ⊗ (var 2 ⊗ var 1)) refl
      ∙ ap (λ z. k *ℤ z) (sym (linear_left vs (cut n f) n d nums apart below (cut_names n vs f none) (cut_linear n f linear)) ∙ cut_top n d (cell nums) f)))

  pub quadratic_value : (q : Quadratic) (d : ℤ) (nums : List ℤ) → IsQuadraticOf k vs f q → value_squared q d (selected vs nums) *ℤ f.den ≡ k *ℤ top_at n d (cell nums) f
  quadratic_value q d nums h =
      quadratic_times k vs (cut n f) q d (selected vs nums) (cut_quadratic q h)
      ∙ ap (λ z. k *ℤ z) (sym (quadratic_left_is vs (cut n f) n d nums apart below (cut_names n vs f none)) ∙ cut_top n d (cell nums) f)
