-- The start: each label has one place, and each row tells its quantity.
use Rattle.std.proofs.Common.{◌≡◌, ◌≢◌, ◌⊎◌, inl, inr, ℕ, zero, suc, ◌+◌, ◌-◌, ◌<◌, ◌≤◌, ℤ, pos, ◌+ℤ◌, ◌*ℤ◌, Bool, true, false, ◌&&◌, ◌||◌, List, [], ◌∷◌, ◌++◌, length, map, replicate, get_or, Option, Some, None, arith, refl, sym, ap, ap₂, subst, ◌∙◌, length-append, add-zero}
use Rattle.std.specs.Prelude.{nat_lt, nat_le}
use Rattle.std.specs.List.{All}
use Rattle.std.proofs.lemmas.Bool.{lt-ltb, le-leb, ltb-true, ltb-false, leb-true}
use Rattle.std.proofs.lemmas.Int.{ints}
use Rattle.std.proofs.lemmas.List.{length-map, length-replicate, get_or-map}
use Rattle.std.proofs.lemmas.List.Elements.{All-nil, All-cons, All-head, All-tail}
use Rattle.emp_algebra.specs.Vector.{cell, dot}
use Rattle.emp_algebra.proofs.Laws.{one-*ℤ}
use Rattle.emp_line.specs.declared.line.Line.{Line}
use Rattle.emp_line.specs.Pivot.{no_line}
use Rattle.emp_line.specs.Lines.{IsLine, IsLowest}
use Rattle.emp_line.proofs.Lowest.{one_lowest}
use Rattle.emp_rows.specs.declared.affine.Affine.{Affine}
use Rattle.emp_rows.specs.Affine.{IsRow}
use Rattle.emp_rows.specs.Systems.{IsSystem}
use Rattle.emp_rows.specs.declared.system.Kind.{Kind}
use Rattle.emp_dict.specs.declared.label.Label.{Label}
use Rattle.emp_dict.specs.declared.label.Label.TheVariants.{Base, Quantity, Objective}
use Rattle.emp_dict.specs.declared.label.Mark.{Mark}
use Rattle.emp_dict.specs.declared.label.Mark.TheVariants.{Unasked}
use Rattle.emp_dict.specs.Dictionary.{Dictionary, IsSound, IsLabel, is_label, stands, row_label, column_label, line_at, bases_from, quantities_from, line_of, objective_lines, objective_labels, started, no_affine, affine_value, objective_value, label_value, RowsTrue}
use Rattle.emp_dict.specs.Laws.{StartsAre}
use Rattle.emp_dict.proofs.Labels.{place_stands, or_first, or_second}

-- ---- the lists
pub length-bases : (at n : ℕ) → length (bases_from at n) ≡ n
length-bases at zero = refl
length-bases at (suc n) = ap suc (length-bases (at + 1) n)

pub length-quantities : (at n : ℕ) → length (quantities_from at n) ≡ n
length-quantities at zero = refl
length-quantities at (suc n) = ap suc (length-quantities (at + 1) n)

pub base_at : (at n j : ℕ) → j < n → get_or (bases_from at n) j Objective ≡ Base (at + j)
base_at at zero j h = absurd (omega arith)
base_at at (suc n) zero h = ap Base (sym (add-zero at))
base_at at (suc n) (suc j) h = base_at (at + 1) n j (omega arith) ∙ ap Base (let e : at + 1 + j ≡ at + suc j = omega arith in e)

quantity_at : (at n : ℕ) (xs : List Label) (i : ℕ) → i < n → get_or (quantities_from at n ++ xs) i Objective ≡ Quantity (at + i)
quantity_at at zero xs i h = absurd (omega arith)
quantity_at at (suc n) xs zero h = ap Quantity (sym (add-zero at))
quantity_at at (suc n) xs (suc i) h = quantity_at (at + 1) n xs i (omega arith) ∙ ap Quantity (let e : at + 1 + i ≡ at + suc i = omega arith in e)

last_at : (at n : ℕ) (o : Option Affine) → get_or (quantities_from at n ++ objective_labels o) n Objective ≡ Objective
last_at at zero None = refl
last_at at zero (Some r) = refl
last_at at (suc n) o = last_at (at + 1) n o

line_at_start : (qs : List Affine) (xs : List Line) (i : ℕ) → i < length qs → get_or (map line_of qs ++ xs) i no_line ≡ line_of (get_or qs i no_affine)
line_at_start [] xs i h = absurd (omega arith)
line_at_start (q ∷ qs) xs zero h = refl
line_at_start (q ∷ qs) xs (suc i) h = line_at_start qs xs i (omega arith)

last_line : (qs : List Affine) (r : Affine) → get_or (map line_of qs ++ line_of r ∷ []) (length qs) no_line ≡ line_of r
last_line [] r = refl
last_line (q ∷ qs) r = last_line qs r

few : (o : Option Affine) → length (objective_labels o) ≤ 1
few None = omega arith
few (Some r) = omega arith

as_many : (o : Option Affine) → length (objective_labels o) ≡ length (objective_lines o)
as_many None = refl
as_many (Some r) = refl

-- ---- labels
and_from : (x y : Bool) → x ≡ true → y ≡ true → (x && y) ≡ true
and_from true y h k = k
and_from false y h k = cc

and_parts : (x y : Bool) → (x && y) ≡ true → (x ≡ true) × (y ≡ true)
and_parts true y h = (refl, h)
and_parts false y h = cc

pub label_base : (base quantities rows b : ℕ) → 0 < b → b ≤ base → is_label base quantities rows (Base b) ≡ true
label_base base quantities rows b h k = and_from (nat_lt 0 b) (nat_le b base) (lt-ltb 0 b h) (le-leb b base k)

pub label_quantity : (base quantities rows k : ℕ) → 0 < k → k ≤ quantities → is_label base quantities rows (Quantity k) ≡ true
label_quantity base quantities rows k h l = and_from (nat_lt 0 k) (nat_le k quantities) (lt-ltb 0 k h) (le-leb k quantities l)

pub base_in : (base quantities rows b : ℕ) → is_label base quantities rows (Base b) ≡ true → (0 < b) × (b ≤ base)
base_in base quantities rows b h = let p = and_parts (nat_lt 0 b) (nat_le b base) h in (ltb-true 0 b p.0, leb-true b base p.1)

pub quantity_in : (base quantities rows k : ℕ) → is_label base quantities rows (Quantity k) ≡ true → (0 < k) × (k ≤ quantities)
quantity_in base quantities rows k h = let p = and_parts (nat_lt 0 k) (nat_le k quantities) h in (ltb-true 0 k p.0, leb-true k quantities p.1)

pub objective_in : (base quantities rows : ℕ) → is_label base quantities rows Objective ≡ true → quantities < rows
objective_in base quantities rows h = ltb-true quantities rows h

abbrev number : Label → ℕ
number (Base b) = b
number (Quantity k) = k
number Objective = 0

base_apart : (k b : ℕ) → Quantity k ≢ Base b
base_apart k b e = absurd (cc)

objective_apart : (b : ℕ) → Objective ≢ Base b
objective_apart b e = absurd (cc)

last_apart : (k : ℕ) → Quantity k ≢ Objective
last_apart k e = absurd (cc)

-- ---- lines
row_line : (base : ℕ) (r : Affine) → IsRow base r → IsLine base (line_of r)
row_line base r h = record { width = h.width; positive = omega (arith, ints); denom = omega (arith, ints); constant = h.constant; cells = h.cells }

start_lines : (base : ℕ) (qs : List Affine) (o : Option Affine) → All (IsRow base) qs → ((r : Affine) → o ≡ Some r → IsRow base r) → All (IsLine base) (map line_of qs ++ objective_lines o)
start_lines base [] None h k = All-nil (IsLine base)
start_lines base [] (Some r) h k = All-cons (IsLine base) (line_of r) [] (row_line base r (k r refl)) (All-nil (IsLine base))
start_lines base (q ∷ qs) o h k = All-cons (IsLine base) (line_of q) (map line_of qs ++ objective_lines o) (row_line base q (All-head (IsRow base) q qs h)) (start_lines base qs o (All-tail (IsRow base) q qs h) k)

start_lowest : (qs : List Affine) (o : Option Affine) → All IsLowest (map line_of qs ++ objective_lines o)
start_lowest [] None = All-nil IsLowest
start_lowest [] (Some r) = All-cons IsLowest (line_of r) [] (one_lowest (line_of r) refl) (All-nil IsLowest)
start_lowest (q ∷ qs) o = All-cons IsLowest (line_of q) (map line_of qs ++ objective_lines o) (one_lowest (line_of q) refl) (start_lowest qs o)

module _ (base : ℕ) (qs : List Affine) (o : Option Affine) where
  abbrev d : Dictionary
  d = started base qs o

  columns_are : length d.columns ≡ base
  columns_are = length-bases 1 base

  marks_are : length d.marks ≡ length qs
  marks_are = length-replicate (length qs) Unasked

  rows_are : length d.rows ≡ length qs + length (objective_labels o)
  rows_are = length-append (quantities_from 1 (length qs)) (objective_labels o) ∙ ap (λ n. n + length (objective_labels o)) (length-quantities 1 (length qs))

  lines_are : length d.lines ≡ length qs + length (objective_lines o)
  lines_are = length-append (map line_of qs) (objective_lines o) ∙ ap (λ n. n + length (objective_lines o)) (length-map qs line_of)

  row_is : (i : ℕ) → i < length qs → row_label d i ≡ Quantity (1 + i)
  row_is i h = quantity_at 1 (length qs) (objective_labels o) i h

  last_is : row_label d (length qs) ≡ Objective
  last_is = last_at 1 (length qs) o

  column_is : (j : ℕ) → j < base → column_label d j ≡ Base (1 + j)
  column_is j h = base_at 1 base j h

  -- a row is that of a quantity, or the last
  pub which : (i : ℕ) → i < length d.rows → (i < length qs) ⊎ ((i ≡ length qs) × (length qs < length d.rows))
  which i h = go (nat_lt i (length qs)) refl
    where
      go : (b : Bool) → nat_lt i (length qs) ≡ b → (i < length qs) ⊎ ((i ≡ length qs) × (length qs < length d.rows))
      go true e = inl (ltb-true i (length qs) e)
      go false e =
          let f = few o in
          let k : length qs ≤ i = ltb-false i (length qs) e in
          inr ((omega (arith, rows_are)), (omega arith))

  label_is : (w v : Label) → w ≡ v → is_label base (length qs) (length d.rows) v ≡ true → IsLabel (length d.columns) (length d.marks) (length d.rows) w
  label_is w v e h = ap₂ (λ b m. is_label b m (length d.rows) w) columns_are marks_are ∙ (ap (is_label base (length qs) (length d.rows)) e ∙ h)

  row_labels : (i : ℕ) → (i < length qs) ⊎ ((i ≡ length qs) × (length qs < length d.rows)) → IsLabel (length d.columns) (length d.marks) (length d.rows) (row_label d i)
  row_labels i (inl h) = label_is (row_label d i) (Quantity (1 + i)) (row_is i h) (label_quantity base (length qs) (length d.rows) (1 + i) (omega arith) (omega arith))
  row_labels i (inr h) = label_is (row_label d i) Objective (ap (row_label d) h.0 ∙ last_is) (lt-ltb (length qs) (length d.rows) h.1)

  rows_differ : (i h : ℕ) → row_label d i ≡ row_label d h → (i < length qs) ⊎ ((i ≡ length qs) × (length qs < length d.rows)) → (h < length qs) ⊎ ((h ≡ length qs) × (length qs < length d.rows)) → i ≡ h
  rows_differ i h e (inl a) (inl b) = let k : 1 + i ≡ 1 + h = ap number (sym (row_is i a) ∙ (e ∙ row_is h b)) in omega arith
  rows_differ i h e (inl a) (inr b) = absurd (last_apart (1 + i) (sym (row_is i a) ∙ (e ∙ (ap (row_label d) b.0 ∙ last_is))))
  rows_differ i h e (inr a) (inl b) = absurd (last_apart (1 + h) (sym (row_is h b) ∙ (sym e ∙ (ap (row_label d) a.0 ∙ last_is))))
  rows_differ i h e (inr a) (inr b) = a.0 ∙ sym b.0

  parted : (i j : ℕ) → j < base → row_label d i ≡ column_label d j → (i < length qs) ⊎ ((i ≡ length qs) × (length qs < length d.rows)) → ⊥
  parted i j h e (inl a) = base_apart (1 + i) (1 + j) (sym (row_is i a) ∙ (e ∙ column_is j h))
  parted i j h e (inr a) = objective_apart (1 + j) (sym (ap (row_label d) a.0 ∙ last_is) ∙ (e ∙ column_is j h))

  all_stand : (w : Label) → is_label base (length qs) (length d.rows) w ≡ true → (stands w d.rows || stands w d.columns) ≡ true
  all_stand (Base b) h =
      let p = base_in base (length qs) (length d.rows) b h in
      let k : b - 1 < base = omega (arith, p.0, p.1) in
      let e : 1 + (b - 1) ≡ b = omega (arith, p.0) in
      or_second (stands (Base b) d.rows) (stands (Base b) d.columns) (place_stands (Base b) d.columns (b - 1) (omega (arith, columns_are)) (column_is (b - 1) k ∙ ap Base e))
  all_stand (Quantity m) h =
      let p = quantity_in base (length qs) (length d.rows) m h in
      let k : m - 1 < length qs = omega (arith, p.0, p.1) in
      let e : 1 + (m - 1) ≡ m = omega (arith, p.0) in
      or_first (stands (Quantity m) d.rows) (stands (Quantity m) d.columns) (place_stands (Quantity m) d.rows (m - 1) (omega (arith, rows_are)) (row_is (m - 1) k ∙ ap Quantity e))
  all_stand Objective h = or_first (stands Objective d.rows) (stands Objective d.columns) (place_stands Objective d.rows (length qs) (objective_in base (length qs) (length d.rows) h) last_is)

  pub start_sound : base ≤ 256 → length qs ≤ 512 → All (IsRow base) qs → ((r : Affine) → o ≡ Some r → IsRow base r) → IsSound d
  start_sound few_bases few_quantities rows objective = record {
    lines = subst (λ n. All (IsLine n) d.lines) (sym columns_are) (start_lines base qs o rows objective);
    lowest = start_lowest qs o;
    count = rows_are ∙ (ap (λ n. length qs + n) (as_many o) ∙ sym lines_are);
    quantities = omega (arith, rows_are, marks_are);
    one_objective = let f = few o in omega (arith, rows_are, marks_are);
    objective = λ h. ap (row_label d) marks_are ∙ last_is;
    row_labels = λ i h. row_labels i (which i h);
    column_labels = λ j h. let k : j < base = omega (arith, columns_are) in label_is (column_label d j) (Base (1 + j)) (column_is j k) (label_base base (length qs) (length d.rows) (1 + j) (omega arith) (omega arith));
    rows_once = λ i h li lh e. rows_differ i h e (which i li) (which h lh);
    columns_once = λ j h lj lh e.
        let a : j < base = omega (arith, columns_are) in
        let b : h < base = omega (arith, columns_are) in
        let k : 1 + j ≡ 1 + h = ap number (sym (column_is j a) ∙ (e ∙ column_is h b)) in
        omega arith;
    apart = λ i j li lj e. parted i j (omega (arith, columns_are)) e (which i li);
    complete = λ w h. all_stand w (sym (ap₂ (λ b m. is_label b m (length d.rows) w) columns_are marks_are) ∙ h);
    few_bases = omega (arith, columns_are);
    few_quantities = omega (arith, marks_are);
  }

-- ---- what the rows tell
bases_values : (at n : ℕ) (f : Label → ℤ) (ys : List ℤ) → length ys ≡ n → ((j : ℕ) → j < n → f (Base (at + j)) ≡ cell ys j) → map f (bases_from at n) ≡ ys
bases_values at zero f [] e h = refl
bases_values at zero f (y ∷ ys) e h = absurd (omega arith)
bases_values at (suc n) f [] e h = absurd (omega arith)
bases_values at (suc n) f (y ∷ ys) e h = ap₂ (λ z zs. z ∷ zs) (ap (λ k. f (Base k)) (sym (add-zero at)) ∙ h 0 (omega arith)) (bases_values (at + 1) n f ys (omega arith) (λ j l. ap (λ k. f (Base k)) (let e : at + 1 + j ≡ at + suc j = omega arith in e) ∙ h (suc j) (omega arith)))

-- a row that is the line of an affine quantity says what the quantity is worth
line_says : (l : Line) (q : Affine) (s v : ℤ) (ys : List ℤ) → l ≡ line_of q → l.denom *ℤ v ≡ l.constant *ℤ s +ℤ dot l.cells ys → v ≡ affine_value q s ys
line_says l q s v ys e h = sym (one-*ℤ v) ∙ (ap (λ x. x.denom *ℤ v) (sym e) ∙ (h ∙ ap (λ x. x.constant *ℤ s +ℤ dot x.cells ys) e))

says_line : (l : Line) (q : Affine) (s v : ℤ) (ys : List ℤ) → l ≡ line_of q → v ≡ affine_value q s ys → l.denom *ℤ v ≡ l.constant *ℤ s +ℤ dot l.cells ys
says_line l q s v ys e h = ap (λ x. x.denom *ℤ v) e ∙ (one-*ℤ v ∙ (h ∙ ap (λ x. x.constant *ℤ s +ℤ dot x.cells ys) (sym e)))

module _ (base : ℕ) (qs : List Affine) (o : Option Affine) (s : ℤ) where
  abbrev c : Dictionary
  c = started base qs o

  -- the last row says what the objective is worth
  last_line_is : (p : Option Affine) → length qs < length (quantities_from 1 (length qs) ++ objective_labels p) → (v : ℤ) (ys : List ℤ) → ((line_at (started base qs p) (length qs)).denom *ℤ v ≡ (line_at (started base qs p) (length qs)).constant *ℤ s +ℤ dot (line_at (started base qs p) (length qs)).cells ys → v ≡ objective_value p s ys) × (v ≡ objective_value p s ys → (line_at (started base qs p) (length qs)).denom *ℤ v ≡ (line_at (started base qs p) (length qs)).constant *ℤ s +ℤ dot (line_at (started base qs p) (length qs)).cells ys)
  last_line_is None h v ys =
      let k : length (quantities_from 1 (length qs) ++ []) ≡ length qs = length-append (quantities_from 1 (length qs)) [] ∙ (ap (λ n. n + 0) (length-quantities 1 (length qs)) ∙ add-zero (length qs)) in
      absurd (omega arith)
  last_line_is (Some r) h v ys = (line_says (line_at (started base qs (Some r)) (length qs)) r s v ys (last_line qs r), says_line (line_at (started base qs (Some r)) (length qs)) r s v ys (last_line qs r))

  module _ (xs : List ℤ) (size : length xs ≡ base) where
    abbrev f : Label → ℤ
    f w = label_value qs o s xs w

    values : map f c.columns ≡ xs
    values = bases_values 1 base f xs size (λ j h. ap (cell xs) (let e : 1 + j - 1 ≡ j = omega arith in e))

    row_true : (i : ℕ) → (i < length qs) ⊎ ((i ≡ length qs) × (length qs < length c.rows)) → (line_at c i).denom *ℤ f (row_label c i) ≡ (line_at c i).constant *ℤ s +ℤ dot (line_at c i).cells (map f c.columns)
    row_true i (inl h) =
        let e : 1 + i - 1 ≡ i = omega arith in
        says_line (line_at c i) (get_or qs i no_affine) s (f (row_label c i)) (map f c.columns) (line_at_start qs (objective_lines o) i h)
        (ap f (quantity_at 1 (length qs) (objective_labels o) i h) ∙ (ap (λ k. affine_value (get_or qs k no_affine) s xs) e ∙ ap (λ ys. affine_value (get_or qs i no_affine) s ys) (sym values)))
    row_true i (inr h) =
        subst (λ n. (line_at c n).denom *ℤ f (row_label c n) ≡ (line_at c n).constant *ℤ s +ℤ dot (line_at c n).cells (map f c.columns)) (sym h.0)
        ((last_line_is o h.1 (f (row_label c (length qs))) (map f c.columns)).1 (ap f (last_at 1 (length qs) o) ∙ ap (λ ys. objective_value o s ys) (sym values)))

    pub start_tells : RowsTrue c s f
    start_tells i h = row_true i (which base qs o i h)

  module _ (g : Label → ℤ) (true_rows : RowsTrue c s g) where
    pub start_told : (w : Label) → IsLabel base (length qs) (length c.rows) w → g w ≡ label_value qs o s (map g (bases_from 1 base)) w
    start_told (Base b) h =
        let p = base_in base (length qs) (length c.rows) b h in
        let k : b - 1 < base = omega (arith, p.0, p.1) in
        let e : 1 + (b - 1) ≡ b = omega (arith, p.0) in
        sym (get_or-map g (bases_from 1 base) (b - 1) Objective (pos 0) (omega (arith, length-bases 1 base)) ∙ ap g (base_at 1 base (b - 1) k ∙ ap Base e))
    start_told (Quantity m) h =
        let p = quantity_in base (length qs) (length c.rows) m h in
        let k : m - 1 < length qs = omega (arith, p.0, p.1) in
        let e : 1 + (m - 1) ≡ m = omega (arith, p.0) in
        sym (ap g (quantity_at 1 (length qs) (objective_labels o) (m - 1) k ∙ ap Quantity e))
        ∙ line_says (line_at c (m - 1)) (get_or qs (m - 1) no_affine) s (g (row_label c (m - 1))) (map g c.columns) (line_at_start qs (objective_lines o) (m - 1) k) (true_rows (m - 1) (omega (arith, rows_are base qs o)))
    start_told Objective h =
        let l = objective_in base (length qs) (length c.rows) h in
        sym (ap g (last_at 1 (length qs) o)) ∙ (last_line_is o l (g (row_label c (length qs))) (map g c.columns)).0 (true_rows (length qs) l)

pub starts_tell : (base : ℕ) (qs : List Affine) (o : Option Affine) → base ≤ 256 → length qs ≤ 512 → All (IsRow base) qs → ((r : Affine) → o ≡ Some r → IsRow base r) → StartsAre base qs o
starts_tell base qs o few_bases few_quantities rows objective = record {
  sound = start_sound base qs o few_bases few_quantities rows objective;
  forth = λ s xs e. start_tells base qs o s xs e;
  back = λ s f h w k. start_told base qs o s f h w k;
}

-- a dictionary of the parts at the start
pub parts_sound : (base : ℕ) (qs : List Affine) (kinds : List Kind) (pairs : List (ℕ × ℕ)) (o : Option Affine) (n : ℕ) (slice : List Affine) (lines : List Line) (rows columns : List Label) (marks : List Mark) → IsSystem base qs kinds pairs o → slice ≡ qs → n ≡ length qs → lines ≡ map line_of slice ++ objective_lines o → rows ≡ quantities_from 1 n ++ objective_labels o → columns ≡ bases_from 1 base → marks ≡ replicate n Unasked → IsSound (record { lines = lines; rows = rows; columns = columns; marks = marks })
parts_sound base qs kinds pairs o n slice lines rows columns marks h es en el er ec em =
    let a : lines ≡ map line_of qs ++ objective_lines o = el ∙ ap (λ xs. map line_of xs ++ objective_lines o) es in
    let b : rows ≡ quantities_from 1 (length qs) ++ objective_labels o = er ∙ ap (λ k. quantities_from 1 k ++ objective_labels o) en in
    let c : marks ≡ replicate (length qs) Unasked = em ∙ ap (λ k. replicate k Unasked) en in
    let q : started base qs o ≡ record { lines = lines; rows = rows; columns = columns; marks = marks } = λ i. record { lines = sym a i; rows = sym b i; columns = sym ec i; marks = sym c i } in
    subst IsSound q (start_sound base qs o h.few_variables h.few_quantities h.rows h.objective_row)

-- the lines at the start have a cell for each base variable
pub start_widths : (base : ℕ) (qs : List Affine) (kinds : List Kind) (pairs : List (ℕ × ℕ)) (o : Option Affine) (slice : List Affine) (lines : List Line) → IsSystem base qs kinds pairs o → slice ≡ qs → lines ≡ map line_of slice ++ objective_lines o → (i : ℕ) → i < length lines → length (get_or lines i no_line).cells ≡ base
start_widths base qs kinds pairs o slice lines h es el =
    let a : map line_of qs ++ objective_lines o ≡ lines = sym (el ∙ ap (λ xs. map line_of xs ++ objective_lines o) es) in
    subst (λ (ls : List Line). (i : ℕ) → i < length ls → length (get_or ls i no_line).cells ≡ base) a (λ i b. ((start_sound base qs o h.few_variables h.few_quantities h.rows h.objective_row).lines i no_line b).width ∙ length-bases 1 base)
