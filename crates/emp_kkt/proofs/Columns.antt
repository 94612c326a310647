-- The coefficients of items are those of their rows, over a number.
use Rattle.std.proofs.Common.{◌≡◌, ◌⊎◌, inl, inr, ℕ, zero, suc, ◌<◌, ◌≤◌, ℤ, pos, negsuc, neg_ℤ, ◌+ℤ◌, ◌*ℤ◌, Bool, true, false, cond, List, [], ◌∷◌, length, get_or, map, Ok, refl, sym, ap, ap₂, subst, ◌∙◌, arith, nat_eq, nat_lt, int_div}
use lib.IntN.{zero-*ℤ, *ℤ-zero, *ℤ_comm}
use Rattle.std.specs.List.{All}
use Rattle.std.proofs.lemmas.Bool.{eqb-true, eqb-false, ltb-true, lt-ltb, le-ltb}
use Rattle.std.proofs.lemmas.List.{length-map}
use Rattle.std.proofs.lemmas.List.Elements.{All-get_or}
use Rattle.emp_algebra.specs.Vector.{cell, add_rows}
use Rattle.emp_algebra.proofs.Vectors.{cell-scale}
use Rattle.emp_algebra.proofs.Laws.{neg_ℤ-*ℤ}
use Rattle.emp_algebra.proofs.Order.{cancel_right}
use Rattle.emp_algebra.proofs.Ring.{var, lit, neg, ◌⊕◌, ◌⊗◌, by_ring}
use Rattle.emp_num.specs.FracSpec.{IsQuotient}
use Rattle.emp_num.specs.Whole.{whole}
use Rattle.emp_num.specs.declared.frac.Frac.{Frac}
use Rattle.emp_systems.specs.Own.{unit}
use Rattle.emp_systems.proofs.Own.{unit_other}
use Rattle.emp_poly.specs.Quads.{linear_at, square_at}
use Rattle.emp_poly.specs.declared.quad.Quad.{Quad}
use Rattle.emp_poly.specs.declared.quad.Lin.{Lin}
use Rattle.emp_game.specs.Game.{Row as GameRow}
use Rattle.emp_game.specs.Conditions.{column, row_of, derivative}
use Rattle.emp_problem.specs.declared.problem.Purpose.{Purpose}
use Rattle.emp_problem.specs.declared.problem.Purpose.TheVariants.{Goal as Aim, Flow}
use Rattle.emp_problem.specs.declared.problem.BlockPart.{BlockPart}
use Rattle.emp_problem.specs.declared.problem.AgentProblem.{AgentProblem}
use Rattle.emp_problem.specs.Left.{place_in}
use Rattle.emp_problem.specs.Problem.{left_of, times_over, lin_row, upper_at, quad_quadratic, IsWholeOver, LinIsOver, QuadIsOver, PurposeIsOver}
use Rattle.emp_kkt.specs.Items.{no_lin, own_at}
use Rattle.emp_kkt.specs.Cells.{Gives, signed_frac, lin_cell, PartialBy, PartialGives, PurposeGives, StartBy, StartGives, purpose_constant}
use Rattle.emp_kkt.proofs.Values.{past_end}
use Rattle.emp_kkt.proofs.Meeting.{function_of, signed_row}

-- ---- fractions over a number
pub whole_quotient : (n : ℤ) (f : Frac) → IsWholeOver n f → IsQuotient f (times_over n f) n
whole_quotient n f h = *ℤ_comm f.num n ∙ sym h

pub zero_quotient : (D : ℤ) → IsQuotient (whole 0) (pos 0) D
zero_quotient D = zero-*ℤ D ∙ sym (zero-*ℤ (pos 1))

pub zero_over : (n : ℤ) → times_over n (whole 0) ≡ pos 0
zero_over n = ap (λ z. int_div z (pos 1)) (*ℤ-zero n)

abbrev pub signed : Bool → ℤ → ℤ
signed true z = neg_ℤ z
signed false z = z

pub signed_quotient : (t : Bool) (c : Frac) (x D : ℤ) → IsQuotient c x D → IsQuotient (signed_frac t c) (signed t x) D
signed_quotient true c x D h = neg_ℤ-*ℤ c.num D ∙ (ap neg_ℤ h ∙ sym (neg_ℤ-*ℤ x c.den))
signed_quotient false c x D h = h

minus_one : (z : ℤ) → negsuc 0 *ℤ z ≡ neg_ℤ z
minus_one z = by_ring (z ∷ []) (lit (negsuc 0) ⊗ var 0) (neg (var 0)) refl

pub signed_cell : (t : Bool) (r : GameRow) (i : ℕ) → cell (signed_row t r).cells i ≡ signed t (cell r.cells i)
signed_cell true r i = cell-scale (negsuc 0) r.cells i ∙ minus_one (cell r.cells i)
signed_cell false r i = refl

pub signed_constant : (t : Bool) (r : GameRow) → (signed_row t r).constant ≡ signed t r.constant
signed_constant true r = refl
signed_constant false r = refl

pub signed_times : (t : Bool) (x w : ℤ) → signed t x *ℤ w ≡ signed t (x *ℤ w)
signed_times true x w = neg_ℤ-*ℤ x w
signed_times false x w = refl

-- ---- cells
pub cell-add_rows : (r s : List ℤ) (i : ℕ) → cell (add_rows r s) i ≡ cell r i +ℤ cell s i
cell-add_rows [] s i = by_ring (cell s i ∷ []) (var 0) (lit (pos 0) ⊕ var 0) refl
cell-add_rows (a ∷ r) [] i = by_ring (cell (a ∷ r) i ∷ []) (var 0) (var 0 ⊕ lit (pos 0)) refl
cell-add_rows (a ∷ r) (b ∷ s) zero = refl
cell-add_rows (a ∷ r) (b ∷ s) (suc i) = cell-add_rows r s i

unit_here : (k : ℕ) (s : ℤ) → cell (unit k s) k ≡ s
unit_here zero s = refl
unit_here (suc k) s = unit_here k s

-- by a test that k is the place
pub unit_by : (k i : ℕ) (s : ℤ) (t : Bool) → nat_eq k i ≡ t → cell (unit k s) i ≡ cond t s (pos 0)
unit_by k i s true e = let z : k ≡ i = eqb-true k i e in ap (λ m. cell (unit k s) m) (sym z) ∙ unit_here k s
unit_by k i s false e = unit_other k i s (eqb-false k i e)

pub unit_turned : (k i : ℕ) (s : ℤ) (t : Bool) → nat_eq i k ≡ t → cell (unit k s) i ≡ cond t s (pos 0)
unit_turned k i s true e = let z : i ≡ k = eqb-true i k e in ap (λ m. cell (unit k s) m) z ∙ unit_here k s
unit_turned k i s false e = unit_other k i s (λ z. eqb-false i k e (sym z))

pub map_cell : {X : Type 0} (f : X → ℤ) (xs : List X) (i : ℕ) (d : X) → i < length xs → cell (map f xs) i ≡ f (get_or xs i d)
map_cell f [] i d h = absurd (omega (arith, h))
map_cell f (x ∷ xs) zero d h = refl
map_cell f (x ∷ xs) (suc i) d h = map_cell f xs i d (omega (arith, h))

pub map_past : {X : Type 0} (f : X → ℤ) (xs : List X) (i : ℕ) → length xs ≤ i → cell (map f xs) i ≡ pos 0
map_past f xs i h = past_end (map f xs) i (let e = length-map xs f in omega (arith, e, h))

map_row : {X : Type 0} (f : X → List ℤ) (xs : List X) (k : ℕ) (d : X) → k < length xs → row_of (map f xs) k ≡ f (get_or xs k d)
map_row f [] k d h = absurd (omega (arith, h))
map_row f (x ∷ xs) zero d h = refl
map_row f (x ∷ xs) (suc k) d h = map_row f xs k d (omega (arith, h))

column_cell : (m : List (List ℤ)) (k i : ℕ) → cell (column m k) i ≡ cell (row_of m i) k
column_cell [] k i = refl
column_cell (r ∷ m) k zero = refl
column_cell (r ∷ m) k (suc i) = column_cell m k i

row_past : {X : Type 0} (f : X → List ℤ) (xs : List X) (k : ℕ) → length xs ≤ k → row_of (map f xs) k ≡ []
row_past f [] k h = refl
row_past f (x ∷ xs) zero h = absurd (omega (arith, h))
row_past f (x ∷ xs) (suc k) h = row_past f xs k (omega (arith, h))

-- the variable at the place of a variable
pub place_read : (vs : List ℕ) (v : ℕ) → place_in vs v < length vs → get_or vs (place_in vs v) 0 ≡ v
place_read [] v h = absurd (omega (arith, h))
place_read (u ∷ vs) v h = go (place_read vs v) (nat_eq u v) refl h
  where
    go : (place_in vs v < length vs → get_or vs (place_in vs v) 0 ≡ v) → (t : Bool) → nat_eq u v ≡ t → cond t 0 (suc (place_in vs v)) < length (u ∷ vs) → get_or (u ∷ vs) (cond t 0 (suc (place_in vs v))) 0 ≡ v
    go rest true e l = eqb-true u v e
    go rest false e l = rest (omega (arith, l))

below_or_not : (i n : ℕ) → (i < n) ⊎ (n ≤ i)
below_or_not i n = grind arith

not_below : (i n : ℕ) → nat_lt i n ≡ false → n ≤ i
not_below i n e = go (below_or_not i n)
  where
    go : (i < n) ⊎ (n ≤ i) → n ≤ i
    go (inl h) = absurd (let z : nat_lt i n ≡ true = lt-ltb i n h in cc)
    go (inr h) = h

abbrev IsGiven : Gives → Frac → Type 0
IsGiven r f = r ≡ Ok f

-- ---- linear functions
module _ (n : ℤ) (pr : AgentProblem) where
  left_count : length (left_of pr) ≡ length pr.variables
  left_count = length-map pr.variables (λ v. v.variable.at)

  lin_by : (l : Lin) (at : ℕ) (t : Bool) → nat_lt at (length pr.variables) ≡ t → LinIsOver n l → IsQuotient (cond t (linear_at l.linear (get_or (left_of pr) at 0)) (whole 0)) (cell (lin_row n (left_of pr) l).cells at) n
  lin_by l at true e h =
      let z : at < length (left_of pr) = (let y = left_count in let x = ltb-true at (length pr.variables) e in omega (arith, y, x)) in
      subst (λ (x : ℤ). IsQuotient (linear_at l.linear (get_or (left_of pr) at 0)) x n) (sym (map_cell (λ v. times_over n (linear_at l.linear v)) (left_of pr) at 0 z)) (whole_quotient n (linear_at l.linear (get_or (left_of pr) at 0)) (h.linear (get_or (left_of pr) at 0)))
  lin_by l at false e h =
      let z : length (left_of pr) ≤ at = (let y = left_count in let x = not_below at (length pr.variables) e in omega (arith, y, x)) in
      subst (λ (x : ℤ). IsQuotient (whole 0) x n) (sym (map_past (λ v. times_over n (linear_at l.linear v)) (left_of pr) at z)) (zero_quotient n)

  pub lin_over : (l : Lin) (at : ℕ) → LinIsOver n l → IsQuotient (lin_cell pr l at) (cell (lin_row n (left_of pr) l).cells at) n
  lin_over l at h = lin_by l at (nat_lt at (length pr.variables)) refl h

  pub lin_past : (l : Lin) (at : ℕ) → length pr.variables ≤ at → cell (lin_row n (left_of pr) l).cells at ≡ pos 0
  lin_past l at h = map_past (λ v. times_over n (linear_at l.linear v)) (left_of pr) at (let y = left_count in omega (arith, y, h))

  pub lin_at_place : (l : Lin) (v : ℕ) → place_in (left_of pr) v < length pr.variables → cell (lin_row n (left_of pr) l).cells (place_in (left_of pr) v) ≡ times_over n (linear_at l.linear v)
  lin_at_place l v h =
      map_cell (λ u. times_over n (linear_at l.linear u)) (left_of pr) (place_in (left_of pr) v) 0 (let y = left_count in omega (arith, y, h))
      ∙ ap (λ u. times_over n (linear_at l.linear u)) (place_read (left_of pr) v (let y = left_count in omega (arith, y, h)))

  -- ---- derivatives
  double_over : (s f : Frac) → IsWholeOver n f → IsQuotient s ((whole 2).num *ℤ f.num) ((whole 2).den *ℤ f.den) → IsQuotient s (times_over n f +ℤ times_over n f) n
  double_over s f h q =
      cancel_right (s.num *ℤ n) ((times_over n f +ℤ times_over n f) *ℤ s.den) f.den
      (by_ring (s.num ∷ n ∷ f.den ∷ []) (var 0 ⊗ var 1 ⊗ var 2) (var 0 ⊗ (lit (pos 1) ⊗ var 2) ⊗ var 1) refl
      ∙ (ap (λ z. z *ℤ n) q
      ∙ (by_ring (f.num ∷ s.den ∷ n ∷ []) (lit (pos 2) ⊗ var 0 ⊗ var 1 ⊗ var 2) (lit (pos 2) ⊗ (var 2 ⊗ var 0) ⊗ var 1) refl
      ∙ (ap (λ z. pos 2 *ℤ z *ℤ s.den) (sym h)
      ∙ by_ring (times_over n f ∷ f.den ∷ s.den ∷ []) (lit (pos 2) ⊗ (var 0 ⊗ var 1) ⊗ var 2) ((var 0 ⊕ var 0) ⊗ var 2 ⊗ var 1) refl))))
      f.positive

  nothing_before : (T : ℤ) → T ≡ pos 0 +ℤ T
  nothing_before T = by_ring (T ∷ []) (var 0) (lit (pos 0) ⊕ var 0) refl

  nothing_after : (T : ℤ) → T ≡ T +ℤ pos 0
  nothing_after T = by_ring (T ∷ []) (var 0) (var 0 ⊕ lit (pos 0)) refl

  -- of the products of u and v, in both orders
  partial_over : (q : Quad) (v u : ℕ) (s : Frac) → QuadIsOver n q → PartialGives q v u (Ok s) → IsQuotient s (times_over n (upper_at q v u) +ℤ times_over n (upper_at q u v)) n
  partial_over q v u s h g = by_equal (nat_eq u v) refl g
    where
      same_upper : (a b : ℕ) → a ≡ b → nat_lt b a ≡ false
      same_upper a b e = le-ltb b a (omega (arith, e))

      by_equal : (t : Bool) → nat_eq u v ≡ t → PartialBy t q v u (Ok s) → IsQuotient s (times_over n (upper_at q v u) +ℤ times_over n (upper_at q u v)) n
      by_equal true e k =
          let z : u ≡ v = eqb-true u v e in
          let one : upper_at q v u ≡ square_at q.square v v = ap (λ (t : Bool). cond t (whole 0) (square_at q.square v u)) (same_upper v u (sym z)) ∙ ap (λ m. square_at q.square v m) z in
          let two : upper_at q u v ≡ square_at q.square v v = ap (λ (t : Bool). cond t (whole 0) (square_at q.square u v)) (same_upper u v z) ∙ ap (λ m. square_at q.square m v) z in
          subst (λ (x : ℤ). IsQuotient s x n) (sym (ap₂ (λ (a b : Frac). times_over n a +ℤ times_over n b) one two)) (double_over s (square_at q.square v v) (h.square v v) k.1)
      by_equal false e k = by_order (nat_lt u v) refl k
        where
          by_order : (t : Bool) → nat_lt u v ≡ t → IsGiven (Ok s) (cond t (square_at q.square u v) (square_at q.square v u)) → IsQuotient s (times_over n (upper_at q v u) +ℤ times_over n (upper_at q u v)) n
          by_order true f k =
              let is : s ≡ square_at q.square u v = cc in
              let one : upper_at q v u ≡ whole 0 = ap (λ (t : Bool). cond t (whole 0) (square_at q.square v u)) f in
              let two : upper_at q u v ≡ square_at q.square u v = ap (λ (t : Bool). cond t (whole 0) (square_at q.square u v)) (le-ltb v u (let x = ltb-true u v f in omega (arith, x))) in
              subst (λ (c : Frac). IsQuotient c (times_over n (upper_at q v u) +ℤ times_over n (upper_at q u v)) n) (sym is)
              (subst (λ (x : ℤ). IsQuotient (square_at q.square u v) x n) (nothing_before (times_over n (square_at q.square u v)) ∙ ap₂ (λ (a b : ℤ). a +ℤ b) (sym (ap (times_over n) one ∙ zero_over n)) (ap (times_over n) (sym two))) (whole_quotient n (square_at q.square u v) (h.square u v)))
          by_order false f k =
              let is : s ≡ square_at q.square v u = cc in
              let after : v < u = (let x = not_below u v f in let y = eqb-false u v e in omega (arith, x, y)) in
              let one : upper_at q v u ≡ square_at q.square v u = ap (λ (t : Bool). cond t (whole 0) (square_at q.square v u)) f in
              let two : upper_at q u v ≡ whole 0 = ap (λ (t : Bool). cond t (whole 0) (square_at q.square u v)) (lt-ltb v u after) in
              subst (λ (c : Frac). IsQuotient c (times_over n (upper_at q v u) +ℤ times_over n (upper_at q u v)) n) (sym is)
              (subst (λ (x : ℤ). IsQuotient (square_at q.square v u) x n) (nothing_after (times_over n (square_at q.square v u)) ∙ ap₂ (λ (a b : ℤ). a +ℤ b) (ap (times_over n) (sym one)) (sym (ap (times_over n) two ∙ zero_over n))) (whole_quotient n (square_at q.square v u) (h.square v u)))

  square_cell : (q : Quad) (k i : ℕ) → k < length (left_of pr) → i < length (left_of pr) → cell (row_of (map (λ u. map (λ v. times_over n (upper_at q u v)) (left_of pr)) (left_of pr)) k) i ≡ times_over n (upper_at q (get_or (left_of pr) k 0) (get_or (left_of pr) i 0))
  square_cell q k i h l =
      ap (λ r. cell r i) (map_row (λ u. map (λ v. times_over n (upper_at q u v)) (left_of pr)) (left_of pr) k 0 h)
      ∙ map_cell (λ v. times_over n (upper_at q (get_or (left_of pr) k 0) v)) (left_of pr) i 0 l

  derivative_cell : (q : Quad) (k i : ℕ) → k < length (left_of pr) → i < length (left_of pr) → cell (derivative (quad_quadratic n (left_of pr) q) k).cells i ≡ times_over n (upper_at q (get_or (left_of pr) k 0) (get_or (left_of pr) i 0)) +ℤ times_over n (upper_at q (get_or (left_of pr) i 0) (get_or (left_of pr) k 0))
  derivative_cell q k i h l =
      cell-add_rows (row_of (quad_quadratic n (left_of pr) q).square k) (column (quad_quadratic n (left_of pr) q).square k) i
      ∙ ap₂ (λ a b. a +ℤ b) (square_cell q k i h l) (column_cell (quad_quadratic n (left_of pr) q).square k i ∙ square_cell q i k l h)

  derivative_past : (q : Quad) (k i : ℕ) → k < length (left_of pr) → length (left_of pr) ≤ i → cell (derivative (quad_quadratic n (left_of pr) q) k).cells i ≡ pos 0
  derivative_past q k i h l =
      cell-add_rows (row_of (quad_quadratic n (left_of pr) q).square k) (column (quad_quadratic n (left_of pr) q).square k) i
      ∙ ap₂ (λ a b. a +ℤ b)
      (ap (λ r. cell r i) (map_row (λ u. map (λ v. times_over n (upper_at q u v)) (left_of pr)) (left_of pr) k 0 h) ∙ map_past (λ v. times_over n (upper_at q (get_or (left_of pr) k 0) v)) (left_of pr) i l)
      (column_cell (quad_quadratic n (left_of pr) q).square k i ∙ ap (λ r. cell r k) (row_past (λ u. map (λ v. times_over n (upper_at q u v)) (left_of pr)) (left_of pr) i l))

  -- ---- what a block wants
  abbrev pub FlowFits : Purpose → ℕ → Type 0
  FlowFits (Aim q) i = Unit {0}
  FlowFits (Flow fs) i = i < length fs

  flow_over : (fs : List Lin) (i : ℕ) → All (LinIsOver n) fs → i < length fs → LinIsOver n (get_or fs i no_lin)
  flow_over fs i h l = All-get_or (LinIsOver n) fs i no_lin l h

  pub function_past : (p : Purpose) (i at v : ℕ) → place_in (left_of pr) v < length pr.variables → length pr.variables ≤ at → cell (function_of n (left_of pr) p i (place_in (left_of pr) v)).cells at ≡ pos 0
  function_past (Aim q) i at v h l = derivative_past q (place_in (left_of pr) v) at (let y = left_count in omega (arith, y, h)) (let y = left_count in omega (arith, y, l))
  function_past (Flow fs) i at v h l = lin_past (get_or fs i no_lin) at l

  purpose_over : (p : Purpose) (i at v : ℕ) (s : Frac) → PurposeIsOver n p → FlowFits p i → place_in (left_of pr) v < length pr.variables → at < length pr.variables → PurposeGives p i v (get_or (left_of pr) at 0) (Ok s) → IsQuotient s (cell (function_of n (left_of pr) p i (place_in (left_of pr) v)).cells at) n
  purpose_over (Aim q) i at v s o f h l g =
      let k : place_in (left_of pr) v < length (left_of pr) = (let y = left_count in omega (arith, y, h)) in
      let m : at < length (left_of pr) = (let y = left_count in omega (arith, y, l)) in
      subst (λ (x : ℤ). IsQuotient s x n)
      (ap (λ u. times_over n (upper_at q u (get_or (left_of pr) at 0)) +ℤ times_over n (upper_at q (get_or (left_of pr) at 0) u)) (sym (place_read (left_of pr) v k)) ∙ sym (derivative_cell q (place_in (left_of pr) v) at k m))
      (partial_over q v (get_or (left_of pr) at 0) s o g)
  purpose_over (Flow fs) i at v s o f h l g =
      let is : s ≡ linear_at (get_or fs i no_lin).linear (get_or (left_of pr) at 0) = cc in
      subst (λ (c : Frac). IsQuotient c (cell (lin_row n (left_of pr) (get_or fs i no_lin)).cells at) n) (sym is)
      (subst (λ (x : ℤ). IsQuotient (linear_at (get_or fs i no_lin).linear (get_or (left_of pr) at 0)) x n) (sym (map_cell (λ u. times_over n (linear_at (get_or fs i no_lin).linear u)) (left_of pr) at 0 (let y = left_count in omega (arith, y, l))))
      (whole_quotient n (linear_at (get_or fs i no_lin).linear (get_or (left_of pr) at 0)) ((flow_over fs i o f).linear (get_or (left_of pr) at 0))))

  pub start_over : (b : BlockPart) (i at : ℕ) (s : Frac) → PurposeIsOver n b.purpose → FlowFits b.purpose i → place_in (left_of pr) (own_at b.own i).at < length pr.variables → StartGives pr b i at (Ok s) → IsQuotient s (cell (function_of n (left_of pr) b.purpose i (place_in (left_of pr) (own_at b.own i).at)).cells at) n
  start_over b i at s o f h g = go (nat_lt at (length pr.variables)) refl g
    where
      go : (t : Bool) → nat_lt at (length pr.variables) ≡ t → StartBy t pr b i at (Ok s) → IsQuotient s (cell (function_of n (left_of pr) b.purpose i (place_in (left_of pr) (own_at b.own i).at)).cells at) n
      go true e k = purpose_over b.purpose i at (own_at b.own i).at s o f h (ltb-true at (length pr.variables) e) k
      go false e k =
          let is : s ≡ whole 0 = cc in
          subst (λ (c : Frac). IsQuotient c (cell (function_of n (left_of pr) b.purpose i (place_in (left_of pr) (own_at b.own i).at)).cells at) n) (sym is)
          (subst (λ (x : ℤ). IsQuotient (whole 0) x n) (sym (function_past b.purpose i at (own_at b.own i).at h (not_below at (length pr.variables) e))) (zero_quotient n))

  pub constant_over : (p : Purpose) (i v : ℕ) → PurposeIsOver n p → FlowFits p i → place_in (left_of pr) v < length pr.variables → IsQuotient (purpose_constant p i v) (function_of n (left_of pr) p i (place_in (left_of pr) v)).constant n
  constant_over (Aim q) i v o f h =
      subst (λ (x : ℤ). IsQuotient (linear_at q.linear v) x n)
      (sym (map_cell (λ u. times_over n (linear_at q.linear u)) (left_of pr) (place_in (left_of pr) v) 0 (let y = left_count in omega (arith, y, h)) ∙ ap (λ u. times_over n (linear_at q.linear u)) (place_read (left_of pr) v (let y = left_count in omega (arith, y, h)))))
      (whole_quotient n (linear_at q.linear v) (o.linear v))
  constant_over (Flow fs) i v o f h = whole_quotient n (get_or fs i no_lin).constant (flow_over fs i o f).constant
