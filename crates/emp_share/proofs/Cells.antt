-- The matrix of the second derivatives of a polynomial, and the answer of its fold.
use Rattle.std.proofs.Common.{◌≡◌, ◌≢◌, ◌⊎◌, inl, inr, ℕ, ◌+◌, ◌*◌, ◌<◌, ◌≤◌, pos, ◌*ℤ◌, Bool, true, false, cond, nat_eq, nat_lt, List, [], ◌∷◌, ◌++◌, length, get_or, slice_index_or, Result, Ok, Err, MatchResult, arith, refl, sym, ap, ap₂, subst, subst₂, ◌∙◌}
use Rattle.std.proofs.lemmas.Bool.{lt-ltb}
use Rattle.std.proofs.lemmas.List.{length-append, get_or_append_left, get_or-append-add}
use Rattle.std.proofs.lemmas.Nat.{div-mul-add, mod-mul-add}
use Rattle.emp_algebra.proofs.Ring.{var, lit, ◌⊗◌, by_ring}
use Rattle.emp_num.specs.FracSpec.{IsQuotient, MultipliesNarrow, MultipliesWide}
use Rattle.emp_num.specs.Whole.{whole}
use Rattle.emp_num.specs.declared.frac.Frac.{Frac}
use Rattle.emp_num.specs.declared.exact.Wide.{Wide}
use Rattle.emp_num.proofs.FracOrder.{one_value}
use Rattle.emp_ldl.specs.Form.{entry, entries}
use Rattle.emp_ldl.specs.Convex.{ConvexGives}
use Rattle.emp_ldl.specs.declared.squares.Squares.{Squares}
use Rattle.emp_ldl.specs.declared.squares.Curve.{Curve}
use Rattle.emp_ldl.specs.declared.squares.Curve.TheVariants as Curved
use Rattle.emp_ldl.proofs.FracRows.{place_below}
use Rattle.emp_ast.specs.declared.tree.VarId.{VarId}
use Rattle.emp_poly.specs.Quads.{square_at}
use Rattle.emp_poly.specs.Gradient.{DoubleIsWide}
use Rattle.emp_poly.specs.declared.quad.Quad.{Quad}
use Rattle.emp_poly.proofs.Deriving.{is_double, double_narrow, double_wide}
use Rattle.emp_poly.proofs.QuadForms.{same_is, apart, number_cases}
use Rattle.emp_share.specs.Share.{variable_at, product_at, IsSecondBy, IsSecond, AreSeconds, FoldPasses, DoubleEnds, GoalGives}
use Rattle.emp_share.specs.Steps.{IsDoubleOf, AreDoubles, AreCells}

-- ---- doubles
pub double_gives : (t x : Frac) (ss : List (VarId × VarId × Frac)) (q : Quad) (v : ℕ) (r : Result Frac Wide) → t ≡ whole 2 → x ≡ square_at ss v v → ss ≡ q.square → MatchResult r (λ d. MultipliesNarrow t x × IsQuotient d (t.num *ℤ x.num) (t.den *ℤ x.den)) (λ w. MultipliesWide t x) → MatchResult r (λ d. IsDoubleOf q v d) (λ w. DoubleIsWide q v)
double_gives t x ss q v (Ok d) two mine same h = record {
  twice = by_ring (d.num ∷ (square_at q.square v v).den ∷ []) (var 0 ⊗ var 1) (var 0 ⊗ (lit (pos 1) ⊗ var 1)) refl ∙ is_double d t x ss q v two mine same h.1;
  narrow = double_narrow t x ss q v two mine same h.0;
}
double_gives t x ss q v (Err w) two mine same h = double_wide t x ss q v two mine same h

-- ---- one more cell
pub one_longer : (old new : List Frac) (x : Frac) (k : ℕ) → new ≡ old ++ x ∷ [] → length old ≡ k → length new ≡ k + 1
one_longer old new x k e c = ap length e ∙ (length-append old (x ∷ []) ∙ ap (λ n. n + 1) c)

pub one_more : (P : ℕ → Frac → Type 0) (old new : List Frac) (x : Frac) (k : ℕ) → new ≡ old ++ x ∷ [] → length old ≡ k → ((i : ℕ) → i < k → P i (slice_index_or old i (whole 0))) → P k x → (i : ℕ) → i < k + 1 → P i (slice_index_or new i (whole 0))
one_more P old new x k e c h here i l = subst (λ xs. P i (slice_index_or xs i (whole 0))) (sym e) (go (cases i k l))
  where
    cases : (i k : ℕ) → i < k + 1 → (i < k) ⊎ (i ≡ k)
    cases i k l = grind arith

    last : get_or (old ++ x ∷ []) k (whole 0) ≡ x
    last = ap (λ j. get_or (old ++ x ∷ []) j (whole 0)) (at_end (length old) k c) ∙ get_or-append-add old (x ∷ []) 0 (whole 0)
      where
        at_end : (n k : ℕ) → n ≡ k → k ≡ n + 0
        at_end n k e = omega (arith, e)

    go : (i < k) ⊎ (i ≡ k) → P i (slice_index_or (old ++ x ∷ []) i (whole 0))
    go (inl m) = subst (λ y. P i y) (sym (get_or_append_left old (x ∷ []) (whole 0) i (let d = c in omega (arith, m, d)))) (h i m)
    go (inr m) = subst (λ j. P j (slice_index_or (old ++ x ∷ []) j (whole 0))) (sym m) (subst (λ y. P k y) (sym last) here)

-- ---- symmetric
eq_swap : (u v : ℕ) → nat_eq u v ≡ nat_eq v u
eq_swap u v = go (number_cases u v)
  where
    go : (u ≡ v) ⊎ (u ≢ v) → nat_eq u v ≡ nat_eq v u
    go (inl e) = ap₂ nat_eq e (sym e)
    go (inr n) = apart u v n ∙ sym (apart v u (λ e. n (sym e)))

order : (u v : ℕ) → (u < v) ⊎ ((v < u) ⊎ (u ≡ v))
order u v = grind arith

pub not_before : (u v : ℕ) → u ≤ v → nat_lt v u ≡ false
not_before u v h = grind arith

product_there : (q : Quad) (u v : ℕ) → u ≤ v → product_at q u v ≡ square_at q.square u v
product_there q u v h = ap (λ b. cond b (square_at q.square v u) (square_at q.square u v)) (not_before u v h)

product_back : (q : Quad) (u v : ℕ) → v < u → product_at q u v ≡ square_at q.square v u
product_back q u v h = ap (λ b. cond b (square_at q.square v u) (square_at q.square u v)) (lt-ltb v u h)

product_swap : (q : Quad) (u v : ℕ) → product_at q u v ≡ product_at q v u
product_swap q u v = go (order u v)
  where
    go : (u < v) ⊎ ((v < u) ⊎ (u ≡ v)) → product_at q u v ≡ product_at q v u
    go (inl h) = product_there q u v (omega (arith, h)) ∙ sym (product_back q v u h)
    go (inr (inl h)) = product_back q u v h ∙ sym (product_there q v u (omega (arith, h)))
    go (inr (inr e)) = ap₂ (product_at q) e (sym e)

-- the coefficient of the product of two variables, or twice that of a square
pub data SecondIs (q : Quad) (u v : ℕ) (f : Frac) : Type 0 where
  rising : u < v → f ≡ square_at q.square u v → SecondIs q u v f
  falling : v < u → f ≡ square_at q.square v u → SecondIs q u v f
  square : u ≡ v → IsSecondBy true (square_at q.square u u) f → SecondIs q u v f

pub second_is : (q : Quad) (u v : ℕ) (f : Frac) → IsSecond q u v f → SecondIs q u v f
second_is q u v f is = go (order u v)
  where
    off : u ≢ v → f ≡ product_at q u v
    off ne = subst (λ b. IsSecondBy b (product_at q u v) f) (apart u v ne) is

    go : (u < v) ⊎ ((v < u) ⊎ (u ≡ v)) → SecondIs q u v f
    go (inl h) = rising h (off (λ e. omega (arith, h, e)) ∙ product_there q u v (omega (arith, h)))
    go (inr (inl h)) = falling h (off (λ e. omega (arith, h, e)) ∙ product_back q u v h)
    go (inr (inr e)) = square e (subst (λ (c : Frac). IsSecondBy true c f) (product_there q u u (omega arith)) (subst (λ b. IsSecondBy b (product_at q u u) f) (same_is u) (subst (λ w. IsSecond q u w f) (sym e) is)))

one_second : (b : Bool) (c f g : Frac) → IsSecondBy b c f → IsSecondBy b c g → f ≡ g
one_second true c f g h k = one_value (pos 2 *ℤ c.num) c.den f g c.positive h k
one_second false c f g h k = h ∙ sym k

second_swap : (q : Quad) (u v : ℕ) (f g : Frac) → IsSecond q u v f → IsSecond q v u g → f ≡ g
second_swap q u v f g h k = one_second (nat_eq u v) (product_at q u v) f g h (subst (λ b. IsSecondBy b (product_at q u v) g) (eq_swap v u) (subst (λ (c : Frac). IsSecondBy (nat_eq v u) c g) (product_swap q v u) k))

-- ---- the matrix
each_cell : (q : Quad) (vs : List VarId) (side : ℕ) (cells : List Frac) → AreCells q vs side cells → (i j : ℕ) → i < side → j < side → IsSecond q (variable_at vs i) (variable_at vs j) (entry side cells i j)
each_cell q vs side cells h i j bi bj = subst₂ (λ a b. IsSecond q (variable_at vs a) (variable_at vs b) (entry side cells i j)) (div-mul-add i side j bj) (mod-mul-add i side j bj) (h.each (i * side + j) (place_below side i j bi bj))

pub seconds_are : (q : Quad) (vs : List VarId) (ds es : List Frac) (side : ℕ) (cells : List Frac) → AreDoubles q vs ds → es ≡ ds → side ≡ length ds → AreCells q vs (length es) cells → AreSeconds q vs side cells
seconds_are q vs ds es side cells d same count h = record {
  within = subst (λ n. n ≤ length vs) (sym count) d.within;
  matrix = record { count = all.count; symmetric = λ i j bi bj. second_swap q (variable_at vs i) (variable_at vs j) (entry side cells i j) (entry side cells j i) (each_cell q vs side cells all i j bi bj) (each_cell q vs side cells all j i bj bi) };
  each = each_cell q vs side cells all;
  narrow = λ i l. (d.each i (subst (λ n. i < n) count l)).narrow;
}
  where
    all : AreCells q vs side cells
    all = subst (λ n. AreCells q vs n cells) (ap length same ∙ sym count) h

-- ---- the answer
pub ends_give : (q : Quad) (vs : List VarId) (side : ℕ) (cells : List Frac) (end : Curve) → AreSeconds q vs side cells → ConvexGives (entries side cells) side (Err end) → GoalGives q vs (Err end)
ends_give q vs side cells (Curved.Not k) s g = record { side = side; gives = record { cells = cells; seconds = s; gives = g } }
ends_give q vs side cells (Curved.Wide k) s g = inl (record { side = side; gives = record { cells = cells; seconds = s; gives = g } })
ends_give q vs side cells Curved.NoMemory s g = tt

pub fold_passes : (q : Quad) (vs : List VarId) (side n : ℕ) (cells : List Frac) (w : Squares) → AreSeconds q vs side cells → ConvexGives (entries side cells) side (Ok w) → side ≡ n → FoldPasses q vs n
fold_passes q vs side n cells w s g e = subst (λ n. FoldPasses q vs n) e (record { squares = w; gives = record { cells = cells; seconds = s; gives = g } })

pub double_ends : (q : Quad) (vs : List VarId) (side : ℕ) (ds cells : List Frac) (w : Squares) → AreSeconds q vs side cells → ConvexGives (entries side cells) side (Ok w) → AreDoubles q vs ds → side ≡ length ds → side < length vs → DoubleEnds q vs (side + 1)
double_ends q vs side ds cells w s g d e l = record {
  row = side;
  is = refl;
  below = l;
  before = fold_passes q vs side side cells w s g refl;
  wide = subst (λ n. DoubleIsWide q (variable_at vs n)) (sym e) (d.last (subst (λ n. n < length vs) e l));
}
