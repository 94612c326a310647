-- A quadratic form on some coordinates is half the form of its second derivatives.
use Rattle.std.proofs.Common.{◌≡◌, ◌↔◌, ℕ, zero, suc, ◌≤◌, ℤ, pos, ◌+ℤ◌, ◌*ℤ◌, ◌≤ℤ◌, ◌<ℤ◌, Bool, true, false, ◌||◌, cond, nat_eq, List, [], ◌∷◌, map, take, length, slice_index_or, Result, Ok, Err, arith, refl, sym, ap, ap₂, subst, ◌∙◌}
use Rattle.std.proofs.lemmas.Int.{ints}
use Rattle.std.proofs.lemmas.Bool.{eqb-true, false≢true}
use lib.IntN.{zero-*ℤ}
use Rattle.emp_algebra.proofs.Ring.{var, lit, ◌⊕◌, ◌⊗◌, by_ring}
use Rattle.emp_algebra.proofs.Laws.{mul_nonneg}
use Rattle.emp_algebra.proofs.Order.{linear, le_cancel_right}
use Rattle.emp_algebra.proofs.Vectors.{dot_comm, dot-add_rows}
use Rattle.emp_algebra.specs.Vector.{cell, dot, add_rows}
use Rattle.emp_num.specs.declared.frac.Frac.{Frac}
use Rattle.emp_systems.specs.Steps.{form, products}
use Rattle.emp_systems.specs.Own.{unit}
use Rattle.emp_systems.specs.Lagrange.{IsOwnConvex}
use Rattle.emp_systems.proofs.Eliminate.{cell-add_rows}
use Rattle.emp_systems.proofs.Own.{dot_unit, unit_other}
use Rattle.emp_systems.proofs.Forms.{form-products, form-cells}
use Rattle.emp_game.specs.Game.{names, AreApart}
use Rattle.emp_game.specs.Conditions.{row_of}
use Rattle.emp_game.proofs.Slopes.{eqb_refl, unit_same, products_row}
use Rattle.emp_ldl.specs.Whole.{line, IsSemidefinite}
use Rattle.emp_ldl.specs.Whole as Whole
use Rattle.emp_ldl.specs.Form as Fractions
use Rattle.emp_ldl.specs.Form.{IsMatrix, entries}
use Rattle.emp_ldl.specs.Laws.{Over}
use Rattle.emp_ldl.specs.Convex.{ConvexGives}
use Rattle.emp_ldl.specs.Shown.{ConvexSays}
use Rattle.emp_ldl.specs.declared.squares.Squares.{Squares}
use Rattle.emp_ldl.specs.declared.squares.Curve.{Curve}
use Rattle.emp_ldl.specs.declared.squares.Curve.TheVariants.{Not, Wide, NoMemory}
use Rattle.emp_ldl.proofs.Lines.{line_more, line_same, line_none}
use Rattle.emp_ldl.proofs.FracRows.{semidefinite_is_whole}
use Rattle.emp_ldl.proofs.Says as Says
use Rattle.emp_curvature.specs.Curvature.{curvature, IsConvexUpTo, CurveTells}

-- ---- a vector on the coordinates of a list
abbrev spread : List ℕ → List ℤ → List ℤ
spread [] ws = []
spread (k ∷ ks) [] = []
spread (k ∷ ks) (w ∷ ws) = add_rows (unit k w) (spread ks ws)

line_shift : (b : ℕ → ℤ) (i : ℕ) (ws : List ℤ) → line b (suc i) ws ≡ line (λ k. b (suc k)) i ws
line_shift b i [] = refl
line_shift b i (w ∷ ws) = ap (λ z. b (suc i) *ℤ w +ℤ z) (line_shift b (suc i) ws)

spread_dot : (r : List ℤ) (ks : List ℕ) (ws : List ℤ) → length ws ≤ length ks → dot r (spread ks ws) ≡ line (λ j. cell r (slice_index_or ks j 0)) 0 ws
spread_dot r [] [] h = dot_comm r []
spread_dot r [] (w ∷ ws) h = absurd (omega arith)
spread_dot r (k ∷ ks) [] h = dot_comm r []
spread_dot r (k ∷ ks) (w ∷ ws) h =
    dot_comm r (add_rows (unit k w) (spread ks ws))
    ∙ (dot-add_rows (unit k w) (spread ks ws) r
    ∙ (ap₂ (λ s t. s +ℤ t) (dot_unit k w r) (dot_comm (spread ks ws) r ∙ spread_dot r ks ws (omega arith))
    ∙ (by_ring (w ∷ cell r k ∷ line (λ j. cell r (slice_index_or ks j 0)) 0 ws ∷ []) (var 0 ⊗ var 1 ⊕ var 2) (var 1 ⊗ var 0 ⊕ var 2) refl
    ∙ ap (λ z. cell r k *ℤ w +ℤ z) (sym (line_shift (λ j. cell r (slice_index_or (k ∷ ks) j 0)) 0 ws)))))

-- ---- double sums
line_add : (b c : ℕ → ℤ) (i : ℕ) (ws : List ℤ) → line (λ k. b k +ℤ c k) i ws ≡ line b i ws +ℤ line c i ws
line_add b c i [] = refl
line_add b c i (w ∷ ws) =
    ap (λ z. (b i +ℤ c i) *ℤ w +ℤ z) (line_add b c (suc i) ws) ∙ by_ring (b i ∷ c i ∷ w ∷ line b (suc i) ws ∷ line c (suc i) ws ∷ []) ((var 0 ⊕ var 1) ⊗ var 2 ⊕ (var 3 ⊕ var 4)) (var 0 ⊗ var 2 ⊕ var 3 ⊕ (var 1 ⊗ var 2 ⊕ var 4)) refl

swapped : (c : ℕ → ℕ → ℤ) (p q : ℕ) (us ws : List ℤ) → line (λ i. line (λ j. c i j) p us) q ws ≡ line (λ j. line (λ i. c i j) q ws) p us
swapped c p q [] ws = line_none (λ i. pos 0) q ws (λ k l m. refl)
swapped c p q (u ∷ us) ws =
    line_more (λ i. c i p) (λ i. line (λ j. c i j) (suc p) us) u q ws ∙ ap (λ z. line (λ i. c i p) q ws *ℤ u +ℤ z) (swapped c (suc p) q us ws)

abbrev block : List (List ℤ) → List ℕ → ℕ → ℕ → ℤ
block m ks i j = cell (row_of m (slice_index_or ks i 0)) (slice_index_or ks j 0)

-- the form at such a vector
spread_form : (m : List (List ℤ)) (ks : List ℕ) (ws : List ℤ) → length ws ≤ length ks → form m (spread ks ws) (spread ks ws) ≡ line (λ i. line (block m ks i) 0 ws) 0 ws
spread_form m ks ws h =
    sym (form-products m (spread ks ws) (spread ks ws))
    ∙ (spread_dot (products m (spread ks ws)) ks ws h
    ∙ line_same (λ j. cell (products m (spread ks ws)) (slice_index_or ks j 0)) (λ i. line (block m ks i) 0 ws) 0 ws (λ k l n. products_row m (spread ks ws) (slice_index_or ks k 0) ∙ spread_dot (row_of m (slice_index_or ks k 0)) ks ws h))

doubled : (m : List (List ℤ)) (ks : List ℕ) (ws : List ℤ) → length ws ≤ length ks → Whole.form (curvature m ks) ws ≡ pos 2 *ℤ form m (spread ks ws) (spread ks ws)
doubled m ks ws h =
    line_same (λ i. line (curvature m ks i) 0 ws) (λ i. line (block m ks i) 0 ws +ℤ line (λ j. block m ks j i) 0 ws) 0 ws (λ k l n. line_add (block m ks k) (λ j. block m ks j k) 0 ws)
    ∙ (line_add (λ i. line (block m ks i) 0 ws) (λ i. line (λ j. block m ks j i) 0 ws) 0 ws
    ∙ (ap (λ z. line (λ i. line (block m ks i) 0 ws) 0 ws +ℤ z) (swapped (λ i j. block m ks j i) 0 0 ws ws)
    ∙ (by_ring (line (λ i. line (block m ks i) 0 ws) 0 ws ∷ []) (var 0 ⊕ var 0) (lit (pos 2) ⊗ var 0) refl ∙ ap (λ z. pos 2 *ℤ z) (sym (spread_form m ks ws h)))))

-- ---- cells of such a vector
taken_none : (n : ℕ) (ks : List ℕ) (k : ℕ) → names ks k ≡ false → names (take n ks) k ≡ false
taken_none zero ks k h = refl
taken_none (suc n) [] k h = refl
taken_none (suc n) (j ∷ js) k h = go (nat_eq j k) h (λ t. taken_none n js k t)
  where
    go : (b : Bool) → b || names js k ≡ false → (names js k ≡ false → names (take n js) k ≡ false) → b || names (take n js) k ≡ false
    go true t rest = t
    go false t rest = rest t

spread_none : (n : ℕ) (ks : List ℕ) (ws : List ℤ) (k : ℕ) → length ws ≤ n → names (take n ks) k ≡ false → cell (spread ks ws) k ≡ pos 0
spread_none n [] ws k l h = refl
spread_none n (j ∷ js) [] k l h = refl
spread_none zero (j ∷ js) (w ∷ ws) k l h = absurd (omega arith)
spread_none (suc n) (j ∷ js) (w ∷ ws) k l h = go (nat_eq j k) refl (λ t. spread_none n js ws k (omega arith) t)
  where
    go : (b : Bool) → nat_eq j k ≡ b → (names (take n js) k ≡ false → cell (spread js ws) k ≡ pos 0) → cell (spread (j ∷ js) (w ∷ ws)) k ≡ pos 0
    go true q rest = absurd (false≢true (sym h ∙ ap (λ b. b || names (take n js) k) q))
    go false q rest =
        cell-add_rows (unit j w) (spread js ws) k ∙ ap₂ (λ s t. s +ℤ t) (unit_other j k w (λ e. false≢true (sym q ∙ (ap (λ i. nat_eq i k) e ∙ eqb_refl k)))) (rest (sym (ap (λ b. b || names (take n js) k) q) ∙ h))

spread_there : (vs : List ℤ) (n : ℕ) (ks : List ℕ) (k : ℕ) → AreApart ks → cell (spread ks (map (λ j. cell vs j) (take n ks))) k ≡ cond (names (take n ks) k) (cell vs k) (pos 0)
spread_there vs zero [] k a = refl
spread_there vs (suc n) [] k a = refl
spread_there vs zero (j ∷ js) k a = refl
spread_there vs (suc n) (j ∷ js) k a =
    cell-add_rows (unit j (cell vs j)) (spread js (map (λ j. cell vs j) (take n js))) k ∙ (ap (λ z. cell (unit j (cell vs j)) k +ℤ z) (spread_there vs n js k a.1) ∙ go (nat_eq j k) refl)
  where
    go : (b : Bool) → nat_eq j k ≡ b → cell (unit j (cell vs j)) k +ℤ cond (names (take n js) k) (cell vs k) (pos 0) ≡ cond (names (take (suc n) (j ∷ js)) k) (cell vs k) (pos 0)
    go true q =
        let e = eqb-true j k q in
        let none : names (take n js) k ≡ false = taken_none n js k (ap (names js) (sym e) ∙ a.0) in
        ap₂ (λ s b. s +ℤ cond b (cell vs k) (pos 0)) (ap (λ i. cell (unit i (cell vs i)) k) e ∙ unit_same k (cell vs k)) none
        ∙ (by_ring (cell vs k ∷ []) (var 0 ⊕ lit (pos 0)) (var 0) refl ∙ sym (ap (λ b. cond (b || names (take n js) k) (cell vs k) (pos 0)) q))
    go false q =
        ap (λ s. s +ℤ cond (names (take n js) k) (cell vs k) (pos 0)) (unit_other j k (cell vs j) (λ e. false≢true (sym q ∙ (ap (λ i. nat_eq i k) e ∙ eqb_refl k))))
        ∙ (by_ring (cond (names (take n js) k) (cell vs k) (pos 0) ∷ []) (lit (pos 0) ⊕ var 0) (var 0) refl ∙ sym (ap (λ b. cond (b || names (take n js) k) (cell vs k) (pos 0)) q))

-- ---- the law
map_count : (vs : List ℤ) (ks : List ℕ) → length (map (λ j. cell vs j) ks) ≡ length ks
map_count vs [] = refl
map_count vs (k ∷ ks) = ap suc (map_count vs ks)

take_count : (n : ℕ) (ks : List ℕ) → n ≤ length ks → length (take n ks) ≡ n
take_count zero ks h = refl
take_count (suc n) [] h = absurd (omega arith)
take_count (suc n) (k ∷ ks) h = ap suc (take_count n ks (omega arith))

pub curvature_is_convex : (m : List (List ℤ)) (ks : List ℕ) (n : ℕ) → AreApart ks → n ≤ length ks → IsSemidefinite (curvature m ks) n ↔ IsConvexUpTo m ks n
curvature_is_convex m ks n a l = (there, back)
  where
    half : (z : ℤ) → pos 0 ≤ℤ (pos 2 *ℤ z) → pos 0 ≤ℤ z
    half z h = le_cancel_right (pos 0) z (pos 2) (let t = by_ring (z ∷ []) (lit (pos 2) ⊗ var 0) (var 0 ⊗ lit (pos 2)) refl in omega (arith, linear, h, t, zero-*ℤ (pos 2))) (omega (arith, ints))

    there : IsSemidefinite (curvature m ks) n → IsConvexUpTo m ks n
    there h vs none =
        let ws = map (λ j. cell vs j) (take n ks) in
        let count : length ws ≡ n = map_count vs (take n ks) ∙ take_count n ks l in
        let cells : (k : ℕ) → cell (spread ks ws) k ≡ cell vs k = λ k. spread_there vs n ks k a ∙ same k (names (take n ks) k) refl in
        subst (λ z. pos 0 ≤ℤ z) (form-cells m (spread ks ws) vs cells) (half (form m (spread ks ws) (spread ks ws)) (subst (λ z. pos 0 ≤ℤ z) (doubled m ks ws (omega (arith, count))) (h ws (omega (arith, count)))))
      where
        same : (k : ℕ) (b : Bool) → names (take n ks) k ≡ b → cond (names (take n ks) k) (cell vs k) (pos 0) ≡ cell vs k
        same k true q = ap (λ b. cond b (cell vs k) (pos 0)) q
        same k false q = ap (λ b. cond b (cell vs k) (pos 0)) q ∙ sym (none k q)

    back : IsConvexUpTo m ks n → IsSemidefinite (curvature m ks) n
    back h ws c =
        let some = h (spread ks ws) (λ k q. spread_none n ks ws k c q) in
        subst (λ z. pos 0 ≤ℤ z) (sym (doubled m ks ws (omega arith))) (mul_nonneg (pos 2) (form m (spread ks ws) (spread ks ws)) (omega (arith, ints)) some)

-- ---- what the answer says
taken_all : (ks : List ℕ) → take (length ks) ks ≡ ks
taken_all [] = refl
taken_all (k ∷ ks) = ap (λ (js : List ℕ). k ∷ js) (taken_all ks)

never : (t : ℤ) → t <ℤ pos 0 → pos 0 ≤ℤ t → ⊥
never t h k = omega (arith, linear, h, k)

pub convex_tells : (m : List (List ℤ)) (ks : List ℕ) (cells : List Frac) (w : ℤ) → AreApart ks → IsMatrix (length ks) cells → Over (entries (length ks) cells) (curvature m ks) w (length ks) → (r : Result Squares Curve) → ConvexGives (entries (length ks) cells) (length ks) r → CurveTells m ks r
convex_tells m ks cells w a matrix over r g = go r g (Says.convex_says (length ks) cells matrix r g)
  where
    convex : (n : ℕ) → n ≤ length ks → Fractions.IsSemidefinite (entries (length ks) cells) n → IsConvexUpTo m ks n
    convex n l s = (curvature_is_convex m ks n a l).0 ((semidefinite_is_whole (length ks) cells (curvature m ks) w n l (shorter n l)).0 s)
      where
        shorter : (n : ℕ) → n ≤ length ks → Over (entries (length ks) cells) (curvature m ks) w n
        shorter n l = record { positive = over.positive; same = λ k j h i. over.same k j (omega arith) (omega arith) }

    semidefinite : (n : ℕ) → n ≤ length ks → IsConvexUpTo m ks n → Fractions.IsSemidefinite (entries (length ks) cells) n
    semidefinite n l c = (semidefinite_is_whole (length ks) cells (curvature m ks) w n l (record { positive = over.positive; same = λ k j h i. over.same k j (omega arith) (omega arith) })).1 ((curvature_is_convex m ks n a l).1 c)

    go : (r : Result Squares Curve) → ConvexGives (entries (length ks) cells) (length ks) r → ConvexSays (length ks) cells r → CurveTells m ks r
    go (Ok s) g h = subst (λ js. IsOwnConvex (λ k. names js k) m) (taken_all ks) (convex (length ks) (omega arith) h.1.semidefinite)
    go (Err (Not n)) g h = (
      λ c. let s = semidefinite n (let e = g.is in let b = g.below in omega arith) c in never (Fractions.form_at (entries (length ks) cells) h.0.den h.0.at).top h.0.below (s.nowhere h.0.den h.0.at h.0.positive h.0.fits),
      λ i l. convex i (let e = g.is in let b = g.below in omega arith) (h.1 i l),
    )
    go (Err (Wide n)) g h = λ i l. convex i (let e = g.is in let b = g.below in omega arith) (h i l)
    go (Err NoMemory) g h = tt
