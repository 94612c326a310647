-- Sums over all variables are sums over those that are named.
use Rattle.std.proofs.Common.{◌≡◌, ◌⊎◌, inl, inr, ℕ, zero, suc, ◌<◌, ◌≤◌, ℤ, pos, ◌+ℤ◌, ◌*ℤ◌, Bool, true, false, ◌||◌, cond, nat_eq, nat_lt, List, [], ◌∷◌, map, arith, refl, sym, ap, ap₂, ◌∙◌}
use Rattle.std.proofs.lemmas.Bool.{eqb-true, ltb-true, lt-ltb, false≢true}
use lib.IntN.{zero-*ℤ, *ℤ-zero}
use Rattle.emp_algebra.proofs.Ring.{var, lit, ◌⊕◌, ◌⊗◌, by_ring}
use Rattle.emp_algebra.specs.Vector.{cell, dot}
use Rattle.emp_systems.specs.Steps.{form, value_squared}
use Rattle.emp_form.specs.Form.{Form, IsLinear, sum_to, line, column, quadratic, top_at}
use Rattle.emp_game.specs.Game.{names, AreApart}
use Rattle.emp_game.specs.Solved.{value_at}
use Rattle.emp_game.proofs.Slopes.{eqb_refl}
use Rattle.emp_left.specs.Left.{selected, row_left, upper, quadratic_left, NamesOnly}

-- ---- sums
sum_same : (n : ℕ) (f h : ℕ → ℤ) → ((i : ℕ) → i < n → f i ≡ h i) → sum_to n f ≡ sum_to n h
sum_same zero f h e = refl
sum_same (suc n) f h e = ap₂ (λ x y. x +ℤ y) (sum_same n f h (λ i l. e i (omega arith))) (e n (omega arith))

sum_none : (n : ℕ) (f : ℕ → ℤ) → ((i : ℕ) → i < n → f i ≡ pos 0) → sum_to n f ≡ pos 0
sum_none zero f e = refl
sum_none (suc n) f e = ap₂ (λ x y. x +ℤ y) (sum_none n f (λ i l. e i (omega arith))) (e n (omega arith))

-- without the term of v
abbrev without : ℕ → (ℕ → ℤ) → ℕ → ℤ
without v f i = cond (nat_eq i v) (pos 0) (f i)

decided : (b : Bool) → (b ≡ true) ⊎ (b ≡ false)
decided true = inl refl
decided false = inr refl

kept_other : (v : ℕ) (f : ℕ → ℤ) (i : ℕ) → (i ≡ v → ⊥) → without v f i ≡ f i
kept_other v f i ne = go (decided (nat_eq i v))
  where
    go : (nat_eq i v ≡ true) ⊎ (nat_eq i v ≡ false) → without v f i ≡ f i
    go (inl q) = absurd (ne (eqb-true i v q))
    go (inr q) = ap (λ b. cond b (pos 0) (f i)) q

taken_out : (n v : ℕ) (f : ℕ → ℤ) → v < n → sum_to n f ≡ f v +ℤ sum_to n (without v f)
taken_out zero v f h = absurd (omega arith)
taken_out (suc n) v f h = go (decided (nat_eq n v)) (λ l. taken_out n v f l)
  where
    go : (nat_eq n v ≡ true) ⊎ (nat_eq n v ≡ false) → (v < n → sum_to n f ≡ f v +ℤ sum_to n (without v f)) → sum_to (suc n) f ≡ f v +ℤ sum_to (suc n) (without v f)
    go (inl q) rest =
        let e = eqb-true n v q in
        ap₂ (λ x y. x +ℤ y) (sum_same n f (without v f) (λ i l. sym (kept_other v f i (λ s. omega arith)))) (ap f e)
        ∙ (by_ring (sum_to n (without v f) ∷ f v ∷ []) (var 0 ⊕ var 1) (var 1 ⊕ (var 0 ⊕ lit (pos 0))) refl ∙ ap (λ y. f v +ℤ (sum_to n (without v f) +ℤ y)) (sym (ap (λ b. cond b (pos 0) (f n)) q)))
    go (inr q) rest =
        let ne : n ≡ v → ⊥ = λ e. false≢true (sym q ∙ (ap (λ z. nat_eq z v) e ∙ eqb_refl v)) in
        ap (λ x. x +ℤ f n) (rest (omega arith))
        ∙ (by_ring (f v ∷ sum_to n (without v f) ∷ f n ∷ []) (var 0 ⊕ var 1 ⊕ var 2) (var 0 ⊕ (var 1 ⊕ var 2)) refl ∙ ap (λ y. f v +ℤ (sum_to n (without v f) +ℤ y)) (sym (kept_other v f n ne)))

-- over a list
abbrev sum_over : List ℕ → (ℕ → ℤ) → ℤ
sum_over [] f = pos 0
sum_over (v ∷ vs) f = f v +ℤ sum_over vs f

over_same : (vs : List ℕ) (f h : ℕ → ℤ) → ((v : ℕ) → names vs v ≡ true → f v ≡ h v) → sum_over vs f ≡ sum_over vs h
over_same [] f h e = refl
over_same (v ∷ vs) f h e = ap₂ (λ x y. x +ℤ y) (e v (ap (λ b. b || names vs v) (eqb_refl v))) (over_same vs f h (λ u n. e u (later (nat_eq v u) (names vs u) n)))
  where
    later : (b c : Bool) → c ≡ true → b || c ≡ true
    later true c q = refl
    later false c q = q

-- a sum whose terms are 0 but for those of the list
sum_listed : (n : ℕ) (vs : List ℕ) (f : ℕ → ℤ) → AreApart vs → ((v : ℕ) → names vs v ≡ true → v < n) → ((i : ℕ) → names vs i ≡ false → f i ≡ pos 0) → sum_to n f ≡ sum_over vs f
sum_listed n [] f a b e = sum_none n f (λ i l. e i refl)
sum_listed n (v ∷ vs) f a b e =
    taken_out n v f (b v (ap (λ c. c || names vs v) (eqb_refl v)))
    ∙ ap (λ y. f v +ℤ y) (sum_listed n vs (without v f) a.1 (λ u q. b u (later (nat_eq v u) (names vs u) q)) (λ i q. none i q (decided (nat_eq i v)))
    ∙ over_same vs (without v f) f (λ u q. kept_other v f u (λ s. false≢true (sym a.0 ∙ (ap (names vs) (sym s) ∙ q)))))
  where
    later : (b c : Bool) → c ≡ true → b || c ≡ true
    later true c q = refl
    later false c q = q

    none : (i : ℕ) → names vs i ≡ false → (nat_eq i v ≡ true) ⊎ (nat_eq i v ≡ false) → without v f i ≡ pos 0
    none i q (inl s) = ap (λ c. cond c (pos 0) (f i)) s
    none i q (inr s) = ap (λ c. cond c (pos 0) (f i)) s ∙ e i (ap (λ c. c || names vs i) (flipped i v s) ∙ q)
      where
        flipped : (i v : ℕ) → nat_eq i v ≡ false → nat_eq v i ≡ false
        flipped i v s = go (decided (nat_eq v i))
          where
            go : (nat_eq v i ≡ true) ⊎ (nat_eq v i ≡ false) → nat_eq v i ≡ false
            go (inl t) = absurd (false≢true (sym s ∙ (ap (λ z. nat_eq i z) (eqb-true v i t) ∙ eqb_refl i)))
            go (inr t) = t

-- ---- as dot products
over_dot : (vs : List ℕ) (a : ℕ → ℤ) (nums : List ℤ) → sum_over vs (λ v. a v *ℤ cell nums v) ≡ dot (map a vs) (selected vs nums)
over_dot [] a nums = refl
over_dot (v ∷ vs) a nums = ap (λ y. a v *ℤ cell nums v +ℤ y) (over_dot vs a nums)

line_listed : (n : ℕ) (vs : List ℕ) (a : ℕ → ℤ) (nums : List ℤ) → AreApart vs → ((v : ℕ) → names vs v ≡ true → v < n) → ((i : ℕ) → names vs i ≡ false → a i ≡ pos 0) → line n a (cell nums) ≡ dot (map a vs) (selected vs nums)
line_listed n vs a nums p b e = sum_listed n vs (λ i. a i *ℤ cell nums i) p b (λ i q. ap (λ z. z *ℤ cell nums i) (e i q) ∙ zero-*ℤ (cell nums i)) ∙ over_dot vs a nums

-- ---- linear forms
quadratic_none : (n : ℕ) (f : Form) (x : ℕ → ℤ) → IsLinear f → quadratic n f.square x ≡ pos 0
quadratic_none n f x l = sum_none n (column f.square x) (λ j _. ap (λ z. x j *ℤ z) (ap₂ (λ s t. s +ℤ t) (sum_none j (λ i. f.square i j *ℤ x i) (λ i h. ap (λ z. z *ℤ x i) (l.square i j (omega arith)) ∙ zero-*ℤ (x i))) (ap (λ z. z *ℤ x j) (l.square j j (omega arith)) ∙ zero-*ℤ (x j))) ∙ *ℤ-zero (x j))

pub linear_left : (vs : List ℕ) (f : Form) (n : ℕ) (d : ℤ) (nums : List ℤ) → AreApart vs → ((v : ℕ) → names vs v ≡ true → v < n) → NamesOnly vs f → IsLinear f → top_at n d (cell nums) f ≡ d *ℤ value_at (row_left vs f) d (selected vs nums)
linear_left vs f n d nums a b o l =
    ap₂ (λ s t. f.constant *ℤ (d *ℤ d) +ℤ (d *ℤ s +ℤ t)) (line_listed n vs f.linear nums a b o.linear) (quadratic_none n f (cell nums) l)
    ∙ by_ring (f.constant ∷ d ∷ dot (map f.linear vs) (selected vs nums) ∷ []) (var 0 ⊗ (var 1 ⊗ var 1) ⊕ (var 1 ⊗ var 2 ⊕ lit (pos 0))) (var 1 ⊗ (var 0 ⊗ var 1 ⊕ var 2)) refl

-- ---- quadratic forms
le_lt_none : (i j : ℕ) → i ≤ j → nat_lt j i ≡ false
le_lt_none i j h = go (decided (nat_lt j i))
  where
    go : (nat_lt j i ≡ true) ⊎ (nat_lt j i ≡ false) → nat_lt j i ≡ false
    go (inl q) = absurd (let l = ltb-true j i q in omega arith)
    go (inr q) = q

upper_there : (s : ℕ → ℕ → ℤ) (i j : ℕ) → i ≤ j → upper s i j ≡ s i j
upper_there s i j h = ap (λ c. cond c (pos 0) (s i j)) (le_lt_none i j h)

upper_none : (s : ℕ → ℕ → ℤ) (i j : ℕ) → j < i → upper s i j ≡ pos 0
upper_none s i j h = ap (λ c. cond c (pos 0) (s i j)) (lt-ltb j i h)

-- the first j + 1 terms are all
sum_first : (n m : ℕ) (f : ℕ → ℤ) → m ≤ n → ((i : ℕ) → m ≤ i → f i ≡ pos 0) → sum_to m f ≡ sum_to n f
sum_first zero zero f h e = refl
sum_first zero (suc m) f h e = absurd (omega arith)
sum_first (suc n) m f h e = go (cases m n) (λ l. sum_first n m f l e)
  where
    cases : (m n : ℕ) → (m ≤ n) ⊎ (n < m)
    cases m n = grind arith

    go : (m ≤ n) ⊎ (n < m) → (m ≤ n → sum_to m f ≡ sum_to n f) → sum_to m f ≡ sum_to (suc n) f
    go (inl l) rest = rest l ∙ (by_ring (sum_to n f ∷ []) (var 0) (var 0 ⊕ lit (pos 0)) refl ∙ ap (λ y. sum_to n f +ℤ y) (sym (e n l)))
    go (inr l) rest = ap (λ k. sum_to k f) (same m n l h)
      where
        same : (m n : ℕ) → n < m → m ≤ suc n → m ≡ suc n
        same m n l h = omega arith

column_all : (n : ℕ) (s : ℕ → ℕ → ℤ) (x : ℕ → ℤ) (j : ℕ) → j < n → column s x j ≡ x j *ℤ sum_to n (λ i. upper s i j *ℤ x i)
column_all n s x j h =
    ap (λ z. x j *ℤ z)
    (ap₂ (λ u v. u +ℤ v) (sum_same j (λ i. s i j *ℤ x i) (λ i. upper s i j *ℤ x i) (λ i l. ap (λ z. z *ℤ x i) (sym (upper_there s i j (omega arith))))) (ap (λ z. z *ℤ x j) (sym (upper_there s j j (omega arith))))
    ∙ sum_first n (suc j) (λ i. upper s i j *ℤ x i) (omega arith) (λ i l. ap (λ z. z *ℤ x i) (upper_none s i j (omega arith)) ∙ zero-*ℤ (x i)))

-- a sum over two lists, either way
over_add : (vs : List ℕ) (f h : ℕ → ℤ) → sum_over vs (λ v. f v +ℤ h v) ≡ sum_over vs f +ℤ sum_over vs h
over_add [] f h = refl
over_add (v ∷ vs) f h = ap (λ y. f v +ℤ h v +ℤ y) (over_add vs f h) ∙ by_ring (f v ∷ h v ∷ sum_over vs f ∷ sum_over vs h ∷ []) (var 0 ⊕ var 1 ⊕ (var 2 ⊕ var 3)) (var 0 ⊕ var 2 ⊕ (var 1 ⊕ var 3)) refl

over_times : (c : ℤ) (vs : List ℕ) (f : ℕ → ℤ) → c *ℤ sum_over vs f ≡ sum_over vs (λ v. c *ℤ f v)
over_times c [] f = *ℤ-zero c
over_times c (v ∷ vs) f = by_ring (c ∷ f v ∷ sum_over vs f ∷ []) (var 0 ⊗ (var 1 ⊕ var 2)) (var 0 ⊗ var 1 ⊕ var 0 ⊗ var 2) refl ∙ ap (λ y. c *ℤ f v +ℤ y) (over_times c vs f)

over_swap : (vs us : List ℕ) (c : ℕ → ℕ → ℤ) → sum_over vs (λ v. sum_over us (λ u. c v u)) ≡ sum_over us (λ u. sum_over vs (λ v. c v u))
over_swap [] us c = sym (none us)
  where
    none : (us : List ℕ) → sum_over us (λ u. pos 0) ≡ pos 0
    none [] = refl
    none (u ∷ us) = ap (λ y. pos 0 +ℤ y) (none us)
over_swap (v ∷ vs) us c = ap (λ y. sum_over us (λ u. c v u) +ℤ y) (over_swap vs us c) ∙ sym (over_add us (λ u. c v u) (λ u. sum_over vs (λ w. c w u)))

form_over : (us vs : List ℕ) (s : ℕ → ℕ → ℤ) (nums : List ℤ) → form (map (λ u. map (λ v. upper s u v) vs) us) (selected us nums) (selected vs nums) ≡ sum_over us (λ u. cell nums u *ℤ sum_over vs (λ v. upper s u v *ℤ cell nums v))
form_over [] vs s nums = refl
form_over (u ∷ us) vs s nums = ap₂ (λ x y. cell nums u *ℤ x +ℤ y) (sym (over_dot vs (upper s u) nums)) (form_over us vs s nums)

quadratic_over : (n : ℕ) (vs : List ℕ) (f : Form) (nums : List ℤ) → AreApart vs → ((v : ℕ) → names vs v ≡ true → v < n) → NamesOnly vs f → quadratic n f.square (cell nums) ≡ form (map (λ u. map (λ v. upper f.square u v) vs) vs) (selected vs nums) (selected vs nums)
quadratic_over n vs f nums a b o =
    sum_same n (column f.square x) (λ j. x j *ℤ sum_over vs (λ i. upper f.square i j *ℤ x i)) (λ j h. column_all n f.square x j h ∙ ap (λ z. x j *ℤ z) (sum_listed n vs (λ i. upper f.square i j *ℤ x i) a b (λ i q. ap (λ z. z *ℤ x i) (first i j q) ∙ zero-*ℤ (x i))))
    ∙ (sum_listed n vs (λ j. x j *ℤ sum_over vs (λ i. upper f.square i j *ℤ x i)) a b (λ j q. ap (λ z. x j *ℤ z) (over_same vs (λ i. upper f.square i j *ℤ x i) (λ i. pos 0) (λ i _. ap (λ z. z *ℤ x i) (second i j q) ∙ zero-*ℤ (x i)) ∙ nothing vs) ∙ *ℤ-zero (x j))
    ∙ (over_same vs (λ j. x j *ℤ sum_over vs (λ i. upper f.square i j *ℤ x i)) (λ j. sum_over vs (λ i. x j *ℤ (upper f.square i j *ℤ x i))) (λ j _. over_times (x j) vs (λ i. upper f.square i j *ℤ x i))
    ∙ (over_swap vs vs (λ j i. x j *ℤ (upper f.square i j *ℤ x i))
    ∙ (over_same vs (λ i. sum_over vs (λ j. x j *ℤ (upper f.square i j *ℤ x i))) (λ i. x i *ℤ sum_over vs (λ j. upper f.square i j *ℤ x j)) (λ i _. over_same vs (λ j. x j *ℤ (upper f.square i j *ℤ x i)) (λ j. x i *ℤ (upper f.square i j *ℤ x j)) (λ j _. by_ring (x i ∷ x j ∷ upper f.square i j ∷ []) (var 1 ⊗ (var 2 ⊗ var 0)) (var 0 ⊗ (var 2 ⊗ var 1)) refl) ∙ sym (over_times (x i) vs (λ j. upper f.square i j *ℤ x j)))
    ∙ sym (form_over vs vs f.square nums)))))
  where
    x : ℕ → ℤ
    x = cell nums

    nothing : (us : List ℕ) → sum_over us (λ u. pos 0) ≡ pos 0
    nothing [] = refl
    nothing (u ∷ us) = ap (λ y. pos 0 +ℤ y) (nothing us)

    cases : (i j : ℕ) → (i ≤ j) ⊎ (j < i)
    cases i j = grind arith

    first : (i j : ℕ) → names vs i ≡ false → upper f.square i j ≡ pos 0
    first i j q = go (cases i j)
      where
        go : (i ≤ j) ⊎ (j < i) → upper f.square i j ≡ pos 0
        go (inl l) = upper_there f.square i j l ∙ o.first i j l q
        go (inr l) = upper_none f.square i j l

    second : (i j : ℕ) → names vs j ≡ false → upper f.square i j ≡ pos 0
    second i j q = go (cases i j)
      where
        go : (i ≤ j) ⊎ (j < i) → upper f.square i j ≡ pos 0
        go (inl l) = upper_there f.square i j l ∙ o.second i j l q
        go (inr l) = upper_none f.square i j l

pub quadratic_left_is : (vs : List ℕ) (f : Form) (n : ℕ) (d : ℤ) (nums : List ℤ) → AreApart vs → ((v : ℕ) → names vs v ≡ true → v < n) → NamesOnly vs f → top_at n d (cell nums) f ≡ value_squared (quadratic_left vs f) d (selected vs nums)
quadratic_left_is vs f n d nums a b o =
    ap₂ (λ s t. f.constant *ℤ (d *ℤ d) +ℤ (d *ℤ s +ℤ t)) (line_listed n vs f.linear nums a b o.linear) (quadratic_over n vs f nums a b o)
    ∙ by_ring (f.constant ∷ d ∷ dot (map f.linear vs) (selected vs nums) ∷ form (map (λ u. map (λ v. upper f.square u v) vs) vs) (selected vs nums) (selected vs nums) ∷ []) (var 0 ⊗ (var 1 ⊗ var 1) ⊕ (var 1 ⊗ var 2 ⊕ var 3)) (var 0 ⊗ (var 1 ⊗ var 1) ⊕ var 1 ⊗ var 2 ⊕ var 3) refl
