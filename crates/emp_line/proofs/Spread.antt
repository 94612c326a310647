-- The cells that are not 0, and the whole list that they stand for.
use Rattle.std.proofs.Common.{◌≡◌, ◌≢◌, ◌⊎◌, inl, inr, ℕ, zero, suc, ◌+◌, ◌<◌, ◌≤◌, ℤ, pos, Bool, true, false, cond, List, [], ◌∷◌, length, get_or, arith, refl, ap, sym, subst, ◌∙◌}
use Rattle.std.specs.Prelude.{nat_eq}
use Rattle.std.proofs.lemmas.Bool.{eqb-true, eq-eqb, cases_eq, ne_eqb}
use Rattle.emp_algebra.specs.Vector.{cell}
use Rattle.emp_line.specs.declared.cells.Cell.{Cell}
use Rattle.emp_line.specs.Place.{IsPlace, Rises}
use Rattle.emp_line.specs.Sparse.{no_cell, spread, IsSparse}

-- ---- the head and the rest, column by column
-- the number of the first cell, where it stands in this column
abbrev pub number_at : ℕ → List Cell → ℤ
number_at at [] = pos 0
number_at at (c ∷ cs) = cond (nat_eq c.column at) c.number (pos 0)

-- the cells after this column
abbrev pub past : ℕ → List Cell → List Cell
past at [] = []
past at (c ∷ cs) = cond (nat_eq c.column at) cs (c ∷ cs)

spread_by : (b : Bool) (at n : ℕ) (c : Cell) (cs : List Cell) → cond b (c.number ∷ spread (at + 1) n cs) (pos 0 ∷ spread (at + 1) n (c ∷ cs)) ≡ (cond b c.number (pos 0)) ∷ spread (at + 1) n (cond b cs (c ∷ cs))
spread_by true at n c cs = refl
spread_by false at n c cs = refl

pub spread_more : (at n : ℕ) (cs : List Cell) → spread at (suc n) cs ≡ number_at at cs ∷ spread (at + 1) n (past at cs)
spread_more at n [] = refl
spread_more at n (c ∷ cs) = spread_by (nat_eq c.column at) at n c cs

pub length_spread : (at n : ℕ) (cs : List Cell) → length (spread at n cs) ≡ n
length_spread at zero cs = refl
length_spread at (suc n) cs = ap length (spread_more at n cs) ∙ ap suc (length_spread (at + 1) n (past at cs))

-- ---- sparse lists
pub sparse_from : (a b end : ℕ) (cs : List Cell) → b ≤ a → IsSparse a end cs → IsSparse b end cs
sparse_from a b end [] h s = s
sparse_from a b end (c ∷ cs) h s = (omega (arith, s.0), s.1, s.2, s.3)

pub sparse_none : (at : ℕ) (cs : List Cell) → IsSparse at at cs → cs ≡ []
sparse_none at [] s = refl
sparse_none at (c ∷ cs) s = absurd (omega (arith, s.0, s.1))

pub sparse_past : (at end : ℕ) (cs : List Cell) → IsSparse at end cs → IsSparse (at + 1) end (past at cs)
sparse_past at end [] s = s
sparse_past at end (c ∷ cs) s = go (nat_eq c.column at) refl
  where
    go : (b : Bool) → nat_eq c.column at ≡ b → IsSparse (at + 1) end (cond b cs (c ∷ cs))
    go true e = subst (λ k. IsSparse (k + 1) end cs) (eqb-true c.column at e) s.3
    go false e = let n : c.column ≢ at = λ q. (let t = eq-eqb c.column at q in cc) in (omega (arith, s.0), s.1, s.2, s.3)

pub length_sparse : (at n : ℕ) (cs : List Cell) → IsSparse at (at + n) cs → length cs ≤ n
length_sparse at n [] s = omega arith
length_sparse at zero (c ∷ cs) s = absurd (omega (arith, s.0, s.1))
length_sparse at (suc n) (c ∷ cs) s =
    let e : at + suc n ≡ at + 1 + n = omega arith in
    let h = length_sparse (at + 1) n cs (sparse_from (c.column + 1) (at + 1) (at + 1 + n) cs (omega (arith, s.0)) (subst (λ k. IsSparse (c.column + 1) k cs) e s.3)) in
    omega arith

pub sparse_empty : (at : ℕ) (cs : List Cell) → IsSparse at (at + 0) cs → cs ≡ []
sparse_empty at cs s = let e : at + 0 ≡ at = omega arith in sparse_none at cs (subst (λ m. IsSparse at m cs) e s)

pub step_end : (at n : ℕ) → at + suc n ≡ at + 1 + n
step_end at n = omega arith

-- nothing before the first cell
pub spread_before : (at n : ℕ) (cs : List Cell) → IsSparse (at + 1) (at + suc n) cs → (number_at at cs ≡ pos 0) × (past at cs ≡ cs)
spread_before at n [] s = (refl, refl)
spread_before at n (c ∷ cs) s = go (nat_eq c.column at) refl
  where
    go : (b : Bool) → nat_eq c.column at ≡ b → (cond b c.number (pos 0) ≡ pos 0) × (cond b cs (c ∷ cs) ≡ c ∷ cs)
    go true e = let q = eqb-true c.column at e in absurd (omega (arith, s.0))
    go false e = (refl, refl)

pub spread_later : (at n : ℕ) (cs : List Cell) → IsSparse (at + 1) (at + suc n) cs → spread at (suc n) cs ≡ pos 0 ∷ spread (at + 1) n cs
spread_later at n cs s = spread_more at n cs ∙ (ap (λ z. z ∷ spread (at + 1) n (past at cs)) (spread_before at n cs s).0 ∙ ap (λ ls. pos 0 ∷ spread (at + 1) n ls) (spread_before at n cs s).1)

pub spread_here : (at n : ℕ) (z : ℤ) (cs : List Cell) → spread at (suc n) (record { column = at; number = z } ∷ cs) ≡ z ∷ spread (at + 1) n cs
spread_here at n z cs = ap (λ b. cond b (z ∷ spread (at + 1) n cs) (pos 0 ∷ spread (at + 1) n (record { column = at; number = z } ∷ cs))) (eq-eqb at at refl)

-- ---- looking up
pub find_none : (at n : ℕ) (cs : List Cell) (k : ℕ) → IsSparse at (at + n) cs → ((i : ℕ) → i < length cs → (get_or cs i no_cell).column ≢ at + k) → cell (spread at n cs) k ≡ pos 0
find_none at zero cs k s h = refl
find_none at (suc n) cs zero s h = ap (λ r. cell r 0) (spread_more at n cs) ∙ here cs h
  where
    here : (cs : List Cell) → ((i : ℕ) → i < length cs → (get_or cs i no_cell).column ≢ at + 0) → number_at at cs ≡ pos 0
    here [] h = refl
    here (c ∷ cs) h = ap (λ b. cond b c.number (pos 0)) (ne_eqb c.column at (λ q. h 0 (omega arith) (omega arith)))
find_none at (suc n) cs (suc k) s h =
    ap (λ r. cell r (suc k)) (spread_more at n cs) ∙ find_none (at + 1) n (past at cs) k (subst (λ e. IsSparse (at + 1) e (past at cs)) (step_end at n) (sparse_past at (at + suc n) cs s)) (rest cs h)
  where
    rest : (cs : List Cell) → ((i : ℕ) → i < length cs → (get_or cs i no_cell).column ≢ at + suc k) → (i : ℕ) → i < length (past at cs) → (get_or (past at cs) i no_cell).column ≢ at + 1 + k
    rest [] h i b = absurd (omega arith)
    rest (c ∷ cs) h i b = go (nat_eq c.column at) i b
      where
        go : (b : Bool) (i : ℕ) → i < length (cond b cs (c ∷ cs)) → (get_or (cond b cs (c ∷ cs)) i no_cell).column ≢ at + 1 + k
        go true i b q = h (suc i) (omega arith) (omega arith)
        go false i b q = h i b (omega arith)

-- all columns behind the first one
above : (m end : ℕ) (cs : List Cell) → IsSparse (m + 1) end cs → (i : ℕ) → i < length cs → m < (get_or cs i no_cell).column
above m end [] s i b = absurd (omega arith)
above m end (c ∷ cs) s zero b = omega (arith, s.0)
above m end (c ∷ cs) s (suc i) b = above m end cs (sparse_from (c.column + 1) (m + 1) end cs (omega (arith, s.0)) s.3) i (omega arith)

abbrev Finds : ℕ → ℕ → List Cell → ℕ → Type 0
Finds at n cs k = (i : ℕ) → IsSparse at (at + n) cs → i < length cs → (get_or cs i no_cell).column ≡ at + k → cell (spread at n cs) k ≡ (get_or cs i no_cell).number

find_head : (at n : ℕ) (c : Cell) (cs : List Cell) (k : ℕ) → c.column ≡ at → ((m : ℕ) → Finds (at + 1) n cs m) → (i : ℕ) → IsSparse at (at + suc n) (c ∷ cs) → i < length (c ∷ cs) → (get_or (c ∷ cs) i no_cell).column ≡ at + k → cell (c.number ∷ spread (at + 1) n cs) k ≡ (get_or (c ∷ cs) i no_cell).number
find_head at n c cs zero e ih zero s h f = refl
find_head at n c cs zero e ih (suc i) s h f = let a = above c.column (at + suc n) cs s.3 i (omega arith) in absurd (omega arith)
find_head at n c cs (suc k) e ih zero s h f = absurd (omega arith)
find_head at n c cs (suc k) e ih (suc i) s h f = ih k i (subst (λ m. IsSparse (m + 1) (at + 1 + n) cs) e (subst (λ m. IsSparse (c.column + 1) m cs) (step_end at n) s.3)) (omega arith) (omega arith)

find_later : (at n : ℕ) (c : Cell) (cs : List Cell) (k : ℕ) → c.column ≢ at → ((m : ℕ) → Finds (at + 1) n (c ∷ cs) m) → (i : ℕ) → IsSparse at (at + suc n) (c ∷ cs) → i < length (c ∷ cs) → (get_or (c ∷ cs) i no_cell).column ≡ at + k → cell (pos 0 ∷ spread (at + 1) n (c ∷ cs)) k ≡ (get_or (c ∷ cs) i no_cell).number
find_later at n c cs zero e ih zero s h f = absurd (e (omega arith))
find_later at n c cs zero e ih (suc i) s h f = let a = above c.column (at + suc n) cs s.3 i (omega arith) in absurd (omega (arith, s.0))
find_later at n c cs (suc k) e ih i s h f =
    let t : IsSparse (at + 1) (at + suc n) (c ∷ cs) = (omega (arith, s.0), s.1, s.2, s.3) in
    ih k i (subst (λ m. IsSparse (at + 1) m (c ∷ cs)) (step_end at n) t) h (omega arith)

pub find_some : (at n : ℕ) (cs : List Cell) (k : ℕ) → Finds at n cs k
find_some at n [] k i s h e = absurd (omega arith)
find_some at zero (c ∷ cs) k i s h e = absurd (omega (arith, s.0, s.1))
find_some at (suc n) (c ∷ cs) k i s h e = go (cases_eq c.column at) (find_some (at + 1) n cs) (find_some (at + 1) n (c ∷ cs)) i s h e
  where
    go : (c.column ≡ at) ⊎ (c.column ≢ at) → ((m : ℕ) → Finds (at + 1) n cs m) → ((m : ℕ) → Finds (at + 1) n (c ∷ cs) m) → Finds at (suc n) (c ∷ cs) k
    go (inl q) x y i s h e = ap (λ b. cell (cond b (c.number ∷ spread (at + 1) n cs) (pos 0 ∷ spread (at + 1) n (c ∷ cs))) k) (eq-eqb c.column at q) ∙ find_head at n c cs k q x i s h e
    go (inr q) x y i s h e = ap (λ b. cell (cond b (c.number ∷ spread (at + 1) n cs) (pos 0 ∷ spread (at + 1) n (c ∷ cs))) k) (ne_eqb c.column at q) ∙ find_later at n c cs k q y i s h e

-- columns rise
sorted : (at end : ℕ) (cs : List Cell) → IsSparse at end cs → (i k : ℕ) → i < k → k < length cs → (get_or cs i no_cell).column < (get_or cs k no_cell).column
sorted at end [] s i k h b = absurd (omega arith)
sorted at end (c ∷ cs) s i zero h b = absurd (omega arith)
sorted at end (c ∷ cs) s zero (suc k) h b = above c.column end cs s.3 k (omega arith)
sorted at end (c ∷ cs) s (suc i) (suc k) h b = sorted (c.column + 1) end cs s.3 i k (omega arith) (omega arith)

pub rising : (w : ℕ) (cs : List Cell) → IsSparse 0 w cs → Rises cs
rising w cs s = sorted 0 w cs s

-- the cell that stands in the column, or none
plus_zero : (n : ℕ) → n ≡ 0 + n
plus_zero n = omega arith

pub found_here : (w : ℕ) (cs : List Cell) (k p : ℕ) → IsSparse 0 w cs → p < length cs → (get_or cs p no_cell).column ≡ k → (get_or cs p no_cell).number ≡ cell (spread 0 w cs) k
found_here w cs k p s h e = sym (find_some 0 w cs k p (subst (λ m. IsSparse 0 m cs) (plus_zero w) s) h (omega arith))

pub found_none : (w : ℕ) (cs : List Cell) (k p : ℕ) → IsSparse 0 w cs → IsPlace cs k p → (p < length cs → (get_or cs p no_cell).column ≢ k) → pos 0 ≡ cell (spread 0 w cs) k
found_none w cs k p s l n = sym (find_none 0 w cs k (subst (λ m. IsSparse 0 m cs) (plus_zero w) s) (λ i b. go i b (le_or_lt p i)))
  where
    le_or_lt : (p i : ℕ) → (p ≤ i) ⊎ (i < p)
    le_or_lt p i = grind arith

    at_place : (i : ℕ) → i < length cs → p ≤ i → (get_or cs i no_cell).column ≡ k → (p ≡ i) ⊎ (p ≢ i) → ⊥
    at_place i b h q (inl e) = n (omega arith) (ap (λ m. (get_or cs m no_cell).column) e ∙ q)
    at_place i b h q (inr e) =
        let a = l.behind p (omega arith) (omega arith) in
        let c = sorted 0 w cs s p i (omega arith) b in
        omega arith

    go : (i : ℕ) → i < length cs → (p ≤ i) ⊎ (i < p) → (get_or cs i no_cell).column ≢ 0 + k
    go i b (inr h) q = let a = l.before i h in omega arith
    go i b (inl h) q = at_place i b h (omega arith) (cases_eq p i)

-- ---- a search by halves
pub record Between (cs : List Cell) (k low high : ℕ) : Type 0 where
  pub order : low ≤ high
  pub end : high ≤ length cs
  pub before : (i : ℕ) → i < low → (get_or cs i no_cell).column < k
  pub behind : (i : ℕ) → high ≤ i → i < length cs → k ≤ (get_or cs i no_cell).column

pub before_more : (cs : List Cell) (k p m : ℕ) → Rises cs → m < length cs → (get_or cs m no_cell).column < k → (i : ℕ) → i < m + 1 → (get_or cs i no_cell).column < k
before_more cs k p m s b h i l = go (cases_eq i m)
  where
    go : (i ≡ m) ⊎ (i ≢ m) → (get_or cs i no_cell).column < k
    go (inl e) = subst (λ n. (get_or cs n no_cell).column < k) (sym e) h
    go (inr n) = let a = s i m (omega arith) b in omega arith

pub behind_more : (cs : List Cell) (k m : ℕ) → Rises cs → k ≤ (get_or cs m no_cell).column → (i : ℕ) → m ≤ i → i < length cs → k ≤ (get_or cs i no_cell).column
behind_more cs k m s h i l b = go (cases_eq m i)
  where
    go : (m ≡ i) ⊎ (m ≢ i) → k ≤ (get_or cs i no_cell).column
    go (inl e) = subst (λ n. k ≤ (get_or cs n no_cell).column) e h
    go (inr n) = let a = s m i (omega arith) b in omega arith

pub ruleset searching = (before_more, behind_more)

pub ruleset finding = (rising, found_here, found_none)
