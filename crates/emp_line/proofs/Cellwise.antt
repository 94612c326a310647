-- What is done to each cell that is not 0 is done to the whole list.
use Rattle.std.proofs.Common.{◌≡◌, ◌≢◌, ◌⊎◌, inl, inr, ℕ, zero, suc, ◌+◌, ◌-◌, ◌<◌, ◌≤◌, ℤ, pos, ◌*ℤ◌, Bool, true, false, cond, List, [], ◌∷◌, ◌++◌, map, length, get_or, set, to_z-of_z, unsigned_abs, int_div, arith, refl, ap, sym, subst, ◌∙◌}
use Prim.Native.Nat.{◌∣◌}
use native.Mathlib.Nat.{dvd-zero}
use Rattle.std.specs.Prelude.{nat_eq}
use Rattle.std.specs.List.{All}
use Rattle.std.proofs.lemmas.Bool.{eqb-true, eq-eqb, ne_eqb}
use Rattle.std.proofs.lemmas.Int.{ints}
use Rattle.std.proofs.lemmas.Nat.Gcd.{dvd_refl}
use Rattle.std.proofs.lemmas.List.Elements.{All-nil, All-cons, All-head, All-tail}
use Rattle.emp_algebra.specs.Vector.{cell, scale, quotients}
use Rattle.emp_num.specs.Gcd.{gcd_of, content_from}
use Rattle.emp_num.proofs.Gcds.{quot_exact}
use Rattle.emp_num.proofs.Divisors.{gcd_of_is}
use Rattle.emp_line.specs.declared.cells.Cell.{Cell}
use Rattle.emp_line.specs.Place.{IsSmall}
use Rattle.emp_line.specs.Sparse.{no_cell, spread, IsSparse, numbers, patched, divided}
use Rattle.emp_line.proofs.Spread.{number_at, past, spread_more, sparse_empty, sparse_past, step_end}

sparse_rest : (at n : ℕ) (cs : List Cell) → IsSparse at (at + suc n) cs → IsSparse (at + 1) (at + 1 + n) (past at cs)
sparse_rest at n cs s = subst (λ e. IsSparse (at + 1) e (past at cs)) (step_end at n) (sparse_past at (at + suc n) cs s)

-- ---- the divisor in common
gcd_of_none : (g : ℕ) → gcd_of g 0 ≡ g
gcd_of_none g = sym (gcd_of_is g 0 g (dvd_refl g, dvd-zero g, λ d p q. p))

content_past : (at g : ℕ) (cs : List Cell) → content_from g (numbers cs) ≡ content_from (gcd_of g (unsigned_abs (number_at at cs))) (numbers (past at cs))
content_past at g [] = sym (gcd_of_none g)
content_past at g (c ∷ cs) = go (nat_eq c.column at)
  where
    go : (b : Bool) → content_from (gcd_of g (unsigned_abs c.number)) (numbers cs) ≡ content_from (gcd_of g (unsigned_abs (cond b c.number (pos 0)))) (numbers (cond b cs (c ∷ cs)))
    go true = refl
    go false = sym (ap (λ m. content_from m (numbers (c ∷ cs))) (gcd_of_none g))

pub content_spread : (at n g : ℕ) (cs : List Cell) → IsSparse at (at + n) cs → content_from g (numbers cs) ≡ content_from g (spread at n cs)
content_spread at zero g cs s = ap (λ ls. content_from g (numbers ls)) (sparse_empty at cs s)
content_spread at (suc n) g cs s =
    content_past at g cs
    ∙ (content_spread (at + 1) n (gcd_of g (unsigned_abs (number_at at cs))) (past at cs) (sparse_rest at n cs s) ∙ ap (content_from g) (sym (spread_more at n cs)))

-- ---- quotients
number_divided : (at : ℕ) (g : ℤ) (cs : List Cell) → int_div (pos 0) g ≡ pos 0 → number_at at (map (divided g) cs) ≡ int_div (number_at at cs) g
number_divided at g [] e = sym e
number_divided at g (c ∷ cs) e = go (nat_eq c.column at)
  where
    go : (b : Bool) → cond b (int_div c.number g) (pos 0) ≡ int_div (cond b c.number (pos 0)) g
    go true = refl
    go false = sym e

past_divided : (at : ℕ) (g : ℤ) (cs : List Cell) → past at (map (divided g) cs) ≡ map (divided g) (past at cs)
past_divided at g [] = refl
past_divided at g (c ∷ cs) = go (nat_eq c.column at)
  where
    go : (b : Bool) → cond b (map (divided g) cs) (map (divided g) (c ∷ cs)) ≡ map (divided g) (cond b cs (c ∷ cs))
    go true = refl
    go false = refl

pub spread_divided : (at n : ℕ) (g : ℤ) (cs : List Cell) → int_div (pos 0) g ≡ pos 0 → spread at n (map (divided g) cs) ≡ quotients (spread at n cs) g
spread_divided at zero g cs e = refl
spread_divided at (suc n) g cs e =
    spread_more at n (map (divided g) cs)
    ∙ (ap (λ z. z ∷ spread (at + 1) n (past at (map (divided g) cs))) (number_divided at g cs e)
    ∙ (ap (λ ls. int_div (number_at at cs) g ∷ spread (at + 1) n ls) (past_divided at g cs)
    ∙ (ap (λ r. int_div (number_at at cs) g ∷ r) (spread_divided (at + 1) n g (past at cs) e) ∙ ap (λ r. quotients r g) (sym (spread_more at n cs)))))

quotient_nonzero : (z : ℤ) (g : ℕ) → g ∣ unsigned_abs z → z ≢ pos 0 → int_div z (pos g) ≢ pos 0
quotient_nonzero z g d n e = n (sym (quot_exact z (pos g) d) ∙ (ap (λ y. y *ℤ pos g) e ∙ zero_times (pos g)))
  where
    zero_times : (g : ℤ) → pos 0 *ℤ g ≡ pos 0
    zero_times g = omega (arith, ints)

pub sparse_divided : (at end g : ℕ) (cs : List Cell) → All (λ z. g ∣ unsigned_abs z) (numbers cs) → IsSparse at end cs → IsSparse at end (map (divided (pos g)) cs)
sparse_divided at end g [] d s = s
sparse_divided at end g (c ∷ cs) d s =
    (s.0, s.1, quotient_nonzero c.number g (All-head (λ z. g ∣ unsigned_abs z) c.number (numbers cs) d) s.2, sparse_divided (c.column + 1) end g cs (All-tail (λ z. g ∣ unsigned_abs z) c.number (numbers cs) d) s.3)

-- ---- small numbers
numbers_all : (P : ℤ → Type 0) (cs : List Cell) → ((i : ℕ) → i < length cs → P (get_or cs i no_cell).number) → All P (numbers cs)
numbers_all P [] h = All-nil P
numbers_all P (c ∷ cs) h = All-cons P c.number (numbers cs) (h 0 (omega arith)) (numbers_all P cs (λ i b. h (suc i) (omega arith)))

pub all_small : (cs : List Cell) (k : ℕ) → length cs ≤ k → ((i : ℕ) → i < k → IsSmall (get_or cs i no_cell).number) → All IsSmall (numbers cs)
all_small cs k b h = numbers_all IsSmall cs (λ i l. h i (omega arith))

pub ruleset sizing = (to_z-of_z, all_small)

pub small_spread : (at n : ℕ) (cs : List Cell) → All IsSmall (numbers cs) → All IsSmall (spread at n cs)
small_spread at zero cs h = All-nil IsSmall
small_spread at (suc n) cs h = subst (All IsSmall) (sym (spread_more at n cs)) (All-cons IsSmall (number_at at cs) (spread (at + 1) n (past at cs)) (here cs h) (small_spread (at + 1) n (past at cs) (rest cs h)))
  where
    here : (cs : List Cell) → All IsSmall (numbers cs) → IsSmall (number_at at cs)
    here [] h = omega (arith, ints)
    here (c ∷ cs) h = go (nat_eq c.column at)
      where
        go : (b : Bool) → IsSmall (cond b c.number (pos 0))
        go true = All-head IsSmall c.number (numbers cs) h
        go false = omega (arith, ints)

    rest : (cs : List Cell) → All IsSmall (numbers cs) → All IsSmall (numbers (past at cs))
    rest [] h = h
    rest (c ∷ cs) h = go (nat_eq c.column at)
      where
        go : (b : Bool) → All IsSmall (numbers (cond b cs (c ∷ cs)))
        go true = All-tail IsSmall c.number (numbers cs) h
        go false = h

-- ---- what is true of each of all cells
all_past : (P : ℤ → Type 0) (at : ℕ) (cs : List Cell) → P (number_at at cs) → All P (numbers (past at cs)) → All P (numbers cs)
all_past P at [] h a = a
all_past P at (c ∷ cs) h a = go (nat_eq c.column at) h a
  where
    go : (b : Bool) → P (cond b c.number (pos 0)) → All P (numbers (cond b cs (c ∷ cs))) → All P (numbers (c ∷ cs))
    go true h a = All-cons P c.number (numbers cs) h a
    go false h a = a

pub all_numbers : (P : ℤ → Type 0) (at n : ℕ) (cs : List Cell) → IsSparse at (at + n) cs → All P (spread at n cs) → All P (numbers cs)
all_numbers P at zero cs s a = subst (λ ls. All P (numbers ls)) (sym (sparse_empty at cs s)) (All-nil P)
all_numbers P at (suc n) cs s a =
    let b : All P (number_at at cs ∷ spread (at + 1) n (past at cs)) = subst (All P) (spread_more at n cs) a in
    all_past P at cs (All-head P (number_at at cs) (spread (at + 1) n (past at cs)) b) (all_numbers P (at + 1) n (past at cs) (sparse_rest at n cs s) (All-tail P (number_at at cs) (spread (at + 1) n (past at cs)) b))

-- ---- one column changed, and the others by one rule
past_patched : (at j : ℕ) (z : ℤ) (g : ℤ → ℤ) (cs : List Cell) → past at (map (patched j z g) cs) ≡ map (patched j z g) (past at cs)
past_patched at j z g [] = refl
past_patched at j z g (c ∷ cs) = go (nat_eq c.column at)
  where
    go : (b : Bool) → cond b (map (patched j z g) cs) (map (patched j z g) (c ∷ cs)) ≡ map (patched j z g) (cond b cs (c ∷ cs))
    go true = refl
    go false = refl

-- where the column is not this one
number_other : (at j : ℕ) (z : ℤ) (g : ℤ → ℤ) (cs : List Cell) → g (pos 0) ≡ pos 0 → at ≢ j → number_at at (map (patched j z g) cs) ≡ g (number_at at cs)
number_other at j z g [] e n = sym e
number_other at j z g (c ∷ cs) e n = go (nat_eq c.column at) refl
  where
    go : (b : Bool) → nat_eq c.column at ≡ b → cond b (cond (nat_eq c.column j) z (g c.number)) (pos 0) ≡ g (cond b c.number (pos 0))
    go true q = ap (λ b. cond b z (g c.number)) (ne_eqb c.column j (λ r. n (sym (eqb-true c.column at q) ∙ r)))
    go false q = sym e

-- where it is, and has a cell or gets 0
number_same : (at j : ℕ) (z : ℤ) (g : ℤ → ℤ) (cs : List Cell) → at ≡ j → (z ≡ pos 0) ⊎ (number_at at cs ≢ pos 0) → number_at at (map (patched j z g) cs) ≡ z
number_same at j z g [] e (inl h) = sym h
number_same at j z g [] e (inr h) = absurd (h refl)
number_same at j z g (c ∷ cs) e h = go (nat_eq c.column at) refl h
  where
    go : (b : Bool) → nat_eq c.column at ≡ b → (z ≡ pos 0) ⊎ (cond b c.number (pos 0) ≢ pos 0) → cond b (cond (nat_eq c.column j) z (g c.number)) (pos 0) ≡ z
    go true q k = ap (λ b. cond b z (g c.number)) (eq-eqb c.column j (eqb-true c.column at q ∙ e))
    go false q (inl k) = sym k
    go false q (inr k) = absurd (k refl)

patched_more : (at n j : ℕ) (z : ℤ) (g : ℤ → ℤ) (cs : List Cell) → spread at (suc n) (map (patched j z g) cs) ≡ number_at at (map (patched j z g) cs) ∷ spread (at + 1) n (map (patched j z g) (past at cs))
patched_more at n j z g cs = spread_more at n (map (patched j z g) cs) ∙ ap (λ ls. number_at at (map (patched j z g) cs) ∷ spread (at + 1) n ls) (past_patched at j z g cs)

patched_before : (at n j : ℕ) (z : ℤ) (g : ℤ → ℤ) (cs : List Cell) → g (pos 0) ≡ pos 0 → j < at → spread at n (map (patched j z g) cs) ≡ map g (spread at n cs)
patched_before at zero j z g cs e h = refl
patched_before at (suc n) j z g cs e h =
    patched_more at n j z g cs
    ∙ (ap (λ y. y ∷ spread (at + 1) n (map (patched j z g) (past at cs))) (number_other at j z g cs e (omega arith))
    ∙ (ap (λ r. g (number_at at cs) ∷ r) (patched_before (at + 1) n j z g (past at cs) e (omega arith)) ∙ ap (map g) (sym (spread_more at n cs))))

patched_from : (at n k : ℕ) (z : ℤ) (g : ℤ → ℤ) (cs : List Cell) → g (pos 0) ≡ pos 0 → k < n → (z ≡ pos 0) ⊎ (cell (spread at n cs) k ≢ pos 0) → spread at n (map (patched (at + k) z g) cs) ≡ set (map g (spread at n cs)) k z
patched_from at zero k z g cs e h o = absurd (omega arith)
patched_from at (suc n) zero z g cs e h o =
    patched_more at n (at + 0) z g cs
    ∙ (ap (λ y. y ∷ spread (at + 1) n (map (patched (at + 0) z g) (past at cs))) (number_same at (at + 0) z g cs (omega arith) (here o))
    ∙ (ap (λ r. z ∷ r) (patched_before (at + 1) n (at + 0) z g (past at cs) e (omega arith)) ∙ ap (λ r. set (map g r) 0 z) (sym (spread_more at n cs))))
  where
    here : (z ≡ pos 0) ⊎ (cell (spread at (suc n) cs) 0 ≢ pos 0) → (z ≡ pos 0) ⊎ (number_at at cs ≢ pos 0)
    here (inl q) = inl q
    here (inr q) = inr (λ r. q (ap (λ ls. cell ls 0) (spread_more at n cs) ∙ r))
patched_from at (suc n) (suc k) z g cs e h o =
    patched_more at n (at + suc k) z g cs
    ∙ (ap (λ y. y ∷ spread (at + 1) n (map (patched (at + suc k) z g) (past at cs))) (number_other at (at + suc k) z g cs e (omega arith))
    ∙ (ap (λ m. g (number_at at cs) ∷ spread (at + 1) n (map (patched m z g) (past at cs))) (step_end at k)
    ∙ (ap (λ r. g (number_at at cs) ∷ r) (patched_from (at + 1) n k z g (past at cs) e (omega arith) (rest o)) ∙ ap (λ r. set (map g r) (suc k) z) (sym (spread_more at n cs)))))
  where
    rest : (z ≡ pos 0) ⊎ (cell (spread at (suc n) cs) (suc k) ≢ pos 0) → (z ≡ pos 0) ⊎ (cell (spread (at + 1) n (past at cs)) k ≢ pos 0)
    rest (inl q) = inl q
    rest (inr q) = inr (λ r. q (ap (λ ls. cell ls (suc k)) (spread_more at n cs) ∙ r))

pub patched_is : (w j : ℕ) (z : ℤ) (g : ℤ → ℤ) (cs : List Cell) → g (pos 0) ≡ pos 0 → j < w → (z ≡ pos 0) ⊎ (cell (spread 0 w cs) j ≢ pos 0) → spread 0 w (map (patched j z g) cs) ≡ set (map g (spread 0 w cs)) j z
patched_is w j z g cs e h o = let q : j ≡ 0 + j = omega arith in ap (λ m. spread 0 w (map (patched m z g) cs)) q ∙ patched_from 0 w j z g cs e h o

pub scale_map : (k : ℤ) (r : List ℤ) → map (λ z. k *ℤ z) r ≡ scale k r
scale_map k [] = refl
scale_map k (a ∷ r) = ap (λ s. (k *ℤ a) ∷ s) (scale_map k r)

pub map_same : (r : List ℤ) → map (λ z. z) r ≡ r
map_same [] = refl
map_same (a ∷ r) = ap (λ s. a ∷ s) (map_same r)

pub sparse_patched : (at end j : ℕ) (z : ℤ) (g : ℤ → ℤ) (cs : List Cell) → z ≢ pos 0 → ((y : ℤ) → y ≢ pos 0 → g y ≢ pos 0) → IsSparse at end cs → IsSparse at end (map (patched j z g) cs)
sparse_patched at end j z g [] n k s = s
sparse_patched at end j z g (c ∷ cs) n k s = (s.0, s.1, go (nat_eq c.column j), sparse_patched (c.column + 1) end j z g cs n k s.3)
  where
    go : (b : Bool) → cond b z (g c.number) ≢ pos 0
    go true = n
    go false = k c.number s.2

-- ---- one more column
sparse_wider : (at end : ℕ) (cs : List Cell) → IsSparse at end cs → IsSparse at (end + 1) cs
sparse_wider at end [] s = s
sparse_wider at end (c ∷ cs) s = (s.0, omega (arith, s.1), s.2, sparse_wider (c.column + 1) end cs s.3)

pub sparse_skip : (w : ℕ) (cs : List Cell) → IsSparse 0 w cs → IsSparse 0 (w + 1) cs
sparse_skip w cs s = sparse_wider 0 w cs s

sparse_next : (at end : ℕ) (z : ℤ) (cs : List Cell) → at ≤ end → z ≢ pos 0 → IsSparse at end cs → IsSparse at (end + 1) (cs ++ (record { column = end; number = z } ∷ []))
sparse_next at end z [] h n s = (h, omega arith, n, tt)
sparse_next at end z (c ∷ cs) h n s = (s.0, omega (arith, s.1), s.2, sparse_next (c.column + 1) end z cs (omega (arith, s.1)) n s.3)

pub sparse_push : (w : ℕ) (z : ℤ) (cs : List Cell) → z ≢ pos 0 → IsSparse 0 w cs → IsSparse 0 (w + 1) (cs ++ (record { column = w; number = z } ∷ []))
sparse_push w z cs n s = sparse_next 0 w z cs (omega arith) n s

number_next : (at k : ℕ) (z : ℤ) (cs : List Cell) → k ≢ at → number_at at (cs ++ (record { column = k; number = z } ∷ [])) ≡ number_at at cs
number_next at k z [] n = ap (λ b. cond b z (pos 0)) (ne_eqb k at n)
number_next at k z (c ∷ cs) n = refl

past_next : (at k : ℕ) (z : ℤ) (cs : List Cell) → k ≢ at → past at (cs ++ (record { column = k; number = z } ∷ [])) ≡ past at cs ++ (record { column = k; number = z } ∷ [])
past_next at k z [] n = ap (λ b. cond b [] (record { column = k; number = z } ∷ [])) (ne_eqb k at n)
past_next at k z (c ∷ cs) n = go (nat_eq c.column at)
  where
    go : (b : Bool) → cond b (cs ++ (record { column = k; number = z } ∷ [])) ((c ∷ cs) ++ (record { column = k; number = z } ∷ [])) ≡ cond b cs (c ∷ cs) ++ (record { column = k; number = z } ∷ [])
    go true = refl
    go false = refl

one_more : (n : ℕ) → n + 1 ≡ suc n
one_more n = omega arith

spread_next : (at n k : ℕ) (z : ℤ) (cs : List Cell) → k ≡ at + n → IsSparse at (at + n) cs → spread at (suc n) (cs ++ (record { column = k; number = z } ∷ [])) ≡ spread at n cs ++ (z ∷ [])
spread_next at zero k z cs e s =
    ap (λ ls. spread at 1 (ls ++ (record { column = k; number = z } ∷ []))) (sparse_empty at cs s) ∙ ap (λ b. cond b (z ∷ []) (pos 0 ∷ [])) (eq-eqb k at (omega arith))
spread_next at (suc n) k z cs e s =
    spread_more at (suc n) (cs ++ (record { column = k; number = z } ∷ []))
    ∙ (ap (λ y. y ∷ spread (at + 1) (suc n) (past at (cs ++ (record { column = k; number = z } ∷ [])))) (number_next at k z cs (omega arith))
    ∙ (ap (λ ls. number_at at cs ∷ spread (at + 1) (suc n) ls) (past_next at k z cs (omega arith))
    ∙ (ap (λ r. number_at at cs ∷ r) (spread_next (at + 1) n k z (past at cs) (omega arith) (sparse_rest at n cs s)) ∙ ap (λ r. r ++ (z ∷ [])) (sym (spread_more at n cs)))))

pub spread_push : (w : ℕ) (z : ℤ) (cs : List Cell) → IsSparse 0 w cs → spread 0 (w + 1) (cs ++ (record { column = w; number = z } ∷ [])) ≡ spread 0 w cs ++ (z ∷ [])
spread_push w z cs s =
    let e : w ≡ 0 + w = omega arith in
    ap (λ n. spread 0 n (cs ++ (record { column = w; number = z } ∷ []))) (one_more w) ∙ spread_next 0 w w z cs e (subst (λ m. IsSparse 0 m cs) e s)

spread_none : (at n : ℕ) (cs : List Cell) → IsSparse at (at + n) cs → spread at (suc n) cs ≡ spread at n cs ++ (pos 0 ∷ [])
spread_none at zero cs s = ap (spread at 1) (sparse_empty at cs s)
spread_none at (suc n) cs s =
    spread_more at (suc n) cs ∙ (ap (λ r. number_at at cs ∷ r) (spread_none (at + 1) n (past at cs) (sparse_rest at n cs s)) ∙ ap (λ r. r ++ (pos 0 ∷ [])) (sym (spread_more at n cs)))

pub spread_skip : (w : ℕ) (cs : List Cell) → IsSparse 0 w cs → spread 0 (w + 1) cs ≡ spread 0 w cs ++ (pos 0 ∷ [])
spread_skip w cs s =
    let e : w ≡ 0 + w = omega arith in
    ap (λ n. spread 0 n cs) (one_more w) ∙ spread_none 0 w cs (subst (λ m. IsSparse 0 m cs) e s)
