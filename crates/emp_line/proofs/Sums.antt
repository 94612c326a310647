-- What is formed from two lines side by side is what is formed from their whole lists.
use Rattle.std.proofs.Common.{◌≡◌, ◌≢◌, ◌⊎◌, inl, inr, ℕ, zero, suc, ◌+◌, ◌<◌, ◌≤◌, ℤ, pos, ◌+ℤ◌, ◌*ℤ◌, Bool, true, false, cond, ◌||◌, List, [], ◌∷◌, map, length, arith, refl, ap, sym, subst, ◌∙◌}
use Rattle.std.specs.Prelude.{nat_eq, nat_lt}
use Rattle.std.proofs.lemmas.Bool.{lt-ltb, le-ltb, eq-eqb, cases_eq, ne_eqb}
use lib.IntN.{*ℤ-zero}
use Rattle.emp_algebra.specs.Vector.{scale, add_rows, is_zero}
use Rattle.emp_line.specs.declared.cells.Cell.{Cell}
use Rattle.emp_line.specs.declared.pairs.Pair.{Pair}
use Rattle.emp_line.specs.Pivot.{Factors, is_wide, step_wide, steps_wide}
use Rattle.emp_line.specs.Sparse.{spread, IsSparse, patched, struck, first_alone, second_alone, both_cells, seconds, joined, pairs, pairs_wide, kept, sums}
use Rattle.emp_line.proofs.Exchange.{is_zero-true}
use Rattle.emp_line.proofs.Spread.{number_at, past, spread_more, spread_later, spread_here, sparse_from, sparse_empty, sparse_past, step_end}

-- the first line's cells, with 0 in column j
abbrev pub struck_cells : ℕ → List Cell → List Cell
struck_cells j cs = map (patched j (pos 0) (λ z. z)) cs

past_by : (b : Bool) (j : ℕ) (c : Cell) (cs : List Cell) → cond b (struck_cells j cs) (struck_cells j (c ∷ cs)) ≡ struck_cells j (cond b cs (c ∷ cs))
past_by true j c cs = refl
past_by false j c cs = refl

past_struck : (at j : ℕ) (cs : List Cell) → past at (struck_cells j cs) ≡ struck_cells j (past at cs)
past_struck at j [] = refl
past_struck at j (c ∷ cs) = past_by (nat_eq c.column at) j c cs

struck_more : (at n j : ℕ) (cs : List Cell) → spread at (suc n) (struck_cells j cs) ≡ number_at at (struck_cells j cs) ∷ spread (at + 1) n (struck_cells j (past at cs))
struck_more at n j cs = spread_more at n (struck_cells j cs) ∙ ap (λ ls. number_at at (struck_cells j cs) ∷ spread (at + 1) n ls) (past_struck at j cs)

-- ---- the first pair stands in this column, or neither line has a cell there
record Meets (at j : ℕ) (as' bs : List Cell) : Type 0 where
  pub pair : Pair
  pub column : pair.column ≡ at
  pub own : pair.own ≡ number_at at (struck_cells j as')
  pub other : pair.other ≡ number_at at bs
  pub rest : pairs j as' bs ≡ pair ∷ pairs j (past at as') (past at bs)

record Misses (at j : ℕ) (as' bs : List Cell) : Type 0 where
  pub own : number_at at (struck_cells j as') ≡ pos 0
  pub other : number_at at bs ≡ pos 0
  pub past_own : past at as' ≡ as'
  pub past_other : past at bs ≡ bs

here_number : (at : ℕ) (c : Cell) (z : ℤ) → c.column ≡ at → z ≡ cond (nat_eq c.column at) z (pos 0)
here_number at c z e = sym (ap (λ b. cond b z (pos 0)) (eq-eqb c.column at e))

here_past : (at : ℕ) (c : Cell) (cs : List Cell) → c.column ≡ at → cs ≡ past at (c ∷ cs)
here_past at c cs e = sym (ap (λ b. cond b cs (c ∷ cs)) (eq-eqb c.column at e))

there_number : (at : ℕ) (c : Cell) (z : ℤ) → c.column ≢ at → cond (nat_eq c.column at) z (pos 0) ≡ pos 0
there_number at c z n = ap (λ b. cond b z (pos 0)) (ne_eqb c.column at n)

there_past : (at : ℕ) (c : Cell) (cs : List Cell) → c.column ≢ at → past at (c ∷ cs) ≡ c ∷ cs
there_past at c cs n = ap (λ b. cond b cs (c ∷ cs)) (ne_eqb c.column at n)

joined_first : (j : ℕ) (a b : Cell) (rest : List Cell → List Pair) (bs : List Cell) → a.column < b.column → joined j a rest (b ∷ bs) ≡ first_alone j a ∷ rest (b ∷ bs)
joined_first j a b rest bs h =
    ap (λ t. cond t (first_alone j a ∷ rest (b ∷ bs)) (cond (nat_lt b.column a.column) (second_alone b ∷ joined j a rest bs) (both_cells j a b ∷ rest bs))) (lt-ltb a.column b.column h)

joined_second : (j : ℕ) (a b : Cell) (rest : List Cell → List Pair) (bs : List Cell) → b.column < a.column → joined j a rest (b ∷ bs) ≡ second_alone b ∷ joined j a rest bs
joined_second j a b rest bs h =
    ap (λ t. cond t (first_alone j a ∷ rest (b ∷ bs)) (cond (nat_lt b.column a.column) (second_alone b ∷ joined j a rest bs) (both_cells j a b ∷ rest bs))) (le-ltb a.column b.column (omega arith))
    ∙ ap (λ t. cond t (second_alone b ∷ joined j a rest bs) (both_cells j a b ∷ rest bs)) (lt-ltb b.column a.column h)

joined_both : (j : ℕ) (a b : Cell) (rest : List Cell → List Pair) (bs : List Cell) → a.column ≡ b.column → joined j a rest (b ∷ bs) ≡ both_cells j a b ∷ rest bs
joined_both j a b rest bs h =
    ap (λ t. cond t (first_alone j a ∷ rest (b ∷ bs)) (cond (nat_lt b.column a.column) (second_alone b ∷ joined j a rest bs) (both_cells j a b ∷ rest bs))) (le-ltb a.column b.column (omega arith))
    ∙ ap (λ t. cond t (second_alone b ∷ joined j a rest bs) (both_cells j a b ∷ rest bs)) (le-ltb b.column a.column (omega arith))

meets : (at j end : ℕ) (as' bs : List Cell) → IsSparse at end as' → IsSparse at end bs → Meets at j as' bs ⊎ Misses at j as' bs
meets at j end [] [] s t = inr (record { own = refl; other = refl; past_own = refl; past_other = refl })
meets at j end [] (b ∷ bs) s t = go (cases_eq b.column at)
  where
    go : (b.column ≡ at) ⊎ (b.column ≢ at) → Meets at j [] (b ∷ bs) ⊎ Misses at j [] (b ∷ bs)
    go (inl e) = inl (record { pair = second_alone b; column = e; own = refl; other = here_number at b b.number e; rest = ap (λ ls. second_alone b ∷ seconds ls) (here_past at b bs e) })
    go (inr n) = inr (record { own = refl; other = there_number at b b.number n; past_own = refl; past_other = there_past at b bs n })
meets at j end (a ∷ as') [] s t = go (cases_eq a.column at)
  where
    go : (a.column ≡ at) ⊎ (a.column ≢ at) → Meets at j (a ∷ as') [] ⊎ Misses at j (a ∷ as') []
    go (inl e) = inl (record { pair = first_alone j a; column = e; own = here_number at a (struck j a) e; other = refl; rest = ap (λ ls. first_alone j a ∷ pairs j ls []) (here_past at a as' e) })
    go (inr n) = inr (record { own = there_number at a (struck j a) n; other = refl; past_own = there_past at a as' n; past_other = refl })
meets at j end (a ∷ as') (b ∷ bs) s t = go (cases_eq a.column at) (cases_eq b.column at)
  where
    go : (a.column ≡ at) ⊎ (a.column ≢ at) → (b.column ≡ at) ⊎ (b.column ≢ at) → Meets at j (a ∷ as') (b ∷ bs) ⊎ Misses at j (a ∷ as') (b ∷ bs)
    go (inl e) (inl f) = inl (record {
      pair = both_cells j a b;
      column = e;
      own = here_number at a (struck j a) e;
      other = here_number at b b.number f;
      rest = joined_both j a b (pairs j as') bs (e ∙ sym f) ∙ (ap (λ ls. both_cells j a b ∷ pairs j ls bs) (here_past at a as' e) ∙ ap (λ ls. both_cells j a b ∷ pairs j (past at (a ∷ as')) ls) (here_past at b bs f));
    })
    go (inl e) (inr n) = inl (record {
      pair = first_alone j a;
      column = e;
      own = here_number at a (struck j a) e;
      other = sym (there_number at b b.number n);
      rest = joined_first j a b (pairs j as') bs (omega (arith, t.0)) ∙ (ap (λ ls. first_alone j a ∷ pairs j ls (b ∷ bs)) (here_past at a as' e) ∙ ap (λ ls. first_alone j a ∷ pairs j (past at (a ∷ as')) ls) (sym (there_past at b bs n)));
    })
    go (inr n) (inl f) = inl (record {
      pair = second_alone b;
      column = f;
      own = sym (there_number at a (struck j a) n);
      other = here_number at b b.number f;
      rest = joined_second j a b (pairs j as') bs (omega (arith, s.0)) ∙ (ap (λ ls. second_alone b ∷ pairs j ls bs) (sym (there_past at a as' n)) ∙ ap (λ ls. second_alone b ∷ pairs j (past at (a ∷ as')) ls) (here_past at b bs f));
    })
    go (inr n) (inr m) = inr (record { own = there_number at a (struck j a) n; other = there_number at b b.number m; past_own = there_past at a as' n; past_other = there_past at b bs m })

pub zero_step : (f : Factors) → step_wide f (pos 0) (pos 0) ≡ false
zero_step f =
    ap (λ z. is_wide z || is_wide (f.other *ℤ pos 0) || is_wide (z +ℤ f.other *ℤ pos 0)) (*ℤ-zero f.own) ∙ ap (λ z. is_wide (pos 0) || is_wide z || is_wide (pos 0 +ℤ z)) (*ℤ-zero f.other)

zero_sum : (f : Factors) → f.own *ℤ pos 0 +ℤ f.other *ℤ pos 0 ≡ pos 0
zero_sum f = ap (λ z. z +ℤ f.other *ℤ pos 0) (*ℤ-zero f.own) ∙ ap (λ z. pos 0 +ℤ z) (*ℤ-zero f.other)

sparse_end : (at n : ℕ) (cs : List Cell) → IsSparse (at + 1) (at + suc n) cs → IsSparse (at + 1) (at + 1 + n) cs
sparse_end at n cs s = subst (λ e. IsSparse (at + 1) e cs) (step_end at n) s

pub wide_pairs : (f : Factors) (j at n : ℕ) (as' bs : List Cell) → IsSparse at (at + n) as' → IsSparse at (at + n) bs → pairs_wide f (pairs j as' bs) ≡ steps_wide f (spread at n (struck_cells j as')) (spread at n bs)
wide_pairs f j at zero as' bs s t = ap (λ ls. pairs_wide f (pairs j ls bs)) (sparse_empty at as' s) ∙ ap (λ ls. pairs_wide f (seconds ls)) (sparse_empty at bs t)
wide_pairs f j at (suc n) as' bs s t = go (meets at j (at + suc n) as' bs s t) (wide_pairs f j (at + 1) n (past at as') (past at bs) (sparse_end at n (past at as') (sparse_past at (at + suc n) as' s)) (sparse_end at n (past at bs) (sparse_past at (at + suc n) bs t)))
  where
    whole : steps_wide f (spread at (suc n) (struck_cells j as')) (spread at (suc n) bs) ≡ step_wide f (number_at at (struck_cells j as')) (number_at at bs) || steps_wide f (spread (at + 1) n (struck_cells j (past at as'))) (spread (at + 1) n (past at bs))
    whole = ap (λ r. steps_wide f r (spread at (suc n) bs)) (struck_more at n j as') ∙ ap (λ r. steps_wide f (number_at at (struck_cells j as') ∷ spread (at + 1) n (struck_cells j (past at as'))) r) (spread_more at n bs)

    go : Meets at j as' bs ⊎ Misses at j as' bs → pairs_wide f (pairs j (past at as') (past at bs)) ≡ steps_wide f (spread (at + 1) n (struck_cells j (past at as'))) (spread (at + 1) n (past at bs)) → pairs_wide f (pairs j as' bs) ≡ steps_wide f (spread at (suc n) (struck_cells j as')) (spread at (suc n) bs)
    go (inl m) ih =
        ap (pairs_wide f) m.rest
        ∙ (ap (λ b. step_wide f m.pair.own m.pair.other || b) ih
        ∙ (ap (λ z. step_wide f z m.pair.other || steps_wide f (spread (at + 1) n (struck_cells j (past at as'))) (spread (at + 1) n (past at bs))) m.own
        ∙ (ap (λ z. step_wide f (number_at at (struck_cells j as')) z || steps_wide f (spread (at + 1) n (struck_cells j (past at as'))) (spread (at + 1) n (past at bs))) m.other ∙ sym whole)))
    go (inr m) ih =
        ap (λ ls. pairs_wide f (pairs j ls bs)) (sym m.past_own)
        ∙ (ap (λ ls. pairs_wide f (pairs j (past at as') ls)) (sym m.past_other)
        ∙ (ih
        ∙ (sym (ap (λ b. b || steps_wide f (spread (at + 1) n (struck_cells j (past at as'))) (spread (at + 1) n (past at bs))) (ap (λ z. step_wide f z (number_at at bs)) m.own ∙ (ap (step_wide f (pos 0)) m.other ∙ zero_step f))) ∙ sym whole)))

-- ---- the sum
record Kept (at n : ℕ) (z : ℤ) (cs : List Cell) : Type 0 where
  pub sparse : IsSparse at (at + suc n) (kept (record { column = at; number = z }) cs)
  pub spreads : spread at (suc n) (kept (record { column = at; number = z }) cs) ≡ z ∷ spread (at + 1) n cs

kept_is : (at n : ℕ) (z : ℤ) (cs : List Cell) → IsSparse (at + 1) (at + suc n) cs → Kept at n z cs
kept_is at n z cs s = go (is_zero z) refl
  where
    go : (b : Bool) → is_zero z ≡ b → Kept at n z cs
    go true e = record {
      sparse = subst (λ b. IsSparse at (at + suc n) (cond b cs (record { column = at; number = z } ∷ cs))) (sym e) (sparse_from (at + 1) at (at + suc n) cs (omega arith) s);
      spreads = ap (λ b. spread at (suc n) (cond b cs (record { column = at; number = z } ∷ cs))) e ∙ (spread_later at n cs s ∙ ap (λ y. y ∷ spread (at + 1) n cs) (sym (is_zero-true z e)));
    }
    go false e = record {
      sparse = subst (λ b. IsSparse at (at + suc n) (cond b cs (record { column = at; number = z } ∷ cs))) (sym e) (omega arith, omega arith, λ n. (let t = ap is_zero n in cc), s);
      spreads = ap (λ b. spread at (suc n) (cond b cs (record { column = at; number = z } ∷ cs))) e ∙ spread_here at n z cs;
    }

pub record Summed (f : Factors) (j at n : ℕ) (as' bs : List Cell) : Type 0 where
  pub sparse : IsSparse at (at + n) (sums f (pairs j as' bs))
  pub spreads : spread at n (sums f (pairs j as' bs)) ≡ add_rows (scale f.own (spread at n (struck_cells j as'))) (scale f.other (spread at n bs))

pub sums_are : (f : Factors) (j at n : ℕ) (as' bs : List Cell) → IsSparse at (at + n) as' → IsSparse at (at + n) bs → Summed f j at n as' bs
sums_are f j at zero as' bs s t = record { sparse = subst (λ ls. IsSparse at (at + 0) (sums f ls)) (sym none) tt; spreads = refl }
  where
    none : pairs j as' bs ≡ []
    none = ap (λ ls. pairs j ls bs) (sparse_empty at as' s) ∙ ap seconds (sparse_empty at bs t)
sums_are f j at (suc n) as' bs s t = go (meets at j (at + suc n) as' bs s t) (sums_are f j (at + 1) n (past at as') (past at bs) (sparse_end at n (past at as') (sparse_past at (at + suc n) as' s)) (sparse_end at n (past at bs) (sparse_past at (at + suc n) bs t)))
  where
    x : ℤ
    x = number_at at (struck_cells j as')

    y : ℤ
    y = number_at at bs

    whole : add_rows (scale f.own (spread at (suc n) (struck_cells j as'))) (scale f.other (spread at (suc n) bs)) ≡ (f.own *ℤ number_at at (struck_cells j as') +ℤ f.other *ℤ number_at at bs) ∷ add_rows (scale f.own (spread (at + 1) n (struck_cells j (past at as')))) (scale f.other (spread (at + 1) n (past at bs)))
    whole = ap (λ r. add_rows (scale f.own r) (scale f.other (spread at (suc n) bs))) (struck_more at n j as') ∙ ap (λ r. add_rows (scale f.own (number_at at (struck_cells j as') ∷ spread (at + 1) n (struck_cells j (past at as')))) (scale f.other r)) (spread_more at n bs)

    go : Meets at j as' bs ⊎ Misses at j as' bs → Summed f j (at + 1) n (past at as') (past at bs) → Summed f j at (suc n) as' bs
    go (inl m) ih =
        let cs = sums f (pairs j (past at as') (past at bs)) in
        let z : ℤ = f.own *ℤ m.pair.own +ℤ f.other *ℤ m.pair.other in
        let k : Kept at n (f.own *ℤ m.pair.own +ℤ f.other *ℤ m.pair.other) (sums f (pairs j (past at as') (past at bs))) = kept_is at n z cs (subst (λ e. IsSparse (at + 1) e (sums f (pairs j (past at as') (past at bs)))) (sym (step_end at n)) ih.sparse) in
        let e : sums f (pairs j as' bs) ≡ kept (record { column = at; number = f.own *ℤ m.pair.own +ℤ f.other *ℤ m.pair.other }) (sums f (pairs j (past at as') (past at bs))) = ap (sums f) m.rest ∙ ap (λ c. kept (record { column = c; number = z }) cs) m.column in
        record {
          sparse = subst (IsSparse at (at + suc n)) (sym e) k.sparse;
          spreads = ap (spread at (suc n)) e
              ∙ (k.spreads
              ∙ (ap (λ ls. z ∷ ls) ih.spreads
              ∙ (ap (λ u. (f.own *ℤ u +ℤ f.other *ℤ m.pair.other) ∷ add_rows (scale f.own (spread (at + 1) n (struck_cells j (past at as')))) (scale f.other (spread (at + 1) n (past at bs)))) m.own
              ∙ (ap (λ u. (f.own *ℤ number_at at (struck_cells j as') +ℤ f.other *ℤ u) ∷ add_rows (scale f.own (spread (at + 1) n (struck_cells j (past at as')))) (scale f.other (spread (at + 1) n (past at bs)))) m.other ∙ sym whole))));
        }
    go (inr m) ih =
        let e : pairs j (past at as') (past at bs) ≡ pairs j as' bs = ap (λ ls. pairs j ls (past at bs)) m.past_own ∙ ap (pairs j as') m.past_other in
        let h : IsSparse (at + 1) (at + suc n) (sums f (pairs j as' bs)) = subst (λ c. IsSparse (at + 1) c (sums f (pairs j as' bs))) (sym (step_end at n)) (subst (λ ps. IsSparse (at + 1) (at + 1 + n) (sums f ps)) e ih.sparse) in
        record {
          sparse = sparse_from (at + 1) at (at + suc n) (sums f (pairs j as' bs)) (omega arith) h;
          spreads = spread_later at n (sums f (pairs j as' bs)) h
              ∙ (ap (λ ps. pos 0 ∷ spread (at + 1) n (sums f ps)) (sym e)
              ∙ (ap (λ ls. pos 0 ∷ ls) ih.spreads
              ∙ (ap (λ u. u ∷ add_rows (scale f.own (spread (at + 1) n (struck_cells j (past at as')))) (scale f.other (spread (at + 1) n (past at bs)))) (sym (ap (λ u. f.own *ℤ u +ℤ f.other *ℤ number_at at bs) m.own ∙ (ap (λ u. f.own *ℤ pos 0 +ℤ f.other *ℤ u) m.other ∙ zero_sum f))) ∙ sym whole)));
        }

-- ---- how many pairs there are
pub length_pairs : (j at n : ℕ) (as' bs : List Cell) → IsSparse at (at + n) as' → IsSparse at (at + n) bs → length (pairs j as' bs) ≤ n
length_pairs j at zero as' bs s t = let e = ap length (ap (λ ls. pairs j ls bs) (sparse_empty at as' s) ∙ ap seconds (sparse_empty at bs t)) in omega arith
length_pairs j at (suc n) as' bs s t = go (meets at j (at + suc n) as' bs s t) (length_pairs j (at + 1) n (past at as') (past at bs) (sparse_end at n (past at as') (sparse_past at (at + suc n) as' s)) (sparse_end at n (past at bs) (sparse_past at (at + suc n) bs t)))
  where
    go : Meets at j as' bs ⊎ Misses at j as' bs → length (pairs j (past at as') (past at bs)) ≤ n → length (pairs j as' bs) ≤ suc n
    go (inl m) ih = let e = ap length m.rest in omega arith
    go (inr m) ih = let e = ap length (ap (λ ls. pairs j ls (past at bs)) m.past_own ∙ ap (pairs j as') m.past_other) in omega arith
