-- Two lines side by side, step by step.
use Rattle.std.proofs.Common.{◌≡◌, ℕ, ◌+◌, ◌<◌, ◌≤◌, cond, List, [], ◌∷◌, length, get_or, drop, arith, ap, sym, ◌∙◌}
use Rattle.std.specs.Prelude.{nat_lt}
use Rattle.std.proofs.lemmas.Bool.{lt-ltb, le-ltb}
use Rattle.std.proofs.lemmas.List.{drop_more, drop_all}
use Rattle.emp_line.specs.declared.cells.Cell.{Cell}
use Rattle.emp_line.specs.declared.pairs.Pair.{Pair}
use Rattle.emp_line.specs.Sparse.{no_cell, first_alone, second_alone, both_cells, seconds, joined, pairs}

-- the first line has come to its end
pub pairs_second : (j : ℕ) (as' bs : List Cell) (a b : ℕ) (p : Pair) → length as' ≤ a → b < length bs → p ≡ second_alone (get_or bs b no_cell) → pairs j (drop a as') (drop b bs) ≡ p ∷ pairs j (drop a as') (drop (b + 1) bs)
pairs_second j as' bs a b p h k e =
    ap (λ ls. pairs j ls (drop b bs)) (drop_all a as' h) ∙ (ap seconds (drop_more bs b no_cell k) ∙ (ap (λ q. q ∷ seconds (drop (b + 1) bs)) (sym e) ∙ ap (λ ls. p ∷ pairs j ls (drop (b + 1) bs)) (sym (drop_all a as' h))))

-- the second one has come to its end
pub pairs_first : (j : ℕ) (as' bs : List Cell) (a b : ℕ) (p : Pair) → a < length as' → length bs ≤ b → p ≡ first_alone j (get_or as' a no_cell) → pairs j (drop a as') (drop b bs) ≡ p ∷ pairs j (drop (a + 1) as') (drop b bs)
pairs_first j as' bs a b p h k e =
    ap (λ ls. pairs j ls (drop b bs)) (drop_more as' a no_cell h)
    ∙ (ap (joined j (get_or as' a no_cell) (pairs j (drop (a + 1) as'))) (drop_all b bs k)
    ∙ (ap (λ q. q ∷ pairs j (drop (a + 1) as') []) (sym e) ∙ ap (λ ls. p ∷ pairs j (drop (a + 1) as') ls) (sym (drop_all b bs k))))

-- both have cells left
both_left : (j : ℕ) (as' bs : List Cell) (a b : ℕ) → a < length as' → b < length bs → pairs j (drop a as') (drop b bs) ≡ joined j (get_or as' a no_cell) (pairs j (drop (a + 1) as')) ((get_or bs b no_cell) ∷ drop (b + 1) bs)
both_left j as' bs a b h k =
    ap (λ ls. pairs j ls (drop b bs)) (drop_more as' a no_cell h) ∙ ap (joined j (get_or as' a no_cell) (pairs j (drop (a + 1) as'))) (drop_more bs b no_cell k)

pub pairs_less : (j : ℕ) (as' bs : List Cell) (a b : ℕ) (p : Pair) → a < length as' → b < length bs → (get_or as' a no_cell).column < (get_or bs b no_cell).column → p ≡ first_alone j (get_or as' a no_cell) → pairs j (drop a as') (drop b bs) ≡ p ∷ pairs j (drop (a + 1) as') (drop b bs)
pairs_less j as' bs a b p h k l e =
    let x = get_or as' a no_cell in
    let y = get_or bs b no_cell in
    let rest = pairs j (drop (a + 1) as') in
    both_left j as' bs a b h k
    ∙ (ap (λ t. cond t (first_alone j x ∷ rest (y ∷ drop (b + 1) bs)) (cond (nat_lt y.column x.column) (second_alone y ∷ joined j x rest (drop (b + 1) bs)) (both_cells j x y ∷ rest (drop (b + 1) bs)))) (lt-ltb (get_or as' a no_cell).column (get_or bs b no_cell).column l)
    ∙ (ap (λ q. q ∷ rest (y ∷ drop (b + 1) bs)) (sym e) ∙ ap (λ ls. p ∷ rest ls) (sym (drop_more bs b no_cell k))))

pub pairs_more : (j : ℕ) (as' bs : List Cell) (a b : ℕ) (p : Pair) → a < length as' → b < length bs → (get_or bs b no_cell).column < (get_or as' a no_cell).column → p ≡ second_alone (get_or bs b no_cell) → pairs j (drop a as') (drop b bs) ≡ p ∷ pairs j (drop a as') (drop (b + 1) bs)
pairs_more j as' bs a b p h k l e =
    let x = get_or as' a no_cell in
    let y = get_or bs b no_cell in
    let rest = pairs j (drop (a + 1) as') in
    both_left j as' bs a b h k
    ∙ (ap (λ t. cond t (first_alone j x ∷ rest (y ∷ drop (b + 1) bs)) (cond (nat_lt y.column x.column) (second_alone y ∷ joined j x rest (drop (b + 1) bs)) (both_cells j x y ∷ rest (drop (b + 1) bs)))) (le-ltb (get_or as' a no_cell).column (get_or bs b no_cell).column (omega arith))
    ∙ (ap (λ t. cond t (second_alone y ∷ joined j x rest (drop (b + 1) bs)) (both_cells j x y ∷ rest (drop (b + 1) bs))) (lt-ltb (get_or bs b no_cell).column (get_or as' a no_cell).column l)
    ∙ (ap (λ q. q ∷ joined j x rest (drop (b + 1) bs)) (sym e) ∙ ap (λ ls. p ∷ pairs j ls (drop (b + 1) bs)) (sym (drop_more as' a no_cell h)))))

pub pairs_equal : (j : ℕ) (as' bs : List Cell) (a b : ℕ) (p : Pair) → a < length as' → b < length bs → (get_or as' a no_cell).column ≤ (get_or bs b no_cell).column → (get_or bs b no_cell).column ≤ (get_or as' a no_cell).column → p ≡ both_cells j (get_or as' a no_cell) (get_or bs b no_cell) → pairs j (drop a as') (drop b bs) ≡ p ∷ pairs j (drop (a + 1) as') (drop (b + 1) bs)
pairs_equal j as' bs a b p h k l m e =
    let x = get_or as' a no_cell in
    let y = get_or bs b no_cell in
    let rest = pairs j (drop (a + 1) as') in
    both_left j as' bs a b h k
    ∙ (ap (λ t. cond t (first_alone j x ∷ rest (y ∷ drop (b + 1) bs)) (cond (nat_lt y.column x.column) (second_alone y ∷ joined j x rest (drop (b + 1) bs)) (both_cells j x y ∷ rest (drop (b + 1) bs)))) (le-ltb (get_or as' a no_cell).column (get_or bs b no_cell).column m)
    ∙ (ap (λ t. cond t (second_alone y ∷ joined j x rest (drop (b + 1) bs)) (both_cells j x y ∷ rest (drop (b + 1) bs))) (le-ltb (get_or bs b no_cell).column (get_or as' a no_cell).column l)
    ∙ ap (λ q. q ∷ rest (drop (b + 1) bs)) (sym e)))

pub ruleset stepping = (pairs_second, pairs_first, pairs_less, pairs_more, pairs_equal)
