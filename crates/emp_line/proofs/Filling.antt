-- Lists of cells made from others, item by item.
use Rattle.std.proofs.Common.{◌≡◌, ℕ, zero, suc, ◌+◌, ◌<◌, ◌≤◌, ℤ, pos, Bool, true, false, cond, ◌||◌, List, [], ◌∷◌, ◌++◌, map, length, get_or, drop, take, arith, refl, ap, sym, subst, ◌∙◌, append_assoc}
use Rattle.std.proofs.lemmas.List.{drop_more, drop_all, append-nil, length-append, take_more, take_all}
use Rattle.std.specs.List.{All}
use Rattle.std.proofs.lemmas.List.Elements.{All-head, All-tail}
use Rattle.emp_num.specs.Exact.{IsNarrow}
use Rattle.emp_line.specs.declared.cells.Cell.{Cell}
use Rattle.emp_line.specs.declared.pairs.Next.{Next}
use Rattle.emp_line.specs.Pivot.{Factors, step_wide}
use Rattle.emp_line.specs.Sparse.{Sparse, IsSparse, spread, no_cell, numbers, kept, pairs, pairs_wide, summed, sums}
use Rattle.emp_algebra.specs.Vector.{cell, is_zero}
use Rattle.emp_line.specs.Place.{IsNext}
use Rattle.emp_line.proofs.Exchange.{is_zero-true}
use Rattle.emp_line.proofs.Steps.{or_left, or_right}
use Rattle.emp_line.proofs.Spread.{length_sparse}
use Rattle.emp_line.proofs.Cellwise.{sparse_skip, sparse_push, spread_skip, spread_push}

-- ---- each cell changed
-- so far: the first k cells changed
pub record Mapped (g : Cell → Cell) (w k : ℕ) (from : List Cell) (now : Sparse) : Type 0 where
  pub width : now.width ≡ w
  pub items : now.items ++ map g (drop k from) ≡ map g from
  pub count : length now.items ≡ k

pub mapped_start : (g : Cell → Cell) (w : ℕ) (from : List Cell) (now : Sparse) → now ≡ record { width = w; items = [] } → Mapped g w 0 from now
mapped_start g w from now e = subst (Mapped g w 0 from) (sym e) (record { width = refl; items = refl; count = refl })

pub mapped_more : (g : Cell → Cell) (w k : ℕ) (from : List Cell) (now new : Sparse) (c : Cell) → Mapped g w k from now → k < length from → c ≡ g (get_or from k no_cell) → new ≡ record { width = now.width; items = now.items ++ (c ∷ []) } → Mapped g w (k + 1) from new
mapped_more g w k from now new c m h e f = subst (Mapped g w (k + 1) from) (sym f) (record {
  width = m.width;
  items = append_assoc now.items (c ∷ []) (map g (drop (k + 1) from)) ∙ (ap (λ x. now.items ++ (x ∷ map g (drop (k + 1) from))) e ∙ (ap (λ ls. now.items ++ map g ls) (sym (drop_more from k no_cell h)) ∙ m.items));
  count = length-append now.items (c ∷ []) ∙ (let n = m.count in omega arith);
})

sparse_eq : (s : Sparse) (w : ℕ) (cs : List Cell) → s.width ≡ w → s.items ≡ cs → s ≡ record { width = w; items = cs }
sparse_eq s w cs p q = λ i. record { width = p i; items = q i }

pub mapped_all : (g : Cell → Cell) (w k : ℕ) (from : List Cell) (now : Sparse) → Mapped g w k from now → length from ≤ k → now ≡ record { width = w; items = map g from }
mapped_all g w k from now m h = sparse_eq now w (map g from) m.width (sym (append-nil now.items) ∙ (ap (λ ls. now.items ++ map g ls) (sym (drop_all k from h)) ∙ m.items))

pub mapped_room : (g : Cell → Cell) (w k : ℕ) (from : List Cell) (now : Sparse) → Mapped g w k from now → k < length from → length from ≤ w → length now.items < now.width
mapped_room g w k from now m h r = let a = m.width in let b = m.count in omega arith

numbers_at : (P : ℤ → Type 0) (cs : List Cell) (k : ℕ) → All P (numbers cs) → k < length cs → P (get_or cs k no_cell).number
numbers_at P [] k a h = absurd (omega arith)
numbers_at P (c ∷ cs) zero a h = All-head P c.number (numbers cs) a
numbers_at P (c ∷ cs) (suc k) a h = numbers_at P cs k (All-tail P c.number (numbers cs) a) (omega arith)

pub narrow_at : (cs : List Cell) (k : ℕ) → All IsNarrow (numbers cs) → k < length cs → IsNarrow (get_or cs k no_cell).number
narrow_at cs k a h = numbers_at IsNarrow cs k a h

pub ruleset mapping = (mapped_start, mapped_more, mapped_all, mapped_room, narrow_at)

-- ---- the tests of a sum
pub record Tested (f : Factors) (j a b : ℕ) (as' bs : List Cell) : Type 0 where
  pub own : a ≤ length as'
  pub other : b ≤ length bs
  pub rest : pairs_wide f (pairs j (drop a as') (drop b bs)) ≡ pairs_wide f (pairs j as' bs)

pub tested_start : (f : Factors) (j : ℕ) (as' bs : List Cell) → Tested f j 0 0 as' bs
tested_start f j as' bs = record { own = omega arith; other = omega arith; rest = refl }

pub tested_here : (f : Factors) (j a b : ℕ) (as' bs : List Cell) (n : Next) → Tested f j a b as' bs → IsNext j as' bs a b n → step_wide f n.pair.own n.pair.other ≡ true → true ≡ pairs_wide f (pairs j as' bs)
tested_here f j a b as' bs n t i e = sym (ap (λ x. x || pairs_wide f (pairs j (drop n.own_at as') (drop n.other_at bs))) e) ∙ (sym (ap (pairs_wide f) i.pair) ∙ t.rest)

pub tested_next : (f : Factors) (j a b : ℕ) (as' bs : List Cell) (n : Next) → Tested f j a b as' bs → IsNext j as' bs a b n → step_wide f n.pair.own n.pair.other ≡ false → Tested f j n.own_at n.other_at as' bs
tested_next f j a b as' bs n t i e = record {
  own = i.own;
  other = i.other;
  rest = sym (ap (pairs_wide f) i.pair ∙ ap (λ x. x || pairs_wide f (pairs j (drop n.own_at as') (drop n.other_at bs))) e) ∙ t.rest;
}

pairs_end : (j a b : ℕ) (as' bs : List Cell) → length as' ≤ a → length bs ≤ b → pairs j (drop a as') (drop b bs) ≡ []
pairs_end j a b as' bs h k = ap (λ ls. pairs j ls (drop b bs)) (drop_all a as' h) ∙ ap (pairs j []) (drop_all b bs k)

pub tested_all : (f : Factors) (j a b : ℕ) (as' bs : List Cell) → Tested f j a b as' bs → length as' ≤ a → length bs ≤ b → false ≡ pairs_wide f (pairs j as' bs)
tested_all f j a b as' bs t h k = sym (ap (pairs_wide f) (pairs_end j a b as' bs h k)) ∙ t.rest

pub ruleset testing = (tested_start, tested_here, tested_next, tested_all)

-- ---- the sum
pub record Adding (f : Factors) (j w a b : ℕ) (as' bs : List Cell) (now : Sparse) : Type 0 where
  pub width : now.width ≡ w
  pub own : a ≤ length as'
  pub other : b ≤ length bs
  pub narrow : pairs_wide f (pairs j (drop a as') (drop b bs)) ≡ false
  pub items : now.items ++ sums f (pairs j (drop a as') (drop b bs)) ≡ sums f (pairs j as' bs)
  pub room : length now.items + length (pairs j (drop a as') (drop b bs)) ≤ w

pub adding_start : (f : Factors) (j w : ℕ) (as' bs : List Cell) (now : Sparse) → now ≡ record { width = w; items = [] } → length (pairs j as' bs) ≤ w → pairs_wide f (pairs j as' bs) ≡ false → Adding f j w 0 0 as' bs now
adding_start f j w as' bs now e h n = subst (Adding f j w 0 0 as' bs) (sym e) (record { width = refl; own = omega arith; other = omega arith; narrow = n; items = refl; room = omega arith })

pub adding_room : (f : Factors) (j w a b : ℕ) (as' bs : List Cell) (now : Sparse) (n : Next) → Adding f j w a b as' bs now → IsNext j as' bs a b n → length now.items < now.width
adding_room f j w a b as' bs now n t i = let e = ap length i.pair in let r = t.room in let q = t.width in omega arith

pub adding_narrow : (f : Factors) (j w a b : ℕ) (as' bs : List Cell) (now : Sparse) (n : Next) → Adding f j w a b as' bs now → IsNext j as' bs a b n → step_wide f n.pair.own n.pair.other ≡ false
adding_narrow f j w a b as' bs now n t i = or_left (step_wide f n.pair.own n.pair.other) (pairs_wide f (pairs j (drop n.own_at as') (drop n.other_at bs))) (sym (ap (pairs_wide f) i.pair) ∙ t.narrow)

kept_split : (c : Cell) (cs : List Cell) → kept c [] ++ cs ≡ kept c cs
kept_split c cs = go (is_zero c.number)
  where
    go : (b : Bool) → cond b [] (c ∷ []) ++ cs ≡ cond b cs (c ∷ cs)
    go true = refl
    go false = refl

kept_length : (c : Cell) → length (kept c []) ≤ 1
kept_length c = go (is_zero c.number)
  where
    go : (b : Bool) → length (cond b [] (c ∷ [])) ≤ 1
    go true = omega arith
    go false = omega arith

pub adding_next : (f : Factors) (j w a b : ℕ) (as' bs : List Cell) (now new : Sparse) (n : Next) (c : Cell) → Adding f j w a b as' bs now → IsNext j as' bs a b n → c ≡ summed f n.pair → new ≡ record { width = now.width; items = now.items ++ kept c [] } → Adding f j w n.own_at n.other_at as' bs new
adding_next f j w a b as' bs now new n c t i e g = subst (Adding f j w n.own_at n.other_at as' bs) (sym g) (record {
  width = t.width;
  own = i.own;
  other = i.other;
  narrow = or_right (step_wide f n.pair.own n.pair.other) (pairs_wide f (pairs j (drop n.own_at as') (drop n.other_at bs))) (sym (ap (pairs_wide f) i.pair) ∙ t.narrow);
  items = append_assoc now.items (kept c []) (sums f (pairs j (drop n.own_at as') (drop n.other_at bs)))
      ∙ (ap (λ ls. now.items ++ ls) (kept_split c (sums f (pairs j (drop n.own_at as') (drop n.other_at bs))) ∙ ap (λ d. kept d (sums f (pairs j (drop n.own_at as') (drop n.other_at bs)))) e ∙ sym (ap (sums f) i.pair)) ∙ t.items);
  room = let m = length-append now.items (kept c []) in let k = kept_length c in let p = ap length i.pair in let r = t.room in omega arith;
})

pub adding_all : (f : Factors) (j w a b : ℕ) (as' bs : List Cell) (now : Sparse) → Adding f j w a b as' bs now → length as' ≤ a → length bs ≤ b → now ≡ record { width = w; items = sums f (pairs j as' bs) }
adding_all f j w a b as' bs now t h k = sparse_eq now w (sums f (pairs j as' bs)) t.width (sym (append-nil now.items) ∙ (ap (λ ps. now.items ++ sums f ps) (sym (pairs_end j a b as' bs h k)) ∙ t.items))

pub ruleset summing = (adding_start, adding_room, adding_narrow, adding_next, adding_all)

-- ---- from a whole list
pub record Spreading (k : ℕ) (w : ℕ) (from : List ℤ) (now : Sparse) : Type 0 where
  pub width : now.width ≡ w
  pub sparse : IsSparse 0 k now.items
  pub cells : spread 0 k now.items ≡ take k from

pub spreading_start : (w : ℕ) (from : List ℤ) (now : Sparse) → now ≡ record { width = w; items = [] } → Spreading 0 w from now
spreading_start w from now e = subst (Spreading 0 w from) (sym e) (record { width = refl; sparse = tt; cells = refl })

kept_spread : (k : ℕ) (z : ℤ) (cs : List Cell) → IsSparse 0 k cs → IsSparse 0 (k + 1) (cs ++ kept (record { column = k; number = z }) []) × (spread 0 (k + 1) (cs ++ kept (record { column = k; number = z }) []) ≡ spread 0 k cs ++ (z ∷ []))
kept_spread k z cs s = go (is_zero z) refl
  where
    go : (b : Bool) → is_zero z ≡ b → IsSparse 0 (k + 1) (cs ++ cond (is_zero z) [] (record { column = k; number = z } ∷ [])) × (spread 0 (k + 1) (cs ++ cond (is_zero z) [] (record { column = k; number = z } ∷ [])) ≡ spread 0 k cs ++ (z ∷ []))
    go true e =
        let q : cs ++ cond (is_zero z) [] (record { column = k; number = z } ∷ []) ≡ cs = ap (λ b. cs ++ cond b [] (record { column = k; number = z } ∷ [])) e ∙ append-nil cs in
        (subst (IsSparse 0 (k + 1)) (sym q) (sparse_skip k cs s), ap (spread 0 (k + 1)) q ∙ (spread_skip k cs s ∙ ap (λ y. spread 0 k cs ++ (y ∷ [])) (sym (is_zero-true z e))))
    go false e =
        let q : cs ++ cond (is_zero z) [] (record { column = k; number = z } ∷ []) ≡ cs ++ (record { column = k; number = z } ∷ []) = ap (λ b. cs ++ cond b [] (record { column = k; number = z } ∷ [])) e in
        (subst (IsSparse 0 (k + 1)) (sym q) (sparse_push k z cs (λ n. (let t = ap is_zero n in cc)) s), ap (spread 0 (k + 1)) q ∙ spread_push k z cs s)

pub spreading_next : (k w : ℕ) (from : List ℤ) (now new : Sparse) (c : Cell) → Spreading k w from now → k < length from → c ≡ record { column = k; number = cell from k } → new ≡ record { width = now.width; items = now.items ++ kept c [] } → Spreading (k + 1) w from new
spreading_next k w from now new c t h e f =
    let x = kept_spread k (cell from k) now.items t.sparse in
    subst (Spreading (k + 1) w from) (sym (f ∙ ap (λ d. record { width = now.width; items = now.items ++ kept d [] }) e)) (record {
      width = t.width;
      sparse = x.0;
      cells = x.1 ∙ (ap (λ r. r ++ (cell from k ∷ [])) t.cells ∙ sym (take_more from k (pos 0) h));
    })

pub spreading_room : (k w : ℕ) (from : List ℤ) (now : Sparse) → Spreading k w from now → k < length from → w ≡ length from → length now.items < now.width
spreading_room k w from now t h e =
    let q = t.width in
    let z : k ≡ 0 + k = omega arith in
    let l = length_sparse 0 k now.items (subst (λ m. IsSparse 0 m now.items) z t.sparse) in
    omega arith

pub spreading_all : (k w : ℕ) (from : List ℤ) (now : Sparse) → Spreading k w from now → length from ≤ k → k ≤ length from → w ≡ length from → IsSparse 0 w now.items × (spread 0 w now.items ≡ from)
spreading_all k w from now t h l e =
    let q : k ≡ w = omega arith in
    (subst (λ m. IsSparse 0 m now.items) q t.sparse, ap (λ m. spread 0 m now.items) (sym q) ∙ (t.cells ∙ take_all k from h))

pub ruleset spreading = (spreading_start, spreading_next, spreading_room, spreading_all)
