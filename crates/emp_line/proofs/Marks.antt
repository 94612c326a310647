-- The flags of the index.
use Rattle.std.proofs.Common.{◌≡◌, ◌≢◌, ◌⊎◌, inl, inr, ℕ, zero, suc, ◌+◌, ◌<◌, ◌≤◌, ℤ, pos, negsuc, Bool, true, false, cond, ◌||◌, List, [], ◌∷◌, ◌++◌, length, get_or, set, drop, take, replicate, arith, refl, ap, sym, subst, ◌∙◌, append_assoc, length-set, get_or-set_same, get_or-set_other}
use Rattle.std.specs.Prelude.{nat_eq}
use Rattle.std.proofs.lemmas.Bool.{eqb-true, eq-eqb, cases_eq, ne_eqb}
use Rattle.std.proofs.lemmas.List.{drop_more, drop_all, append-nil, replicate_more, take_more, take_all}
use Rattle.emp_algebra.specs.Vector.{cell, is_zero}
use Rattle.emp_line.specs.declared.cells.Cell.{Cell}
use Rattle.emp_line.specs.Sparse.{no_cell, spread, IsSparse}
use Rattle.emp_line.specs.Indexed.{KeepsOthers, flag}
use Rattle.emp_line.specs.Place.{stands, MarksCells}
use Rattle.emp_line.proofs.Spread.{number_at, past, spread_more, sparse_past, step_end}

-- ---- lists built one value at a time
pub flags_more : (out : List Bool) (n : ℕ) → out ≡ replicate n false → out ++ false ∷ [] ≡ replicate (n + 1) false
flags_more out n e = ap (λ ls. ls ++ false ∷ []) e ∙ replicate_more n false

pub blank_more : (out : List (List Bool)) (x : List Bool) (n m : ℕ) → out ≡ replicate n (replicate m false) → x ≡ replicate m false → out ++ x ∷ [] ≡ replicate (n + 1) (replicate m false)
blank_more out x n m e f = ap (λ ls. ls ++ x ∷ []) e ∙ (ap (λ y. replicate n (replicate m false) ++ y ∷ []) f ∙ replicate_more n (replicate m false))

pub ruleset counting = (flags_more, blank_more)

pub copy_more : (out ls : List (List Bool)) (i : ℕ) (x l : List Bool) → out ++ drop i ls ≡ ls → i < length ls → x ≡ get_or ls i x → l ≡ x → (out ++ l ∷ []) ++ drop (i + 1) ls ≡ ls
copy_more out ls i x l e h k q = append_assoc out (l ∷ []) (drop (i + 1) ls) ∙ (ap (λ y. out ++ y ∷ drop (i + 1) ls) (q ∙ k) ∙ (ap (λ r. out ++ r) (sym (drop_more ls i x h)) ∙ e))

pub copy_all : (out ls : List (List Bool)) (i : ℕ) → out ++ drop i ls ≡ ls → length ls ≤ i → out ≡ ls
copy_all out ls i e h = sym (append-nil out) ∙ (ap (λ r. out ++ r) (sym (drop_all i ls h)) ∙ e)

pub ruleset copying = (copy_more, copy_all)

-- ---- one line's flags
keeps_all : (at : ℕ) (old : List (List Bool)) → KeepsOthers at old old
keeps_all at old = record { columns = refl; sizes = λ k h. refl; others = λ k i n. refl }

pub keeps_after : (at : ℕ) (old now new : List (List Bool)) → KeepsOthers at old now → KeepsOthers at now new → KeepsOthers at old new
keeps_after at old now new m n = record {
  columns = n.columns ∙ m.columns;
  sizes = λ k h. n.sizes k (let c = m.columns in omega arith) ∙ m.sizes k h;
  others = λ k i q. n.others k i q ∙ m.others k i q;
}

-- ---- one flag
record Flagged (k i : ℕ) (value : Bool) (old new : List (List Bool)) : Type 0 where
  pub rest : KeepsOthers i old new
  pub same : flag new k i ≡ value
  pub line : (h : ℕ) → h ≢ k → flag new h i ≡ flag old h i

flagged : (k i : ℕ) (value : Bool) (old : List (List Bool)) → k < length old → i < length (get_or old k []) → Flagged k i value old (set old k (set (get_or old k []) i value))
flagged k i value old h l = record {
  rest = record { columns = length-set old k (set (get_or old k []) i value); sizes = λ m b. sizes m (cases_eq m k); others = λ m j n. others m j n (cases_eq m k) };
  same = ap (λ r. get_or r i false) (get_or-set_same old k (set (get_or old k []) i value) [] h) ∙ get_or-set_same (get_or old k []) i value false l;
  line = λ m n. ap (λ r. get_or r i false) (get_or-set_other old k m (set (get_or old k []) i value) [] n);
}
  where
    sizes : (m : ℕ) → (m ≡ k) ⊎ (m ≢ k) → length (get_or (set old k (set (get_or old k []) i value)) m []) ≡ length (get_or old m [])
    sizes m (inl e) = ap (λ x. length (get_or (set old k (set (get_or old k []) i value)) x [])) e ∙ (ap length (get_or-set_same old k (set (get_or old k []) i value) [] h) ∙ (length-set (get_or old k []) i value ∙ ap (λ x. length (get_or old x [])) (sym e)))
    sizes m (inr n) = ap length (get_or-set_other old k m (set (get_or old k []) i value) [] n)

    others : (m j : ℕ) → j ≢ i → (m ≡ k) ⊎ (m ≢ k) → flag (set old k (set (get_or old k []) i value)) m j ≡ flag old m j
    others m j n (inl e) = ap (λ x. flag (set old k (set (get_or old k []) i value)) x j) e ∙ (ap (λ r. get_or r j false) (get_or-set_same old k (set (get_or old k []) i value) [] h) ∙ (get_or-set_other (get_or old k []) i j value false n ∙ ap (λ x. flag old x j) (sym e)))
    others m j n (inr e) = ap (λ r. get_or r j false) (get_or-set_other old k m (set (get_or old k []) i value) [] e)

-- ---- the flags of a line's cells, one cell at a time
stands_last : (k : ℕ) (cs : List Cell) (c : Cell) → stands k (cs ++ (c ∷ [])) ≡ stands k cs || nat_eq c.column k
stands_last k [] c = or_none (nat_eq c.column k)
  where
    or_none : (b : Bool) → (b || false) ≡ b
    or_none true = refl
    or_none false = refl
stands_last k (d ∷ cs) c = ap (λ b. nat_eq d.column k || b) (stands_last k cs c) ∙ or_assoc (nat_eq d.column k) (stands k cs) (nat_eq c.column k)
  where
    or_assoc : (a b c : Bool) → (a || (b || c)) ≡ (a || b) || c
    or_assoc true b c = refl
    or_assoc false b c = refl

pub marks_start : (cs : List Cell) (at : ℕ) (value : Bool) (old : List (List Bool)) → MarksCells (take 0 cs) at value old old
marks_start cs at value old = record { rest = keeps_all at old; here = λ k h. refl }

pub marks_next : (cs : List Cell) (at n : ℕ) (value : Bool) (old now new : List (List Bool)) → MarksCells (take n cs) at value old now → n < length cs → (get_or cs n no_cell).column < length old → at < length (get_or old (get_or cs n no_cell).column []) → new ≡ set now (get_or cs n no_cell).column (set (get_or now (get_or cs n no_cell).column []) at value) → MarksCells (take (n + 1) cs) at value old new
marks_next cs at n value old now new m h b p e =
    let j = (get_or cs n no_cell).column in
    let columns = m.rest.columns in
    let size = m.rest.sizes (get_or cs n no_cell).column b in
    let f : Flagged (get_or cs n no_cell).column at value now new = subst (Flagged j at value now) (sym e) (flagged j at value now (omega arith) (omega arith)) in
    record { rest = keeps_after at old now new m.rest f.rest; here = λ k l. here k l f (cases_eq k j) }
  where
    told : (k : ℕ) → stands k (take (n + 1) cs) ≡ stands k (take n cs) || nat_eq (get_or cs n no_cell).column k
    told k = ap (stands k) (take_more cs n no_cell h) ∙ stands_last k (take n cs) (get_or cs n no_cell)

    or_true : (b : Bool) → (b || true) ≡ true
    or_true true = refl
    or_true false = refl

    or_false : (b : Bool) → (b || false) ≡ b
    or_false true = refl
    or_false false = refl

    here : (k : ℕ) → k < length old → Flagged (get_or cs n no_cell).column at value now new → (k ≡ (get_or cs n no_cell).column) ⊎ (k ≢ (get_or cs n no_cell).column) → flag new k at ≡ cond (stands k (take (n + 1) cs)) value (flag old k at)
    here k l f (inl q) =
        ap (λ x. flag new x at) q ∙ (f.same ∙ sym (ap (λ b. cond b value (flag old k at)) (told k ∙ (ap (λ b. stands k (take n cs) || b) (eq-eqb (get_or cs n no_cell).column k (sym q)) ∙ or_true (stands k (take n cs))))))
    here k l f (inr q) =
        f.line k q ∙ (m.here k l ∙ sym (ap (λ b. cond b value (flag old k at)) (told k ∙ (ap (λ b. stands k (take n cs) || b) (ne_eqb (get_or cs n no_cell).column k (λ r. q (sym r))) ∙ or_false (stands k (take n cs))))))

pub marks_all : (cs : List Cell) (at n : ℕ) (value : Bool) (old now : List (List Bool)) → MarksCells (take n cs) at value old now → length cs ≤ n → MarksCells cs at value old now
marks_all cs at n value old now m h = subst (λ ls. MarksCells ls at value old now) (take_all n cs h) m

pub marks_column : (cs : List Cell) (at n : ℕ) (value : Bool) (old now : List (List Bool)) → MarksCells (take n cs) at value old now → n < length cs → ((i : ℕ) → i < length cs → (get_or cs i no_cell).column < length old) → (get_or cs n no_cell).column < length now
marks_column cs at n value old now m h b = let c = m.rest.columns in let d = b n h in omega arith

pub marks_place : (cs : List Cell) (at n : ℕ) (value : Bool) (old now : List (List Bool)) → MarksCells (take n cs) at value old now → n < length cs → ((i : ℕ) → i < length cs → (get_or cs i no_cell).column < length old) → ((k : ℕ) → k < length old → at < length (get_or old k [])) → at < length (get_or now (get_or cs n no_cell).column [])
marks_place cs at n value old now m h b p = let d = b n h in let s = m.rest.sizes (get_or cs n no_cell).column d in let q = p (get_or cs n no_cell).column d in omega arith

pub marks_step : (cs : List Cell) (at n : ℕ) (value : Bool) (old now new : List (List Bool)) → MarksCells (take n cs) at value old now → n < length cs → ((i : ℕ) → i < length cs → (get_or cs i no_cell).column < length old) → ((k : ℕ) → k < length old → at < length (get_or old k [])) → new ≡ set now (get_or cs n no_cell).column (set (get_or now (get_or cs n no_cell).column []) at value) → MarksCells (take (n + 1) cs) at value old new
marks_step cs at n value old now new m h b p e = marks_next cs at n value old now new m h (b n h) (p (get_or cs n no_cell).column (b n h)) e

pub ruleset marking = (marks_start, marks_step, marks_all, marks_column, marks_place)

-- ---- which columns have a cell
stands_below : (k at end : ℕ) (cs : List Cell) → IsSparse at end cs → k < at → stands k cs ≡ false
stands_below k at end [] s h = refl
stands_below k at end (c ∷ cs) s h = ap (λ b. b || stands k cs) (ne_eqb c.column k (λ q. omega (arith, s.0))) ∙ stands_below k (c.column + 1) end cs s.3 (omega (arith, s.0))

number_stands : (at end : ℕ) (cs : List Cell) → IsSparse at end cs → cond (is_zero (number_at at cs)) false true ≡ stands at cs
number_stands at end [] s = refl
number_stands at end (c ∷ cs) s = go (cases_eq c.column at)
  where
    nonzero : (z : ℤ) → z ≢ pos 0 → is_zero z ≡ false
    nonzero (pos zero) h = absurd (h refl)
    nonzero (pos (suc n)) h = refl
    nonzero (negsuc n) h = refl

    go : (c.column ≡ at) ⊎ (c.column ≢ at) → cond (is_zero (cond (nat_eq c.column at) c.number (pos 0))) false true ≡ nat_eq c.column at || stands at cs
    go (inl e) =
        ap (λ b. cond (is_zero (cond b c.number (pos 0))) false true) (eq-eqb c.column at e)
        ∙ (ap (λ b. cond b false true) (nonzero c.number s.2) ∙ sym (ap (λ b. b || stands at cs) (eq-eqb c.column at e)))
    go (inr n) =
        ap (λ b. cond (is_zero (cond b c.number (pos 0))) false true) (ne_eqb c.column at n)
        ∙ sym (ap (λ b. b || stands at cs) (ne_eqb c.column at n) ∙ stands_below at (c.column + 1) end cs s.3 (omega (arith, s.0)))

past_stands : (k at : ℕ) (cs : List Cell) → k ≢ at → stands k (past at cs) ≡ stands k cs
past_stands k at [] n = refl
past_stands k at (c ∷ cs) n = go (nat_eq c.column at) refl
  where
    go : (b : Bool) → nat_eq c.column at ≡ b → stands k (cond b cs (c ∷ cs)) ≡ nat_eq c.column k || stands k cs
    go true e = sym (ap (λ b. b || stands k cs) (ne_eqb c.column k (λ q. n (sym q ∙ eqb-true c.column at e))))
    go false e = refl

stands_from : (at n k : ℕ) (cs : List Cell) → IsSparse at (at + n) cs → k < n → cond (is_zero (cell (spread at n cs) k)) false true ≡ stands (at + k) cs
stands_from at zero k cs s h = absurd (omega arith)
stands_from at (suc n) zero cs s h =
    let e : at ≡ at + 0 = omega arith in
    ap (λ r. cond (is_zero (cell r 0)) false true) (spread_more at n cs) ∙ (number_stands at (at + suc n) cs s ∙ ap (λ x. stands x cs) e)
stands_from at (suc n) (suc k) cs s h =
    ap (λ r. cond (is_zero (cell r (suc k))) false true) (spread_more at n cs)
    ∙ (stands_from (at + 1) n k (past at cs) (subst (λ e. IsSparse (at + 1) e (past at cs)) (step_end at n) (sparse_past at (at + suc n) cs s)) (omega arith)
    ∙ (ap (λ x. stands x (past at cs)) (sym (step_end at k)) ∙ past_stands (at + suc k) at cs (omega arith)))

pub stands_is : (w k : ℕ) (cs : List Cell) → IsSparse 0 w cs → k < w → cond (is_zero (cell (spread 0 w cs) k)) false true ≡ stands k cs
stands_is w k cs s h =
    let z : w ≡ 0 + w = omega arith in
    let e : 0 + k ≡ k = omega arith in
    stands_from 0 w k cs (subst (λ m. IsSparse 0 m cs) z s) h ∙ ap (λ x. stands x cs) e
