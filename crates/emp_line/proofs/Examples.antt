-- The worked index, and flags of one line that are changed.
use Rattle.std.proofs.Common.{◌≡◌, ◌≢◌, ℕ, zero, suc, ◌<◌, pos, negsuc, Bool, true, false, cond, [], ◌∷◌, length, get_or, arith, refl}
use Rattle.emp_line.specs.Pivot.{no_line}
use Rattle.emp_line.specs.Indexed.{HasFlags, HasPlace, IsFlagged, IsIndex, IsMarked, IsTable, KeepsOthers, flag, has_cell}
use Rattle.emp_line.specs.Place.{MarksCells, stands}
use Rattle.emp_line.specs.Example.{line, two, alike, told, ends, end_cells, full, ends_out, none, ends_in}

pub tells : IsIndex 2 told alike
tells = record { columns = refl; sizes = sizes; flags = flags }
  where
    sizes : (k : ℕ) → k < 2 → length (get_or told k []) ≡ 2
    sizes zero h = refl
    sizes (suc zero) h = refl
    sizes (suc (suc k)) h = absurd (omega arith)

    flags : (k i : ℕ) → k < 2 → i < 2 → flag told k i ≡ has_cell (get_or alike i no_line) k
    flags zero zero h b = refl
    flags zero (suc zero) h b = refl
    flags (suc zero) zero h b = refl
    flags (suc zero) (suc zero) h b = refl
    flags (suc (suc k)) i h b = absurd (omega arith)
    flags zero (suc (suc i)) h b = absurd (omega arith)
    flags (suc zero) (suc (suc i)) h b = absurd (omega arith)

pub by_lines : IsIndex 2 (two false true ∷ two false true ∷ []) alike → ⊥
by_lines x = let e = x.flags 0 1 (omega arith) (omega arith) in cc

pub too_few : IsIndex 2 (two false false ∷ two true false ∷ []) alike → ⊥
too_few x = let e = x.flags 1 1 (omega arith) (omega arith) in cc

pub too_many : IsIndex 2 (two true false ∷ two true true ∷ []) alike → ⊥
too_many x = let e = x.flags 0 0 (omega arith) (omega arith) in cc

pub too_short : IsIndex 2 (two false false ∷ []) (line (pos 0 ∷ pos 0 ∷ []) ∷ line (pos 0 ∷ pos 0 ∷ []) ∷ []) → ⊥
too_short x = let e = x.columns in omega arith

pub too_long : IsIndex 2 ((false ∷ false ∷ false ∷ []) ∷ two true true ∷ []) alike → ⊥
too_long x = let e = x.sizes 0 (omega arith) in omega arith

pub place : HasPlace 2 1 told
place = record { columns = refl; sizes = sizes }
  where
    sizes : (k : ℕ) → k < 2 → 1 < length (get_or told k [])
    sizes zero h = omega arith
    sizes (suc zero) h = omega arith
    sizes (suc (suc k)) h = absurd (omega arith)

pub no_place : HasPlace 2 2 told → ⊥
no_place x = let e = x.sizes 0 (omega arith) in omega arith

pub one_column : HasPlace 1 1 told → ⊥
one_column x = let e = x.columns in omega arith

pub flags : HasFlags (line (pos 0 ∷ pos 5 ∷ [])) 1 (two true false ∷ two false true ∷ [])
flags zero h = refl
flags (suc zero) h = refl
flags (suc (suc k)) h = absurd (omega arith)

pub flags_of_first : HasFlags (line (pos 0 ∷ pos 5 ∷ [])) 0 (two true false ∷ two false true ∷ []) → ⊥
flags_of_first x = let e = x 0 (omega arith) in cc

-- ---- a table
pub table : IsTable told (line (pos 0 ∷ pos 1 ∷ [])) (line (pos 3 ∷ pos 0 ∷ [])) alike
table = record { index = tells; spare = refl; lines = lines }
  where
    lines : (i : ℕ) → i < 2 → length (get_or alike i no_line).cells ≡ 2
    lines zero h = refl
    lines (suc zero) h = refl
    lines (suc (suc i)) h = absurd (omega arith)

pub wrong_index : IsTable (two false true ∷ two false true ∷ []) (line (pos 0 ∷ pos 1 ∷ [])) (line (pos 3 ∷ pos 0 ∷ [])) alike → ⊥
wrong_index x = by_lines x.index

pub short_turned : IsTable told (line (pos 1 ∷ [])) (line (pos 3 ∷ [])) alike → ⊥
short_turned x = let e = x.index.columns in omega arith

pub short_spare : IsTable told (line (pos 0 ∷ pos 1 ∷ [])) (line (pos 3 ∷ [])) alike → ⊥
short_spare x = let e = x.spare in omega arith

pub long_line : IsTable told (line (pos 0 ∷ pos 1 ∷ [])) (line (pos 3 ∷ pos 0 ∷ [])) (line (pos 0 ∷ pos 5 ∷ pos 0 ∷ []) ∷ line (pos 0 ∷ negsuc 0 ∷ []) ∷ []) → ⊥
long_line x = let e = x.lines 0 (omega arith) in omega arith

-- ---- flags of one line
-- three columns of two places each, where the first line's flags are the same
same_first : (a b c x y : Bool) (p q r : Bool) → KeepsOthers 1 (two a p ∷ two b x ∷ two c y ∷ []) (two a q ∷ two b r ∷ two c q ∷ [])
same_first a b c x y p q r = record { columns = refl; sizes = sizes; others = others }
  where
    sizes : (k : ℕ) → k < 3 → length (get_or (two a q ∷ two b r ∷ two c q ∷ []) k []) ≡ length (get_or (two a p ∷ two b x ∷ two c y ∷ []) k [])
    sizes zero h = refl
    sizes (suc zero) h = refl
    sizes (suc (suc zero)) h = refl
    sizes (suc (suc (suc k))) h = absurd (omega arith)

    others : (k i : ℕ) → i ≢ 1 → flag (two a q ∷ two b r ∷ two c q ∷ []) k i ≡ flag (two a p ∷ two b x ∷ two c y ∷ []) k i
    others zero zero n = refl
    others (suc zero) zero n = refl
    others (suc (suc zero)) zero n = refl
    others (suc (suc (suc k))) zero n = refl
    others k (suc zero) n = absurd (n refl)
    others zero (suc (suc i)) n = refl
    others (suc zero) (suc (suc i)) n = refl
    others (suc (suc zero)) (suc (suc i)) n = refl
    others (suc (suc (suc k))) (suc (suc i)) n = refl

pub keeps : KeepsOthers 1 full ends_out
keeps = same_first true true true true true true false true

pub keeps_second : KeepsOthers 0 full ends_out → ⊥
keeps_second x = let e = x.others 0 1 (λ q. omega arith) in cc

pub longer : KeepsOthers 1 full ((true ∷ true ∷ false ∷ []) ∷ two true true ∷ two true true ∷ []) → ⊥
longer x = let e = x.sizes 0 (omega arith) in omega arith

pub wider : KeepsOthers 1 full (two true true ∷ two true true ∷ two true true ∷ [] ∷ []) → ⊥
wider x = let e = x.columns in omega arith

pub takes_out : IsMarked ends 1 false full ends_out
takes_out = record { rest = keeps; here = here }
  where
    here : (k : ℕ) → k < 3 → flag ends_out k 1 ≡ cond (has_cell ends k) false (flag full k 1)
    here zero h = refl
    here (suc zero) h = refl
    here (suc (suc zero)) h = refl
    here (suc (suc (suc k))) h = absurd (omega arith)

pub puts_in : IsMarked ends 1 true none ends_in
puts_in = record { rest = same_first false false false false false false true false; here = here }
  where
    here : (k : ℕ) → k < 3 → flag ends_in k 1 ≡ cond (has_cell ends k) true (flag none k 1)
    here zero h = refl
    here (suc zero) h = refl
    here (suc (suc zero)) h = refl
    here (suc (suc (suc k))) h = absurd (omega arith)

pub all_out : IsMarked ends 1 false full (two true false ∷ two true false ∷ two true false ∷ []) → ⊥
all_out x = let e = x.here 1 (omega arith) in cc

pub none_out : IsMarked ends 1 false full full → ⊥
none_out x = let e = x.here 0 (omega arith) in cc

pub first_out : IsMarked ends 1 false full (two true false ∷ two true true ∷ two true true ∷ []) → ⊥
first_out x = let e = x.here 2 (omega arith) in cc

pub both_out : IsMarked ends 1 false full (two false false ∷ two true true ∷ two false false ∷ []) → ⊥
both_out x = let e = x.rest.others 0 0 (λ q. omega arith) in cc

pub cells_out : MarksCells end_cells 1 false full ends_out
cells_out = record { rest = keeps; here = here }
  where
    here : (k : ℕ) → k < 3 → flag ends_out k 1 ≡ cond (stands k end_cells) false (flag full k 1)
    here zero h = refl
    here (suc zero) h = refl
    here (suc (suc zero)) h = refl
    here (suc (suc (suc k))) h = absurd (omega arith)

pub cells_in : MarksCells end_cells 1 true none ends_in
cells_in = record { rest = puts_in.rest; here = here }
  where
    here : (k : ℕ) → k < 3 → flag ends_in k 1 ≡ cond (stands k end_cells) true (flag none k 1)
    here zero h = refl
    here (suc zero) h = refl
    here (suc (suc zero)) h = refl
    here (suc (suc (suc k))) h = absurd (omega arith)

pub all_cells : MarksCells end_cells 1 false full (two true false ∷ two true false ∷ two true false ∷ []) → ⊥
all_cells x = let e = x.here 1 (omega arith) in cc

pub no_cells : MarksCells end_cells 1 false full full → ⊥
no_cells x = let e = x.here 0 (omega arith) in cc

pub first_cell : MarksCells end_cells 1 false full (two true false ∷ two true true ∷ two true true ∷ []) → ⊥
first_cell x = let e = x.here 2 (omega arith) in cc

pub both_lines : MarksCells end_cells 1 false full (two false false ∷ two true true ∷ two false false ∷ []) → ⊥
both_lines x = let e = x.rest.others 0 0 (λ q. omega arith) in cc

pub flagged : IsFlagged ends 1 (two false false ∷ two false true ∷ two false true ∷ []) ends_in
flagged = record { rest = same_first false false false true true false true false; here = here }
  where
    here : (k : ℕ) → k < 3 → flag ends_in k 1 ≡ has_cell ends k
    here zero h = refl
    here (suc zero) h = refl
    here (suc (suc zero)) h = refl
    here (suc (suc (suc k))) h = absurd (omega arith)

pub left_set : IsFlagged ends 1 (two false false ∷ two false true ∷ two false true ∷ []) (two false true ∷ two false true ∷ two false true ∷ []) → ⊥
left_set x = let e = x.here 1 (omega arith) in cc

pub both_flagged : IsFlagged ends 1 full ends_in → ⊥
both_flagged x = let e = x.rest.others 0 0 (λ q. omega arith) in cc
