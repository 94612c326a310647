-- Lines of a dictionary and their exchange, in whole numbers without bound.
-- A line says `denom * v = constant + sum of cells * w`, where v is the line's own quantity and the w are those of the columns.
use Rattle.std.specs.Prelude.{ℕ, zero, suc, ◌+◌, ◌^◌, ℤ, pos, negsuc, neg_ℤ, ◌+ℤ◌, ◌*ℤ◌, Bool, false, cond, ◌||◌, nat_le, List, [], ◌∷◌, Option, Some, None, slice_set, slice_index_or, unsigned_abs, int_div, nat_eq}
use Rattle.emp_algebra.specs.Vector.{cell, scale, add_rows, is_zero, quotients}
use Rattle.emp_num.specs.Gcd.{gcd_of, content_of}
use Rattle.emp_line.specs.declared.line.Line.{Line}

abbrev pub sign : ℤ → ℤ
sign (pos zero) = pos 0
sign (pos (suc n)) = pos 1
sign (negsuc n) = negsuc 0

-- absolute value 2^126 or more
abbrev pub is_wide : ℤ → Bool
is_wide z = nat_le (2 ^ 126) (unsigned_abs z)

-- the line divided by what all its numbers have in common
abbrev pub line_content : Line → ℤ
line_content l = pos (content_of (l.denom ∷ l.constant ∷ l.cells))

abbrev pub reduced : Line → Line
reduced l = record { denom = int_div l.denom (line_content l); constant = int_div l.constant (line_content l); cells = quotients l.cells (line_content l) }

-- the line of the pivot, solved for the quantity of column j
abbrev pub turned_by : ℤ → Line → ℕ → Line
turned_by s l j = record {
  denom = pos (unsigned_abs (cell l.cells j));
  constant = neg_ℤ s *ℤ l.constant;
  cells = slice_set (scale (neg_ℤ s) l.cells) j (s *ℤ l.denom);
}

abbrev pub turned : Line → ℕ → Line
turned l j = turned_by (sign (cell l.cells j)) l j

-- what the other line and the turned one are multiplied with, so that column j's quantity goes out
pub record Factors : Type 0 where
  pub own : ℤ
  pub other : ℤ

abbrev pub factors : ℤ → ℤ → Factors
factors head a = record { own = int_div head (pos (gcd_of (unsigned_abs head) (unsigned_abs a))); other = int_div a (pos (gcd_of (unsigned_abs head) (unsigned_abs a))) }

-- own times the line, with its cell in column j struck out, plus other times the turned line
abbrev pub combined : Factors → Line → Line → ℕ → Line
combined f l t j = record {
  denom = f.own *ℤ l.denom;
  constant = f.own *ℤ l.constant +ℤ f.other *ℤ t.constant;
  cells = add_rows (scale f.own (slice_set l.cells j (pos 0))) (scale f.other t.cells);
}

-- one of the two products or their sum is wide
abbrev pub step_wide : Factors → ℤ → ℤ → Bool
step_wide f a b = is_wide (f.own *ℤ a) || is_wide (f.other *ℤ b) || is_wide (f.own *ℤ a +ℤ f.other *ℤ b)

abbrev pub steps_wide : Factors → List ℤ → List ℤ → Bool
steps_wide f [] bs = false
steps_wide f (a ∷ as') [] = false
steps_wide f (a ∷ as') (b ∷ bs) = step_wide f a b || steps_wide f as' bs

abbrev pub combination_wide : Factors → Line → Line → ℕ → Bool
combination_wide f l t j = is_wide (f.own *ℤ l.denom) || step_wide f l.constant t.constant || steps_wide f (slice_set l.cells j (pos 0)) t.cells

-- another line after the pivot, and nothing where a number formed is wide; a line without column j's quantity stays
abbrev pub moved : Line → ℕ → Line → Option Line
moved t j l = cond (is_zero (cell l.cells j)) (Some l) (cond (combination_wide (factors t.denom (cell l.cells j)) l t j) None (Some (reduced (combined (factors t.denom (cell l.cells j)) l t j))))

abbrev pub both_there : Option Line → Option (List Line) → Option (List Line)
both_there (Some l) (Some ls) = Some (l ∷ ls)
both_there (Some l) None = None
both_there None ls = None

-- all lines after the pivot of line r, which is turned into t; `at` is the number of the first one given
abbrev pub pivoted_from : ℕ → Line → ℕ → ℕ → List Line → Option (List Line)
pivoted_from at t r j [] = Some []
pivoted_from at t r j (l ∷ ls) = both_there (cond (nat_eq at r) (Some t) (moved t j l)) (pivoted_from (at + 1) t r j ls)

abbrev pub no_line : Line
no_line = record { denom = pos 1; constant = pos 0; cells = [] }

-- the lines after the pivot on line r and column j, and nothing where a number formed is wide
abbrev pub pivoted : List Line → ℕ → ℕ → Option (List Line)
pivoted lines r j = pivoted_from 0 (turned (slice_index_or lines r no_line) j) r j lines
