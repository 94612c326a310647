-- The point of a market: profits and amounts over 36, since an amount is in sixths of a unit.
use Rattle.std.proofs.Common.{◌≡◌, ℕ, ◌+◌, ◌-◌, ◌<◌, ℤ, pos, ◌-ℤ◌, ◌*ℤ◌, ◌<ℤ◌, cond, ltb, List, length, map, arith, ap, ◌∙◌}
use Rattle.std.specs.List.{range_with_len}
use Rattle.std.proofs.lemmas.Int.{ints}
use Rattle.std.proofs.lemmas.Bool.{lt-ltb, le-ltb}
use Rattle.std.proofs.lemmas.List.FromFn.{length-map-range_with_len, get_or-map-range_with_len}
use Rattle.emp_algebra.specs.Vector.{cell}
use Rattle.emp_num.specs.Point.{Point}
use Rattle.emp_make.specs.Markets.{quantity}
use Rattle.emp_duopoly.proofs.Firms.{margin, amount, others}

-- the profit in parts of 36
abbrev pub earning : ℕ → ℕ → ℕ → ℤ
earning seed firms k = (pos 6 *ℤ margin seed k -ℤ others seed firms k -ℤ amount seed firms k) *ℤ amount seed firms k

abbrev pub number_at : ℕ → ℕ → ℕ → ℤ
number_at seed firms v = cond (ltb v firms) (earning seed firms v) (pos 6 *ℤ amount seed firms (v - firms))

pub numbers : ℕ → ℕ → List ℤ
numbers seed firms = map (number_at seed firms) (range_with_len 0 (firms + firms))

pub positive : pos 0 <ℤ pos 36
positive = omega (arith, ints)

abbrev pub point : ℕ → ℕ → Point
point seed firms = record { den = pos 36; nums = numbers seed firms; positive = positive }

pub length-numbers : (seed firms : ℕ) → length (numbers seed firms) ≡ firms + firms
unfolding numbers
length-numbers seed firms = length-map-range_with_len (number_at seed firms) 0 (firms + firms)

number_is : (seed firms v : ℕ) → v < firms + firms → cell (numbers seed firms) v ≡ number_at seed firms v
unfolding numbers
number_is seed firms v h = get_or-map-range_with_len (number_at seed firms) 0 (firms + firms) v v (pos 0) h (omega arith)

pub profit_is : (seed firms k : ℕ) → k < firms → cell (numbers seed firms) k ≡ earning seed firms k
profit_is seed firms k h = number_is seed firms k (omega arith) ∙ ap (λ b. cond b (earning seed firms k) (pos 6 *ℤ amount seed firms (k - firms))) (lt-ltb k firms h)

pub quantity_is : (seed firms k : ℕ) → k < firms → cell (numbers seed firms) (quantity firms k) ≡ pos 6 *ℤ amount seed firms k
quantity_is seed firms k h =
    number_is seed firms (firms + k) (omega arith)
    ∙ (ap (λ b. cond b (earning seed firms (firms + k)) (pos 6 *ℤ amount seed firms (firms + k - firms))) (le-ltb (firms + k) firms (omega arith))
    ∙ ap (λ n. pos 6 *ℤ amount seed firms n) (let e : firms + k - firms ≡ k = omega arith in e))
