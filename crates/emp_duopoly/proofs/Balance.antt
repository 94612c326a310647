-- Two firms in balance. Amounts are in sixths of a unit.
use Rattle.std.proofs.Common.{◌⊎◌, inl, inr, ℤ, pos, ◌+ℤ◌, ◌-ℤ◌, ◌*ℤ◌, ◌≤ℤ◌, ◌<ℤ◌, arith}
use Rattle.std.proofs.lemmas.Int.{ints}
use Rattle.emp_algebra.proofs.Order.{le_or_lt}

-- six times what one more unit earns: a is what a first unit of the market earns, o the others' amount, x the own amount
abbrev pub slope : ℤ → ℤ → ℤ → ℤ
slope a o x = pos 6 *ℤ a -ℤ o -ℤ pos 2 *ℤ x

-- x is the best answer to o up to m units: more earns less, or is above m, and less earns less, or is below 0
pub record IsAnswer (a m o x : ℤ) : Type 0 where
  pub low : pos 0 ≤ℤ x
  pub high : x ≤ℤ (pos 6 *ℤ m)
  pub not_more : x <ℤ (pos 6 *ℤ m) → slope a o x ≤ℤ pos 0
  pub not_less : pos 0 <ℤ x → pos 0 ≤ℤ slope a o x

pub record Balance (a m b n : ℤ) : Type 0 where
  pub first : ℤ
  pub second : ℤ
  pub first_answers : IsAnswer a m second first
  pub second_answers : IsAnswer b n first second

-- ---- the best answer to z units
pub record Answer (a m z : ℤ) : Type 0 where
  pub amount : ℤ
  pub within : (amount +ℤ pos 3 *ℤ z) ≤ℤ (pos 3 *ℤ a)
  pub answers : IsAnswer a m (pos 6 *ℤ z) amount

pub answer : (a m z : ℤ) → pos 0 ≤ℤ m → z ≤ℤ a → Answer a m z
answer a m z up below = go (le_or_lt (pos 3 *ℤ (a -ℤ z)) (pos 6 *ℤ m))
  where
    go : ((pos 3 *ℤ (a -ℤ z)) ≤ℤ (pos 6 *ℤ m)) ⊎ ((pos 6 *ℤ m) <ℤ (pos 3 *ℤ (a -ℤ z))) → Answer a m z
    go (inl h) = record {
      amount = pos 3 *ℤ (a -ℤ z);
      within = omega (arith, ints);
      answers = record { low = omega (arith, ints); high = h; not_more = λ l. omega (arith, ints); not_less = λ l. omega (arith, ints) };
    }
    go (inr h) = record {
      amount = pos 6 *ℤ m;
      within = omega (arith, ints);
      answers = record { low = omega (arith, ints); high = omega (arith, ints); not_more = λ l. absurd (omega (arith, ints)); not_less = λ l. omega (arith, ints) };
    }

-- ---- two firms
-- the first at its cap, where its amount without caps is above it
capped : (a b m n : ℤ) → pos 0 ≤ℤ m → pos 0 ≤ℤ n → m ≤ℤ b → (pos 3 *ℤ m +ℤ b) <ℤ (pos 2 *ℤ a) → Balance a m b n
capped a b m n up_m up_n below above =
    let s = answer b n m up_n below in
    record {
      first = pos 6 *ℤ m;
      second = s.amount;
      first_answers = record { low = omega (arith, ints); high = omega (arith, ints); not_more = λ l. absurd (omega (arith, ints)); not_less = λ l. omega (arith, ints, s.within) };
      second_answers = s.answers;
    }

swapped : (a b m n : ℤ) → Balance b n a m → Balance a m b n
swapped a b m n s = record { first = s.second; second = s.first; first_answers = s.second_answers; second_answers = s.first_answers }

-- both earn at least 11 by a first unit and nearly the same, so that neither is driven out
pub balance : (a b m n : ℤ) → pos 0 ≤ℤ m → pos 0 ≤ℤ n → pos 11 ≤ℤ a → pos 11 ≤ℤ b → a ≤ℤ (b +ℤ pos 8) → b ≤ℤ (a +ℤ pos 8) → Balance a m b n
balance a b m n up_m up_n large_a large_b near_a near_b = go (le_or_lt (pos 2 *ℤ a) (pos 3 *ℤ m +ℤ b)) (le_or_lt (pos 2 *ℤ b) (pos 3 *ℤ n +ℤ a))
  where
    go : ((pos 2 *ℤ a) ≤ℤ (pos 3 *ℤ m +ℤ b)) ⊎ ((pos 3 *ℤ m +ℤ b) <ℤ (pos 2 *ℤ a)) → ((pos 2 *ℤ b) ≤ℤ (pos 3 *ℤ n +ℤ a)) ⊎ ((pos 3 *ℤ n +ℤ a) <ℤ (pos 2 *ℤ b)) → Balance a m b n
    go (inr h) k = capped a b m n up_m up_n (omega (arith, ints)) h
    go (inl h) (inr k) = swapped a b m n (capped b a n m up_n up_m (omega (arith, ints)) k)
    go (inl h) (inl k) = record {
      first = pos 4 *ℤ a -ℤ pos 2 *ℤ b;
      second = pos 4 *ℤ b -ℤ pos 2 *ℤ a;
      first_answers = record { low = omega (arith, ints); high = omega (arith, ints); not_more = λ l. omega (arith, ints); not_less = λ l. omega (arith, ints) };
      second_answers = record { low = omega (arith, ints); high = omega (arith, ints); not_more = λ l. omega (arith, ints); not_less = λ l. omega (arith, ints) };
    }
