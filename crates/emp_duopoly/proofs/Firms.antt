-- The firms of a market: what they earn, and their amounts in balance, in sixths of a unit.
use Rattle.std.proofs.Common.{◌≡◌, ◌≢◌, ◌⊎◌, inl, inr, ℕ, ◌+◌, ◌*◌, ◌/◌, ◌%◌, ◌<◌, ◌≤◌, ℤ, pos, ◌+ℤ◌, ◌-ℤ◌, ◌≤ℤ◌, Bool, true, false, cond, eqb, ltb, arith, refl, sym, ap, ap₂, subst, ◌∙◌}
use Rattle.std.proofs.lemmas.Int.{ints}
use Rattle.std.proofs.lemmas.Bool.{ltb-true, eqb-true, eqb-false, ne_eqb, eq-eqb}
use Rattle.emp_make.specs.Markets.{state, demand, cost, cap, first_of_market, has_rival}
use Rattle.emp_duopoly.proofs.Balance.{IsAnswer, Balance, balance, Answer, answer}

-- ---- what a first unit of the market earns for the firm
abbrev pub margin : ℕ → ℕ → ℤ
margin seed k = pos (demand seed k) -ℤ pos (cost seed k)

pub record Ranges (seed k : ℕ) : Type 0 where
  pub demand_low : 20 ≤ demand seed k
  pub demand_high : demand seed k < 40
  pub cost_low : 1 ≤ cost seed k
  pub cost_high : cost seed k < 10
  pub cap_low : 4 ≤ cap seed k
  pub cap_high : cap seed k < 20

pub ranges : (seed k : ℕ) → Ranges seed k
ranges seed k = record { demand_low = omega arith; demand_high = omega arith; cost_low = omega arith; cost_high = omega arith; cap_low = omega arith; cap_high = omega arith }

margin_large : (d c : ℕ) → 20 ≤ d → c < 10 → pos 11 ≤ℤ (pos d -ℤ pos c)
margin_large d c h k = omega (arith, ints)

margins_near : (d e c f : ℕ) → d ≡ e → 1 ≤ c → f < 10 → (pos d -ℤ pos c) ≤ℤ ((pos e -ℤ pos f) +ℤ pos 8)
margins_near d e c f same h k = omega (arith, ints)

not_below : (n : ℕ) → pos 0 ≤ℤ pos n
not_below n = omega (arith, ints)

margin_above : (d c : ℕ) → 20 ≤ d → c < 10 → pos 0 ≤ℤ (pos d -ℤ pos c)
margin_above d c h k = omega (arith, ints)

-- ---- the firms of market j are 2 j and 2 j + 1
first_half : (j : ℕ) → 2 * j / 2 ≡ j
first_half j = omega arith

second_half : (j : ℕ) → (2 * j + 1) / 2 ≡ j
second_half j = omega arith

same_demand : (seed j : ℕ) → demand seed (2 * j) ≡ demand seed (2 * j + 1)
same_demand seed j = ap (λ h. 20 + state seed (5 * h + 1) % 20) (first_half j ∙ sym (second_half j))

pub market : (seed j : ℕ) → Balance (margin seed (2 * j)) (pos (cap seed (2 * j))) (margin seed (2 * j + 1)) (pos (cap seed (2 * j + 1)))
market seed j =
    let f = ranges seed (2 * j) in
    let s = ranges seed (2 * j + 1) in
    balance (margin seed (2 * j)) (margin seed (2 * j + 1)) (pos (cap seed (2 * j))) (pos (cap seed (2 * j + 1))) (not_below _) (not_below _)
    (margin_large _ _ f.demand_low f.cost_high)
    (margin_large _ _ s.demand_low s.cost_high)
    (margins_near _ _ _ _ (same_demand seed j) f.cost_low s.cost_high)
    (margins_near _ _ _ _ (sym (same_demand seed j)) s.cost_low f.cost_high)

-- the answer to no rival
pub alone : (seed k : ℕ) → Answer (margin seed k) (pos (cap seed k)) (pos 0)
alone seed k = let r = ranges seed k in answer (margin seed k) (pos (cap seed k)) (pos 0) (not_below _) (margin_above _ _ r.demand_low r.cost_high)

-- ---- amounts
abbrev pub is_first : ℕ → Bool
is_first k = eqb (k % 2) 0

-- the amount of the firm
abbrev pub amount : ℕ → ℕ → ℕ → ℤ
amount seed firms k = cond (has_rival firms k) (cond (is_first k) (market seed (k / 2)).first (market seed (k / 2)).second) (alone seed k).amount

-- that of its rival, and 0 where it has none
abbrev pub others : ℕ → ℕ → ℕ → ℤ
others seed firms k = cond (has_rival firms k) (cond (is_first k) (market seed (k / 2)).second (market seed (k / 2)).first) (pos 0)

first_is : (k : ℕ) → is_first k ≡ true → 2 * (k / 2) ≡ k
first_is k e = let h : k % 2 ≡ 0 = eqb-true (k % 2) 0 e in omega arith

second_is : (k : ℕ) → is_first k ≡ false → 2 * (k / 2) + 1 ≡ k
second_is k e = let h : k % 2 ≢ 0 = eqb-false (k % 2) 0 e in omega arith

pub is_answer : (seed firms k : ℕ) → IsAnswer (margin seed k) (pos (cap seed k)) (others seed firms k) (amount seed firms k)
is_answer seed firms k = go (has_rival firms k) (is_first k) (first_is k) (second_is k)
  where
    go : (b c : Bool) → (c ≡ true → 2 * (k / 2) ≡ k) → (c ≡ false → 2 * (k / 2) + 1 ≡ k) → IsAnswer (margin seed k) (pos (cap seed k)) (cond b (cond c (market seed (k / 2)).second (market seed (k / 2)).first) (pos 0)) (cond b (cond c (market seed (k / 2)).first (market seed (k / 2)).second) (alone seed k).amount)
    go true true f g = subst (λ n. IsAnswer (margin seed n) (pos (cap seed n)) (market seed (k / 2)).second (market seed (k / 2)).first) (f refl) (market seed (k / 2)).first_answers
    go true false f g = subst (λ n. IsAnswer (margin seed n) (pos (cap seed n)) (market seed (k / 2)).first (market seed (k / 2)).second) (g refl) (market seed (k / 2)).second_answers
    go false c f g = (alone seed k).answers

pub others_alone : (seed firms k : ℕ) → has_rival firms k ≡ false → others seed firms k ≡ pos 0
others_alone seed firms k e = ap (λ b. cond b (cond (is_first k) (market seed (k / 2)).second (market seed (k / 2)).first) (pos 0)) e

-- ---- the rival
others_with : (seed firms k : ℕ) (c : Bool) → has_rival firms k ≡ true → is_first k ≡ c → others seed firms k ≡ cond c (market seed (k / 2)).second (market seed (k / 2)).first
others_with seed firms k c h e = ap₂ (λ b c. cond b (cond c (market seed (k / 2)).second (market seed (k / 2)).first) (pos 0)) h e

amount_with : (seed firms j k : ℕ) (c : Bool) → k / 2 ≡ j → ltb (2 * j + 1) firms ≡ true → is_first k ≡ c → amount seed firms k ≡ cond c (market seed j).first (market seed j).second
amount_with seed firms j k c half h e =
    subst (λ j. ltb (2 * j + 1) firms ≡ true → amount seed firms k ≡ cond c (market seed j).first (market seed j).second) half (λ h. ap₂ (λ b c. cond b (cond c (market seed (k / 2)).first (market seed (k / 2)).second) (alone seed k).amount) h e) h

even_is_first : (j : ℕ) → is_first (2 * j) ≡ true
even_is_first j = eq-eqb (2 * j % 2) 0 (omega arith)

odd_is_second : (j : ℕ) → is_first (2 * j + 1) ≡ false
odd_is_second j = let odd : (2 * j + 1) % 2 ≢ 0 = omega arith in ne_eqb ((2 * j + 1) % 2) 0 odd

pub record Rival (seed firms k : ℕ) : Type 0 where
  pub other : ℕ
  pub within : other < firms
  pub apart : other ≢ k
  pub amount_is : amount seed firms other ≡ others seed firms k
  pub places : ((first_of_market k ≡ k) × (first_of_market k + 1 ≡ other)) ⊎ ((first_of_market k ≡ other) × (first_of_market k + 1 ≡ k))

pub rival : (seed firms k : ℕ) → has_rival firms k ≡ true → Rival seed firms k
rival seed firms k h = go (is_first k) refl
  where
    go : (c : Bool) → is_first k ≡ c → Rival seed firms k
    go true e = record {
      other = 2 * (k / 2) + 1;
      within = ltb-true _ _ h;
      apart = let f = first_is k e in omega arith;
      amount_is = amount_with seed firms (k / 2) (2 * (k / 2) + 1) false (second_half (k / 2)) h (odd_is_second (k / 2)) ∙ sym (others_with seed firms k true h e);
      places = inl (first_is k e, refl);
    }
    go false e = record {
      other = 2 * (k / 2);
      within = let l : 2 * (k / 2) + 1 < firms = ltb-true _ _ h in omega arith;
      apart = let f = second_is k e in omega arith;
      amount_is = amount_with seed firms (k / 2) (2 * (k / 2)) true (first_half (k / 2)) h (even_is_first (k / 2)) ∙ sym (others_with seed firms k false h e);
      places = inr (refl, second_is k e);
    }
