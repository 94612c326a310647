-- The laws: no set of columns comes twice, and so the turns are fewer than the sets of columns.
use Rattle.std.proofs.Common.{◌≡◌, ◌≢◌, ℕ, zero, suc, ◌+◌, ◌-◌, ◌^◌, ◌<◌, ◌≤◌, ◌⊎◌, inl, inr, pos, ◌*ℤ◌, ◌≤ℤ◌, ◌<ℤ◌, true, arith, refl, sym, ap, ◌∙◌, subst}
use Rattle.std.proofs.lemmas.Int.{ints}
use Rattle.std.proofs.lemmas.Bool.{cases_lt, both_ways}
use Rattle.emp_turns.specs.Table.{Table, IsTable}
use Rattle.emp_turns.specs.Choice.{Mark, Required, Up, Aim, toward, IsChosen, IsExchange, IsFeasible, Step, IsLevel, Path, SameColumns}
use Rattle.emp_turns.proofs.Kept.{feasible_after, short_after}
use Rattle.emp_turns.proofs.Runs.{Run}
use Rattle.emp_turns.proofs.Cycles.{comes_not_back}
use Rattle.emp_turns.proofs.Counting.{number, number_below, same_bits, distinct_below}

-- ---- a turn of the loop
module _ (n k : ℕ) (mark : ℕ → Mark) (aim : Aim) (t u : Table) (level : IsLevel n k mark aim t) (s : Step n mark aim t u) where
  short : aim.stops ≡ true → (toward aim.way *ℤ t.constant aim.row) ≤ℤ pos 0
  short h = let b = s.open_aim.behind h in omega (arith, ints)

  rest_after : (w : ℕ) → k ≤ w → w < n → u.is_row w ≡ true
  rest_after w h b =
      let r = level.rest w h b in
      let in_row : w ≢ s.entering = λ q. both_ways (t.is_row w) (ap t.is_row q ∙ s.chosen.opens.column) r.0 in
      s.exchange.others w b in_row (stays s.chosen.stops.why) ∙ r.0
    where
      stays : ((mark s.leaving ≡ Required) × ((toward s.way *ℤ t.cell s.leaving s.entering) <ℤ pos 0)) ⊎ ((s.leaving ≡ aim.row) × (aim.stops ≡ true)) → w ≢ s.leaving
      stays (inl q) = λ e. (level.rest w h b).1 (ap mark e ∙ q.0)
      stays (inr q) = λ e. both_ways aim.stops ((level.rest w h b).2 (e ∙ q.0)) q.1

  pub level_after : IsLevel n k mark aim u
  level_after = record {
    aimed = level.aimed;
    sound = s.sound;
    feasible = feasible_after n mark aim t u s.entering s.leaving s.way level.sound s.sound s.chosen s.exchange level.feasible short;
    rest = λ w h b. (rest_after w h b, (level.rest w h b).1, (level.rest w h b).2);
  }

  pub behind_after : u.is_row aim.row ≡ true → aim.stops ≡ true → (toward aim.way *ℤ u.constant aim.row) ≤ℤ pos 0
  behind_after r = short_after n mark aim t u s.entering s.leaving s.way level.sound s.sound s.chosen s.exchange level.feasible short level.aimed s.open_aim.row r

pub steps_keep : (n k : ℕ) (mark : ℕ → Mark) (aim : Aim) (t u : Table) → IsLevel n k mark aim t → Step n mark aim t u → IsLevel n k mark aim u × (u.is_row aim.row ≡ true → aim.stops ≡ true → (toward aim.way *ℤ u.constant aim.row) ≤ℤ pos 0)
steps_keep n k mark aim t u level s = (level_after n k mark aim t u level s, behind_after n k mark aim t u level s)

-- ---- the tables of a path, and what enters and leaves
abbrev pub consed : {A : Type 0} → A → (ℕ → A) → ℕ → A
consed a f zero = a
consed a f (suc i) = f i

module _ (n : ℕ) (mark : ℕ → Mark) (aim : Aim) where
  abbrev pub table_at : ℕ → (m : ℕ) → (t : Table) → Path n mark aim m t → Table
  table_at zero m t p = t
  table_at (suc i) zero t p = t
  table_at (suc i) (suc m) t p = table_at i m p.0 p.2

  pub run_of : (k m : ℕ) (t : Table) → IsLevel n k mark aim t → (p : Path n mark aim m t) → Run n mark aim (λ i. table_at i m t p) m
  run_of k zero t level p = record {
    aimed = level.aimed;
    entering = λ i. 0;
    way = λ i. Up;
    leaving = λ i. 0;
    tables = λ i h. first i h;
    feasible = λ i h. absurd (omega arith);
    open_aim = λ i h. absurd (omega arith);
    chosen = λ i h. absurd (omega arith);
    exchanges = λ i h. absurd (omega arith);
  }
    where
      first : (i : ℕ) → i ≤ 0 → IsTable n (table_at i zero t p)
      first zero h = level.sound
      first (suc i) h = absurd (omega arith)
  run_of k (suc m) t level p = go (run_of k m p.0 (level_after n k mark aim t p.0 level p.1) p.2)
    where
      go : Run n mark aim (λ i. table_at i m p.0 p.2) m → Run n mark aim (λ i. table_at i (suc m) t p) (suc m)
      go r = record {
        aimed = level.aimed;
        entering = consed p.1.entering r.entering;
        way = consed p.1.way r.way;
        leaving = consed p.1.leaving r.leaving;
        tables = tables;
        feasible = feasible;
        open_aim = open_aim;
        chosen = chosen;
        exchanges = exchanges;
      }
        where
          tables : (i : ℕ) → i ≤ suc m → IsTable n (table_at i (suc m) t p)
          tables zero h = level.sound
          tables (suc i) h = r.tables i (omega arith)

          feasible : (i : ℕ) → i < suc m → IsFeasible n mark (table_at i (suc m) t p)
          feasible zero h = level.feasible
          feasible (suc i) h = r.feasible i (omega arith)

          open_aim : (i : ℕ) → i < suc m → (table_at i (suc m) t p).is_row aim.row ≡ true
          open_aim zero h = p.1.open_aim.row
          open_aim (suc i) h = r.open_aim i (omega arith)

          chosen : (i : ℕ) → i < suc m → IsChosen n mark aim (table_at i (suc m) t p) (consed p.1.entering r.entering i) (consed p.1.way r.way i) (consed p.1.leaving r.leaving i)
          chosen zero h = p.1.chosen
          chosen (suc i) h = r.chosen i (omega arith)

          exchanges : (i : ℕ) → i < suc m → IsExchange n (table_at i (suc m) t p) (consed p.1.entering r.entering i) (consed p.1.leaving r.leaving i) (table_at (suc i) (suc m) t p)
          exchanges zero h = p.1.exchange
          exchanges (suc i) h = r.exchanges i (omega arith)

-- the part of a run from table i on
from_table : (n : ℕ) (mark : ℕ → Mark) (aim : Aim) (table : ℕ → Table) (m : ℕ) → Run n mark aim table m → (i j : ℕ) → i + j ≤ m → Run n mark aim (λ a. table (i + a)) j
from_table n mark aim table m run i j k = record {
  aimed = run.aimed;
  entering = λ a. run.entering (i + a);
  way = λ a. run.way (i + a);
  leaving = λ a. run.leaving (i + a);
  tables = λ a l. run.tables (i + a) (omega arith);
  feasible = λ a l. run.feasible (i + a) (omega arith);
  open_aim = λ a l. run.open_aim (i + a) (omega arith);
  chosen = λ a l. run.chosen (i + a) (omega arith);
  exchanges = λ a l. let e : suc (i + a) ≡ i + suc a = omega arith in subst (λ b. IsExchange n (table (i + a)) (run.entering (i + a)) (run.leaving (i + a)) (table b)) e (run.exchanges (i + a) (omega arith));
}

run_no_cycle : (n : ℕ) (mark : ℕ → Mark) (aim : Aim) (table : ℕ → Table) (m : ℕ) → Run n mark aim table m → (i j : ℕ) → i < j → j ≤ m → SameColumns n (table i) (table j) → ⊥
run_no_cycle n mark aim table m run i j l k same =
    let first : i ≡ i + 0 = omega arith in
    let last : j ≡ i + (j - i) = omega arith in
    comes_not_back (record {
      run = from_table n mark aim table m run i (j - i) (omega arith);
      back = subst (λ a. SameColumns n (table a) (table (i + (j - i)))) first (subst (λ b. SameColumns n (table i) (table b)) last same);
      some = omega arith;
    })

-- ---- the tables of turns as a path
path_from : (n : ℕ) (mark : ℕ → Mark) (aim : Aim) (m : ℕ) (table : ℕ → Table) → ((i : ℕ) → i < m → Step n mark aim (table i) (table (suc i))) → Path n mark aim m (table 0)
path_from n mark aim zero table s = tt
path_from n mark aim (suc m) table s = (table 1, s 0 (omega arith), path_from n mark aim m (λ i. table (suc i)) (λ i h. s (suc i) (omega arith)))

path_is : (n : ℕ) (mark : ℕ → Mark) (aim : Aim) (m : ℕ) (table : ℕ → Table) (s : (i : ℕ) → i < m → Step n mark aim (table i) (table (suc i))) (i : ℕ) → i ≤ m → table_at n mark aim i m (table 0) (path_from n mark aim m table s) ≡ table i
unfolding path_from
path_is n mark aim m table s zero h = refl
path_is n mark aim zero table s (suc i) h = absurd (omega arith)
path_is n mark aim (suc m) table s (suc i) h = path_is n mark aim m (λ i. table (suc i)) (λ i h. s (suc i) (omega arith)) i (omega arith)

pub no_cycle : (n k : ℕ) (mark : ℕ → Mark) (aim : Aim) (table : ℕ → Table) (m : ℕ) → IsLevel n k mark aim (table 0) → ((i : ℕ) → i < m → Step n mark aim (table i) (table (suc i))) → (i j : ℕ) → i < j → j ≤ m → SameColumns n (table i) (table j) → ⊥
no_cycle n k mark aim table m level s i j l h same =
    let p : Path n mark aim m (table 0) = path_from n mark aim m table s in
    let r : Run n mark aim (λ a. table_at n mark aim a m (table 0) p) m = run_of n mark aim k m (table 0) level p in
    run_no_cycle n mark aim (λ a. table_at n mark aim a m (table 0) p) m r i j l h
    (subst (λ t. SameColumns n t (table_at n mark aim j m (table 0) p)) (sym (path_is n mark aim m table s i (omega arith))) (subst (λ t. SameColumns n (table i) t) (sym (path_is n mark aim m table s j h)) same))

-- ---- the count
rest_along : (n k : ℕ) (mark : ℕ → Mark) (aim : Aim) (m : ℕ) (t : Table) → IsLevel n k mark aim t → (p : Path n mark aim m t) → (i : ℕ) → i ≤ m → (w : ℕ) → k ≤ w → w < n → (table_at n mark aim i m t p).is_row w ≡ true
rest_along n k mark aim m t level p zero h w b c = (level.rest w b c).0
rest_along n k mark aim zero t level p (suc i) h w b c = (level.rest w b c).0
rest_along n k mark aim (suc m) t level p (suc i) h w b c = rest_along n k mark aim m p.0 (level_after n k mark aim t p.0 level p.1) p.2 i (omega arith) w b c

module _ (n k m : ℕ) (mark : ℕ → Mark) (aim : Aim) (t : Table) (level : IsLevel n k mark aim t) (p : Path n mark aim m t) where
  abbrev pub after : ℕ → Table
  after i = table_at n mark aim i m t p

  -- tables with equal numbers have equal columns
  same_columns : (i j : ℕ) → i ≤ m → j ≤ m → number k (after i).is_row ≡ number k (after j).is_row → SameColumns n (after i) (after j)
  same_columns i j hi hj e w l = go (cases_lt w k)
    where
      go : (w < k) ⊎ (k ≤ w) → (after i).is_row w ≡ (after j).is_row w
      go (inl h) = same_bits k (after i).is_row (after j).is_row e w h
      go (inr h) = rest_along n k mark aim m t level p i hi w h l ∙ sym (rest_along n k mark aim m t level p j hj w h l)

  once : (i j : ℕ) → i < suc m → j < suc m → number k (after i).is_row ≡ number k (after j).is_row → i ≡ j
  once i j hi hj e = go (cases_lt i j) (cases_lt j i)
    where
      go : (i < j) ⊎ (j ≤ i) → (j < i) ⊎ (i ≤ j) → i ≡ j
      go (inl l) q = absurd (run_no_cycle n mark aim (λ a. after a) m (run_of n mark aim k m t level p) i j l (omega arith) (same_columns i j (omega arith) (omega arith) e))
      go (inr l) (inl q) = absurd (run_no_cycle n mark aim (λ a. after a) m (run_of n mark aim k m t level p) j i q (omega arith) (same_columns j i (omega arith) (omega arith) (sym e)))
      go (inr l) (inr q) = omega arith

  few : m < 2 ^ k
  few = distinct_below (2 ^ k) (suc m) (λ i. number k (after i).is_row) (λ i l. number_below k (after i).is_row) once

pub ends_in_time : (n k m : ℕ) (mark : ℕ → Mark) (aim : Aim) (t : Table) → IsLevel n k mark aim t → Path n mark aim m t → m < 2 ^ k
ends_in_time n k m mark aim t level p = few n k m mark aim t level p
