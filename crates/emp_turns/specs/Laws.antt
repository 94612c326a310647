-- The laws, as statements.
use Rattle.std.specs.Prelude.{◌≡◌, ◌↔◌, ℕ, suc, ◌^◌, ◌<◌, ◌≤◌, ℤ, pos, ◌*ℤ◌, ◌≤ℤ◌, ◌<ℤ◌, true, false, Some, None}
use Rattle.emp_turns.specs.Table.{Table, Holds, IsTable}
use Rattle.emp_turns.specs.Choice.{Mark, Way, Aim, toward, IsChosen, IsExchange, IsFeasible, Step, IsLevel, Path, SameColumns}
use Rattle.emp_turns.specs.Layout.{Layout, table_of, IsLayout, RowsHold, IsRelabelled, IsTurned, IsPivot, ColumnOpens, RowStops, IsChoice}
use Rattle.emp_turns.specs.Chooses.{Entry, first_column, nearest_row}

-- a turn of the loop keeps the table level, and does not take the aimed quantity past 0
abbrev pub StepsKeep : Type 0
StepsKeep = (n k : ℕ) (mark : ℕ → Mark) (aim : Aim) (t u : Table) → IsLevel n k mark aim t → Step n mark aim t u → IsLevel n k mark aim u × (u.is_row aim.row ≡ true → aim.stops ≡ true → (toward aim.way *ℤ u.constant aim.row) ≤ℤ pos 0)

-- an exchange whose leaving row has the value 0 keeps Required quantities at least 0
abbrev pub ZeroLeaves : Type 0
ZeroLeaves = (n : ℕ) (mark : ℕ → Mark) (t u : Table) (e l : ℕ) → IsTable n t → IsTable n u → IsExchange n t e l u → e < n → t.is_row e ≡ false → l < n → t.is_row l ≡ true → t.constant l ≡ pos 0 → IsFeasible n mark t → IsFeasible n mark u

-- no set of columns comes twice
abbrev pub NoCycle : Type 0
NoCycle = (n k : ℕ) (mark : ℕ → Mark) (aim : Aim) (table : ℕ → Table) (m : ℕ) → IsLevel n k mark aim (table 0) → ((i : ℕ) → i < m → Step n mark aim (table i) (table (suc i))) → (i j : ℕ) → i < j → j ≤ m → SameColumns n (table i) (table j) → ⊥

-- so there are fewer turns than sets of columns
abbrev pub EndsInTime : Type 0
EndsInTime = (n k m : ℕ) (mark : ℕ → Mark) (aim : Aim) (t : Table) → IsLevel n k mark aim t → Path n mark aim m t → m < 2 ^ k

-- a dictionary by places is a table; a pivot's numbers keep the solutions, pivots are exchanges, and a choice by places is one by labels
pub record LayoutsAre : Type 0 where
  pub table : (n : ℕ) (y : Layout) → IsLayout n y → IsTable n (table_of y)
  pub holds : (n : ℕ) (y : Layout) → IsLayout n y → (s : ℤ) (x : ℕ → ℤ) → Holds n (table_of y) s x ↔ RowsHold y s x
  pub numbers : (y z : Layout) (r j : ℕ) (f : ℤ) (own other common : ℕ → ℤ) → IsRelabelled y r j z → IsTurned y r j f own other common z → ((i : ℕ) → i < y.rows → pos 0 <ℤ y.denom i) → IsPivot y r j z
  pub pivot : (n : ℕ) (y z : Layout) (r j : ℕ) → IsLayout n y → IsPivot y r j z → IsLayout n z × IsExchange n (table_of y) (y.column_label j) (y.row_label r) (table_of z)
  pub choice : (n : ℕ) (mark : ℕ → Mark) (aim : Aim) (y : Layout) (k j : ℕ) (g : Way) (r : ℕ) → IsLayout n y → k < y.rows → y.row_label k ≡ aim.row → IsChoice mark aim y k j g r → IsChosen n mark aim (table_of y) (y.column_label j) g (y.row_label r)
  pub one_choice : (n : ℕ) (mark : ℕ → Mark) (aim : Aim) (y : Layout) (k : ℕ) → IsLayout n y → (j : ℕ) (g : Way) (r : ℕ) (h : ℕ) (o : Way) (i : ℕ) → IsChoice mark aim y k j g r → IsChoice mark aim y k h o i → (j ≡ h) × (g ≡ o) × (r ≡ i)

-- the functions of the places make the choice, and where they find nothing there is nothing
pub record ChoicesAre : Type 0 where
  pub made : (mark : ℕ → Mark) (aim : Aim) (y : Layout) (k : ℕ) (b : Entry) (r : ℕ) → first_column mark aim y k y.columns ≡ Some b → nearest_row mark aim y k b.place b.way y.rows ≡ Some r → IsChoice mark aim y k b.place b.way r
  pub stop : (mark : ℕ → Mark) (aim : Aim) (y : Layout) (k : ℕ) → first_column mark aim y k y.columns ≡ None → (j : ℕ) (g : Way) → ColumnOpens mark aim y k j g → ⊥
  pub ray : (mark : ℕ → Mark) (aim : Aim) (y : Layout) (k j : ℕ) (g : Way) → ColumnOpens mark aim y k j g → nearest_row mark aim y k j g y.rows ≡ None → (i : ℕ) → RowStops mark aim y k j g i → ⊥

-- a choice that is made and a pivot on it are a turn of the loop
abbrev pub TurnsAreSteps : Type 0
TurnsAreSteps = (n : ℕ) (mark : ℕ → Mark) (aim : Aim) (y z : Layout) (k : ℕ) (b : Entry) (r : ℕ) → IsLayout n y → k < y.rows → y.row_label k ≡ aim.row → (aim.stops ≡ true → (toward aim.way *ℤ y.constant k) <ℤ pos 0) → first_column mark aim y k y.columns ≡ Some b → nearest_row mark aim y k b.place b.way y.rows ≡ Some r → IsPivot y r b.place z → Step n mark aim (table_of y) (table_of z)
