-- The choice of a column and a row by least index, and a run of such exchanges.
use Rattle.std.specs.Prelude.{◌≡◌, ◌≢◌, ℕ, zero, suc, ◌*◌, ◌<◌, ◌≤◌, ℤ, pos, negsuc, ◌*ℤ◌, ◌≤ℤ◌, ◌<ℤ◌, Bool, true, false, ◌⊎◌, ◌↔◌, unsigned_abs}
use Rattle.emp_turns.specs.Table.{Table, Holds, IsTable}

-- a base variable is free; the others are quantities
pub data Mark : Type 0 where
  Free : Mark
  Unasked : Mark
  Required : Mark
  Fixed : Mark

pub data Way : Type 0 where
  Up : Way
  Down : Way

abbrev pub toward : Way → ℤ
toward Up = pos 1
toward Down = negsuc 0

abbrev pub MayMove : Mark → Way → Type 0
MayMove Free g = Unit {0}
MayMove Unasked g = ⊥
MayMove Required Up = Unit {0}
MayMove Required Down = ⊥
MayMove Fixed g = ⊥

-- the row to be moved and the way, and whether its own value 0 stops it, as it does for a quantity and not for an objective
pub record Aim : Type 0 where
  pub row : ℕ
  pub way : Way
  pub stops : Bool

-- column e may move in the way g, and the aimed row then moves the right way
pub record Opens (n : ℕ) (mark : ℕ → Mark) (aim : Aim) (t : Table) (e : ℕ) (g : Way) : Type 0 where
  pub below : e < n
  pub column : t.is_row e ≡ false
  pub moves : MayMove (mark e) g
  pub helps : pos 0 <ℤ (toward aim.way *ℤ (toward g *ℤ t.cell aim.row e))

-- row v is that of a Required quantity and falls as column e moves, or it is the aimed quantity's own
pub record Stops (n : ℕ) (mark : ℕ → Mark) (aim : Aim) (t : Table) (e : ℕ) (g : Way) (v : ℕ) : Type 0 where
  pub below : v < n
  pub row : t.is_row v ≡ true
  pub why : ((mark v ≡ Required) × ((toward g *ℤ t.cell v e) <ℤ pos 0)) ⊎ ((v ≡ aim.row) × (aim.stops ≡ true))

-- the ratio of row v is |constant| over |cell|; two are compared crosswise
abbrev pub ratio_by : Table → ℕ → ℕ → ℕ → ℕ
ratio_by t e v u = unsigned_abs (t.constant v) * unsigned_abs (t.cell u e)

-- column e of least index enters, and of the rows with the least ratio row l of least index leaves
pub record IsChosen (n : ℕ) (mark : ℕ → Mark) (aim : Aim) (t : Table) (e : ℕ) (g : Way) (l : ℕ) : Type 0 where
  pub opens : Opens n mark aim t e g
  pub first : (w : ℕ) (h : Way) → Opens n mark aim t w h → e ≤ w
  pub stops : Stops n mark aim t e g l
  pub nearest : (v : ℕ) → Stops n mark aim t e g v → ratio_by t e l v ≤ ratio_by t e v l
  pub tie : (v : ℕ) → Stops n mark aim t e g v → ratio_by t e l v ≡ ratio_by t e v l → l ≤ v

-- u is t with column e and row l exchanged: the same solutions in other columns
pub record IsExchange (n : ℕ) (t : Table) (e l : ℕ) (u : Table) : Type 0 where
  pub entered : u.is_row e ≡ true
  pub left : u.is_row l ≡ false
  pub others : (w : ℕ) → w < n → w ≢ e → w ≢ l → u.is_row w ≡ t.is_row w
  pub same : (s : ℤ) (x : ℕ → ℤ) → Holds n t s x ↔ Holds n u s x

-- rows of Required quantities are at least 0 where all columns are 0
abbrev pub IsFeasible : ℕ → (ℕ → Mark) → Table → Type 0
IsFeasible n mark t = (v : ℕ) → v < n → t.is_row v ≡ true → mark v ≡ Required → pos 0 ≤ℤ t.constant v

-- while the loop runs: the aimed label is a row, and the value of a quantity has not come to 0
pub record IsOpen (aim : Aim) (t : Table) : Type 0 where
  pub row : t.is_row aim.row ≡ true
  pub behind : aim.stops ≡ true → (toward aim.way *ℤ t.constant aim.row) <ℤ pos 0

-- one turn of the loop
pub record Step (n : ℕ) (mark : ℕ → Mark) (aim : Aim) (t u : Table) : Type 0 where
  pub entering : ℕ
  pub way : Way
  pub leaving : ℕ
  pub open_aim : IsOpen aim t
  pub chosen : IsChosen n mark aim t entering way leaving
  pub exchange : IsExchange n t entering leaving u
  pub sound : IsTable n u

-- what is so of each table of the loop. The labels from k on are rows that never leave, as that of an objective
pub record IsLevel (n k : ℕ) (mark : ℕ → Mark) (aim : Aim) (t : Table) : Type 0 where
  pub aimed : aim.row < n
  pub sound : IsTable n t
  pub feasible : IsFeasible n mark t
  pub rest : (w : ℕ) → k ≤ w → w < n → (t.is_row w ≡ true) × (mark w ≢ Required) × (w ≡ aim.row → aim.stops ≡ false)

-- m turns of the loop from table t
abbrev pub Path : ℕ → (ℕ → Mark) → Aim → ℕ → Table → Type 0
Path n mark aim zero t = Unit {0}
Path n mark aim (suc m) t = (u : Table) × Step n mark aim t u × Path n mark aim m u

abbrev pub SameColumns : ℕ → Table → Table → Type 0
SameColumns n t u = (w : ℕ) → w < n → t.is_row w ≡ u.is_row w
