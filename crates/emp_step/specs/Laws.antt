-- What the steps keep and give, as statements.
use Rattle.std.specs.Prelude.{◌≡◌, ◌≢◌, ◌↔◌, ℕ, ◌+◌, ◌^◌, ◌<◌, ◌≤◌, ℤ, length}
use Rattle.emp_dict.specs.declared.label.Label.{Label}
use Rattle.emp_dict.specs.declared.label.Mark.TheVariants.{Unasked, Required, Fixed}
use Rattle.emp_dict.specs.Dictionary.{Dictionary, IsSound, RowsTrue, mark_at}
use Rattle.emp_step.specs.Steps.{spent, Stepped, mark_by, raised, fixed, bested}
use Rattle.emp_step.specs.Levels.{IsLevel}

-- k is the number of a quantity
abbrev pub IsNumber : Dictionary → ℕ → Type 0
IsNumber d k = (0 < k) × (k ≤ length d.marks)

abbrev pub HasObjective : Dictionary → Type 0
HasObjective d = length d.marks < length d.rows

-- ---- every outcome and every fault leaves a level dictionary
abbrev pub LeavesLevel : Stepped → Type 0
LeavesLevel s = IsSound s.dictionary × IsLevel s.dictionary

pub record StepsLeaveLevel : Type 0 where
  pub raise : (n k : ℕ) (d : Dictionary) → IsSound d → IsLevel d → IsNumber d k → mark_at d k ≡ Unasked → LeavesLevel (raised n k d)
  pub fix : (n k : ℕ) (d : Dictionary) → IsSound d → IsLevel d → IsNumber d k → mark_at d k ≢ Fixed → LeavesLevel (fixed n k d)
  pub best : (n : ℕ) (d : Dictionary) → IsSound d → IsLevel d → HasObjective d → LeavesLevel (bested n d)

-- ---- only quantity k gets another mark, and only where the step holds
pub record StepsMark : Type 0 where
  pub raise : (n k : ℕ) (d : Dictionary) → (raised n k d).dictionary.marks ≡ (mark_by (raised n k d).end k Required d).marks
  pub fix : (n k : ℕ) (d : Dictionary) → (fixed n k d).dictionary.marks ≡ (mark_by (fixed n k d).end k Fixed d).marks
  pub best : (n : ℕ) (d : Dictionary) → (bested n d).dictionary.marks ≡ d.marks

-- ---- the dictionary after a step has the solutions of the one before it, and as many rows and columns
pub record Keeps (d : Dictionary) (s : Stepped) : Type 0 where
  pub rows : length s.dictionary.rows ≡ length d.rows
  pub columns : length s.dictionary.columns ≡ length d.columns
  pub solutions : (c : ℤ) (f : Label → ℤ) → RowsTrue d c f ↔ RowsTrue s.dictionary c f

pub record StepsKeep : Type 0 where
  pub raise : (n k : ℕ) (d : Dictionary) → IsSound d → IsLevel d → Keeps d (raised n k d)
  pub fix : (n k : ℕ) (d : Dictionary) → IsSound d → IsLevel d → Keeps d (fixed n k d)
  pub best : (n : ℕ) (d : Dictionary) → IsSound d → IsLevel d → HasObjective d → Keeps d (bested n d)

-- ---- how many units a step takes: no more than there are sets of columns, so with that many it is not spent
abbrev pub column_sets : Dictionary → ℕ
column_sets d = 2 ^ (length d.columns + length d.marks)

pub record TakesFew (n : ℕ) (d : Dictionary) (s : Stepped) : Type 0 where
  pub left : s.left ≤ n
  pub few : n ≤ s.left + column_sets d
  pub ends : column_sets d ≤ n → s.end ≢ spent

pub record StepsTakeFew : Type 0 where
  pub raise : (n k : ℕ) (d : Dictionary) → IsSound d → IsLevel d → TakesFew n d (raised n k d)
  pub fix : (n k : ℕ) (d : Dictionary) → IsSound d → IsLevel d → TakesFew n d (fixed n k d)
  pub best : (n : ℕ) (d : Dictionary) → IsSound d → IsLevel d → HasObjective d → TakesFew n d (bested n d)
