-- What clauses say of a log of calls.
use Rattle.std.specs.Prelude.{ℕ, ◌+◌, ◌-◌, ◌^◌, min, Bool, true, false, Contains, count_by, string_bytes}
use Rattle.std.specs.Str.{bytes_eq}
use Rattle.emp_desk.specs.Desk.{Place, loads, stores, output}
use Rattle.emp_desk.specs.declared.call_log.CallLog.{CallLog}
use Rattle.emp_desk.specs.declared.call_log.Fault.{Fault}
use Rattle.emp_desk.specs.declared.call_log.Fault.TheVariants.{Load, Store, Say}

-- the number of the next call, where the first is 1 and the last number stays
abbrev pub next_in : CallLog → ℕ
next_in log = min (log.calls + 1) (2 ^ 64 - 1)

-- the next call is to fail
abbrev pub IsNextToFail : CallLog → Type 0
IsNextToFail log = Contains log.to_fail.items (next_in log)

-- the entry is of this place
abbrev pub is_at : Place → Fault → Bool
is_at (loads name) (Load other) = bytes_eq name (string_bytes other)
is_at (loads name) (Store other) = false
is_at (loads name) Say = false
is_at (stores name) (Load other) = false
is_at (stores name) (Store other) = bytes_eq name (string_bytes other)
is_at (stores name) Say = false
is_at output (Load other) = false
is_at output (Store other) = false
is_at output Say = true

-- how many calls failed at the place
abbrev pub count_in : CallLog → Place → ℕ
count_in log place = count_by (is_at place) log.failed.items
