-- What clauses say of a desk that fails where it is told to.
use Rattle.std.specs.Prelude.{◌≡◌, ◌⊎◌, ℕ, List, None, Result, Ok, Err}
use Rattle.emp_desk.specs.Desk.{Place, loads, Contents}
use Rattle.emp_desk.specs.Files.{Kept}
use Rattle.emp_desk.specs.Memory.{files_of, output_of, contents_of}
use Rattle.emp_desk.specs.Counts.{HasSameCounts, HasOneMoreAt}
use Rattle.emp_desk.specs.CallLog.{count_in, next_in, IsNextToFail}
use Rattle.emp_desk.specs.declared.memory_desk.MemoryDesk.{MemoryDesk}
use Rattle.emp_desk.specs.declared.desk.LoadFault.{LoadFault}
use Rattle.emp_desk.specs.declared.desk.LoadFault.TheVariants as load_fault
use Rattle.emp_desk.specs.declared.desk.StoreFault.{StoreFault}
use Rattle.emp_desk.specs.declared.desk.StoreFault.TheVariants as store_fault

-- the files that the desk keeps, by name
abbrev pub kept : MemoryDesk → Kept
kept desk = files_of desk.memory

-- all bytes said so far
abbrev pub spoken : MemoryDesk → List ℕ
spoken desk = output_of desk.memory

-- what the desk tells of its files and its output
abbrev pub told : MemoryDesk → Contents
told desk = contents_of desk.memory

-- the calls of load, store and say so far
abbrev pub calls_of : MemoryDesk → ℕ
calls_of desk = desk.log.calls

-- the number of the next call, where the first is 1 and the last number stays
abbrev pub next_call : MemoryDesk → ℕ
next_call desk = next_in desk.log

-- the numbers of the calls that are to fail
abbrev pub to_fail_of : MemoryDesk → List ℕ
to_fail_of desk = desk.log.to_fail.items

-- how many calls failed at the place
abbrev pub count_at : MemoryDesk → Place → ℕ
count_at desk = count_in desk.log

-- the next call is to fail
abbrev pub IsToFail : MemoryDesk → Type 0
IsToFail desk = IsNextToFail desk.log

-- a load of the name, as the next call, is to fail or names no file
abbrev pub FailsToLoad : List ℕ → MemoryDesk → Type 0
FailsToLoad name desk = IsToFail desk ⊎ (kept desk name ≡ None)

-- what a load of the name answers, unless there is no memory
abbrev pub LoadAnswers : {X : Type 0} → List ℕ → MemoryDesk → Result X LoadFault → Type 0
LoadAnswers name desk (Ok bytes) = ¬ FailsToLoad name desk
LoadAnswers name desk (Err load_fault.Failed) = FailsToLoad name desk
LoadAnswers name desk (Err load_fault.NoMemory) = Unit {0}

-- what a store or a say answers, unless there is no memory
abbrev pub StoreAnswers : {X : Type 0} → MemoryDesk → Result X StoreFault → Type 0
StoreAnswers desk (Ok x) = ¬ IsToFail desk
StoreAnswers desk (Err store_fault.Failed) = IsToFail desk
StoreAnswers desk (Err store_fault.NoMemory) = Unit {0}

-- how the counts change in a load that answers so
abbrev pub LoadFaultCounts : List ℕ → (Place → ℕ) → (Place → ℕ) → LoadFault → Type 0
LoadFaultCounts name before after load_fault.Failed = HasOneMoreAt (loads name) before after
LoadFaultCounts name before after load_fault.NoMemory = HasSameCounts before after

abbrev pub LoadCounts : {X : Type 0} → List ℕ → (Place → ℕ) → (Place → ℕ) → Result X LoadFault → Type 0
LoadCounts name before after (Ok bytes) = HasSameCounts before after
LoadCounts name before after (Err fault) = LoadFaultCounts name before after fault

-- how the counts change in a store or a say that answers so
abbrev pub StoreFaultCounts : Place → (Place → ℕ) → (Place → ℕ) → StoreFault → Type 0
StoreFaultCounts place before after store_fault.Failed = HasOneMoreAt place before after
StoreFaultCounts place before after store_fault.NoMemory = HasSameCounts before after

abbrev pub StoreCounts : {X : Type 0} → Place → (Place → ℕ) → (Place → ℕ) → Result X StoreFault → Type 0
StoreCounts place before after (Ok x) = HasSameCounts before after
StoreCounts place before after (Err fault) = StoreFaultCounts place before after fault
