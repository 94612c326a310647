-- What stores and says leave, call by call.
use Rattle.std.specs.Prelude.{◌≡◌, ◌⊎◌, ℕ, List, string_bytes, Option}
use Rattle.emp_desk.specs.Desk.{Place, output, Contents, Told, Says, SaysPrefix, Rose}
use Rattle.emp_command.specs.declared.delivery.Stored.{Stored}
use Rattle.emp_command.specs.Course.{Outcome}

abbrev pub stored_of : Stored → List ℕ × List ℕ
stored_of s = (string_bytes s.name, s.bytes.items)

abbrev pub outcome_of : ℕ → List (List ℕ × List ℕ) → List ℕ → Outcome
outcome_of status files text = record { status = status; stores = files; says = text }

-- the text was said whole with this status, or the say failed, or it found no memory
abbrev pub SayEnds : ℕ → List ℕ → (Place → ℕ) → (Place → ℕ) → Option Contents → Option Contents → ℕ → Type 0
SayEnds status text f0 f1 t0 t1 end =
    ((end ≡ status) × Told (Says text) t0 t1) ⊎ (((end ≡ 12) × Rose (f0 output) (f1 output) × Told (SaysPrefix text) t0 t1) ⊎ ((end ≡ 21) × Told (SaysPrefix text) t0 t1))
