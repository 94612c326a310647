-- How a call ends, for the proofs of `run`.
use Rattle.std.specs.Prelude.{◌≡◌, ◌⊎◌, ℕ, true, List, Option}
use Rattle.emp_desk.specs.Desk.{Place, output, Contents, Told, Rose}
use Rattle.emp_command.specs.declared.words.Verb.TheVariants.{Make}
use Rattle.emp_command.specs.declared.refusal.Refusal.{Refusal}
use Rattle.emp_command.specs.declared.refusal.Refusal.TheVariants.{BadWords, BadWork, BadFirms, Unread, TooLong, Unwritten, NoMemory}
use Rattle.emp_command.specs.Words.{Asked, Asks, IsPlain}
use Rattle.emp_command.specs.Course.{Outcome, SomeStoreRose, Runs, IsWorkInRange, AreFirmsInRange}
use Rattle.emp_engine.specs.Run.{IsMake, is_market_status, IsAnswer, SomeLoadRose, SomeWriteRose, IsStatus}

abbrev pub IsOutOfRange : Asked → Refusal → Type 0
IsOutOfRange r BadWords = ⊥
IsOutOfRange r BadWork = IsWorkInRange r.work → ⊥
IsOutOfRange r BadFirms = (r.verb ≡ Make) × (AreFirmsInRange r.firms → ⊥)
IsOutOfRange r (Unread k) = ⊥
IsOutOfRange r (TooLong k n) = ⊥
IsOutOfRange r Unwritten = ⊥
IsOutOfRange r NoMemory = ⊥

-- why the delivery of an outcome ended with this status: as it was to end, for want of memory, or as a store or the output failed
abbrev pub SayCause : Outcome → ℕ → (Place → ℕ) → (Place → ℕ) → Type 0
SayCause o end f0 f1 = (end ≡ o.status) ⊎ ((end ≡ 21) ⊎ ((end ≡ 12) × (SomeStoreRose o.stores f0 f1 ⊎ Rose (f0 output) (f1 output))))

-- a request that some words ask
abbrev pub IsRequest : Asked → Type 0
IsRequest r = (words : List (List ℕ)) × Asks words r

pub record Ends (words : List (List ℕ)) (f0 f1 : Place → ℕ) (t0 t1 : Option Contents) (end : ℕ) : Type 0 where
  pub course : Told (λ before after. Runs IsAnswer words f0 f1 before after end) t0 t1
  pub plain : end ≡ 10 → IsPlain words → ⊥
  pub unread : end ≡ 11 → SomeLoadRose words f0 f1
  pub unwritten : end ≡ 12 → SomeWriteRose words f0 f1
  pub answers : IsStatus end
  pub makes : IsMake words → is_market_status end ≡ true
