use Rattle.std.proofs.Common.{◌≡◌, ℕ, length}
use Rattle.emp_poly.specs.Written.{entry}
use Rattle.emp_subst.proofs.fill.padded.Given as goal

abbrev pub invariant-loop : goal.invariant-loop
invariant-loop l = (length l.list ≡ l.counter) × ((k : ℕ) → entry l.list k ≡ entry l.values k)
