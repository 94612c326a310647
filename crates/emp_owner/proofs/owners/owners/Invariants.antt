use Rattle.std.specs.Prelude.{◌≡◌, ℕ, length, slice_get, Some}
use Rattle.emp_owner.specs.declared.owned.Owner.{Owner}
use Rattle.emp_owner.specs.Settled.{IsOwner}
use Rattle.emp_owner.proofs.owners.owners.Given as goal

abbrev pub invariant-loop-at : goal.invariant-loop-at
invariant-loop-at l = record {
  count : length l.list ≡ l.at;
  each : (v : ℕ) (w : Owner) → slice_get l.list v ≡ Some w → IsOwner l.model l.annot v w;
}
