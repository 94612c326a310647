use Rattle.std.specs.Prelude.{◌≡◌, false, nat_eq, take}
use Rattle.std.specs.List.{list_any}
use Rattle.emp_owner.proofs.owners.pair_of.Given as goal

abbrev pub invariant-loop-at : goal.invariant-loop-at
invariant-loop-at l = list_any (λ i. nat_eq i.0.at l.v.at) (take l.at l.pairs) ≡ false
