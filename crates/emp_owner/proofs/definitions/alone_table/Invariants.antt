use Rattle.std.specs.Prelude.{◌≡◌, ℕ, Bool, nat_eq, length, slice_get, Some}
use Rattle.emp_ast.specs.Parties.{holders}
use Rattle.emp_owner.proofs.definitions.alone_table.Given as goal

abbrev pub invariant-loop-at : goal.invariant-loop-at
invariant-loop-at l = record {
  count : length l.list ≡ l.at;
  each : (e : ℕ) (b : Bool) → slice_get l.list e ≡ Some b → b ≡ nat_eq (holders l.annot e) 1;
}
