use Rattle.std.specs.Prelude.{◌≡◌, ℕ, length, slice_get, Option, Some}
use Rattle.emp_ast.specs.declared.tree.EquId.{EquId}
use Rattle.emp_ast.specs.Parties.{block}
use Rattle.emp_owner.specs.Settled.{IsDefinition}
use Rattle.emp_owner.proofs.definitions.block_definitions.Given as goal

abbrev pub invariant-loop-at : goal.invariant-loop-at
invariant-loop-at l = record {
  count : length l.list ≡ l.at;
  each : (k : ℕ) (d : Option EquId) → slice_get l.list k ≡ Some d → IsDefinition l.model l.annot (block k) d;
}
