use Rattle.std.specs.Prelude.{◌≡◌, ℕ, ◌<◌, false}
use Rattle.emp_owner.specs.Finding.{constraint_test}
use Rattle.emp_owner.proofs.search.ConstraintRule.first.Given as goal

abbrev pub invariant-loop-at : goal.invariant-loop-at
invariant-loop-at l = (j : ℕ) → j < l.at → constraint_test l.self l.model l.annot j ≡ false
