use Rattle.std.specs.Prelude.{◌≡◌, ℕ, ◌<◌, false}
use Rattle.emp_owner.specs.Finding.{variable_test}
use Rattle.emp_owner.proofs.search.VariableRule.first.Given as goal

abbrev pub invariant-loop-at : goal.invariant-loop-at
invariant-loop-at l = (j : ℕ) → j < l.at → variable_test l.self l.model l.annot j ≡ false
