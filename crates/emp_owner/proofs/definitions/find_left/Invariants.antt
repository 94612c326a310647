use Rattle.std.specs.Prelude.{◌≡◌, ℕ, ◌<◌, false, ◌&&◌, not}
use Rattle.emp_ast.specs.Parties.{some_block_has}
use Rattle.emp_owner.specs.Finding.{may_define}
use Rattle.emp_owner.proofs.definitions.find_left.Given as goal

abbrev pub invariant-loop-at : goal.invariant-loop-at
invariant-loop-at l = (e : ℕ) → e < l.at → (may_define l.model l.annot l.w.at e && not (some_block_has l.annot e)) ≡ false
