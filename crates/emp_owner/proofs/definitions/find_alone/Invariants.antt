use Rattle.std.specs.Prelude.{◌≡◌, ℕ, true, false, ◌&&◌, nat_eq, take}
use Rattle.emp_ast.specs.Parties.{names_equation, holders}
use Rattle.emp_owner.specs.Finding.{may_define}
use Rattle.emp_owner.proofs.definitions.find_alone.Given as goal

abbrev pub invariant-loop-at : goal.invariant-loop-at
invariant-loop-at l = (e : ℕ) → names_equation (take l.at l.equs) e ≡ true → (may_define l.model l.annot l.w.at e && nat_eq (holders l.annot e) 1) ≡ false
