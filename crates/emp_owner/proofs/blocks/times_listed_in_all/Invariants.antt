use Rattle.std.specs.Prelude.{◌≡◌, min, take}
use Rattle.std.specs.List.{sum_by}
use Rattle.emp_ast.specs.Parties.{listed_equations}
use Rattle.emp_owner.specs.Rules.{equation_times}
use Rattle.emp_owner.proofs.blocks.times_listed_in_all.Given as goal

abbrev pub invariant-loop-block : goal.invariant-loop-block
invariant-loop-block l = l.times ≡ min (sum_by (λ b. equation_times l.e.at (listed_equations b)) (take l.block-index l.annot.blocks)) 2
