use Rattle.std.proofs.Common.{◌≡◌, ◌+◌, drop, map}
use Rattle.emp_conditions.specs.Base.{index_base}
use Rattle.emp_kkt.specs.Items.{base_of}
use Rattle.emp_kkt.proofs.extras.index_of.Given as goal

abbrev pub invariant-loop-at : goal.invariant-loop-at
invariant-loop-at l = index_base (base_of l.of) (map base_of l.extras) ≡ l.at + index_base (base_of l.of) (map base_of (drop l.at l.extras))
