use Rattle.std.proofs.Common.{◌≡◌, ◌++◌, drop, map}
use Rattle.emp_conditions.specs.Base.{range_slots}
use Rattle.emp_kkt.specs.Items.{shape, base_of}
use Rattle.emp_kkt.specs.Making.{own_places}
use Rattle.emp_kkt.proofs.extras.put_ranges.Given as goal

abbrev pub invariant-loop-at : goal.invariant-loop-at
invariant-loop-at l = map base_of l.out ++ range_slots (shape l.problem).ranges l.block (own_places l.problem (drop l.at l.part.own)) ≡ map base_of l.fn.out ++ range_slots (shape l.problem).ranges l.block (own_places l.problem l.part.own)
