use Rattle.std.proofs.Common.{◌≡◌, ◌<◌, ◌∙◌, ap, sym, map, length, arith}
use Rattle.emp_problem.specs.declared.problem.BlockPart.{BlockPart}
use Rattle.emp_conditions.specs.Base.{base_slots}
use Rattle.emp_kkt.specs.Items.{shape, base_of}
use Rattle.emp_kkt.proofs.Placing.{own_multipliers, block_put}
use Rattle.emp_kkt.proofs.Turning.{same_part}
use Rattle.emp_kkt.proofs.extras.extras_of.Goals as goal
use Rattle.std.proofs.Common.{◌++◌}

pub loop-at-preserved : goal.loop-at-preserved
loop-at-preserved c =
    let within : c.loop-at.at < length c.args.problem.now.blocks = omega arith in
    let same : c.get-in-loop-at.result.now ≡ c.get.result.now = same_part c.args.problem.now.blocks c.loop-at.at c.get-in-loop-at.result.now c.get.result.now within c.get-in-loop-at.ensures ∙ sym c.get.ensures in
    block_put c.args.problem.now c.loop-at.at c.get.result.now (map base_of c.loop-at.out) (map base_of c.put_ranges.new.out) (map base_of c.put_multipliers.new.out) (base_slots (shape c.args.problem.now)) within c.get.ensures c.in_ok-put_ranges.ensures
    (c.in_ok-put_multipliers.ensures ∙ ap (λ (b : BlockPart). map base_of c.put_ranges.new.out ++ own_multipliers c.args.problem.now c.loop-at.at b.rules) same)
    c.loop-at.invariant
