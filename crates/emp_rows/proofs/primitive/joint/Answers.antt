use mir.Syntax.{w128}
use mir.Val.{SFits}
use Rattle.std.proofs.lemmas.Int.{to_z-of_z}
use Rattle.emp_rows.proofs.Joint.{joint_sound}
use Rattle.emp_rows.proofs.primitive.joint.Goals as goal

pub returns-clause-positive : goal.returns-clause-positive
returns-clause-positive c =
    let fits : SFits w128 c.args.total = c.ranges.total in
    joint_sound c.args.total c.args.fraction.den c.joint_formed.result c.requires.positive c.args.fraction.positive (simp to_z-of_z at c.joint_formed.ensures.value)
