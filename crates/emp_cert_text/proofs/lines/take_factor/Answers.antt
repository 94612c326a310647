use Rattle.std.proofs.Common.{rules, arith}
use mir.Syntax.{w128}
use mir.Val.{SFits}
use Rattle.std.proofs.lemmas.Int.{to_z-of_z}
use Rattle.emp_cert_text.proofs.Factors.{taken}
use Rattle.emp_cert_text.proofs.lines.take_factor.Goals as goal

pub returns : goal.returns
returns c =
    let fits : SFits w128 c.in-Some-narrow_in.value = search rules in
    taken c.args.place.now c.args.factor.now c.in-Some.at c.args.count c.in-Some-narrow_in.value c.args.out.now c.pad.new.out c.push.new.self
    c.requires.place c.in-Some.ensures.1 (omega (arith, c.in-Some.ensures.2)) c.in-Some.ensures.3 (omega arith) c.requires.factor c.requires.some c.in-Some-narrow_in.ensures.1 c.in-Some-narrow_in.ensures.2
    c.in_ok-pad.ensures.sparse c.in_ok-pad.ensures.count c.in_ok-pad.ensures.narrow (simp to_z-of_z at c.in_ok-push.ensures.ok)
