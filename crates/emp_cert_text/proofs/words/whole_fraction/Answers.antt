use Rattle.std.proofs.Common.{rules, arith}
use mir.Syntax.{w128}
use mir.Val.{SFits}
use Rattle.std.proofs.lemmas.Int.{ints, to_z-of_z}
use Rattle.emp_cert_text.proofs.Numbers.{coprime_one, whole_text}
use Rattle.emp_cert_text.proofs.words.whole_fraction.Goals as goal

pub invariant_of-result : goal.invariant_of-result
invariant_of-result c =
    let fits : SFits w128 c.in-Is.num = search rules in
    record {
      positive = omega (arith, ints);
      num_narrow = simp to_z-of_z (c.in-Is.ensures.2);
      den_narrow = omega arith;
      lowest = simp to_z-of_z (coprime_one c.in-Is.num);
    }

pub returns-in-Is : goal.returns-in-Is
returns-in-Is c =
    let fits : SFits w128 c.in-Is.num = search rules in
    simp to_z-of_z (whole_text c.args.word.now c.in-Is.num c.in-Is.ensures.0 c.in-Is.ensures.1 c.in-Is.ensures.2)
