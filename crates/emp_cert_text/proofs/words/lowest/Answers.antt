use Rattle.std.proofs.Common.{arith}
use mir.Syntax.{w128}
use mir.Val.{SFits}
use Rattle.std.proofs.lemmas.Int.{ints, to_z-of_z}
use Rattle.emp_cert_text.proofs.Numbers.{gcd_not_one}
use Rattle.emp_cert_text.proofs.words.lowest.Goals as goal

pub returns-then-gcd-ne1 : goal.returns-then-gcd-ne1
returns-then-gcd-ne1 c =
    let fits_num : SFits w128 c.args.num = c.ranges.num in
    let fits_den : SFits w128 c.args.den = c.ranges.den in
    gcd_not_one c.args.num c.args.den c.gcd.result (simp to_z-of_z at c.gcd.ensures.divisor) c.gcd.ensures.nonnegative (λ e. absurd (omega (arith, ints, e)))
