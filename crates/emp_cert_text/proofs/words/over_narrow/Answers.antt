use Rattle.std.proofs.Common.{rules, arith}
use mir.Syntax.{w128}
use mir.Val.{SFits}
use Rattle.std.proofs.lemmas.Int.{ints, to_z-of_z}
use Rattle.emp_cert_text.proofs.Numbers.{no_den, small_den, as_lowest}
use Rattle.emp_cert_text.proofs.words.over_narrow.Goals as goal

pub returns-in-No : goal.returns-in-No
returns-in-No c = no_den c.args.num.now c.args.den.now c.requires.before c.in-No.ensures

pub returns-then-bottom-lt2 : goal.returns-then-bottom-lt2
returns-then-bottom-lt2 c = small_den c.args.num.now c.args.den.now c.in-Is.bottom c.requires.before (c.in-Is.ensures.1) (omega (arith, ints))

pub returns-else-bottom-lt2 : goal.returns-else-bottom-lt2
returns-else-bottom-lt2 c =
    let fits_top : SFits w128 c.args.top = c.ranges.top in
    let fits_bottom : SFits w128 c.in-Is.bottom = search rules in
    as_lowest c.args.num.now c.args.den.now c.args.top c.in-Is.bottom c.lowest.result c.requires.before c.requires.whole c.in-Is.ensures.0 c.requires.is c.in-Is.ensures.1 c.requires.narrow c.in-Is.ensures.2 (omega (arith, ints)) (simp to_z-of_z at c.lowest.ensures)
