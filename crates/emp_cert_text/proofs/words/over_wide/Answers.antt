use Rattle.std.proofs.Common.{arith}
use Rattle.std.proofs.lemmas.Int.{ints}
use Rattle.emp_cert_text.proofs.Numbers.{no_den, small_den, wide_num}
use Rattle.emp_cert_text.proofs.words.over_wide.Goals as goal

pub returns-in-No : goal.returns-in-No
returns-in-No c = no_den c.args.num.now c.args.den.now c.requires.before c.in-No.ensures

pub returns-in-Outside : goal.returns-in-Outside
returns-in-Outside c = wide_num c.args.num.now c.args.den.now c.requires.before c.requires.whole c.requires.wide c.in-Outside.ensures.0 (omega (arith, c.in-Outside.ensures.1))

pub returns-then-bottom-lt2 : goal.returns-then-bottom-lt2
returns-then-bottom-lt2 c = small_den c.args.num.now c.args.den.now c.in-Is.bottom c.requires.before (c.in-Is.ensures.1) (omega (arith, ints))

pub returns-else-bottom-lt2 : goal.returns-else-bottom-lt2
returns-else-bottom-lt2 c = wide_num c.args.num.now c.args.den.now c.requires.before c.requires.whole c.requires.wide c.in-Is.ensures.0 (omega (arith, ints, c.in-Is.ensures.1))
