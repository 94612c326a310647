use Rattle.emp_cert_text.proofs.Numbers.{no_num}
use Rattle.emp_cert_text.proofs.words.quotient_in.Goals as goal

pub returns-in-No : goal.returns-in-No
returns-in-No c = no_num c.args.num.now c.args.den.now c.requires.before c.in-No.ensures
