use Rattle.std.proofs.Common.{arith}
use Rattle.emp_cert_text.proofs.Numbers.{cut_fraction}
use Rattle.emp_cert_text.proofs.words.fraction_in.Goals as goal

pub returns-then-slash-word : goal.returns-then-slash-word
returns-then-slash-word c =
    cut_fraction c.args.word.now c.up_to.result.now c.from.result.now c.place_of-slash.result c.quotient_in.result c.up_to.ensures c.from.ensures
    (c.place_of-slash.ensures.at (omega arith)) c.quotient_in.ensures
