use Rattle.std.proofs.Common.{refl, []}
use Rattle.emp_cert_text.specs.Course.Part.{pair}
use Rattle.emp_cert_text.proofs.Places.{pair_fail}
use Rattle.emp_cert_text.proofs.read.pair_from.Goals as goal

pub returns-in-Ok-clause-next : goal.returns-in-Ok-clause-next
returns-in-Ok-clause-next c = λ ps h.
    c.behind.ensures.next (pair c.args.quantities) ps [] h c.line_at-line.ensures.line c.line_at-line.ensures.after
    ((c.in-Ok.pair, c.in-Ok.ensures.first, c.in-Ok.ensures.second, c.in-Ok.ensures.text), refl)

pub returns-in-Err-clause-err : goal.returns-in-Err-clause-err
returns-in-Err-clause-err c = λ ps h.
    c.at_line.ensures c.args.text.now (pair c.args.quantities) ps c.requires.short h (pair_fail c.args.quantities c.line_at-line.result.now _ c.in-Err.fault c.line_at-line.ensures.line c.in-Err.ensures.err)
