use Rattle.std.proofs.Common.{refl, []}
use Rattle.emp_cert_text.specs.Course.Part.{ray}
use Rattle.emp_cert_text.proofs.Places.{ray_fail}
use Rattle.emp_cert_text.proofs.read.ray_from.Goals as goal

pub returns-in-Ok-clause-next : goal.returns-in-Ok-clause-next
returns-in-Ok-clause-next c = λ ps h.
    c.behind.ensures.next (ray c.args.base) ps [] h c.line_at-line.ensures.line c.line_at-line.ensures.after
    ((c.in-Ok.values, c.in-Ok.ensures.count, c.in-Ok.ensures.text), refl)

pub returns-in-Err-clause-err : goal.returns-in-Err-clause-err
returns-in-Err-clause-err c = λ ps h.
    c.at_line.ensures c.args.text.now (ray c.args.base) ps c.requires.short h (ray_fail c.args.base c.line_at-line.result.now _ c.in-Err.fault c.line_at-line.ensures.line c.in-Err.ensures.err)
