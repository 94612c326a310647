use Rattle.std.proofs.Common.{refl}
use Rattle.emp_cert_text.specs.Course.{behind_counts}
use Rattle.emp_cert_text.specs.Course.Part.{counts}
use Rattle.emp_cert_text.proofs.Places.{counts_fail}
use Rattle.emp_cert_text.proofs.read.sizes_from.Goals as goal

pub returns-in-Ok-clause-next : goal.returns-in-Ok-clause-next
returns-in-Ok-clause-next c = λ second ps h.
    c.behind.ensures.next (counts second) ps (behind_counts second c.in-Ok.sizes.base c.in-Ok.sizes.quantities c.in-Ok.sizes.pairs) h c.line_at-line.ensures.line c.line_at-line.ensures.after
    (c.in-Ok.sizes.base, c.in-Ok.sizes.quantities, c.in-Ok.sizes.pairs, c.in-Ok.sizes.few, c.in-Ok.ensures.ok, refl)

pub returns-in-Err-clause-err : goal.returns-in-Err-clause-err
returns-in-Err-clause-err c = λ second ps h.
    c.at_line.ensures c.args.text.now (counts second) ps c.requires.short h (counts_fail second c.line_at-line.result.now _ c.in-Err.fault c.line_at-line.ensures.line c.in-Err.ensures.err)
