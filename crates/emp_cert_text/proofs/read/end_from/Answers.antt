use Rattle.std.proofs.Common.{◌≡◌, [], refl, arith, true}
use Rattle.emp_cert_text.specs.Course.Part.{last}
use Rattle.emp_cert_text.proofs.Places.{last_fails, rest_is_left}
use Rattle.emp_cert_text.proofs.read.end_from.Goals as goal

pub returns-then-not-is_text-clause-err : goal.returns-then-not-is_text-clause-err
returns-then-not-is_text-clause-err c = λ h.
    c.at_line.ensures c.args.text.now last [] c.requires.short h (last_fails c.line_at-line.result.now _ c.is_text.result c.line_at-line.ensures.line c.is_text.ensures (cc))

pub returns-then-end-text-clause-err : goal.returns-then-end-text-clause-err
returns-then-end-text-clause-err c = λ h.
    let yes : c.is_text.result ≡ true = cc in
    rest_is_left c.args.text.now c.behind-end.result c.requires.short (omega arith)
    (c.behind-end.ensures.next last [] [] h c.line_at-line.ensures.line c.line_at-line.ensures.after (c.is_text.ensures.0 yes, refl))
