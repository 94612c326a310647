use Rattle.std.proofs.Common.{[], List, ℕ, subst, sym}
use Rattle.emp_cert_text.specs.Course.{Stands}
use Rattle.emp_cert_text.specs.Lines.{PointFits}
use Rattle.emp_cert_text.proofs.Places.{point_fail}
use Rattle.emp_cert_text.proofs.read.point_from.Goals as goal

pub returns-in-Ok-clause-next : goal.returns-in-Ok-clause-next
returns-in-Ok-clause-next c = λ p ps h k.
    c.behind.ensures.next p ps [] h c.line_at-line.ensures.line c.line_at-line.ensures.after
    (subst (λ (x : List ℕ). Stands p x []) (sym c.line_at-line.ensures.line) (k.stands (subst (λ (x : List ℕ). PointFits c.args.base x) c.line_at-line.ensures.line (c.in-Ok.values, c.in-Ok.ensures.count, c.in-Ok.ensures.text))))

pub returns-in-Err-clause-err : goal.returns-in-Err-clause-err
returns-in-Err-clause-err c = λ p ps h k.
    c.at_line.ensures c.args.text.now p ps c.requires.short h (point_fail c.args.base p c.line_at-line.result.now _ c.in-Err.fault c.line_at-line.ensures.line k c.in-Err.ensures.err)
