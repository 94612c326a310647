use Rattle.std.proofs.Common.{◌≡◌, ◌+◌, drop, length, ap, sym, ◌∙◌, true, false}
use Rattle.emp_cert_text.proofs.Places.{first_place, no_version}
use Rattle.emp_cert_text.proofs.read.version_of.Goals as goal

pub returns-then-is_text-clause-next : goal.returns-then-is_text-clause-next
returns-then-is_text-clause-next c = λ s ea el.
    let size : length c.line_at-line.result.now ≡ 18 = ap length (c.is_text.ensures.0 (c.if-is_text.true)) in
    first_place c.args.text.now false s ea el (sym c.line_at-line.ensures.line ∙ c.is_text.ensures.0 (c.if-is_text.true)) (ap (λ i. drop (0 + i) c.args.text.now) (sym size) ∙ c.line_at-line.ensures.after)

pub returns-then-is_text-2-clause-next : goal.returns-then-is_text-2-clause-next
returns-then-is_text-2-clause-next c = λ s ea el.
    let size : length c.line_at-line.result.now ≡ 18 = ap length (c.is_text-2.ensures.0 (c.if-is_text-2.true)) in
    first_place c.args.text.now true s ea el (sym c.line_at-line.ensures.line ∙ c.is_text-2.ensures.0 (c.if-is_text-2.true)) (ap (λ i. drop (0 + i) c.args.text.now) (sym size) ∙ c.line_at-line.ensures.after)

pub returns-clause-err : goal.returns-clause-err
returns-clause-err c = no_version c.args.text.now c.line_at-line.result.now c.is_text.result c.is_text-2.result c.requires c.line_at-line.ensures.line c.is_text.ensures c.is_text-2.ensures (cc) (cc)
