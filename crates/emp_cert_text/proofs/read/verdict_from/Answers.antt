use Rattle.std.proofs.Common.{[], ◌∷◌, rules}
use Rattle.emp_cert_text.specs.Course.{head_of}
use Rattle.emp_cert_text.specs.Course.Part.{verdict, point, ray, tree}
use Rattle.emp_cert_text.proofs.Places.{verdict_takes, stands_none, stands_best, stands_step, is_not}
use Rattle.emp_cert_text.proofs.read.verdict_from.Goals as goal

pub returns-then-is_text-clause-next : goal.returns-then-is_text-clause-next
returns-then-is_text-clause-next c = λ ps h.
    c.missing_from.ensures.next ps (c.behind.ensures.next (verdict (head_of c.args.second c.args.sizes.base c.args.sizes.quantities c.args.sizes.pairs)) ps (tree (head_of c.args.second c.args.sizes.base c.args.sizes.quantities c.args.sizes.pairs) ∷ []) h c.line_at-line.ensures.line c.line_at-line.ensures.after (stands_none (head_of c.args.second c.args.sizes.base c.args.sizes.quantities c.args.sizes.pairs) c.line_at-line.result.now (c.is_text.ensures.0 (c.if-is_text.true))))

pub returns-then-is_text-clause-err : goal.returns-then-is_text-clause-err
returns-then-is_text-clause-err c = λ ps h.
    c.missing_from.ensures.err ps (c.behind.ensures.next (verdict (head_of c.args.second c.args.sizes.base c.args.sizes.quantities c.args.sizes.pairs)) ps (tree (head_of c.args.second c.args.sizes.base c.args.sizes.quantities c.args.sizes.pairs) ∷ []) h c.line_at-line.ensures.line c.line_at-line.ensures.after (stands_none (head_of c.args.second c.args.sizes.base c.args.sizes.quantities c.args.sizes.pairs) c.line_at-line.result.now (c.is_text.ensures.0 (c.if-is_text.true))))

pub returns-then-is_text-2-clause-next : goal.returns-then-is_text-2-clause-next
returns-then-is_text-2-clause-next c = λ ps h.
    c.best_from.ensures.next ps (c.behind-then-is_text-2.ensures.next (verdict (head_of c.args.second c.args.sizes.base c.args.sizes.quantities c.args.sizes.pairs)) ps (point c.args.sizes.base ∷ (tree (head_of c.args.second c.args.sizes.base c.args.sizes.quantities c.args.sizes.pairs) ∷ [])) h c.line_at-line.ensures.line c.line_at-line.ensures.after (stands_best (head_of c.args.second c.args.sizes.base c.args.sizes.quantities c.args.sizes.pairs) c.line_at-line.result.now (c.is_text-2.ensures.0 (c.if-is_text-2.true))))

pub returns-then-is_text-2-clause-err : goal.returns-then-is_text-2-clause-err
returns-then-is_text-2-clause-err c = λ ps h.
    c.best_from.ensures.err ps (c.behind-then-is_text-2.ensures.next (verdict (head_of c.args.second c.args.sizes.base c.args.sizes.quantities c.args.sizes.pairs)) ps (point c.args.sizes.base ∷ (tree (head_of c.args.second c.args.sizes.base c.args.sizes.quantities c.args.sizes.pairs) ∷ [])) h c.line_at-line.ensures.line c.line_at-line.ensures.after (stands_best (head_of c.args.second c.args.sizes.base c.args.sizes.quantities c.args.sizes.pairs) c.line_at-line.result.now (c.is_text-2.ensures.0 (c.if-is_text-2.true))))

pub returns-then-is_text-3-clause-next : goal.returns-then-is_text-3-clause-next
returns-then-is_text-3-clause-next c = λ ps h.
    c.unbounded_from.ensures.next ps (c.behind-then-is_text-3.ensures.next (verdict (head_of c.args.second c.args.sizes.base c.args.sizes.quantities c.args.sizes.pairs)) ps (point c.args.sizes.base ∷ (ray c.args.sizes.base ∷ [])) h c.line_at-line.ensures.line c.line_at-line.ensures.after (stands_step (head_of c.args.second c.args.sizes.base c.args.sizes.quantities c.args.sizes.pairs) c.line_at-line.result.now (c.is_text-3.ensures.0 (c.if-is_text-3.true))))

pub returns-then-is_text-3-clause-err : goal.returns-then-is_text-3-clause-err
returns-then-is_text-3-clause-err c = λ ps h.
    c.unbounded_from.ensures.err ps (c.behind-then-is_text-3.ensures.next (verdict (head_of c.args.second c.args.sizes.base c.args.sizes.quantities c.args.sizes.pairs)) ps (point c.args.sizes.base ∷ (ray c.args.sizes.base ∷ [])) h c.line_at-line.ensures.line c.line_at-line.ensures.after (stands_step (head_of c.args.second c.args.sizes.base c.args.sizes.quantities c.args.sizes.pairs) c.line_at-line.result.now (c.is_text-3.ensures.0 (c.if-is_text-3.true))))

pub returns-in_err-point-clause-err : goal.returns-in_err-point-clause-err
returns-in_err-point-clause-err c = λ ps h.
    let f = c.in_err-point.ensures.err (verdict (head_of c.args.second c.args.sizes.base c.args.sizes.quantities c.args.sizes.pairs)) ps h (verdict_takes (head_of c.args.second c.args.sizes.base c.args.sizes.quantities c.args.sizes.pairs) _ (is_not c.line_at-line.result.now _ _ c.is_text.result c.line_at-line.ensures.line c.is_text.ensures (cc)) (is_not c.line_at-line.result.now _ _ c.is_text-2.result c.line_at-line.ensures.line c.is_text-2.ensures (cc)) (is_not c.line_at-line.result.now _ _ c.is_text-3.result c.line_at-line.ensures.line c.is_text-3.ensures (cc))) in
    search rules

pub returns-clause-next : goal.returns-clause-next
returns-clause-next c = λ ps h. c.in_ok-point.ensures.next (verdict (head_of c.args.second c.args.sizes.base c.args.sizes.quantities c.args.sizes.pairs)) ps h (verdict_takes (head_of c.args.second c.args.sizes.base c.args.sizes.quantities c.args.sizes.pairs) _ (is_not c.line_at-line.result.now _ _ c.is_text.result c.line_at-line.ensures.line c.is_text.ensures (cc)) (is_not c.line_at-line.result.now _ _ c.is_text-2.result c.line_at-line.ensures.line c.is_text-2.ensures (cc)) (is_not c.line_at-line.result.now _ _ c.is_text-3.result c.line_at-line.ensures.line c.is_text-3.ensures (cc)))
