use Rattle.std.proofs.lemmas.Result.{err_from_is_err_and}
use Rattle.gms_read.proofs.Reading.{has_items, perform_refused, has_draft}
use Rattle.gms_read.proofs.read.read_draft.Goals as goal

pub returns-in_err-draft : goal.returns-in_err-draft
returns-in_err-draft c =
    let text = c.args.text.now in
    let known =
    has_items c.args.kind text c.in_ok-tokens.tokens.items c.as_slice.result.now c.in_ok-lexemes.lexemes.items c.as_slice-2.result.now c.as_slice-3.result.now c.in_ok-items.items.items c.as_slice-4.result.now
    c.in_ok-tokens.ensures c.as_slice.ensures.value c.in_ok-lexemes.ensures c.as_slice-2.ensures.value c.in_default.ensures c.as_slice-3.ensures.value c.in_ok-items.ensures c.as_slice-4.ensures.value in
    let p = err_from_is_err_and c.from_residual-in_err-draft.result c.from_residual-in_err-draft.ensures.1 in
    rw (p.1, p.2) (perform_refused c.args.kind text c.as_slice-4.result.now c.in_err-draft.field-0.0 known (c.in_err-draft.ensures c.args.kind))

pub returns : goal.returns
returns c =
    let text = c.args.text.now in
    let known =
    has_items c.args.kind text c.in_ok-tokens.tokens.items c.as_slice.result.now c.in_ok-lexemes.lexemes.items c.as_slice-2.result.now c.as_slice-3.result.now c.in_ok-items.items.items c.as_slice-4.result.now
    c.in_ok-tokens.ensures c.as_slice.ensures.value c.in_ok-lexemes.ensures c.as_slice-2.ensures.value c.in_default.ensures c.as_slice-3.ensures.value c.in_ok-items.ensures c.as_slice-4.ensures.value in
    has_draft c.args.kind text c.in_ok-items.items.items c.as_slice-4.result.now c.in_ok-draft.draft known (c.in_ok-draft.ensures c.args.kind) c.as_slice-4.ensures.value
