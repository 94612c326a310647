use Rattle.std.proofs.Common.{Err}
use Rattle.std.proofs.lemmas.Result.{err_from_is_err_and}
use Rattle.gms_grammar.specs.declared.kind.Kind.TheVariants.{Matches}
use Rattle.gms_read.proofs.Reading.{finish_gives}
use Rattle.gms_matches.proofs.Whole.{matched_text}
use Rattle.gms_matches.proofs.read.read_matches.Goals as goal

pub returns-in_err-model : goal.returns-in_err-model
returns-in_err-model c =
    let p = err_from_is_err_and c.from_residual-in_err-model.result c.from_residual-in_err-model.ensures.1 in
    rw (p.1, p.2) (finish_gives Matches c.args.text.now c.in_ok-items.field-0.items.items c.in_ok-items.field-0.draft (Err c.in_err-model.field-0.0) c.in_ok-items.ensures c.in_err-model.ensures)

pub returns : goal.returns
returns c =
    matched_text c.args.text.now c.in_ok-items.field-0.items.items c.as_slice.result.now c.in_ok-items.field-0.draft c.in_ok-model.model c.in_ok-matches.matches c.in_ok-items.ensures c.in_ok-model.ensures c.in_ok-matches.ensures
    c.as_slice.ensures.value
