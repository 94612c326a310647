use Rattle.std.proofs.Common.{[], ◌∷◌, rules, refl}
use Rattle.emp_cert_text.specs.Course.{behind_counts}
use Rattle.emp_cert_text.specs.Course.Part.{last}
use Rattle.emp_cert_text.proofs.Places.{at_nil}
use Rattle.emp_cert_text.proofs.read.read_short.Goals as goal

pub returns-in_err-sizes-clause-err : goal.returns-in_err-sizes-clause-err
returns-in_err-sizes-clause-err c =
    let f = c.in_err-sizes.ensures.err c.in_ok-second.second [] (c.in_ok-second.ensures.next _ refl refl) in
    search rules

pub returns-in_err-links-clause-err : goal.returns-in_err-links-clause-err
returns-in_err-links-clause-err c =
    let f = c.in_err-links.ensures.err (at_nil c.args.text.now (behind_counts c.in_ok-second.second c.in_ok-sizes.sizes.base c.in_ok-sizes.sizes.quantities c.in_ok-sizes.sizes.pairs) c.in_ok-sizes.spot (c.in_ok-sizes.ensures.next c.in_ok-second.second [] (c.in_ok-second.ensures.next _ refl refl))) in
    search rules

pub returns-in_err-verdict-clause-err : goal.returns-in_err-verdict-clause-err
returns-in_err-verdict-clause-err c =
    let f = c.in_err-verdict.ensures.err (last ∷ []) (c.in_ok-links.ensures.next (at_nil c.args.text.now (behind_counts c.in_ok-second.second c.in_ok-sizes.sizes.base c.in_ok-sizes.sizes.quantities c.in_ok-sizes.sizes.pairs) c.in_ok-sizes.spot (c.in_ok-sizes.ensures.next c.in_ok-second.second [] (c.in_ok-second.ensures.next _ refl refl)))) in
    search rules

pub returns-in_err-end_from-clause-err : goal.returns-in_err-end_from-clause-err
returns-in_err-end_from-clause-err c =
    let f = c.in_err-end_from.ensures.err (c.in_ok-verdict.ensures.next (last ∷ []) (c.in_ok-links.ensures.next (at_nil c.args.text.now (behind_counts c.in_ok-second.second c.in_ok-sizes.sizes.base c.in_ok-sizes.sizes.quantities c.in_ok-sizes.sizes.pairs) c.in_ok-sizes.spot (c.in_ok-sizes.ensures.next c.in_ok-second.second [] (c.in_ok-second.ensures.next _ refl refl))))) in
    search rules
