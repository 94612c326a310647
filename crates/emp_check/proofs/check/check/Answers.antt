use Rattle.std.proofs.Common.{sym, refl, ◌∙◌}
use Rattle.emp_cert.proofs.Shown.{shown_holds}
use Rattle.emp_check.proofs.Verdicts.{sized, verdict_shown, verdict_fits, links_are}
use Rattle.emp_check.proofs.check.check.Goals as goal

pub links_fit-requires : goal.links_fit-requires
links_fit-requires c = (sized c.args.system.now c.args.cert.now (sym c.sizes_test.ensures ∙ c.if-not-sizes_test.false)).pairs

pub verdict_checked-requires : goal.verdict_checked-requires
verdict_checked-requires c = record { verdict = verdict_fits c.args.system.now c.args.cert.now (sym c.sizes_test.ensures ∙ c.if-not-sizes_test.false) }

pub returns-clause-sized : goal.returns-clause-sized
returns-clause-sized c e = sized c.args.system.now c.args.cert.now (sym c.sizes_test.ensures ∙ c.if-not-sizes_test.false)

pub returns-clause-linked : goal.returns-clause-linked
returns-clause-linked c e = links_are c.args.system.now c.args.cert.now.links (sym c.links_fit.ensures ∙ c.if-not-links_fit.false)

pub returns-clause-shown : goal.returns-clause-shown
returns-clause-shown c e =
    verdict_shown c.args.system.now c.args.system.now.objective c.args.cert.now.verdict refl
    (verdict_fits c.args.system.now c.args.cert.now (sym c.sizes_test.ensures ∙ c.if-not-sizes_test.false))
    (sym c.verdict_checked.ensures ∙ e)

pub returns-clause-sound : goal.returns-clause-sound
returns-clause-sound c e =
    shown_holds c.args.system.now c.args.cert.now.verdict
    (verdict_shown c.args.system.now c.args.system.now.objective c.args.cert.now.verdict refl
    (verdict_fits c.args.system.now c.args.cert.now (sym c.sizes_test.ensures ∙ c.if-not-sizes_test.false))
    (sym c.verdict_checked.ensures ∙ e))
