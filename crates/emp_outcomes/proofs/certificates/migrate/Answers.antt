use Rattle.std.proofs.Common.{subst}
use Rattle.emp_outcomes.specs.Outcomes.{unmigrated}
use Rattle.emp_outcomes.specs.Steps.{outcome_of, AcceptGives}
use Rattle.emp_outcomes.proofs.Certifying.{anew_migrates}
use Rattle.emp_outcomes.proofs.certificates.migrate.Goals as goal

pub returns-in-Accepted : goal.returns-in-Accepted
returns-in-Accepted c =
    let h = subst (AcceptGives c.args.model.now c.args.annot.now c.args.text.now) c.in-Accepted.is c.in_ok-ready.ensures in
    anew_migrates c.stored_anew.result c.args.model.now c.args.annot.now c.args.text.now c.args.name.now c.in-Accepted.ready.stated c.in-Accepted.cert h.1 c.stored_anew.ensures

pub returns-in-Refused : goal.returns-in-Refused
returns-in-Refused c = unmigrated (outcome_of c.in-Refused.answer) (subst (AcceptGives c.args.model.now c.args.annot.now c.args.text.now) c.in-Refused.is c.in_ok-ready.ensures)
