use Rattle.std.proofs.Common.{subst, ap, map}
use Rattle.emp_command.specs.Deliveries.{stored_of}
use Rattle.emp_outcomes.specs.Outcomes.{unaccepted}
use Rattle.emp_outcomes.specs.Steps.{outcome_of, AcceptGives}
use Rattle.emp_outcomes.proofs.Certifying.{said_checks}
use Rattle.emp_outcomes.proofs.certificates.check.Goals as goal

pub returns-in-Accepted : goal.returns-in-Accepted
returns-in-Accepted c =
    let h = subst (AcceptGives c.args.model.now c.args.annot.now c.args.text.now) c.in-Accepted.is c.in_ok-cert.ensures in
    said_checks c.said.result c.args.model.now c.args.annot.now c.args.text.now c.in-Accepted.field-0.stated c.in-Accepted.cert _ _ h.1 (ap (map stored_of) c.new.ensures.items) c.accepted_line.ensures c.said.ensures

pub returns : goal.returns
returns c = unaccepted (outcome_of c.in-Refused.answer) (subst (AcceptGives c.args.model.now c.args.annot.now c.args.text.now) c.in-Refused.is c.in_ok-cert.ensures)
