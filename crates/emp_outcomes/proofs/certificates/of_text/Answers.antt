use Rattle.emp_outcomes.proofs.Certifying.{text_refused}
use Rattle.emp_outcomes.specs.Steps.{outcome_of}
use Rattle.emp_outcomes.proofs.certificates.of_text.Goals as goal

pub returns-in-Ok : goal.returns-in-Ok
returns-in-Ok c = c.test.ensures c.args.text.now c.in-Ok.ensures.text

pub returns-in_ok-answer-in-Err : goal.returns-in_ok-answer-in-Err
returns-in_ok-answer-in-Err c = text_refused c.args.model.now c.args.annot.now c.args.text.now c.args.ready.stated c.in-Err.fault (outcome_of c.in_ok-answer-in-Err.answer) c.requires.ready.stated c.requires.text c.in-Err.ensures.fault c.in_ok-answer-in-Err.ensures
