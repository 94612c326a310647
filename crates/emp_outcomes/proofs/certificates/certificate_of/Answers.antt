use Rattle.emp_outcomes.specs.Outcomes.{no_rows}
use Rattle.emp_outcomes.specs.Steps.{outcome_of}
use Rattle.emp_outcomes.proofs.certificates.certificate_of.Goals as goal

pub returns-in_ok-answer-in-Err : goal.returns-in_ok-answer-in-Err
returns-in_ok-answer-in-Err c = no_rows (outcome_of c.in_ok-answer-in-Err.answer) (c.in_ok-answer-in-Err.ensures c.args.annot.now c.in-Err.ensures)
