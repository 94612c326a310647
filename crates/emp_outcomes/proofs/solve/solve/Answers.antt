use Rattle.emp_command.specs.Requests.{asked_of}
use Rattle.emp_outcomes.proofs.Solving.{refused_answer}
use Rattle.emp_outcomes.proofs.solve.solve.Goals as goal

pub returns-in-Err : goal.returns-in-Err
returns-in-Err c = refused_answer c.refusal_of.result c.args.model.now c.args.annot.now (asked_of c.args.request.now) (c.refusal_of.ensures c.args.annot.now c.in-Err.ensures)
