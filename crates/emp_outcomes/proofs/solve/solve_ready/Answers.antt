use Rattle.emp_command.specs.Requests.{asked_of}
use Rattle.emp_outcomes.proofs.Solving.{unfinished_answer}
use Rattle.emp_outcomes.proofs.solve.solve_ready.Goals as goal

pub returns-in-Err : goal.returns-in-Err
returns-in-Err c = unfinished_answer c.walk_refusal.result c.args.model.now c.args.annot.now (asked_of c.args.request.now) c.args.ready.now.stated c.in-Err.fault c.requires.ready.stated c.in-Err.ensures c.walk_refusal.ensures
