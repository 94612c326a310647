use Rattle.emp_command.specs.Requests.{asked_of}
use Rattle.emp_outcomes.specs.Steps.{report_of}
use Rattle.emp_outcomes.proofs.Solving.{delivered_answer, unfilled_answer}
use Rattle.emp_outcomes.proofs.solve.solve_found.Goals as goal

pub returns-in-Ok : goal.returns-in-Ok
returns-in-Ok c = delivered_answer c.deliver.result c.args.model.now c.args.annot.now (asked_of c.args.request.now) c.args.ready.now.stated c.args.found.now (report_of c.in-Ok.report) c.requires.ready.stated c.requires.found c.in-Ok.ensures c.deliver.ensures

pub returns-in-Err : goal.returns-in-Err
returns-in-Err c = unfilled_answer c.fill_refusal.result c.args.model.now c.args.annot.now (asked_of c.args.request.now) c.args.ready.now.stated c.args.found.now c.in-Err.fault c.requires.ready.stated c.requires.found c.in-Err.ensures c.fill_refusal.ensures
