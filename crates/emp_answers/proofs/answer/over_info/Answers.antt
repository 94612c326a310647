use Rattle.emp_command.specs.Requests.{asked_of}
use Rattle.emp_answers.proofs.Answering.{info_answer, read_answer}
use Rattle.emp_answers.proofs.answer.over_info.Goals as goal

pub returns-in-Ok : goal.returns-in-Ok
returns-in-Ok c = read_answer c.over_model.result (asked_of c.args.request.now) c.args.rest.now c.args.model.now c.args.info.now c.in-Ok.annot c.in-Ok.ensures c.over_model.ensures

pub returns-in-Err : goal.returns-in-Err
returns-in-Err c = info_answer c.info_refusal.result (asked_of c.args.request.now) c.args.rest.now c.args.model.now c.args.info.now c.in-Err.fault c.in-Err.ensures c.info_refusal.ensures
