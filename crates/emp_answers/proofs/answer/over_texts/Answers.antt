use Rattle.emp_command.specs.Requests.{asked_of}
use Rattle.emp_answers.proofs.Answering.{model_answer, text_answer}
use Rattle.emp_answers.proofs.answer.over_texts.Goals as goal

pub returns-in-Ok : goal.returns-in-Ok
returns-in-Ok c = text_answer c.over_info.result (asked_of c.args.request.now) c.args.rest.now c.args.model.now c.args.info.now c.in-Ok.model c.requires.built c.in-Ok.ensures c.over_info.ensures

pub returns-in-Err : goal.returns-in-Err
returns-in-Err c = model_answer c.model_refusal.result (asked_of c.args.request.now) c.args.rest.now c.args.model.now c.args.info.now c.in-Err.fault c.requires.built c.in-Err.ensures c.model_refusal.ensures
