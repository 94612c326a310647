use Rattle.emp_command.specs.Requests.{asked_of}
use Rattle.emp_outcomes.specs.Steps.{outcome_of}
use Rattle.emp_answers.proofs.Answering.{not_built}
use Rattle.emp_answers.proofs.answer.unbuilt.Goals as goal

pub returns : goal.returns
returns c = not_built (asked_of c.args.request.now) c.args.texts.now (outcome_of c.not_yet.result) c.requires c.not_yet.ensures
