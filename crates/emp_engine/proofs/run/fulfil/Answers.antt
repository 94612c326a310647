use Rattle.emp_command.specs.Requests.{asked_of}
use Rattle.emp_engine.proofs.Ending.{out_of_range_ends, out_of_range_status}
use Rattle.emp_engine.proofs.run.fulfil.Goals as goal

pub returns-in-Some-clause-ends : goal.returns-in-Some-clause-ends
returns-in-Some-clause-ends g c words asks = out_of_range_ends words _ _ _ _ (asked_of c.args.request.now) c.in-Some.refusal _ asks c.in-Some.ensures c.refuse.ensures.told c.refuse.ensures.ends

pub returns-in-Some-clause-range : goal.returns-in-Some-clause-range
returns-in-Some-clause-range g c h = out_of_range_status (asked_of c.args.request.now) c.in-Some.refusal _ _ c.in-Some.ensures c.refuse.ensures.ends
