use Rattle.std.proofs.Common.{arith}
use Rattle.emp_command.specs.Words.{default_work}
use Rattle.emp_command.specs.Requests.{asked_of}
use Rattle.emp_makes.proofs.Deciding.{point_fits}
use Rattle.emp_makes.proofs.Summing.{unfilled_answer, has_values}
use Rattle.emp_makes.proofs.answer.over_point.Goals as goal

pub values-requires-clause-variables : goal.values-requires-clause-variables
values-requires-clause-variables c = omega (arith, c.requires.market.model.variables, c.requires.firms.1)

pub values-requires-clause-point : goal.values-requires-clause-point
values-requires-clause-point c = point_fits c.args.model.now c.args.annot.now c.args.ready.now.stated c.requires.ready.stated default_work c.args.found.now c.requires.found c.args.point.now c.requires.point

pub over_values-requires-clause-values : goal.over_values-requires-clause-values
over_values-requires-clause-values c =
    has_values c.args.model.now c.args.annot.now c.args.ready.now.stated c.args.found.now c.args.point.now c.as_slice.result.now c.in-Ok.values c.requires.ready.stated c.requires.found c.requires.point c.as_slice.ensures c.in-Ok.ensures

pub returns-in-Err : goal.returns-in-Err
returns-in-Err c =
    unfilled_answer c.fill_refusal.result c.args.model.now c.args.annot.now (asked_of c.args.request.now) c.args.ready.now.stated c.args.found.now c.args.point.now c.in-Err.fault c.requires.ready.stated c.requires.found c.requires.point c.in-Err.ensures c.fill_refusal.ensures
