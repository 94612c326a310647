use Rattle.std.proofs.Common.{arith, ap}
use Rattle.emp_command.specs.Course.{refusal}
use Rattle.emp_command.specs.Requests.{asked_of}
use Rattle.emp_makes.proofs.Summing.{said_answer, wide_sum}
use Rattle.emp_makes.proofs.answer.over_values.Goals as goal

pub total-requires-clause-within : goal.total-requires-clause-within
total-requires-clause-within c = omega (arith, c.requires.values.fills.count, c.requires.market.model.variables)

pub returns-in-Ok : goal.returns-in-Ok
returns-in-Ok c = said_answer c.sum_up.result c.args.model.now c.args.annot.now (asked_of c.args.request.now) c.args.values.now c.in-Ok.totals c.requires.values c.in-Ok.ensures c.sum_up.ensures

pub returns-in-Err : goal.returns-in-Err
returns-in-Err c = wide_sum c.args.model.now c.args.annot.now (asked_of c.args.request.now) c.args.values.now c.in-Err.variable _ c.requires.values c.in-Err.ensures (ap (refusal 19) c.value_line.ensures)
