use Rattle.std.proofs.Common.{arith}
use Rattle.emp_command.specs.Requests.{asked_of}
use Rattle.emp_market.proofs.AcceptMarkets.{market_annots_fit, market_goals_fit}
use Rattle.emp_makes.proofs.Summing.{refused_answer}
use Rattle.emp_makes.proofs.answer.over_market.Goals as goal

pub prepare-requires-clause-variables : goal.prepare-requires-clause-variables
prepare-requires-clause-variables c = omega (arith, c.requires.market.model.variables, c.requires.firms.1)

pub prepare-requires-clause-equations : goal.prepare-requires-clause-equations
prepare-requires-clause-equations c = omega (arith, c.requires.market.model.equations, c.requires.firms.1)

pub prepare-requires-clause-blocks : goal.prepare-requires-clause-blocks
prepare-requires-clause-blocks c = omega (arith, c.requires.market.annot.count, c.requires.firms.1)

pub prepare-requires-clause-fits : goal.prepare-requires-clause-fits
prepare-requires-clause-fits c = market_annots_fit c.args.request.now.seed c.args.request.now.firms c.args.model.now c.args.annot.now c.requires.market

pub prepare-requires-clause-goal : goal.prepare-requires-clause-goal
prepare-requires-clause-goal c = market_goals_fit c.args.request.now.seed c.args.request.now.firms c.args.model.now c.args.annot.now c.requires.market

pub returns-in-Err : goal.returns-in-Err
returns-in-Err c = refused_answer c.refusal_of.result c.args.model.now c.args.annot.now (asked_of c.args.request.now) (c.refusal_of.ensures c.args.annot.now c.in-Err.ensures)
