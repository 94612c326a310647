use Rattle.emp_command.specs.Requests.{asked_of}
use Rattle.emp_outcomes.specs.Steps.{outcome_of}
use Rattle.emp_engine.proofs.Saying.{over_market_ends, over_market_starves}
use Rattle.emp_engine.proofs.run.over_market.Goals as goal

pub returns-in-Ok : goal.returns-in-Ok
returns-in-Ok g c words asks = over_market_ends words _ _ _ _ (asked_of c.args.request.now) asks c.requires.range c.requires.verb (outcome_of c.in-Ok.answer) _ c.in-Ok.ensures c.say.ensures.told c.say.ensures.cause

pub returns-in-Err : goal.returns-in-Err
returns-in-Err g c words asks = over_market_starves words _ _ _ _ (asked_of c.args.request.now) asks c.requires.range c.say_refusal.ensures.none_falls _ c.say_refusal.ensures.told c.say_refusal.ensures.cause
