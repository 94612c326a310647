use Rattle.emp_walk.proofs.Certified.{found_gives}
use Rattle.emp_walk.proofs.walk.found.Goals as goal

pub returns-in-Ok-certified : goal.returns-in-Ok-certified
returns-in-Ok-certified c = found_gives c.args.system.now c.args.work c.in-Ok.answer c.in-Ok-certified.found c.in-Ok.ensures.search c.in-Ok-certified.ensures.names c.in-Ok-certified.ensures.answer
