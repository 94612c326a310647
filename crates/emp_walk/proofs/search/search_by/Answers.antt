use Rattle.emp_walk.proofs.Starting.{from_first}
use Rattle.emp_walk.proofs.search.search_by.Goals as goal

pub returns-clause-search : goal.returns-clause-search
returns-clause-search g c = from_first c.args.system.now c.args.work c.new.result.limit c.new.result.used c.search_on.result c.new.ensures.limit c.new.ensures.used c.search_on.ensures.search
