use Rattle.emp_walk.proofs.Enough.{never_spent}
use Rattle.emp_walk.proofs.Certified.{best_kinds}
use Rattle.emp_walk.proofs.walk.bisearch.Goals as goal

pub returns-clause-kind : goal.returns-clause-kind
returns-clause-kind c = best_kinds c.args.system.now c.args.work c.found.result c.requires c.found.ensures

pub returns-clause-ends : goal.returns-clause-ends
returns-clause-ends c enough = never_spent c.args.system.now c.args.work c.found.result c.found.ensures enough
