use Rattle.emp_solution.proofs.Fit.{base_reaches}
use Rattle.emp_solution.proofs.state.with_rows.Goals as goal

pub returns-in-Ok-clause-base : goal.returns-in-Ok-clause-base
returns-in-Ok-clause-base c = base_reaches c.args.problem c.in-Ok.system c.in-Ok.ensures
