use Rattle.emp_solution.proofs.Fit.{fit}
use Rattle.emp_solution.proofs.state.state.Goals as goal

pub tested-requires : goal.tested-requires
tested-requires c = record { fit = fit c.args.model.now c.args.annot.now c.in-Ok.problem c.in-Ok.ensures.1 c.in-Ok.ensures.2 }

pub returns-in-Err-clause-gives : goal.returns-in-Err-clause-gives
returns-in-Err-clause-gives c = c.of_subst.ensures c.args.model.now c.args.annot.now c.in-Err.ensures
