use Rattle.emp_make.proofs.Made.{equations_more}
use Rattle.emp_make.proofs.model.equations.Goals as goal

pub loop-firm-preserved : goal.loop-firm-preserved
loop-firm-preserved c = equations_more c.args.seed c.args.firms c.loop-firm.firm c.loop-firm.equations c.push.new.self c.in_ok-equation.field-0 c.loop-firm.invariant c.in_ok-equation.ensures c.in_ok-push.ensures.ok
