use Rattle.std.proofs.Common.{arith}
use Rattle.emp_subst.proofs.Expanding.{has_first}
use Rattle.emp_subst.proofs.quadratic.first_square.Goals as goal

pub returns-clause-some : goal.returns-clause-some
returns-clause-some c = has_first c.args.quad.now c.get-term.result.now (omega arith) c.get-term.ensures
