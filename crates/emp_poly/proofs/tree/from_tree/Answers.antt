use Rattle.std.proofs.Common.{subst}
use Rattle.emp_ast.specs.Expression.{expression_of}
use Rattle.emp_form.specs.Expansion.{form}
use Rattle.emp_expand.specs.Expanding.{Expands, Stops}
use Rattle.emp_poly.proofs.Gatherings.{loosely}
use Rattle.emp_poly.proofs.Values.{expansion, tree_value_is, fault_is}
use Rattle.emp_poly.proofs.tree.from_tree.Goals as goal

pub collected-requires : goal.collected-requires
collected-requires c = (form (expression_of c.as_slice.result.now), loosely c.in-Ok.all (form (expression_of c.as_slice.result.now)) c.in-Ok.ensures.stands)

pub returns-in-Ok-collected-clause-cause : goal.returns-in-Ok-collected-clause-cause
returns-in-Ok-collected-clause-cause c = expansion c.args.tree.now c.in-Ok.all c.in-Ok-collected.quad (subst (λ ns. Expands ns c.in-Ok.all) c.as_slice.ensures c.in-Ok.ensures) c.in-Ok-collected.ensures

pub returns-in-Ok-collected-clause-value : goal.returns-in-Ok-collected-clause-value
returns-in-Ok-collected-clause-value c = λ p.
    tree_value_is c.args.tree.now c.in-Ok-collected.quad p (expansion c.args.tree.now c.in-Ok.all c.in-Ok-collected.quad (subst (λ ns. Expands ns c.in-Ok.all) c.as_slice.ensures c.in-Ok.ensures) c.in-Ok-collected.ensures)

pub returns-in-Err-clause-cause : goal.returns-in-Err-clause-cause
returns-in-Err-clause-cause c =
    fault_is c.args.tree.now c.in-Err.stop c.get.result.now c.fault_at.result (subst (λ ns. Stops ns c.in-Err.stop) c.as_slice.ensures c.in-Err.ensures) c.get.ensures c.fault_at.ensures
