use Rattle.emp_expand.proofs.Degrees.{constant_form, not_constant, not_linear, constant_linear}
use Rattle.emp_expand.proofs.Filling.{zero_constant, over_node}
use Rattle.emp_expand.proofs.products.divide.Goals as goal

pub returns-in-Some : goal.returns-in-Some
returns-in-Some c =
    over_node c.args.left.now c.args.right.now c.fraction.result c.over-all.result c.node_result.result c.in-Constant.ensures c.fraction.ensures c.in-Some.ensures.1 c.over-all.ensures c.node_result.ensures

pub returns-in-None : goal.returns-in-None
returns-in-None c = λ f g h k. (constant_form c.args.right.now g k c.in-Constant.ensures, zero_constant c.args.right.now g c.fraction.result k c.fraction.ensures c.in-None.ensures)

pub returns-in-Linear : goal.returns-in-Linear
returns-in-Linear c = λ f g h k. not_constant c.args.right.now g c.in-Linear.ensures.1.0 c.in-Linear.ensures.1.1 k c.in-Linear.ensures.1.2

pub returns-in-Quadratic : goal.returns-in-Quadratic
returns-in-Quadratic c =
    λ f g h k m. not_linear c.args.right.now g c.in-Quadratic.ensures.0 c.in-Quadratic.ensures.1 c.in-Quadratic.ensures.2 k c.in-Quadratic.ensures.3 (constant_linear g m)
