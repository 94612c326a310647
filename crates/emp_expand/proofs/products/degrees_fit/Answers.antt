use Rattle.emp_expand.proofs.Degrees.{fit_left, fit_right, fit_both, apart_left, apart_right, apart_both}
use Rattle.emp_expand.proofs.products.degrees_fit.Goals as goal

pub returns-in-Constant : goal.returns-in-Constant
returns-in-Constant c = fit_left c.args.left.now c.args.right.now c.in-Constant.ensures

pub returns-in-Constant-degree : goal.returns-in-Constant-degree
returns-in-Constant-degree c = fit_right c.args.left.now c.args.right.now c.in-Constant-degree.ensures

pub returns-in-Linear-degree : goal.returns-in-Linear-degree
returns-in-Linear-degree c = fit_both c.args.left.now c.args.right.now c.in-Linear.ensures c.in-Linear-degree.ensures

pub returns-in-Quadratic-degree : goal.returns-in-Quadratic-degree
returns-in-Quadratic-degree c = apart_left c.args.left.now c.args.right.now c.in-Linear.ensures c.in-Quadratic-degree.ensures

pub returns-in-Constant-degree-2 : goal.returns-in-Constant-degree-2
returns-in-Constant-degree-2 c = fit_right c.args.left.now c.args.right.now c.in-Constant-degree-2.ensures

pub returns-in-Linear-degree-2 : goal.returns-in-Linear-degree-2
returns-in-Linear-degree-2 c = apart_right c.args.left.now c.args.right.now c.in-Quadratic.ensures c.in-Linear-degree-2.ensures

pub returns-in-Quadratic-degree-2 : goal.returns-in-Quadratic-degree-2
returns-in-Quadratic-degree-2 c = apart_both c.args.left.now c.args.right.now c.in-Quadratic.ensures c.in-Quadratic-degree-2.ensures
