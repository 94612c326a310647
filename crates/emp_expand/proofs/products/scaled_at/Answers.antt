use Rattle.std.proofs.Common.{Some, None}
use Rattle.emp_form.specs.Wide.{product}
use Rattle.emp_form.proofs.Running.{runs_added}
use Rattle.emp_expand.specs.Factors.{fractions}
use Rattle.emp_expand.proofs.products.scaled_at.Goals as goal

pub returns : goal.returns
returns c =
    runs_added (product (fractions c.args.left.now) (None, None) (fractions c.args.right.now) (Some c.args.i, Some c.args.j)) (product (fractions c.args.left.now) (Some c.args.i, Some c.args.j) (fractions c.args.right.now) (None, None)) c.in_ok-ahead.ahead c.in_ok-behind.behind c.add.result c.in_ok-ahead.ensures c.in_ok-behind.ensures c.add.ensures
