use Rattle.emp_form.specs.Wide.{cross_at, scaled_at}
use Rattle.emp_form.proofs.Running.{runs_added}
use Rattle.emp_expand.specs.Factors.{fractions}
use Rattle.emp_expand.proofs.products.square_at.Goals as goal

pub returns : goal.returns
returns c =
    runs_added (cross_at (fractions c.args.left.now) (fractions c.args.right.now) c.args.i c.args.j) (scaled_at (fractions c.args.left.now) (fractions c.args.right.now) c.args.i c.args.j) c.in_ok-crossed.crossed c.in_ok-scaled.scaled c.add.result c.in_ok-crossed.ensures c.in_ok-scaled.ensures c.add.ensures
