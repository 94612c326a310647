use Rattle.emp_expand.specs.Factors.{fractions}
use Rattle.emp_expand.proofs.Cells.{cross_apart}
use Rattle.emp_expand.proofs.products.cross_at.Goals as goal

pub returns : goal.returns
returns c =
    cross_apart (fractions c.args.left.now) (fractions c.args.right.now) c.args.i c.args.j c.in_ok-straight.straight c.in_ok-across.across c.add.result c.if-i-j.false c.in_ok-straight.ensures c.in_ok-across.ensures c.add.ensures
