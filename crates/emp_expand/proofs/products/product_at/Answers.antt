use Rattle.std.proofs.Common.{sym, subst₂}
use Rattle.emp_form.specs.Calls.{Runs}
use Rattle.emp_form.specs.Wide.{product_at}
use Rattle.emp_expand.specs.Factors.{fractions}
use Rattle.emp_expand.proofs.Cells.{linear_runs}
use Rattle.emp_expand.proofs.products.product_at.Goals as goal

pub returns-in_ok-behind-in-None-Some : goal.returns-in_ok-behind-in-None-Some
returns-in_ok-behind-in-None-Some c =
    subst₂ (λ u v. Runs (product_at (fractions c.args.left.now) (fractions c.args.right.now) u v) c.add.result) (sym c.in-None-Some.is-0) (sym c.in-None-Some.is-1)
    (linear_runs (fractions c.args.left.now) (fractions c.args.right.now) c.in-None-Some.i c.in_ok-ahead-in-None-Some.ahead c.in_ok-behind-in-None-Some.behind c.add.result c.in_ok-ahead-in-None-Some.ensures c.in_ok-behind-in-None-Some.ensures c.add.ensures)
