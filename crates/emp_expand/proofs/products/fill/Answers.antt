use Rattle.std.proofs.Common.{inr, sym, subst}
use Rattle.emp_expand.specs.Factors.{fractions}
use Rattle.emp_expand.specs.Steps.{Ends}
use Rattle.emp_expand.specs.Joins.{result_at}
use Rattle.emp_expand.proofs.products.fill.Goals as goal

pub returns-in_default-finished : goal.returns-in_default-finished
returns-in_default-finished c = inr (c.in-Ok.value, c.in-Ok.ensures.0, c.in_default-finished.ensures)

pub returns : goal.returns
returns c = record {
  here = subst (λ o. Ends (result_at c.args.over (fractions c.args.left.now) (fractions c.args.right.now) c.args.at) o) (sym c.in-Ok-set.ensures.here) (c.in-Ok.value, c.in-Ok.ensures.0, c.in-Ok.ensures.1, c.in-Ok-finished.ensures);
  others = c.in-Ok-set.ensures.others;
}
