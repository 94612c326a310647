use Rattle.std.proofs.Common.{sym, subst}
use Rattle.emp_form.specs.Calls.{given, Runs}
use Rattle.emp_form.proofs.Running.{runs_given, runs_added, runs_subtracted}
use Rattle.emp_expand.specs.Steps.{sum_of}
use Rattle.emp_expand.proofs.sums.sum_of.Goals as goal

pub returns-then-minus : goal.returns-then-minus
returns-then-minus c =
    subst (λ m. Runs (sum_of m c.args.left c.args.right) c.sub.result) (sym c.if-minus.true)
    (runs_subtracted (given c.args.left) (given c.args.right) c.args.left c.args.right c.sub.result (runs_given c.args.left) (runs_given c.args.right) c.sub.ensures)

pub returns-else-minus : goal.returns-else-minus
returns-else-minus c =
    subst (λ m. Runs (sum_of m c.args.left c.args.right) c.add.result) (sym c.if-minus.false)
    (runs_added (given c.args.left) (given c.args.right) c.args.left c.args.right c.add.result (runs_given c.args.left) (runs_given c.args.right) c.add.ensures)
