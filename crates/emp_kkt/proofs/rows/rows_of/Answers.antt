use Rattle.std.proofs.Common.{◌+◌, arith, sym, subst, take}
use Rattle.emp_kkt.specs.Making.{AreRows}
use Rattle.emp_kkt.proofs.Forming.{rows_more}
use Rattle.emp_kkt.proofs.rows.rows_of.Goals as goal

pub loop-at-preserved : goal.loop-at-preserved
loop-at-preserved c =
    subst (λ rows. AreRows c.args.problem.now c.args.base (take (c.loop-at.at + 1) c.args.items.now) rows) (sym c.in-Ok.ensures.ok)
    (rows_more c.args.problem.now c.args.base c.args.items.now c.loop-at.out c.loop-at.at c.index-items-at.result c.in_ok-row.row c.loop-at.invariant (omega arith) c.index-items-at.is c.in_ok-row.ensures.0 c.in_ok-row.ensures.1)
