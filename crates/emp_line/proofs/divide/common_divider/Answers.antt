use Rattle.std.proofs.Common.{get_or, unsigned_abs, subst, sym}
use Rattle.std.specs.Int.{IsGcd}
use Rattle.emp_line.specs.Sparse.{no_cell}
use Rattle.emp_line.proofs.divide.common_divider.Goals as goal

pub returns-else-divides_at : goal.returns-else-divides_at
returns-else-divides_at c = subst (λ g. IsGcd c.args.divider.divisor (unsigned_abs (get_or c.args.row.now c.args.at no_cell).number) g) (sym c.divider_for.ensures) c.common_with.ensures
