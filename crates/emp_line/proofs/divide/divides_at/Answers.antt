use Rattle.std.proofs.Common.{get_or}
use Rattle.emp_line.specs.Sparse.{no_cell}
use Rattle.emp_line.proofs.Exactly.{divides_exactly}
use Rattle.emp_line.proofs.divide.divides_at.Goals as goal

pub returns-in-Some : goal.returns-in-Some
returns-in-Some c = λ h. divides_exactly c.in-Some.field-0 (get_or c.args.cells.now c.args.at no_cell).number c.args.divider.divisor c.in-Some.ensures
