use Rattle.emp_algebra.proofs.Vectors.{dot-scale, dot-add_rows}
use Rattle.emp_algebra.proofs.dot_is_linear.Goals as goal

pub returns : goal.returns
returns c = record { scaled = dot-scale; added = dot-add_rows }
