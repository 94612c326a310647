use Rattle.emp_equilibria.proofs.Faces as Law
use Rattle.emp_equilibria.proofs.laws.faces_solve_files.Goals as goal

pub returns : goal.returns
returns c = Law.faces_solve_files
