use Rattle.emp_faces.proofs.Examples as Examples
use Rattle.emp_faces.proofs.laws.example_pieces.Goals as goal

pub returns : goal.returns
returns c = Examples.example_pieces
