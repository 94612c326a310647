use Rattle.emp_turns.proofs.Worked as Worked
use Rattle.emp_turns.proofs.example_turns.Goals as goal

pub returns : goal.returns
returns c = Worked.example_turns
