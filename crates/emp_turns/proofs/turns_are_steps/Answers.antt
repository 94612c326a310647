use Rattle.emp_turns.proofs.Chooser.{step_of}
use Rattle.emp_turns.proofs.turns_are_steps.Goals as goal

pub returns : goal.returns
returns c = step_of
