use Rattle.emp_turns.proofs.Laws as Laws
use Rattle.emp_turns.proofs.steps_keep.Goals as goal

pub returns : goal.returns
returns c = Laws.steps_keep
