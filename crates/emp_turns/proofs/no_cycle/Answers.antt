use Rattle.emp_turns.proofs.Laws as Laws
use Rattle.emp_turns.proofs.no_cycle.Goals as goal

pub returns : goal.returns
returns c = Laws.no_cycle
