use Rattle.emp_turns.proofs.Laws as Laws
use Rattle.emp_turns.proofs.ends_in_time.Goals as goal

pub returns : goal.returns
returns c = Laws.ends_in_time
