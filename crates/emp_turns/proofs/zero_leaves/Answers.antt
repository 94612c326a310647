use Rattle.emp_turns.proofs.Kept as Kept
use Rattle.emp_turns.proofs.zero_leaves.Goals as goal

pub returns : goal.returns
returns c = Kept.zero_leaves
