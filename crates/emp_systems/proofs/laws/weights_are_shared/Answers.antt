use Rattle.emp_systems.proofs.Blocks as Blocks
use Rattle.emp_systems.proofs.laws.weights_are_shared.Goals as goal

pub returns : goal.returns
returns c = Blocks.weights_are_shared
