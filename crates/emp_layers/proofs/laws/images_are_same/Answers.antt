use Rattle.emp_layers.proofs.Files as Files
use Rattle.emp_layers.proofs.laws.images_are_same.Goals as goal

pub returns : goal.returns
returns c = Files.images_are_same
