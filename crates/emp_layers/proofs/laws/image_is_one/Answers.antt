use Rattle.emp_layers.proofs.Files as Files
use Rattle.emp_layers.proofs.laws.image_is_one.Goals as goal

pub returns : goal.returns
returns c = Files.image_is_one
