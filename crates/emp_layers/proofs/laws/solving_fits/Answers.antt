use Rattle.emp_layers.proofs.Files as Files
use Rattle.emp_layers.proofs.laws.solving_fits.Goals as goal

pub returns : goal.returns
returns c = Files.solving_fits
