use Rattle.emp_quantities.proofs.Numbering as Numbering
use Rattle.emp_quantities.proofs.laws.over_is_sound.Goals as goal

pub returns : goal.returns
returns c = Numbering.over_is_sound
