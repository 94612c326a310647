use Rattle.emp_dict.proofs.Soundness.{marked_sound}
use Rattle.emp_dict.proofs.laws.marks_keep.Goals as goal

pub returns : goal.returns
returns c = marked_sound
