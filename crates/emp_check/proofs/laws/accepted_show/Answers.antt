use Rattle.emp_check.proofs.Shown.{accepted_none, accepted_best}
use Rattle.emp_check.proofs.laws.accepted_show.Goals as goal

pub returns : goal.returns
returns c = record { none = accepted_none; best = accepted_best }
