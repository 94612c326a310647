use Rattle.emp_check.proofs.Complete.{shown_none, shown_best}
use Rattle.emp_check.proofs.Verdicts.{shown_ends}
use Rattle.emp_check.proofs.laws.shown_end.Goals as goal

pub returns : goal.returns
returns c = record { none = shown_none; best = shown_best; certificate = shown_ends }
