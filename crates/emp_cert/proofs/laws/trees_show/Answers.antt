use Rattle.emp_cert.proofs.Shown.{none_shown, best_shown}
use Rattle.emp_cert.proofs.laws.trees_show.Goals as goal

pub returns : goal.returns
returns c = record { none = none_shown; best = best_shown }
