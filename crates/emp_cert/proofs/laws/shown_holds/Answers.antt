use Rattle.emp_cert.proofs.Shown.{shown_holds}
use Rattle.emp_cert.proofs.laws.shown_holds.Goals as goal

pub returns : goal.returns
returns c = shown_holds
