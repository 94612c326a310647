use Rattle.emp_cert_text.proofs.Spaced.{not_narrow}
use Rattle.emp_cert_text.proofs.lines.push_whole.Goals as goal

pub returns-in_ok-push-in-Outside : goal.returns-in_ok-push-in-Outside
returns-in_ok-push-in-Outside c = (c.in_ok-push-in-Outside.ensures.ok, c.in-Outside.ensures.0, not_narrow c.args.word.now c.in-Outside.ensures.1)
