use Rattle.emp_turns.proofs.Chooser.{choice_is, none_opens, none_stops}
use Rattle.emp_turns.proofs.choices_are.Goals as goal

pub returns : goal.returns
returns c = record { made = choice_is; stop = none_opens; ray = none_stops }
