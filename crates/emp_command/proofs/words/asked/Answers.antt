use Rattle.std.proofs.Common.{string_bytes}
use Rattle.emp_command.proofs.Wording.{no_first_asks}
use Rattle.emp_command.proofs.words.asked.Goals as goal

pub returns-in-None : goal.returns-in-None
returns-in-None c = no_first_asks string_bytes _ _ _ _ c.in-Some.ensures.cases.0 c.as_str.ensures.value c.in-None.ensures
