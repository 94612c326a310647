use Rattle.std.proofs.Common.{◌∙◌}
use Rattle.emp_command.proofs.Delivering.{said_is_part}
use Rattle.emp_command.proofs.delivery.refuse.Goals as goal

pub returns-in-Ok-clause-told : goal.returns-in-Ok-clause-told
returns-in-Ok-clause-told g c = said_is_part _ _ _ _ (c.as_slice.ensures.value ∙ c.line.ensures) c.in-Ok.ensures.said
