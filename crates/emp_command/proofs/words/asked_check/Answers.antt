use Rattle.std.proofs.Common.{string_bytes}
use Rattle.emp_command.proofs.Wording.{check_asks}
use Rattle.emp_command.proofs.words.asked_check.Goals as goal

pub returns : goal.returns
returns c = check_asks string_bytes _ c.if-words-ne3.false (c.are_file_words.ensures.0 c.if-not-are_file_words.false)
