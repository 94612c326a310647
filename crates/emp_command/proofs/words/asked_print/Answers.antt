use Rattle.std.proofs.Common.{string_bytes}
use Rattle.emp_command.proofs.Wording.{print_asks}
use Rattle.emp_command.proofs.words.asked_print.Goals as goal

pub returns : goal.returns
returns c = print_asks string_bytes _ c.if-words-ne2.false (c.are_file_words.ensures.0 c.if-not-are_file_words.false)
