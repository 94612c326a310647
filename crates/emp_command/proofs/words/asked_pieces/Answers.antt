use Rattle.std.proofs.Common.{string_bytes}
use Rattle.emp_command.proofs.Wording.{pieces_asks}
use Rattle.emp_command.proofs.words.asked_pieces.Goals as goal

pub returns-in-Some-work_option : goal.returns-in-Some-work_option
returns-in-Some-work_option c = pieces_asks string_bytes _ _ _ _ c.in-Some.ensures.cases (c.are_file_words.ensures.0 c.if-not-are_file_words.false) c.in-Some-work_option.ensures
