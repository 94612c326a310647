use Rattle.std.proofs.Common.{string_bytes}
use Rattle.emp_command.proofs.Wording.{migrate_asks}
use Rattle.emp_command.proofs.words.asked_migrate.Goals as goal

pub returns : goal.returns
returns c = migrate_asks string_bytes _ _ _ c.if-words-ne4.false c.index-words-3.is c.as_str.ensures.value (c.are_file_words.ensures.0 c.if-not-are_file_words.false)
