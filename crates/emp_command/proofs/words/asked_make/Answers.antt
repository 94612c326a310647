use Rattle.std.proofs.Common.{string_bytes}
use Rattle.emp_command.proofs.Wording.{make_asks}
use Rattle.emp_command.proofs.words.asked_make.Goals as goal

pub returns-in-Some-save_option : goal.returns-in-Some-save_option
returns-in-Some-save_option c = make_asks string_bytes _ _ _ _ _ _ _ _ _ _ c.in-Some.ensures.cases c.index-numbers-0.is c.index-numbers-1.is c.as_str.ensures.value c.as_str-2.ensures.value c.in-Some-number_of.ensures c.in-Some-number_of-2.ensures c.in-Some-save_option.ensures
