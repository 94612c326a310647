use Rattle.std.proofs.Common.{string_bytes, subst, sym}
use Rattle.emp_command.specs.Words.{HasWorkOption, by_default}
use Rattle.emp_command.proofs.Wording.{no_words}
use Rattle.emp_command.proofs.words.work_option.Goals as goal

pub returns-in-empty : goal.returns-in-empty
returns-in-empty c = subst (λ ws. HasWorkOption ws 1000000) (sym (no_words string_bytes _ c.in-empty.len_below)) by_default
