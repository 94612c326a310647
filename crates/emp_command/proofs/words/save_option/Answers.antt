use Rattle.std.proofs.Common.{string_bytes, None, subst, sym}
use Rattle.emp_command.specs.Words.{HasSaveOption, unsaved}
use Rattle.emp_command.proofs.Wording.{no_words}
use Rattle.emp_command.proofs.words.save_option.Goals as goal

pub returns-in-empty : goal.returns-in-empty
returns-in-empty c = subst (λ ws. HasSaveOption ws None) (sym (no_words string_bytes _ c.in-empty.len_below)) unsaved
