use Rattle.std.proofs.Common.{string_bytes, None, subst, sym}
use Rattle.emp_command.specs.Words.{HasSolveOptions, no_option}
use Rattle.emp_command.specs.Requests.{SolveOptionsGive}
use Rattle.emp_command.proofs.Wording.{no_words, four_words}
use Rattle.emp_command.proofs.words.solve_options.Goals as goal

pub returns-in-empty : goal.returns-in-empty
returns-in-empty c = subst (λ ws. HasSolveOptions ws None 1000000) (sym (no_words string_bytes _ c.in-empty.len_below)) no_option

pub returns-in-len4 : goal.returns-in-len4
returns-in-len4 c =
    let e = four_words string_bytes _ _ _ _ _ _ _ _ _ c.in-len4.len_at_least c.in-len4.len_below c.key-item-then-options-lt5.is c.value-item-then-options-lt5.is c.other-item.is c.last-item.is c.as_str-in-len4.ensures.value c.as_str-in-len4-2.ensures.value c.as_str-in-len4-3.ensures.value c.as_str-in-len4-4.ensures.value in
    subst (λ ws. SolveOptionsGive ws c.two_options.result) e c.two_options.ensures
