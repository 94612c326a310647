use Rattle.emp_lex.proofs.Lexing.{one_list, one_fault, not_both}
use Rattle.emp_lex.proofs.Existing.{list_or_fault}
use Rattle.emp_lex.proofs.laws.one_reading.Goals as goal

pub returns : goal.returns
returns c = record { some = list_or_fault; one_list = one_list; one_fault = one_fault; not_both = not_both }
