use Rattle.std.proofs.Common.{string_bytes}
use Rattle.emp_command.proofs.Wording.{solve_asks}
use Rattle.emp_command.proofs.words.asked_solve.Goals as goal

pub returns-in-Some-solve_options : goal.returns-in-Some-solve_options
returns-in-Some-solve_options c = solve_asks string_bytes _ _ _ _ _ c.in-Some.ensures.cases (c.are_file_words.ensures.0 c.if-not-are_file_words.false) c.in-Some-solve_options.ensures
