use Rattle.std.proofs.Common.{◌≡◌, drop}
use Rattle.emp_lex.specs.Words.{of_words}
use Rattle.emp_lex.proofs.WordLists.{bare}
use Rattle.emp_lex.proofs.word.of_words.Given as goal

abbrev pub invariant-loop-word : goal.invariant-loop-word
invariant-loop-word g l = of_words l.other (bare (drop l.word-index l.words)) l.bytes ≡ of_words l.other (bare l.words) l.bytes
