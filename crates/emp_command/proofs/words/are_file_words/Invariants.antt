use Rattle.std.proofs.Common.{All, map, take, string_bytes}
use Rattle.emp_command.specs.Words.{IsFileWord}
use Rattle.emp_command.proofs.words.are_file_words.Given as goal

abbrev pub invariant-loop-word : goal.invariant-loop-word
invariant-loop-word l = All IsFileWord (take l.word-index (map string_bytes l.words))
