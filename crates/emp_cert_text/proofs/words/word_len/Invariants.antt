use Rattle.std.proofs.Common.{◌≡◌, ◌++◌, take, drop}
use Rattle.emp_cert_text.specs.Words.{first_word, after_word}
use Rattle.emp_cert_text.proofs.words.word_len.Given as goal

abbrev pub invariant-loop-at : goal.invariant-loop-at
invariant-loop-at l = record {
  word : first_word l.text ≡ take l.at l.text ++ first_word (drop l.at l.text);
  rest : after_word l.text ≡ after_word (drop l.at l.text);
}
