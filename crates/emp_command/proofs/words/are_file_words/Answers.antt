use Rattle.std.proofs.Common.{◌<◌, ◌≤◌, length, string_bytes, refl, sym, subst, ◌∙◌, arith}
use Rattle.std.proofs.lemmas.Bool.{false≢true}
use Rattle.emp_command.specs.Words.{IsFileWord}
use Rattle.emp_command.proofs.Wording.{all_named, one_unnamed}
use Rattle.emp_command.proofs.words.are_file_words.Goals as goal

pub returns-then-not-is_file_word : goal.returns-then-not-is_file_word
returns-then-not-is_file_word c =
    let below : c.loop-word.word-index < length c.args.words.now = omega arith in
    let no = c.if-not-is_file_word.true in
    let named = c.is_file_word.ensures.1 in
    (λ t. absurd (false≢true t), λ a. absurd (one_unnamed string_bytes _ _ _ below c.word-item.is (λ k. false≢true (sym no ∙ named (subst IsFileWord (sym c.as_str.ensures.value) k))) a))

pub returns : goal.returns
returns c =
    let over : length c.args.words.now ≤ c.loop-word.word-index = omega arith in
    (λ t. all_named string_bytes _ _ over c.loop-word.invariant, λ a. refl)
