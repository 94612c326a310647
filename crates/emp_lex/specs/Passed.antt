-- What is passed over between tokens: blanks, comments, listed dollar lines, and blocks.
use Rattle.std.specs.Prelude.{◌≡◌, ◌⊎◌, ℕ, Bool, true, IsTrue, List, [], ◌++◌, length, All, Some, slice_index}
use Rattle.emp_lex.specs.declared.scan.Class.TheVariants.{Line}
use Rattle.emp_lex.specs.declared.dollar.Directive.TheVariants.{Nothing, Begins}
use Rattle.emp_lex.specs.Bytes.{is_blank, is_of}
use Rattle.emp_lex.specs.DollarLines.{directive, block_size}

-- the first n bytes are the first line, without its end
pub record IsFirstLine (n : ℕ) (text : List ℕ) : Type 0 where
  pub line : List ℕ
  pub rest : List ℕ
  pub is : text ≡ line ++ rest
  pub size : n ≡ length line
  pub bytes : All (λ b. IsTrue (is_of Line b)) line
  pub ends : (rest ≡ []) ⊎ (slice_index rest 0 ≡ 10)

-- the first n bytes are passed over, where the flag says that the first byte begins a line: a space, a tab or an end of a
-- line; a line that begins with `*`; a listed dollar line; or all from a line that begins a block to the line that ends it
pub data IsPassed (begins : Bool) (text : List ℕ) : ℕ → Type 0 where
  a_blank : is_blank (slice_index text 0) ≡ true → IsPassed begins text 1
  a_comment : (n : ℕ) → begins ≡ true → slice_index text 0 ≡ 42 → IsFirstLine n text → IsPassed begins text n
  a_listed_line : (n : ℕ) → begins ≡ true → slice_index text 0 ≡ 36 → directive text ≡ Nothing → IsFirstLine n text → IsPassed begins text n
  a_block : (n : ℕ) → begins ≡ true → slice_index text 0 ≡ 36 → directive text ≡ Begins → block_size true text ≡ Some n → IsPassed begins text n
