-- The lines of refusals that need no text: each ends with LF.
use Rattle.std.specs.Prelude.{ℕ, List, ◌++◌, codes, decimal}

abbrev pub bad_words_line : List ℕ
bad_words_line = codes "error 10: bad words\n"

-- k counts the files that the words name to be read, from 1
abbrev pub unread_line : ℕ → List ℕ
unread_line k = codes "error 11: cannot read file " ++ decimal k ++ codes "\n"

abbrev pub unwritten_line : List ℕ
unwritten_line = codes "error 12: cannot write\n"

abbrev pub too_long_line : ℕ → ℕ → List ℕ
too_long_line k most = codes "error 13: file " ++ decimal k ++ codes " is longer than " ++ decimal most ++ codes " bytes\n"

abbrev pub no_memory_line : List ℕ
no_memory_line = codes "error 21: no memory\n"

abbrev pub work_line : List ℕ
work_line = codes "error 24: work out of range\n"

abbrev pub firms_line : List ℕ
firms_line = codes "error 24: firms out of range\n"
