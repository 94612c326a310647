-- The forms of tokens.
use Rattle.std.specs.Prelude.{◌≡◌, ℕ, ◌≤◌, true, ◌⊎◌, IsTrue, List, [], ◌∷◌, ◌++◌, length, All, codes, slice_index, slice_range}
use Rattle.emp_numeral.specs.Numeral.{numeral_form}
use Rattle.emp_lex.specs.declared.token.Token.{Token}
use Rattle.emp_lex.specs.declared.token.TokenKind.{TokenKind}
use Rattle.emp_lex.specs.declared.token.TokenKind.TheVariants.{Name, Numeral, Text, Relation, Symbol}
use Rattle.emp_lex.specs.declared.scan.Class.TheVariants.{Word, Quoted}
use Rattle.emp_lex.specs.Bytes.{is_letter, is_of, is_relation_letter, is_single}

-- a letter, then letters, digits and `_`, at most 63 in all
pub record IsName (bs : List ℕ) : Type 0 where
  pub letter : is_letter (slice_index bs 0) ≡ true
  pub bytes : All (λ b. IsTrue (is_of Word b)) bs
  pub short : length bs ≤ 63

-- a quote, bytes of the same line other than that quote, and the same quote
pub record IsText (bs : List ℕ) : Type 0 where
  pub quote : ℕ
  pub inner : List ℕ
  pub mark : (quote ≡ 39) ⊎ (quote ≡ 34)
  pub is : bs ≡ quote ∷ (inner ++ quote ∷ [])
  pub bytes : All (λ b. IsTrue (is_of (Quoted quote) b)) inner

-- `=e=`, `=g=`, `=l=` or `=n=`, without case
pub record IsRelation (bs : List ℕ) : Type 0 where
  pub letter : ℕ
  pub is : bs ≡ 61 ∷ letter ∷ 61 ∷ []
  pub known : is_relation_letter letter ≡ true

abbrev pub IsSingle : List ℕ → Type 0
IsSingle bs = (b : ℕ) × (bs ≡ b ∷ []) × (is_single b ≡ true)

abbrev pub IsSymbol : List ℕ → Type 0
IsSymbol bs = (bs ≡ codes "**") ⊎ ((bs ≡ codes "..") ⊎ IsSingle bs)

abbrev pub HasForm : TokenKind → List ℕ → Type 0
HasForm Name bs = IsName bs
HasForm Numeral bs = numeral_form bs ≡ true
HasForm Text bs = IsText bs
HasForm Relation bs = IsRelation bs
HasForm Symbol bs = IsSymbol bs

-- the bytes of a token in a text have the form of its kind
abbrev pub IsFormed : List ℕ → Token → Type 0
IsFormed text t = HasForm t.kind (slice_range text t.from t.to)
