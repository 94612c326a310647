-- What the tokens of a text are to the grammar. Keywords are no names; letters are compared without case.
use Rattle.std.specs.Prelude.{◌≡◌, ℕ, List, [], ◌∷◌, codes, Ok, slice_range}
use Rattle.emp_num.specs.declared.frac.Frac.{Frac}
use Rattle.emp_numeral.specs.Numeral.{NumeralGives}
use Rattle.emp_list.specs.Case.{lower}
use Rattle.emp_ast.specs.declared.model.Relation.{Relation}
use Rattle.emp_ast.specs.declared.model.Relation.TheVariants.{Equal, AtLeast, AtMost, Nothing}
use Rattle.emp_lex.specs.declared.token.Token.{Token}
use Rattle.emp_lex.specs.declared.token.TokenKind.{TokenKind}
use Rattle.emp_lex.specs.declared.token.TokenKind.TheVariants.{Name as IsName, Numeral as IsNumeral, Text as IsText, Relation as IsRelation, Symbol as IsSymbol}
pub use Rattle.emp_lex.specs.Words.{of_words}
use Rattle.gms_grammar.specs.declared.lexeme.Word.{Word}
use Rattle.gms_grammar.specs.declared.lexeme.Word.TheVariants.{All, Using, Emp, Mcp, Minimizing, Maximizing, Infinity, Square, Power, Low, High, Fixed, Level, Marginal, Other}
use Rattle.gms_grammar.specs.declared.lexeme.Domain.TheVariants.{Free, Positive, Negative, Discrete}
use Rattle.gms_grammar.specs.declared.lexeme.Sign.TheVariants.{Plus, Minus}
use Rattle.gms_grammar.specs.declared.lexeme.Scale.TheVariants.{Times, Over}
use Rattle.gms_grammar.specs.declared.lexeme.Sort.{Sort}
use Rattle.gms_grammar.specs.declared.lexeme.Sort.TheVariants.{Name, Numeral, Text, Relation as Related, Domain, Variables, Equations, Model, Solve, Sign, Scale, Raise, Equals, Semicolon, Comma, Dot, Dots, Open, Close}
use Rattle.gms_grammar.specs.declared.lexeme.Lexeme.{Lexeme}

-- the keywords, and what they are
abbrev pub keywords : List (List ℕ × Sort)
keywords =
    (codes "free", Domain Free) ∷ (codes "positive", Domain Positive) ∷ (codes "negative", Domain Negative)
    ∷ (codes "binary", Domain Discrete) ∷ (codes "integer", Domain Discrete) ∷ (codes "semicont", Domain Discrete) ∷ (codes "semiint", Domain Discrete) ∷ (codes "sos1", Domain Discrete) ∷ (codes "sos2", Domain Discrete)
    ∷ (codes "variable", Variables) ∷ (codes "variables", Variables) ∷ (codes "equation", Equations) ∷ (codes "equations", Equations) ∷ (codes "model", Model) ∷ (codes "solve", Solve) ∷ []

-- the names that some rule asks for by their letters
abbrev pub words : List (List ℕ × Word)
words =
    (codes "all", All) ∷ (codes "using", Using) ∷ (codes "emp", Emp) ∷ (codes "mcp", Mcp) ∷ (codes "minimizing", Minimizing) ∷ (codes "maximizing", Maximizing) ∷ (codes "inf", Infinity)
    ∷ (codes "sqr", Square) ∷ (codes "power", Power) ∷ (codes "lo", Low) ∷ (codes "up", High) ∷ (codes "fx", Fixed) ∷ (codes "l", Level) ∷ (codes "m", Marginal) ∷ []

abbrev pub word_sort : List ℕ → Sort
word_sort bs = of_words (Name (of_words Other words (lower bs))) keywords (lower bs)

-- `=e=`, `=g=`, `=l=` and, for what is left, `=n=`
abbrev pub relation_of : List ℕ → Relation
relation_of bs = of_words Nothing ((codes "=e=", Equal) ∷ (codes "=g=", AtLeast) ∷ (codes "=l=", AtMost) ∷ []) (lower bs)

abbrev pub symbol_sort : List ℕ → Sort
symbol_sort bs =
    of_words Equals
    ((codes "+", Sign Plus) ∷ (codes "-", Sign Minus) ∷ (codes "*", Scale Times) ∷ (codes "/", Scale Over) ∷ (codes "**", Raise) ∷ (codes ";", Semicolon) ∷ (codes ",", Comma) ∷ (codes ".", Dot) ∷ (codes "..", Dots) ∷ (codes "(", Open) ∷ (codes ")", Close) ∷ [])
    bs

-- a token of these bytes is of that sort; a numeral is so with its value
abbrev pub IsSort : TokenKind → List ℕ → Sort → Type 0
IsSort IsName bs s = s ≡ word_sort bs
IsSort IsNumeral bs s = (f : Frac) × (s ≡ Numeral f) × NumeralGives bs (Ok f)
IsSort IsText bs s = s ≡ Text
IsSort IsRelation bs s = s ≡ Related (relation_of bs)
IsSort IsSymbol bs s = s ≡ symbol_sort bs

-- the bytes of a lexeme
abbrev pub spelling : List ℕ → Lexeme → List ℕ
spelling text t = slice_range text t.from t.to

pub record IsLexeme (text : List ℕ) (token : Token) (t : Lexeme) : Type 0 where
  pub from : t.from ≡ token.from
  pub to : t.to ≡ token.to
  pub place : t.place ≡ token.place
  pub sort : IsSort token.kind (spelling text t) t.sort

abbrev pub AreLexemes : List ℕ → List Token → List Lexeme → Type 0
AreLexemes text [] [] = Unit {0}
AreLexemes text (k ∷ ks) (t ∷ ts) = IsLexeme text k t × AreLexemes text ks ts
AreLexemes text [] (t ∷ ts) = ⊥
AreLexemes text (k ∷ ks) [] = ⊥
