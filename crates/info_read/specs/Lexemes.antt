-- What the tokens of an annotation are, in the light of a model. Keywords are no names; letters are compared without case.
use Rattle.std.specs.Prelude.{◌≡◌, ℕ, List, [], ◌∷◌, codes, Option, Some, None, slice_range}
use Rattle.emp_list.specs.Case.{lower}
use Rattle.emp_ast.specs.declared.model.Sense.TheVariants.{Min, Max}
use Rattle.emp_ast.specs.declared.model.Model.{Model}
use Rattle.emp_ast.specs.declared.tree.VarId.{VarId}
use Rattle.emp_ast.specs.declared.tree.EquId.{EquId}
use Rattle.emp_ast.specs.Names.{FindsVariable, FindsEquation}
use Rattle.emp_lex.specs.declared.token.Token.{Token}
use Rattle.emp_lex.specs.declared.token.TokenKind.{TokenKind}
use Rattle.emp_lex.specs.declared.token.TokenKind.TheVariants.{Name, Numeral, Text, Relation, Symbol}
use Rattle.emp_lex.specs.Words.{of_words}
use Rattle.info_read.specs.declared.lexeme.Sort.{Sort}
use Rattle.info_read.specs.declared.lexeme.Sort.TheVariants.{Equilibrium, Bilevel, Agent, Vi, Dualvar, Visol, Implicit, Reserved, Variable, Equation, Unknown, Mark}
use Rattle.info_read.specs.declared.lexeme.Lexeme.{Lexeme}

-- the keywords, and what they are
abbrev pub keywords : List (List ℕ × Option Sort)
keywords =
    (codes "equilibrium", Some Equilibrium) ∷ (codes "bilevel", Some Bilevel)
    ∷ (codes "min", Some (Agent Min)) ∷ (codes "max", Some (Agent Max)) ∷ (codes "vi", Some Vi)
    ∷ (codes "dualvar", Some Dualvar) ∷ (codes "visol", Some Visol) ∷ (codes "implicit", Some Implicit)
    ∷ (codes "disjunction", Some Reserved) ∷ (codes "randvar", Some Reserved) ∷ (codes "stage", Some Reserved) ∷ []

-- the keyword that a name is, if it is one
abbrev pub keyword : List ℕ → Option Sort
keyword name = of_words None keywords (lower name)

-- what a name is that is no keyword; where the model has a variable and an equation of that name it is the variable
pub data IsNoun (m : Model) (name : List ℕ) : Sort → Type 0 where
  a_variable : (v : VarId) → FindsVariable m name (Some v) → IsNoun m name (Variable v)
  an_equation : (e : EquId) → FindsVariable m name None → FindsEquation m name (Some e) → IsNoun m name (Equation e)
  unknown : FindsVariable m name None → FindsEquation m name None → IsNoun m name Unknown

abbrev pub IsNameSort : Model → List ℕ → Option Sort → Sort → Type 0
IsNameSort m name (Some k) s = s ≡ k
IsNameSort m name None s = IsNoun m name s

-- a token of these bytes is of that sort
abbrev pub IsSort : Model → TokenKind → List ℕ → Sort → Type 0
IsSort m Name bytes s = IsNameSort m bytes (keyword bytes) s
IsSort m Numeral bytes s = s ≡ Mark
IsSort m Text bytes s = s ≡ Mark
IsSort m Relation bytes s = s ≡ Mark
IsSort m Symbol bytes s = s ≡ Mark

pub record IsLexeme (text : List ℕ) (m : Model) (token : Token) (t : Lexeme) : Type 0 where
  pub place : t.place ≡ token.place
  pub sort : IsSort m token.kind (slice_range text token.from token.to) t.sort

abbrev pub AreLexemes : List ℕ → Model → List Token → List Lexeme → Type 0
AreLexemes text m [] [] = Unit {0}
AreLexemes text m (k ∷ ks) (t ∷ ts) = IsLexeme text m k t × AreLexemes text m ks ts
AreLexemes text m [] (t ∷ ts) = ⊥
AreLexemes text m (k ∷ ks) [] = ⊥
