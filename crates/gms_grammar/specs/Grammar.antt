-- The grammar of models: which lexemes stand for which statements. Sums and products group to the left.
use Rattle.std.specs.Prelude.{◌≡◌, List, [], ◌∷◌, ◌++◌, Option, Some, None}
use Rattle.emp_num.specs.declared.frac.Frac.{Frac}
use Rattle.emp_ast.specs.declared.tree.Operator.{Operator}
use Rattle.emp_ast.specs.declared.tree.Operator.TheVariants.{Plus as AddOperator, Minus as SubOperator, Times as MulOperator, Over as DivOperator}
use Rattle.emp_ast.specs.declared.model.Relation.{Relation}
use Rattle.emp_ast.specs.declared.model.Sense.{Sense}
use Rattle.emp_ast.specs.declared.model.Sense.TheVariants.{Min, Max}
use Rattle.gms_grammar.specs.declared.kind.Kind.{Kind}
use Rattle.gms_grammar.specs.declared.kind.Kind.TheVariants.{Agents, Matches}
use Rattle.gms_grammar.specs.declared.lexeme.Word.{Word}
use Rattle.gms_grammar.specs.declared.lexeme.Word.TheVariants.{All, Using, Emp, Mcp, Minimizing, Maximizing, Infinity}
use Rattle.gms_grammar.specs.declared.lexeme.Domain.{Domain}
use Rattle.gms_grammar.specs.declared.lexeme.Domain.TheVariants.{Free}
use Rattle.gms_grammar.specs.declared.lexeme.Sign.{Sign}
use Rattle.gms_grammar.specs.declared.lexeme.Sign.TheVariants.{Plus, Minus}
use Rattle.gms_grammar.specs.declared.lexeme.Scale.{Scale}
use Rattle.gms_grammar.specs.declared.lexeme.Scale.TheVariants.{Times, Over}
use Rattle.gms_grammar.specs.declared.lexeme.Sort.TheVariants.{Name, Numeral, Text, Relation as Related, Domain as DomainWord, Variables, Equations, Model, Solve, Sign as Signed, Scale as Scaled, Raise, Equals, Semicolon, Comma, Dot, Dots, Open, Close}
use Rattle.gms_grammar.specs.declared.lexeme.Lexeme.{Lexeme}
use Rattle.gms_grammar.specs.declared.limit.Limit.{Limit}
use Rattle.gms_grammar.specs.declared.limit.Limit.TheVariants.{Below, At, Above}
use Rattle.emp_num.specs.Opposite.{opposite}

-- ---- expressions
-- an expression as it is written; `listed` stands for arguments parted by a comma
pub data Written : Type 0 where
  numeral : Lexeme → Frac → Written
  name : Lexeme → Written
  call : Lexeme → Written → Written
  listed : Written → Written → Written
  grouped : Written → Written
  raised : Written → Lexeme → Frac → Written
  signed : Sign → Lexeme → Written → Written
  joined : Operator → Lexeme → Written → Written → Written

abbrev pub IsName : Lexeme → Type 0
IsName t = (w : Word) × (t.sort ≡ Name w)

abbrev pub sum_operator : Sign → Operator
sum_operator Plus = AddOperator
sum_operator Minus = SubOperator

abbrev pub product_operator : Scale → Operator
product_operator Times = MulOperator
product_operator Over = DivOperator

-- the levels of an expression, from the loosest to the tightest
pub data Level : Type 0 where
  Arguments : Level
  Sum : Level
  Term : Level
  Factor : Level
  Primary : Level

-- the lexemes stand for the expression at that level
pub data Stands : Level → List Lexeme → Written → Type 0 where
  -- a numeral; a name; a name with arguments; a sum in parentheses
  a_numeral : (t : Lexeme) (f : Frac) → t.sort ≡ Numeral f → Stands Primary (t ∷ []) (numeral t f)
  a_name : (t : Lexeme) → IsName t → Stands Primary (t ∷ []) (name t)
  a_call : (t o c : Lexeme) (ts : List Lexeme) (a : Written) → IsName t → o.sort ≡ Open → Stands Arguments ts a → c.sort ≡ Close → Stands Primary (t ∷ o ∷ ts ++ c ∷ []) (call t a)
  a_group : (o c : Lexeme) (ts : List Lexeme) (e : Written) → o.sort ≡ Open → Stands Sum ts e → c.sort ≡ Close → Stands Primary (o ∷ ts ++ c ∷ []) (grouped e)
  -- a primary, or a primary raised to a numeral
  a_primary : (ts : List Lexeme) (e : Written) → Stands Primary ts e → Stands Factor ts e
  a_power : (ts : List Lexeme) (p n : Lexeme) (f : Frac) (e : Written) → Stands Primary ts e → p.sort ≡ Raise → n.sort ≡ Numeral f → Stands Factor (ts ++ p ∷ n ∷ []) (raised e p f)
  -- a factor, or a term times or over one factor more
  a_factor : (ts : List Lexeme) (e : Written) → Stands Factor ts e → Stands Term ts e
  a_product : (ts us : List Lexeme) (t : Lexeme) (s : Scale) (e f : Written) → Stands Term ts e → t.sort ≡ Scaled s → Stands Factor us f → Stands Term (ts ++ t ∷ us) (joined (product_operator s) t e f)
  -- a term, a term with a sign, or a sum plus or minus one term more
  a_term : (ts : List Lexeme) (e : Written) → Stands Term ts e → Stands Sum ts e
  a_signed : (t : Lexeme) (s : Sign) (ts : List Lexeme) (e : Written) → t.sort ≡ Signed s → Stands Term ts e → Stands Sum (t ∷ ts) (signed s t e)
  a_sum : (ts us : List Lexeme) (t : Lexeme) (s : Sign) (e f : Written) → Stands Sum ts e → t.sort ≡ Signed s → Stands Term us f → Stands Sum (ts ++ t ∷ us) (joined (sum_operator s) t e f)
  -- one argument, or arguments and one more
  an_argument : (ts : List Lexeme) (e : Written) → Stands Sum ts e → Stands Arguments ts e
  arguments : (ts us : List Lexeme) (c : Lexeme) (e f : Written) → Stands Arguments ts e → c.sort ≡ Comma → Stands Sum us f → Stands Arguments (ts ++ c ∷ us) (listed e f)

-- ---- statements
pub data Statement : Type 0 where
  empty : Statement
  variables : Domain → Lexeme → List Lexeme → Statement
  equations : List Lexeme → Statement
  definition : Lexeme → Written → Relation → Written → Statement
  setting : Lexeme → Lexeme → Limit → Statement
  model : Lexeme → Statement
  matched : Lexeme → List (Lexeme × Lexeme) → Statement
  solve : Lexeme → Option (Sense × Lexeme) → Statement

-- a name, and a text or none
pub data IsEntry : List Lexeme → Lexeme → Type 0 where
  bare : (t : Lexeme) → IsName t → IsEntry (t ∷ []) t
  described : (t x : Lexeme) → IsName t → x.sort ≡ Text → IsEntry (t ∷ x ∷ []) t

-- names, each with a text or none, with or without a comma between two
pub data AreNames : List Lexeme → List Lexeme → Type 0 where
  first : (ts : List Lexeme) (t : Lexeme) → IsEntry ts t → AreNames ts (t ∷ [])
  next : (ts us names : List Lexeme) (t : Lexeme) → AreNames ts names → IsEntry us t → AreNames (ts ++ us) (names ++ t ∷ [])
  next_behind_comma : (ts us names : List Lexeme) (c t : Lexeme) → AreNames ts names → c.sort ≡ Comma → IsEntry us t → AreNames (ts ++ c ∷ us) (names ++ t ∷ [])

-- a numeral or `inf` behind a sign
abbrev pub signed_limit : Sign → Limit → Limit
signed_limit Plus limit = limit
signed_limit Minus Below = Above
signed_limit Minus (At f) = At (opposite f)
signed_limit Minus Above = Below

pub data IsUnsigned : Lexeme → Limit → Type 0 where
  finite : (t : Lexeme) (f : Frac) → t.sort ≡ Numeral f → IsUnsigned t (At f)
  infinite : (t : Lexeme) → t.sort ≡ Name Infinity → IsUnsigned t Above

pub data IsLimit : List Lexeme → Limit → Type 0 where
  no_sign : (t : Lexeme) (limit : Limit) → IsUnsigned t limit → IsLimit (t ∷ []) limit
  with_sign : (g t : Lexeme) (s : Sign) (limit : Limit) → g.sort ≡ Signed s → IsUnsigned t limit → IsLimit (g ∷ t ∷ []) (signed_limit s limit)

-- no objective, or `minimizing` or `maximizing` and a name
pub data IsGoal : List Lexeme → Option (Sense × Lexeme) → Type 0 where
  no_goal : IsGoal [] None
  least : (w t : Lexeme) → w.sort ≡ Name Minimizing → IsName t → IsGoal (w ∷ t ∷ []) (Some (Min, t))
  greatest : (w t : Lexeme) → w.sort ≡ Name Maximizing → IsName t → IsGoal (w ∷ t ∷ []) (Some (Max, t))

-- an equation, a `.` and a variable, with a comma between two
pub data AreMatches : List Lexeme → List (Lexeme × Lexeme) → Type 0 where
  one_match : (e d v : Lexeme) → IsName e → d.sort ≡ Dot → IsName v → AreMatches (e ∷ d ∷ v ∷ []) ((e, v) ∷ [])
  more_matches : (e d v c : Lexeme) (ts : List Lexeme) (qs : List (Lexeme × Lexeme)) → IsName e → d.sort ≡ Dot → IsName v → c.sort ≡ Comma → AreMatches ts qs → AreMatches (e ∷ d ∷ v ∷ c ∷ ts) ((e, v) ∷ qs)

-- each with its `;`
pub data IsStatementOf : Kind → List Lexeme → Statement → Type 0 where
  is_empty : {k : Kind} (z : Lexeme) → z.sort ≡ Semicolon → IsStatementOf k (z ∷ []) empty
  is_variables : {k : Kind} (v z : Lexeme) (ts names : List Lexeme) → v.sort ≡ Variables → AreNames ts names → z.sort ≡ Semicolon → IsStatementOf k (v ∷ ts ++ z ∷ []) (variables Free v names)
  is_domain : {kind : Kind} (d v z : Lexeme) (k : Domain) (ts names : List Lexeme) → d.sort ≡ DomainWord k → v.sort ≡ Variables → AreNames ts names → z.sort ≡ Semicolon → IsStatementOf kind (d ∷ v ∷ ts ++ z ∷ []) (variables k d names)
  is_equations : {k : Kind} (v z : Lexeme) (ts names : List Lexeme) → v.sort ≡ Equations → AreNames ts names → z.sort ≡ Semicolon → IsStatementOf k (v ∷ ts ++ z ∷ []) (equations names)
  is_definition : {kind : Kind} (t d r z : Lexeme) (k : Relation) (ts us : List Lexeme) (left right : Written) → IsName t → d.sort ≡ Dots → Stands Sum ts left → r.sort ≡ Related k → Stands Sum us right → z.sort ≡ Semicolon → IsStatementOf kind (t ∷ d ∷ ts ++ r ∷ us ++ z ∷ []) (definition t left k right)
  is_setting : {k : Kind} (t d a q z : Lexeme) (ts : List Lexeme) (limit : Limit) → IsName t → d.sort ≡ Dot → IsName a → q.sort ≡ Equals → IsLimit ts limit → z.sort ≡ Semicolon → IsStatementOf k (t ∷ d ∷ a ∷ q ∷ ts ++ z ∷ []) (setting t a limit)
  is_model : (m a b c z : Lexeme) (ts : List Lexeme) (t : Lexeme) → m.sort ≡ Model → IsEntry ts t → a.sort ≡ Scaled Over → b.sort ≡ Name All → c.sort ≡ Scaled Over → z.sort ≡ Semicolon → IsStatementOf Agents (m ∷ ts ++ a ∷ b ∷ c ∷ z ∷ []) (model t)
  is_matched : (m a c z : Lexeme) (ts us : List Lexeme) (t : Lexeme) (qs : List (Lexeme × Lexeme)) → m.sort ≡ Model → IsEntry ts t → a.sort ≡ Scaled Over → AreMatches us qs → c.sort ≡ Scaled Over → z.sort ≡ Semicolon → IsStatementOf Matches (m ∷ ts ++ a ∷ us ++ c ∷ z ∷ []) (matched t qs)

pub data IsSolveOf : Kind → List Lexeme → Statement → Type 0 where
  is_solve : (k t u e z : Lexeme) (ts : List Lexeme) (goal : Option (Sense × Lexeme)) → k.sort ≡ Solve → IsName t → u.sort ≡ Name Using → e.sort ≡ Name Emp → IsGoal ts goal → z.sort ≡ Semicolon → IsSolveOf Agents (k ∷ t ∷ u ∷ e ∷ ts ++ z ∷ []) (solve t goal)
  is_mcp : (k t u e z : Lexeme) → k.sort ≡ Solve → IsName t → u.sort ≡ Name Using → e.sort ≡ Name Mcp → z.sort ≡ Semicolon → IsSolveOf Matches (k ∷ t ∷ u ∷ e ∷ z ∷ []) (solve t None)

pub data AreSemicolons : List Lexeme → Type 0 where
  none : AreSemicolons []
  more : (z : Lexeme) (ts : List Lexeme) → z.sort ≡ Semicolon → AreSemicolons ts → AreSemicolons (z ∷ ts)

-- statements, of which `solve` is the last, and nothing but `;` behind it
pub data IsFileOf : Kind → List Lexeme → List Statement → Type 0 where
  last : {k : Kind} (ts zs : List Lexeme) (s : Statement) → IsSolveOf k ts s → AreSemicolons zs → IsFileOf k (ts ++ zs) (s ∷ [])
  then : {k : Kind} (ts us : List Lexeme) (s : Statement) (ss : List Statement) → IsStatementOf k ts s → IsFileOf k us ss → IsFileOf k (ts ++ us) (s ∷ ss)

-- those of files with an annotation
abbrev pub IsStatement : List Lexeme → Statement → Type 0
IsStatement ts s = IsStatementOf Agents ts s

abbrev pub IsSolve : List Lexeme → Statement → Type 0
IsSolve ts s = IsSolveOf Agents ts s

abbrev pub IsFile : List Lexeme → List Statement → Type 0
IsFile ts ss = IsFileOf Agents ts ss
