-- The file that stands in the place of a complementarity model: the problem's variables and the matched equations, in order of
-- declaration, and one variational inequality.
use Rattle.std.specs.Prelude.{◌≡◌, ℕ, suc, ◌+◌, ◌<◌, Bool, true, false, cond, not, nat_eq, List, [], ◌∷◌, map, filter, length, slice_get, slice_index_or, Some, None}
use Rattle.emp_num.specs.Ratio.{SameRatio}
use Rattle.emp_num.specs.Point.{Point, coordinate}
use Rattle.emp_ast.specs.declared.tree.VarId.{VarId}
use Rattle.emp_ast.specs.declared.tree.Node.{Node}
use Rattle.emp_ast.specs.declared.tree.Node.TheVariants.{Number, Var, Neg, Add, Sub, Mul, Div, Power}
use Rattle.emp_ast.specs.declared.tree.Tree.{Tree}
use Rattle.emp_ast.specs.declared.model.Relation.TheVariants.{AtMost}
use Rattle.emp_ast.specs.declared.model.Equation.{Equation}
use Rattle.emp_ast.specs.declared.model.End.{End}
use Rattle.emp_ast.specs.declared.model.End.TheVariants.{Open, At}
use Rattle.emp_ast.specs.declared.model.Variable.{Variable}
use Rattle.emp_ast.specs.declared.model.Model.{Model}
use Rattle.emp_ast.specs.declared.annot.Annot.{Annot}
use Rattle.emp_ast.specs.Rivals.{Fits}
use Rattle.emp_mcp.specs.Complementary.{Match, is_matched, is_matched_equation, is_of_problem}
use Rattle.emp_mcp.specs.Block.{vi_file}

-- ---- which are kept, by number in order of declaration
abbrev pub kept_from : {X : Type 0} → (ℕ → Bool) → ℕ → List X → List ℕ
kept_from test at [] = []
kept_from test at (x ∷ xs) = cond (test at) (at ∷ kept_from test (at + 1) xs) (kept_from test (at + 1) xs)

abbrev pub problem_variables : Model → List Match → List ℕ
problem_variables m ms = kept_from (is_of_problem m ms) 0 m.variables

abbrev pub problem_equations : Model → List Match → List ℕ
problem_equations m ms = kept_from (is_matched_equation ms) 0 m.equations

-- where a number stands among these; behind them where it is none
abbrev pub place_in : List ℕ → ℕ → ℕ
place_in [] v = 0
place_in (u ∷ us) v = cond (nat_eq u v) 0 (suc (place_in us v))

-- ---- the target
abbrev pub renumbered : List ℕ → Node → Node
renumbered vs (Number f) = Number f
renumbered vs (Var v) = Var (record { at = place_in vs v.at })
renumbered vs (Neg a) = Neg a
renumbered vs (Add a b) = Add a b
renumbered vs (Sub a b) = Sub a b
renumbered vs (Mul a b) = Mul a b
renumbered vs (Div a b) = Div a b
renumbered vs (Power a n) = Power a n

-- the same tree over the problem's variables
pub record IsTreeOver (vs : List ℕ) (s t : Tree) : Type 0 where
  pub nodes : t.nodes ≡ map (renumbered vs) s.nodes
  pub places : t.places ≡ s.places

pub record IsEquationOver (vs : List ℕ) (q r : Equation) : Type 0 where
  pub name : r.name ≡ q.name
  pub left : IsTreeOver vs q.left r.left
  pub right : IsTreeOver vs q.right r.right
  pub relation : r.relation ≡ q.relation

abbrev pub AreEquationsOver : Model → List ℕ → List ℕ → List Equation → Type 0
AreEquationsOver m vs [] [] = Unit {0}
AreEquationsOver m vs [] (r ∷ rs) = ⊥
AreEquationsOver m vs (e ∷ es) [] = ⊥
AreEquationsOver m vs (e ∷ es) (r ∷ rs) = ((q : Equation) → slice_get m.equations e ≡ Some q → IsEquationOver vs q r) × AreEquationsOver m vs es rs

abbrev pub no_variable : Variable
no_variable = record { name = []; low = Open; high = Open }

abbrev pub unmatched : Model → List Match → List VarId
unmatched m ms = map (λ v. record { at = place_in (problem_variables m ms) v }) (filter (λ v. not (is_matched ms v)) (problem_variables m ms))

abbrev pub pair_over : List ℕ → List ℕ → Match → Match
pair_over es vs q = (record { at = place_in es q.0.at }, record { at = place_in vs q.1.at })

abbrev pub matched_pairs : Model → List Match → List Match
matched_pairs m ms = map (pair_over (problem_equations m ms) (problem_variables m ms)) ms

abbrev pub target_annot : Model → List Match → Annot
target_annot m ms = vi_file (unmatched m ms) (matched_pairs m ms)

pub record IsTarget (m : Model) (ms : List Match) (t : Model) : Type 0 where
  pub name : t.name ≡ m.name
  pub variables : t.variables ≡ map (λ v. slice_index_or m.variables v no_variable) (problem_variables m ms)
  pub equations : AreEquationsOver m (problem_variables m ms) (problem_equations m ms) t.equations
  pub goal : t.goal ≡ None

-- ---- matches that break no rule
abbrev pub is_fixed_at : End → End → Type 0
is_fixed_at Open h = ⊥
is_fixed_at (At f) Open = ⊥
is_fixed_at (At f) (At g) = f ≡ g

pub record AreMatches (m : Model) (ms : List Match) : Type 0 where
  pub equations : (i : ℕ) (q : Match) → slice_get ms i ≡ Some q → q.0.at < length m.equations
  pub variables : (i : ℕ) (q : Match) → slice_get ms i ≡ Some q → q.1.at < length m.variables
  pub equation_once : (i j : ℕ) (q r : Match) → slice_get ms i ≡ Some q → slice_get ms j ≡ Some r → q.0.at ≡ r.0.at → i ≡ j
  pub variable_once : (i j : ℕ) (q r : Match) → slice_get ms i ≡ Some q → slice_get ms j ≡ Some r → q.1.at ≡ r.1.at → i ≡ j
  pub relation : (i : ℕ) (q : Match) (e : Equation) → slice_get ms i ≡ Some q → slice_get m.equations q.0.at ≡ Some e → e.relation ≡ AtMost → ⊥
  pub matched : (v : ℕ) (x : Variable) → slice_get m.variables v ≡ Some x → is_of_problem m ms v ≡ true → is_matched ms v ≡ false → is_fixed_at x.low x.high

-- ---- points
-- q is a point of the model, and p has its coordinates of the problem's variables
pub record Shows (m : Model) (ms : List Match) (p q : Point) : Type 0 where
  pub count : length p.nums ≡ length (problem_variables m ms)
  pub fits : Fits m q
  pub same : (v : ℕ) → v < length m.variables → is_of_problem m ms v ≡ true → SameRatio (coordinate q v) (coordinate p (place_in (problem_variables m ms) v))
