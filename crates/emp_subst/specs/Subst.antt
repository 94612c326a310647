-- What `make` gives: the problem of a file, or the first fault, each outcome with what is so exactly there.
use Rattle.std.specs.Prelude.{◌≡◌, ◌≢◌, ◌⊎◌, ℕ, ◌<◌, ◌≤◌, pos, true, length, slice_get, Some, Result, Ok, Err}
use Rattle.emp_ast.specs.declared.tree.VarId.{VarId}
use Rattle.emp_ast.specs.declared.tree.EquId.{EquId}
use Rattle.emp_ast.specs.declared.tree.Tree.{Tree}
use Rattle.emp_ast.specs.declared.model.Equation.{Equation}
use Rattle.emp_ast.specs.declared.model.Model.{Model}
use Rattle.emp_ast.specs.declared.annot.Annot.{Annot}
use Rattle.emp_ast.specs.Parties.{leader}
use Rattle.emp_form.specs.Form.{Form, IsLinear}
use Rattle.emp_form.specs.Expansion.{form}
use Rattle.emp_poly.specs.declared.quad.Quad.{Quad}
use Rattle.emp_poly.specs.declared.tree.PolyFault.{PolyFault}
use Rattle.emp_poly.specs.declared.tree.PolyFault.TheVariants as PolyWords
use Rattle.emp_poly.specs.Trees.{IsExpansion, FromTreeGives}
use Rattle.emp_agents.specs.Given.{difference, given_form}
use Rattle.emp_problem.specs.declared.problem.AgentProblem.{AgentProblem}
use Rattle.emp_problem.specs.Class.{is_affine, IsClassFile}
use Rattle.emp_problem.specs.ProblemOf.{IsProblemOf}
use Rattle.emp_subst.specs.declared.fault.SubstFault.{SubstFault}
use Rattle.emp_subst.specs.declared.fault.SubstFault.TheVariants.{Poly, Quadratic, LeaderNotLinear, NoMemory}

-- ---- expansions, by equation in order of declaration, left before right
-- no node of the tree has a fault
abbrev pub IsExpanded : Tree → Type 0
IsExpanded t = (q : Quad) × IsExpansion t q

-- both sides of each equation before number n are expanded
abbrev pub ExpandBefore : Model → ℕ → Type 0
ExpandBefore m n = (e : ℕ) (q : Equation) → e < n → slice_get m.equations e ≡ Some q → IsExpanded q.left × IsExpanded q.right

abbrev pub AllExpand : Model → Type 0
AllExpand m = ExpandBefore m (length m.equations)

-- the first tree in that order with a fault has this one
pub record IsFirstFault (m : Model) (f : PolyFault) : Type 0 where
  pub at : ℕ
  pub equation : Equation
  pub is : slice_get m.equations at ≡ Some equation
  pub before : ExpandBefore m at
  pub fault : FromTreeGives equation.left (Err f) ⊎ (IsExpanded equation.left × FromTreeGives equation.right (Err f))

-- ---- quadratic coefficients
-- each constraint and each function before number n has none
abbrev pub LinearBefore : Model → Annot → ℕ → Type 0
LinearBefore m a n = (e : ℕ) (q : Equation) → e < n → slice_get m.equations e ≡ Some q → is_affine m a e ≡ true → IsLinear (form (difference q))

abbrev pub AllLinear : Model → Annot → Type 0
AllLinear m a = LinearBefore m a (length m.equations)

-- variables u and v, of which u is not after v, are the first pair with a coefficient other than 0
pub record IsFirstSquare (f : Form) (u v : ℕ) : Type 0 where
  pub ordered : u ≤ v
  pub here : f.square u v ≢ pos 0
  pub before : (i j : ℕ) → i ≤ j → (i < u) ⊎ ((i ≡ u) × (j < v)) → f.square i j ≡ pos 0

-- all is expanded, and e is the first constraint or function that is quadratic
pub record IsFirstQuadratic (m : Model) (a : Annot) (e : EquId) (u v : VarId) : Type 0 where
  pub expanded : AllExpand m
  pub equation : Equation
  pub is : slice_get m.equations e.at ≡ Some equation
  pub affine : is_affine m a e.at ≡ true
  pub before : LinearBefore m a e.at
  pub square : IsFirstSquare (form (difference equation)) u.at v.at

-- no constraint and no function is quadratic, and the leader's objective is
pub record IsLeaderQuadratic (m : Model) (a : Annot) (u v : VarId) : Type 0 where
  pub expanded : AllExpand m
  pub linear : AllLinear m a
  pub bilevel : a.bilevel ≡ true
  pub square : IsFirstSquare (given_form m a leader) u.at v.at

-- ---- the outcomes
-- the want of memory is a fault by itself
abbrev pub PolyGives : Model → PolyFault → Type 0
PolyGives m PolyWords.NoMemory = ⊥
PolyGives m (PolyWords.Degree p) = IsFirstFault m (PolyWords.Degree p)
PolyGives m (PolyWords.DivideByVariable p) = IsFirstFault m (PolyWords.DivideByVariable p)
PolyGives m (PolyWords.DivideByZero p) = IsFirstFault m (PolyWords.DivideByZero p)
PolyGives m (PolyWords.Wide p) = IsFirstFault m (PolyWords.Wide p)

abbrev pub SubstGives : Model → Annot → Result AgentProblem SubstFault → Type 0
SubstGives m a (Ok pr) = AllExpand m × IsClassFile m a × IsProblemOf m a pr
SubstGives m a (Err (Poly f)) = PolyGives m f
SubstGives m a (Err (Quadratic e u v)) = IsFirstQuadratic m a e u v
SubstGives m a (Err (LeaderNotLinear u v)) = IsLeaderQuadratic m a u v
SubstGives m a (Err NoMemory) = Unit {0}
