-- What the parts of `make` and `fill` give. This serves proofs; no meaning cites it.
use Rattle.std.specs.Prelude.{◌≡◌, ℕ, ◌<◌, ℤ, pos, negsuc, neg_ℤ, ◌*ℤ◌, Bool, true, false, not, ◌&&◌, nat_eq, List, [], ◌∷◌, All, length, slice_get, Option, Some, None, Result, Ok, Err}
use Rattle.emp_num.specs.declared.frac.Frac.{Frac}
use Rattle.emp_ast.specs.declared.tree.VarId.{VarId}
use Rattle.emp_ast.specs.declared.tree.EquId.{EquId}
use Rattle.emp_ast.specs.declared.model.Equation.{Equation}
use Rattle.emp_ast.specs.declared.model.Sense.{Sense}
use Rattle.emp_ast.specs.declared.model.Sense.TheVariants.{Min, Max}
use Rattle.emp_ast.specs.declared.model.Model.{Model}
use Rattle.emp_ast.specs.declared.annot.Annot.{Annot}
use Rattle.emp_ast.specs.declared.annot.Block.{Block}
use Rattle.emp_ast.specs.declared.annot.Block.TheVariants.{Agent, Vi}
use Rattle.emp_ast.specs.Parties.{leader, names_equation, functions, block_objective}
use Rattle.emp_form.specs.Form.{Form, variable_form, IsLinear}
use Rattle.emp_form.specs.Expansion.{form}
use Rattle.emp_poly.specs.Quads.{HasForm}
use Rattle.emp_poly.specs.Gradient.{LinHasForm}
use Rattle.emp_poly.specs.declared.quad.Quad.{Quad}
use Rattle.emp_poly.specs.declared.quad.Lin.{Lin}
use Rattle.emp_poly.specs.declared.tree.PolyFault.{PolyFault}
use Rattle.emp_poly.specs.declared.tree.PolyFault.TheVariants as PolyWords
use Rattle.emp_owner.specs.Finding.{is_entry}
use Rattle.emp_agents.specs.Given.{difference, IsSign, HasTerm, times_form, without, given_form}
use Rattle.emp_problem.specs.declared.problem.LeaderPart.{LeaderPart}
use Rattle.emp_problem.specs.Left.{goal_form}
use Rattle.emp_problem.specs.ProblemOf.{LeadsFor}
use Rattle.emp_subst.specs.declared.fault.SubstFault.{SubstFault}
use Rattle.emp_subst.specs.declared.fault.SubstFault.TheVariants.{Poly, Quadratic, LeaderNotLinear, NoMemory}
use Rattle.emp_subst.specs.Subst.{AllExpand, IsFirstFault, AllLinear, IsFirstQuadratic, IsFirstSquare}

-- one polynomial for each equation, with the coefficients of its difference
pub record AreDifferences (m : Model) (ds : List Quad) : Type 0 where
  pub count : length ds ≡ length m.equations
  pub each : (e : ℕ) (q : Equation) (d : Quad) → slice_get m.equations e ≡ Some q → slice_get ds e ≡ Some d → HasForm d (form (difference q))

abbrev pub DifferencesGive : Model → Result (List Quad) PolyFault → Type 0
DifferencesGive m (Ok ds) = AllExpand m × AreDifferences m ds
DifferencesGive m (Err PolyWords.NoMemory) = Unit {0}
DifferencesGive m (Err (PolyWords.Degree p)) = IsFirstFault m (PolyWords.Degree p)
DifferencesGive m (Err (PolyWords.DivideByVariable p)) = IsFirstFault m (PolyWords.DivideByVariable p)
DifferencesGive m (Err (PolyWords.DivideByZero p)) = IsFirstFault m (PolyWords.DivideByZero p)
DifferencesGive m (Err (PolyWords.Wide p)) = IsFirstFault m (PolyWords.Wide p)

abbrev pub QuadraticGives : Model → Annot → Option (EquId × VarId × VarId) → Type 0
QuadraticGives m a None = AllLinear m a
QuadraticGives m a (Some t) = IsFirstQuadratic m a t.0 t.1 t.2

-- a polynomial's fault as one of the problem
abbrev pub of_poly : PolyFault → SubstFault
of_poly PolyWords.NoMemory = NoMemory
of_poly (PolyWords.Degree p) = Poly (PolyWords.Degree p)
of_poly (PolyWords.DivideByVariable p) = Poly (PolyWords.DivideByVariable p)
of_poly (PolyWords.DivideByZero p) = Poly (PolyWords.DivideByZero p)
of_poly (PolyWords.Wide p) = Poly (PolyWords.Wide p)

-- ---- terms
abbrev pub sign_of : Bool → ℤ
sign_of false = pos 1
sign_of true = negsuc 0

-- s times each coefficient
abbrev pub LinearTimes : ℤ → List (VarId × Frac) → List (VarId × Frac) → Type 0
LinearTimes s [] [] = Unit {0}
LinearTimes s [] (x ∷ xs) = ⊥
LinearTimes s (t ∷ ts) [] = ⊥
LinearTimes s (t ∷ ts) (x ∷ xs) = (x.0 ≡ t.0) × (x.1.num ≡ s *ℤ t.1.num) × (x.1.den ≡ t.1.den) × LinearTimes s ts xs

abbrev pub SquareTimes : ℤ → List (VarId × VarId × Frac) → List (VarId × VarId × Frac) → Type 0
SquareTimes s [] [] = Unit {0}
SquareTimes s [] (x ∷ xs) = ⊥
SquareTimes s (t ∷ ts) [] = ⊥
SquareTimes s (t ∷ ts) (x ∷ xs) = (x.0 ≡ t.0) × (x.1 ≡ t.1) × (x.2.num ≡ s *ℤ t.2.num) × (x.2.den ≡ t.2.den) × SquareTimes s ts xs

abbrev pub IsTimes : ℤ → Quad → Quad → Type 0
IsTimes s q r = (f : Form) → HasForm q f → HasForm r (times_form s f)

abbrev pub IsWithout : ℕ → Quad → Quad → Type 0
IsWithout w q r = (f : Form) → HasForm q f → HasForm r (without w f)

-- -s times the rest, where w stands with s alone
abbrev pub IsSolved : ℕ → Quad → Quad → Type 0
IsSolved w q r = (f : Form) (s : ℤ) → HasForm q f → IsSign s → HasTerm w s f → HasForm r (times_form (neg_ℤ s) (without w f))

-- what the definition gives for w, and the variable itself where there is none
abbrev pub SolvesBy : List Quad → ℕ → Option EquId → Quad → Type 0
SolvesBy ds w None r = HasForm r (variable_form w)
SolvesBy ds w (Some e) r = (q : Quad) × (slice_get ds e.at ≡ Some q) × IsSolved w q r

abbrev pub EntryFits : ℕ → Option EquId → Type 0
EntryFits n None = Unit {0}
EntryFits n (Some e) = e.at < n

abbrev pub PairsFit : ℕ → Block → Type 0
PairsFit n (Agent sense objective vars equs) = Unit {0}
PairsFit n (Vi zeros pairs equs) = All (λ q. q.0.at < n) pairs

abbrev pub is_max : Sense → Bool
is_max Min = false
is_max Max = true

-- ---- constraints and own variables
-- an equation that neither is the definition nor is the function of a pair
abbrev pub is_rest : Block → Option EquId → ℕ → Bool
is_rest b d e = not (is_entry d e) && not (names_equation (functions b) e)

abbrev pub is_some : Option EquId → Bool
is_some None = false
is_some (Some e) = true

-- the objective variable of a block that has a definition
abbrev pub is_solved_by : Option EquId → Option (Sense × ℕ) → ℕ → Bool
is_solved_by d None v = false
is_solved_by d (Some w) v = nat_eq w.1 v && is_some d

abbrev pub is_solved : Block → Option EquId → ℕ → Bool
is_solved b d v = is_solved_by d (block_objective (Some b)) v

-- ---- the leader
abbrev pub LeaderGoalGives : Model → Annot → Result Lin SubstFault → Type 0
LeaderGoalGives m a (Ok l) = LinHasForm l (goal_form m a leader) × IsLinear (given_form m a leader)
LeaderGoalGives m a (Err (Poly f)) = ⊥
LeaderGoalGives m a (Err (Quadratic e u v)) = ⊥
LeaderGoalGives m a (Err (LeaderNotLinear u v)) = IsFirstSquare (given_form m a leader) u.at v.at
LeaderGoalGives m a (Err NoMemory) = Unit {0}

abbrev pub LeaderGives : Model → Annot → Result (Option LeaderPart) SubstFault → Type 0
LeaderGives m a (Ok l) = LeadsFor m a a.bilevel l × (a.bilevel ≡ true → IsLinear (given_form m a leader))
LeaderGives m a (Err (Poly f)) = ⊥
LeaderGives m a (Err (Quadratic e u v)) = ⊥
LeaderGives m a (Err (LeaderNotLinear u v)) = (a.bilevel ≡ true) × IsFirstSquare (given_form m a leader) u.at v.at
LeaderGives m a (Err NoMemory) = Unit {0}
