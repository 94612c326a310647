-- The row system of a file, or why it has none.
use Rattle.std.specs.Prelude.{Result, Ok, Err}
use Rattle.emp_ast.specs.declared.model.Model.{Model}
use Rattle.emp_ast.specs.declared.annot.Annot.{Annot}
use Rattle.emp_problem.specs.declared.problem.AgentProblem.{AgentProblem}
use Rattle.emp_problem.specs.Class.{IsClassFile}
use Rattle.emp_problem.specs.ProblemOf.{IsProblemOf}
use Rattle.emp_subst.specs.declared.fault.SubstFault.TheVariants as SubstWords
use Rattle.emp_subst.specs.Subst.{AllExpand, SubstGives}
use Rattle.emp_share.specs.declared.share.ShareFault.TheVariants as ShareWords
use Rattle.emp_share.specs.Share.{ShareGives}
use Rattle.emp_kkt.specs.declared.make.KktFault.TheVariants as KktWords
use Rattle.emp_kkt.specs.Gives.{KktGives}
use Rattle.emp_solution.specs.declared.state.StateFault.{StateFault}
use Rattle.emp_solution.specs.declared.state.StateFault.TheVariants.{Poly, Quadratic, LeaderNotLinear, NotConvex, WideCurve, TooLarge, WideRow, NoMemory}
use Rattle.emp_solution.specs.declared.state.Stated.{Stated}

-- a file of the class whose trees are expanded, its problem with convex agents, and the problem's row system
pub record IsStated (m : Model) (a : Annot) (s : Stated) : Type 0 where
  pub expanded : AllExpand m
  pub class : IsClassFile m a
  pub problem : IsProblemOf m a s.problem
  pub convex : ShareGives s.problem (Ok tt)
  pub rows : KktGives s.problem (Ok s.system)

-- a file of the class whose trees are expanded and whose problem has the fault
pub record HasUnfit (m : Model) (a : Annot) (ends : AgentProblem → Type 0) : Type 0 where
  pub expanded : AllExpand m
  pub class : IsClassFile m a
  pub problem : AgentProblem
  pub is : IsProblemOf m a problem
  pub fault : ends problem

-- its agents are convex, and its rows have the fault
abbrev pub HasUnmade : Model → Annot → (AgentProblem → Type 0) → Type 0
HasUnmade m a fault = HasUnfit m a (λ pr. ShareGives pr (Ok tt) × fault pr)

abbrev pub StateGives : Model → Annot → Result Stated StateFault → Type 0
StateGives m a (Ok s) = IsStated m a s
StateGives m a (Err (Poly f)) = SubstGives m a (Err (SubstWords.Poly f))
StateGives m a (Err (Quadratic e u v)) = SubstGives m a (Err (SubstWords.Quadratic e u v))
StateGives m a (Err (LeaderNotLinear u v)) = SubstGives m a (Err (SubstWords.LeaderNotLinear u v))
StateGives m a (Err (NotConvex b k)) = HasUnfit m a (λ pr. ShareGives pr (Err (ShareWords.NotConvex b k)))
StateGives m a (Err (WideCurve b k)) = HasUnfit m a (λ pr. ShareGives pr (Err (ShareWords.WideCurve b k)))
StateGives m a (Err TooLarge) = HasUnmade m a (λ pr. KktGives pr (Err KktWords.TooLarge))
StateGives m a (Err (WideRow k)) = HasUnmade m a (λ pr. KktGives pr (Err (KktWords.WideRow k)))
StateGives m a (Err NoMemory) = Unit {0}
