-- The way back of all three rewritings of a file that has rows gives what `fill` gives.
use Rattle.std.proofs.Common.{◌≡◌, ℕ, List, length, take, Result, Ok, Err, arith, ◌∙◌}
use Rattle.emp_num.specs.Point.{Point, StandsFor}
use Rattle.emp_num.specs.declared.frac.Frac.{Frac}
use Rattle.emp_num.proofs.Commons.{common_point, stands_for_common}
use Rattle.emp_ast.specs.declared.model.Model.{Model}
use Rattle.emp_ast.specs.declared.annot.Annot.{Annot}
use Rattle.emp_split.proofs.Reforms.{front}
use Rattle.emp_problem.specs.Problem.{game}
use Rattle.emp_whole.proofs.Games.{problems_have_games}
use Rattle.emp_meaning.proofs.Assembly.{games_are_well_made}
use Rattle.emp_solution.specs.declared.state.Stated.{Stated}
use Rattle.emp_solution.specs.Stated.{IsStated}
use Rattle.emp_solution.proofs.Fit.{base_reaches}
use Rattle.emp_reform.specs.declared.fault.BackFault.{BackFault}
use Rattle.emp_reform.specs.declared.fault.BackFault.TheVariants.{NoMemory, Wide}
use Rattle.emp_reform.specs.Back.{BackGives}
use Rattle.emp_layers.specs.Layers.{IsFilesProblem, IsProblemsSystem}
use Rattle.emp_layers.specs.Image.{image}
use Rattle.emp_layers.proofs.Wides.{wide_at}
use Rattle.emp_layers.proofs.Backs.{image_is_filling, given_wide}
use Rattle.emp_layers.proofs.Systems.{rows_fit, front_stands}
use Rattle.emp_chain.specs.declared.file.FilePoint.{FilePoint}
use Rattle.emp_chain.specs.Members.{ValuesGive}

-- the system of a file that has rows is that of its problem
pub stated_system : (m : Model) (a : Annot) (s : Stated) → IsStated m a s → IsProblemsSystem s.problem s.system
stated_system m a s h = record { made = λ n over. games_are_well_made n m a (game n s.problem) h.class (problems_have_games n m a s.problem h.problem over); convex = h.convex; rows = h.rows }

module _ (m : Model) (a : Annot) (s : Stated) (h : IsStated m a s) (fs : List Frac) (count : length fs ≡ s.system.base) where
  abbrev size : ℕ
  size = length s.problem.variables

  -- the point of the problem
  abbrev here : Point
  here = front size (common_point fs)

  files : IsFilesProblem m a s.problem
  files = record { class = h.class; problem = h.problem }

  fits : length here.nums ≡ size
  fits = rows_fit s.problem s.system (common_point fs) (stated_system m a s h) ((stands_for_common fs).count ∙ count)

  stands : StandsFor (take size fs) here
  stands = front_stands size fs (common_point fs) (let reach = base_reaches s.problem s.system h.rows in omega (arith, reach, count)) (stands_for_common fs)

  pub chain_gives : (r : Result FilePoint BackFault) → BackGives (λ (x : FilePoint) p. StandsFor x.values p) (image m a s.problem here) (wide_at m a s.problem here) r → ValuesGive m a s fs r
  chain_gives (Ok x) g = image_is_filling m a s.problem files here fits (take size fs) stands x.values g.0 g.1
  chain_gives (Err (Wide k)) g = given_wide m a s.problem here (take size fs) stands k g
  chain_gives (Err NoMemory) g = tt
