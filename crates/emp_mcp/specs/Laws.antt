-- The laws of a complementarity model and the file in its place, as statements.
use Rattle.std.specs.Prelude.{◌≡◌, length, List}
use Rattle.emp_num.specs.Point.{Point}
use Rattle.emp_ast.specs.declared.model.Model.{Model}
use Rattle.emp_ast.specs.Rivals.{Fits}
use Rattle.emp_ast.specs.Equilibrium.{IsEquilibrium}
use Rattle.emp_owner.specs.Settled.{IsKept}
use Rattle.emp_mcp.specs.Complementary.{Match, IsComplementary}
use Rattle.emp_mcp.specs.Faults.{AreUnbroken}
use Rattle.emp_mcp.specs.Target.{problem_variables, target_annot, IsTarget, AreMatches, Shows}

pub record TargetsKeepPoints : Type 0 where
  -- an equilibrium of the target shows complementary points alone
  pub sound : (m : Model) (ms : List Match) (t : Model) (p q : Point) → AreMatches m ms → IsTarget m ms t → Shows m ms p q → IsEquilibrium t (target_annot m ms) p → IsComplementary m ms q
  -- and what shows a complementary point is an equilibrium of the target
  pub lifts : (m : Model) (ms : List Match) (t : Model) (p q : Point) → AreMatches m ms → IsTarget m ms t → Shows m ms p q → IsComplementary m ms q → IsEquilibrium t (target_annot m ms) p
  -- each point of the one kind has one of the other
  pub shown : (m : Model) (ms : List Match) (q : Point) → Fits m q → (p : Point) × Shows m ms p q
  pub showing : (m : Model) (ms : List Match) (p : Point) → length p.nums ≡ length (problem_variables m ms) → (q : Point) × Shows m ms p q

-- the target keeps the rules of ownership
abbrev pub TargetsAreKept : Type 0
TargetsAreKept = (m : Model) (ms : List Match) (t : Model) → AreMatches m ms → IsTarget m ms t → IsKept t (target_annot m ms)

-- where no rule of matches is broken the matches are those of a complementarity model
abbrev pub UnbrokenAreMatches : Type 0
UnbrokenAreMatches = (m : Model) (ms : List Match) → AreUnbroken m ms → AreMatches m ms
