-- Bilevel files: points that are admissible, best points, and rays along which the leader gains without end.
use Rattle.std.specs.Prelude.{◌≡◌, ℕ, ◌+◌, ◌<◌, pos, false, length, Option, Some, None}
use Rattle.emp_num.specs.Ratio.{ratio, plus, times, SameRatio}
use Rattle.emp_num.specs.Point.{Point, coordinate}
use Rattle.emp_ast.specs.declared.model.Sense.{Sense}
use Rattle.emp_ast.specs.declared.model.Model.{Model}
use Rattle.emp_ast.specs.declared.annot.Annot.{Annot}
use Rattle.emp_ast.specs.Parties.{leader, objective, is_defined}
use Rattle.emp_ast.specs.Rivals.{Fits, MeetsDefinitions, IsFeasible}
use Rattle.emp_ast.specs.Solved.{IsBetter}
use Rattle.emp_ast.specs.Equilibrium.{IsEquilibrium}

-- the point meets the leader's equations and the bounds of the leader's variables, and is an equilibrium of the blocks
pub record IsAdmissible (m : Model) (a : Annot) (p : Point) : Type 0 where
  pub leads : IsFeasible m a leader p
  pub follows : IsEquilibrium m a p

-- p has a better coordinate of the objective variable than q; where there is no objective, no point is better
abbrev pub IsBetterBy : Option (Sense × ℕ) → Point → Point → Type 0
IsBetterBy (Some w) p q = IsBetter w.0 (coordinate p w.1) (coordinate q w.1)
IsBetterBy None p q = ⊥

-- p is better than q for the leader
abbrev pub IsBetterForLeader : Model → Annot → Point → Point → Type 0
IsBetterForLeader m a p q = IsBetterBy (objective m a leader) p q

-- admissible, and no admissible point is better for the leader
pub record IsBest (m : Model) (a : Annot) (p : Point) : Type 0 where
  pub admissible : IsAdmissible m a p
  pub best : (q : Point) → IsAdmissible m a q → IsBetterForLeader m a q p → ⊥

-- ---- rays
-- q is the point after t steps from p: p + t v on the variables that no equation defines, and it meets the definitions of
-- the others
pub record IsAfterSteps (m : Model) (a : Annot) (p v : Point) (t : ℕ) (q : Point) : Type 0 where
  pub fits : Fits m q
  pub moved : (x : ℕ) → x < length m.variables → is_defined m a x ≡ false → SameRatio (coordinate q x) (plus (coordinate p x) (times (ratio (pos t) (pos 1)) (coordinate v x)))
  pub definitions : MeetsDefinitions m a q

-- p is admissible, so is the point after each number of steps, and the leader's objective improves at each step
pub record IsRay (m : Model) (a : Annot) (p v : Point) : Type 0 where
  pub start : IsAdmissible m a p
  pub after : (t : ℕ) → (q : Point) × IsAfterSteps m a p v t q
  pub admissible : (t : ℕ) (q : Point) → IsAfterSteps m a p v t q → IsAdmissible m a q
  pub improves : (t : ℕ) (q r : Point) → IsAfterSteps m a p v t q → IsAfterSteps m a p v (t + 1) r → IsBetterForLeader m a r q
