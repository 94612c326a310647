-- Scenarios and plans of a model with random data in two stages: when a plan is feasible, what it is worth, best plans and rays.
use Rattle.std.specs.Prelude.{◌≡◌, ℕ, suc, ◌+◌, ◌*◌, ◌<◌, pos, ◌<ℤ◌, Bool, true, false, cond, not, ◌&&◌, nat_eq, List, [], ◌∷◌, ◌++◌, map, length, slice_get, Option, Some, None}
use Rattle.std.specs.List.{list_any}
use Rattle.emp_num.specs.declared.frac.Frac.{Frac}
use Rattle.emp_num.specs.Ratio.{Ratio, ratio, plus, times, SameRatio}
use Rattle.emp_num.specs.Point.{Point, coordinate}
use Rattle.emp_ast.specs.declared.model.Variable.{Variable}
use Rattle.emp_ast.specs.declared.model.Sense.{Sense}
use Rattle.emp_ast.specs.declared.model.Model.{Model}
use Rattle.emp_ast.specs.declared.annot.Annot.{Annot}
use Rattle.emp_ast.specs.Meets.{MeetsEquation}
use Rattle.emp_ast.specs.Parties.{leader, is_goal, names_variable, objective, EachDefinition}
use Rattle.emp_ast.specs.Rivals.{Fits, IsFeasible}
use Rattle.emp_ast.specs.Solved.{IsBetter}
use Rattle.emp_sp.specs.declared.annot.Random.{Random}
use Rattle.emp_sp.specs.declared.annot.RandomAnnot.{RandomAnnot}

-- no block: every variable is the leader's, and so is every equation
abbrev pub alone : Annot
alone = record { bilevel = true; leader = []; blocks = []; duals = []; visols = []; implicits = [] }

-- ---- scenarios: one outcome for each random variable in the order of the annotation, the first varying slowest
abbrev pub Scenario : Type 0
Scenario = List (Frac × Frac)

abbrev pub each_before : List (Frac × Frac) → List Scenario → List Scenario
each_before [] rest = []
each_before (o ∷ os) rest = map (λ s. o ∷ s) rest ++ each_before os rest

abbrev pub scenarios : List Random → List Scenario
scenarios [] = [] ∷ []
scenarios (r ∷ rs) = each_before r.outcomes (scenarios rs)

-- the product of the probabilities
abbrev pub chance : Scenario → Ratio
chance [] = ratio (pos 1) (pos 1)
chance (o ∷ os) = times (ratio o.0.num o.0.den) (chance os)

-- ---- stages
abbrev pub is_random : RandomAnnot → ℕ → Bool
is_random a v = list_any (λ r. nat_eq r.var.at v) a.randoms

abbrev pub is_second : RandomAnnot → ℕ → Bool
is_second a v = names_variable a.vars v

abbrev pub is_first : Model → RandomAnnot → ℕ → Bool
is_first m a v = not (is_random a v) && not (is_second a v) && not (is_goal m v)

abbrev pub kept_from : (ℕ → Bool) → ℕ → List Variable → List ℕ
kept_from test at [] = []
kept_from test at (x ∷ xs) = cond (test at) (at ∷ kept_from test (at + 1) xs) (kept_from test (at + 1) xs)

abbrev pub firsts : Model → RandomAnnot → List ℕ
firsts m a = kept_from (is_first m a) 0 m.variables

abbrev pub seconds : Model → RandomAnnot → List ℕ
seconds m a = kept_from (is_second a) 0 m.variables

abbrev pub place_in : List ℕ → ℕ → ℕ
place_in [] v = 0
place_in (u ∷ us) v = cond (nat_eq u v) 0 (suc (place_in us v))

-- ---- plans: numbers of the first stage, and of the second for each scenario
abbrev pub plan_size : Model → RandomAnnot → ℕ
plan_size m a = length (firsts m a) + length (scenarios a.randoms) * length (seconds m a)

-- where the number of the variable in scenario k stands, from 0
abbrev pub place : Model → RandomAnnot → ℕ → ℕ → ℕ
place m a k v = cond (is_second a v) (length (firsts m a) + k * length (seconds m a) + place_in (seconds m a) v) (place_in (firsts m a) v)

-- q is a point of the model with the plan's numbers in scenario k and the outcomes of s
pub record ShowsScenario (m : Model) (a : RandomAnnot) (p : Point) (k : ℕ) (s : Scenario) (q : Point) : Type 0 where
  pub fits : Fits m q
  pub decided : (v : ℕ) → v < length m.variables → is_random a v ≡ false → is_goal m v ≡ false → SameRatio (coordinate q v) (coordinate p (place m a k v))
  pub drawn : (i : ℕ) (r : Random) (o : Frac × Frac) → slice_get a.randoms i ≡ Some r → slice_get s i ≡ Some o → SameRatio (coordinate q r.var.at) (ratio o.1.num o.1.den)

abbrev pub EachScenario : RandomAnnot → (ℕ → Scenario → Type 0) → Type 0
EachScenario a P = (k : ℕ) (s : Scenario) → slice_get (scenarios a.randoms) k ≡ Some s → P k s

-- in each scenario the point with the objective's given value meets all equations and bounds
pub record IsFeasiblePlan (m : Model) (a : RandomAnnot) (p : Point) : Type 0 where
  pub count : length p.nums ≡ plan_size m a
  pub each : EachScenario a (λ k s. (q : Point) × ShowsScenario m a p k s q × IsFeasible m alone leader q)

-- the sum of probability times coordinate of w, over scenarios from number k on
abbrev pub expected : ℕ → (ℕ → Point) → ℕ → List Scenario → Ratio
expected w points k [] = ratio (pos 0) (pos 1)
expected w points k (s ∷ ss) = plus (times (chance s) (coordinate (points k) w)) (expected w points (k + 1) ss)

-- the expected given value of the objective w
pub record HasWorth (m : Model) (a : RandomAnnot) (w : ℕ) (p : Point) (x : Ratio) : Type 0 where
  pub points : ℕ → Point
  pub shown : EachScenario a (λ k s. ShowsScenario m a p k s (points k))
  pub given : EachScenario a (λ k s. EachDefinition m alone leader (λ e c. MeetsEquation (points k) c))
  pub fraction : pos 0 <ℤ x.bottom
  pub worth : SameRatio x (expected w points 0 (scenarios a.randoms))

abbrev pub IsBetterPlanBy : Option (Sense × ℕ) → Model → RandomAnnot → Point → Point → Type 0
IsBetterPlanBy (Some w) m a p q = (x : Ratio) × (y : Ratio) × HasWorth m a w.1 p x × HasWorth m a w.1 q y × IsBetter w.0 x y
IsBetterPlanBy None m a p q = ⊥

-- p has a better worth than q
abbrev pub IsBetterPlan : Model → RandomAnnot → Point → Point → Type 0
IsBetterPlan m a p q = IsBetterPlanBy (objective m alone leader) m a p q

-- feasible, and no feasible plan has a better worth
pub record IsBestPlan (m : Model) (a : RandomAnnot) (p : Point) : Type 0 where
  pub feasible : IsFeasiblePlan m a p
  pub best : (q : Point) → IsFeasiblePlan m a q → IsBetterPlan m a q p → ⊥

-- ---- rays
-- r is the plan p and t times the step v
pub record IsPlanAfter (m : Model) (a : RandomAnnot) (p v : Point) (t : ℕ) (r : Point) : Type 0 where
  pub count : length r.nums ≡ plan_size m a
  pub moved : (j : ℕ) → j < plan_size m a → SameRatio (coordinate r j) (plus (coordinate p j) (times (ratio (pos t) (pos 1)) (coordinate v j)))

-- the plan after each number of steps is feasible, and its worth improves at each step
pub record IsPlanRay (m : Model) (a : RandomAnnot) (p v : Point) : Type 0 where
  pub start : IsFeasiblePlan m a p
  pub feasible : (t : ℕ) (r : Point) → IsPlanAfter m a p v t r → IsFeasiblePlan m a r
  pub improves : (t : ℕ) (r q : Point) → IsPlanAfter m a p v t r → IsPlanAfter m a p v (t + 1) q → IsBetterPlan m a q r
