-- The point of a file that a point of the variables that are left stands for: with its coordinates, and for each defined objective
-- what its definition gives.
use Rattle.std.specs.Prelude.{ℕ, zero, suc, ℤ, pos, neg_ℤ, ◌*ℤ◌, ◌<ℤ◌, cond, List, [], ◌∷◌, map, length, slice_get, Option, Some, None}
use Rattle.emp_algebra.specs.Vector.{cell}
use Rattle.emp_algebra.proofs.Laws.{mul_pos}
use Rattle.emp_num.specs.Point.{Point}
use Rattle.emp_systems.specs.Steps.{Quadratic, value_squared}
use Rattle.emp_ast.specs.declared.model.Sense.{Sense}
use Rattle.emp_ast.specs.declared.model.Sense.TheVariants.{Min, Max}
use Rattle.emp_ast.specs.declared.model.Model.{Model}
use Rattle.emp_ast.specs.declared.annot.Annot.{Annot}
use Rattle.emp_ast.specs.Parties.{Party, leader, block, objective, is_defined}
use Rattle.emp_game.specs.Game.{Purpose, goal, flow, Player}
use Rattle.emp_split.specs.Games.{Leader, Game}
use Rattle.emp_problem.specs.Left.{left, place}
use Rattle.emp_problem.specs.declared.problem.AgentProblem.{AgentProblem}
use Rattle.emp_problem.specs.Problem.{game}
use Rattle.emp_meaning.proofs.FillOwners.{chosen}
use Rattle.emp_whole.proofs.Multiples.{each_problem_is_whole}

-- ---- objectives in whole numbers, as they are to be least
abbrev pub nothing : Quadratic
nothing = record { constant = pos 0; linear = []; square = [] }

abbrev pub purpose_goal : Purpose → Quadratic
purpose_goal (goal q) = q
purpose_goal (flow fs) = nothing

abbrev pub player_goal : Option Player → Quadratic
player_goal (Some pl) = purpose_goal pl.purpose
player_goal None = nothing

-- an affine objective has no products
abbrev pub leader_goal : List ℕ → Option Leader → Quadratic
leader_goal vs (Some l) = record { constant = l.goal.constant; linear = l.goal.cells; square = map (λ u. map (λ v. pos 0) vs) vs }
leader_goal vs None = nothing

abbrev pub party_goal : List ℕ → Game → Party → Quadratic
party_goal vs g leader = leader_goal vs g.leader
party_goal vs g (block k) = player_goal (slice_get g.players k)

-- ---- coordinates over n times the square of the denominator
abbrev pub signed : Option (Sense × ℕ) → ℤ → ℤ
signed None z = z
signed (Some (Min, w)) z = z
signed (Some (Max, w)) z = neg_ℤ z

-- for `max` the objective is the opposite of what is to be least
abbrev pub objective_at : Model → Annot → Game → ℤ → List ℤ → Party → ℤ
objective_at m a g d xs k = signed (objective m a k) (value_squared (party_goal (left m a) g k) d xs)

abbrev pub number_at : ℤ → Model → Annot → Game → ℤ → List ℤ → ℕ → ℤ
number_at n m a g d xs v = cond (is_defined m a v) (objective_at m a g d xs (chosen m a v (length a.blocks))) (n *ℤ d *ℤ cell xs (place m a v))

-- the first n values of a function
abbrev pub first_values : (ℕ → ℤ) → ℕ → List ℤ
first_values f zero = []
first_values f (suc n) = f 0 ∷ first_values (λ k. f (suc k)) n

-- ---- the points
-- g is the game over n
abbrev pub image_over : (n : ℤ) → pos 0 <ℤ n → Model → Annot → Game → Point → Point
image_over n above m a g p = record {
  den = n *ℤ p.den *ℤ p.den;
  nums = first_values (number_at n m a g p.den p.nums) (length m.variables);
  positive = mul_pos (n *ℤ p.den) p.den (mul_pos n p.den above p.positive) p.positive;
}

-- over a number that makes all coefficients whole
abbrev pub image : Model → Annot → AgentProblem → Point → Point
image m a pr p = let n = each_problem_is_whole pr in image_over n.0 n.1.positive m a (game n.0 pr) p
