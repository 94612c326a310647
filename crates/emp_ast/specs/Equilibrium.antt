-- Equilibria of the blocks of an annotation.
use Rattle.std.specs.Prelude.{◌≡◌, ℕ, ◌<◌, Bool, true, ◌||◌, length, slice_get, Some}
use Rattle.std.specs.List.{list_any}
use Rattle.emp_num.specs.Ratio.{Ratio, SameRatio}
use Rattle.emp_num.specs.Point.{Point, coordinate}
use Rattle.emp_ast.specs.declared.tree.VarId.{VarId}
use Rattle.emp_ast.specs.declared.tree.EquId.{EquId}
use Rattle.emp_ast.specs.declared.model.Model.{Model}
use Rattle.emp_ast.specs.declared.annot.Annot.{Annot}
use Rattle.emp_ast.specs.Parties.{block, has_dual, names_equation, constraints, is_constraint}
use Rattle.emp_ast.specs.Rivals.{Fits}
use Rattle.emp_ast.specs.Solved.{IsSolved}
use Rattle.emp_ast.specs.Multipliers.{AreMultipliers}

-- the block has a constraint with a dual variable or under `visol`
abbrev pub is_priced : Model → Annot → ℕ → Bool
is_priced m a k = list_any (λ e. has_dual a e.at || names_equation a.visols e.at) (constraints m a (block k))

-- one choice of multipliers, by block and equation, serves all priced blocks: that of a constraint with a dual variable is
-- the variable's coordinate, and a `visol` equation has the same one in every block
pub record ArePrices (m : Model) (a : Annot) (p : Point) (u : ℕ → ℕ → Ratio) : Type 0 where
  pub multipliers : (k : ℕ) → k < length a.blocks → is_priced m a k ≡ true → AreMultipliers m a k p (u k)
  pub duals : (k i : ℕ) (d : VarId × EquId) → k < length a.blocks → slice_get a.duals i ≡ Some d → is_constraint m a (block k) d.1.at ≡ true → SameRatio (u k d.1.at) (coordinate p d.0.at)
  pub shared : (j k e : ℕ) → j < length a.blocks → k < length a.blocks → names_equation a.visols e ≡ true → is_constraint m a (block j) e ≡ true → is_constraint m a (block k) e ≡ true → SameRatio (u j e) (u k e)

-- each block is solved, and there are such multipliers
pub record IsEquilibrium (m : Model) (a : Annot) (p : Point) : Type 0 where
  pub fits : Fits m p
  pub solved : (k : ℕ) → k < length a.blocks → IsSolved m a k p
  pub choice : ℕ → ℕ → Ratio
  pub prices : ArePrices m a p choice
