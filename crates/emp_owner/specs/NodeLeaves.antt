-- Leaves and summands of an expression, told from its list of nodes. This serves the proofs of `settle` alone.
use Rattle.std.specs.Prelude.{◌≡◌, ℕ, ◌+◌, ◌<◌, min, Bool, true, false, ◌&&◌, ◌||◌, nat_eq, List, [], ◌∷◌, length, get_or}
use Rattle.std.specs.List.{count_by, fold}
use Rattle.emp_ast.specs.declared.tree.Node.{Node}
use Rattle.emp_ast.specs.declared.tree.Node.TheVariants.{Number, Var, Neg, Add, Sub, Mul, Div, Power}
use Rattle.emp_ast.specs.declared.model.Equation.{Equation}
use Rattle.emp_ast.specs.Occurrence.{occurrences}

abbrev pub is_leaf : ℕ → Node → Bool
is_leaf w (Number f) = false
is_leaf w (Var v) = nat_eq v.at w
is_leaf w (Neg a) = false
is_leaf w (Add a b) = false
is_leaf w (Sub a b) = false
is_leaf w (Mul a b) = false
is_leaf w (Div a b) = false
is_leaf w (Power a n) = false

-- how many of the nodes are the variable w
abbrev pub node_leaves : ℕ → List Node → ℕ
node_leaves w nodes = count_by (is_leaf w) nodes

-- the numbers have grown by the leaves of each variable, where 2 stands for more
pub record HasCounted (old new : List ℕ) (leaves : ℕ → ℕ) : Type 0 where
  pub count : length new ≡ length old
  pub more : (v : ℕ) → v < length old → min (get_or new v 0) 2 ≡ min (get_or old v 0 + leaves v) 2

-- one number for each variable of the model: its leaves in all equations, where 2 stands for more
pub record AreCounts (variables : ℕ) (equations : List Equation) (counts : List ℕ) : Type 0 where
  pub count : length counts ≡ variables
  pub leaves : (v : ℕ) → v < variables → min (get_or counts v 0) 2 ≡ min (occurrences v equations) 2

-- whether w stands under sums alone, for the expressions that no node took yet, the last first
abbrev pub joined_flags : Bool → List Bool → List Bool
joined_flags additive (f ∷ e ∷ done) = (additive && (e || f)) ∷ done
joined_flags additive (e ∷ []) = e ∷ []
joined_flags additive [] = []

abbrev pub lowered_flag : List Bool → List Bool
lowered_flag (e ∷ done) = false ∷ done
lowered_flag [] = []

abbrev pub node_flags : ℕ → List Bool → Node → List Bool
node_flags w done (Number f) = false ∷ done
node_flags w done (Var v) = nat_eq v.at w ∷ done
node_flags w done (Neg a) = done
node_flags w done (Add a b) = joined_flags true done
node_flags w done (Sub a b) = joined_flags true done
node_flags w done (Mul a b) = joined_flags false done
node_flags w done (Div a b) = joined_flags false done
node_flags w done (Power a n) = lowered_flag done

abbrev pub all_flags : ℕ → List Node → List Bool
all_flags w nodes = fold (node_flags w) [] nodes
