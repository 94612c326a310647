-- When an agent is convex in some of its own variables.
use Rattle.std.specs.Prelude.{◌≡◌, ℕ, Bool, false, not, List, [], filter, take, slice_get, Option, Some, None}
use Rattle.emp_num.specs.Ratio.{Ratio, plus, SameRatio, AtMostRatio}
use Rattle.emp_num.specs.Point.{Point, coordinate}
use Rattle.emp_ast.specs.declared.tree.VarId.{VarId}
use Rattle.emp_ast.specs.declared.model.Sense.{Sense}
use Rattle.emp_ast.specs.declared.model.Sense.TheVariants.{Min, Max}
use Rattle.emp_ast.specs.declared.model.Model.{Model}
use Rattle.emp_ast.specs.declared.annot.Block.{Block}
use Rattle.emp_ast.specs.declared.annot.Annot.{Annot}
use Rattle.emp_ast.specs.Parties.{block, names_variable, block_variables, is_defined_of, objective}
use Rattle.emp_ast.specs.Rivals.{Fits, IsGiven}

-- p is half way between q and r, and all three agree off the set
pub record IsBetween (m : Model) (inside : ℕ → Bool) (p q r : Point) : Type 0 where
  pub fits : Fits m p × Fits m q × Fits m r
  pub half : (v : ℕ) → SameRatio (plus (coordinate q v) (coordinate r v)) (plus (coordinate p v) (coordinate p v))
  pub outside : (v : ℕ) → inside v ≡ false → SameRatio (coordinate q v) (coordinate p v)

-- the sum of the two outer values is at least twice the middle one for `min`, at most for `max`
abbrev pub Bends : Sense → Ratio → Ratio → Ratio → Type 0
Bends Min f g h = AtMostRatio (plus f f) (plus g h)
Bends Max f g h = AtMostRatio (plus g h) (plus f f)

-- the agent is convex in a set of variables: with f the given value of its objective, f(p + v) + f(p - v) is at least
-- 2 f(p) (at most that for `max`) for all points p and all steps v on the set
abbrev pub IsConvexIn : Model → Annot → ℕ → (ℕ → Bool) → Type 0
IsConvexIn m a k inside =
    (s : Sense) (w : ℕ) → objective m a (block k) ≡ Some (s, w) → (p q r : Point) → IsBetween m inside p q r → (f g h : Ratio) → IsGiven m a (block k) p f → IsGiven m a (block k) q g → IsGiven m a (block k) r h → Bends s f g h

-- the own variables of a block that no equation defines as its objective: the objective first, where it is not defined,
-- then the listed ones in order
abbrev pub counted_by : Model → Annot → ℕ → Option Block → List VarId
counted_by m a k (Some b) = filter (λ v. not (is_defined_of m a (block k) v.at)) (block_variables b)
counted_by m a k None = []

abbrev pub counted : Model → Annot → ℕ → List VarId
counted m a k = counted_by m a k (slice_get a.blocks k)

-- in the first n counted variables
abbrev pub IsConvexUpTo : Model → Annot → ℕ → ℕ → Type 0
IsConvexUpTo m a k n = IsConvexIn m a k (λ v. names_variable (take n (counted m a k)) v)

-- in all of them
abbrev pub IsConvex : Model → Annot → ℕ → Type 0
IsConvex m a k = IsConvexIn m a k (λ v. names_variable (counted m a k) v)
