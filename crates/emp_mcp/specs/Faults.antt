-- The rules of matches, and the first that is broken.
use Rattle.std.specs.Prelude.{◌≡◌, ℕ, ◌<◌, Bool, true, false, ◌&&◌, ◌||◌, not, List, take, slice_get, length, Option, Some, None}
use Rattle.std.specs.Ordering.{int_eq}
use Rattle.emp_ast.specs.declared.model.Relation.{Relation}
use Rattle.emp_ast.specs.declared.model.Relation.TheVariants.{Equal, AtLeast, AtMost, Nothing}
use Rattle.emp_ast.specs.declared.model.End.{End}
use Rattle.emp_ast.specs.declared.model.End.TheVariants.{Open, At}
use Rattle.emp_ast.specs.declared.model.Model.{Model}
use Rattle.emp_owner.specs.Settled.{IsFirst, NoneOf, FirstVariable, NoVariable}
use Rattle.emp_mcp.specs.Complementary.{Match, is_matched, is_matched_equation, is_of_problem}

abbrev pub holds_at : {X : Type 0} → (X → Bool) → Option X → Bool
holds_at test (Some x) = test x
holds_at test None = false

-- ---- the rules at the match with a number
abbrev pub equation_again : List Match → ℕ → Bool
equation_again ms i = holds_at (λ q. is_matched_equation (take i ms) q.0.at) (slice_get ms i)

abbrev pub variable_again : List Match → ℕ → Bool
variable_again ms i = holds_at (λ q. is_matched (take i ms) q.1.at) (slice_get ms i)

abbrev pub is_at_most : Relation → Bool
is_at_most Equal = false
is_at_most AtLeast = false
is_at_most AtMost = true
is_at_most Nothing = false

abbrev pub has_relation : Model → List Match → ℕ → Bool
has_relation m ms i = holds_at (λ q. holds_at (λ e. is_at_most e.relation) (slice_get m.equations q.0.at)) (slice_get ms i)

abbrev pub is_broken_at : Model → List Match → ℕ → Bool
is_broken_at m ms i = equation_again ms i || variable_again ms i || has_relation m ms i

-- ---- the last rule
abbrev pub is_one_value : End → End → Bool
is_one_value Open h = false
is_one_value (At f) Open = false
is_one_value (At f) (At g) = int_eq f.num g.num && int_eq f.den g.den

-- the variable is of the problem, in no match, and has not two equal bounds
abbrev pub is_loose : Model → List Match → ℕ → Bool
is_loose m ms v = is_of_problem m ms v && not (is_matched ms v) && holds_at (λ x. not (is_one_value x.low x.high)) (slice_get m.variables v)

-- ---- the first broken rule; the words of `McpFault` stand in its place
pub data MatchFault : Type 0 where
  equation_twice : ℕ → MatchFault
  matched_twice : ℕ → MatchFault
  relation : ℕ → MatchFault
  unmatched : ℕ → MatchFault

-- the first match that breaks a rule has this number, and is this one
pub record IsFirstAt (m : Model) (ms : List Match) (i : ℕ) (q : Match) : Type 0 where
  pub first : IsFirst (length ms) (is_broken_at m ms) i
  pub is : slice_get ms i ≡ Some q

pub data IsFirstFault (m : Model) (ms : List Match) : MatchFault → Type 0 where
  first_equation : (i : ℕ) (q : Match) → IsFirstAt m ms i q → equation_again ms i ≡ true → IsFirstFault m ms (equation_twice q.0.at)
  first_variable : (i : ℕ) (q : Match) → IsFirstAt m ms i q → equation_again ms i ≡ false → variable_again ms i ≡ true → IsFirstFault m ms (matched_twice q.1.at)
  first_relation : (i : ℕ) (q : Match) → IsFirstAt m ms i q → equation_again ms i ≡ false → variable_again ms i ≡ false → IsFirstFault m ms (relation q.0.at)
  first_loose : (v : ℕ) → NoneOf (length ms) (is_broken_at m ms) → FirstVariable m (is_loose m ms) v → IsFirstFault m ms (unmatched v)

pub record AreUnbroken (m : Model) (ms : List Match) : Type 0 where
  pub equations : (i : ℕ) (q : Match) → slice_get ms i ≡ Some q → q.0.at < length m.equations
  pub variables : (i : ℕ) (q : Match) → slice_get ms i ≡ Some q → q.1.at < length m.variables
  pub matches : NoneOf (length ms) (is_broken_at m ms)
  pub all : NoVariable m (is_loose m ms)
