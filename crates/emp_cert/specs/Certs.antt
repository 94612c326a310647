-- What a certificate keeps: its numbers are in their ranges, and its lists have the lengths that its counts give them.
use Rattle.std.specs.Prelude.{◌≡◌, ℕ, ◌≤◌, pos, ◌<ℤ◌, List, length, slice_index_or, All}
use Rattle.std.specs.Coded.{×_prop, Π_prop}
use denote.Struct.Props.{props}
use Rattle.emp_num.specs.Exact.{IsNarrow}
use Rattle.emp_rows.specs.Points.{IsNumber}
use Rattle.emp_cert.specs.declared.cert.Verdict.{Verdict}
use Rattle.emp_cert.specs.declared.cert.Verdict.TheVariants.{Point, Missing, Best, Unbounded}
use Rattle.emp_cert.specs.declared.tree.Node.{Node}
use Rattle.emp_cert.specs.declared.tree.Node.TheVariants.{Branch, Farkas, Bound}
use Rattle.emp_cert.specs.declared.tree.Tree.{Tree}

-- a pair's number is one of the pairs', there is one factor below 2^126 for each quantity, a weight is above 0 and below 2^126
abbrev pub NodeFits : ℕ → ℕ → Node → Type 0
NodeFits pairs quantities (Branch k) = IsNumber pairs k
NodeFits pairs quantities (Farkas fs) = (length fs ≡ quantities) × All IsNarrow fs
NodeFits pairs quantities (Bound w fs) = (pos 0 <ℤ w) × IsNarrow w × (length fs ≡ quantities) × All IsNarrow fs

abbrev pub TreeFits : ℕ → ℕ → Tree → Type 0
TreeFits pairs quantities t = All (NodeFits pairs quantities) t.nodes

-- a point has one number for each base variable
abbrev pub VerdictFits : ℕ → ℕ → ℕ → Verdict → Type 0
VerdictFits base quantities pairs (Point fs) = length fs ≡ base
VerdictFits base quantities pairs (Missing t) = TreeFits pairs quantities t
VerdictFits base quantities pairs (Best fs t) = (length fs ≡ base) × TreeFits pairs quantities t
VerdictFits base quantities pairs (Unbounded fs gs) = (length fs ≡ base) × (length gs ≡ base)

-- as many pairs as the count says, of numbers of quantities
pub record LinksFit (quantities pairs : ℕ) (ps : List (ℕ × ℕ)) : Type 0 where
  pub count : length ps ≡ pairs
  pub first : All (λ p. IsNumber quantities p.0) ps
  pub second : All (λ p. IsNumber quantities p.1) ps

pub record Counts (base quantities pairs : ℕ) : Type 0 where
  pub few_variables : base ≤ 256
  pub few_quantities : quantities ≤ 512
  pub few_pairs : pairs ≤ 256

-- ---- there is one proof of them at most
NodeFits-prop : (pairs quantities : ℕ) (x : Node) → IsProp (NodeFits pairs quantities x)
NodeFits-prop pairs quantities (Branch k) = hlevel props
NodeFits-prop pairs quantities (Farkas fs) = hlevel props
NodeFits-prop pairs quantities (Bound w fs) = hlevel props

TreeFits-prop : (pairs quantities : ℕ) (t : Tree) → IsProp (TreeFits pairs quantities t)
TreeFits-prop pairs quantities t = Π_prop (λ k. Π_prop (λ d. Π_prop (λ l. NodeFits-prop pairs quantities (slice_index_or t.nodes k d))))

pub VerdictFits-prop : (base quantities pairs : ℕ) (v : Verdict) → IsProp (VerdictFits base quantities pairs v)
VerdictFits-prop base quantities pairs (Point fs) = hlevel props
VerdictFits-prop base quantities pairs (Missing t) = TreeFits-prop pairs quantities t
VerdictFits-prop base quantities pairs (Best fs t) = ×_prop (hlevel props) (TreeFits-prop pairs quantities t)
VerdictFits-prop base quantities pairs (Unbounded fs gs) = hlevel props
