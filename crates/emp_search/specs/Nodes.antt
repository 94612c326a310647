-- What is so of the dictionary of a node.
use Rattle.std.specs.Prelude.{◌≡◌, ◌≢◌, ℕ, ◌-◌, ◌<◌, ◌≤◌, List, [], ◌∷◌, length, slice_index_or}
use Rattle.emp_rows.specs.declared.system.Kind.TheVariants.{Zero, Nonneg}
use Rattle.emp_rows.specs.declared.system.RowSystem.{RowSystem}
use Rattle.emp_cert.specs.declared.tree.Turn.{Turn}
use Rattle.emp_cert.specs.Paths.{member}
use Rattle.emp_dict.specs.declared.label.Mark.TheVariants.{Unasked, Fixed}
use Rattle.emp_dict.specs.Dictionary.{Dictionary, mark_at}
use Rattle.emp_step.specs.Levels.{IsLevel}
use Rattle.emp_decide.specs.Laws.{IsDictionaryOf, FixedOn}

-- a level dictionary of the system, in which only what is to be 0 on the path is Fixed
pub record IsNode (s : RowSystem) (p : List Turn) (d : Dictionary) : Type 0 where
  pub dictionary : IsDictionaryOf s d
  pub level : IsLevel d
  pub on : FixedOn s p d

-- quantity k was asked for by its kind
pub record IsAsked (s : RowSystem) (d : Dictionary) (k : ℕ) : Type 0 where
  pub asked : mark_at d k ≢ Unasked
  pub zero_fixed : slice_index_or s.kinds (k - 1) Nonneg ≡ Zero → mark_at d k ≡ Fixed

-- what the path takes to be 0 is Fixed
abbrev pub PathFixed : RowSystem → List Turn → Dictionary → Type 0
PathFixed s [] d = Unit {0}
PathFixed s (t ∷ p) d = (mark_at d (member s t) ≡ Fixed) × PathFixed s p d

-- all that the node asks for holds
pub record IsSettled (s : RowSystem) (p : List Turn) (d : Dictionary) : Type 0 where
  pub node : IsNode s p d
  pub all : (k : ℕ) → 0 < k → k ≤ length s.quantities → IsAsked s d k
  pub path : PathFixed s p d
