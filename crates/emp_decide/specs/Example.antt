-- A worked example: the row `v = -1 - w`, where w is a Required quantity and v cannot be raised.
use Rattle.std.specs.Prelude.{◌≡◌, ◌≢◌, ℤ, pos, negsuc, true, List, [], ◌∷◌}
use Rattle.emp_num.specs.Ratio.{ratio}
use Rattle.emp_dict.specs.declared.label.Label.TheVariants.{Quantity}
use Rattle.emp_dict.specs.declared.label.Mark.TheVariants.{Unasked, Required}
use Rattle.emp_dict.specs.Dictionary.{Dictionary}
use Rattle.emp_decide.specs.Reads.{farkas_factors, value_of, rate_of}

abbrev pub sunk : Dictionary
sunk = record { lines = record { denom = pos 1; constant = negsuc 0; cells = negsuc 0 ∷ [] } ∷ []; rows = Quantity 1 ∷ []; columns = Quantity 2 ∷ []; marks = Unasked ∷ (Required ∷ []) }

abbrev one_each : List ℤ
one_each = pos 1 ∷ (pos 1 ∷ [])

abbrev less_one_each : List ℤ
less_one_each = negsuc 0 ∷ (negsuc 0 ∷ [])

pub record ExampleReads : Type 0 where
  -- v + w = -1
  pub factors : farkas_factors sunk 0 ≡ one_each
  pub not_opposite : farkas_factors sunk 0 ≢ less_one_each
  pub value : value_of sunk (Quantity 1) ≡ ratio (negsuc 0) (pos 1)
  pub column : value_of sunk (Quantity 2) ≡ ratio (pos 0) (pos 1)
  -- as w moves up, v falls as fast
  pub rate : rate_of sunk 0 true (Quantity 1) ≡ ratio (negsuc 0) (pos 1)
