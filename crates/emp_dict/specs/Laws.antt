-- The laws of dictionaries, as statements.
use Rattle.std.specs.Prelude.{◌≡◌, ◌≢◌, ◌↔◌, ℕ, ◌<◌, ◌≤◌, ℤ, pos, List, length, map, Option, Some}
use Rattle.std.specs.List.{All}
use Rattle.emp_turns.specs.Layout.{IsLayout, IsPivot}
use Rattle.emp_rows.specs.Affine.{IsRow}
use Rattle.emp_rows.specs.declared.affine.Affine.{Affine}
use Rattle.emp_dict.specs.declared.label.Label.{Label}
use Rattle.emp_dict.specs.declared.label.Label.TheVariants.{Objective}
use Rattle.emp_dict.specs.declared.label.Mark.{Mark}
use Rattle.emp_dict.specs.Dictionary.{Dictionary, IsSound, IsLabel, RowsTrue, cell_at, exchanged, label_value, marked, row_label, started, bases_from}
use Rattle.emp_dict.specs.Chosen.{labels, layout_of}

-- row r and column j of d may change places, and e is what comes of it
pub record IsExchanged (d : Dictionary) (r j : ℕ) (e : Dictionary) : Type 0 where
  pub sound : IsSound d
  pub row : r < length d.rows
  pub column : j < length d.columns
  pub quantity : row_label d r ≢ Objective
  pub nonzero : cell_at d r j ≢ pos 0
  pub gives : exchanged d r j ≡ Some e

-- ---- the start
-- at the start each row tells its quantity, or the objective, by the base variables: it is true at every base vector xs over s, and where the
-- rows are true of other values of the labels, these are what the base variables give
pub record StartsAre (base : ℕ) (quantities : List Affine) (objective : Option Affine) : Type 0 where
  pub sound : IsSound (started base quantities objective)
  pub forth : (s : ℤ) (xs : List ℤ) → length xs ≡ base → RowsTrue (started base quantities objective) s (label_value quantities objective s xs)
  pub back : (s : ℤ) (f : Label → ℤ) → RowsTrue (started base quantities objective) s f → (w : Label) → IsLabel base (length quantities) (length (started base quantities objective).rows) w → f w ≡ label_value quantities objective s (map f (bases_from 1 base)) w

abbrev pub StartsTell : Type 0
StartsTell = (base : ℕ) (quantities : List Affine) (objective : Option Affine) → base ≤ 256 → length quantities ≤ 512 → All (IsRow base) quantities → ((o : Affine) → objective ≡ Some o → IsRow base o) → StartsAre base quantities objective

-- ---- exchanges
-- an exchange keeps the set of solutions, both ways, and what every dictionary keeps
abbrev pub ExchangesKeep : Type 0
ExchangesKeep = (d e : Dictionary) (r j : ℕ) → IsExchanged d r j e → IsSound e × ((s : ℤ) (f : Label → ℤ) → RowsTrue d s f ↔ RowsTrue e s f)

-- a mark changes nothing else
abbrev pub MarksKeep : Type 0
MarksKeep = (d : Dictionary) (k : ℕ) (m : Mark) → IsSound d → IsSound (marked d k m)

-- ---- the dictionary by places
-- each label has one place and denominators are above 0; an exchange is a pivot of the places
pub record LayoutsFit : Type 0 where
  pub layout : (d : Dictionary) → IsSound d → IsLayout (labels d) (layout_of d)
  pub pivot : (d e : Dictionary) (r j : ℕ) → IsExchanged d r j e → IsPivot (layout_of d) r j (layout_of e)
