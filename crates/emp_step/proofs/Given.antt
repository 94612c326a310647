-- What the laws of dictionaries give for a pivot that can be made.
use Rattle.std.proofs.Common.{◌≡◌, ◌≢◌, ℕ, ◌<◌, ◌↔◌, ℤ, pos, length, Some}
use Rattle.emp_dict.specs.declared.label.Label.{Label}
use Rattle.emp_dict.specs.declared.label.Label.TheVariants.{Objective}
use Rattle.emp_dict.specs.declared.label.Mark.{Mark}
use Rattle.emp_dict.specs.Dictionary.{Dictionary, IsSound, cell_at, row_label, exchanged, marked, RowsTrue}
use Rattle.emp_dict.specs.Chosen.{labels, layout_of}
use Rattle.emp_dict.specs.Laws.{IsExchanged}
use Rattle.emp_dict.proofs.Soundness as Soundness
use Rattle.emp_dict.proofs.Solutions.{exchanges_keep, exchange_is_pivot}
use Rattle.emp_dict.proofs.Layouts.{layout_is}
use Rattle.emp_turns.specs.Layout.{IsLayout, IsPivot}

pub record PivotFits (d : Dictionary) (r j : ℕ) : Type 0 where
  pub row : r < length d.rows
  pub column : j < length d.columns
  pub quantity : row_label d r ≢ Objective
  pub nonzero : cell_at d r j ≢ pos 0

exchange_of : (d e : Dictionary) (r j : ℕ) → IsSound d → PivotFits d r j → exchanged d r j ≡ Some e → IsExchanged d r j e
exchange_of d e r j s f x = record { sound = s; row = f.row; column = f.column; quantity = f.quantity; nonzero = f.nonzero; gives = x }

pub layout_sound : (d : Dictionary) → IsSound d → IsLayout (labels d) (layout_of d)
layout_sound = layout_is

pub pivot_sound : (d e : Dictionary) (r j : ℕ) → IsSound d → PivotFits d r j → exchanged d r j ≡ Some e → IsSound e
pivot_sound d e r j s f x = (exchanges_keep d e r j (exchange_of d e r j s f x)).0

pub pivot_is : (d e : Dictionary) (r j : ℕ) → IsSound d → PivotFits d r j → exchanged d r j ≡ Some e → IsPivot (layout_of d) r j (layout_of e)
pivot_is d e r j s f x = exchange_is_pivot d e r j (exchange_of d e r j s f x)

pub pivot_same : (d e : Dictionary) (r j : ℕ) → IsSound d → PivotFits d r j → exchanged d r j ≡ Some e → (s : ℤ) (f : Label → ℤ) → RowsTrue d s f ↔ RowsTrue e s f
pivot_same d e r j s f x = (exchanges_keep d e r j (exchange_of d e r j s f x)).1

pub marked_sound : (d : Dictionary) (k : ℕ) (m : Mark) → IsSound d → IsSound (marked d k m)
marked_sound = Soundness.marked_sound
