-- The choice as functions of the places: the column of least label that opens, and the row of least ratio, of these that of least label.
use Rattle.std.specs.Prelude.{ℕ, zero, suc, ℤ, pos, negsuc, ◌*ℤ◌, Bool, true, false, cond, ◌&&◌, ◌||◌, nat_eq, nat_lt, Option, Some, None}
use Rattle.emp_turns.specs.Choice.{Mark, Free, Unasked, Required, Fixed, Way, Up, Down, toward, Aim}
use Rattle.emp_turns.specs.Layout.{Layout, ratio_at}

-- the way in which a column with the mark opens, where the aimed row's cell times the way it is to move is z
abbrev pub way_of : Mark → ℤ → Option Way
way_of Free (pos zero) = None
way_of Free (pos (suc z)) = Some Up
way_of Free (negsuc z) = Some Down
way_of Unasked z = None
way_of Required (pos zero) = None
way_of Required (pos (suc z)) = Some Up
way_of Required (negsuc z) = None
way_of Fixed z = None

abbrev pub opening : (ℕ → Mark) → Aim → Layout → ℕ → ℕ → Option Way
opening mark aim y k j = way_of (mark (y.column_label j)) (toward aim.way *ℤ y.cell k j)

pub record Entry : Type 0 where
  pub place : ℕ
  pub way : Way

-- the best so far and one more column
abbrev pub better_column : (ℕ → ℕ) → ℕ → Option Way → Option Entry → Option Entry
better_column label j None best = best
better_column label j (Some g) None = Some (record { place = j; way = g })
better_column label j (Some g) (Some b) = cond (nat_lt (label j) (label b.place)) (Some (record { place = j; way = g })) (Some b)

abbrev pub first_column : (ℕ → Mark) → Aim → Layout → ℕ → ℕ → Option Entry
first_column mark aim y k zero = None
first_column mark aim y k (suc j) = better_column y.column_label j (opening mark aim y k j) (first_column mark aim y k j)

abbrev pub is_required : Mark → Bool
is_required Free = false
is_required Unasked = false
is_required Required = true
is_required Fixed = false

abbrev pub is_negative : ℤ → Bool
is_negative (pos z) = false
is_negative (negsuc z) = true

-- row i stops column j
abbrev pub stopping : (ℕ → Mark) → Aim → Layout → ℕ → ℕ → Way → ℕ → Bool
stopping mark aim y k j g i = is_required (mark (y.row_label i)) && is_negative (toward g *ℤ y.cell i j) || nat_eq i k && aim.stops

-- row i has the lesser ratio, or the same and the lesser label
abbrev pub is_nearer : Layout → ℕ → ℕ → ℕ → Bool
is_nearer y j i b = nat_lt (ratio_at y j i b) (ratio_at y j b i) || nat_eq (ratio_at y j i b) (ratio_at y j b i) && nat_lt (y.row_label i) (y.row_label b)

abbrev pub better_row : Layout → ℕ → ℕ → Bool → Option ℕ → Option ℕ
better_row y j i false best = best
better_row y j i true None = Some i
better_row y j i true (Some b) = cond (is_nearer y j i b) (Some i) (Some b)

abbrev pub nearest_row : (ℕ → Mark) → Aim → Layout → ℕ → ℕ → Way → ℕ → Option ℕ
nearest_row mark aim y k j g zero = None
nearest_row mark aim y k j g (suc i) = better_row y j i (stopping mark aim y k j g i) (nearest_row mark aim y k j g i)
