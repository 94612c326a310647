-- The worked example: the premises of the laws can be met.
use Rattle.std.proofs.Common.{false, ◌≡◌, inr, zero, suc, pos, true, arith, refl}
use Rattle.std.proofs.lemmas.Int.{ints}
use Rattle.emp_turns.specs.Table.{Table}
use Rattle.emp_turns.specs.Choice.{Up, IsFeasible, Step, IsLevel}
use Rattle.emp_turns.specs.Layout.{table_of, IsLayout, IsPivot, IsChoice}
use Rattle.emp_turns.specs.Example.{before, turned, mark, aim, ExampleTurns}
use Rattle.emp_turns.proofs.Layouts.{is_table, layout_after, is_exchange, is_chosen, row_is, constant_is}
use Rattle.emp_turns.proofs.Pivots.{is_pivot}

layout : IsLayout 2 before
layout = record {
  row_below = λ i h. omega arith;
  column_below = λ j h. omega arith;
  rows_once = λ i h k l e. omega arith;
  columns_once = λ i h k l e. omega arith;
  apart = λ i j k l e. omega arith;
  positive = λ i h. omega (arith, ints);
}

pivot : IsPivot before 0 0 turned
pivot = is_pivot before turned 0 0 (pos 1) (λ i. pos 1) (λ i. pos 1) (λ i. pos 1)
    (record { rows = refl; columns = refl; row_in = omega arith; column_in = omega arith; row = refl; column = refl; rows_rest = λ i h n. absurd (omega arith); columns_rest = λ i h n. absurd (omega arith) })
    (record {
      square = refl;
      head = omega (arith, ints);
      denom = refl;
      constant = refl;
      cells = λ l h n. absurd (omega arith);
      cell = refl;
      own_pos = λ i h n. absurd (omega arith);
      common_pos = λ i h n. absurd (omega arith);
      meets = λ i h n. absurd (omega arith);
      other_denom = λ i h n. absurd (omega arith);
      other_constant = λ i h n. absurd (omega arith);
      other_cells = λ i l h n. absurd (omega arith);
      other_cell = λ i h n. absurd (omega arith);
    })
    (λ i h. omega (arith, ints))

choice : IsChoice mark aim before 0 0 Up 0
choice = record {
  opens = record { below = omega arith; moves = tt; helps = omega (arith, ints) };
  first = λ h o q. omega arith;
  stops = record { below = omega arith; why = inr (refl, refl) };
  nearest = λ i q. omega arith;
  tie = λ i q e. omega arith;
}

level : IsLevel 2 2 mark aim (table_of before)
level = record {
  aimed = omega arith;
  sound = is_table 2 before layout;
  feasible = feasible;
  rest = λ w h k. absurd (omega arith);
}
  where
    feasible : IsFeasible 2 mark (table_of before)
    feasible zero h r q = absurd (cc)
    feasible (suc v) h r q = absurd (cc)

step : Step 2 mark aim (table_of before) (table_of turned)
step = record {
  entering = 0;
  way = Up;
  leaving = 1;
  open_aim = record { row = row_is 2 before layout 0 (omega arith); behind = λ h. let e = constant_is 2 before layout 0 (omega arith) in omega (arith, ints) };
  chosen = is_chosen 2 mark aim before 0 0 Up 0 layout (omega arith) refl choice;
  exchange = is_exchange 2 before turned 0 0 layout pivot;
  sound = is_table 2 turned (layout_after 2 before turned 0 0 layout pivot);
}

over : (u : Table) → Step 2 mark aim (table_of turned) u → ⊥
unfolding table_of
over u s = absurd (let e : false ≡ true = s.open_aim.row in cc)

pub example_turns : ExampleTurns
example_turns = record { level = level; turn = step; over = over }
