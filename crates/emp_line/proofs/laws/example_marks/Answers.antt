use Rattle.emp_line.proofs.Examples.{keeps, keeps_second, longer, wider, takes_out, puts_in, all_out, none_out, first_out, both_out, cells_out, cells_in, all_cells, no_cells, first_cell, both_lines, flagged, left_set, both_flagged}
use Rattle.emp_line.proofs.laws.example_marks.Goals as goal

pub returns : goal.returns
returns c = record {
  keeps = keeps;
  keeps_second = keeps_second;
  longer = longer;
  wider = wider;
  takes_out = takes_out;
  puts_in = puts_in;
  all_out = all_out;
  none_out = none_out;
  first_out = first_out;
  both_out = both_out;
  cells_out = cells_out;
  cells_in = cells_in;
  all_cells = all_cells;
  no_cells = no_cells;
  first_cell = first_cell;
  both_lines = both_lines;
  flagged = flagged;
  left_set = left_set;
  both_flagged = both_flagged;
}
