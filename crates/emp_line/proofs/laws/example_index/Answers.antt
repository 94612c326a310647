use Rattle.emp_line.proofs.Examples.{tells, by_lines, too_few, too_many, too_short, too_long, place, no_place, one_column, flags, flags_of_first}
use Rattle.emp_line.proofs.laws.example_index.Goals as goal

pub returns : goal.returns
returns c = record {
  tells = tells;
  by_lines = by_lines;
  too_few = too_few;
  too_many = too_many;
  too_short = too_short;
  too_long = too_long;
  place = place;
  no_place = no_place;
  one_column = one_column;
  flags = flags;
  flags_of_first = flags_of_first;
}
