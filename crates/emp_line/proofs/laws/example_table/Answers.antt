use Rattle.emp_line.proofs.Examples.{table, wrong_index, short_turned, short_spare, long_line}
use Rattle.emp_line.proofs.laws.example_table.Goals as goal

pub returns : goal.returns
returns c = record {
  table = table;
  wrong_index = wrong_index;
  short_turned = short_turned;
  short_spare = short_spare;
  long_line = long_line;
}
