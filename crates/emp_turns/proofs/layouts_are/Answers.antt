use Rattle.emp_turns.proofs.Layouts.{is_table, holds_is, layout_after, is_exchange, is_chosen, one_choice}
use Rattle.emp_turns.proofs.Pivots.{is_pivot}
use Rattle.emp_turns.proofs.layouts_are.Goals as goal

pub returns : goal.returns
returns c = record {
  table = is_table;
  holds = holds_is;
  numbers = is_pivot;
  pivot = λ n y z r j h p. (layout_after n y z r j h p, is_exchange n y z r j h p);
  choice = is_chosen;
  one_choice = one_choice;
}
