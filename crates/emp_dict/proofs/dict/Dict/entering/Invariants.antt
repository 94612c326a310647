use Rattle.std.proofs.Common.{◌≡◌, IfSome}
use Rattle.std.specs.Option.{option_map}
use Rattle.emp_turns.specs.Chooses.{first_column}
use Rattle.emp_dict.specs.Dicts.{dictionary_of}
use Rattle.emp_dict.specs.Chosen.{aimed_row, turn_aim, layout_of, mark_by_index}
use Rattle.emp_dict.specs.Places.{IsColumn, entry_of}
use Rattle.emp_dict.proofs.dict.Dict.entering.Given as goal

abbrev pub invariant-loop-column : goal.invariant-loop-column
invariant-loop-column l = record {
  found : option_map entry_of l.best ≡ first_column (mark_by_index (dictionary_of l.self)) (turn_aim (dictionary_of l.self) l.aim) (layout_of (dictionary_of l.self)) (aimed_row (dictionary_of l.self) l.aim) l.column;
  kept : IfSome l.best (IsColumn (dictionary_of l.self));
}
