use Rattle.std.proofs.Common.{◌≡◌, IfSome}
use Rattle.emp_turns.specs.Chooses.{nearest_row}
use Rattle.emp_dict.specs.Dicts.{dictionary_of}
use Rattle.emp_dict.specs.Chosen.{aimed_row, turn_aim, layout_of, mark_by_index, way_by}
use Rattle.emp_dict.specs.Places.{HasCell}
use Rattle.emp_dict.proofs.dict.Dict.leaving.Given as goal

abbrev pub invariant-loop-row : goal.invariant-loop-row
invariant-loop-row l = record {
  found : l.best ≡ nearest_row (mark_by_index (dictionary_of l.self)) (turn_aim (dictionary_of l.self) l.aim) (layout_of (dictionary_of l.self)) (aimed_row (dictionary_of l.self) l.aim) l.entry.column (way_by l.entry.up) l.row;
  kept : IfSome l.best (HasCell (dictionary_of l.self) l.entry.column);
}
