use Rattle.std.proofs.Common.{◌≡◌, map, take, length, string_bytes}
use Rattle.emp_desk.specs.Desk.{Told, KeepsAll, NoneFalls}
use Rattle.emp_command.specs.Refusals.{HoldTexts, TextsFit}
use Rattle.emp_command.proofs.files.load_all.Given as goal

abbrev pub invariant-loop-at : goal.invariant-loop-at
invariant-loop-at g l = record {
  texts : Told (HoldTexts 1 (map string_bytes (take l.at l.names)) l.texts) (g.D.Desk.tells l.fn.desk) (g.D.Desk.tells l.desk);
  count : length l.texts ≡ l.at;
  short : TextsFit 1 l.texts;
  keeps : Told KeepsAll (g.D.Desk.tells l.fn.desk) (g.D.Desk.tells l.desk);
  none_falls : NoneFalls (g.D.Desk.faults l.fn.desk) (g.D.Desk.faults l.desk);
}
