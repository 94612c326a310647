use Rattle.std.proofs.Common.{◌≡◌, drop}
use Rattle.emp_dict.specs.Dictionary.{place_from}
use Rattle.emp_dict.proofs.dict.Dict.row_of.Given as goal

abbrev pub invariant-loop-at : goal.invariant-loop-at
invariant-loop-at l = place_from l.at l.label (drop l.at l.self.rows) ≡ place_from 0 l.label l.self.rows
