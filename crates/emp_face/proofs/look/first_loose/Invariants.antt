use Rattle.std.proofs.Common.{◌≡◌, ◌<◌, length, IfSome}
use Rattle.emp_dict.specs.Dicts.{dictionary_of}
use Rattle.emp_step.specs.Steps.{first_loose}
use Rattle.emp_face.proofs.look.first_loose.Given as goal

abbrev pub invariant-loop-column : goal.invariant-loop-column
invariant-loop-column l = record {
  found : l.best ≡ first_loose (dictionary_of l.dict) l.row l.column;
  kept : IfSome l.best (λ j. j < length (dictionary_of l.dict).columns);
}
