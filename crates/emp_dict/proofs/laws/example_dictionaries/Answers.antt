use Rattle.std.proofs.Common.{refl}
use Rattle.emp_dict.proofs.laws.example_dictionaries.Goals as goal

pub returns : goal.returns
returns c = record {
  starts = refl;
  exchanges = refl;
  divides = refl;
  narrow = refl;
  wide = refl;
  wide_next = refl;
  chooses = refl;
  stopped = refl;
  nothing = refl;
  falls = refl;
  goes_on = refl;
}
