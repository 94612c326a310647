use Rattle.std.proofs.Common.{refl}
use Rattle.emp_line.proofs.laws.example_pairs.Goals as goal

pub returns : goal.returns
returns c = record {
  beside = refl;
  first_left = refl;
  adds = refl;
  narrow = refl;
  wide_own = refl;
  wide_other = refl;
  wide_sum = refl;
}
