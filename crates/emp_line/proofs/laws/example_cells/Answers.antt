use Rattle.std.proofs.Common.{arith, refl}
use Rattle.emp_line.proofs.laws.example_cells.Goals as goal

pub returns : goal.returns
returns c = record {
  spreads = refl;
  sparse = (omega arith, omega arith, λ e. cc, (omega arith, omega arith, λ e. cc, tt));
  too_far = λ s. omega (arith, s.3.1);
  too_early = λ s. omega (arith, s.0);
  twice = λ s. omega (arith, s.3.0);
  falling = λ s. omega (arith, s.3.0);
  zero = λ s. s.3.2 refl;
  turned = refl;
  turned_below = refl;
  divides = refl;
}
