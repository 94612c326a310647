use Rattle.emp_unique.proofs.Polynomials as Polynomials
use Rattle.emp_unique.proofs.laws.one_polynomial.Goals as goal

pub returns : goal.returns
returns c = Polynomials.one_polynomial
