use Rattle.std.proofs.Common.{◌≡◌, ◌<ℤ◌, pos, ◌*ℤ◌, unsigned_abs, arith, rules}
use mir.Syntax.{w128}
use mir.Val.{SFits}
use Rattle.std.specs.Int.{IsGcd}
use Rattle.std.proofs.lemmas.Int.{ints, to_z-of_z}
use Rattle.emp_num.specs.Exact.{IsNarrow, IsCoprime}
use Rattle.emp_num.proofs.Gcds.{coprime_from_gcd, positive_from_product, cross}
use Rattle.emp_num.proofs.frac.Frac.reduced.Goals as goal
use Rattle.emp_num.proofs.frac.Frac.reduced.Goals.{After-gcd-divisor, After-exact_quotient-2}

-- what the call of `gcd` gave, with each number read back from its bits
record Divisor (c : After-gcd-divisor) : Type 0 where
  greatest : IsGcd (unsigned_abs c.args.num) (unsigned_abs c.args.den) (unsigned_abs c.gcd-divisor.result)
  positive : pos 0 <ℤ c.gcd-divisor.result
  fits : SFits w128 c.gcd-divisor.result

divisor : (c : After-gcd-divisor) → Divisor c
divisor c =
    let fits_num : SFits w128 c.args.num = c.ranges.num in
    let fits_den : SFits w128 c.args.den = c.ranges.den in
    let fits_divisor : SFits w128 c.gcd-divisor.result = search rules in
    record {
      greatest = simp to_z-of_z at c.gcd-divisor.ensures.divisor;
      positive = c.gcd-divisor.ensures.positive (omega (arith, ints));
      fits = fits_divisor;
    }

record Parts (c : After-exact_quotient-2) : Type 0 where
  num : c.exact_quotient.result *ℤ c.gcd-divisor.result ≡ c.args.num
  den : c.exact_quotient-2.result *ℤ c.gcd-divisor.result ≡ c.args.den
  fits_num : SFits w128 c.exact_quotient.result
  fits_den : SFits w128 c.exact_quotient-2.result

parts : (c : After-exact_quotient-2) → Parts c
parts c =
    let fits_n : SFits w128 c.args.num = c.ranges.num in
    let fits_d : SFits w128 c.args.den = c.ranges.den in
    let fits_divisor : SFits w128 c.gcd-divisor.result = search rules in
    record {
      num = simp to_z-of_z at c.exact_quotient.ensures.value;
      den = simp to_z-of_z at c.exact_quotient-2.ensures.value;
      fits_num = search rules;
      fits_den = search rules;
    }

pub exact_quotient-requires-clause-divides : goal.exact_quotient-requires-clause-divides
exact_quotient-requires-clause-divides c =
    let fits_num : SFits w128 c.args.num = c.ranges.num in
    let fits = (divisor c).fits in
    simp to_z-of_z ((divisor c).greatest.0)

pub exact_quotient-requires-2-clause-divides : goal.exact_quotient-requires-2-clause-divides
exact_quotient-requires-2-clause-divides c =
    let d = divisor (goal.at.exact_quotient-requires-2-clause-divides c).After-gcd-divisor in
    let fits_den : SFits w128 c.args.den = c.ranges.den in
    let fits = d.fits in
    simp to_z-of_z d.greatest.1

pub invariant_of-result : goal.invariant_of-result
invariant_of-result c =
    let d = divisor (goal.at.invariant_of-result c).After-gcd-divisor in
    let p = parts (goal.at.invariant_of-result c).After-exact_quotient-2 in
    let fits_num = p.fits_num in
    let fits_den = p.fits_den in
    let positive : pos 0 <ℤ c.exact_quotient-2.result = positive_from_product _ _ _ p.den d.positive c.requires.positive in
    let num_narrow : IsNarrow c.exact_quotient.result = omega (arith, ints) in
    let den_narrow : IsNarrow c.exact_quotient-2.result = omega (arith, ints) in
    let lowest : IsCoprime c.exact_quotient.result c.exact_quotient-2.result = coprime_from_gcd _ _ _ _ _ d.greatest d.positive p.num p.den in
    simp to_z-of_z (record { positive = positive; num_narrow = num_narrow; den_narrow = den_narrow; lowest = lowest })

pub returns : goal.returns
returns c =
    let p = parts (goal.at.returns c).After-exact_quotient-2 in
    let fits_num = p.fits_num in
    let fits_den = p.fits_den in
    simp to_z-of_z (cross _ _ _ _ _ p.num p.den)
