use Rattle.std.proofs.Common.{◌≡◌, ◌<◌, ◌^◌, unsigned_abs, subst, subst₂, sym}
use mir.Syntax.{w128}
use mir.Val.{SFits}
use Rattle.std.specs.Int.{IsGcd}
use Rattle.std.proofs.lemmas.Int.{to_z-of_z}
use Rattle.emp_num.specs.Gcd.{gcd_of}
use Rattle.emp_num.proofs.Divisors.{gcd_of_is}
use Rattle.emp_rows.proofs.Quotients.{gcd_positive, gcd_narrow}
use Rattle.emp_rows.proofs.reduce.common_of.Goals as goal
use Rattle.emp_rows.proofs.reduce.common_of.Goals.{After-common_divisor}

same : (c : After-common_divisor) → c.common_divisor.result ≡ gcd_of (unsigned_abs c.args.a) (unsigned_abs c.args.b)
same c =
    let fits_a : SFits w128 c.args.a = c.ranges.a in
    let fits_b : SFits w128 c.args.b = c.ranges.b in
    let d : IsGcd (unsigned_abs c.args.a) (unsigned_abs c.args.b) c.common_divisor.result = simp to_z-of_z at (subst₂ (λ x y. IsGcd x y c.common_divisor.result) c.unsigned_abs.ensures.value c.unsigned_abs-2.ensures.value c.common_divisor.ensures) in
    gcd_of_is (unsigned_abs c.args.a) (unsigned_abs c.args.b) c.common_divisor.result d

pub returns-clause-value : goal.returns-clause-value
returns-clause-value c = same (goal.at.returns-clause-value c).After-common_divisor

pub returns-clause-positive : goal.returns-clause-positive
returns-clause-positive c p = subst (λ n. 0 < n) (sym (same (goal.at.returns-clause-positive c).After-common_divisor)) (gcd_positive c.args.a (unsigned_abs c.args.b) p)

pub returns-clause-narrow : goal.returns-clause-narrow
returns-clause-narrow c p n = subst (λ m. m < 2 ^ 126) (sym (same (goal.at.returns-clause-narrow c).After-common_divisor)) (gcd_narrow c.args.a (unsigned_abs c.args.b) p n)
