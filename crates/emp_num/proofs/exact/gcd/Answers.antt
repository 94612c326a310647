use Rattle.std.proofs.Common.{◌<◌, ◌^◌, ◌≡◌, pos, arith, to_z, refl, subst₂, unsigned_abs}
use mir.Syntax.{w128}
use mir.Val.{SFits}
use Rattle.std.specs.Int.{IsGcd}
use Rattle.std.proofs.lemmas.Int.{ints, to_z-of_z}
use Rattle.emp_num.proofs.Gcds.{gcd_below, divisor_pos}
use Rattle.emp_num.proofs.exact.gcd.Goals as goal
use Rattle.emp_num.proofs.exact.gcd.Goals.{After-common_divisor}

divides : (c : After-common_divisor) → IsGcd (unsigned_abs c.args.a) (unsigned_abs c.args.b) c.common_divisor.result
divides c =
    let fits_a : SFits w128 c.args.a = c.ranges.a in
    let fits_b : SFits w128 c.args.b = c.ranges.b in
    simp to_z-of_z at (subst₂ (λ x y. IsGcd x y c.common_divisor.result) c.unsigned_abs.ensures.value c.unsigned_abs-2.ensures.value c.common_divisor.ensures)

small : (c : After-common_divisor) → c.common_divisor.result < 2 ^ 126
small c = gcd_below _ _ (2 ^ 126) _ (divides c) c.requires.narrow_a c.requires.narrow_b

pub overflow_cast-result : goal.overflow_cast-result
overflow_cast-result c = let h = small (goal.at.overflow_cast-result c).After-common_divisor in omega (arith, ints)

pub returns-clause-nonnegative : goal.returns-clause-nonnegative
returns-clause-nonnegative c =
    let h = small (goal.at.returns-clause-nonnegative c).After-common_divisor in
    let e : to_z w128 c.common_divisor.result ≡ pos c.common_divisor.result = omega (arith, ints) in
    rw e refl

pub returns-clause-divisor : goal.returns-clause-divisor
returns-clause-divisor c =
    let h = small (goal.at.returns-clause-divisor c).After-common_divisor in
    let e : to_z w128 c.common_divisor.result ≡ pos c.common_divisor.result = omega (arith, ints) in
    rw e (divides (goal.at.returns-clause-divisor c).After-common_divisor)

pub returns-clause-positive : goal.returns-clause-positive
returns-clause-positive c positive =
    let h = small (goal.at.returns-clause-positive c).After-common_divisor in
    let e : to_z w128 c.common_divisor.result ≡ pos c.common_divisor.result = omega (arith, ints) in
    rw e (divisor_pos c.args.b _ (divides (goal.at.returns-clause-positive c).After-common_divisor).1 positive)

pub returns-clause-narrow : goal.returns-clause-narrow
returns-clause-narrow c =
    let h = small (goal.at.returns-clause-narrow c).After-common_divisor in
    let e : to_z w128 c.common_divisor.result ≡ pos c.common_divisor.result = omega (arith, ints) in
    rw e h
