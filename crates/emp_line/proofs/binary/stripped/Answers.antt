use Rattle.std.proofs.Common.{◌<◌, ◌^◌, arith, rules, w64}
use Rattle.std.proofs.Math.Nat.{div-le_self}
use Rattle.std.proofs.lemmas.Nat.Bits.{bit_at-trailing_zeros}
use Rattle.emp_line.proofs.Halving.{strip_common}
use Rattle.emp_line.proofs.binary.stripped.Goals as goal

pub overflow_cast-result : goal.overflow_cast-result
overflow_cast-result c =
    let f : c.args.number < 2 ^ 64 = search rules in
    let b = bit_at-trailing_zeros w64 c.args.number c.requires f in
    omega (arith, b.0)

pub overflow_shr-result : goal.overflow_shr-result
overflow_shr-result c =
    let f : c.args.number < 2 ^ 64 = search rules in
    (bit_at-trailing_zeros w64 c.args.number c.requires f).0

pub returns-clause-odd : goal.returns-clause-odd
returns-clause-odd c =
    let f : c.args.number < 2 ^ 64 = search rules in
    (bit_at-trailing_zeros w64 c.args.number c.requires f).1

pub returns-clause-below : goal.returns-clause-below
returns-clause-below c = div-le_self _ _

pub returns-clause-common : goal.returns-clause-common
returns-clause-common c x g o d =
    let f : c.args.number < 2 ^ 64 = search rules in
    strip_common c.args.number _ x g (bit_at-trailing_zeros w64 c.args.number c.requires f).2 o d
