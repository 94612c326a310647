use Rattle.std.proofs.Common.{◌+◌, ◌-◌, ◌*◌, ◌^◌, ◌≤◌, arith, rules}
use Rattle.emp_numeral.proofs.Numerals.{scaled_over}
use Rattle.emp_numeral.proofs.numeral.scaled.Goals as goal

pub returns-in_err-v : goal.returns-in_err-v
returns-in_err-v c =
    let large : 2 ^ 126 ≤ c.loop-left.v * 10 + (48 - 48) = omega arith in
    let over : 2 ^ 126 ≤ c.args.m * 10 ^ c.args.n = scaled_over c.loop-left.v c.loop-left.left (2 ^ 126) (c.args.m * 10 ^ c.args.n) (omega arith) large c.loop-left.invariant.value in
    search rules
