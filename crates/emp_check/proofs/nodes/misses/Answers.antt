use Rattle.std.proofs.Common.{◌≤ℤ◌, ◌<ℤ◌, pos, sym, arith}
use mir.Syntax.{w128}
use Rattle.std.specs.Int.RustNames.{int_div, int_rem}
use Rattle.std.proofs.lemmas.Int.{to_z-of_z, quot_is, rem_is, quot_fits}
use Rattle.emp_algebra.proofs.Order.{linear}
use Rattle.emp_check.proofs.Steps.{quot_even_over, quot_even_under}
use Rattle.emp_check.proofs.nodes.misses.Goals as goal

pub returns-then-top-bottom-gt0 : goal.returns-then-top-bottom-gt0
returns-then-top-bottom-gt0 c =
    let q = quot_is w128 c.args.top c.args.bottom c.ranges.top c.ranges.bottom (quot_fits w128 c.args.top c.args.bottom c.ranges.top c.requires) in
    let r = rem_is w128 c.args.top c.args.bottom c.ranges.top c.ranges.bottom in
    let z = to_z-of_z w128 c.args.constant c.ranges.constant in
    let a : int_div c.args.top c.args.bottom ≤ℤ c.args.constant = omega (arith, linear, q, z, c.if-whole-constant.false) in
    let b : c.args.constant ≤ℤ int_div c.args.top c.args.bottom = omega (arith, linear, q, z, c.if-constant-whole.false) in
    let d : pos 0 <ℤ int_rem c.args.top c.args.bottom = omega (arith, linear, r, c.if-top-bottom-gt0.true) in
    sym (quot_even_over c.args.constant c.args.top c.args.bottom a b d)

pub returns-else-top-bottom-gt0 : goal.returns-else-top-bottom-gt0
returns-else-top-bottom-gt0 c =
    let q = quot_is w128 c.args.top c.args.bottom c.ranges.top c.ranges.bottom (quot_fits w128 c.args.top c.args.bottom c.ranges.top c.requires) in
    let r = rem_is w128 c.args.top c.args.bottom c.ranges.top c.ranges.bottom in
    let z = to_z-of_z w128 c.args.constant c.ranges.constant in
    let a : int_div c.args.top c.args.bottom ≤ℤ c.args.constant = omega (arith, linear, q, z, c.if-whole-constant.false) in
    let b : c.args.constant ≤ℤ int_div c.args.top c.args.bottom = omega (arith, linear, q, z, c.if-constant-whole.false) in
    let d : int_rem c.args.top c.args.bottom ≤ℤ pos 0 = omega (arith, linear, r, c.if-top-bottom-gt0.false) in
    sym (quot_even_under c.args.constant c.args.top c.args.bottom a b d)
