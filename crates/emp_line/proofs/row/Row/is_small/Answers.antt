use Rattle.std.proofs.Common.{subst, arith, rules, to_z-of_z}
use mir.Syntax.{w128}
use mir.Val.{SFits}
use Rattle.std.specs.List.{All}
use Rattle.std.proofs.lemmas.Int.{ints}
use Rattle.emp_line.specs.Sparse.{numbers}
use Rattle.emp_line.specs.Place.{IsSmall}
use Rattle.emp_line.proofs.Rows.{small_row}
use Rattle.emp_line.proofs.row.Row.is_small.Goals as goal

pub returns : goal.returns
returns c h =
    let fits_d : SFits w128 c.self.inside.denom = search rules in
    let fits_k : SFits w128 c.self.inside.constant = search rules in
    let d_low = simp to_z-of_z at c.if-self.false in
    let d_high = simp to_z-of_z at c.if-self-ge-SMALL.false in
    let k_low = simp to_z-of_z at c.if-self-2.false in
    let k_high = simp to_z-of_z at c.if-self-ge-SMALL-2.false in
    let d : IsSmall c.self.inside.denom = omega (arith, ints, d_low, d_high) in
    let k : IsSmall c.self.inside.constant = omega (arith, ints, k_low, k_high) in
    small_row c.self.inside.denom c.self.inside.constant c.self.inside.cells.width c.self.inside.cells.items c.args.self.now c.self.view_is d k (subst (λ ls. All IsSmall (numbers ls)) c.as_slice.ensures (c.are_small.ensures h))
