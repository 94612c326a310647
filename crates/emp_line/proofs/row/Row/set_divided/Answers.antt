use Rattle.std.proofs.Common.{◌≡◌, ◌∙◌, pos, map, length, int_div, ap, subst, sym, arith, rules, to_z-of_z}
use mir.Syntax.{w128}
use mir.Val.{SFits}
use Rattle.emp_line.specs.declared.line.Line.{Line}
use Rattle.emp_algebra.specs.Vector.{quotients}
use Rattle.emp_line.specs.Sparse.{Sparse, IsSparse, spread, divided}
use Rattle.emp_line.proofs.Joins.{line_eq}
use Rattle.emp_line.proofs.Rows.{IsRow, row_is, row_as, row_room, quotient_cells, quotient_sparse}
use Rattle.emp_line.proofs.row.Row.set_divided.Goals as goal
use Rattle.emp_line.proofs.row.Row.set_divided.Goals.{After-divider_for}

line : (c : After-divider_for) → IsRow c.args.line.now c.line.inside.cells.width c.line.inside.cells.items
line c = row_is c.args.line.now c.line.inside.denom c.line.inside.constant c.line.inside.cells.width c.line.inside.cells.items c.line.view_is

width : (c : After-divider_for) → c.line.inside.cells.width ≡ c.self.inside.cells.width
width c =
    let here = row_is c.args.self.now c.self.inside.denom c.self.inside.constant c.self.inside.cells.width c.self.inside.cells.items c.self.view_is in
    row_as c.args.line.now c.args.self.now c.line.inside.cells.width c.self.inside.cells.width c.line.inside.cells.items c.self.inside.cells.items (line c) here c.requires.width

pub fill_divided-requires-clause-room : goal.fill_divided-requires-clause-room
fill_divided-requires-clause-room c =
    let w = width c in
    let r = row_room c.line.inside.cells.width c.line.inside.cells.items c.line.invariant in
    let e = ap length c.as_slice.ensures in
    omega arith

filled : (c : After-divider_for) (now : Sparse) → now ≡ record { width = c.self.inside.cells.width; items = map (divided (pos c.divider_for.result.divisor)) c.as_slice.result.now } → now ≡ record { width = c.line.inside.cells.width; items = map (divided (pos c.args.divisor)) c.line.inside.cells.items }
filled c now e =
    e
    ∙ (ap (λ w. record { width = w; items = map (divided (pos c.divider_for.result.divisor)) c.as_slice.result.now }) (sym (width c))
    ∙ (ap (λ g. record { width = c.line.inside.cells.width; items = map (divided (pos g)) c.as_slice.result.now }) c.divider_for.ensures
    ∙ ap (λ ls. record { width = c.line.inside.cells.width; items = map (divided (pos c.args.divisor)) ls }) c.as_slice.ensures))

pub invariant_of-self : goal.invariant_of-self
invariant_of-self c =
    let k = (goal.at.invariant_of-self c).After-divider_for in
    subst (λ (x : Sparse). IsSparse 0 x.width x.items) (sym (filled k c.fill_divided.new.cells c.fill_divided.ensures)) (quotient_sparse c.args.divisor c.args.line.now c.line.inside.cells.width c.line.inside.cells.items (line k) c.line.invariant c.requires.value)

pub returns : goal.returns
returns c =
    let k = (goal.at.returns c).After-divider_for in
    let fits_a : SFits w128 c.line.inside.denom = search rules in
    let fits_b : SFits w128 c.line.inside.constant = search rules in
    let fits_d : SFits w128 c.quotient-self-inside.result = search rules in
    let fits_k : SFits w128 c.quotient-self-inside-2.result = search rules in
    let denom : c.quotient-self-inside.result ≡ int_div c.line.inside.denom (pos c.args.divisor) = simp to_z-of_z at c.quotient-self-inside.ensures in
    let constant : c.quotient-self-inside-2.result ≡ int_div c.line.inside.constant (pos c.args.divisor) = simp to_z-of_z at c.quotient-self-inside-2.ensures in
    let cells : spread 0 c.fill_divided.new.cells.width c.fill_divided.new.cells.items ≡ quotients c.args.line.now.cells (pos c.args.divisor) = ap (λ (x : Sparse). spread 0 x.width x.items) (filled k c.fill_divided.new.cells c.fill_divided.ensures) ∙ quotient_cells c.args.divisor c.args.line.now c.line.inside.cells.width c.line.inside.cells.items (line k) in
    simp to_z-of_z (line_eq c.quotient-self-inside.result (int_div c.args.line.now.denom (pos c.args.divisor)) c.quotient-self-inside-2.result (int_div c.args.line.now.constant (pos c.args.divisor)) (spread 0 c.fill_divided.new.cells.width c.fill_divided.new.cells.items) (quotients c.args.line.now.cells (pos c.args.divisor))
    (denom ∙ ap (λ (x : Line). int_div x.denom (pos c.args.divisor)) c.line.view_is)
    (constant ∙ ap (λ (x : Line). int_div x.constant (pos c.args.divisor)) c.line.view_is)
    cells)
