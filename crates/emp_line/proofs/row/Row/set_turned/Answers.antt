use Rattle.std.proofs.Common.{◌≡◌, ◌≢◌, ◌∙◌, pos, List, map, length, ap, subst, sym, arith, rules, to_z-of_z}
use Rattle.std.proofs.lemmas.Int.{ints}
use mir.Syntax.{w128}
use mir.Val.{SFits}
use Rattle.std.specs.List.{All}
use Rattle.emp_num.specs.Exact.{IsNarrow}
use Rattle.emp_line.specs.declared.cells.Cell.{Cell}
use Rattle.emp_line.specs.declared.line.Line.{Line}
use Rattle.emp_line.specs.Sparse.{Sparse, IsSparse, numbers, turned_cell}
use Rattle.emp_line.proofs.Rows.{same_width, row_room, narrow_row, turned_sparse, turned_row}
use Rattle.emp_line.proofs.row.Row.set_turned.Goals as goal
use Rattle.emp_line.proofs.row.Row.set_turned.Goals.{After-as_slice}

-- both rows have the same columns
widths : (c : After-as_slice) → c.self.inside.cells.width ≡ c.pivot.inside.cells.width
widths c = same_width c.args.self.now c.args.pivot.now c.self.inside.denom c.pivot.inside.denom c.self.inside.constant c.pivot.inside.constant c.self.inside.cells.width c.pivot.inside.cells.width c.self.inside.cells.items c.pivot.inside.cells.items c.self.view_is c.pivot.view_is c.requires.width

pub fill_turned-requires-clause-room : goal.fill_turned-requires-clause-room
fill_turned-requires-clause-room c =
    let w = widths c in
    let r = row_room c.pivot.inside.cells.width c.pivot.inside.cells.items c.pivot.invariant in
    let e = ap length c.as_slice.ensures in
    omega arith

pub fill_turned-requires-clause-narrow : goal.fill_turned-requires-clause-narrow
fill_turned-requires-clause-narrow c =
    let a : All IsNarrow c.args.pivot.now.cells = c.requires.sound.cells in
    subst (λ (ls : List Cell). All IsNarrow (numbers ls)) (sym c.as_slice.ensures) (narrow_row c.pivot.inside.cells.width c.pivot.inside.cells.items c.pivot.invariant (subst (λ (l : Line). All IsNarrow l.cells) (sym c.pivot.view_is) a))

filled : (c : After-as_slice) (now : Sparse) → now ≡ record { width = c.self.inside.cells.width; items = map (turned_cell c.turner-turner.result.head c.turner-turner.result.denom c.args.column) c.as_slice.result.now } → now ≡ record { width = c.pivot.inside.cells.width; items = map (turned_cell c.turner-turner.result.head c.turner-turner.result.denom c.args.column) c.pivot.inside.cells.items }
filled c now e =
    e
    ∙ (ap (λ w. record { width = w; items = map (turned_cell c.turner-turner.result.head c.turner-turner.result.denom c.args.column) c.as_slice.result.now }) (widths c)
    ∙ ap (λ ls. record { width = c.pivot.inside.cells.width; items = map (turned_cell c.turner-turner.result.head c.turner-turner.result.denom c.args.column) ls }) c.as_slice.ensures)

pub invariant_of-self : goal.invariant_of-self
invariant_of-self c =
    let f = filled (goal.at.invariant_of-self c).After-as_slice c.fill_turned.new.cells c.fill_turned.ensures in
    let h : c.turner-turner.result.head ≢ pos 0 = λ z. c.requires.nonzero (sym c.turner-turner.ensures.head ∙ z) in
    let p = c.requires.sound.positive in
    let d : c.turner-turner.result.denom ≢ pos 0 = λ z. (let q = sym c.turner-turner.ensures.denom ∙ z in omega (arith, ints)) in
    subst (λ (x : Sparse). IsSparse 0 x.width x.items) (sym f) (turned_sparse c.pivot.inside.cells.width c.args.column c.turner-turner.result.head c.turner-turner.result.denom c.pivot.inside.cells.items h d c.pivot.invariant)

pub returns : goal.returns
returns c =
    let fits_d : SFits w128 c.turned_denom-self-inside.result = search rules in
    let fits_k : SFits w128 c.turned_constant-self-inside.result = search rules in
    let f = filled (goal.at.returns c).After-as_slice c.fill_turned.new.cells c.fill_turned.ensures in
    simp to_z-of_z (turned_row c.args.pivot.now c.pivot.inside.denom c.pivot.inside.constant c.pivot.inside.cells.width c.args.column c.pivot.inside.cells.items c.turned_denom-self-inside.result c.turned_constant-self-inside.result c.turner-turner.result.head c.turner-turner.result.denom c.fill_turned.new.cells
    c.pivot.view_is c.requires.column c.requires.nonzero c.turner-turner.ensures.head c.turner-turner.ensures.denom c.turned_denom-self-inside.ensures c.turned_constant-self-inside.ensures f)
