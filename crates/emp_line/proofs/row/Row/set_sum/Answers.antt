use Rattle.std.proofs.Common.{◌≡◌, ◌∙◌, ◌+ℤ◌, ◌*ℤ◌, pos, set, length, ap, subst, sym, arith, rules, to_z-of_z}
use mir.Syntax.{w128}
use mir.Val.{SFits}
use Rattle.emp_algebra.specs.Vector.{scale, add_rows}
use Rattle.emp_line.specs.Sparse.{Sparse, IsSparse, spread, pairs, pairs_wide, sums}
use Rattle.emp_line.specs.Place.{factors_of}
use Rattle.emp_line.proofs.Joins.{line_eq}
use Rattle.emp_line.proofs.Parts.{narrow_cells}
use Rattle.emp_line.proofs.Rows.{IsRow, row_is, row_as, row_pairs_room, row_sums_sparse, wide_line, sum_cells}
use Rattle.emp_line.proofs.row.Row.set_sum.Goals as goal
use Rattle.emp_line.proofs.row.Row.set_sum.Goals.{After-as_slice-2}

-- the three rows as they are seen
here : (c : After-as_slice-2) → IsRow c.args.self.now c.self.inside.cells.width c.self.inside.cells.items
here c = row_is c.args.self.now c.self.inside.denom c.self.inside.constant c.self.inside.cells.width c.self.inside.cells.items c.self.view_is

line : (c : After-as_slice-2) → IsRow c.args.line.now c.line.inside.cells.width c.line.inside.cells.items
line c = row_is c.args.line.now c.line.inside.denom c.line.inside.constant c.line.inside.cells.width c.line.inside.cells.items c.line.view_is

pivot : (c : After-as_slice-2) → IsRow c.args.pivot.now c.pivot.inside.cells.width c.pivot.inside.cells.items
pivot c = row_is c.args.pivot.now c.pivot.inside.denom c.pivot.inside.constant c.pivot.inside.cells.width c.pivot.inside.cells.items c.pivot.view_is

line_width : (c : After-as_slice-2) → c.line.inside.cells.width ≡ c.self.inside.cells.width
line_width c = row_as c.args.line.now c.args.self.now c.line.inside.cells.width c.self.inside.cells.width c.line.inside.cells.items c.self.inside.cells.items (line c) (here c) c.requires.widths.0

pivot_width : (c : After-as_slice-2) → c.pivot.inside.cells.width ≡ c.self.inside.cells.width
pivot_width c = row_as c.args.pivot.now c.args.self.now c.pivot.inside.cells.width c.self.inside.cells.width c.pivot.inside.cells.items c.self.inside.cells.items (pivot c) (here c) c.requires.widths.1

line_sparse : (c : After-as_slice-2) → IsSparse 0 c.self.inside.cells.width c.line.inside.cells.items
line_sparse c = subst (λ w. IsSparse 0 w c.line.inside.cells.items) (line_width c) c.line.invariant

pivot_sparse : (c : After-as_slice-2) → IsSparse 0 c.self.inside.cells.width c.pivot.inside.cells.items
pivot_sparse c = subst (λ w. IsSparse 0 w c.pivot.inside.cells.items) (pivot_width c) c.pivot.invariant

same_pairs : (c : After-as_slice-2) → pairs c.args.column c.as_slice.result.now c.as_slice-2.result.now ≡ pairs c.args.column c.line.inside.cells.items c.pivot.inside.cells.items
same_pairs c = ap (λ ls. pairs c.args.column ls c.as_slice-2.result.now) c.as_slice.ensures ∙ ap (pairs c.args.column c.line.inside.cells.items) c.as_slice-2.ensures

same_width : (c : After-as_slice-2) → length c.args.pivot.now.cells ≡ length c.args.line.now.cells
same_width c = c.requires.widths.1 ∙ sym c.requires.widths.0

pub fill_sums-requires-clause-room : goal.fill_sums-requires-clause-room
fill_sums-requires-clause-room c =
    let e = ap length (same_pairs c) in
    let r = row_pairs_room c.args.column c.self.inside.cells.width c.line.inside.cells.items c.pivot.inside.cells.items (line_sparse c) (pivot_sparse c) in
    omega arith

pub fill_sums-requires-clause-narrow : goal.fill_sums-requires-clause-narrow
fill_sums-requires-clause-narrow c =
    let f = factors_of c.args.multipliers in
    ap (pairs_wide f) (same_pairs c)
    ∙ (wide_line f c.args.column c.args.line.now c.args.pivot.now c.line.inside.cells.width c.pivot.inside.cells.width c.line.inside.cells.items c.pivot.inside.cells.items (line c) (pivot c) c.line.invariant c.pivot.invariant (same_width c) c.requires.column
    ∙ narrow_cells f c.args.line.now c.args.pivot.now c.args.column c.requires.narrow)

filled : (c : After-as_slice-2) (now : Sparse) → now ≡ record { width = c.self.inside.cells.width; items = sums (factors_of c.args.multipliers) (pairs c.args.column c.as_slice.result.now c.as_slice-2.result.now) } → now ≡ record { width = c.self.inside.cells.width; items = sums (factors_of c.args.multipliers) (pairs c.args.column c.line.inside.cells.items c.pivot.inside.cells.items) }
filled c now e = let f = factors_of c.args.multipliers in e ∙ ap (λ ps. record { width = c.self.inside.cells.width; items = sums f ps }) (same_pairs c)

pub invariant_of-self : goal.invariant_of-self
invariant_of-self c =
    let k = (goal.at.invariant_of-self c).After-as_slice-2 in
    let f = factors_of c.args.multipliers in
    subst (λ (x : Sparse). IsSparse 0 x.width x.items) (sym (filled k c.fill_sums.new.cells c.fill_sums.ensures)) (row_sums_sparse f c.args.column c.self.inside.cells.width c.line.inside.cells.items c.pivot.inside.cells.items (line_sparse k) (pivot_sparse k))

pub returns : goal.returns
returns c =
    let k = (goal.at.returns c).After-as_slice-2 in
    let f = factors_of c.args.multipliers in
    let l = c.args.line.now in
    let p = c.args.pivot.now in
    let fits_d : SFits w128 c.denom_step-self-inside.result = search rules in
    let fits_k : SFits w128 c.sum_of-self-inside.result = search rules in
    let constant : c.sum_of-self-inside.result ≡ c.args.multipliers.own *ℤ c.args.line.now.constant +ℤ c.args.multipliers.other *ℤ c.args.pivot.now.constant = c.sum_of-self-inside.ensures
    ∙ (ap (λ z. c.args.multipliers.own *ℤ z +ℤ c.args.multipliers.other *ℤ c.constants.result.other) c.constants.ensures.own ∙ ap (λ z. c.args.multipliers.own *ℤ c.args.line.now.constant +ℤ c.args.multipliers.other *ℤ z) c.constants.ensures.other) in
    let cells : spread 0 c.fill_sums.new.cells.width c.fill_sums.new.cells.items ≡ add_rows (scale c.args.multipliers.own (set c.args.line.now.cells c.args.column (pos 0))) (scale c.args.multipliers.other c.args.pivot.now.cells) = ap (λ (x : Sparse). spread 0 x.width x.items) (filled k c.fill_sums.new.cells c.fill_sums.ensures)
    ∙ (ap (λ w. spread 0 w (sums f (pairs c.args.column c.line.inside.cells.items c.pivot.inside.cells.items))) (sym (line_width k))
    ∙ sum_cells f c.args.column l p c.line.inside.cells.width c.pivot.inside.cells.width c.line.inside.cells.items c.pivot.inside.cells.items (line k) (pivot k) c.line.invariant c.pivot.invariant (same_width k) c.requires.column) in
    simp to_z-of_z (line_eq c.denom_step-self-inside.result (c.args.multipliers.own *ℤ c.args.line.now.denom) c.sum_of-self-inside.result (c.args.multipliers.own *ℤ c.args.line.now.constant +ℤ c.args.multipliers.other *ℤ c.args.pivot.now.constant) (spread 0 c.fill_sums.new.cells.width c.fill_sums.new.cells.items) (add_rows (scale c.args.multipliers.own (set c.args.line.now.cells c.args.column (pos 0))) (scale c.args.multipliers.other c.args.pivot.now.cells))
    c.denom_step-self-inside.ensures constant cells)
