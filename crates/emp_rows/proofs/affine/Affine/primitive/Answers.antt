use Rattle.std.proofs.Common.{◌≡◌, ◌↔◌, ℤ, pos, ◌+ℤ◌, ◌*ℤ◌, List, length, sym, subst}
use mir.Syntax.{w128}
use mir.Val.{SFits}
use Rattle.std.proofs.lemmas.Int.{to_z-of_z}
use Rattle.emp_algebra.specs.Vector.{dot}
use Rattle.emp_rows.specs.declared.affine.Affine.{Affine}
use Rattle.emp_rows.specs.Affine.{IsRow, value_times, primitive_of}
use Rattle.emp_rows.proofs.Divided.{if_ok_weaker, primitive_row, primitive_zeros}
use Rattle.emp_rows.proofs.affine.Affine.primitive.Goals as goal

pub returns-clause-row : goal.returns-clause-row
returns-clause-row c =
    let fits : SFits w128 c.args.constant = c.ranges.constant in
    if_ok_weaker c.divided.result (λ r. r ≡ primitive_of c.args.cells.now c.args.constant) (IsRow (length c.args.cells.now)) (λ r e. subst (IsRow (length c.args.cells.now)) (sym e) (primitive_row c.args.cells.now c.args.constant c.requires.cells c.requires.constant)) (simp to_z-of_z at c.divided.ensures)

pub returns-clause-zeros : goal.returns-clause-zeros
returns-clause-zeros c =
    let fits : SFits w128 c.args.constant = c.ranges.constant in
    if_ok_weaker c.divided.result (λ r. r ≡ primitive_of c.args.cells.now c.args.constant) (λ r. (d : ℤ) (xs : List ℤ) → (value_times r d xs ≡ pos 0) ↔ (c.args.constant *ℤ d +ℤ dot c.args.cells.now xs ≡ pos 0)) (λ r e d xs. subst (λ (a : Affine). (value_times a d xs ≡ pos 0) ↔ (c.args.constant *ℤ d +ℤ dot c.args.cells.now xs ≡ pos 0)) (sym e) (primitive_zeros c.args.cells.now c.args.constant d xs)) (simp to_z-of_z at c.divided.ensures)
