use Rattle.std.proofs.Common.{Ok, Err, subst}
use Rattle.std.proofs.lemmas.Result.{err_from_is_err_and}
use Rattle.emp_problem.specs.declared.problem.BlockPart.{BlockPart}
use Rattle.emp_kkt.specs.Items.{no_part}
use Rattle.emp_kkt.specs.Cells.{SlopeGives}
use Rattle.emp_kkt.proofs.Turning.{same_part}
use Rattle.emp_kkt.proofs.cells.signed_slope_cell.Goals as goal

pub returns-in_err-cell : goal.returns-in_err-cell
returns-in_err-cell c =
    let p = err_from_is_err_and c.from_residual.result c.from_residual.ensures.1 in
    rw (p.1, p.2)
    (subst (λ (b : BlockPart). SlopeGives c.args.problem.now c.args.block b c.args.own c.args.at (Err c.in_err-cell.field-0.0)) (same_part c.args.problem.now.blocks c.args.block c.get-part.result.now no_part c.requires.fits.block c.get-part.ensures) c.in_err-cell.ensures)

pub returns : goal.returns
returns c = (
  c.in_ok-cell.cell,
  subst (λ (b : BlockPart). SlopeGives c.args.problem.now c.args.block b c.args.own c.args.at (Ok c.in_ok-cell.cell)) (same_part c.args.problem.now.blocks c.args.block c.get-part.result.now no_part c.requires.fits.block c.get-part.ensures) c.in_ok-cell.ensures,
  c.signed.ensures,
)
