use Rattle.std.proofs.Common.{Bool, sym, subst}
use Rattle.std.proofs.lemmas.Bool.{ne_eqb}
use Rattle.emp_problem.specs.declared.problem.BlockPart.{BlockPart}
use Rattle.emp_kkt.specs.Items.{no_part, part_at}
use Rattle.emp_kkt.specs.Cells.{SlopeGives, RaisedBy}
use Rattle.emp_kkt.proofs.Turning.{same_part}
use Rattle.emp_kkt.proofs.cells.raised_cell.Goals as goal

pub returns : goal.returns
returns c =
    subst (λ (t : Bool). RaisedBy t (SlopeGives c.args.problem.now c.args.block (part_at c.args.problem.now c.args.block) c.args.own c.args.at) c.slope_cell.result) (sym (ne_eqb c.args.at c.args.base c.if-at-base.false))
    (subst (λ (b : BlockPart). SlopeGives c.args.problem.now c.args.block b c.args.own c.args.at c.slope_cell.result) (same_part c.args.problem.now.blocks c.args.block c.get-part.result.now no_part c.requires.fits.block c.get-part.ensures) c.slope_cell.ensures)
