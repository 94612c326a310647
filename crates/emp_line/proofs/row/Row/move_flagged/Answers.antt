use Rattle.std.proofs.Common.{length, subst, sym}
use Rattle.emp_line.specs.Indexed.{HasPlace}
use Rattle.emp_line.proofs.Tables.{place_kept}
use Rattle.emp_line.proofs.row.Row.move_flagged.Goals as goal

pub mark-requires-2 : goal.mark-requires-2
mark-requires-2 c = subst (λ w. HasPlace w c.args.at c.mark.new.index) (sym c.move_by.ensures.width) (place_kept (length c.args.self.now.cells) c.args.at c.args.index.now c.mark.new.index c.requires.index c.mark.ensures.rest)
