use Rattle.std.proofs.Common.{◌++◌, ◌∙◌, ap}
use Rattle.info_print.specs.Canonical.{info_text}
use Rattle.info_print.proofs.ReadAgain.{reads_back}
use Rattle.info_print.proofs.print.print_info.Goals as goal

pub returns-clause-reads_back : goal.returns-clause-reads_back
returns-clause-reads_back c =
    reads_back c.args.model.now c.args.annot.now c.write_info.new.out.items
    (c.in_ok-write_info.ensures ∙ ap (λ x. x ++ info_text c.args.model.now c.args.annot.now) c.new-out.ensures.items)
