use Rattle.std.proofs.Common.{Ok, ap, ◌∙◌}
use Rattle.gms_read.proofs.Performed.{ended_is}
use Rattle.gms_read.proofs.progress.Progress.end.Goals as goal

pub returns : goal.returns
returns c =
    ap Ok
    (ended_is c.args.self.now c.replace.result c.replace-2.result c.replace.new.dest c.replace-2.new.dest c.in_ok-left.left c.in_ok-right.right c.define_by.new.self
    c.replace.ensures.value
    c.replace-2.ensures.value
    c.in_ok-left.ensures
    c.in_ok-right.ensures
    c.define_by.ensures
    (c.replace.ensures.after ∙ c.new.ensures)
    (c.replace-2.ensures.after ∙ c.new-2.ensures))
